-- A command goes on with a token that is not passed over as with the token itself.
use Rattle.std.proofs.Common.{◌≡◌, ℕ, ◌≤◌, Bool, false, ◌&&◌, not, List, ◌∷◌, ◌++◌, length, Result, Ok, Err, ap, sym, refl, ◌∙◌, arith}
use Rattle.sta_text.specs.Tokens.{Tok}
use Rattle.sdc_reader.specs.declared.commands.Line.{Line}
use Rattle.sdc_reader.specs.declared.events.Event.{Event}
use Rattle.sdc_reader.specs.declared.cursor.Stop.{Stop}
use Rattle.sdc_reader.specs.Words.{is_word, is_option}
use Rattle.sdc_reader.specs.Grammar.{State, events, follow, step, continued, argument_step}
use Rattle.sdc_reader.specs.Reads.{whole, stepped, Reads, Takes}

same_step : (l : Line) (passes : Bool) (t : Tok) → (passes && is_word t && not (is_option t.text)) ≡ false → step (continued l passes) t ≡ argument_step l t
same_step l passes t off = rw off refl

same_whole : (size : ℕ) (l : Line) (passes : Bool) (t : Tok) (ts : List Tok) (read : List Event)
    → (passes && is_word t && not (is_option t.text)) ≡ false → whole size (continued l passes) (t ∷ ts) read ≡ stepped size (argument_step l t) ts read
unfolding events
same_whole size l passes t ts read off = ap (λ s. read ++ follow s (λ next. events size next ts)) (same_step l passes t off)

pub takes_on : {X : Type 0} (result : Result X Stop) (to : X → State) (size : ℕ) (l : Line) (passes : Bool) (t : Tok) (ts tokens tokens' : List Tok) (read read' : List Event)
    → tokens ≡ t ∷ ts → (passes && is_word t && not (is_option t.text)) ≡ false
    → Takes result size (argument_step l t) to ts tokens' read read' → Reads result size (continued l passes) to tokens tokens' read read'
takes_on (Ok x) to size l passes t ts tokens tokens' read read' first off told =
    let less : length tokens' ≤ length ts = told.1 in
    rw first (told.0 ∙ sym (same_whole size l passes t ts read off), omega (arith, less))
takes_on (Err stop) to size l passes t ts tokens tokens' read read' first off told =
    λ refused. rw first (told refused ∙ sym (same_whole size l passes t ts read off))
