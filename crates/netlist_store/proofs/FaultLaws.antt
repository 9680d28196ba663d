-- The first fault of checks that are made in order.

use Rattle.std.proofs.Common.{◌≡◌, ◌⊎◌, List, [], ◌∷◌, ◌++◌, ◌∙◌, refl, sym, ap, subst, Option, None, Some, inl, inr, append_assoc}
use Rattle.std.specs.Prelude.{Result, Ok, Err}
use Rattle.std.specs.Result.{IsErr, IsErrAnd}
use Rattle.std.proofs.lemmas.Bool.{false≢true}
use Rattle.timing_defs.specs.declared.faults.Fault.{Fault}
use Rattle.timing_defs.specs.declared.faults.Fault.TheVariants.{Memory}
use Rattle.timing_defs.specs.Edits.{first_fault}
use Rattle.netlist_store.specs.Applying.{IsChecked}

pub first_after : (need : Option Fault) (rest : List (Option Fault)) → need ≡ None → first_fault (need ∷ rest) ≡ first_fault rest
first_after None rest e = refl
first_after (Some f) rest e = absurd (cc)

pub first_later : (needs rest : List (Option Fault)) → first_fault needs ≡ None → first_fault (needs ++ rest) ≡ first_fault rest
first_later [] rest e = refl
first_later (None ∷ needs) rest e = first_later needs rest e
first_later (Some f ∷ needs) rest e = absurd (cc)

first_among : (needs rest : List (Option Fault)) (f : Fault) → first_fault needs ≡ Some f → first_fault (needs ++ rest) ≡ Some f
first_among [] rest f e = absurd (cc)
first_among (None ∷ needs) rest f e = first_among needs rest f e
first_among (Some g ∷ needs) rest f e = e

-- a check that fails among others
pub err_among : (needs rest : List (Option Fault)) (f : Fault) → (f ≡ Memory) ⊎ (first_fault needs ≡ Some f)
    → (f ≡ Memory) ⊎ (first_fault (needs ++ rest) ≡ Some f)
err_among needs rest f (inl e) = inl e
err_among needs rest f (inr e) = inr (first_among needs rest f e)

pub err_here : (need : Option Fault) (rest : List (Option Fault)) (f : Fault) → (f ≡ Memory) ⊎ (need ≡ Some f)
    → (f ≡ Memory) ⊎ (first_fault (need ∷ rest) ≡ Some f)
err_here need rest f (inl e) = inl e
err_here None rest f (inr e) = absurd (cc)
err_here (Some g) rest f (inr e) = inr e

pub err_by : (a b : List (Option Fault)) (f : Fault) → first_fault a ≡ first_fault b → (f ≡ Memory) ⊎ (first_fault b ≡ Some f)
    → (f ≡ Memory) ⊎ (first_fault a ≡ Some f)
err_by a b f e (inl h) = inl h
err_by a b f e (inr h) = inr (e ∙ h)

-- the answer of a function that hands a fault on
pub handed_on : {X : Type 0} (r : Result X Fault) (f : Fault) (fault : Option Fault) → (IsErr r × IsErrAnd r (λ told. told ≡ f))
    → (f ≡ Memory) ⊎ (fault ≡ Some f) → IsChecked r fault
handed_on (Ok x) f fault h g = absurd (false≢true h.0)
handed_on (Err e) f fault h g = subst (λ z. (z ≡ Memory) ⊎ (fault ≡ Some z)) (sym h.1) g

-- the checks of a buffer, as its net and its cell are there
pub past_cell : (a s rest : List (Option Fault)) (n c : Option Fault) → first_fault a ≡ None → n ≡ None → c ≡ None
    → first_fault ((a ++ n ∷ c ∷ s) ++ rest) ≡ first_fault (s ++ rest)
past_cell a s rest n c none e f =
    ap first_fault (append_assoc a (n ∷ c ∷ s) rest) ∙ first_later a (n ∷ c ∷ (s ++ rest)) none
    ∙ first_after n (c ∷ (s ++ rest)) e ∙ first_after c (s ++ rest) f

pub past_insts : (a s rest : List (Option Fault)) (n c : Option Fault) → first_fault a ≡ None
    → first_fault ((a ++ n ∷ c ∷ s) ++ rest) ≡ first_fault (n ∷ c ∷ (s ++ rest))
past_insts a s rest n c none = ap first_fault (append_assoc a (n ∷ c ∷ s) rest) ∙ first_later a (n ∷ c ∷ (s ++ rest)) none
