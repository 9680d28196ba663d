use Rattle.std.proofs.Common.{◌≡◌, ◌+◌, [], ◌∷◌, ◌++◌, length, map, reverse, sym, ap, ◌∙◌, subst, arith, length-append, Some}
use Rattle.std.specs.Option.{option_to_list}
use Rattle.std.proofs.lemmas.List.Elements.{All-pop}
use Rattle.version_board.specs.declared.views.View.{View}
use Rattle.version_board.specs.History.{told}
use Rattle.version_board.specs.Seats.{joined}
use Rattle.version_board.specs.Callers.{Sitting}
use Rattle.version_board.specs.Gathered.{tells}
use Rattle.version_board.proofs.Gathering.{first_one, one_more}
use Rattle.version_board.proofs.boards.gather.Goals as goal

pub loop-seat-init : goal.loop-seat-init
loop-seat-init g c = let xs = c.args.seats.items in let ys = c.pop.new.self.items in let s = c.unwrap.result in let p = c.into_place-whole.result.me.0 in let rest = c.into_place-whole.ensures.2 in
    let items : xs ≡ ys ++ s ∷ [] = c.pop.ensures.items ∙ ap (λ r. ys ++ option_to_list r) c.unwrap.ensures in
    let boards = All-pop (λ (x : Sitting g.row.T-Entry.Denot g.row.T-Origin.Denot). x.board ≡ c.args.row.now.table_id) xs ys (Some s) items c.requires.seats.1 in record {
      table = c.into_place-whole.ensures.0 ∙ boards.1;
      live = rest.4;
      idle = rest.1;
      parts = let one : p.parts ≡ 1 = rest.5 in let longer : length xs ≡ length (ys ++ s ∷ []) = ap length items in omega (arith, one, longer, length-append ys (s ∷ []));
      seats = first_one xs ys s p items c.into_place-whole.ensures.1 rest.4 rest.6;
      boards = boards.0;
    }

pub loop-seat-preserved : goal.loop-seat-preserved
loop-seat-preserved g c = let all = c.args.seats.items in let xs = c.loop-seat.seats.items in let ys = c.pop-in-loop-seat.new.self.items in let s = c.in-Some.seat in let h = c.loop-seat.invariant in
    let w = c.loop-seat.whole.me.0 in let p = c.into_place.result.me.0 in let rest = c.into_place.ensures.2 in let items : xs ≡ ys ++ s ∷ [] = c.in-Some.ensures.items in
    let boards = All-pop (λ (x : Sitting g.row.T-Entry.Denot g.row.T-Origin.Denot). x.board ≡ c.args.row.now.table_id) xs ys (Some s) items h.boards in
    let same : c.join_seat.new.place.me.0 ≡ joined w p = ap (λ m. m.0) c.join_seat.ensures.1 in record {
      table = c.join_seat.ensures.0 ∙ h.table;
      live = ap (λ (v : View g.row.T-Entry.Denot g.row.T-Origin.Denot). v.spent) same ∙ h.live;
      idle = ap (λ (v : View g.row.T-Entry.Denot g.row.T-Origin.Denot). v.turn) same ∙ h.idle;
      parts = let one : p.parts ≡ 1 = rest.5 in let longer : length xs ≡ length (ys ++ s ∷ []) = ap length items in let before = h.parts in
          let now : c.join_seat.new.place.me.0.parts ≡ w.parts + p.parts = ap (λ (v : View g.row.T-Entry.Denot g.row.T-Origin.Denot). v.parts) same in omega (arith, one, longer, before, now, length-append ys (s ∷ []));
      seats = subst (λ v. map tells all ≡ map tells ys ++ reverse (told v)) (sym same) (one_more all xs ys s w p h.seats items c.into_place.ensures.1 h.live rest.4 rest.6);
      boards = boards.0;
    }
