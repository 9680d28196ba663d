-- The slack of a pin, and the path that is shown, over launch nodes and nodes after them.

use Rattle.std.proofs.Common.{◌≡◌, ℕ, ℤ, ◌+ℤ◌, true, false, List, [], ◌∷◌, ◌++◌, Option, None, Some, refl, sym, ap, subst, ◌∙◌}
use Rattle.std.specs.Prelude.{Contains}
use Rattle.std.specs.Str.{bytes_eq}
use Rattle.std.specs.Ordering.{is_gt}
use Rattle.timing_defs.specs.declared.kinds.Split.{Split}
use Rattle.timing_defs.specs.declared.kinds.Tran.{Tran}
use Rattle.timing_defs.specs.declared.kinds.Kind.{Kind}
use Rattle.timing_defs.specs.declared.design.Design.{Design}
use Rattle.timing_rules.specs.Tests.{Test}
use Rattle.timing_defs.specs.Kinds.{data_split}
use Rattle.timing_rules.specs.Paths.{Named, last_of, ends_at, nodes_cmp, path_slacks, path_edge, IsSlack}
use Rattle.timing_rules.proofs.RowLaws.{first_in}
use Rattle.timing_defs.proofs.Members.{none_in}
use Rattle.path_search.specs.Runs.{IsTimed}
use Rattle.path_search.specs.Launches.{IsWhole, IsLaunched, IsTail, IsFound, IsCourse, IsLaunchSlack, begin_names, launch_slacks}
use Rattle.path_search.proofs.Slacks.{end_told}
use Rattle.path_search.proofs.Launching.{parts_of, path_of, tail_told, slacks_of_launch, found_of}

no_members : {X : Type 0} (xs : List X) → ((x : X) → Contains xs x → ⊥) → xs ≡ []
no_members [] none = refl
no_members (x ∷ xs) none = absurd (none x (first_in x xs))

-- the launch edge of a path
pub edge_told : (d : Design) (split : Split) (edge : ℕ × Tran) (path : List Named) (launch : Named) (length : ℤ) → IsWhole d split edge path launch length
    → path_edge d split path ≡ Some edge
edge_told d split edge path launch length w =
    ap (path_edge d split) w.nodes ∙ (let e = w.starts in rw e refl)

module _ (d : Design) (t : IsTimed d) (kind : Kind) where
  -- the end of a path
  module _ (edge : ℕ × Tran) (launch : Named) (time : ℤ) (l : IsLaunched d (data_split kind) edge launch time) (post : List Named) (rest : ℤ) (tail : IsTail d (data_split kind) launch post rest)
      (pin : List ℕ) where
    pub ends_told : ends_at pin (begin_names d launch ++ post) ≡ bytes_eq (last_of launch post).0 pin
    ends_told =
        let p = parts_of d t (data_split kind) edge launch time l post rest tail in
        let w = path_of d t (data_split kind) edge launch time l post rest tail in
        ap (ends_at pin) w.nodes
        ∙ ap (λ (n : Named). bytes_eq n.0 pin) (end_told d t kind edge (begin_names d launch ++ post) launch (time +ℤ rest) w p)
        ∙ ap (λ (xs : List Named). bytes_eq (last_of launch xs).0 pin) (tail_told d t (data_split kind) edge launch time rest post p)

  -- each slack of a path to the pin is that of a course
  pub course_of : (pin : List ℕ) (path : List Named) (slack : Test × ℤ) → ends_at pin path ≡ true → (f : IsFound d kind path slack)
      → IsCourse d kind pin f.edge f.launch f.time f.post f.rest
  course_of pin path slack e f = record {
    launched = f.launched;
    tail = f.tail;
    ends = sym (ends_told f.edge f.launch f.time f.launched f.post f.rest f.tail pin) ∙ ap (ends_at pin) (sym f.nodes) ∙ e;
  }

  pub slack_over : (pin : List ℕ) (o : Option ℤ) → IsLaunchSlack d kind pin o → IsSlack d kind pin o
  slack_over pin None none = λ path e.
      no_members (path_slacks d kind path) (λ slack c.
      let f = found_of d t kind path slack c in
      let empty = none f.edge f.launch f.time f.post f.rest (course_of pin path slack e f) in
      none_there (launch_slacks d kind f.launch f.edge (f.time +ℤ f.rest) (last_of f.launch f.post)) slack empty f.slack_in)
    where
      none_there : (xs : List (Test × ℤ)) (x : Test × ℤ) → xs ≡ [] → Contains xs x → ⊥
      none_there xs x e c = none_in x (subst (λ (ys : List (Test × ℤ)). Contains ys x) e c)
  slack_over pin (Some s) (r, least) = (
    (
      begin_names d r.launch ++ r.post,
      r.test,
      ends_told r.edge r.launch r.time r.course.launched r.post r.rest r.course.tail pin ∙ r.course.ends,
      subst (λ (xs : List (Test × ℤ)). Contains xs (r.test, s)) (sym (slacks_of_launch d t kind r.edge r.launch r.time r.course.launched r.post r.rest r.course.tail)) r.slack_in,
    ),
    λ path test u e c.
        (let f = found_of d t kind path (test, u) c in
        least f.edge f.launch f.time f.post f.rest (course_of pin path (test, u) e f) test u f.slack_in),
  )

  -- a list of nodes that no course of this slack comes before comes after no path of this slack
  pub shown_over : (pin : List ℕ) (s : ℤ) (shown : List Named)
      → ((edge : ℕ × Tran) (launch : Named) (time : ℤ) (post : List Named) (rest : ℤ) → IsCourse d kind pin edge launch time post rest
      → (test : Test) → Contains (launch_slacks d kind launch edge (time +ℤ rest) (last_of launch post)) (test, s) → is_gt (nodes_cmp shown (begin_names d launch ++ post)) ≡ false)
      → (path : List Named) (test : Test) → ends_at pin path ≡ true → Contains (path_slacks d kind path) (test, s) → is_gt (nodes_cmp shown path) ≡ false
  shown_over pin s shown first path test e c =
      let f = found_of d t kind path (test, s) c in
      ap (λ (xs : List Named). is_gt (nodes_cmp shown xs)) f.nodes
      ∙ first f.edge f.launch f.time f.post f.rest (course_of pin path (test, s) e f) test f.slack_in
