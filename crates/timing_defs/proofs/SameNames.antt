-- What the test of two names says.
use Rattle.std.specs.Prelude.{◌≡◌, ℕ, List, true, false}
use Rattle.std.specs.Str.{bytes_eq}
use Rattle.std.proofs.Math.Path.{refl, sym}
use Rattle.std.proofs.lemmas.Cmp.{nat_list_eq_equiv}
use Rattle.std.proofs.lemmas.Slice.Eq.{bytes_eq-Decides}
use Rattle.std.proofs.lemmas.Bool.Decides.{not_from_Decides}
use Rattle.std.specs.Cmp.Lexicographic.{same_text}
use Rattle.timing_defs.specs.Names.{same}

pub same_is : (a b : List ℕ) → same a b ≡ true → a ≡ b
same_is a b told = same_text a b (sym told)

pub same_self : (a : List ℕ) → same a a ≡ true
same_self a = nat_list_eq_equiv.refl a

pub same-sym : (a b : List ℕ) → same a b ≡ same b a
same-sym a b = nat_list_eq_equiv.symm a b

pub same_not : (a b : List ℕ) → same a b ≡ false → ¬ (a ≡ b)
same_not a b told = not_from_Decides (bytes_eq a b) (bytes_eq-Decides a b) told

pub same-bytes_eq : (a b : List ℕ) → same a b ≡ bytes_eq a b
same-bytes_eq a b = refl
