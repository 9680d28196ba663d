-- Where the items of a list stand that is kept in pieces of one size.
use Rattle.std.specs.Prelude.{◌≡◌, ℕ, zero, suc, ◌+◌, ◌*◌, ◌-◌, ◌/◌, ◌%◌, ◌<◌, ◌≤◌, List, [], ◌∷◌, ◌++◌, length, set, get_or, Result, Ok, Err, Bool, true, false, cond, refl}
use Rattle.std.specs.List.{flat_map, slice_get, AllZip}
use Rattle.std.specs.Result.{OnOk, OnErr}
use Rattle.std.proofs.Math.Nat.{mod-lt, div-add-mod}
use Rattle.std.proofs.Common.{arith, sym, ap, ◌∙◌, subst, append-nil, append_assoc, length-append}
use Rattle.std.proofs.lemmas.List.{set-append_left, set-append_right, length-set}
use Rattle.std.proofs.lemmas.Result.{on_ok_weaker, on_err_weaker}
use Rattle.cow_table.specs.Pieces.{IsCut}

get_left : {A : Type 0} (xs ys : List A) (i : ℕ) → i < length xs → slice_get (xs ++ ys) i ≡ slice_get xs i
get_left [] ys i low = absurd (omega arith)
get_left (x ∷ xs) ys zero low = refl
get_left (x ∷ xs) ys (suc i) low = get_left xs ys i (omega arith)

get_right : {A : Type 0} (xs ys : List A) (n i : ℕ) → n ≡ length xs + i → slice_get (xs ++ ys) n ≡ slice_get ys i
get_right [] ys n i e = let same : n ≡ i = omega arith in ap (λ m. slice_get ys m) same
get_right (x ∷ xs) ys zero i e = absurd (omega arith)
get_right (x ∷ xs) ys (suc n) i e = get_right xs ys n i (omega arith)

-- what holds after a call whether or not it was refused
both : {T E P : Type 0} (r : Result T E) → OnOk r P → OnErr r P → P
both (Ok x) p q = p
both (Err e) p q = q

module _ (size : ℕ) (some : 0 < size) {X A : Type 0} (f : X → List A) where
  cut-cons : (x : X) (xs : List X) → length (f x) ≡ size → IsCut size f xs → IsCut size f (x ∷ xs)
  cut-cons x [] full cut = (omega arith, omega arith)
  cut-cons x (y ∷ ys) full cut = (full, cut)

  -- the j-th item of the k-th piece is there
  held : (xs : List X) (k j : ℕ) → IsCut size f xs → j < size → size * k + j < length (flat_map f xs)
      → (k < length xs) × ((x : X) → x ≡ get_or xs k x → j < length (f x))
  held [] k j cut low within = absurd (omega arith)
  held (a ∷ []) zero j cut low within =
      let long : length (f a ++ []) ≡ length (f a) = ap length (append-nil (f a)) in
      (omega arith, λ x e. subst (λ (y : X). j < length (f y)) (sym e) (omega (arith, long)))
  held (a ∷ []) (suc k) j cut low within =
      let long : length (f a ++ []) ≡ length (f a) = ap length (append-nil (f a)) in
      absurd (omega (arith, long, cut.1))
  held (a ∷ b ∷ bs) zero j cut low within =
      (omega arith, λ x e. subst (λ (y : X). j < length (f y)) (sym e) (omega (arith, cut.0)))
  held (a ∷ b ∷ bs) (suc k) j cut low within =
      let rest = held (b ∷ bs) k j cut.1 low (omega (arith, cut.0, length-append (f a) (flat_map f (b ∷ bs)))) in
      (omega (arith, rest.0), rest.1)

  item : (xs : List X) (k j : ℕ) (x : X) → IsCut size f xs → k < length xs → j < length (f x) → x ≡ get_or xs k x
      → slice_get (flat_map f xs) (size * k + j) ≡ slice_get (f x) j
  item [] k j x cut low inside e = absurd (omega arith)
  item (a ∷ as1) zero j x cut low inside e =
      let here : size * 0 + j ≡ j = omega arith in
      let near : j < length (f a) = subst (λ (y : X). j < length (f y)) e inside in
      ap (λ n. slice_get (f a ++ flat_map f as1) n) here ∙ get_left (f a) (flat_map f as1) j near ∙ ap (λ (y : X). slice_get (f y) j) (sym e)
  item (a ∷ []) (suc k) j x cut low inside e = absurd (omega arith)
  item (a ∷ b ∷ bs) (suc k) j x cut low inside e =
      get_right (f a) (flat_map f (b ∷ bs)) (size * suc k + j) (size * k + j) (omega (arith, cut.0)) ∙ item (b ∷ bs) k j x cut.1 (omega arith) inside e

  -- one item is written
  put : (xs : List X) (k j : ℕ) (x y : X) (v : A) → IsCut size f xs → k < length xs → j < length (f x) → x ≡ get_or xs k x → f y ≡ set (f x) j v
      → flat_map f (set xs k y) ≡ set (flat_map f xs) (size * k + j) v
  put [] k j x y v cut low inside e new = absurd (omega arith)
  put (a ∷ as1) zero j x y v cut low inside e new =
      let here : j ≡ size * 0 + j = omega arith in
      let near : j < length (f a) = subst (λ (y : X). j < length (f y)) e inside in
      let from : f y ≡ set (f a) j v = new ∙ ap (λ (z : X). set (f z) j v) e in
      ap (λ l. l ++ flat_map f as1) from ∙ sym (set-append_left (f a) (flat_map f as1) j v near) ∙ ap (λ n. set (f a ++ flat_map f as1) n v) here
  put (a ∷ []) (suc k) j x y v cut low inside e new = absurd (omega arith)
  put (a ∷ b ∷ bs) (suc k) j x y v cut low inside e new =
      let at : size * k + j ≡ size * suc k + j - size = omega arith in
      ap (λ l. f a ++ l) (put (b ∷ bs) k j x y v cut.1 (omega arith) inside e new ∙ ap (λ n. set (flat_map f (b ∷ bs)) n v) at)
      ∙ sym (set-append_right (f a) (flat_map f (b ∷ bs)) size (size * suc k + j) v cut.0 (omega arith))

  -- a piece gives way to one that is as long
  put_cut : (xs : List X) (k : ℕ) (x y : X) → IsCut size f xs → x ≡ get_or xs k x → length (f y) ≡ length (f x) → IsCut size f (set xs k y)
  put_cut [] k x y cut e same = tt
  put_cut (a ∷ []) zero x y cut e same =
      let long : length (f y) ≡ length (f a) = same ∙ ap (λ (z : X). length (f z)) e in
      (omega (arith, long, cut.0), omega (arith, long, cut.1))
  put_cut (a ∷ []) (suc k) x y cut e same = cut
  put_cut (a ∷ b ∷ bs) zero x y cut e same =
      let long : length (f y) ≡ length (f a) = same ∙ ap (λ (z : X). length (f z)) e in
      (long ∙ cut.0, cut.1)
  put_cut (a ∷ b ∷ bs) (suc k) x y cut e same = cut-cons a (set (b ∷ bs) k y) cut.0 (put_cut (b ∷ bs) k x y cut.1 e same)

  -- a piece gives way to one with the same items
  kept : (xs : List X) (k : ℕ) (x y : X) → x ≡ get_or xs k x → f y ≡ f x → flat_map f (set xs k y) ≡ flat_map f xs
  kept [] k x y e same = refl
  kept (a ∷ as1) zero x y e same = ap (λ l. l ++ flat_map f as1) (same ∙ ap f e)
  kept (a ∷ as1) (suc k) x y e same = ap (λ l. f a ++ l) (kept as1 k x y e same)

  -- the last piece gets one item more
  grown : (xs : List X) (k : ℕ) (x y : X) (v : A) → IsCut size f xs → k < length xs → length (flat_map f xs) < size * k + size → x ≡ get_or xs k x → f y ≡ f x ++ v ∷ []
      → IsCut size f (set xs k y) × (flat_map f (set xs k y) ≡ flat_map f xs ++ v ∷ [])
  grown [] k x y v cut low room e new = absurd (omega arith)
  grown (a ∷ []) zero x y v cut low room e new =
      let from : f y ≡ f a ++ v ∷ [] = new ∙ ap (λ (z : X). f z ++ v ∷ []) e in
      let short : length (f a ++ []) ≡ length (f a) = ap length (append-nil (f a)) in
      let long : length (f y) ≡ length (f a) + 1 = ap length from ∙ length-append (f a) (v ∷ []) in
      ((omega (arith, long), omega (arith, long, short)), append-nil (f y) ∙ from ∙ ap (λ l. l ++ v ∷ []) (sym (append-nil (f a))))
  grown (a ∷ []) (suc k) x y v cut low room e new = absurd (omega arith)
  grown (a ∷ b ∷ bs) zero x y v cut low room e new = absurd (omega (arith, cut.0, length-append (f a) (flat_map f (b ∷ bs))))
  grown (a ∷ b ∷ bs) (suc k) x y v cut low room e new =
      let rest = grown (b ∷ bs) k x y v cut.1 (omega arith) (omega (arith, cut.0, length-append (f a) (flat_map f (b ∷ bs)))) e new in
      (cut-cons a (set (b ∷ bs) k y) cut.0 rest.0, ap (λ l. f a ++ l) rest.1 ∙ sym (append_assoc (f a) (flat_map f (b ∷ bs)) (v ∷ [])))

  -- where every piece is full, one item more begins a piece
  begun : (xs : List X) (y : X) (v : A) → IsCut size f xs → size * length xs ≤ length (flat_map f xs) → f y ≡ v ∷ []
      → IsCut size f (xs ++ y ∷ []) × (flat_map f (xs ++ y ∷ []) ≡ flat_map f xs ++ v ∷ [])
  begun [] y v cut full new =
      let long : length (f y) ≡ 1 = ap length new in
      ((omega (arith, long), omega (arith, long)), append-nil (f y) ∙ new)
  begun (a ∷ []) y v cut full new =
      let short : length (f a ++ []) ≡ length (f a) = ap length (append-nil (f a)) in
      let long : length (f y) ≡ 1 = ap length new in (
        (omega (arith, short, cut.1), (omega (arith, long), omega (arith, long))),
        ap (λ l. f a ++ l) (append-nil (f y) ∙ new) ∙ ap (λ l. l ++ v ∷ []) (sym (append-nil (f a))),
      )
  begun (a ∷ b ∷ bs) y v cut full new =
      let rest = begun (b ∷ bs) y v cut.1 (omega (arith, cut.0, length-append (f a) (flat_map f (b ∷ bs)))) new in
      ((cut.0, rest.0), ap (λ l. f a ++ l) rest.1 ∙ sym (append_assoc (f a) (flat_map f (b ∷ bs)) (v ∷ [])))

  -- the same by the place in the whole list
  pub in_bounds : (xs : List X) (i : ℕ) → IsCut size f xs → i < length (flat_map f xs) → i / size < length xs
  in_bounds xs i cut within = (held xs (i / size) (i % size) cut (mod-lt i some) (omega (arith, div-add-mod i size))).0

  pub in_piece : (xs : List X) (i : ℕ) (x : X) → IsCut size f xs → i < length (flat_map f xs) → x ≡ get_or xs (i / size) x → i % size < length (f x)
  in_piece xs i x cut within e = (held xs (i / size) (i % size) cut (mod-lt i some) (omega (arith, div-add-mod i size))).1 x e

  pub item_at : (xs : List X) (i : ℕ) (x : X) → IsCut size f xs → i < length (flat_map f xs) → x ≡ get_or xs (i / size) x
      → slice_get (flat_map f xs) i ≡ slice_get (f x) (i % size)
  item_at xs i x cut within e =
      ap (λ n. slice_get (flat_map f xs) n) (sym (div-add-mod i size))
      ∙ item xs (i / size) (i % size) x cut (in_bounds xs i cut within) (in_piece xs i x cut within e) e

  put_at : (xs : List X) (i : ℕ) (x y : X) (v : A) → IsCut size f xs → i < length (flat_map f xs) → x ≡ get_or xs (i / size) x → f y ≡ set (f x) (i % size) v
      → IsCut size f (set xs (i / size) y) × (flat_map f (set xs (i / size) y) ≡ set (flat_map f xs) i v)
  put_at xs i x y v cut within e new = (
    put_cut xs (i / size) x y cut e (ap length new ∙ length-set (f x) (i % size) v),
    put xs (i / size) (i % size) x y v cut (in_bounds xs i cut within) (in_piece xs i x cut within e) e new
        ∙ ap (λ n. set (flat_map f xs) n v) (div-add-mod i size),
  )

  kept_at : (xs : List X) (k : ℕ) (x y : X) → IsCut size f xs → x ≡ get_or xs k x → f y ≡ f x
      → IsCut size f (set xs k y) × (flat_map f (set xs k y) ≡ flat_map f xs)
  kept_at xs k x y cut e same = (put_cut xs k x y cut e (ap length same), kept xs k x y e same)

  grown_at : (xs : List X) (n : ℕ) (x y : X) (v : A) → IsCut size f xs → n ≡ length (flat_map f xs) → n / size < length xs → x ≡ get_or xs (n / size) x → f y ≡ f x ++ v ∷ []
      → IsCut size f (set xs (n / size) y) × (flat_map f (set xs (n / size) y) ≡ flat_map f xs ++ v ∷ [])
  grown_at xs n x y v cut counted low e new =
      let part : n % size < size = mod-lt n some in
      grown xs (n / size) x y v cut low (omega (arith, counted, part, div-add-mod n size)) e new

  -- the last piece has what the others leave
  last : (xs : List X) (k j : ℕ) (x : X) → IsCut size f xs → j < size → size * k + j ≡ length (flat_map f xs) → k < length xs → x ≡ get_or xs k x → j ≡ length (f x)
  last [] k j x cut low counted within e = absurd (omega arith)
  last (a ∷ []) zero j x cut low counted within e =
      let short : length (f a ++ []) ≡ length (f a) = ap length (append-nil (f a)) in
      let same : length (f x) ≡ length (f a) = ap (λ (y : X). length (f y)) e in
      omega (arith, short, counted, same)
  last (a ∷ []) (suc k) j x cut low counted within e = absurd (omega arith)
  last (a ∷ b ∷ bs) zero j x cut low counted within e = absurd (omega (arith, cut.0, low, counted, length-append (f a) (flat_map f (b ∷ bs))))
  last (a ∷ b ∷ bs) (suc k) j x cut low counted within e =
      last (b ∷ bs) k j x cut.1 low (omega (arith, cut.0, counted, length-append (f a) (flat_map f (b ∷ bs)))) (omega (arith, within)) e

  pub last_at : (xs : List X) (n : ℕ) (x : X) → IsCut size f xs → n ≡ length (flat_map f xs) → n / size < length xs → x ≡ get_or xs (n / size) x → n % size ≡ length (f x)
  last_at xs n x cut counted low e = last xs (n / size) (n % size) x cut (mod-lt n some) (omega (arith, counted, div-add-mod n size)) low e

  -- the pieces after a push that may be refused
  pub begun_or_kept : (xs ys : List X) (y : X) (v : A) (b : Bool) → IsCut size f xs → size * length xs ≤ length (flat_map f xs) → f y ≡ v ∷ []
      → ys ≡ cond b (xs ++ y ∷ []) xs → IsCut size f ys
  begun_or_kept xs ys y v true cut full new e = subst (IsCut size f) (sym e) (begun xs y v cut full new).0
  begun_or_kept xs ys y v false cut full new e = subst (IsCut size f) (sym e) cut

  -- copies of the pieces keep the items
  pub copied : (xs ys : List X) → AllZip (λ x y. f y ≡ f x) xs ys → IsCut size f xs → IsCut size f ys × (flat_map f ys ≡ flat_map f xs)
  copied [] [] z cut = (tt, refl)
  copied [] (y ∷ ys) z cut = absurd z
  copied (x ∷ xs) [] z cut = absurd z
  copied (x ∷ []) (y ∷ []) z cut = ((omega (arith, ap length z.0, cut.0), omega (arith, ap length z.0, cut.1)), ap (λ l. l ++ []) z.0)
  copied (x ∷ []) (y ∷ z ∷ zs) same cut = absurd same.1
  copied (x ∷ a ∷ as1) (y ∷ []) z cut = absurd z.1
  copied (x ∷ a ∷ as1) (y ∷ b ∷ bs) z cut =
      let rest = copied (a ∷ as1) (b ∷ bs) z.1 cut.1 in
      let first : f y ≡ f x = z.0 in
      ((ap length first ∙ cut.0, rest.0), ap (λ l. l ++ flat_map f (b ∷ bs)) first ∙ ap (λ l. f x ++ l) rest.1)

  -- the pieces and their items after a write that may be refused
  pub record IsWritten {T E : Type 0} (r : Result T E) (xs ys : List X) (items : List A) : Type 0 where
    pub cut : IsCut size f ys
    pub ok : OnOk r (flat_map f ys ≡ items)
    pub err : OnErr r (flat_map f ys ≡ flat_map f xs)

  pub set_or_kept : {T E : Type 0} (r : Result T E) (xs : List X) (i : ℕ) (x y : X) (v : A) → IsCut size f xs → i < length (flat_map f xs) → x ≡ get_or xs (i / size) x
      → OnOk r (f y ≡ set (f x) (i % size) v) → OnErr r (f y ≡ f x) → IsWritten r xs (set xs (i / size) y) (set (flat_map f xs) i v)
  set_or_kept r xs i x y v cut within e ok err =
      let new = λ (h : f y ≡ set (f x) (i % size) v). put_at xs i x y v cut within e h in
      let same = λ (h : f y ≡ f x). kept_at xs (i / size) x y cut e h in
      record {
        cut = both r (on_ok_weaker r (λ h. (new h).0) ok) (on_err_weaker r (λ h. (same h).0) err);
        ok = on_ok_weaker r (λ h. (new h).1) ok;
        err = on_err_weaker r (λ h. (same h).1) err;
      }

  pub grown_or_kept : {T E : Type 0} (r : Result T E) (xs : List X) (n : ℕ) (x y : X) (v : A) → IsCut size f xs → n ≡ length (flat_map f xs) → n / size < length xs → x ≡ get_or xs (n / size) x
      → OnOk r (f y ≡ f x ++ v ∷ []) → OnErr r (f y ≡ f x) → IsWritten r xs (set xs (n / size) y) (flat_map f xs ++ v ∷ [])
  grown_or_kept r xs n x y v cut counted room e ok err =
      let new = λ (h : f y ≡ f x ++ v ∷ []). grown_at xs n x y v cut counted room e h in
      let same = λ (h : f y ≡ f x). kept_at xs (n / size) x y cut e h in
      record {
        cut = both r (on_ok_weaker r (λ h. (new h).0) ok) (on_err_weaker r (λ h. (same h).0) err);
        ok = on_ok_weaker r (λ h. (new h).1) ok;
        err = on_err_weaker r (λ h. (same h).1) err;
      }
