-- Two lists whose items agree, place by place, taken apart and put together at their ends.
use Rattle.std.proofs.Common.{◌≡◌, List, [], ◌∷◌, ◌++◌, ap, arith, length, length-append}
use Rattle.std.specs.List.{AllZip}
use Rattle.std.proofs.lemmas.Slice.Zip.{AllZip-long}

module _ {A B : Type 0} (R : A → B → Type 0) where
  pub last_two : (xs : List A) (x : A) (ys : List B) (y : B) → AllZip R (xs ++ x ∷ []) (ys ++ y ∷ [])
      → AllZip R xs ys × R x y
  last_two [] x [] y all = (tt, all.0)
  last_two [] x (y' ∷ []) y all = absurd all.1
  last_two [] x (y' ∷ y'' ∷ ys) y all = absurd all.1
  last_two (x' ∷ []) x [] y all = absurd all.1
  last_two (x' ∷ x'' ∷ xs) x [] y all = absurd all.1
  last_two (x' ∷ xs) x (y' ∷ ys) y all = let more = last_two xs x ys y all.1 in ((all.0, more.0), more.1)

  pub ends : (all : List A) (xs : List A) (x : A) (others : List B) (ys : List B) (y : B) → all ≡ xs ++ x ∷ []
      → others ≡ ys ++ y ∷ [] → AllZip R all others → AllZip R xs ys × R x y
  ends all xs x others ys y first second places = last_two xs x ys y (rw (← first, ← second) places)

  pub none_alone : (all : List A) (xs : List A) (x : A) (others : List B) → all ≡ xs ++ x ∷ [] → length others ≡ 0
      → AllZip R all others → ⊥
  none_alone all xs x others first none places =
      let n = AllZip-long R all others places in
      omega (arith, n, none, ap length first, length-append xs (x ∷ []))
