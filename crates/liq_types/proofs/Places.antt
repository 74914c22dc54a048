-- The sums of the Stability Pool, place by place: where offsets count, what a further offset changes, and that the
-- image shows the sum of every place.
use Rattle.std.proofs.Common.{◌≡◌, ℕ, ◌+◌, ◌<◌, ◌≤◌, Bool, true, false, cond, nat_lt, List, [], ◌∷◌, ◌++◌, refl, ap, sym, ◌∙◌, subst, inl, inr, arith, Some, None, Option}
use Rattle.std.specs.Prelude.{◌⊎◌, fold, unwrap_or, ◌==◌, ◌&&◌}
use Rattle.std.specs.List.{AllByRecursion}
use Rattle.std.specs.Map.{lookup}
use Rattle.std.specs.BTreeMap.{insert_entry}
use Rattle.std.specs.Ordering.{nat_cmp, is_eq, match_ordering, ordering_then}
use Rattle.std.specs.declared.cmp.Ordering.{Ordering}
use Rattle.std.specs.declared.cmp.Ordering.TheVariants.{Less, Equal, Greater}
use Rattle.std.proofs.lemmas.Bool.{cases_lt}
use Rattle.std.proofs.lemmas.Bool.Decides.{nat_tests}
use Rattle.liq_types.specs.declared.amounts.TheConstants.{P_OPENING}
use Rattle.liq_types.specs.Image.{Image, EpochScale}
use Rattle.liq_types.specs.Product.{ScaledProduct, after_offset, rise_of, product_after, start_words, prod, place_of, is_place, place_order, sum_growth, growth_at, start_sum, sumat, places_left, with_finished, finished_sums}
use Rattle.liq_types.specs.State.{PoolOffset}
use Rattle.liq_types.specs.WellFormed.{IsBefore, AreFinished}

-- ---- places in their order

-- a place is another, or comes before it
abbrev pub IsUpTo : EpochScale → EpochScale → Type 0
IsUpTo a b = (a.0 < b.0) ⊎ ((a.0 ≡ b.0) × (a.1 ≤ b.1))

pub up_to_trans : (a b c : EpochScale) → IsUpTo a b → IsUpTo b c → IsUpTo a c
up_to_trans a b c (inl h) (inl k) = inl (omega arith)
up_to_trans a b c (inl h) (inr k) = inl (omega (arith, k.0))
up_to_trans a b c (inr h) (inl k) = inl (omega (arith, h.0))
up_to_trans a b c (inr h) (inr k) = inr (omega (arith, h.0, k.0), omega (arith, h.1, k.1))

pub before_up_to : (a b c : EpochScale) → IsBefore a b → IsUpTo b c → IsBefore a c
before_up_to a b c (inl h) (inl k) = inl (omega arith)
before_up_to a b c (inl h) (inr k) = inl (omega (arith, k.0))
before_up_to a b c (inr h) (inl k) = inl (omega (arith, h.0))
before_up_to a b c (inr h) (inr k) = inr (omega (arith, h.0, k.0), omega (arith, h.1, k.1))

pub up_to_before : (a b c : EpochScale) → IsUpTo a b → IsBefore b c → IsBefore a c
up_to_before a b c (inl h) (inl k) = inl (omega arith)
up_to_before a b c (inl h) (inr k) = inl (omega (arith, k.0))
up_to_before a b c (inr h) (inl k) = inl (omega (arith, h.0))
up_to_before a b c (inr h) (inr k) = inr (omega (arith, h.0, k.0), omega (arith, h.1, k.1))

pub before_not_place : (a b : EpochScale) → IsBefore a b → is_place a b ≡ false
before_not_place a b (inl h) = grind (arith, nat_tests, h)
before_not_place a b (inr h) = grind (arith, nat_tests, h.1)

pub after_not_place : (a b : EpochScale) → IsBefore a b → is_place b a ≡ false
after_not_place a b (inl h) = grind (arith, nat_tests, h)
after_not_place a b (inr h) = grind (arith, nat_tests, h.1)

pub up_to_other : (a b : EpochScale) → IsUpTo a b → is_place a b ≡ false → IsBefore a b
up_to_other a b (inl h) n = inl h
up_to_other a b (inr h) n = elim (cases_lt a.1 b.1) [
  | inl less ↦ inr (h.0, less)
  | inr more ↦ absurd (clash (omega (arith, h.1, more)))
] where
  clash : a.1 ≡ b.1 → ⊥
  clash e = grind (arith, nat_tests, h.0, e, n)

pub is_place-same : (a b : EpochScale) → is_place a b ≡ true → a ≡ b
is_place-same a b h =
    let epoch : a.0 ≡ b.0 = grind (arith, nat_tests, h) in
    let scale : a.1 ≡ b.1 = grind (arith, nat_tests, h) in
    ap (λ n. (n, a.1)) epoch ∙ ap (λ n. (b.0, n)) scale

pub is_place-itself : (a : EpochScale) → is_place a a ≡ true
is_place-itself a = grind (arith, nat_tests)

pub is_place-turned : (a b : EpochScale) → is_place a b ≡ is_place b a
is_place-turned a b = grind (arith, nat_tests)

-- ---- along a list of offsets

after_reaches : (w : ScaledProduct) (o : PoolOffset) → IsUpTo (place_of w) (place_of (after_offset w o))
after_reaches w o = by (o.debt == o.total) where
  by : (b : Bool)
      → IsUpTo (place_of w) (place_of (cond b (record { p = P_OPENING; scale = 0; epoch = w.epoch + 1 })
      (record { p = product_after w.p o (rise_of w.p o); scale = w.scale + rise_of w.p o; epoch = w.epoch })))
  by true = inl (omega arith)
  by false = inr (refl, omega arith)

pub list_reaches : (w : ScaledProduct) (os : List PoolOffset) → IsUpTo (place_of w) (place_of (fold after_offset w os))
list_reaches w [] = inr (refl, omega arith)
list_reaches w (o ∷ os) = up_to_trans (place_of w) (place_of (after_offset w o)) _ (after_reaches w o)
    (list_reaches (after_offset w o) os)

-- no offset counts at a place past the last
pub none_later : (w : ScaledProduct) (os : List PoolOffset) (q : EpochScale) → IsBefore (place_of
    (fold after_offset w os)) q
    → growth_at w os q ≡ 0
none_later w [] q h = refl
none_later w (o ∷ os) q h =
    let here = before_not_place (place_of w) q (up_to_before (place_of w) (place_of (fold after_offset w (o ∷ os))) q
    (list_reaches w (o ∷ os)) h) in
    let later = none_later (after_offset w o) os q h in
    ap (λ b. cond b (sum_growth w o) 0 + growth_at (after_offset w o) os q) here ∙ omega (arith, later)

-- a further offset counts at the last place
pub rises-snoc : (w : ScaledProduct) (os : List PoolOffset) (o : PoolOffset) (q : EpochScale) → growth_at w
    (os ++ o ∷ []) q
    ≡ growth_at w os q + cond (is_place (place_of (fold after_offset w os)) q) (sum_growth (fold after_offset w os) o) 0
rises-snoc w [] o q = omega arith
rises-snoc w (x ∷ os) o q = let more = rises-snoc (after_offset w x) os o q in omega (arith, more)

-- the last place, if a further offset leaves it
abbrev pub left_last : ScaledProduct → PoolOffset → List EpochScale
left_last last o = cond (is_place (place_of last) (place_of (after_offset last o))) [] (place_of last ∷ [])

under : (b : Bool) (p : EpochScale) (long short tail : List EpochScale) → long ≡ short ++ tail
    → cond b long (p ∷ long) ≡ cond b short (p ∷ short) ++ tail
under true p long short tail h = h
under false p long short tail h = ap (λ (ps : List EpochScale). p ∷ ps) h

-- and leaves it, or not
pub left-snoc : (w : ScaledProduct) (os : List PoolOffset) (o : PoolOffset) → places_left w (os ++ o ∷ [])
    ≡ places_left w os ++ left_last (fold after_offset w os) o
left-snoc w [] o = refl
left-snoc w (x ∷ os) o =
    under (is_place (place_of w) (place_of (after_offset w x))) (place_of w) (places_left (after_offset w x) (os ++ o
    ∷ [])) (places_left (after_offset w x) os)
    (left_last (fold after_offset (after_offset w x) os) o) (left-snoc (after_offset w x) os o)

-- the places that are left come before the last
pub left_before : (w : ScaledProduct) (os : List PoolOffset)
    → AllByRecursion (λ (p : EpochScale). IsBefore p (place_of (fold after_offset w os))) (places_left w os)
left_before w [] = tt
left_before w (o ∷ os) = by (is_place (place_of w) (place_of (after_offset w o))) refl
    (left_before (after_offset w o) os) where
      by : (b : Bool) → is_place (place_of w) (place_of (after_offset w o)) ≡ b
          → AllByRecursion (λ (p : EpochScale). IsBefore p (place_of (fold after_offset (after_offset w o) os)))
          (places_left (after_offset w o) os)
          → AllByRecursion (λ (p : EpochScale). IsBefore p (place_of (fold after_offset (after_offset w o) os)))
          (cond b (places_left (after_offset w o) os) (place_of w ∷ places_left (after_offset w o) os))
      by true e h = h
      by false e h = (
        before_up_to (place_of w) (place_of (after_offset w o)) _ (up_to_other (place_of w)
            (place_of (after_offset w o)) (after_reaches w o) e) (list_reaches (after_offset w o) os),
        h,
      )

-- ---- finished sums

abbrev Finished : Type 0
Finished = List (EpochScale × ℕ)

-- what a table of finished sums has at a place
abbrev pub read : Finished → EpochScale → ℕ
read table q = unwrap_or (lookup (is_place q) table) 0

-- a table with the sums of some places, as v has them
abbrev pub finish : (EpochScale → ℕ) → Finished → List EpochScale → Finished
finish v table places = fold (λ t p. with_finished t p (v p)) table places

finish-append : (v : EpochScale → ℕ) (table : Finished) (ps qs : List EpochScale) → finish v table (ps ++ qs)
    ≡ finish v (finish v table ps) qs
finish-append v table [] qs = refl
finish-append v table (p ∷ ps) qs = finish-append v (with_finished table p (v p)) ps qs

finish-cong : (u v : EpochScale → ℕ) (P : EpochScale → Type 0) → ((p : EpochScale) → P p → u p ≡ v p)
    → (table : Finished) (ps : List EpochScale) → AllByRecursion P ps → finish u table ps ≡ finish v table ps
finish-cong u v P same table [] h = refl
finish-cong u v P same table (p ∷ ps) h =
    ap (λ n. finish u (with_finished table p n) ps) (same p h.0)
    ∙ finish-cong u v P same (with_finished table p (v p)) ps h.1

abbrev pub last_of : Image → List PoolOffset → EpochScale
last_of i os = place_of (prod i os)

-- a further offset leaves the sums of earlier places
sumat-earlier : (i : Image) (os : List PoolOffset) (o : PoolOffset) (p : EpochScale) → IsBefore p (last_of i os)
    → sumat i (os ++ o ∷ []) p ≡ sumat i os p
sumat-earlier i os o p h =
    let no_more = after_not_place p (last_of i os) h in
    let snoc = rises-snoc (start_words i) os o p in
    let none = ap (λ b. cond b (sum_growth (prod i os) o) 0) no_more in
    omega (arith, snoc, none)

pub sumat-last : (i : Image) (os : List PoolOffset) (o : PoolOffset) → sumat i (os ++ o ∷ []) (last_of i os)
    ≡ sumat i os (last_of i os) + sum_growth (prod i os) o
sumat-last i os o =
    let snoc = rises-snoc (start_words i) os o (last_of i os) in
    let some = ap (λ b. cond b (sum_growth (prod i os) o) 0) (is_place-itself (last_of i os)) in
    omega (arith, snoc, some)

-- what a further offset finishes
unfoldable pub finished_after : Finished → ScaledProduct → PoolOffset → ℕ → Finished
finished_after table last o sum =
    cond (is_place (place_of last) (place_of (after_offset last o))) table (with_finished table (place_of last) sum)

finish_tail : (v : EpochScale → ℕ) (table : Finished) (last : ScaledProduct) (o : PoolOffset) (sum : ℕ)
    → v (place_of last) ≡ sum → finish v table (left_last last o) ≡ finished_after table last o sum
unfolding finished_after
finish_tail v table last o sum e = by (is_place (place_of last) (place_of (after_offset last o))) where
  by : (b : Bool) → finish v table (cond b [] (place_of last ∷ []))
      ≡ cond b table (with_finished table (place_of last) sum)
  by true = refl
  by false = ap (λ n. with_finished table (place_of last) n) e

pub finished-snoc : (i : Image) (os : List PoolOffset) (o : PoolOffset) → finished_sums i (os ++ o ∷ [])
    ≡ finished_after (finished_sums i os) (prod i os) o (sumat i os (last_of i os) + sum_growth (prod i os) o)
finished-snoc i os o =
    let places = places_left (start_words i) os in
    ap (λ (ps : List EpochScale). finish (sumat i (os ++ o ∷ [])) i.finished ps) (left-snoc (start_words i) os o)
    ∙ finish-append (sumat i (os ++ o ∷ [])) i.finished places (left_last (prod i os) o)
    ∙ ap (λ (t : Finished). finish (sumat i (os ++ o ∷ [])) t (left_last (prod i os) o))
    (finish-cong (sumat i (os ++ o ∷ [])) (sumat i os) (λ p. IsBefore p (last_of i os)) (sumat-earlier i os o)
    i.finished places (left_before (start_words i) os))
    ∙ finish_tail (sumat i (os ++ o ∷ [])) (finished_sums i os) (prod i os) o (sumat i os (last_of i os) + sum_growth
    (prod i os) o) (sumat-last i os o)

-- ---- reading finished sums

eq_of_then : (a b : Ordering) → is_eq (ordering_then a b) ≡ (is_eq a && is_eq b)
eq_of_then Less b = refl
eq_of_then Equal b = refl
eq_of_then Greater b = refl

pub nat_cmp-eq : (x y : ℕ) → is_eq (nat_cmp x y) ≡ (x == y)
nat_cmp-eq x y = by (nat_lt x y) refl where
  equal : (c : Bool) → is_eq (cond c Equal Greater) ≡ c
  equal true = refl
  equal false = refl

  by : (b : Bool) → nat_lt x y ≡ b → is_eq (cond b Less (cond (x == y) Equal Greater)) ≡ (x == y)
  by true e = sym (different (grind (arith, nat_tests, e))) where
    different : x < y → (x == y) ≡ false
    different h = grind (arith, nat_tests, h)
  by false e = equal (x == y)

pub order-place : (a b : EpochScale) → is_eq (place_order a b) ≡ is_place a b
order-place a b = eq_of_then (nat_cmp a.0 b.0) (nat_cmp a.1 b.1) ∙ ap (λ (x : Bool). x && is_eq (nat_cmp a.1 b.1))
    (nat_cmp-eq a.0 b.0) ∙ ap (λ (x : Bool). (a.0 == b.0) && x) (nat_cmp-eq a.1 b.1)

read_here : (table : Finished) (p : EpochScale) (n : ℕ) → lookup (is_place p) (insert_entry place_order table p n)
    ≡ Some n
read_here [] p n = ap (λ b. cond b (Some n) None) (is_place-itself p)
read_here (e ∷ es) p n = by (place_order p e.0) refl (read_here es p n) where
  by : (o : Ordering) → place_order p e.0 ≡ o → lookup (is_place p) (insert_entry place_order es p n) ≡ Some n
      → lookup (is_place p) (match_ordering o ((p, n) ∷ e ∷ es) ((e.0, n) ∷ es) (e ∷ insert_entry place_order es p n))
      ≡ Some n
  by Less is h = ap (λ b. cond b (Some n) (lookup (is_place p) (e ∷ es))) (is_place-itself p)
  by Equal is h = ap (λ b. cond b (Some n) (lookup (is_place p) es)) (sym (order-place p e.0) ∙ ap is_eq is)
  by Greater is h = ap (λ b. cond b (Some e.1) (lookup (is_place p) (insert_entry place_order es p n)))
      (sym (order-place p e.0) ∙ ap is_eq is) ∙ h

read_other : (table : Finished) (p : EpochScale) (n : ℕ) (q : EpochScale) → is_place q p ≡ false
    → lookup (is_place q) (insert_entry place_order table p n) ≡ lookup (is_place q) table
read_other [] p n q h = ap (λ b. cond b (Some n) None) h
read_other (e ∷ es) p n q h = by (place_order p e.0) refl (read_other es p n q h) where
  by : (o : Ordering) → place_order p e.0 ≡ o → lookup (is_place q) (insert_entry place_order es p n)
      ≡ lookup (is_place q) es
      → lookup (is_place q) (match_ordering o ((p, n) ∷ e ∷ es) ((e.0, n) ∷ es) (e ∷ insert_entry place_order es p n))
      ≡ cond (is_place q e.0) (Some e.1) (lookup (is_place q) es)
  by Less is k = ap (λ b. cond b (Some n) (lookup (is_place q) (e ∷ es))) h
  by Equal is k =
      let same : p ≡ e.0 = is_place-same p e.0 (sym (order-place p e.0) ∙ ap is_eq is) in
      let away : is_place q e.0 ≡ false = subst (λ (r : EpochScale). is_place q r ≡ false) same h in
      ap (λ b. cond b (Some n) (lookup (is_place q) es)) away
      ∙ sym (ap (λ b. cond b (Some e.1) (lookup (is_place q) es)) away)
  by Greater is k = ap (λ (o : Option ℕ). cond (is_place q e.0) (Some e.1) o) k

with-here : (table : Finished) (p : EpochScale) (n : ℕ) → (n ≡ 0 → read table p ≡ 0) → read (with_finished table p n) p
    ≡ n
with-here table p n none = by (n == 0) refl where
  by : (b : Bool) → (n == 0) ≡ b → read (cond b table (insert_entry place_order table p n)) p ≡ n
  by true e = let zero_n : n ≡ 0 = grind (arith, nat_tests, e) in none zero_n ∙ sym zero_n
  by false e = ap (λ (o : Option ℕ). unwrap_or o 0) (read_here table p n)

with-other : (table : Finished) (p : EpochScale) (n : ℕ) (q : EpochScale) → is_place q p ≡ false
    → read (with_finished table p n) q ≡ read table q
with-other table p n q h = by (n == 0) where
  by : (b : Bool) → read (cond b table (insert_entry place_order table p n)) q ≡ read table q
  by true = refl
  by false = ap (λ (o : Option ℕ). unwrap_or o 0) (read_other table p n q h)

-- a place whose sum a table has keeps it
with-keeps : (v : EpochScale → ℕ) (table : Finished) (p q : EpochScale) → (v q ≡ 0 → read table q ≡ 0) → (b : Bool)
    → is_place q p ≡ b → (b ≡ false → read table q ≡ v q) → read (with_finished table p (v p)) q ≡ v q
with-keeps v table p q none true e h =
    let same = is_place-same q p e in
    subst (λ (r : EpochScale). read (with_finished table r (v r)) q ≡ v q) same (with-here table q (v q) none)
with-keeps v table p q none false e h = with-other table p (v p) q e ∙ h refl

finish-keeps : (v : EpochScale → ℕ) (table : Finished) (ps : List EpochScale) (q : EpochScale) → read table q ≡ v q
    → read (finish v table ps) q ≡ v q
finish-keeps v table [] q h = h
finish-keeps v table (p ∷ ps) q h =
    finish-keeps v (with_finished table p (v p)) ps q (with-keeps v table p q (λ z. h ∙ z) (is_place q p) refl
    (λ away. h))

-- one of the places is this one
abbrev pub IsAmong : EpochScale → List EpochScale → Type 0
IsAmong q [] = ⊥
IsAmong q (p ∷ ps) = (is_place q p ≡ true) ⊎ IsAmong q ps

with-none : (v : EpochScale → ℕ) (table : Finished) (p q : EpochScale) → (v q ≡ 0 → read table q ≡ 0) → v q ≡ 0
    → (b : Bool) → is_place q p ≡ b → read (with_finished table p (v p)) q ≡ 0
with-none v table p q none z true e =
    let same = is_place-same q p e in
    subst (λ (r : EpochScale). read (with_finished table r (v r)) q ≡ 0) same (with-here table q (v q) none ∙ z)
with-none v table p q none z false e = with-other table p (v p) q e ∙ none z

finish-hits : (v : EpochScale → ℕ) (table : Finished) (ps : List EpochScale) (q : EpochScale) → IsAmong q ps
    → (v q ≡ 0 → read table q ≡ 0) → read (finish v table ps) q ≡ v q
finish-hits v table [] q h none = elim h [ ]
finish-hits v table (p ∷ ps) q (inl e) none =
    let same = is_place-same q p e in
    finish-keeps v (with_finished table p (v p)) ps q
    (subst (λ (r : EpochScale). read (with_finished table r (v r)) q ≡ v q) same (with-here table q (v q) none))
finish-hits v table (p ∷ ps) q (inr h) none =
    finish-hits v (with_finished table p (v p)) ps q h (λ z. with-none v table p q none z (is_place q p) refl)

finish-skips : (v : EpochScale → ℕ) (table : Finished) (ps : List EpochScale) (q : EpochScale)
    → AllByRecursion (λ (p : EpochScale). is_place q p ≡ false) ps → read (finish v table ps) q ≡ read table q
finish-skips v table [] q h = refl
finish-skips v table (p ∷ ps) q h = finish-skips v (with_finished table p (v p)) ps q h.1
    ∙ with-other table p (v p) q h.0

-- ---- every place

-- a place that offsets have not reached, or have passed without counting there
pub record IsUntouched (w : ScaledProduct) (os : List PoolOffset) (q : EpochScale) : Type 0 where
  pub never_left : AllByRecursion (λ (p : EpochScale). is_place q p ≡ false) (places_left w os)
  pub nothing : growth_at w os q ≡ 0
  pub not_first : is_place (place_of w) q ≡ false

-- a place other than the last was left, or untouched
among_cons : (b : Bool) (q p : EpochScale) (ps : List EpochScale) → IsAmong q ps → IsAmong q (cond b ps (p ∷ ps))
among_cons true q p ps h = h
among_cons false q p ps h = inr h

among_first : (b : Bool) (q p : EpochScale) (ps : List EpochScale) → b ≡ false → is_place q p ≡ true
    → IsAmong q (cond b ps (p ∷ ps))
among_first true q p ps n e = absurd (clash n) where
  clash : true ≡ false → ⊥
  clash x = cc
among_first false q p ps n e = inl e

none_cons : (b : Bool) (q p : EpochScale) (ps : List EpochScale) → is_place q p ≡ false
    → AllByRecursion (λ (r : EpochScale). is_place q r ≡ false) ps
    → AllByRecursion (λ (r : EpochScale). is_place q r ≡ false) (cond b ps (p ∷ ps))
none_cons true q p ps n h = h
none_cons false q p ps n h = (n, h)

-- the first place is q, and the next is not
moved_on : (a b q : EpochScale) → is_place a q ≡ true → is_place b q ≡ false → is_place a b ≡ false
moved_on a b q h n = by (is_place a b) refl where
  by : (c : Bool) → is_place a b ≡ c → c ≡ false
  by true e = absurd (clash (sym (ap (λ (r : EpochScale). is_place r q) (is_place-same a b e)) ∙ h) n) where
    clash : is_place b q ≡ true → is_place b q ≡ false → ⊥
    clash x y = cc
  by false e = refl

step_untouched : (w : ScaledProduct) (o : PoolOffset) (os : List PoolOffset) (q : EpochScale)
    → IsUntouched (after_offset w o) os q → (b : Bool) → is_place (place_of w) q ≡ b
    → IsAmong q (places_left w (o ∷ os)) ⊎ IsUntouched w (o ∷ os) q
step_untouched w o os q h true e =
    inl (among_first (is_place (place_of w) (place_of (after_offset w o))) q (place_of w)
    (places_left (after_offset w o) os)
    (moved_on (place_of w) (place_of (after_offset w o)) q e h.not_first) (is_place-turned q (place_of w) ∙ e))
step_untouched w o os q h false e =
    inr (record {
      never_left = none_cons (is_place (place_of w) (place_of (after_offset w o))) q (place_of w)
          (places_left (after_offset w o) os) (is_place-turned q (place_of w) ∙ e) h.never_left;
      nothing = ap (λ b. cond b (sum_growth w o) 0 + growth_at (after_offset w o) os q) e ∙ zero_and h.nothing;
      not_first = e;
    }) where
      zero_and : growth_at (after_offset w o) os q ≡ 0 → 0 + growth_at (after_offset w o) os q ≡ 0
      zero_and z = omega (arith, z)

-- a place other than the last was left, or is untouched
left_or_untouched : (w : ScaledProduct) (os : List PoolOffset) (q : EpochScale)
    → is_place (place_of (fold after_offset w os)) q ≡ false → IsAmong q (places_left w os) ⊎ IsUntouched w os q
left_or_untouched w [] q h = inr (record { never_left = tt; nothing = refl; not_first = h })
left_or_untouched w (o ∷ os) q h =
    elim (left_or_untouched (after_offset w o) os q h) [
      | inl among ↦ inl (among_cons (is_place (place_of w) (place_of (after_offset w o))) q (place_of w)
          (places_left (after_offset w o) os) among)
      | inr untouched ↦ step_untouched w o os q untouched (is_place (place_of w) q) refl
    ]

-- nothing is read at a place that all rows of a table come before
read_none : (table : Finished) (place q : EpochScale) → IsUpTo place q
    → AllByRecursion (λ (row : EpochScale × ℕ). IsBefore row.0 place) table → read table q ≡ 0
read_none [] place q h all = refl
read_none (e ∷ es) place q h all =
    ap (λ b. unwrap_or (cond b (Some e.1) (lookup (is_place q) es)) 0) (after_not_place e.0 q
    (before_up_to e.0 place q all.0 h))
    ∙ read_none es place q h all.1

-- what a starting image has at a place
start_reads : (i : Image) → AreFinished i → (q : EpochScale) (b : Bool) → is_place (i.epoch, i.scale) q ≡ b → b ≡ false
    → start_sum i q ≡ read i.finished q
start_reads i f q true e n = absurd (clash n) where
  clash : true ≡ false → ⊥
  clash x = cc
start_reads i f q false e n = ap (λ c. cond c i.sum (read i.finished q)) e

none_read : (i : Image) → AreFinished i → (q : EpochScale) (rises : ℕ) → start_sum i q + rises ≡ 0 → (b : Bool)
    → is_place (i.epoch, i.scale) q ≡ b → read i.finished q ≡ 0
none_read i f q rises z true e = read_none i.finished (i.epoch, i.scale) q (subst (λ (r : EpochScale). IsUpTo (
  i.epoch,
  i.scale,
) r) (is_place-same (i.epoch, i.scale) q e) (inr (refl, omega arith))) f
none_read i f q rises z false e =
    let same = start_reads i f q false e refl in
    omega (arith, same, z)

-- The image's finished sums and its sum are those of every place.
pub sum_shown : (i : Image) (os : List PoolOffset) → AreFinished i → (q : EpochScale)
    → cond (is_place (last_of i os) q) (sumat i os (last_of i os)) (read (finished_sums i os) q) ≡ sumat i os q
sum_shown i os f q = by (is_place (last_of i os) q) refl where
  untouched : IsUntouched (start_words i) os q → read (finished_sums i os) q ≡ sumat i os q
  untouched u =
      let skipped = finish-skips (sumat i os) i.finished (places_left (start_words i) os) q u.never_left in
      let begun = start_reads i f q false u.not_first refl in
      skipped ∙ add_none (read i.finished q) (start_sum i q) (growth_at (start_words i) os q) begun u.nothing where
        add_none : (r a b : ℕ) → a ≡ r → b ≡ 0 → r ≡ a + b
        add_none r a b x y = omega arith

  by : (b : Bool) → is_place (last_of i os) q ≡ b → cond b (sumat i os (last_of i os)) (read (finished_sums i os) q)
      ≡ sumat i os q
  by true e = ap (sumat i os) (is_place-same (last_of i os) q e)
  by false e =
      elim (left_or_untouched (start_words i) os q e) [
        | inl among ↦ finish-hits (sumat i os) i.finished (places_left (start_words i) os) q among (λ z. none_read i f q
            (growth_at (start_words i) os q) z (is_place (i.epoch, i.scale) q) refl)
        | inr u ↦ untouched u
      ]

-- ---- the sum of the place that a further offset reaches

-- a place past the last has nothing
pub later_none : (i : Image) (os : List PoolOffset) → AreFinished i → (q : EpochScale) → IsBefore (last_of i os) q
    → sumat i os q ≡ 0
later_none i os f q h =
    let first : IsBefore (i.epoch, i.scale) q = up_to_before (i.epoch, i.scale) (last_of i os) q
    (list_reaches (start_words i) os) h in
    let away = before_not_place (i.epoch, i.scale) q first in
    let begun = start_reads i f q false away refl in
    let none = read_none i.finished (i.epoch, i.scale) q (weak first) f in
    let rises = none_later (start_words i) os q h in
    omega (arith, begun, none, rises) where
      weak : IsBefore (i.epoch, i.scale) q → IsUpTo (i.epoch, i.scale) q
      weak (inl x) = inl x
      weak (inr x) = inr (x.0, omega (arith, x.1))

unfoldable pub sum_after : ScaledProduct → PoolOffset → ℕ → ℕ
sum_after last o sum = cond (is_place (place_of last) (place_of (after_offset last o))) (sum + sum_growth last o) 0

pub sum-snoc : (i : Image) (os : List PoolOffset) (o : PoolOffset) → AreFinished i
    → sumat i (os ++ o ∷ []) (place_of (after_offset (prod i os) o))
    ≡ sum_after (prod i os) o (sumat i os (last_of i os))
unfolding sum_after
sum-snoc i os o f = by (is_place (last_of i os) (place_of (after_offset (prod i os) o))) refl where
  next : EpochScale
  next = place_of (after_offset (prod i os) o)

  by : (b : Bool) → is_place (last_of i os) (place_of (after_offset (prod i os) o)) ≡ b
      → sumat i (os ++ o ∷ []) (place_of (after_offset (prod i os) o))
      ≡ cond b (sumat i os (last_of i os) + sum_growth (prod i os) o) 0
  by true e = subst (λ (r : EpochScale). sumat i (os ++ o ∷ []) r ≡ sumat i os (last_of i os)
      + sum_growth (prod i os) o)
      (is_place-same (last_of i os) _ e) (sumat-last i os o)
  by false e =
      let before = up_to_other (last_of i os) (place_of (after_offset (prod i os) o)) (after_reaches (prod i os) o) e in
      let none = later_none i os f (place_of (after_offset (prod i os) o)) before in
      let snoc = rises-snoc (start_words i) os o (place_of (after_offset (prod i os) o)) in
      let idle = ap (λ b. cond b (sum_growth (prod i os) o) 0) e in
      omega (arith, none, snoc, idle)
