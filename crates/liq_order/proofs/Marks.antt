-- Marked rows: what is found beside them, how many there are, and what is left once they are gone.
use Rattle.std.proofs.Common.{◌≡◌, ℕ, zero, suc, ◌+◌, ◌-◌, ◌<◌, ◌≤◌, Bool, true, false, cond, eqb, List, [], ◌∷◌, length, length-set, get_or, set, Some, None, Option, refl, sym, ap, ◌∙◌, subst, arith}
use Rattle.std.specs.Prelude.{IsSome}
use Rattle.std.specs.List.{All, count_by, filter}
use Rattle.std.proofs.lemmas.Bool.Decides.{nat_tests}
use Rattle.std.proofs.lemmas.List.Elements.{All-filter, All-from_get_or}
use Rattle.std.proofs.lemmas.List.Sums.{sum_by-cons, sum_by-set}
use Rattle.liq_types.specs.Ranked.{Ranked}
use Rattle.liq_order.specs.Chained.{rows_from}
use Rattle.liq_order.specs.declared.places.NodeNo.{NodeNo}
use Rattle.liq_order.specs.Accounts.{Row, account_at, has_place, is_marked, mark, place_unless_marked, row_of, unless_marked, IsRowAt, AreRows, IsStrict}
use Rattle.liq_order.proofs.Rows.{nowhere, Puts, over, row_at}

-- ---- a place and the mark

pub real_place : (p : NodeNo) → p.0 < mark → unless_marked p ≡ Some p
real_place p less = by (eqb p.0 mark) (other less) where
  other : p.0 < mark → eqb p.0 mark ≡ false
  other h = grind (arith, nat_tests)

  by : (b : Bool) → b ≡ false → cond b None (Some p) ≡ Some p
  by true h = cc
  by false h = refl

pub no_place : (row : Row) → unless_marked row.1 ≡ None → is_marked row ≡ true
no_place row h = by (is_marked row) h where
  by : (b : Bool) → cond b None (Some row.1) ≡ None → b ≡ true
  by true g = refl
  by false g = cc

pub a_place : (row : Row) → IsSome (unless_marked row.1) → is_marked row ≡ false
a_place row h = by (is_marked row) h where
  by : (b : Bool) → IsSome (cond b None (Some row.1)) → b ≡ false
  by true g = cc
  by false g = refl

pub unmarked_row : (row : Row) → row.1.0 < mark → is_marked row ≡ false
unmarked_row row less = grind (arith, nat_tests)

pub the_place : (p : NodeNo) → IsSome (unless_marked p) → unless_marked p ≡ Some p
the_place p h = by (eqb p.0 mark) h where
  by : (b : Bool) → IsSome (cond b None (Some p)) → cond b None (Some p) ≡ Some p
  by true g = cc
  by false g = refl

-- the places after a row was written
pub places_put : (old new : List Row) (k : ℕ) (v : NodeNo) → Puts old new k v → (q : ℕ)
    → place_unless_marked (row_of new q) ≡ cond (eqb k q) (unless_marked v) (place_unless_marked (row_of old q))
places_put old new k v puts q = ap place_unless_marked (puts q) ∙ by (eqb k q) where
  by : (b : Bool) → place_unless_marked (cond b (Some v) (row_of old q))
      ≡ cond b (unless_marked v) (place_unless_marked (row_of old q))
  by true = refl
  by false = refl

-- ---- how many are marked

abbrev pub one_if : Row → ℕ
one_if row = cond (is_marked row) 1 0

pub one : (row : Row) → is_marked row ≡ true → one_if row ≡ 1
one row is = ap (λ (b : Bool). cond {A = ℕ} b 1 0) is

pub none : (row : Row) → is_marked row ≡ false → one_if row ≡ 0
none row is = ap (λ (b : Bool). cond {A = ℕ} b 1 0) is

pub marked_set : (l : List Row) (i : ℕ) (row : Row) → i < length l
    → count_by is_marked (set l i row) + one_if (get_or l i nowhere) ≡ count_by is_marked l + one_if row
marked_set l i row less = sum_by-set one_if l i row nowhere less

pub some_marked : (l : List Row) (i : ℕ) → i < length l → is_marked (get_or l i nowhere) ≡ true
    → 0 < count_by is_marked l
some_marked l i less is = omega (arith, marked_set l i nowhere less, one (get_or l i nowhere) is)

-- of entries that come all at once none is
pub none_marked : (i : ℕ) (es : List Ranked) → i + length es ≤ mark → count_by is_marked (rows_from i es) ≡ 0
none_marked i [] h = refl
none_marked i (e ∷ es) h =
    let row : Row = (e.1, record { 0 = i }) in
    let rest = rows_from (suc i) es in
    omega (
      arith,
      sum_by-cons one_if row rest,
      none row (unmarked_row row (omega (arith, h))),
      none_marked (suc i) es (omega (arith, h)),
    )

pub real_places : (i : ℕ) (es : List Ranked) → i + length es ≤ mark → (k : ℕ)
    → place_unless_marked (row_of (rows_from i es) k) ≡ row_of (rows_from i es) k
real_places i [] h k = refl
real_places i (e ∷ es) h k = by (eqb e.1 k) (real_place (record { 0 = i }) (omega (arith, h))) (real_places (suc i) es
    (omega (arith, h)) k) where
      by : (b : Bool) → unless_marked (record { 0 = i }) ≡ Some (record { 0 = i })
          → place_unless_marked (row_of (rows_from (suc i) es) k) ≡ row_of (rows_from (suc i) es) k
          → place_unless_marked (cond b (Some (record { 0 = i })) (row_of (rows_from (suc i) es) k))
          ≡ cond b (Some (record { 0 = i })) (row_of (rows_from (suc i) es) k)
      by true here later = here
      by false here later = later

-- ---- a row that is written over

pub same_accounts : (l : List Row) (k : ℕ) (v : NodeNo) (at : ℕ) → IsRowAt l k at → (i : ℕ)
    → account_at (set l at (k, v)) i ≡ account_at l i
same_accounts [] k v at h i = absurd (omega (arith, h.in_range))
same_accounts (x ∷ l) k v zero h zero = sym h.has_account
same_accounts (x ∷ l) k v zero h (suc i) = refl
same_accounts (x ∷ l) k v (suc at) h zero = refl
same_accounts (x ∷ l) k v (suc at) h (suc i) = same_accounts l k v at (record {
  in_range = omega (arith, h.in_range);
  has_account = h.has_account;
}) i

pub strict_over : (l : List Row) (k : ℕ) (v : NodeNo) (at : ℕ) → IsRowAt l k at → IsStrict l
    → IsStrict (set l at (k, v))
strict_over l k v at h strict i j less inside =
    omega (
      arith,
      same_accounts l k v at h i,
      same_accounts l k v at h j,
      strict i j less (omega (arith, inside, length-set l at (k, v))),
    )

module _ (l : List Row) (strict : IsStrict l) (k at : ℕ) (is_at : IsRowAt l k at) where
  -- what the row of an account has
  pub found_at : place_unless_marked (row_of l k) ≡ unless_marked (get_or l at nowhere).1
  found_at = ap place_unless_marked (row_at l strict k at is_at)

  -- the row of an account without a place is marked, and no other
  pub marked_row : place_unless_marked (row_of l k) ≡ None → is_marked (get_or l at nowhere) ≡ true
  marked_row h = no_place (get_or l at nowhere) (sym found_at ∙ h)

  pub used_row : IsSome (place_unless_marked (row_of l k)) → is_marked (get_or l at nowhere) ≡ false
  used_row h = a_place (get_or l at nowhere) (subst (λ (o : Option NodeNo). IsSome o) found_at h)

-- an account's row is marked
pub record Marked (l l' : List Row) (marked k : ℕ) : Type 0 where
  pub strict : IsStrict l'
  pub counted : marked + 1 ≡ count_by is_marked l'
  pub long : length l' ≡ length l
  pub told : (a : ℕ) → place_unless_marked (row_of l' a) ≡ cond (eqb k a) None (place_unless_marked (row_of l a))

pub marked_over : (l : List Row) (marked : ℕ) → AreRows l marked → (k at : ℕ) → IsRowAt l k at
    → IsSome (place_unless_marked (row_of l k)) → Marked l (set l at (k, record { 0 = mark })) marked k
marked_over l marked kept k at is_at there =
    let v : NodeNo = record { 0 = mark } in record {
      strict = strict_over l k v at is_at kept.strict;
      counted = omega (
        arith,
        kept.counted,
        marked_set l at (k, v) is_at.in_range,
        none (get_or l at nowhere) (used_row l kept.strict k at is_at there),
      );
      long = length-set l at (k, v);
      told = places_put l (set l at (k, v)) k v (over l kept.strict k at is_at v);
    }

-- an account's row is used again
pub record Used (l l' : List Row) (marked k : ℕ) (v : NodeNo) : Type 0 where
  pub some : 0 < marked
  pub rows_from : AreRows l' (marked - 1)
  pub long : length l' ≡ length l
  pub told : (a : ℕ) → place_unless_marked (row_of l' a) ≡ cond (eqb k a) (Some v) (place_unless_marked (row_of l a))

pub used_over : (l : List Row) (marked : ℕ) → AreRows l marked → (k at : ℕ) → IsRowAt l k at
    → place_unless_marked (row_of l k) ≡ None → (v : NodeNo) → v.0 < mark → Used l (set l at (k, v)) marked k v
used_over l marked kept k at is_at absent v less =
    let is = marked_row l kept.strict k at is_at absent in
    let long = length-set l at (k, v) in
    let counted = marked_set l at (k, v) is_at.in_range in
    let real = none (k, v) (unmarked_row (k, v) less) in record {
      some = omega (arith, kept.counted, some_marked l at is_at.in_range is);
      rows_from = record {
        strict = strict_over l k v at is_at kept.strict;
        counted = omega (arith, kept.counted, counted, one (get_or l at nowhere) is, real);
        few = omega (arith, kept.few, long);
      };
      long = long;
      told = λ a. places_put l (set l at (k, v)) k v (over l kept.strict k at is_at v) a
          ∙ ap (λ o. cond (eqb k a) o (place_unless_marked (row_of l a))) (real_place v less);
    }

-- ---- the marked rows go

abbrev Above : ℕ → List Row → Type 0
Above k l = All (λ (row : Row). k < row.0) l

above_head : (x : Row) (l : List Row) → IsStrict (x ∷ l) → Above x.0 l
above_head x l strict = All-from_get_or (λ (row : Row). x.0 < row.0) l nowhere (λ i less. strict 0 (suc i) (omega arith)
    (omega (arith, less)))

strict_tail : (x : Row) (l : List Row) → IsStrict (x ∷ l) → IsStrict l
strict_tail x l strict i j less inside = strict (suc i) (suc j) (omega (arith, less)) (omega (arith, inside))

strict_cons : (x : Row) (l : List Row) → Above x.0 l → IsStrict l → IsStrict (x ∷ l)
strict_cons x l above strict i zero less inside = absurd (omega (arith, less))
strict_cons x l above strict zero (suc j) less inside = above j nowhere (omega (arith, inside))
strict_cons x l above strict (suc i) (suc j) less inside = strict i j (omega (arith, less)) (omega (arith, inside))

none_above : (l : List Row) (k : ℕ) → Above k l → row_of l k ≡ None
none_above [] k above = refl
none_above (x ∷ l) k above = by (eqb x.0 k) (other (above 0 nowhere (omega arith)))
    (none_above l k (λ i d less. above (suc i) d (omega (arith, less)))) where
      other : k < x.0 → eqb x.0 k ≡ false
      other less = grind (arith, nat_tests)

      by : (b : Bool) → b ≡ false → row_of l k ≡ None → cond b (Some x.1) (row_of l k) ≡ None
      by true h later = cc
      by false h later = later

pub record Dropped (l l' : List Row) : Type 0 where
  pub strict : IsStrict l'
  pub none : count_by is_marked l' ≡ 0
  pub long : length l' + count_by is_marked l ≡ length l
  pub told : (k : ℕ) → place_unless_marked (row_of l' k) ≡ place_unless_marked (row_of l k)

pub dropped : (l : List Row) → IsStrict l → Dropped l (filter has_place l)
dropped [] strict = record { strict = strict; none = refl; long = refl; told = λ k. refl }
dropped (x ∷ l) strict = by (is_marked x) refl (dropped l (strict_tail x l strict)) where
  above : Above x.0 l
  above = above_head x l strict

  by : (b : Bool) → is_marked x ≡ b → Dropped l (filter has_place l)
      → Dropped (x ∷ l) (cond (cond b false true) (x ∷ filter has_place l) (filter has_place l))
  by true is rest = record {
    strict = rest.strict;
    none = rest.none;
    long = omega (arith, rest.long, sum_by-cons one_if x l, one x is);
    told = λ k. rest.told k ∙ gone k (eqb x.0 k) refl;
  } where
    gone : (k : ℕ) (b : Bool) → eqb x.0 k ≡ b → place_unless_marked (row_of l k)
        ≡ place_unless_marked (cond b (Some x.1) (row_of l k))
    gone k true same = ap place_unless_marked (ap (row_of l) (sym (equal same)) ∙ none_above l x.0 above)
        ∙ sym (ap (λ (c : Bool). cond c None (Some x.1)) is) where
          equal : eqb x.0 k ≡ true → x.0 ≡ k
          equal h = grind (arith, nat_tests)
    gone k false same = refl
  by false is rest = record {
    strict = strict_cons x (filter has_place l) (All-filter has_place (λ (row : Row). x.0 < row.0) l above) rest.strict;
    none = omega (arith, rest.none, sum_by-cons one_if x (filter has_place l), none x is);
    long = omega (arith, rest.long, sum_by-cons one_if x l, none x is);
    told = λ k. here k (eqb x.0 k);
  } where
    here : (k : ℕ) (b : Bool) → place_unless_marked (cond b (Some x.1) (row_of (filter has_place l) k))
        ≡ place_unless_marked (cond b (Some x.1) (row_of l k))
    here k true = refl
    here k false = rest.told k

pub left : (l l' : List Row) → IsStrict l → l' ≡ filter has_place l → Dropped l l'
left l l' strict is = subst (Dropped l) (sym is) (dropped l strict)
