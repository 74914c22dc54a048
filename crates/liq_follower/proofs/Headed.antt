-- What is found of a whole header.
use Rattle.std.proofs.Common.{◌≡◌, ℕ, ◌≤◌, List, [], length, take, drop, get_or, Option, Some, None, Bool, true, false, not, if◌then◌else◌, refl, sym, ◌∙◌, ap, subst, arith}
use Rattle.std.specs.Prelude.{◌&&◌, ◌==◌}
use Rattle.std.specs.Str.{bytes_eq}
use Rattle.std.proofs.lemmas.Bool.Decides.{nat_tests}
use Rattle.std.proofs.lemmas.List.{drop_all}
use Rattle.std.proofs.lemmas.Slice.Eq.{bytes_eq-Decides}
use Rattle.liq_types.specs.declared.amounts.TheConstants.{LIM, LIM_OF_VERSION_1}
use Rattle.liq_journal.specs.declared.damage.Damage.{Damage}
use Rattle.liq_journal.specs.declared.damage.What.{What}
use Rattle.liq_disk_header.specs.Layout.{Layout, checkpoint_on, generation_on, header_size, layout_on, layout_with, name_on, size_on, start_on, version_1, version_2}
use Rattle.liq_journal.specs.Records.{records}
use Rattle.liq_journal.specs.Written.{Absent, Damaged, Open, Written, first_fault, found_behind, found_in, found_on, found_records, header_tests, most_records}
use Rattle.liq_disk_header.specs.Header.{is_absent, is_size}
use Rattle.liq_journal.proofs.Heading.{are_false, found_behind_it}
use Rattle.liq_journal.proofs.Reading.{isnt_long, records_none}
use Rattle.liq_follower.specs.Fed.{begun_limit, has_header}
use Rattle.liq_follower.proofs.Found.{both}

-- the version is known by its limit, which is that of the bytes where their name is right
pub record IsNamed (bytes : List ℕ) : Type 0 where
  pub by_limit : layout_with (layout_on bytes).limit ≡ layout_on bytes
  pub limit : begun_limit bytes ≡ (layout_on bytes).limit

equal : (xs ys : List ℕ) → bytes_eq xs ys ≡ true → xs ≡ ys
equal xs ys is = grind (arith, bytes_eq-Decides)

is_one : (n : ℕ) → n ≡ 1 → (n == 1) ≡ true
is_one n is = grind (arith, nat_tests)

is_true : (b : Bool) → not b ≡ false → b ≡ true
is_true true is = refl
is_true false is = absurd (cc (is))

pub named : (bytes : List ℕ) → get_or bytes 0 0 ≡ 1 → not (bytes_eq (name_on bytes) (layout_on bytes).name) ≡ false
    → IsNamed bytes
named bytes gate right = by (bytes_eq (name_on bytes) version_2.name) refl
  where
    limit_is : (first : Bool) → bytes_eq (name_on bytes) version_1.name ≡ first
        → begun_limit bytes ≡ (if first then LIM_OF_VERSION_1 else LIM)
    limit_is first is = λ i. if is_one (get_or bytes 0 0) gate i && is i then LIM_OF_VERSION_1 else LIM

    other : bytes_eq (name_on bytes) version_2.name ≡ true → bytes_eq (name_on bytes) version_1.name ≡ false
    other is = ap (λ (l : List ℕ). bytes_eq l version_1.name) (equal (name_on bytes) version_2.name is)

    by : (second : Bool) → bytes_eq (name_on bytes) version_2.name ≡ second → IsNamed bytes
    by true is =
        let layout : layout_on bytes ≡ version_2 = ap (λ (b : Bool). if b then version_2 else version_1) is in
        record {
          by_limit = ap (λ (l : Layout). layout_with l.limit) layout ∙ sym layout;
          limit = limit_is false (other is) ∙ ap (λ (l : Layout). l.limit) (sym layout);
        }
    by false is =
        let layout : layout_on bytes ≡ version_1 = ap (λ (b : Bool). if b then version_2 else version_1) is in
        let first : bytes_eq (name_on bytes) version_1.name ≡ true = is_true (bytes_eq (name_on bytes) version_1.name)
        (ap (λ (l : Layout). not (bytes_eq (name_on bytes) l.name)) (sym layout) ∙ right) in
        record {
          by_limit = ap (λ (l : Layout). layout_with l.limit) layout ∙ sym layout;
          limit = limit_is true first ∙ ap (λ (l : Layout). l.limit) (sym layout);
        }

-- the first generation has no checkpoint
pub no_size : (bytes : List ℕ) → generation_on bytes ≡ 1 → first_fault (header_tests (layout_on bytes) true bytes)
    ≡ None → size_on bytes ≡ 0
no_size bytes first right = zero_size (size_on bytes) (subst (λ (g : ℕ). not (is_size g (size_on bytes)) ≡ false) first
    (are_false (header_tests (layout_on bytes) true bytes) right).1.1.0)
  where
    zero_size : (n : ℕ) → not (is_size 1 n) ≡ false → n ≡ 0
    zero_size n is = let so : not (n == 0) ≡ false = is in grind (arith, nat_tests)

module _ (bytes : List ℕ) (gate : get_or bytes 0 0 ≡ 1) (whole : length bytes ≡ header_size (layout_on bytes)) where
  abbrev layout : Layout
  layout = layout_on bytes

  pub has : has_header bytes ≡ true
  has = both (get_or bytes 0 0) (header_size layout) (length bytes) gate (omega arith)

  there : is_absent bytes ≡ false
  there = let l : 57 ≤ length bytes = omega arith in grind (arith, nat_tests)

  -- ---- with a fault

  found_of : (damage : Damage) → found_in layout true bytes ≡ Damaged damage → found_on true bytes ≡ Damaged damage
  unfolding found_on
  found_of damage is = is

  found_fault : (fault : Option What) → first_fault (header_tests layout true bytes) ≡ fault → (fault ≡ None → ⊥)
      → (what : What) × (found_on true bytes ≡ Damaged (record { index = 0; what = what }))
  found_fault None is isnt = absurd (isnt refl)
  found_fault (Some what) is isnt = (
    what,
    found_of (record { index = 0; what = what })
        (ap (λ (b : Bool). if b then Absent
        else found_behind layout bytes (first_fault (header_tests layout true bytes))) there
        ∙ ap (found_behind layout bytes) is),
  )

  pub found_wrong : (first_fault (header_tests layout true bytes) ≡ None → ⊥)
      → (what : What) × (found_on true bytes ≡ Damaged (record { index = 0; what = what }))
  found_wrong isnt = found_fault (first_fault (header_tests layout true bytes)) refl isnt

  -- ---- with none

  module _ (right : first_fault (header_tests layout true bytes) ≡ None) (first : generation_on bytes ≡ 1) where
    pub name : IsNamed bytes
    name = named bytes gate (are_false (header_tests layout true bytes) right).0

    empty : size_on bytes ≡ 0
    empty = no_size bytes first right

    no_checkpoint : checkpoint_on layout bytes ≡ []
    no_checkpoint = ap (λ (n : ℕ). take n (drop (header_size layout) bytes)) empty

    start : start_on layout bytes ≡ header_size layout
    start = let e = empty in omega arith

    abbrev pub written : Written
    written = record { generation = 1; limit = layout.limit; checkpoint = []; commands = [] }

    pub found_right : found_on true bytes ≡ Open written
    found_right =
        let nothing : drop (header_size layout) bytes ≡ [] = drop_all (header_size layout) bytes (omega arith) in
        found_behind_it layout true bytes 1 [] (header_size layout) (record {
          layout_is = refl;
          gate = there;
          tests = right;
          generation_is = first;
          checkpoint_is = no_checkpoint;
          start_is = start;
          long = omega arith;
        })
        ∙ ap (λ (l : List ℕ). found_records 1 layout.limit [] 1 (header_size layout) (records most_records l)) nothing
        ∙ ap (found_records 1 layout.limit [] 1 (header_size layout)) (records_none most_records []
        (isnt_long [] (omega arith)))
