-- What the tests of a whole header come to.
use Rattle.std.proofs.Common.{◌≡◌, ℕ, List, [], length, take, drop, get_or, Some, None, Bool, true, false, not, refl, sym, ◌∙◌, ap, subst, arith}
use Rattle.std.specs.Prelude.{◌&&◌, ◌==◌, nat_lt}
use Rattle.std.specs.Str.{bytes_eq}
use Rattle.std.proofs.lemmas.Bool.Decides.{nat_tests}
use Rattle.liq_wire.specs.Fields.{first_place}
use Rattle.liq_disk_header.specs.declared.head.Head.{Head}
use Rattle.liq_disk_header.specs.Header.{HasFields, is_generation, is_size, place_tests}
use Rattle.liq_disk_header.specs.Layout.{Layout, digest_on, fields_on, fields_size, generation_on, header_digest, header_size, layout_on, layout_with, name_on, size_on, start_on, stored_on}
use Rattle.liq_disk_header.proofs.Fields.{are_right}
use Rattle.liq_disk_header.proofs.Versions.{one_version}
use Rattle.liq_journal.specs.Written.{first_fault, header_tests, last_tests}
use Rattle.liq_journal.proofs.Heading.{are_false, form_found, forms_fit, no_fault}
use Rattle.liq_follower.specs.declared.header.Judged.TheVariants.{Damaged, Right, Turned}
use Rattle.liq_follower.specs.Fed.{has_header, is_turned}
use Rattle.liq_follower.specs.Judging.{IsJudged}
use Rattle.liq_follower.proofs.Found.{turned_by}
use Rattle.liq_follower.proofs.Headed as headed

flip : (b : Bool) → b ≡ false → not b ≡ false → ⊥
flip true is isnt = absurd (cc (is))
flip false is isnt = absurd (cc (isnt))

pub apart : (b : Bool) → b ≡ true → b ≡ false → ⊥
apart b one other = let e = sym one ∙ other in cc (e)

not_below : (n m : ℕ) → n ≡ m → nat_lt n m ≡ false
not_below n m same = grind (arith, nat_tests)

other_false : (a b : Bool) → b ≡ false → (a && b) ≡ false
other_false true b is = is
other_false false b is = refl

module _ (bytes : List ℕ) (gate : get_or bytes 0 0 ≡ 1) (whole : length bytes ≡ header_size (layout_on bytes)) where
  abbrev layout : Layout
  layout = layout_on bytes

  -- it has the name of a version, and says a generation after the first
  abbrev pub says_later : Bool
  says_later = bytes_eq (name_on bytes) layout.name && nat_lt 1 (generation_on bytes)

  pub turned : says_later ≡ true → IsJudged bytes (Turned (generation_on bytes))
  turned later = (turned_by bytes ∙ (λ i. headed.has bytes gate whole i && later i), refl)

  module _ (isnt_later : says_later ≡ false) where
    unturned : is_turned bytes ≡ true → ⊥
    unturned is = apart (is_turned bytes) is (turned_by bytes ∙ other_false (has_header bytes) says_later isnt_later)

    pub misplaced : (place : ℕ) → first_place (place_tests layout true bytes) ≡ Some place → IsJudged bytes Damaged
    misplaced place is = (
      unturned,
      (λ none. let e = sym (form_found (place_tests layout true bytes) (last_tests layout bytes) place is)
          ∙ none in absurd (cc (e))),
    )

    -- no field is wrong
    module _ (head : Head) (fits : first_place (place_tests layout true bytes)
        ≡ None) (has : HasFields layout head bytes) where
      first : generation_on bytes ≡ 1
      first =
          let right = are_right layout true bytes fits in
          least (generation_on bytes) right.generation (ap (λ (b : Bool). b && nat_lt 1 (generation_on bytes))
          (sym right.name) ∙ isnt_later)
        where
          least : (n : ℕ) → is_generation true n ≡ true → nat_lt 1 n ≡ false → n ≡ 1
          least n is isnt = grind (arith, nat_tests)

      empty : size_on bytes ≡ 0
      empty = none (size_on bytes) (subst (λ (g : ℕ). is_size g (size_on bytes) ≡ true) first
          (are_right layout true bytes fits).size)
        where
          none : (n : ℕ) → is_size 1 n ≡ true → n ≡ 0
          none n is = let so : (n == 0) ≡ true = is in grind (arith, nat_tests)

      by_limit : layout_with head.limit ≡ layout
      by_limit = ap layout_with has.limit ∙ (one_version bytes).by_limit

      -- the digest of the fields and no checkpoint is the one that should be stored
      digest_is : header_digest (take (fields_size (layout_with head.limit)) head.fields) [] ≡ digest_on layout bytes
      digest_is =
          ap (λ (l : Layout). header_digest (take (fields_size l) head.fields) []) by_limit
          ∙ ap (λ (l : List ℕ). header_digest l []) has.fields
          ∙ ap (λ (n : ℕ). header_digest (fields_on layout bytes) (take n (drop (header_size layout) bytes)))
          (sym empty)

      abbrev has_digest : Bool
      has_digest = bytes_eq head.stored (header_digest (take (fields_size (layout_with head.limit)) head.fields) [])

      same : has_digest ≡ bytes_eq (stored_on layout bytes) (digest_on layout bytes)
      same = λ i. bytes_eq (has.stored i) (digest_is i)

      behind : first_fault (header_tests layout true bytes) ≡ first_fault (last_tests layout bytes)
      behind = forms_fit (place_tests layout true bytes) (last_tests layout bytes) fits

      pub undigested : has_digest ≡ false → IsJudged bytes Damaged
      undigested isnt = (
        unturned,
        (λ none.
            flip (bytes_eq (stored_on layout bytes) (digest_on layout bytes)) (sym same ∙ isnt)
            (are_false (last_tests layout bytes) (sym behind ∙ none)).1.0),
      )

      pub right : has_digest ≡ true → IsJudged bytes Right
      right is = (
        behind ∙ no_fault (last_tests layout bytes) (
          not_below (length bytes) (start_on layout bytes) (let e = empty in omega (arith, whole)),
          (ap not (sym same ∙ is), tt),
        ),
        first,
      )
