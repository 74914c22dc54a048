-- What is found by a header.
use Rattle.std.proofs.Common.{◌≡◌, ◌⊎◌, inl, inr, ℕ, ◌+◌, ◌<◌, ◌≤◌, List, [], ◌∷◌, length, take, drop, get_or, Option, Some, None, IfSome, Result, Ok, Err, Bool, true, false, not, nat_lt, ◌==◌, ◌||◌, if◌then◌else◌, refl, sym, ◌∙◌, ap, subst, arith}
use Rattle.std.specs.Str.{bytes_eq}
use Rattle.std.proofs.lemmas.Bool.Decides.{nat_tests}
use Rattle.liq_wire.specs.Fields.{first_place}
use Rattle.liq_journal.specs.declared.damage.What.{What}
use Rattle.liq_journal.specs.declared.damage.What.TheVariants.{Form}
use Rattle.liq_journal.specs.declared.damage.Damage.{Damage}
use Rattle.liq_disk_header.specs.declared.head.Head.{Head}
use Rattle.liq_journal.specs.declared.answers.LookFault.{LookFault}
use Rattle.liq_journal.specs.declared.answers.LookFault.TheVariants as fault
use Rattle.liq_journal.specs.declared.answers.Look.{Look}
use Rattle.liq_journal.specs.declared.answers.Look.TheVariants as look
use Rattle.liq_journal.specs.Look.{look_behind, look_in, look_on}
use Rattle.liq_disk_header.specs.Header.{HasFields, is_generation, is_size, place_tests, is_absent}
use Rattle.liq_journal.specs.Header.{IsHeadOf, MaybeHeadOf, IsDamageOf}
use Rattle.liq_disk_header.specs.Layout.{Layout, IsVersion, layout_on, layout_with, layout_named, fields_size, header_size, least_header, greatest_header, name_on, generation_on, size_on, start_on}
use Rattle.liq_journal.specs.Looked.{IsRead}
use Rattle.liq_journal.specs.Written.{Absent, Damaged, last_tests, first_fault, header_tests, found_behind, found_on}
use Rattle.std.proofs.lemmas.List.{take-take}
use Rattle.liq_disk_header.proofs.Versions.{one_version}
use Rattle.liq_journal.proofs.Heading.{forms_fit, form_found}
use Rattle.liq_journal.proofs.Reading.{piece_alike, byte_alike, number_alike}
use Rattle.liq_journal.proofs.Told.{if_some, if_both}

-- a look and an opening by the same tests
module _ (layout : Layout) (odd : Bool) (held : List ℕ) where
  look_none : is_absent held ≡ true → look_in layout odd held ≡ Ok look.Absent
  look_none is = ap (λ (b : Bool). if b then Ok look.Absent
      else look_behind held (first_fault (header_tests layout odd held))) is

  look_first : (first : Option What) → is_absent held ≡ false → first_fault (header_tests layout odd held) ≡ first
      → look_in layout odd held ≡ look_behind held first
  look_first first gate is =
      ap (λ (b : Bool). if b then Ok look.Absent
      else look_behind held (first_fault (header_tests layout odd held))) gate
      ∙ ap (look_behind held) is

  damaged_cases : (b : Bool) (f : Option What) (damage : Damage) → ◌≡◌ {A = Result Look LookFault} (if b
      then Ok look.Absent else look_behind held f) (Err (fault.Damaged damage))
      → (if b then Absent else found_behind layout held f) ≡ Damaged damage
  damaged_cases true f damage is = absurd (cc (is))
  damaged_cases false None damage is = absurd (cc (is))
  damaged_cases false (Some what) damage is = cc

  absent_cases : (b : Bool) (f : Option What) → ◌≡◌ {A = Result Look LookFault} (if b then Ok look.Absent
      else look_behind held f) (Ok look.Absent) → (if b then Absent else found_behind layout held f) ≡ Absent
  absent_cases true f is = refl
  absent_cases false None is = absurd (cc (is))
  absent_cases false (Some what) is = absurd (cc (is))

pub look_damaged : (odd : Bool) (held : List ℕ) (what : What) → is_absent held ≡ false
    → first_fault (header_tests (layout_on held) odd held) ≡ Some what
    → look_on odd held ≡ Err (fault.Damaged (record { index = 0; what = what }))
unfolding look_on
look_damaged odd held what gate is = look_first (layout_on held) odd held (Some what) gate is

pub look_open : (odd : Bool) (held : List ℕ) → is_absent held ≡ false
    → first_fault (header_tests (layout_on held) odd held) ≡ None
    → look_on odd held ≡ Ok (look.Open (generation_on held))
unfolding look_on
look_open odd held gate none = look_first (layout_on held) odd held None gate none

look_absent : (odd : Bool) (held : List ℕ) → is_absent held ≡ true → look_on odd held ≡ Ok look.Absent
unfolding look_on
look_absent odd held is = look_none (layout_on held) odd held is

-- what a look tells is what is found
pub found_damaged : (odd : Bool) (held : List ℕ) (damage : Damage) → look_on odd held ≡ Err (fault.Damaged damage)
    → found_on odd held ≡ Damaged damage
unfolding found_on look_on
found_damaged odd held damage is = damaged_cases (layout_on held) odd held (is_absent held)
    (first_fault (header_tests (layout_on held) odd held)) damage is

pub found_absent : (odd : Bool) (held : List ℕ) → look_on odd held ≡ Ok look.Absent → found_on odd held ≡ Absent
unfolding found_on look_on
found_absent odd held is = absent_cases (layout_on held) odd held (is_absent held)
    (first_fault (header_tests (layout_on held) odd held)) is

-- the same name is the same version
same_layout : (bytes held : List ℕ) → name_on held ≡ name_on bytes → layout_on held ≡ layout_on bytes
same_layout bytes held same = ap layout_named same

-- the bytes of a header as they were read
module _ (layout : Layout) (odd : Bool) (held bytes : List ℕ) where
  same_places : IsVersion layout → take least_header held ≡ take least_header bytes → place_tests layout odd held
      ≡ place_tests layout odd bytes
  same_places version alike =
      let name = piece_alike least_header bytes held alike 1 8 (omega arith) in
      let generation : generation_on held ≡ generation_on bytes = number_alike least_header bytes held alike 9 8
      (omega arith) in
      let size : size_on held ≡ size_on bytes = number_alike least_header bytes held alike 17 8 (omega arith) in
      let own = piece_alike least_header bytes held alike 25 (length layout.own) (omega (arith, version.fields)) in
      (λ i. (not (bytes_eq (name i) layout.name), 1) ∷ (not (is_generation odd (generation i)), 9)
      ∷ (not (is_size (generation i) (size i)), 17) ∷ (not (bytes_eq (own i) layout.own), 25) ∷ [])

  same_fields : take (header_size layout) held ≡ take (header_size layout) bytes → (head : Head)
      → HasFields layout head bytes → HasFields layout head held
  same_fields alike head has = record {
    limit = has.limit;
    generation = has.generation ∙ sym (number_alike (header_size layout) bytes held alike 9 8 (omega arith));
    size = has.size ∙ sym (number_alike (header_size layout) bytes held alike 17 8 (omega arith));
    fields = has.fields ∙ sym (piece_alike (header_size layout) bytes held alike 1 (fields_size layout) (omega arith));
    stored = has.stored ∙ sym (piece_alike (header_size layout) bytes held alike (1 + fields_size layout) 32
        (omega arith));
  }

-- a read of the front, into a buffer that a header fits in
module _ (odd : Bool) (n : ℕ) (bytes : List ℕ) (long : least_header ≤ n) (gate : get_or bytes 0 0 ≡ 1) where
  abbrev layout : Layout
  layout = layout_on bytes

  record Front (held : List ℕ) : Type 0 where
    least : take least_header held ≡ take least_header bytes
    whole : header_size layout ≤ length held → take (header_size layout) held ≡ take (header_size layout) bytes
    open_gate : is_absent held ≡ false
    layout_is : layout_on held ≡ layout

  front : (held : List ℕ) → IsRead 0 greatest_header n bytes held → Front held
  front held (count, same) =
      let alike : (k : ℕ) → k ≤ n → take k held ≡ take k bytes = λ k less. sym (take-take k n held less)
      ∙ ap (take k) (sym same) ∙ take-take k n bytes less in
      let byte : get_or held 0 0 ≡ get_or bytes 0 0 = byte_alike n bytes held (sym same) 0 (omega arith) in
      let is : get_or held 0 0 ≡ 1 = byte ∙ gate in
      let l : least_header ≤ length held = omega arith in
      let room : header_size layout ≤ greatest_header = (one_version bytes).whole in
      record {
        least = alike least_header long;
        whole = λ there. alike (header_size layout) (omega (arith, count, room, there));
        open_gate = grind (arith, nat_tests);
        layout_is = same_layout bytes held (piece_alike n bytes held (sym same) 1 8 (omega arith));
      }

  places_on : (held : List ℕ) → Front held → place_tests layout odd held ≡ place_tests layout odd bytes
  places_on held f = same_places layout odd held bytes (one_version bytes) f.least

  -- the first wrong field of what was read
  misplaced : (held : List ℕ) (place : ℕ) → IsRead 0 greatest_header n bytes held
      → first_place (place_tests layout odd bytes) ≡ Some place → (is_absent held ≡ false)
      × (first_fault (header_tests (layout_on held) odd held) ≡ Some (Form place))
  misplaced held place r is =
      let f = front held r in (
        f.open_gate,
        ap (λ (l : Layout). first_fault (header_tests l odd held)) f.layout_is
            ∙ form_found (place_tests layout odd held) (last_tests layout held) place
            (ap first_place (places_on held f) ∙ is),
      )

  module _ (head : Head) (fits : first_place (place_tests layout odd bytes)
      ≡ None) (has : HasFields layout head bytes) where
    start_is : (held : List ℕ) → Front held → start_on layout held ≡ header_size layout + head.size
    start_is held f = ap (λ (k : ℕ). header_size layout + k) (number_alike least_header bytes held f.least 17 8
        (omega arith) ∙ sym has.size)

    -- the version is the one of the head
    version_is : layout ≡ layout_with head.limit
    version_is = sym (one_version bytes).by_limit ∙ ap layout_with (sym has.limit)

    size_is : header_size layout ≡ header_size (layout_with head.limit)
    size_is = ap header_size version_is

    -- bytes of the checkpoint are missing
    missing : (held : List ℕ) → IsRead 0 greatest_header n bytes held
        → length held < header_size (layout_with head.limit) + head.size → (is_absent held ≡ false)
        × (first_fault (header_tests (layout_on held) odd held) ≡ Some (Form (length held)))
    missing held r less =
        let f = front held r in
        let start = start_is held f in
        let short : nat_lt (length held) (start_on layout held) ≡ true = let e = size_is
        in grind (arith, nat_tests) in (
          f.open_gate,
          ap (λ (l : Layout). first_fault (header_tests l odd held)) f.layout_is
              ∙ forms_fit (place_tests layout odd held) (last_tests layout held)
              (ap first_place (places_on held f) ∙ fits)
              ∙ ap (λ (b : Bool). if b then Some (Form (length held))
              else first_fault (drop 1 (last_tests layout held))) short,
        )

    head_of : (held : List ℕ) → IsRead 0 greatest_header n bytes held → header_size (layout_with head.limit) + head.size
        ≤ length held → IsHeadOf (layout_with head.limit) odd held head
    head_of held r enough =
        let f = front held r in
        let start = start_is held f in
        let enough_2 : header_size layout + head.size ≤ length held = let e = size_is in omega arith in
        subst (λ (l : Layout). IsHeadOf l odd held head) version_is (record {
          gate = f.open_gate;
          layout_is = f.layout_is;
          places = ap first_place (places_on held f) ∙ fits;
          long = omega (arith, start, enough_2);
          fields = same_fields layout odd held bytes (f.whole (omega (arith, enough_2))) head has;
        })

-- what the front of a disk tells: none is open, or one is
abbrev pub none_open : ℕ → ℕ → Bool
none_open n gate = nat_lt n least_header || not (gate == 1)

closed : (n gate : ℕ) → none_open n gate ≡ true → (n < least_header) ⊎ ((least_header ≤ n) × (gate ≡ 1 → ⊥))
closed n gate is = elim (order n least_header) [
  | inl less ↦ inl less
  | inr long ↦ inr (long, λ one. by_gate long one)
] where
  order : (a b : ℕ) → (a < b) ⊎ (b ≤ a)
  order a b = grind arith

  by_gate : least_header ≤ n → gate ≡ 1 → ⊥
  by_gate long one = grind (arith, nat_tests, is)

pub record IsOpenFront (n gate : ℕ) : Type 0 where
  pub long : least_header ≤ n
  pub is_open : gate ≡ 1

pub open_front : (n gate : ℕ) (tested : Bool) → tested ≡ none_open n gate → tested ≡ false → IsOpenFront n gate
open_front n gate tested told isnt = let is : none_open n gate ≡ false = sym told ∙ isnt
    in record { long = grind (arith, nat_tests, is); is_open = grind (arith, nat_tests, is) }

-- what is told by it
module _ (told : Option (List ℕ)) (odd : Bool) (n : ℕ) (bytes : List ℕ)
    (read : IfSome told (IsRead 0 greatest_header n bytes)) where
  pub told_absent : none_open n (get_or bytes 0 0) ≡ true → IfSome told (λ held. MaybeHeadOf odd held None)
  told_absent why = if_some told (IsRead 0 greatest_header n bytes) (λ held. MaybeHeadOf odd held None)
      (λ held r. look_absent odd held (absent held r (closed n (get_or bytes 0 0) why))) read
    where
      absent : (held : List ℕ) → IsRead 0 greatest_header n bytes held → (n < least_header) ⊎ ((least_header ≤ n)
          × (get_or bytes 0 0 ≡ 1 → ⊥)) → is_absent held ≡ true
      absent held (count, same) (inl less) = let l : length held < least_header = omega arith
          in grind (arith, nat_tests)
      absent held (count, same) (inr (long, isnt)) =
          let gate : get_or held 0 0 ≡ get_or bytes 0 0 = byte_alike n bytes held (sym same) 0 (omega arith) in
          let no : get_or held 0 0 ≡ 1 → ⊥ = λ is. isnt (sym gate ∙ is) in
          grind (arith, nat_tests)

  module _ (open_so : IsOpenFront n (get_or bytes 0 0)) where
    pub told_misplaced : (place : ℕ) → first_place (place_tests (layout_on bytes) odd bytes) ≡ Some place
        → IfSome told (λ held. IsDamageOf odd held (fault.Damaged (record { index = 0; what = Form place })))
    told_misplaced place is = if_some told (IsRead 0 greatest_header n bytes) (λ held. IsDamageOf odd held
        (fault.Damaged (record { index = 0; what = Form place })))
        (λ held r. let first = misplaced odd n bytes open_so.long open_so.is_open held place r is
        in look_damaged odd held (Form place) first.0 first.1) read

    module _ (head : Head) (fits : first_place (place_tests (layout_on bytes) odd bytes)
        ≡ None) (has : HasFields (layout_on bytes) head bytes) (now : Option (List ℕ)) (same : now ≡ told) (size :
        ℕ) (measured : IfSome now (λ held. size ≡ length held)) where
      measured_then : IfSome told (λ held. size ≡ length held)
      measured_then = subst (λ (o : Option (List ℕ)). IfSome o (λ held. size ≡ length held)) same measured

      pub told_short : size < header_size (layout_with head.limit) + head.size
          → IfSome told (λ held. IsDamageOf odd held (fault.Damaged (record { index = 0; what = Form size })))
      told_short less = if_both told (IsRead 0 greatest_header n bytes) (λ held. size ≡ length held)
          (λ held. IsDamageOf odd held (fault.Damaged (record { index = 0; what = Form size })))
          (λ held r is.
          let first = missing odd n bytes open_so.long open_so.is_open head fits has held r (omega arith) in
          look_damaged odd held (Form size) first.0 (first.1 ∙ ap (λ (k : ℕ). Some (Form k)) (sym is))) read
          measured_then

      pub told_head : header_size (layout_with head.limit) + head.size ≤ size
          → IfSome told (λ held. MaybeHeadOf odd held (Some head))
      told_head enough = if_both told (IsRead 0 greatest_header n bytes) (λ held. size ≡ length held)
          (λ held. MaybeHeadOf odd held (Some head))
          (λ held r is. head_of odd n bytes open_so.long open_so.is_open head fits has held r (omega arith)) read
          measured_then
