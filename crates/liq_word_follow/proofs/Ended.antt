-- The bytes that are followed have one fault that is the first, or none.
use Rattle.std.proofs.Common.{◌≡◌, inl, inr, ℕ, ◌+◌, ◌≤◌, ◌<◌, List, [], ◌∷◌, ◌++◌, length, take, drop, Option, Some, None, Ok, Err, Result, refl, sym, ap, subst, ◌∙◌, append_assoc, append-nil, arith}
use Rattle.std.specs.Prelude.{◌⊎◌, ◌≢◌, ◌-◌, option_map, unwrap_or}
use Rattle.std.proofs.Math.Seq.{take-append_seam, take-append-add}
use Rattle.std.proofs.lemmas.List.{length-append, take-append-drop, take-append-le, take_all}
use Rattle.liq_text_lines.specs.Reading.{IsOver, Reads}
use Rattle.liq_follower.specs.Fed.{AreDamagedAt, AreTurnedTo, GoOn}
use Rattle.liq_word_exit.specs.declared.halts.Halt.{Halt}
use Rattle.liq_word_exit.specs.declared.halts.Halt.TheVariants.{BadLine, ReadFault, WriteFault, DiskFault, Damaged, DamagedInput, NoMemory, Limit, Rotated}
use Rattle.liq_word_exit.specs.Statuses.{status_of}
use Rattle.liq_word_follow.specs.declared.feeding.TheConstants.{FED_MOST}
use Rattle.liq_word_follow.specs.Followed.{FaultIn, FollowsTo, IsWhole}

-- they show no fault before the last one
abbrev pub IsFirstFault : List ℕ → Type 0
IsFirstFault bytes = (before : List ℕ) × (byte : ℕ) × (bytes ≡ before ++ byte ∷ []) × GoOn before

-- ---- faults do not go on

pub damage_ends : (index : ℕ) (bytes : List ℕ) → AreDamagedAt index bytes → GoOn bytes → ⊥
damage_ends index bytes damaged goes = cc (damaged.1.1, goes.1.1)

pub turning_ends : (generation : ℕ) (bytes : List ℕ) → AreTurnedTo generation bytes → GoOn bytes → ⊥
turning_ends generation bytes turned goes = cc (turned.0, goes.1.0)

-- bytes that are damaged are not of a later generation
apart : (index generation : ℕ) (bytes : List ℕ) → AreDamagedAt index bytes → AreTurnedTo generation bytes → ⊥
apart index generation bytes damaged turned = cc (damaged.0, turned.0)

-- ---- one fault is the first

order : (a b : ℕ) → (a < b) ⊎ ((a ≡ b) ⊎ (b < a))
order a b = grind arith

module _ (stays : (front rest : List ℕ) → GoOn (front ++ rest) → GoOn front) where
  -- a shorter front of the same bytes goes on
  shorter_goes_on : (whole a b more rest : List ℕ) → whole ≡ a ++ more → whole ≡ b ++ rest → IsFirstFault b
      → length a < length b → GoOn a
  shorter_goes_on whole a b more rest of_a of_b first less =
      let before = first.0 in
      let byte = first.1 in
      let is : b ≡ before ++ byte ∷ [] = first.2 in
      let long = ap length is ∙ length-append before (byte ∷ []) in
      let within : length a ≤ length before = omega (arith, long, less) in
      let whole_is : whole ≡ before ++ byte ∷ rest = of_b ∙ ap (λ (t : List ℕ). t ++ rest) is
      ∙ append_assoc before (byte ∷ []) rest in
      let front_is : take (length a) before ≡ a =
      sym (take-append-le (length a) before (byte ∷ rest) within) ∙ ap (take (length a)) (sym whole_is ∙ of_a)
      ∙ take-append_seam a more in
      let parts : a ++ drop (length a) before ≡ before = ap (λ (t : List ℕ). t ++ drop (length a) before) (sym front_is)
      ∙ take-append-drop (length a) before in
      stays a (drop (length a) before) (subst GoOn (sym parts) first.3)

  -- two of them are one
  one_front : (whole a b more rest : List ℕ) → whole ≡ a ++ more → whole ≡ b ++ rest → IsFirstFault a → IsFirstFault b
      → (GoOn a → ⊥) → (GoOn b → ⊥) → a ≡ b
  one_front whole a b more rest of_a of_b first_a first_b ends_a ends_b = by (order (length a) (length b)) where
    by : (length a < length b) ⊎ ((length a ≡ length b) ⊎ (length b < length a)) → a ≡ b
    by (inl less) = absurd (ends_a (shorter_goes_on whole a b more rest of_a of_b first_b less))
    by (inr (inr more_than)) = absurd (ends_b (shorter_goes_on whole b a rest more of_b of_a first_a more_than))
    by (inr (inl same)) =
        sym (take-append_seam a more) ∙ ap (take (length a)) (sym of_a ∙ of_b)
        ∙ ap (λ (n : ℕ). take n (b ++ rest)) same ∙ take-append_seam b rest

  -- bytes that go on have no fault
  no_front : (whole : List ℕ) (P : List ℕ → Type 0) → GoOn whole → ((front : List ℕ) → P front → GoOn front → ⊥)
      → FaultIn whole P → ⊥
  no_front whole P goes ends h = ends h.0 h.3.1 (stays h.0 h.1 (subst GoOn h.2 goes))

  one_damage : (whole : List ℕ) (i j : ℕ) → FaultIn whole (AreDamagedAt i) → FaultIn whole (AreDamagedAt j) → i ≡ j
  one_damage whole i j h k =
      let same = one_front whole h.0 k.0 h.1 k.1 h.2 k.2 h.3.0 k.3.0 (damage_ends i h.0 h.3.1) (damage_ends j k.0 k.3.1)
      in
      let there : AreDamagedAt i k.0 = subst (AreDamagedAt i) same h.3.1 in
      let d = there.1 in
      let e = k.3.1.1 in
      cc (d.1, d.2, e.1, e.2)

  one_turning : (whole : List ℕ) (g h : ℕ) → FaultIn whole (AreTurnedTo g) → FaultIn whole (AreTurnedTo h) → g ≡ h
  one_turning whole g h a b =
      let same = one_front whole a.0 b.0 a.1 b.1 a.2 b.2 a.3.0 b.3.0 (turning_ends g a.0 a.3.1)
      (turning_ends h b.0 b.3.1) in
      let there : AreTurnedTo g b.0 = subst (AreTurnedTo g) same a.3.1 in
      sym there.1 ∙ b.3.1.1

  never_both : (whole : List ℕ) (i g : ℕ) → FaultIn whole (AreDamagedAt i) → FaultIn whole (AreTurnedTo g) → ⊥
  never_both whole i g a b =
      let same = one_front whole a.0 b.0 a.1 b.1 a.2 b.2 a.3.0 b.3.0 (damage_ends i a.0 a.3.1)
      (turning_ends g b.0 b.3.1) in
      apart i g b.0 (subst (AreDamagedAt i) same a.3.1) b.3.1

-- ---- of an input that tells its bytes

module _ (bytes read : List ℕ) (left : Option (List ℕ)) (reads : Reads (Some bytes) read left) where
  rest_of : (o : Option (List ℕ)) → Some bytes ≡ option_map (λ rest. read ++ rest) o → (rest : List ℕ) × (o ≡ Some rest)
      × (bytes ≡ read ++ rest)
  rest_of None is = absurd cc
  rest_of (Some rest) is = (rest, refl, ap (λ (o : Option (List ℕ)). unwrap_or o bytes) is)

  abbrev told : (rest : List ℕ) × (left ≡ Some rest) × (bytes ≡ read ++ rest)
  told = rest_of left reads

  -- at its end all of them were read
  all_read : IsOver left → bytes ≡ read
  all_read over =
      let none : told.0 ≡ [] = subst IsOver told.1 over in
      told.2 ∙ ap (λ (t : List ℕ). read ++ t) none ∙ append-nil read

  -- what stands in front of what was read stands in front of what is followed
  front_followed : (P : List ℕ → Type 0) → length read ≤ FED_MOST → FaultIn read P → FaultIn (take FED_MOST bytes) P
  front_followed P few h =
      let more = take (FED_MOST - length read) told.0 in
      let size : FED_MOST ≡ length read + (FED_MOST - length read) = omega (arith, few) in
      let whole : take FED_MOST bytes ≡ read ++ more =
      ap (take FED_MOST) told.2 ∙ ap (λ (n : ℕ). take n (read ++ told.0)) size
      ∙ take-append-add read told.0 (FED_MOST - length read) in
      (h.0, h.1 ++ more, (whole ∙ ap (λ (t : List ℕ). t ++ more) h.2 ∙ append_assoc h.0 h.1 more), h.3)

  -- what an end shows of the bytes that are followed
  abbrev Shows : Result (Unit {0}) Halt → Type 0
  Shows (Ok done) = (length bytes ≤ FED_MOST) × GoOn (take FED_MOST bytes)
  Shows (Err WriteFault) = (length bytes ≤ FED_MOST) × GoOn (take FED_MOST bytes)
  Shows (Err (Limit number)) = (number ≡ FED_MOST) × (FED_MOST < length bytes) × GoOn (take FED_MOST bytes)
  Shows (Err (DamagedInput index)) = FaultIn (take FED_MOST bytes) (AreDamagedAt index)
  Shows (Err (Rotated generation)) = FaultIn (take FED_MOST bytes) (AreTurnedTo generation)
  Shows (Err ReadFault) = Unit {0}
  Shows (Err NoMemory) = Unit {0}
  Shows (Err _) = ⊥

  whole_shows : (text : List ℕ) → IsWhole read left text → (length bytes ≤ FED_MOST) × GoOn (take FED_MOST bytes)
  whole_shows text h =
      let all = all_read h.over in
      let few : length bytes ≤ FED_MOST = subst (λ (t : List ℕ). length t ≤ FED_MOST) (sym all) h.few in
      (few, subst GoOn (sym all ∙ sym (take_all FED_MOST bytes few)) (h.state, h.leads))

  long_shows : length read ≡ FED_MOST + 1 → GoOn (take FED_MOST read) → (FED_MOST < length bytes)
      × GoOn (take FED_MOST bytes)
  long_shows long goes =
      let size = ap length told.2 ∙ length-append read told.0 in
      let same : take FED_MOST bytes ≡ take FED_MOST read = ap (take FED_MOST) told.2
      ∙ take-append-le FED_MOST read told.0 (omega (arith, long)) in
      (omega (arith, long, size), subst GoOn (sym same) goes)

  shows : (end : Result (Unit {0}) Halt) (text : List ℕ) → FollowsTo end read left text → Shows end
  shows (Ok done) text h = whole_shows text h
  shows (Err WriteFault) text h = whole_shows text h
  shows (Err (Limit number)) text h = let so = long_shows h.1 h.2 in (h.0, so.0, so.1)
  shows (Err (DamagedInput index)) text h = front_followed (AreDamagedAt index) h.0 h.1
  shows (Err (Rotated generation)) text h = front_followed (AreTurnedTo generation) h.0 h.1
  shows (Err ReadFault) text h = tt
  shows (Err NoMemory) text h = tt
  shows (Err (BadLine n)) text h = absurd h.1
  shows (Err DiskFault) text h = absurd h.1
  shows (Err (Damaged side number)) text h = absurd h.1

  module _ (stays : (front rest : List ℕ) → GoOn (front ++ rest) → GoOn front) where
    abbrev fed : List ℕ
    fed = take FED_MOST bytes

    no_damage : (index : ℕ) → GoOn fed → FaultIn fed (AreDamagedAt index) → ⊥
    no_damage index goes h = no_front stays fed (AreDamagedAt index) goes (damage_ends index) h

    no_turning : (generation : ℕ) → GoOn fed → FaultIn fed (AreTurnedTo generation) → ⊥
    no_turning generation goes h = no_front stays fed (AreTurnedTo generation) goes (turning_ends generation) h

    abbrev IsOrNone : Result (Unit {0}) Halt → Result (Unit {0}) Halt → Type 0
    IsOrNone end wanted = (end ≡ wanted) ⊎ (end ≡ Err NoMemory)

    whole_by : (end : Result (Unit {0}) Halt) → Shows end → length bytes ≤ FED_MOST → GoOn fed → status_of end ≢ 3
        → status_of end ≢ 4 → IsOrNone end (Ok tt)
    whole_by (Ok done) h few goes source sink = inl refl
    whole_by (Err WriteFault) h few goes source sink = absurd (sink refl)
    whole_by (Err (Limit number)) h few goes source sink = absurd (omega (arith, few, h.1))
    whole_by (Err (DamagedInput index)) h few goes source sink = absurd (no_damage index goes h)
    whole_by (Err (Rotated generation)) h few goes source sink = absurd (no_turning generation goes h)
    whole_by (Err ReadFault) h few goes source sink = absurd (source refl)
    whole_by (Err NoMemory) h few goes source sink = inr refl
    whole_by (Err (BadLine n)) h few goes source sink = absurd h
    whole_by (Err DiskFault) h few goes source sink = absurd h
    whole_by (Err (Damaged side number)) h few goes source sink = absurd h

    long_by : (end : Result (Unit {0}) Halt) → Shows end → FED_MOST < length bytes → GoOn fed → status_of end ≢ 3
        → IsOrNone end (Err (Limit FED_MOST))
    long_by (Ok done) h long goes source = absurd (omega (arith, long, h.0))
    long_by (Err WriteFault) h long goes source = absurd (omega (arith, long, h.0))
    long_by (Err (Limit number)) h long goes source = inl (ap (λ (n : ℕ). Err (Limit n)) h.0)
    long_by (Err (DamagedInput index)) h long goes source = absurd (no_damage index goes h)
    long_by (Err (Rotated generation)) h long goes source = absurd (no_turning generation goes h)
    long_by (Err ReadFault) h long goes source = absurd (source refl)
    long_by (Err NoMemory) h long goes source = inr refl
    long_by (Err (BadLine n)) h long goes source = absurd h
    long_by (Err DiskFault) h long goes source = absurd h
    long_by (Err (Damaged side number)) h long goes source = absurd h

    damaged_by : (end : Result (Unit {0}) Halt) (i : ℕ) → Shows end → FaultIn fed (AreDamagedAt i) → status_of end ≢ 3
        → IsOrNone end (Err (DamagedInput i))
    damaged_by (Ok done) i h fault source = absurd (no_damage i h.1 fault)
    damaged_by (Err WriteFault) i h fault source = absurd (no_damage i h.1 fault)
    damaged_by (Err (Limit number)) i h fault source = absurd (no_damage i h.2 fault)
    damaged_by (Err (DamagedInput index)) i h fault source =
        inl (ap (λ (n : ℕ). Err (DamagedInput n)) (one_damage stays fed index i h fault))
    damaged_by (Err (Rotated generation)) i h fault source = absurd (never_both stays fed i generation fault h)
    damaged_by (Err ReadFault) i h fault source = absurd (source refl)
    damaged_by (Err NoMemory) i h fault source = inr refl
    damaged_by (Err (BadLine n)) i h fault source = absurd h
    damaged_by (Err DiskFault) i h fault source = absurd h
    damaged_by (Err (Damaged side number)) i h fault source = absurd h

    turned_by : (end : Result (Unit {0}) Halt) (g : ℕ) → Shows end → FaultIn fed (AreTurnedTo g) → status_of end ≢ 3
        → IsOrNone end (Err (Rotated g))
    turned_by (Ok done) g h fault source = absurd (no_turning g h.1 fault)
    turned_by (Err WriteFault) g h fault source = absurd (no_turning g h.1 fault)
    turned_by (Err (Limit number)) g h fault source = absurd (no_turning g h.2 fault)
    turned_by (Err (DamagedInput index)) g h fault source = absurd (never_both stays fed index g h fault)
    turned_by (Err (Rotated generation)) g h fault source =
        inl (ap (λ (n : ℕ). Err (Rotated n)) (one_turning stays fed generation g h fault))
    turned_by (Err ReadFault) g h fault source = absurd (source refl)
    turned_by (Err NoMemory) g h fault source = inr refl
    turned_by (Err (BadLine n)) g h fault source = absurd h
    turned_by (Err DiskFault) g h fault source = absurd h
    turned_by (Err (Damaged side number)) g h fault source = absurd h

    module _ (end : Result (Unit {0}) Halt) (text : List ℕ) (follows : FollowsTo end read left text)
        (source : status_of end ≢ 3) where
      pub whole_so : length bytes ≤ FED_MOST → GoOn bytes → status_of end ≢ 4 → IsOrNone end (Ok tt)
      whole_so few goes sink = whole_by end (shows end text follows) few (subst GoOn (sym (take_all FED_MOST bytes few))
          goes) source sink

      pub long_so : FED_MOST < length bytes → GoOn fed → IsOrNone end (Err (Limit FED_MOST))
      long_so long goes = long_by end (shows end text follows) long goes source

      pub damaged_so : (index : ℕ) → FaultIn fed (AreDamagedAt index) → IsOrNone end (Err (DamagedInput index))
      damaged_so index fault = damaged_by end index (shows end text follows) fault source

      pub turned_so : (generation : ℕ) → FaultIn fed (AreTurnedTo generation) → IsOrNone end (Err (Rotated generation))
      turned_so generation fault = turned_by end generation (shows end text follows) fault source
