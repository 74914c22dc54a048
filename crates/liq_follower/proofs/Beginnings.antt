-- The beginning of an undamaged journal is undamaged, and leads to a beginning of its commands.
use Rattle.std.proofs.Common.{◌≡◌, inl, inr, ℕ, zero, suc, ◌+◌, ◌<◌, ◌≤◌, List, [], ◌∷◌, ◌++◌, length, take, drop, get_or, Result, Ok, Err, true, false, not, refl, sym, ◌∙◌, ap, subst, arith, length-append}
use Rattle.std.specs.Prelude.{◌⊎◌, ◌==◌, ◌&&◌, nat_le}
use Rattle.std.specs.Str.{bytes_eq}
use Rattle.std.proofs.lemmas.Bool.Decides.{nat_tests}
use Rattle.std.proofs.lemmas.Bool.{cases_Bool}
use Rattle.std.proofs.lemmas.List.{drop-append-le, take-append-le, take_all, take_at}
use Rattle.liq_types.specs.declared.requests.Command.{Command}
use Rattle.liq_types.specs.State.{State, opening_with}
use Rattle.liq_rule_step.specs.Step.{after}
use Rattle.liq_disk_header.specs.Layout.{Layout, generation_on, header_size, layout_named, layout_on, name_on, size_on}
use Rattle.liq_journal.specs.Records.{records}
use Rattle.liq_journal.specs.declared.damage.Damage.{Damage}
use Rattle.liq_journal.specs.Written.{Absent, Damaged, Found, Open, Written, found_on, found_records, header_tests, most_records, start_of}
use Rattle.liq_journal.proofs.Heading.{IsOpen, are_false, header_decides, is_open, of_records}
use Rattle.liq_journal.proofs.Reading.{byte_alike, number_alike, piece_alike}
use Rattle.liq_disk_pair.specs.Pair.{Holding, standing, standing_after, standing_of}
use Rattle.liq_disk_pair.specs.Replay.{outcome, replay}
use Rattle.liq_disk_pair.proofs.Basing.{outcome_first}
use Rattle.liq_disk_pair.proofs.Replaying.{first_accepted, replay_allowed, replay_none}
use Rattle.liq_disk_pair.proofs.Standings.{standing_open}
use Rattle.liq_follower.specs.Fed.{GoOn, LeadTo, begun_limit, has_header}
use Rattle.liq_follower.proofs.Found.{FrontOf, both, first_unturned, found_front, records_front}
use Rattle.liq_follower.proofs.Fronts.{fed_behind}
use Rattle.liq_follower.proofs.Growing.{least}
use Rattle.liq_follower.proofs.Headed.{named, no_size}
use Rattle.liq_follower.proofs.Headers.{no_header, too_short}

-- ---- commands

-- the first commands of a replay lead to a state
replay_front : (n index : ℕ) (s end : State) (cs : List Command) → replay index s cs ≡ Ok end → (t : State)
    × (replay index s (take n cs) ≡ Ok t)
replay_front zero index s end cs came = (s, replay_none index s)
replay_front (suc n) index s end [] came = (s, replay_none index s)
replay_front (suc n) index s end (c ∷ cs) came =
    let a = first_accepted index s end c cs came in
    let r = replay_front n (index + 1) (after s c) end cs a.rest in
    (r.0, replay_allowed index s c (take n cs) a.allowed ∙ r.1)

-- ---- a journal

module _ (bytes rest : List ℕ) (w : Written) (s : State)
    (found : found_on true (bytes ++ rest) ≡ Open w) (first : w.generation ≡ 1) (came : outcome w
    ≡ Ok s) (named_there : 9 ≤ length bytes) where
  abbrev held : List ℕ
  held = bytes ++ rest

  abbrev m : ℕ
  m = length bytes

  o : IsOpen (layout_on held) true held w (start_of w)
  o = is_open true held w found

  alike : take m bytes ≡ take m held
  alike = take_all m bytes (omega arith) ∙ sym (take_at bytes rest m refl)

  long : length held ≡ m + length rest
  long = length-append bytes rest

  open_gate : get_or bytes 0 0 ≡ 1
  open_gate = byte_alike m held bytes alike 0 (omega arith) ∙ (let absent = o.headed.gate in grind (arith, nat_tests))

  same_name : name_on bytes ≡ name_on held
  same_name = piece_alike m held bytes alike 1 8 (omega arith)

  same_layout : layout_on bytes ≡ layout_on held
  same_layout = ap layout_named same_name

  tests : not (bytes_eq (name_on held) (layout_on held).name) ≡ false
  tests = (are_false (header_tests (layout_on held) true held) o.headed.tests).0

  limit_is : begun_limit bytes ≡ w.limit
  limit_is =
      let right : not (bytes_eq (name_on bytes) (layout_on bytes).name) ≡ false =
      (λ i. not (bytes_eq (same_name i) (same_layout i).name)) ∙ tests in
      (named bytes open_gate right).limit ∙ ap (λ (l : Layout). l.limit) same_layout ∙ sym o.limit_is

  abbrev Led : Type 0
  Led = (count : ℕ) × ((t : State) × (replay 1 (opening_with w.limit) (take count w.commands) ≡ Ok t) × LeadTo bytes t)

  begun : m < header_size (layout_on bytes) → Led
  begun less = (
    0,
    (
      opening_with w.limit,
      replay_none 1 (opening_with w.limit),
      subst (λ (limit : ℕ). LeadTo bytes (opening_with limit)) limit_is (no_header bytes (too_short (get_or bytes 0 0)
          (header_size (layout_on bytes)) m less)),
    ),
  )

  empty : size_on held ≡ 0
  empty = no_size held (o.headed.generation_is ∙ first) o.headed.tests

  module _ (whole : header_size (layout_on bytes) ≤ m) where
    start : start_of w ≤ m
    start = let l = ap header_size same_layout in let s = o.headed.start_is in let none = empty in omega arith

    has : has_header bytes ≡ true
    has = both (get_or bytes 0 0) (header_size (layout_on bytes)) m open_gate whole

    generation_is : generation_on bytes ≡ 1
    generation_is =
        number_alike m held bytes alike 9 8 (omega arith)
        ∙ o.headed.generation_is ∙ first

    abbrev raws : List (List ℕ)
    raws = records most_records (drop (start_of w) bytes)

    front : FrontOf w.generation w.limit w.checkpoint 1 (start_of w) raws w
    front =
        let split = records_front most_records (drop (start_of w) bytes) rest in
        let there : drop (start_of w) held ≡ drop (start_of w) bytes ++ rest =
        drop-append-le (start_of w) bytes rest start in
        found_front w.generation w.limit w.checkpoint 1 (start_of w) raws split.0 w (
        ap (found_records w.generation w.limit w.checkpoint 1 (start_of w)) (sym split.1
        ∙ ap (records most_records) (sym there)) ∙ o.behind
        )

    found_here : found_on true bytes ≡ Open front.written
    found_here = header_decides true held bytes w m found start (omega (arith, long)) alike ∙ front.found

    whole_led : Led
    whole_led =
        let v = front.written in
        let of = of_records w.generation w.limit w.checkpoint 1 (start_of w) raws v front.found in
        let all : replay 1 (opening_with w.limit) w.commands ≡ Ok s = sym (outcome_first w first) ∙ came in
        let part = replay_front (length raws) 1 (opening_with w.limit) s w.commands all in
        let leads : outcome v ≡ Ok part.0 =
        outcome_first v (of.generation_is ∙ first)
        ∙ (λ i. replay 1 (opening_with (of.limit_is i)) (front.commands i))
        ∙ part.1 in (
          length raws,
          (
            part.0,
            part.1,
            (
              first_unturned bytes generation_is,
              fed_behind bytes has ∙ standing_open true bytes v part.0 found_here leads
                  ∙ ap (λ (g : ℕ). Holding g part.0) (of.generation_is ∙ first),
            ),
          ),
        )

  order : (a b : ℕ) → (a < b) ⊎ (b ≤ a)
  order a b = grind arith

  pub beginning_leads : Led
  beginning_leads = by (order m (header_size (layout_on bytes))) where
    by : (m < header_size (layout_on bytes)) ⊎ (header_size (layout_on bytes) ≤ m) → Led
    by (inl less) = begun less
    by (inr whole) = whole_led whole

-- ---- bytes that hold no fault

-- the journal that is whole on them
pub record Holds (found : Found) (s : State) : Type 0 where
  pub written : Written
  pub is : found ≡ Open written
  pub first : written.generation ≡ 1
  pub came : outcome written ≡ Ok s

holding : (found : Found) (s : State) → standing_of found ≡ Holding 1 s → Holds found s
holding Absent s is = absurd (cc (is))
holding (Damaged damage) s is = absurd (cc (is))
holding (Open w) s is = by (outcome w) refl is where
  by : (came : Result State Damage) → outcome w ≡ came → standing_after w.generation came ≡ Holding 1 s
      → Holds (Open w) s
  by (Err damage) came is = absurd (cc (is))
  by (Ok t) came is =
      let same : t ≡ s = cc (is) in
      let one : w.generation ≡ 1 = cc (is) in
      record { written = w; is = refl; first = one; came = came ∙ ap (λ (u : State). Ok u) same }

pub held_by : (bytes : List ℕ) (s : State) → standing true bytes ≡ Holding 1 s → Holds (found_on true bytes) s
unfolding standing
held_by bytes s is = holding (found_on true bytes) s is

-- a whole header is whole whatever follows
still_headed : (bytes rest : List ℕ) → has_header bytes ≡ true → (9 ≤ length bytes)
    × (has_header (bytes ++ rest) ≡ true)
still_headed bytes rest has =
    let parts : (get_or bytes 0 0 ≡ 1) × (header_size (layout_on bytes) ≤ length bytes) =
    of_both (get_or bytes 0 0) (header_size (layout_on bytes)) (length bytes) has in
    let l = least bytes in
    let size = parts.1 in
    let there : 9 ≤ length bytes = omega arith in
    let alike : take 9 (bytes ++ rest) ≡ take 9 bytes = take-append-le 9 bytes rest there in
    let gate : get_or (bytes ++ rest) 0 0 ≡ 1 = byte_alike 9 bytes (bytes ++ rest) alike 0 (omega arith) ∙ parts.0 in
    let same : layout_on (bytes ++ rest) ≡ layout_on bytes =
    ap layout_named (piece_alike 9 bytes (bytes ++ rest) alike 1 8 (omega arith)) in
    let long = length-append bytes rest in
    let sizes = ap header_size same in (
      there,
      both (get_or (bytes ++ rest) 0 0) (header_size (layout_on (bytes ++ rest))) (length (bytes ++ rest)) gate
          (omega arith),
    )
  where
    of_both : (gate n m : ℕ) → ((gate == 1) && nat_le n m) ≡ true → (gate ≡ 1) × (n ≤ m)
    of_both gate n m is = (grind (arith, nat_tests), grind (arith, nat_tests))

-- a beginning of bytes that hold no fault holds none
pub beginning_goes : (bytes rest : List ℕ) → GoOn (bytes ++ rest) → GoOn bytes
beginning_goes bytes rest (s, lead) = elim (cases_Bool (has_header bytes)) [
  | inr none ↦ (opening_with (begun_limit bytes), no_header bytes none)
  | inl has ↦
      let headed = still_headed bytes rest has in
      let holds = held_by (bytes ++ rest) s (sym (fed_behind (bytes ++ rest) headed.1) ∙ lead.1) in
      let led = beginning_leads bytes rest holds.written s holds.is holds.first holds.came headed.0 in
      (led.1.0, led.1.2)
]
