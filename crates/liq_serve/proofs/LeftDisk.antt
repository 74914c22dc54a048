-- The left disk's bytes, as they are followed, where a pair stands for a state of the first generation.
use Rattle.std.proofs.Common.{◌≡◌, ◌⊎◌, inl, inr, ⊎_elim, ℕ, ◌≤◌, List, length, get_or, Some, Result, Ok, Err, Bool, true, false, nat_lt, if◌then◌else◌, refl, sym, ◌∙◌, ap, arith}
use Rattle.std.specs.Prelude.{◌&&◌, ◌==◌, nat_le}
use Rattle.std.specs.Str.{bytes_eq}
use Rattle.std.proofs.lemmas.Bool.Decides.{nat_tests}
use Rattle.liq_types.specs.State.{State, opening, opening_with}
use Rattle.liq_disk_header.specs.Layout.{generation_on, header_size, layout_on, name_on}
use Rattle.liq_journal.specs.declared.damage.Damage.{Damage}
use Rattle.liq_journal.specs.Written.{Found, Absent, Damaged, Open, Written, found_on, is_generation}
use Rattle.liq_journal.proofs.Heading.{has_generation, is_open}
use Rattle.liq_disk_pair.specs.Pair.{Faulty, Holding, Nothing, journal_on, pair_journal, standing, state_on}
use Rattle.liq_disk_pair.specs.Replay.{outcome}
use Rattle.liq_disk_pair.proofs.Commands.{Leads, journal_leads}
use Rattle.liq_disk_pair.proofs.FirstPlace.{gate_is_open, gate_open_or_not}
use Rattle.liq_disk_pair.proofs.Generations.{outcome_generation}
use Rattle.liq_disk_pair.proofs.Standings.{standing_absent, standing_damaged, standing_faulty, standing_open, state_by}
use Rattle.liq_follower.specs.Fed.{LeadTo, begun_limit, fed, has_header, is_turned}

-- ---- an open disk of the first generation

header_there : (gate n m : ℕ) → gate ≡ 1 → n ≤ m → ((gate == 1) && nat_le n m) ≡ true
header_there gate n m one long = grind (arith, nat_tests)

unturned : (bytes : List ℕ) → generation_on bytes ≡ 1 → is_turned bytes ≡ false
unfolding is_turned
unturned bytes first = by (has_header bytes) (bytes_eq (name_on bytes) (layout_on bytes).name)
  where
    last : nat_lt 1 (generation_on bytes) ≡ false
    last = ap (nat_lt 1) first

    by : (a b : Bool) → (a && (b && nat_lt 1 (generation_on bytes))) ≡ false
    by true true = last
    by true false = refl
    by false b = refl

fed_open : (bytes : List ℕ) → has_header bytes ≡ true → fed bytes ≡ standing true bytes
unfolding fed
fed_open bytes there =
    ap (λ (b : Bool). if b then standing true bytes else Holding 1 (opening_with (begun_limit bytes))) there

open_leads : (l : List ℕ) (w : Written) (s : State) → found_on true l ≡ Open w → outcome w ≡ Ok s → w.generation ≡ 1
    → LeadTo l s
open_leads l w s found came first =
    let o = is_open true l w found in
    let begins = o.headed.start_is in
    let inside = o.headed.long in
    let long : header_size (layout_on l) ≤ length l = omega (arith, begins, inside) in (
      unturned l (o.headed.generation_is ∙ first),
      fed_open l (header_there (get_or l 0 0) (header_size (layout_on l)) (length l) (gate_is_open true l w found) long)
          ∙ standing_open true l w s found came ∙ ap (λ (n : ℕ). Holding n s) first,
    )

-- ---- what stands for the first generation is on the left disk, or nowhere

abbrev IsLeft : List ℕ → State → Type 0
IsLeft l s =
    ((found_on true l ≡ Absent) × (s ≡ opening))
    ⊎ ((w : Written) × (found_on true l ≡ Open w) × (outcome w ≡ Ok s) × (w.generation ≡ 1))

led_first : (w : Written) (s : State) → Leads (Some w) s → s.generation ≡ 1 → w.generation ≡ 1
led_first w s leads first = sym (outcome_generation w s leads.0.none leads.1) ∙ first

right_never : (r : List ℕ) (v : Written) (s : State) → found_on false r ≡ Open v → Leads (Some v) s
    → s.generation ≡ 1 → ⊥
right_never r v s found leads first =
    let no : false ≡ true = sym (ap (is_generation false) (led_first v s leads first)) ∙ has_generation false r v found
    in cc (no)

is_left : (l r : List ℕ) (s : State) → state_on l r ≡ Ok s → s.generation ≡ 1 → IsLeft l s
unfolding journal_on
is_left l r s is first = by (found_on true l) (found_on false r) refl refl (journal_leads l r s is)
  where
    later : (w v : Written) (b : Bool) → found_on true l ≡ Open w → found_on false r ≡ Open v
        → Leads (Some (if b then v else w)) s → IsLeft l s
    later w v true left right leads = absurd (right_never r v s right leads first)
    later w v false left right leads = inr (w, left, leads.1, led_first w s leads first)

    damaged_beside : (w : Written) (damage : Damage) (came : Result State Damage) → outcome w ≡ came
        → found_on true l ≡ Open w → found_on false r ≡ Damaged damage → IsLeft l s
    damaged_beside w damage (Ok t) came left right =
        absurd (cc (
          state_by l r (Holding w.generation t) (Faulty damage) (standing_open true l w t left came)
              (standing_damaged false r damage right),
          is,
        ))
    damaged_beside w damage (Err other) came left right =
        absurd (cc (
          state_by l r (Faulty other) (standing false r) (standing_faulty true l w other left came) refl,
          is,
        ))

    by : (left right : Found) → found_on true l ≡ left → found_on false r ≡ right
        → Leads (pair_journal left right) s → IsLeft l s
    by (Damaged damage) right left_is right_is leads =
        absurd (cc (
          state_by l r (Faulty damage) (standing false r) (standing_damaged true l damage left_is) refl,
          is,
        ))
    by Absent (Damaged damage) left_is right_is leads =
        absurd (cc (
          state_by l r Nothing (Faulty damage) (standing_absent true l left_is)
              (standing_damaged false r damage right_is),
          is,
        ))
    by Absent Absent left_is right_is leads = inl (left_is, sym leads)
    by Absent (Open v) left_is right_is leads = absurd (right_never r v s right_is leads first)
    by (Open w) Absent left_is right_is leads = inr (w, left_is, leads.1, led_first w s leads first)
    by (Open w) (Damaged damage) left_is right_is leads = damaged_beside w damage (outcome w) refl left_is right_is
    by (Open w) (Open v) left_is right_is leads =
        later w v (nat_lt w.generation v.generation) left_is right_is leads

-- ---- followed

pub left_followed : ((bytes : List ℕ) → (get_or bytes 0 0 ≡ 1 → ⊥) → LeadTo bytes opening)
    → (l r : List ℕ) (s : State) → state_on l r ≡ Ok s → s.generation ≡ 1
    → LeadTo l s ⊎ ((s ≡ opening) × (found_on true l ≡ Absent) × (get_or l 0 0 ≡ 1))
left_followed shut_leads l r s is first = ⊎_elim
    (λ none. ⊎_elim
    (λ gate. inr (none.1, none.0, gate))
    (λ shut. inl (leads_too none.1 (shut_leads l shut)))
    (gate_open_or_not l))
    (λ opened. inl (open_leads l opened.0 s opened.1 opened.2 opened.3))
    (is_left l r s is first)
  where
    leads_too : s ≡ opening → LeadTo l opening → LeadTo l s
    leads_too same leads = (leads.0, leads.1 ∙ ap (λ (t : State). Holding 1 t) (sym same))
