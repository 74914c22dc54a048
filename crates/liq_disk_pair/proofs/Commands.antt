-- The journal that counts, of two disks: its commands lead to the state for which they stand, and its limit is this
-- state's.
use Rattle.std.proofs.Common.{◌≡◌, ℕ, List, inr, Option, Some, None, Result, Ok, Err, Bool, true, false, nat_lt, refl, sym, ◌∙◌, ap, subst, if◌then◌else◌}
use Rattle.liq_types.specs.Image.{IsLimit}
use Rattle.liq_types.specs.State.{State, opening, opening_with}
use Rattle.liq_journal.specs.declared.damage.Damage.{Damage}
use Rattle.liq_journal.specs.Written.{Found, Absent, Damaged, Open, Written, found_on}
use Rattle.liq_journal.proofs.Bodies.{found_no_rotation}
use Rattle.liq_journal.proofs.Heading.{has_limit}
use Rattle.liq_disk_pair.specs.declared.side.Side.{Side}
use Rattle.liq_disk_pair.specs.Pair.{Nothing, commands_on, journal_commands, journal_limit, journal_on, limit_on, pair_journal, pair_state, standing, standing_after, standing_of, state_on}
use Rattle.liq_disk_pair.specs.Replay.{base_of, outcome, replay}
use Rattle.liq_disk_pair.proofs.Basing.{ends_in, outcome_first}
use Rattle.liq_disk_pair.proofs.Generations.{HaveNoRotation, outcome_generation, outcome_limit}
use Rattle.liq_disk_pair.proofs.Replaying.{leads_from, replay_none}
use Rattle.liq_disk_pair.proofs.Standings.{pair_ends}

-- ---- what is found decides it

journal_alike : (l r a b : List ℕ) → found_on true a ≡ found_on true l → found_on false b ≡ found_on false r
    → journal_on a b ≡ journal_on l r
unfolding journal_on
journal_alike l r a b left right = λ i. pair_journal (left i) (right i)

pub commands_alike : (l r a b : List ℕ) → found_on true a ≡ found_on true l → found_on false b ≡ found_on false r
    → commands_on a b ≡ commands_on l r
unfolding commands_on
commands_alike l r a b left right = ap journal_commands (journal_alike l r a b left right)

pub limit_alike : (l r a b : List ℕ) → found_on true a ≡ found_on true l → found_on false b ≡ found_on false r
    → limit_on a b ≡ limit_on l r
unfolding limit_on
limit_alike l r a b left right = ap journal_limit (journal_alike l r a b left right)

pub commands_by : (l r : List ℕ) (left right : Found) → found_on true l ≡ left → found_on false r ≡ right
    → commands_on l r ≡ journal_commands (pair_journal left right)
unfolding commands_on journal_on
commands_by l r left right is_left is_right = λ i. journal_commands (pair_journal (is_left i) (is_right i))

-- ---- it leads to the state

-- what is known of it: no record of it is a rotation, and its limit is one of two
pub record IsWell (w : Written) : Type 0 where
  pub none : HaveNoRotation w.commands
  pub limit : IsLimit w.limit

abbrev AreWell : Found → Type 0
AreWell Absent = Unit {0}
AreWell (Damaged damage) = Unit {0}
AreWell (Open w) = IsWell w

are_well : (odd : Bool) (bytes : List ℕ) → AreWell (found_on odd bytes)
are_well odd bytes = by (found_on odd bytes) refl
  where
    by : (found : Found) → found_on odd bytes ≡ found → AreWell found
    by Absent is = tt
    by (Damaged damage) is = tt
    by (Open w) is = record { none = found_no_rotation odd bytes w is; limit = has_limit odd bytes w is }

-- the journal that counts, if there is one, leads to this state; else it is the opening state
abbrev pub Leads : Option Written → State → Type 0
Leads None s = opening ≡ s
Leads (Some w) s = IsWell w × (outcome w ≡ Ok s)

same_end : (s t : State) → pair_ends s ≡ Ok t → ends_in s ≡ Ok t
same_end s t is = let same : s ≡ t = cc (is) in ap ends_in same

-- one open disk, beside which none is
alone_left : (generation : ℕ) (r : Result State Damage) (s : State) → pair_state (standing_after generation r) Nothing
    ≡ Ok s → r ≡ Ok s
alone_left generation (Ok t) s is = same_end t s is
alone_left generation (Err damage) s is = absurd (cc (is))

alone_right : (generation : ℕ) (r : Result State Damage) (s : State) → pair_state Nothing (standing_after generation r)
    ≡ Ok s → r ≡ Ok s
alone_right generation (Ok t) s is = same_end t s is
alone_right generation (Err damage) s is = absurd (cc (is))

-- two open disks
abbrev chosen : Bool → State → State → Result State (Side × Damage)
chosen b s t = Ok (if b then t else s)

of_two : (b : Bool) (w later : Written) (s t end : State) → IsWell w → IsWell later
    → outcome w ≡ Ok s → outcome later ≡ Ok t → chosen b s t ≡ Ok end → Leads (Some (if b then later else w)) end
of_two true w later s t end well well_later came came_later is = (well_later, came_later ∙ same_end t end is)
of_two false w later s t end well well_later came came_later is = (well, came ∙ same_end s end is)

both : (w later : Written) (r t : Result State Damage) (end : State) → IsWell w → IsWell later
    → outcome w ≡ r → outcome later ≡ t
    → pair_state (standing_after w.generation r) (standing_after later.generation t) ≡ Ok end
    → Leads (pair_journal (Open w) (Open later)) end
both w later (Ok s) (Ok t) end well well_later came came_later is =
    of_two (nat_lt w.generation later.generation) w later s t end well well_later came came_later is
both w later (Ok s) (Err damage) end well well_later came came_later is = absurd (cc (is))
both w later (Err damage) t end well well_later came came_later is = absurd (cc (is))

found_leads : (left right : Found) (s : State) → AreWell left → AreWell right
    → pair_state (standing_of left) (standing_of right) ≡ Ok s → Leads (pair_journal left right) s
found_leads (Damaged damage) right s well well_right is = absurd (cc (is))
found_leads Absent (Damaged damage) s well well_right is = absurd (cc (is))
found_leads Absent Absent s well well_right is = cc (is)
found_leads Absent (Open w) s well well_right is = (well_right, alone_right w.generation (outcome w) s is)
found_leads (Open w) Absent s well well_right is = (well, alone_left w.generation (outcome w) s is)
found_leads (Open w) (Damaged damage) s well well_right is = damaged_beside w.generation (outcome w) is
  where
    damaged_beside : (generation : ℕ) (r : Result State Damage)
        → pair_state (standing_after generation r) (standing_of (Damaged damage)) ≡ Ok s → Leads None s
    damaged_beside generation (Ok t) is = absurd (cc (is))
    damaged_beside generation (Err first) is = absurd (cc (is))
found_leads (Open w) (Open later) s well well_later is =
    both w later (outcome w) (outcome later) s well well_later refl refl is

pub journal_leads : (l r : List ℕ) (s : State) → state_on l r ≡ Ok s → Leads (journal_on l r) s
unfolding state_on standing journal_on
journal_leads l r s is =
    found_leads (found_on true l) (found_on false r) s (are_well true l) (are_well false r) is

-- a state of generation 1 comes from the opening under the journal's limit
by_first : (o : Option Written) (s : State) → Leads o s → s.generation ≡ 1
    → replay 1 (opening_with (journal_limit o)) (journal_commands o) ≡ Ok s
by_first None s leads first = replay_none 1 opening ∙ ap ends_in leads
by_first (Some w) s leads first =
    sym (outcome_first w (sym (outcome_generation w s leads.0.none leads.1) ∙ first)) ∙ leads.1

pub commands_lead : (l r : List ℕ) (s : State) → state_on l r ≡ Ok s → s.generation ≡ 1
    → replay 1 (opening_with (limit_on l r)) (commands_on l r) ≡ Ok s
unfolding commands_on limit_on
commands_lead l r s is first = by_first (journal_on l r) s (journal_leads l r s is) first

-- each other one from the state with which the journal begins
pub commands_begun : (l r : List ℕ) (s : State) (w : Written) → state_on l r ≡ Ok s → journal_on l r ≡ Some w
    → (base : State) × (base_of w ≡ Ok base) × (replay 1 base (commands_on l r) ≡ Ok s)
unfolding commands_on
commands_begun l r s w is counts =
    let leads : Leads (Some w) s = subst (λ (o : Option Written). Leads o s) counts (journal_leads l r s is) in
    let from = leads_from w s leads.1 in (
      from.base,
      from.begun,
      ap (λ (o : Option Written). replay 1 from.base (journal_commands o)) counts ∙ from.came,
    )

-- ---- its limit

by_limit : (o : Option Written) (s : State) → Leads o s → s.limit ≡ journal_limit o
by_limit None s leads = sym (ap (λ (t : State). t.limit) leads)
by_limit (Some w) s leads = outcome_limit w s leads.0.none leads.1

pub state_limit : (l r : List ℕ) (s : State) → state_on l r ≡ Ok s → s.limit ≡ limit_on l r
unfolding limit_on
state_limit l r s is = by_limit (journal_on l r) s (journal_leads l r s is)

two_limits : (left right : Found) → AreWell left → AreWell right → IsLimit (journal_limit (pair_journal left right))
two_limits (Damaged damage) right well well_right = inr refl
two_limits Absent (Damaged damage) well well_right = inr refl
two_limits Absent Absent well well_right = inr refl
two_limits Absent (Open w) well well_right = well_right.limit
two_limits (Open w) (Damaged damage) well well_right = inr refl
two_limits (Open w) Absent well well_right = well.limit
two_limits (Open w) (Open later) well well_later = by (nat_lt w.generation later.generation)
  where
    by : (b : Bool) → IsLimit (journal_limit (Some (if b then later else w)))
    by true = well_later.limit
    by false = well.limit

pub one_of_two : (l r : List ℕ) → IsLimit (limit_on l r)
unfolding limit_on journal_on
one_of_two l r = two_limits (found_on true l) (found_on false r) (are_well true l) (are_well false r)
