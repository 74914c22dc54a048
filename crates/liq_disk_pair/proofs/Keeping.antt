-- Which pairs are kept for a state.
use Rattle.std.proofs.Common.{◌≡◌, ◌≤◌, ◌⊎◌, inl, inr, ⊎_elim, ℕ, List, [], ◌∷◌, ◌++◌, Ok, Bool, true, false, sym, ◌∙◌, ap, subst}
use Rattle.liq_types.specs.declared.amounts.TheConstants.{LIM}
use Rattle.liq_types.specs.declared.image.Image.{Image}
use Rattle.liq_types.specs.declared.requests.Command.{Command}
use Rattle.liq_types.specs.State.{State, opening, opening_with}
use Rattle.liq_types.specs.WellFormed.{IsWellFormed}
use Rattle.liq_rule_step.specs.Step.{Allowed, after, ruling}
use Rattle.liq_rule_step.proofs.AlikeReads.{Alike}
use Rattle.liq_rule_step.proofs.AlikeReplies.{after_alike, ruling_alike}
use Rattle.liq_journal.specs.Crash.{BeforeOrAfter, IsClosed, Stands, is_odd}
use Rattle.liq_journal.specs.Written.{Absent, Open, Written, and_then, found_on}
use Rattle.liq_journal.proofs.Bodies.{found_no_rotation}
use Rattle.liq_journal.proofs.Heading.{has_generation}
use Rattle.liq_journal.proofs.Parity.{from_one}
use Rattle.liq_disk_pair.specs.declared.side.Side.{Side}
use Rattle.liq_disk_pair.specs.declared.side.Side.TheVariants.{Left}
use Rattle.liq_disk_pair.specs.Kept.{HoldsRecord, IsFirst, IsKept, IsKeptWith, IsSettledFor, IsUnbegun}
use Rattle.liq_disk_pair.specs.Pair.{StandFor, commands_on, standing}
use Rattle.liq_disk_pair.specs.Replay.{outcome}
use Rattle.liq_disk_pair.specs.Sides.{beside, has_odd, on, other}
use Rattle.liq_disk_pair.proofs.FirstPlace.{IsAside, closed_absent, gate_open_or_not, is_behind, opened_already, unopened_absent}
use Rattle.liq_disk_pair.proofs.Basing.{ends_in}
use Rattle.liq_disk_pair.proofs.KeptWith.{settled_commands, with_beside}
use Rattle.liq_disk_pair.proofs.Generations.{found_parity, outcome_generation}
use Rattle.liq_disk_pair.proofs.Replaying.{opening_formed, outcome_formed, outcome_none, outcome_then}
use Rattle.liq_disk_pair.proofs.Standings.{IsBehind, outcome_taken, pair_ends, state_none, state_taken}

-- ---- the state

-- the journal leads to a state that is the same as this one
pub record LeadsTo (w : Written) (s : State) : Type 0 where
  pub state : State
  pub came : outcome w ≡ Ok state
  pub alike : Alike state s

-- a pair stands for the state to which the journal on its taken disk leads
pub stand_before : (side : Side) (l r : List ℕ) (w : Written) (s : State) → LeadsTo w s
    → found_on (has_odd side) (on side l r) ≡ Open w
    → IsBehind w.generation (standing (has_odd (other side)) (beside side l r)) → StandFor l r s
stand_before side l r w s leads found behind = record {
  state = leads.state;
  is = state_taken side l r w leads.state found leads.came behind;
  same = record { image = leads.alike.image; records = leads.alike.records };
  formed = leads.alike.right;
}

pub stand_for : (side : Side) (l r : List ℕ) (w : Written) (s : State) → LeadsTo w s
    → found_on (has_odd side) (on side l r) ≡ Open w → IsAside (has_odd (other side)) (beside side l r) w.generation
    → StandFor l r s
stand_for side l r w s leads found aside =
    stand_before side l r w s leads found (is_behind (has_odd (other side)) (beside side l r) w.generation aside)

pub leads_before : (side : Side) (l r : List ℕ) (w : Written) (s : State) → StandFor l r s
    → found_on (has_odd side) (on side l r) ≡ Open w
    → IsBehind w.generation (standing (has_odd (other side)) (beside side l r)) → LeadsTo w s
leads_before side l r w s stands found behind =
    let came = outcome_taken side l r w stands.state found behind stands.is in
    record {
      state = stands.state;
      came = came;
      alike = record {
        image = stands.same.image;
        records = stands.same.records;
        left = outcome_formed w stands.state came;
        right = stands.formed;
      };
    }

pub leads_to : (side : Side) (l r : List ℕ) (w : Written) (s : State) → StandFor l r s
    → found_on (has_odd side) (on side l r) ≡ Open w → IsAside (has_odd (other side)) (beside side l r) w.generation
    → LeadsTo w s
leads_to side l r w s stands found aside =
    leads_before side l r w s stands found (is_behind (has_odd (other side)) (beside side l r) w.generation aside)

-- its generation is the state's
pub leads_generation : (odd : Bool) (bytes : List ℕ) (w : Written) (s : State) → found_on odd bytes ≡ Open w
    → LeadsTo w s → w.generation ≡ s.generation
leads_generation odd bytes w s found leads =
    sym (outcome_generation w leads.state (found_no_rotation odd bytes w found) leads.came)
    ∙ ap (λ (i : Image). i.generation) leads.alike.image

-- a journal that leads to a state leads further with one accepted command more
pub leads_further : (w : Written) (c : Command) (s : State) → LeadsTo w s → ruling s c ≡ Allowed
    → LeadsTo (and_then w c) (after s c)
leads_further w c s leads allowed = record {
  state = after leads.state c;
  came = outcome_then w c leads.state leads.came (ruling_alike leads.alike c ∙ allowed);
  alike = after_alike leads.alike c;
}

-- ---- kept, by the taken disk

module _ (side : Side) (l r : List ℕ) (w : Written) (s : State) (leads : LeadsTo w s)
    (aside : IsAside (has_odd (other side)) (beside side l r) w.generation) where
  -- with a 0 at its end
  pub settled_by : Stands (has_odd side) (on side l r) w → IsSettledFor side l r s
  settled_by stands = record {
    stands = stand_for side l r w s leads stands.found aside;
    written = w;
    open_on = stands;
    others = aside;
  }

-- of a settled pair, that of the taken disk's journal
pub settled_leads : (side : Side) (l r : List ℕ) (s : State) → (settled : IsSettledFor side l r s)
    → LeadsTo settled.written s
settled_leads side l r s settled =
    leads_to side l r settled.written s settled.stands settled.open_on.found settled.others

-- the side is that of the state's generation
pub settled_parity : (side : Side) (l r : List ℕ) (s : State) → IsSettledFor side l r s
    → has_odd side ≡ is_odd s.generation
settled_parity side l r s settled =
    let odd = has_odd side in
    let found = settled.open_on.found in
    found_parity odd (on side l r) settled.written found
    ∙ ap is_odd (leads_generation odd (on side l r) settled.written s found (settled_leads side l r s settled))

-- which is the first or a later one
pub settled_from_one : (side : Side) (l r : List ℕ) (s : State) → IsSettledFor side l r s → 1 ≤ s.generation
settled_from_one side l r s settled =
    let odd = has_odd side in
    let found = settled.open_on.found in
    subst (λ (n : ℕ). 1 ≤ n) (leads_generation odd (on side l r) settled.written s found
    (settled_leads side l r s settled))
    (from_one odd settled.written.generation (has_generation odd (on side l r) settled.written found))

-- a settled pair is kept
pub settled_kept : (side : Side) (l r : List ℕ) (s : State) → IsSettledFor side l r s → IsKept l r s
settled_kept side l r s settled = record {
  stands = settled.stands;
  rests = inl (
    side,
    record {
      written = settled.written;
      found = settled.open_on.found;
      end = inl settled.open_on.ended;
      others = ⊎_elim (λ closed. inl closed) (λ older. inr (inl older)) settled.others;
    },
  );
}

-- a record is pending at its end
pub pending_kept : (side : Side) (l r : List ℕ) (w : Written) (s : State) (c : Command) → LeadsTo w s
    → IsAside (has_odd (other side)) (beside side l r) w.generation → HoldsRecord (has_odd side) (on side l r) w s c
    → IsKept l r s
pending_kept side l r w s c leads aside holds = record {
  stands = stand_for side l r w s leads holds.pending.found aside;
  rests = inl (
    side,
    record {
      written = w;
      found = holds.pending.found;
      end = inr (c, holds);
      others = ⊎_elim (λ closed. inl closed) (λ older. inr (inl older)) aside;
    },
  );
}

-- ---- an append

-- What a stop in an append leaves of a settled pair, and what it reads after a fault: a pair kept for the state or,
-- with the record, for the state after its command.
pub append_kept : (side : Side) (l r a b : List ℕ) (s : State) (c : Command) (settled : IsSettledFor side l r s)
    → ruling s c ≡ Allowed
    → beside side a b ≡ beside side l r → BeforeOrAfter (has_odd side) settled.written c (on side a b)
    → IsKeptWith a b s (commands_on l r) ⊎ IsKeptWith a b (after s c) (commands_on l r ++ c ∷ [])
append_kept side l r a b s c settled allowed same left =
    let w = settled.written in
    let held = commands_on l r in
    let holds : w.commands ≡ held = sym (settled_commands side l r s settled) in
    let leads = settled_leads side l r s settled in
    let aside : IsAside (has_odd (other side)) (beside side a b) w.generation =
    subst (λ (x : List ℕ). IsAside (has_odd (other side)) x w.generation) (sym same) settled.others in
    ⊎_elim
    (λ before. inl (with_beside side a b w before.found aside s held
    (settled_kept side a b s (settled_by side a b w s leads aside before)) holds))
    (λ more. ⊎_elim
    (λ pending. inl (with_beside side a b w pending.found aside s held
    (pending_kept side a b w s c leads aside (record { pending = pending; allowed = allowed })) holds))
    (λ behind. inr (with_beside side a b (and_then w c) behind.found aside (after s c) (held ++ c ∷ [])
    (settled_kept side a b (after s c) (settled_by side a b (and_then w c) (after s c)
    (leads_further w c s leads allowed) aside behind)) (ap (λ (cs : List Command). cs ++ c ∷ []) holds)))
    more)
    left

-- once its record stands, the pair is settled for the state after its command
pub append_settled : (side : Side) (l r a b : List ℕ) (s : State) (c : Command) (settled : IsSettledFor side l r s)
    → ruling s c ≡ Allowed
    → beside side a b ≡ beside side l r → Stands (has_odd side) (on side a b) (and_then settled.written c)
    → IsSettledFor side a b (after s c)
append_settled side l r a b s c settled allowed same stands =
    let w = settled.written in
    let leads = settled_leads side l r s settled in
    let aside : IsAside (has_odd (other side)) (beside side a b) w.generation =
    subst (λ (x : List ℕ). IsAside (has_odd (other side)) x w.generation) (sym same) settled.others in
    settled_by side a b (and_then w c) (after s c) (leads_further w c s leads allowed) aside stands

-- ---- none begun

pub first_leads : (w : Written) (s : State) → w.generation ≡ 1 → w.limit ≡ LIM → w.commands ≡ [] → Alike opening s
    → LeadsTo w s
first_leads w s first limit none alike = record {
  state = opening;
  came = outcome_none w first none ∙ ap (λ (n : ℕ). ends_in (opening_with n)) limit;
  alike = alike;
}

-- the state for which two disks without a journal stand
pub none_alike : (l r : List ℕ) (s : State) → StandFor l r s → found_on true l ≡ Absent → found_on false r ≡ Absent
    → Alike opening s
none_alike l r s stands left right =
    let both : pair_ends opening ≡ Ok stands.state = sym (state_none l r left right) ∙ stands.is in
    let same : opening ≡ stands.state = cc (both) in
    subst (λ (t : State). Alike t s) (sym same) (record {
      image = stands.same.image;
      records = stands.same.records;
      left = subst (λ (t : State). IsWellFormed t) same (opening_formed LIM);
      right = stands.formed;
    })

none_stand : (l r : List ℕ) (s : State) → Alike opening s → found_on true l ≡ Absent → found_on false r ≡ Absent
    → StandFor l r s
none_stand l r s alike left right = record {
  state = opening;
  is = state_none l r left right;
  same = record { image = alike.image; records = alike.records };
  formed = alike.right;
}

none_kept : (l r : List ℕ) (s : State) → Alike opening s → IsUnbegun true l → IsUnbegun false r → IsKept l r s
none_kept l r s alike left right = record { stands = none_stand l r s alike left.0 right.0; rests = inr (left, right) }

-- the first generation without records, open
pub first_settled : (l r : List ℕ) (w : Written) (s : State) → Alike opening s → Stands true l w → w.generation ≡ 1
    → w.limit ≡ LIM → w.commands ≡ [] → IsClosed r → IsSettledFor Left l r s
first_settled l r w s alike stands first limit none closed =
    settled_by Left l r w s (first_leads w s first limit none alike) (inl closed) stands

-- the first generation without records, open or not, or a closed disk, beside a closed one
pub begun_kept : (l r : List ℕ) (s : State) → Alike opening s → IsClosed l ⊎ IsFirst true l → IsClosed r → IsKept l r s
begun_kept l r s alike (inl left) closed = none_kept l r s alike (closed_absent true l left, inl left)
    (closed_absent false r closed, inl closed)
begun_kept l r s alike (inr first) closed = ⊎_elim
    (λ gate. settled_kept Left l r s (first_settled l r first.written s alike
    (subst (λ (x : List ℕ). Stands true x first.written) (opened_already l gate) first.stands) first.first
    first.limit_is first.none closed))
    (λ shut. none_kept l r s alike (unopened_absent true l shut, inr first) (closed_absent false r closed, inl closed))
    (gate_open_or_not l)
