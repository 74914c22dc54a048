-- A rotation: the next generation begins on the other disk.
use Rattle.std.proofs.Common.{◌≡◌, ◌⊎◌, inl, inr, ⊎_elim, ℕ, ◌+◌, ◌<◌, ◌≤◌, List, [], length, None, Ok, refl, sym, ◌∙◌, ap, subst, arith}
use Rattle.liq_types.specs.declared.amounts.TheConstants.{LIM}
use Rattle.liq_types.specs.declared.requests.Call.{Call}
use Rattle.liq_types.specs.declared.requests.Call.TheVariants.{Rotate}
use Rattle.liq_types.specs.declared.requests.Command.{Command}
use Rattle.liq_types.specs.Soundness.{first_unsound}
use Rattle.liq_types.specs.State.{State, started}
use Rattle.liq_types.specs.WellFormed.{IsWellFormed}
use Rattle.liq_rule_step.specs.Image.{image}
use Rattle.liq_rule_step.specs.Rules.{effect}
use Rattle.liq_rule_step.specs.Step.{Allowed, after, records_after, ruling}
use Rattle.liq_rule_step.proofs.AlikeReplies.{after_alike, alike_itself}
use Rattle.liq_rule_step.proofs.Begun.{begins_again}
use Rattle.liq_checkpoint.specs.Reading.{image_at}
use Rattle.liq_checkpoint.specs.Spelling.{spelling}
use Rattle.liq_journal.specs.Crash.{CreateLeaves, Stands, beginning}
use Rattle.liq_journal.specs.Written.{Written}
use Rattle.liq_disk_pair.specs.declared.side.Side.{Side}
use Rattle.liq_disk_pair.specs.declared.side.Side.TheVariants.{Left, Right}
use Rattle.liq_disk_pair.specs.Kept.{HoldsRotation, IsKept, IsKeptWith, IsOlder, IsRotationOf, IsSettledFor}
use Rattle.liq_disk_pair.specs.Pair.{commands_on}
use Rattle.liq_disk_pair.specs.Sides.{beside, has_odd, on, other}
use Rattle.liq_disk_pair.proofs.Basing.{base_read}
use Rattle.liq_disk_pair.proofs.FirstPlace.{IsAside, aside_settled, gate_open_or_not, open_older, opened_already, rotation_behind}
use Rattle.liq_disk_pair.proofs.Keeping.{LeadsTo, leads_generation, settled_by, settled_kept, settled_leads, stand_before}
use Rattle.liq_disk_pair.proofs.KeptWith.{commands_taken, settled_commands, turned_commands, with_beside}
use Rattle.liq_disk_pair.proofs.Replaying.{outcome_formed, outcome_from, replay_none}

-- ---- where it leads

pub after_formed : (s : State) (c : Command) → IsWellFormed s → IsWellFormed (after s c)
after_formed s c formed = (after_alike (alike_itself s formed) c).left

pub rotation_leads : (s : State) (w : Written) (c : Command) → IsWellFormed s → IsRotationOf s w c
    → LeadsTo w (after s c)
rotation_leads s w c formed rotation = record {
  state = rotation.state;
  came = rotation.came;
  alike = record {
    image = rotation.same.image;
    records = rotation.same.records;
    left = outcome_formed w rotation.state rotation.came;
    right = after_formed s c formed;
  };
}

-- ---- on the other disk

-- the journal there is taken, where the one on this side is older
pub turned : (side : Side) (l r : List ℕ) (w : Written) (s : State) → LeadsTo w s
    → IsOlder (has_odd side) (on side l r) w.generation
    → Stands (has_odd (other side)) (beside side l r) w → IsSettledFor (other side) l r s
turned Left l r w s leads older stands = settled_by Right l r w s leads (inr older) stands
turned Right l r w s leads older stands = settled_by Left l r w s leads (inr older) stands

-- the rotation is of a greater generation
next_later : (side : Side) (l r : List ℕ) (w : Written) (s : State) (c : Command) (next : Written) → LeadsTo w s
    → Stands (has_odd side) (on side l r) w → IsRotationOf s next c → w.generation < next.generation
next_later side l r w s c next leads stands rotation =
    let now = leads_generation (has_odd side) (on side l r) w s stands.found leads in
    let then = rotation.generation_is in
    omega (arith, now, then)

-- it holds the rotation, and isn't open
pub turning_kept : (side : Side) (l r : List ℕ) (w : Written) (s : State) (c : Command) → LeadsTo w s
    → Stands (has_odd side) (on side l r) w
    → HoldsRotation (has_odd (other side)) (beside side l r) s c → IsKept l r s
turning_kept side l r w s c leads stands holds = record {
  stands = stand_before side l r w s leads stands.found
      (rotation_behind (has_odd (other side)) (beside side l r) w.generation s c holds);
  rests = inl (
    side,
    record {
      written = w;
      found = stands.found;
      end = inl stands.ended;
      others = inr (inr (record {
        ended = stands.ended;
        command = c;
        holds = holds;
        later = next_later side l r w s c holds.written leads stands holds.rotation;
      }));
    },
  );
}

-- ---- a rotation of a settled pair

module _ (side : Side) (l r a b : List ℕ) (s : State) (c : Command) (w : Written) (settled : IsSettledFor side l r s)
    (rotation : IsRotationOf s w c) (same : on side a b ≡ on side l r) where
  old_leads : LeadsTo settled.written s
  old_leads = settled_leads side l r s settled

  old_stands : Stands (has_odd side) (on side a b) settled.written
  old_stands = subst (λ (l : List ℕ). Stands (has_odd side) l settled.written) (sym same) settled.open_on

  -- once the next generation stands, the pair is settled for the state after it, on the other side
  pub rotation_settled : Stands (has_odd (other side)) (beside side a b) w → IsSettledFor (other side) a b (after s c)
  rotation_settled stands =
      turned side a b w (after s c) (rotation_leads s w c settled.stands.formed rotation)
      (open_older (has_odd side) (on side a b) settled.written old_leads.state w.generation old_stands old_leads.came
      (next_later side a b settled.written s c w old_leads old_stands rotation))
      stands

  holds : settled.written.commands ≡ commands_on l r
  holds = sym (settled_commands side l r s settled)

  still : IsAside (has_odd (other side)) (beside side a b) settled.written.generation
      → IsKeptWith a b s (commands_on l r)
  still aside = with_beside side a b settled.written old_stands.found aside s (commands_on l r)
      (settled_kept side a b s (settled_by side a b settled.written s old_leads aside old_stands)) holds

  -- the next generation is older than none, and has no commands
  turned_with : w.commands ≡ [] → Stands (has_odd (other side)) (beside side a b) w → IsKeptWith a b (after s c) []
  turned_with none stands = record {
    kept = settled_kept (other side) a b (after s c) (rotation_settled stands);
    commands = turned_commands side a b w
        (open_older (has_odd side) (on side a b) settled.written old_leads.state w.generation old_stands old_leads.came
        (next_later side a b settled.written s c w old_leads old_stands rotation)) stands ∙ none;
  }

  turning_with : HoldsRotation (has_odd (other side)) (beside side a b) s c → IsKeptWith a b s (commands_on l r)
  turning_with shut = record {
    kept = turning_kept side a b settled.written s c old_leads old_stands shut;
    commands = commands_taken side a b settled.written old_stands.found
        (rotation_behind (has_odd (other side)) (beside side a b) settled.written.generation s c shut) ∙ holds;
  }

  -- A stop in its creation leaves a pair that is kept for the state, or for the state after it.
  pub rotation_kept : w.commands ≡ [] → CreateLeaves (has_odd (other side)) (beside side l r) w (beside side a b)
      → IsKeptWith a b s (commands_on l r) ⊎ IsKeptWith a b (after s c) []
  rotation_kept none (inl closed) = inl (still (inl closed))
  rotation_kept none (inr (inl left)) =
      let odd = has_odd (other side) in
      inl (still (aside_settled odd (beside side l r) (beside side a b) settled.written.generation settled.others left))
  rotation_kept none (inr (inr made)) = ⊎_elim
      (λ gate. inr (turned_with none
      (subst (λ (x : List ℕ). Stands (has_odd (other side)) x w) (opened_already (beside side a b) gate) made)))
      (λ shut. inl (turning_with
      (record { written = w; stands = made; none = none; rotation = rotation; shut = shut })))
      (gate_open_or_not (beside side a b))

-- ---- what is created

-- A checkpoint that spells the image after a rotation makes the state's rotation, if it is read back as this image,
-- which breaks no rule.
pub made_rotation : (s : State) (c : Command) (checkpoint : List ℕ) → IsWellFormed s → 1 ≤ s.generation
    → c.call ≡ Rotate → ruling s c ≡ Allowed
    → checkpoint ≡ spelling (image (after s c)) → image_at (length checkpoint) checkpoint ≡ Ok (image (after s c))
    → first_unsound (image (after s c)) 0 ≡ None
    → IsRotationOf s (beginning (s.generation + 1) checkpoint) c
made_rotation s c checkpoint formed begun rotates allowed spelled read sound =
    let w = beginning (s.generation + 1) checkpoint in
    let next : (after s c).generation ≡ s.generation + 1 = ap (λ (call : Call). (effect s call).generation) rotates in
    let limit : (after s c).limit ≡ LIM = ap (λ (call : Call). (effect s call).limit) rotates in
    let none : (after s c).records ≡ 0 = ap (λ (call : Call). records_after (effect s c.call) call) rotates in
    let base = base_read w (image (after s c)) (λ first. absurd (omega (arith, first, begun))) read sound next limit in
    record {
      rotates = rotates;
      allowed = allowed;
      generation_is = refl;
      limit_is = refl;
      checkpoint_is = spelled;
      state = started (image (after s c));
      came = outcome_from w (started (image (after s c))) base ∙ replay_none 1 (started (image (after s c)));
      same = record { image = (begins_again (after s c) (after_formed s c formed)).image; records = sym none };
    }
