-- What an opening leaves of a kept pair.
use Rattle.std.proofs.Common.{◌≡◌, ◌⊎◌, inl, inr, ⊎_elim, ℕ, List, [], ◌∷◌, Ok, Bool, true, false, refl, sym, ◌∙◌, ap, subst}
use Rattle.liq_types.specs.declared.requests.Command.{Command}
use Rattle.liq_types.specs.State.{State}
use Rattle.liq_rule_step.specs.Image.{IsSameState}
use Rattle.liq_rule_step.specs.Step.{after}
use Rattle.liq_outside.specs.Disk.{overwritten}
use Rattle.liq_journal.specs.Crash.{CreateLeaves, IsClosed, SettleLeaves, Stands, beginning}
use Rattle.liq_journal.specs.Opened.{IsUnshut, OpenLeaves}
use Rattle.liq_journal.specs.Written.{Absent, Written, and_then, found_on, opened}
use Rattle.liq_disk_pair.specs.declared.side.Side.{Side}
use Rattle.liq_disk_pair.specs.declared.side.Side.TheVariants.{Left, Right}
use Rattle.liq_disk_pair.specs.Commands.{kept_behind}
use Rattle.liq_disk_pair.specs.Kept.{HoldsRotation, IsFirst, IsKept, IsKeptOn, IsKeptWith, IsOlder, IsSettledFor, IsUnbegun, StandsBesideRotation}
use Rattle.liq_disk_pair.specs.Pair.{StandFor, commands_on, state_on}
use Rattle.liq_disk_pair.specs.Sides.{beside, has_odd, on, other}
use Rattle.liq_disk_pair.specs.Unfinished.{HoldsUnfinished, IsRecovered, IsUnfinishedRotation, LeftLeaves}
use Rattle.liq_disk_pair.proofs.AtEnd.{LeftAtEnd, byte_open_or_not, ended, finished, left_at_end, pends, stands_still}
use Rattle.liq_disk_pair.proofs.FirstPlace.{IsAside, absent_isnt_open, aside_left, closed_with, first_is_left, first_with, open_older, rotation_behind, rotation_with, unopened_absent, unshut_no_gate}
use Rattle.liq_disk_pair.proofs.Keeping.{LeadsTo, begun_kept, leads_before, leads_further, leads_to, none_alike, pending_kept, settled_by, settled_kept, settled_leads}
use Rattle.liq_disk_pair.proofs.KeptWith.{begun_commands, behind_record, behind_rotation, commands_none, commands_taken, kept_on_commands, turned_commands, with_beside}
use Rattle.liq_disk_pair.proofs.Standings.{pair_ends}
use Rattle.liq_disk_pair.proofs.Turning.{rotation_leads, turned, turning_kept}

-- ---- with a taken disk

-- by what is left of the taken disk's end
by_end : (side : Side) (l r a b : List ℕ) (w : Written) (s : State) → LeadsTo w s → commands_on l r ≡ w.commands
    → IsAside (has_odd (other side)) (beside side a b) w.generation
    → LeftAtEnd (has_odd side) (on side l r) w s (on side a b) → IsRecovered l r s a b
by_end side l r a b w s leads held aside (ended stands) =
    inl (with_beside side a b w stands.found aside s (commands_on l r)
    (settled_kept side a b s (settled_by side a b w s leads aside stands)) (sym held))
by_end side l r a b w s leads held aside (pends c holds) =
    inl (with_beside side a b w holds.pending.found aside s (commands_on l r)
    (pending_kept side a b w s c leads aside holds) (sym held))
by_end side l r a b w s leads held aside (finished c was allowed stands) =
    inr (
      c,
      (side, inl was),
      with_beside side a b (and_then w c) stands.found aside (after s c) (kept_behind (commands_on l r) (c ∷ []))
          (settled_kept side a b (after s c) (settled_by side a b (and_then w c) (after s c)
          (leads_further w c s leads allowed) aside stands))
          (sym (ap (λ (cs : List Command). kept_behind cs (c ∷ [])) held
          ∙ behind_record (has_odd side) (on side a b) w c stands.found)),
    )

-- beside a rotation that isn't open
unfinished : (side : Side) (l r : List ℕ) (s : State) (c : Command)
    → IsUnfinishedRotation (has_odd (other side)) (beside side l r) s c → HoldsUnfinished l r s c
unfinished Left l r s c is = (Right, inr is)
unfinished Right l r s c is = (Left, inr is)

module _ (side : Side) (l r a b : List ℕ) (w : Written) (s : State) (leads : LeadsTo w s)
    (held : commands_on l r ≡ w.commands) (stands : Stands (has_odd side) (on side a b) w)
    (kept : StandsBesideRotation side l r w s) where
  -- the rotation isn't open
  turning_with : HoldsRotation (has_odd (other side)) (beside side a b) s kept.command
      → IsKeptWith a b s (commands_on l r)
  turning_with holds = record {
    kept = turning_kept side a b w s kept.command leads stands holds;
    commands = commands_taken side a b w stands.found
        (rotation_behind (has_odd (other side)) (beside side a b) w.generation s kept.command holds) ∙ sym held;
  }

  -- it is as it was
  still_turning : beside side a b ≡ beside side l r → IsKeptWith a b s (commands_on l r)
  still_turning same = turning_with
      (subst (λ (x : List ℕ). HoldsRotation (has_odd (other side)) x s kept.command) (sym same) kept.holds)

  -- the journal of the state after it
  next_leads : LeadsTo kept.holds.written (after s kept.command)
  next_leads = rotation_leads s kept.holds.written kept.command leads.alike.right kept.holds.rotation

  now_older : IsOlder (has_odd side) (on side a b) kept.holds.written.generation
  now_older = open_older (has_odd side) (on side a b) w leads.state kept.holds.written.generation stands leads.came
      kept.later

  -- an open gate is at place 0, where no 0 was
  turns : IsUnshut (beside side l r) → beside side a b ≡ opened 0 (beside side l r) → IsRecovered l r s a b
  turns unshut is =
      let odd = has_odd (other side) in
      let next = kept.holds.written in
      let made : Stands odd (beside side a b) next = subst (λ (x : List ℕ). Stands odd x next)
      (sym is) kept.holds.stands in
      inr (
        kept.command,
        unfinished side l r s kept.command (record { rotation = kept.holds; unshut = unshut }),
        record {
          kept = settled_kept (other side) a b (after s kept.command)
              (turned side a b next (after s kept.command) next_leads now_older made);
          commands = turned_commands side a b next now_older made ∙ kept.holds.none
              ∙ sym (behind_rotation (commands_on l r) kept.command kept.holds.rotation.rotates);
        },
      )

  -- the opening leaves another byte than 1 at place 0
  turns_not : (byte : ℕ) → (byte ≡ 1 → ⊥) → beside side a b ≡ overwritten (beside side l r) 0 (byte ∷ [])
      → IsKeptWith a b s (commands_on l r)
  turns_not byte unopened is =
      let odd = has_odd (other side) in
      turning_with
      (subst (λ (x : List ℕ). HoldsRotation odd x s kept.command) (sym is)
      (rotation_with odd (beside side l r) s kept.command byte kept.holds unopened))

  by_gate : IsUnshut (beside side l r) → (byte : ℕ) → beside side a b ≡ overwritten (beside side l r) 0 (byte ∷ [])
      → IsRecovered l r s a b
  by_gate unshut byte is = ⊎_elim
      (λ one. turns unshut (is ∙ ap (λ (n : ℕ). overwritten (beside side l r) 0 (n ∷ [])) one))
      (λ unopened. inl (turns_not byte unopened is))
      (byte_open_or_not byte)

  turning_recovered : OpenLeaves (has_odd (other side)) (beside side l r) (beside side a b) → IsRecovered l r s a b
  turning_recovered (inl same) = inl (still_turning same)
  turning_recovered (inr (place, inl some, has)) =
      let odd = has_odd (other side) in
      let absent = unopened_absent odd (beside side l r) kept.holds.shut in
      absurd (absent_isnt_open odd (beside side l r) some.0 absent some.1)
  turning_recovered (inr (place, inr none, has)) =
      by_gate none.2 has.0 (has.1 ∙ ap (λ (n : ℕ). overwritten (beside side l r) n (has.0 ∷ [])) none.1)

module _ (side : Side) (l r a b : List ℕ) (s : State) (stands : StandFor l r s) (kept : IsKeptOn side l r s)
    (taken_left : OpenLeaves (has_odd side) (on side l r) (on side a b))
    (beside_left : OpenLeaves (has_odd (other side)) (beside side l r) (beside side a b)) where
  -- beside a closed disk, or an older one
  recovered_aside : IsAside (has_odd (other side)) (beside side l r) kept.written.generation → IsRecovered l r s a b
  recovered_aside aside =
      let w = kept.written in
      by_end side l r a b w s (leads_to side l r w s stands kept.found aside) (kept_on_commands side l r s kept)
      (aside_left (has_odd (other side)) (beside side l r) (beside side a b) w.generation aside beside_left)
      (left_at_end (has_odd side) (on side l r) w s kept.found kept.end (on side a b) taken_left)

  -- beside the rotation
  recovered_turning : StandsBesideRotation side l r kept.written s → IsRecovered l r s a b
  recovered_turning turning =
      let w = kept.written in
      let odd = has_odd side in
      let open_on : Stands odd (on side l r) w = record { found = kept.found; ended = turning.ended } in
      let behind = rotation_behind (has_odd (other side)) (beside side l r) w.generation s turning.command turning.holds
      in
      let still : Stands odd (on side a b) w =
      subst (λ (x : List ℕ). Stands odd x w) (sym (stands_still odd (on side l r) (on side a b) w open_on taken_left))
      open_on in
      turning_recovered side l r a b w s (leads_before side l r w s stands kept.found behind)
      (kept_on_commands side l r s kept) still turning beside_left

  pub recovered_on : IsRecovered l r s a b
  recovered_on = ⊎_elim
      (λ closed. recovered_aside (inl closed))
      (λ more. ⊎_elim (λ older. recovered_aside (inr older)) recovered_turning more)
      kept.others

-- ---- with none

begun_left : (l image : List ℕ) → IsClosed l ⊎ IsFirst true l → SettleLeaves 0 l image → IsClosed image
    ⊎ IsFirst true image
begun_left l image begun (inl same) = subst (λ (x : List ℕ). IsClosed x ⊎ IsFirst true x) (sym same) begun
begun_left l image begun (inr (unshut, has)) = subst (λ (x : List ℕ). IsClosed x ⊎ IsFirst true x) (sym has.1)
    (⊎_elim (λ closed. inl (closed_with l has.0 closed unshut)) (λ first. inr (first_with true l has.0 first)) begun)

-- an opening shuts no more than place 0 of it
settled_so : (odd : Bool) (held image : List ℕ) → found_on odd held ≡ Absent → OpenLeaves odd held image
    → SettleLeaves 0 held image
settled_so odd held image absent (inl same) = inl same
settled_so odd held image absent (inr (place, inl some, has)) = absurd (absent_isnt_open odd held some.0 absent some.1)
settled_so odd held image absent (inr (place, inr none, has)) =
    inr (unshut_no_gate held none.2, (has.0, has.1 ∙ ap (λ (n : ℕ). overwritten held n (has.0 ∷ [])) none.1))

closed_left : (r image : List ℕ) → IsUnbegun false r → SettleLeaves 0 r image → IsClosed image
closed_left r image begun (inl same) = subst (λ (x : List ℕ). IsClosed x) (sym same) (closed_of r begun)
  where
    closed_of : (r : List ℕ) → IsUnbegun false r → IsClosed r
    closed_of r begun = ⊎_elim (λ closed. closed) (λ first. absurd (first_is_left r first)) begun.1
closed_left r image begun (inr (unshut, has)) = subst (λ (x : List ℕ). IsClosed x) (sym has.1)
    (⊎_elim (λ closed. closed_with r has.0 closed unshut) (λ first. absurd (first_is_left r first)) begun.1)

begun_so : (l image : List ℕ) → IsClosed l ⊎ IsFirst true l → CreateLeaves true l (beginning 1 []) image
    → IsClosed image ⊎ IsFirst true image
begun_so l image begun (inl closed) = inl closed
begun_so l image begun (inr (inl settled)) = begun_left l image begun settled
begun_so l image begun (inr (inr stands)) = inr (record {
  written = beginning 1 [];
  stands = stands;
  first = refl;
  limit_is = refl;
  none = refl;
})

-- ---- both

-- Of a pair that is kept for a state an opening leaves, at each moment and whatever it answers, one that is kept for
-- it, or for it after the command that the pair held unfinished.
pub recovered : (l r a b : List ℕ) (s : State) → IsKept l r s → LeftLeaves l r a → OpenLeaves false r b
    → IsRecovered l r s a b
recovered l r a b s kept left right = by kept.rests left
  where
    begun_with : found_on true l ≡ Absent → found_on false r ≡ Absent → IsClosed a ⊎ IsFirst true a → IsClosed b
        → IsRecovered l r s a b
    begun_with none none_right begun closed = inl (record {
      kept = begun_kept a b s (none_alike l r s kept.stands none none_right) begun closed;
      commands = begun_commands a b begun closed ∙ sym (commands_none l r none none_right);
    })

    by : ((side : Side) × IsKeptOn side l r s) ⊎ (IsUnbegun true l × IsUnbegun false r) → LeftLeaves l r a
        → IsRecovered l r s a b
    by (inl (Left, on_left)) (inl opened_left) = recovered_on Left l r a b s kept.stands on_left opened_left right
    by (inl (Left, on_left)) (inr created) = absurd (absent_isnt_open true l on_left.written created.0 on_left.found)
    by (inl (Right, on_right)) (inl opened_left) = recovered_on Right l r a b s kept.stands on_right right opened_left
    by (inl (Right, on_right)) (inr created) =
        absurd (absent_isnt_open false r on_right.written created.1 on_right.found)
    by (inr begun) (inl opened_left) = begun_with begun.0.0 begun.1.0
        (begun_left l a begun.0.1 (settled_so true l a begun.0.0 opened_left)) (closed_left r b begun.1
        (settled_so false r b begun.1.0 right))
    by (inr begun) (inr created) = begun_with begun.0.0 begun.1.0 (begun_so l a begun.0.1 created.2)
        (closed_left r b begun.1 (settled_so false r b begun.1.0 right))

-- ---- of a settled pair

settled_left : (side : Side) (l r a b : List ℕ) (s : State) → IsSettledFor side l r s
    → OpenLeaves (has_odd side) (on side l r) (on side a b)
    → OpenLeaves (has_odd (other side)) (beside side l r) (beside side a b) → IsSettledFor side a b s
settled_left side l r a b s settled taken_left beside_left =
    let w = settled.written in
    let odd = has_odd side in
    settled_by side a b w s (settled_leads side l r s settled)
    (aside_left (has_odd (other side)) (beside side l r) (beside side a b) w.generation settled.others beside_left)
    (subst (λ (x : List ℕ). Stands odd x w) (sym (stands_still odd (on side l r) (on side a b) w settled.open_on
    taken_left)) settled.open_on)

-- an opening leaves it settled for its state, on its side
pub settled_again : (side : Side) (l r a b : List ℕ) (s : State) → IsSettledFor side l r s → LeftLeaves l r a
    → OpenLeaves false r b → IsSettledFor side a b s
settled_again Left l r a b s settled (inl opened) right = settled_left Left l r a b s settled opened right
settled_again Left l r a b s settled (inr created) right =
    absurd (absent_isnt_open true l settled.written created.0 settled.open_on.found)
settled_again Right l r a b s settled (inl opened) right = settled_left Right l r a b s settled right opened
settled_again Right l r a b s settled (inr created) right =
    absurd (absent_isnt_open false r settled.written created.1 settled.open_on.found)

-- and it stands for no other
pub settled_state : (side : Side) (l r : List ℕ) (s t : State) → IsSettledFor side l r s → state_on l r ≡ Ok t
    → IsSameState t s
settled_state side l r s t settled is =
    let both : pair_ends settled.stands.state ≡ Ok t = sym settled.stands.is ∙ is in
    let same : settled.stands.state ≡ t = cc (both) in
    subst (λ (x : State). IsSameState x s) same settled.stands.same
