-- An open disk by itself: what a byte at place 0, an append, a creation and an opening leave of it.
use Rattle.std.proofs.Common.{◌≡◌, ◌⊎◌, inl, inr, ⊎_elim, ℕ, ◌<◌, List, [], ◌∷◌, get_or, Bool, true, false, refl, sym, ◌∙◌, ap, subst, arith}
use Rattle.liq_types.specs.declared.requests.Command.{Command}
use Rattle.liq_types.specs.State.{State}
use Rattle.liq_rule_step.specs.Step.{Allowed, after, ruling}
use Rattle.liq_outside.specs.Disk.{overwritten}
use Rattle.liq_journal.specs.Crash.{BeforeOrAfter, CreateLeaves, HasGate, IsClosed, Stands, beginning, is_odd}
use Rattle.liq_journal.specs.Opened.{OpenLeaves}
use Rattle.liq_journal.specs.Written.{Absent, Open, Written, and_then, end_of, found_on, opened}
use Rattle.liq_disk_pair.specs.declared.side.Side.{Side}
use Rattle.liq_disk_pair.specs.declared.side.Side.TheVariants.{Left, Right}
use Rattle.liq_disk_pair.specs.Kept.{IsKept, IsKeptOn, IsOlder, IsSettledFor, IsUnbegun, StandsBesideRotation}
use Rattle.liq_disk_pair.specs.Pair.{StandFor, standing}
use Rattle.liq_disk_pair.specs.Past.{IsAsItStood, IsTakenFirst, StandsAlone}
use Rattle.liq_disk_pair.specs.Sides.{beside, has_odd, on, other}
use Rattle.liq_disk_pair.specs.Unfinished.{HoldsUnfinished, IsUnfinishedRecord, IsUnfinishedRotation}
use Rattle.liq_disk_pair.proofs.AtEnd.{LeftAtEnd, ended, finished, left_at_end, pends, stands_still}
use Rattle.liq_disk_pair.proofs.FirstPlace.{absent_isnt_open, closed_absent, gate_is_open, gate_open_or_not, is_behind, long_enough, open_opened, opened_already, rotation_behind, short_absent, unopened_absent}
use Rattle.liq_disk_pair.proofs.Generations.{found_parity}
use Rattle.liq_disk_pair.proofs.Keeping.{LeadsTo, first_leads, leads_before, leads_further, leads_generation, none_alike, settled_leads, stand_before}
use Rattle.liq_disk_pair.proofs.OneByte.{byte_there, length_with, written_again}
use Rattle.liq_disk_pair.proofs.Standings.{IsBehind, nothing, older, standing_absent, standing_open}

-- a journal that leads to a state that is the same as this one
pub record IsOpenFor (side : Side) (bytes : List ℕ) (s : State) : Type 0 where
  pub written : Written
  pub found : found_on (has_odd side) bytes ≡ Open written
  pub leads : LeadsTo written s

pub isnt_absent : (side : Side) (bytes : List ℕ) (s : State) → IsOpenFor side bytes s
    → found_on (has_odd side) bytes ≡ Absent → ⊥
isnt_absent side bytes s is absent = absent_isnt_open (has_odd side) bytes is.written absent is.found

pub empty_absent : (odd : Bool) → found_on odd [] ≡ Absent
empty_absent odd = short_absent odd [] (omega arith)

-- beside a disk on which nothing is it stands for the state
pub open_alone : (side : Side) (bytes : List ℕ) (s : State) → IsOpenFor side bytes s → StandsAlone side bytes s
open_alone Left bytes s is =
    stand_before Left bytes [] is.written s is.leads is.found (nothing (standing_absent false [] (empty_absent false)))
open_alone Right bytes s is =
    stand_before Right [] bytes is.written s is.leads is.found (nothing (standing_absent true [] (empty_absent true)))

-- ---- some byte at place 0

pub stood_again : (held image later : List ℕ) → IsAsItStood held image → IsAsItStood image later
    → IsAsItStood held later
stood_again held image later (inl same) then = subst (λ (l : List ℕ). IsAsItStood l later) same then
stood_again held image later (inr (unshut, has)) (inl same) = inr (unshut, (has.0, same ∙ has.1))
stood_again held image later (inr (unshut, has)) (inr (again, more)) =
    inr (
      unshut,
      (
        more.0,
        more.1 ∙ ap (λ (l : List ℕ). overwritten l 0 (more.0 ∷ [])) has.1
            ∙ written_again 0 has.0 held (omega arith) more.0,
      ),
    )

-- it is the same disk, or absent
pub open_with : (side : Side) (bytes image : List ℕ) (s : State) → IsOpenFor side bytes s → IsAsItStood bytes image
    → (found_on (has_odd side) image ≡ Absent) ⊎ IsOpenFor side image s
open_with side bytes image s is (inl same) = inr (subst (λ (l : List ℕ). IsOpenFor side l s) (sym same) is)
open_with side bytes image s is (inr (unshut, has)) = ⊎_elim
    (λ gate. inr (subst (λ (l : List ℕ). IsOpenFor side l s) (sym (still gate)) is))
    (λ shut. inl (unopened_absent (has_odd side) image shut))
    (gate_open_or_not image)
  where
    still : get_or image 0 0 ≡ 1 → image ≡ bytes
    still gate =
        let there = byte_there 0 has.0 bytes (omega arith) in
        let one : has.0 ≡ 1 = sym there ∙ ap (λ (l : List ℕ). get_or l 0 0) (sym has.1) ∙ gate in
        has.1 ∙ ap (λ (n : ℕ). overwritten bytes 0 (n ∷ [])) one ∙ open_opened (has_odd side) bytes is.written is.found

-- ---- an append, and a creation

pub of_append : (side : Side) (w : Written) (c : Command) (s : State) (image : List ℕ) → LeadsTo w s
    → ruling s c ≡ Allowed → BeforeOrAfter (has_odd side) w c image
    → IsOpenFor side image s ⊎ IsOpenFor side image (after s c)
of_append side w c s image leads allowed (inl stands) =
    inl (record { written = w; found = stands.found; leads = leads })
of_append side w c s image leads allowed (inr (inl pending)) =
    inl (record { written = w; found = pending.found; leads = leads })
of_append side w c s image leads allowed (inr (inr stands)) =
    inr (record { written = and_then w c; found = stands.found; leads = leads_further w c s leads allowed })

-- it leaves nothing that is open, or the disk as it stood, or the journal that it makes
pub of_creation : (side : Side) (held image : List ℕ) (w : Written) → CreateLeaves (has_odd side) held w image
    → (found_on (has_odd side) image ≡ Absent)
    ⊎ (IsAsItStood held image ⊎ (found_on (has_odd side) image ≡ Open w))
of_creation side held image w (inl closed) = inl (closed_absent (has_odd side) image closed)
of_creation side held image w (inr (inl left)) = inr (inl left)
of_creation side held image w (inr (inr made)) = ⊎_elim
    (λ gate. inr (inr (ap (found_on (has_odd side)) (sym (opened_already image gate)) ∙ made.found)))
    (λ shut. inl (unopened_absent (has_odd side) image shut))
    (gate_open_or_not image)

-- ---- of a kept pair

-- the journal of the disk that counts leads to the state
pub kept_leads : (side : Side) (l r : List ℕ) (s : State) → StandFor l r s → (kept : IsKeptOn side l r s)
    → LeadsTo kept.written s
kept_leads side l r s stands kept = leads_before side l r kept.written s stands kept.found (behind kept.others)
  where
    behind : (IsClosed (beside side l r))
        ⊎ (IsOlder (has_odd (other side)) (beside side l r) kept.written.generation
        ⊎ StandsBesideRotation side l r kept.written s)
        → IsBehind kept.written.generation (standing (has_odd (other side)) (beside side l r))
    behind (inl closed) = is_behind (has_odd (other side)) (beside side l r) kept.written.generation (inl closed)
    behind (inr (inl smaller)) =
        is_behind (has_odd (other side)) (beside side l r) kept.written.generation (inr smaller)
    behind (inr (inr turning)) = rotation_behind (has_odd (other side)) (beside side l r) kept.written.generation s
        turning.command turning.holds

-- one that is open beside it has a 0 at its end, and is of a smaller generation
pub record IsSmaller (odd : Bool) (bytes : List ℕ) (generation : ℕ) (v : Written) : Type 0 where
  pub stands : Stands odd bytes v
  pub smaller : v.generation < generation

older_open : (odd : Bool) (bytes : List ℕ) (generation : ℕ) (v : Written) → IsOlder odd bytes generation
    → found_on odd bytes ≡ Open v → IsSmaller odd bytes generation v
older_open odd bytes generation v is found =
    let same : opened 0 bytes ≡ bytes = open_opened odd bytes v found in
    let both : Open is.written ≡ Open v = sym is.stands.found ∙ ap (found_on odd) same ∙ found in
    let written : is.written ≡ v = cc (both) in
    let stands : Stands odd bytes is.written = subst (λ (l : List ℕ). Stands odd l is.written) same is.stands in
    subst (λ (w : Written). IsSmaller odd bytes generation w) written (record { stands = stands; smaller = is.smaller })

pub open_beside : (side : Side) (l r : List ℕ) (s : State) (kept : IsKeptOn side l r s) (v : Written)
    → found_on (has_odd (other side)) (beside side l r) ≡ Open v
    → IsSmaller (has_odd (other side)) (beside side l r) kept.written.generation v
open_beside side l r s kept v found = by kept.others
  where
    by : (IsClosed (beside side l r))
        ⊎ (IsOlder (has_odd (other side)) (beside side l r) kept.written.generation
        ⊎ StandsBesideRotation side l r kept.written s)
        → IsSmaller (has_odd (other side)) (beside side l r) kept.written.generation v
    by (inl closed) = absurd (absent_isnt_open (has_odd (other side)) (beside side l r) v
        (closed_absent (has_odd (other side)) (beside side l r) closed) found)
    by (inr (inl smaller)) =
        older_open (has_odd (other side)) (beside side l r) kept.written.generation v smaller found
    by (inr (inr turning)) = absurd (absent_isnt_open (has_odd (other side)) (beside side l r) v
        (unopened_absent (has_odd (other side)) (beside side l r) turning.holds.shut) found)

-- the disk that is taken first is on the side of the state's generation
module _ (l r : List ℕ) (s : State) (stands : StandFor l r s) where
  taken_parity : (side : Side) → IsKeptOn side l r s → has_odd side ≡ is_odd s.generation
  taken_parity side kept =
      let odd = has_odd side in
      found_parity odd (on side l r) kept.written kept.found
      ∙ ap is_odd (leads_generation odd (on side l r) kept.written s kept.found (kept_leads side l r s stands kept))

  -- one of a smaller generation isn't taken
  not_first : (side : Side) → (kept : IsKeptOn side l r s) → (v : Written)
      → found_on (has_odd (other side)) (beside side l r) ≡ Open v
      → ((w : Written) → found_on (has_odd side) (on side l r) ≡ Open w → w.generation < v.generation) → ⊥
  not_first side kept v found later =
      let less = (open_beside side l r s kept v found).smaller in
      let more = later kept.written kept.found in
      omega (arith, less, more)

pub first_parity : (side : Side) (l r : List ℕ) (s : State) → IsKept l r s → IsTakenFirst side l r
    → has_odd side ≡ is_odd s.generation
first_parity side l r s kept first = by side kept.rests first
  where
    by : (side : Side) → ((taken : Side) × IsKeptOn taken l r s) ⊎ (IsUnbegun true l × IsUnbegun false r)
        → IsTakenFirst side l r → has_odd side ≡ is_odd s.generation
    by Left (inl (Left, on_left)) first = taken_parity l r s kept.stands Left on_left
    by Left (inl (Right, on_right)) first =
        absurd (not_first l r s kept.stands Right on_right first.written first.found first.later)
    by Right (inl (Right, on_right)) first = taken_parity l r s kept.stands Right on_right
    by Right (inl (Left, on_left)) first =
        absurd (not_first l r s kept.stands Left on_left first.written first.found first.later)
    by Left (inr begun) first = absurd (absent_isnt_open true l first.written begun.0.0 first.found)
    by Right (inr begun) first = absurd (absent_isnt_open false r first.written begun.1.0 first.found)

-- ---- an opening of a kept pair

-- open for the state, or for it after the command that the pair held unfinished
abbrev pub IsOpenedFor : Side → List ℕ → List ℕ → State → List ℕ → Type 0
IsOpenedFor side l r s image =
    IsOpenFor side image s ⊎ ((c : Command) × HoldsUnfinished l r s c × IsOpenFor side image (after s c))

by_end : (side : Side) (l r : List ℕ) (w : Written) (s : State) (image : List ℕ) → LeadsTo w s
    → LeftAtEnd (has_odd side) (on side l r) w s image → IsOpenedFor side l r s image
by_end side l r w s image leads (ended stands) = inl (record { written = w; found = stands.found; leads = leads })
by_end side l r w s image leads (pends c holds) =
    inl (record { written = w; found = holds.pending.found; leads = leads })
by_end side l r w s image leads (finished c was allowed stands) =
    inr (
      c,
      (side, inl was),
      record { written = and_then w c; found = stands.found; leads = leads_further w c s leads allowed },
    )

module _ (l r : List ℕ) (s : State) (stands : StandFor l r s) (image : List ℕ) where
  taken_end : (side : Side) → IsKeptOn side l r s → OpenLeaves (has_odd side) (on side l r) image
      → IsOpenedFor side l r s image
  taken_end side kept leaves =
      by_end side l r kept.written s image (kept_leads side l r s stands kept)
      (left_at_end (has_odd side) (on side l r) kept.written s kept.found kept.end image leaves)

  beside_end : (side : Side) → IsKeptOn side l r s → (v : Written)
      → found_on (has_odd (other side)) (beside side l r) ≡ Open v
      → OpenLeaves (has_odd (other side)) (beside side l r) image → image ≡ beside side l r
  beside_end side kept v found leaves =
      stands_still (has_odd (other side)) (beside side l r) image v (open_beside side l r s kept v found).stands leaves

-- an open disk is left as it was, or open
pub open_left : (side : Side) (l r : List ℕ) (s : State) (image : List ℕ) (v : Written) → IsKept l r s
    → found_on (has_odd side) (on side l r) ≡ Open v → OpenLeaves (has_odd side) (on side l r) image
    → (image ≡ on side l r) ⊎ IsOpenedFor side l r s image
open_left side l r s image v kept = by side kept.rests
  where
    by : (side : Side) → ((taken : Side) × IsKeptOn taken l r s) ⊎ (IsUnbegun true l × IsUnbegun false r)
        → found_on (has_odd side) (on side l r) ≡ Open v → OpenLeaves (has_odd side) (on side l r) image
        → (image ≡ on side l r) ⊎ IsOpenedFor side l r s image
    by Left (inl (Left, on_left)) found leaves = inr (taken_end l r s kept.stands image Left on_left leaves)
    by Left (inl (Right, on_right)) found leaves =
        inl (beside_end l r s kept.stands image Right on_right v found leaves)
    by Right (inl (Right, on_right)) found leaves = inr (taken_end l r s kept.stands image Right on_right leaves)
    by Right (inl (Left, on_left)) found leaves =
        inl (beside_end l r s kept.stands image Left on_left v found leaves)
    by Left (inr begun) found leaves = absurd (absent_isnt_open true l v begun.0.0 found)
    by Right (inr begun) found leaves = absurd (absent_isnt_open false r v begun.1.0 found)

-- the first generation, where none is
pub created_open : (l r : List ℕ) (s : State) (image : List ℕ) → IsKept l r s → found_on true l ≡ Absent
    → found_on false r ≡ Absent → found_on true image ≡ Open (beginning 1 []) → IsOpenFor Left image s
created_open l r s image kept left right found = record {
  written = beginning 1 [];
  found = found;
  leads = first_leads (beginning 1 []) s refl refl refl (none_alike l r s kept.stands left right);
}

-- ---- of a settled pair

module _ (side : Side) (l r : List ℕ) (s : State) (settled : IsSettledFor side l r s) where
  abbrev settled_kept_on : IsKeptOn side l r s
  settled_kept_on = record {
    written = settled.written;
    found = settled.open_on.found;
    end = inl settled.open_on.ended;
    others = ⊎_elim (λ closed. inl closed) (λ smaller. inr (inl smaller)) settled.others;
  }

  pub settled_open : IsOpenFor side (on side l r) s
  settled_open = record {
    written = settled.written;
    found = settled.open_on.found;
    leads = settled_leads side l r s settled;
  }

  -- its disk is the one that is taken
  pub settled_first : IsTakenFirst side l r
  settled_first = record {
    written = settled.written;
    found = settled.open_on.found;
    later = λ v found. (open_beside side l r s settled_kept_on v found).smaller;
  }

  -- it holds nothing unfinished: no record behind the one disk's, nor the other's
  record_no : (odd : Bool) (bytes : List ℕ) (w : Written) (c : Command) → Stands odd bytes w
      → IsUnfinishedRecord odd bytes s c → ⊥
  record_no odd bytes w c stands is =
      let both : Open is.written ≡ Open w = sym is.record_is.pending.found ∙ stands.found in
      let same : is.written ≡ w = cc (both) in
      let gate : HasGate (end_of w) bytes = record { there = stands.ended.there; shut = stands.ended.is } in
      is.unshut (subst (λ (v : Written). HasGate (end_of v) bytes) (sym same) gate)

  record_beside_no : (c : Command) → IsUnfinishedRecord (has_odd (other side)) (beside side l r) s c → ⊥
  record_beside_no c is =
      let opens = open_beside side l r s settled_kept_on is.written is.record_is.pending.found in
      record_no (has_odd (other side)) (beside side l r) is.written c opens.stands is

  -- and no rotation on the one disk, which is open
  rotation_no : (c : Command) → IsUnfinishedRotation (has_odd side) (on side l r) s c → ⊥
  rotation_no c is = is.rotation.shut (gate_is_open (has_odd side) (on side l r) settled.written settled.open_on.found)

  -- nor on the other: that is short, or shut at place 0, or older
  rotation_aside_no : (c : Command) → IsUnfinishedRotation (has_odd (other side)) (beside side l r) s c
      → IsClosed (beside side l r) ⊎ IsOlder (has_odd (other side)) (beside side l r) settled.written.generation → ⊥
  rotation_aside_no c is (inl (inl short)) =
      let odd = has_odd (other side) in
      let long = long_enough odd (opened 0 (beside side l r)) is.rotation.written is.rotation.stands.found in
      let size = length_with 0 1 (beside side l r) (omega arith) is.unshut.there in
      omega (arith, short, long, size)
  rotation_aside_no c is (inl (inr shut)) = is.unshut.isnt shut.1
  rotation_aside_no c is (inr smaller) =
      let both : Open smaller.written ≡ Open is.rotation.written =
      sym smaller.stands.found ∙ is.rotation.stands.found in
      let same : smaller.written ≡ is.rotation.written = cc (both) in
      let generation = ap (λ (w : Written). w.generation) same in
      let next = is.rotation.rotation.generation_is in
      let now = leads_generation (has_odd side) (on side l r) settled.written s settled.open_on.found
      (settled_leads side l r s settled) in
      let less = smaller.smaller in
      omega (arith, generation, next, now, less)

pub settled_holds_none : (side : Side) (l r : List ℕ) (s : State) (c : Command) → IsSettledFor side l r s
    → HoldsUnfinished l r s c → ⊥
settled_holds_none Left l r s c settled (Left, inl is) =
    record_no Left l r s settled true l settled.written c settled.open_on is
settled_holds_none Left l r s c settled (Right, inl is) = record_beside_no Left l r s settled c is
settled_holds_none Left l r s c settled (Left, inr is) = rotation_no Left l r s settled c is
settled_holds_none Left l r s c settled (Right, inr is) = rotation_aside_no Left l r s settled c is settled.others
settled_holds_none Right l r s c settled (Right, inl is) =
    record_no Right l r s settled false r settled.written c settled.open_on is
settled_holds_none Right l r s c settled (Left, inl is) = record_beside_no Right l r s settled c is
settled_holds_none Right l r s c settled (Right, inr is) = rotation_no Right l r s settled c is
settled_holds_none Right l r s c settled (Left, inr is) = rotation_aside_no Right l r s settled c is settled.others

-- ---- beside an older one

-- a journal of a greater generation, with which a pair stands for a state, leads there
pub later_leads : (side : Side) (held image : List ℕ) (v w : Written) (s t : State) → LeadsTo v s
    → found_on (has_odd side) held ≡ Open v → found_on (has_odd (other side)) image ≡ Open w
    → v.generation < w.generation → StandFor (on side held image) (on side image held) t → LeadsTo w t
later_leads Left held image v w s t leads found next less stands =
    leads_before Right held image w t stands next
    (older v.generation leads.state less (standing_open true held v leads.state found leads.came))
later_leads Right held image v w s t leads found next less stands =
    leads_before Left image held w t stands next
    (older v.generation leads.state less (standing_open false held v leads.state found leads.came))
