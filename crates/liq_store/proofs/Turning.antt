-- A rotation at a store: the next generation begins on the disk beside.
use Rattle.std.proofs.Common.{◌≡◌, ◌⊎◌, ◌↔◌, inl, inr, ⊎_elim, ◌+◌, ℕ, List, [], Bool, true, false, ◌&&◌, if◌then◌else◌, Option, Some, None, IfSome, IsSome, refl, sym, ◌∙◌, ap, subst}
use Rattle.liq_outside.specs.At.{DiskAt}
use Rattle.liq_outside.specs.Disk.{GoesOn, LeavesOnly, LeftNow, LeftSince, Only}
use Rattle.liq_outside.proofs.Moments.{at_last, unmoved}
use Rattle.liq_types.specs.declared.events.ListChange.{ListChange}
use Rattle.liq_types.specs.declared.image.Image.{Image}
use Rattle.liq_types.specs.declared.replies.Answer.{Answer}
use Rattle.liq_types.specs.declared.replies.Answer.TheVariants as answer
use Rattle.liq_types.specs.declared.replies.Reply.{Reply}
use Rattle.liq_types.specs.declared.requests.Command.{Command}
use Rattle.liq_types.specs.declared.requests.Request.TheVariants.{Do}
use Rattle.liq_types.specs.State.{State}
use Rattle.liq_core.specs.Core.{Core, SameContent, StandsFor}
use Rattle.liq_core.specs.Plan.{Plan}
use Rattle.liq_core.proofs.SameContents.{stands_after}
use Rattle.liq_rule_step.specs.Image.{image}
use Rattle.liq_rule_step.specs.Step.{after, is_allowed, step}
use Rattle.liq_journal.specs.Crash.{CrashOfCreate, CreateLeaves, Stands, beginning, is_odd}
use Rattle.liq_journal.specs.Settled.{IsSettled, JournalOn}
use Rattle.liq_types.specs.Verbs.{is_rotate}
use Rattle.liq_journal.specs.Written.{Written, start_of}
use Rattle.liq_disk_pair.specs.declared.side.Side.{Side}
use Rattle.liq_disk_pair.specs.declared.side.Side.TheVariants.{Left, Right}
use Rattle.liq_disk_pair.specs.Kept.{IsKept, IsKeptWith, IsRotationOf, IsSettledFor}
use Rattle.liq_disk_pair.specs.Pair.{commands_on}
use Rattle.liq_disk_pair.specs.Sides.{has_odd, on, other}
use Rattle.liq_core.proofs.Alike.{core_alike}
use Rattle.liq_disk_pair.proofs.Alike.{settled_alike}
use Rattle.liq_disk_pair.proofs.KeptWith.{behind_rotation}
use Rattle.liq_disk_pair.proofs.Turning.{rotation_kept, rotation_settled}
use Rattle.liq_disk_pair.specs.Commands.{read_back}
use Rattle.liq_store.specs.Calling.{WritesOn}
use Rattle.liq_store.specs.Keeping.{IsAtRest, IsKeptAround, IsKeptNear}
use Rattle.liq_store.specs.Rotating.{is_rotation, rotation_of, side_after, start_after}
use Rattle.liq_store.specs.Stored.{Stored}
use Rattle.liq_store.specs.Within.{IsWithin, stored}
use Rattle.liq_store.proofs.Appending.{all_has, behind_newly, some_isnt_none, step_is_after}
use Rattle.liq_store.proofs.Calling.{Writes, taken_left, turned_on, writes_on}
use Rattle.liq_store.proofs.Generations.{next_generation, next_side, no_records}
use Rattle.liq_store.proofs.Going.{Going, going_by, order_going, order_halted, rest_now, rest_only, within_same}
use Rattle.liq_store.proofs.OneDisk.{some_same, told_too}

-- ---- by the side

kept_turning : (side : Side) (held aside image : List ℕ) (s : State) (c : Command) (w : Written)
    → IsSettledFor side (on side held aside) (on side aside held) s
    → IsRotationOf s w c → w.commands ≡ [] → CreateLeaves (has_odd (other side)) aside w image
    → IsKeptWith (on side held image) (on side image held) s (commands_on (on side held aside) (on side aside held))
    ⊎ IsKeptWith (on side held image) (on side image held) (after s c) []
kept_turning Left held aside image s c w settled rotation none left =
    rotation_kept Left held aside held image s c w settled rotation refl none left
kept_turning Right held aside image s c w settled rotation none left =
    rotation_kept Right aside held image held s c w settled rotation refl none left

settled_turning : (side : Side) (held aside image : List ℕ) (s : State) (c : Command) (w : Written)
    → IsSettledFor side (on side held aside) (on side aside held) s
    → IsRotationOf s w c → Stands (has_odd (other side)) image w
    → IsSettledFor (other side) (on (other side) image held) (on (other side) held image) (after s c)
settled_turning Left held aside image s c w settled rotation stands =
    rotation_settled Left held aside held image s c w settled rotation refl stands
settled_turning Right held aside image s c w settled rotation stands =
    rotation_settled Right aside held image held s c w settled rotation refl stands

-- it is one that the state accepts
rotation_is : (s : State) (c : Command) (w : Written) → IsRotationOf s w c → is_rotation s (Do c) ≡ true
rotation_is s c w rotation = (λ i. is_rotate (rotation.rotates i) && is_allowed (rotation.allowed i))

-- a call that turns to the other disk, on a store that was not stopped
pub record Turns {D : Type 0} (at : D → DiskAt) (side : Side) (taken : JournalOn D) (b now : D) (core : Core)
    (c : Command) (bytes : List ℕ) : Type 0 where
  pub going : Going at side taken.disk b core
  pub generation_is : taken.generation ≡ core.image.generation
  pub parity : is_odd (taken.generation + 1) ≡ has_odd (other side)
  pub rotation : (s : State) → StandsFor core s → IsRotationOf s (beginning (s.generation + 1) bytes) c
  pub telling : IsSome (at now).seen ↔ IsSome (at b).seen
  pub crash : CrashOfCreate at b now (taken.generation + 1) bytes
  pub time : GoesOn at b now

-- what was planned on a protocol of the same content, and is written from these bytes
pub rotation_from : (core prepared told : Core) (plan : Plan) (c : Command) (bytes read : List ℕ)
    → SameContent core prepared → told ≡ prepared → plan.command ≡ c → read ≡ bytes
    → ((s : State) → StandsFor told s → IsRotationOf s (beginning (s.generation + 1) bytes) plan.command)
    → (s : State) → StandsFor core s → IsRotationOf s (beginning (s.generation + 1) read) c
rotation_from core prepared told plan c bytes read same is command reads made s stands =
    subst (λ (k : Command). IsRotationOf s (beginning (s.generation + 1) read) k) command
    (subst (λ (l : List ℕ). IsRotationOf s (beginning (s.generation + 1) l) plan.command) (sym reads)
    (made s (subst (λ (k : Core). StandsFor k s) (sym is) (stands_after core prepared s same stands))))

pub turns_by : {D : Type 0} {changes : List ListChange} (at : D → DiskAt) (side : Side) (taken : JournalOn D)
    (b now : D) (core : Core) (stopped : Option ℕ) (c : Command) (bytes : List ℕ)
    → stopped ≡ None → IsWithin at side taken b core stopped changes
    → ((s : State) → StandsFor core s → IsRotationOf s (beginning (s.generation + 1) bytes) c)
    → (IsSome (at now).seen ↔ IsSome (at b).seen) → CrashOfCreate at b now (taken.generation + 1) bytes
    → GoesOn at b now
    → Turns at side taken b now core c bytes
turns_by {D} {changes} at side taken b now core stopped c bytes none within rotation telling crash time = record {
  going = going_by at changes side taken b core stopped none within.order;
  generation_is = within.generation_is;
  parity = next_side taken.generation side within.parity_is;
  rotation = rotation;
  telling = telling;
  crash = crash;
  time = time;
}

module _ {D : Type 0} (at : D → DiskAt) (side : Side) (taken : JournalOn D) (b now : D) (core : Core) (c : Command)
    (bytes : List ℕ)
    (turns : Turns at side taken b now core c bytes) where
  next_is : (s : State) → StandsFor core s → taken.generation + 1 ≡ s.generation + 1
  next_is s stands = ap (λ (n : ℕ). n + 1) (turns.generation_is ∙ ap (λ (i : Image). i.generation) stands.image)

  -- what a crash in it may have left of the disk beside
  leaves : (s : State) → StandsFor core s → (held : List ℕ) → (at b).seen ≡ Some held
      → LeavesOnly at b now (CreateLeaves (has_odd (other side)) held (beginning (s.generation + 1) bytes))
  leaves s stands held told =
      let only : Only held (LeftNow at b) = subst (λ (o : Option (List ℕ)). IfSome o (λ l. Only l (LeftNow at b))) told
      turns.going.beside_rests in
      subst (λ (n : ℕ). LeavesOnly at b now (CreateLeaves (has_odd (other side)) held (beginning n bytes)))
      (next_is s stands)
      (subst (λ (o : Bool). LeavesOnly at b now (CreateLeaves o held (beginning (taken.generation + 1) bytes)))
      turns.parity (turns.crash held told only))

  around : (held aside image : List ℕ) → (at taken.disk).seen ≡ Some held → (at b).seen ≡ Some aside → (s : State)
      → StandsFor core s
      → CreateLeaves (has_odd (other side)) aside (beginning (s.generation + 1) bytes) image
      → IsKeptWith (on side held image) (on side image held) s (commands_on (on side held aside) (on side aside held))
      ⊎ IsKeptWith (on side held image) (on side image held) (after s c) []
  around held aside image th ta s stands left =
      kept_turning side held aside image s c (beginning (s.generation + 1) bytes)
      (turns.going.settled held aside th ta s stands) (turns.rotation s stands) refl left

  -- every pair that a crash in it may have left
  kept_pairs : (held aside : List ℕ) (s : State) → (at taken.disk).seen ≡ Some held → (at b).seen ≡ Some aside
      → StandsFor core s
      → (x y : List ℕ) → LeftSince at taken.disk (at taken.disk).moment x → LeftSince at now (at b).moment y
      → IsKeptAround s (commands_on (on side held aside) (on side aside held)) (Do c) (on side x y) (on side y x)
  kept_pairs held aside s th ta stands x y lx ly =
      let same : x ≡ held = rest_only at taken.disk held th turns.going.taken_rests x lx in
      let one : (step s (Do c)).0 ≡ after s c = step_is_after s c (turns.rotation s stands).allowed in
      let begun = commands_on (on side held aside) (on side aside held) in
      subst (λ (l : List ℕ). IsKeptAround s begun (Do c) (on side l y) (on side y l)) (sym same)
      (⊎_elim (λ before. inl before) (λ next. inr (record {
        kept = subst (λ (t : State). IsKept (on side held y) (on side y held) t) (sym one) next.kept;
        commands = next.commands ∙ sym (behind_newly begun s c (turns.rotation s stands).allowed
            ∙ behind_rotation begun c (turns.rotation s stands).rotates);
      }))
      (around held aside y th ta s stands ((leaves s stands aside ta).each y ly)))

  -- every pair that a crash after it may leave
  pub turning_near : (held told_now x y : List ℕ) → (at taken.disk).seen ≡ Some held → (at now).seen ≡ Some told_now
      → LeftNow at taken.disk x → LeftNow at now y
      → (s : State) → StandsFor core s → IsKeptNear s (on side x y) (on side y x)
  turning_near held told_now x y th tn lx ly s stands =
      let aside = told_too (at now).seen (at b).seen (turns.telling.1, turns.telling.0) told_now tn in
      let same : x ≡ held = rest_now at taken.disk held th turns.going.taken_rests x lx in
      let left = at_last at b now _ (leaves s stands aside.0 aside.1) y ly in
      subst (λ (l : List ℕ). IsKeptNear s (on side l y) (on side y l)) (sym same)
      (⊎_elim (λ still. inl still.kept) (λ next. inr (c, (turns.rotation s stands).allowed, next.kept))
      (around held aside.0 y th aside.1 s stands left))

  -- ---- the next generation stands, and the step is made

  pub turned : (next : Core) (s : State) → StandsFor core s → ((t : State) → StandsFor core t
      → StandsFor next (after t c)) → IsAtRest at now
      → ((held : List ℕ) → (at b).seen ≡ Some held → (image : List ℕ) × ((at now).seen ≡ Some image)
      × Stands (is_odd (taken.generation + 1)) image (beginning (taken.generation + 1) bytes))
      → Going at (other side) now taken.disk next
  turned next s stands steps rests created = record {
    taken_rests = rests;
    beside_rests = turns.going.taken_rests;
    settled = λ image held ti th t so.
        let aside = told_too (at now).seen (at b).seen (turns.telling.1, turns.telling.0) image ti in
        let one = created aside.0 aside.1 in
        let same : one.0 ≡ image = some_same one.0 image (at now).seen one.1 ti in
        let w = beginning (s.generation + 1) bytes in
        let stood : Stands (has_odd (other side)) image w =
        subst (λ (n : ℕ). Stands (has_odd (other side)) image (beginning n bytes)) (next_is s stands)
        (subst (λ (o : Bool). Stands o image (beginning (taken.generation + 1) bytes)) turns.parity
        (subst (λ (l : List ℕ). Stands (is_odd (taken.generation + 1)) l (beginning (taken.generation + 1) bytes)) same
        one.2)) in
        let settled = settled_turning side held aside.0 image s c w (turns.going.settled held aside.0 th aside.1 s
        stands) (turns.rotation s stands) stood in
        settled_alike (core_alike next (after s c) t (steps s stands) so) (other side) (on (other side) image held)
        (on (other side) held image) settled;
  }

  pub turning_within : {changes : List ListChange} (next : Core) (s : State) → StandsFor core s
      → ((t : State) → StandsFor core t → StandsFor next (after t c)) → IsAtRest at now
      → ((held : List ℕ) → (at b).seen ≡ Some held → (image : List ℕ) × ((at now).seen ≡ Some image)
      × Stands (is_odd (taken.generation + 1)) image (beginning (taken.generation + 1) bytes))
      → (generation limit start count : ℕ) → generation ≡ taken.generation + 1 → count ≡ 0
      → IfSome (at now).seen (IsSettled generation start count)
      → IsWithin at (other side) (record {
        disk = now;
        generation = generation;
        limit = limit;
        start = start;
        count = count;
      }) taken.disk next None changes
  turning_within next s stands steps rests created generation limit start count later none settled = record {
    order = order_going at (other side) (record {
      disk = now;
      generation = generation;
      limit = limit;
      start = start;
      count = count;
    }) taken.disk next (turned next s stands steps rests created);
    generation_is = later ∙ ap (λ (n : ℕ). n + 1) turns.generation_is
        ∙ sym (next_generation core next s c (turns.rotation s stands).rotates stands (steps s stands));
    parity_is = ap is_odd later ∙ turns.parity;
    count_is = none ∙ sym (no_records next s c (turns.rotation s stands).rotates (steps s stands));
    told = all_has (at now).seen generation start count settled;
    settled = λ goes. settled;
  }

  -- ---- after a fault nothing of it is known

  pub turning_halts : {before changes : List ListChange} → ((disk : D) (held : List ℕ) → (at disk).seen ≡ Some held
      → LeftNow at disk held)
      → (stopped : Option ℕ) → IsWithin at side taken b core stopped before → (next : Core) → SameContent core next
      → (sum : ℕ)
      → IsWithin at side taken now next (Some sum) changes
  turning_halts {before} {changes} stays stopped within next same sum =
      within_same at {before = changes} side taken now core next (Some sum) same (record {
        order = order_halted at side taken now core sum stays turning_near;
        generation_is = within.generation_is;
        parity_is = within.parity_is;
        count_is = within.count_is;
        told = within.told;
        settled = λ none. absurd (some_isnt_none sum none);
      })

  -- ---- what it does to the disks

  module _ (stopped : Option ℕ) (before : List ListChange) (within : IsWithin at side taken b core stopped before) where
    writes : (a : Answer) (side' : Side) (start' : ℕ) → ((s : State) → StandsFor core s
        → side' ≡ side_after a s (Do c) side)
        → ((s : State) → StandsFor core s → start' ≡ start_after a s (Do c) taken.start) → (a ≡ answer.NoMemory → ⊥)
        → Writes at side core taken.start stopped (Do c) a taken.disk b taken.disk now side' start'
    writes a side' start' side_is start_is some = record {
      side_is = side_is;
      start_is = start_is;
      taken = λ s stands rotation. refl;
      aside = λ s stands none. (let no : false ≡ true = sym none ∙ rotation_is s c (beginning (s.generation + 1) bytes)
          (turns.rotation s stands) in absurd (cc (no)));
      unwritten = λ s stands refused. absurd (refused (turns.rotation s stands).allowed);
      no_memory = λ none. absurd (some none);
      written = λ none held w k told found is. taken_left at side taken b core stopped before within none held w
          (read_back k) told found;
      created = λ none s stands held k told is rotation.
          let one : c ≡ k = cc (is) in
          subst (λ (d : Command). LeavesOnly at b now (CreateLeaves (has_odd (other side)) held (rotation_of s d))) one
          (subst (λ (l : List ℕ). LeavesOnly at b now (CreateLeaves (has_odd (other side)) held
          (beginning (s.generation + 1) l)))
          (turns.rotation s stands).checkpoint_is (leaves s stands held told));
      kept = λ none held aside s th ta stands x y lx ly. kept_pairs held aside s th ta stands x y lx ly;
      taken_telling = (λ some. some, λ some. some);
      aside_telling = turns.telling;
      taken_time = unmoved at taken.disk;
      aside_time = turns.time;
    }

    -- after a fault the same disk is taken
    pub turning_failed : (old : Stored D) → stored side taken b core stopped before ≡ old
        → (next : Core) (later : Option ℕ) (changes : List ListChange)
        → WritesOn at old (Do c) answer.DiskFault (stored side taken now next later changes)
    turning_failed old same next later changes =
        subst (λ (o : Stored D). WritesOn at o (Do c) answer.DiskFault (stored side taken now next later changes)) same
        (writes_on at side side core next taken.start taken.start stopped later before changes (Do c) answer.DiskFault
        taken.disk b taken.disk now
        (writes answer.DiskFault side taken.start (λ s stands. refl) (λ s stands. refl) (λ none. absurd (cc (none)))))

    -- after a reply the other one
    pub turning_done : (old : Stored D) → stored side taken b core stopped before ≡ old
        → (reply : Reply) (next : Core) (later : Option ℕ) (changes : List ListChange)
        → (generation limit start count : ℕ) → start ≡ start_of (beginning (taken.generation + 1) bytes)
        → WritesOn at old (Do c) (answer.Reply reply) (stored (other side) (record {
          disk = now;
          generation = generation;
          limit = limit;
          start = start;
          count = count;
        }) taken.disk next later changes)
    turning_done old same reply next later changes generation limit start count known =
        let new = stored (other side) (record {
          disk = now;
          generation = generation;
          limit = limit;
          start = start;
          count = count;
        }) taken.disk next later changes in
        subst (λ (o : Stored D). WritesOn at o (Do c) (answer.Reply reply) new) same
        (turned_on at side core next taken.start start stopped later before changes (Do c) (answer.Reply reply)
        taken.disk b now
        (writes (answer.Reply reply) (other side) start
        (λ s stands. sym (ap (λ (b : Bool). if b then other side
        else side) (rotation_is s c (beginning (s.generation + 1) bytes) (turns.rotation s stands))))
        (λ s stands. known
        ∙ ap (λ (l : List ℕ). start_of (beginning (s.generation + 1) l)) (turns.rotation s stands).checkpoint_is
        ∙ sym (ap (λ (b : Bool). if b then start_of (rotation_of s c)
        else taken.start) (rotation_is s c (beginning (s.generation + 1) bytes) (turns.rotation s stands))))
        (λ none. absurd (cc (none)))))
