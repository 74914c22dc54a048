use Rattle.std.proofs.Common.{◌≡◌, ◌∙◌, ◌++◌, ◌+◌, inl, ℕ, List, [], length, Option, Some, None, false, refl, sym, ap, ap₂, subst, arith}
use Rattle.liq_types.specs.declared.events.ListChange.{ListChange}
use Rattle.liq_types.specs.declared.image.Image.{Image}
use Rattle.liq_types.specs.declared.requests.Command.{Command}
use Rattle.liq_types.specs.declared.requests.Request.TheVariants.{Do}
use Rattle.liq_outside.specs.Disk.{IsLater}
use Rattle.liq_types.specs.declared.replies.Answer.{Answer}
use Rattle.liq_types.specs.declared.replies.Answer.TheVariants as answer
use Rattle.liq_types.specs.declared.replies.Reply.{Reply}
use Rattle.liq_types.specs.declared.replies.Reply.TheVariants.{No, Said}
use Rattle.liq_types.specs.State.{State}
use Rattle.liq_types.specs.Verbs.{is_rotate}
use Rattle.liq_core.specs.Core.{Core, StandsFor, state_of}
use Rattle.liq_core.specs.Plan.{IsPlan, Plan}
use Rattle.liq_core.proofs.SameContents.{stands_after, stands_before}
use Rattle.liq_rule_step.specs.Rules.{call_changes}
use Rattle.liq_rule_step.specs.Step.{Allowed, Refused, Repeated, Ruling, after, is_allowed, ruling, step}
use Rattle.liq_rule_step.specs.Verbs.{unhinted}
use Rattle.liq_core_hinted.proofs.Steps.{counts_on, generation_stays}
use Rattle.liq_journal.specs.Called.{Lasts}
use Rattle.liq_journal.specs.Crash.{CrashOfCreate, beginning}
use Rattle.liq_journal.specs.Settled.{JournalOn}
use Rattle.liq_journal.specs.Written.{is_odd, is_size}
use Rattle.liq_types.proofs.Verbs.{not_rotate}
use Rattle.liq_disk_pair.specs.declared.side.Side.{Side}
use Rattle.liq_disk_pair.specs.Kept.{IsRotationOf}
use Rattle.liq_disk_pair.specs.Sides.{on, other}
use Rattle.liq_store.specs.Calling.{WritesOn}
use Rattle.liq_store.specs.Causes.{OneRose, counts_of}
use Rattle.liq_store.specs.Keeping.{IsInOrder}
use Rattle.liq_rule_step.specs.Memory.{IsAccepted}
use Rattle.liq_store.specs.Rotating.{side_after, start_after}
use Rattle.liq_store.specs.Stored.{Stored, taken_disk}
use Rattle.liq_store.specs.Telling.{told}
use Rattle.liq_store.specs.Within.{IsWithin, stored}
use Rattle.liq_store.proofs.Appending.{Appends, all_has, appends, appends_on, has_same, kept_near, some_isnt_none, still_has, went_on}
use Rattle.liq_store.proofs.Calling.{none_accepted, reply_stays, rotates_then, ruled_stays, stays_on, taken_later}
use Rattle.liq_store.proofs.Counts.{beside_rose, stopped_on, taken_rose, taken_still, turned_still}
use Rattle.liq_store.proofs.Going.{order_going, order_halted, order_same, within_same}
use Rattle.liq_store.proofs.Rulings.{none_told, ruled, told_by_ruling}
use Rattle.liq_core.specs.Steps.{words_of}
use Rattle.liq_store.proofs.Steps.{guided_there, prepared_allowed, prepared_steps, prepared_told, replied, unhinted_rotation, unhinted_words}
use Rattle.liq_store.proofs.Turning.{Turns, rotation_from, turning_done, turning_failed, turning_halts, turning_within, turns_by}
use Rattle.liq_store.proofs.store.Store.carry_out.Given.{Over}
use Rattle.liq_store.proofs.store.Store.carry_out.Goals as goal
use Rattle.liq_store.proofs.store.Store.carry_out.Goals.{After-deref, After-prepare, After-write_record}

-- ---- the store before the call, and once the command is prepared

-- its protocol stands for each state for which it does
here : (g : Over) (c : After-prepare g) (s : State) → StandsFor c.args.self.now.core s
    → StandsFor c.self.inside.protocol s
here g c s stands = subst (λ (o : Stored g.row.D.Denot). StandsFor o.core s) (sym c.self.view_is) stands

-- and so does the one that is prepared
there : (g : Over) (c : After-prepare g) (s : State) → StandsFor c.args.self.now.core s
    → StandsFor c.prepare.new.protocol s
there g c s stands =
    stands_after c.self.inside.protocol c.prepare.new.protocol s c.prepare.ensures.same (here g c s stands)

-- it wasn't stopped
goes : (g : Over) (c : After-prepare g) → c.self.inside.stopped ≡ None
goes g c = ap (λ (o : Stored g.row.D.Denot). o.stopped) c.self.view_is ∙ c.requires.going

-- the changes that are not followed yet stay
changes_stay : (g : Over) (c : After-prepare g) → c.prepare.new.changes.items ≡ c.args.self.now.changes
changes_stay g c = c.prepare.ensures.changes ∙ ap (λ (o : Stored g.row.D.Denot). o.changes) c.self.view_is

-- ---- where nothing is written

-- the store as it is once the command is prepared
abbrev prepared_store : (g : Over) → After-prepare g → Stored g.row.D.Denot
prepared_store g c = stored c.self.inside.side c.self.inside.taken c.self.inside.beside c.prepare.new.protocol
    c.self.inside.stopped c.prepare.new.changes.items

still_within : (g : Over) (c : After-prepare g)
    → IsWithin g.D.Disk.at c.self.inside.side c.self.inside.taken c.self.inside.beside c.prepare.new.protocol
    c.self.inside.stopped c.prepare.new.changes.items
still_within g c =
    within_same g.D.Disk.at c.self.inside.side c.self.inside.taken c.self.inside.beside c.self.inside.protocol
    c.prepare.new.protocol c.self.inside.stopped c.prepare.ensures.same c.self.invariant

still_in_order : (g : Over) (c : After-prepare g) → IsInOrder g.D.Disk.at (prepared_store g c)
still_in_order g c = (still_within g c).order

still_written : (g : Over) (c : After-prepare g) (a : Answer)
    → ((s : State) → StandsFor c.self.inside.protocol s
    → (side_after a s (Do c.args.command.now) c.self.inside.side ≡ c.self.inside.side)
    × (start_after a s (Do c.args.command.now) c.self.inside.taken.start ≡ c.self.inside.taken.start))
    → WritesOn g.D.Disk.at c.args.self.now (Do c.args.command.now) a (prepared_store g c)
still_written g c a stays =
    stays_on g.D.Disk.at c.self.inside.side c.self.inside.taken c.self.inside.beside c.self.inside.protocol
    c.self.inside.stopped c.self.inside.changes.items c.self.invariant c.args.self.now c.self.view_is
    c.prepare.new.protocol c.self.inside.stopped c.prepare.new.changes.items (Do c.args.command.now) a stays

-- a reply that tells of a ruling other than to allow the command
ruled_out : (g : Over) (c : After-prepare g) (r : Ruling) (reply : Reply) → is_allowed r ≡ false
    → ((s : State) → StandsFor c.self.inside.protocol s → ruling s c.args.command.now ≡ r)
    → WritesOn g.D.Disk.at c.args.self.now (Do c.args.command.now) (answer.Reply reply) (prepared_store g c)
ruled_out g c r reply differs is =
    still_written g c (answer.Reply reply) (λ s stands. reply_stays s (Do c.args.command.now) reply c.self.inside.side
    c.self.inside.taken.start (ruled_stays s c.args.command.now r (is s stands) differs))

tells_none : (g : Over) (c : After-prepare g) (s : State) (a : Answer) → told s (Do c.args.command.now) a ≡ []
    → c.prepare.new.changes.items ≡ c.args.self.now.changes ++ told s (Do c.args.command.now) a
tells_none g c s a none = none_told s (Do c.args.command.now) a c.args.self.now.changes c.prepare.new.changes.items
    (changes_stay g c) none

-- ---- where a step is planned

-- it is the command's, without its own hint words, in each state for which the protocol stands
abbrev Plans : (g : Over) → After-prepare g → Plan → Type 0
Plans g c plan =
    (s : State) → StandsFor c.self.inside.protocol s → (plan.command ≡ unhinted c.args.command.now) × IsPlan s plan

plans_there : (g : Over) (c : After-prepare g) (plan : Plan) → Plans g c plan → (s : State)
    → StandsFor c.prepare.new.protocol s → IsPlan s plan
plans_there g c plan planned s stands = (planned s (stands_before c.self.inside.protocol c.prepare.new.protocol s
    c.prepare.ensures.same stands)).1

-- the command is accepted, and no step is made yet
accepts : (g : Over) (c : After-prepare g) (plan : Plan) → Plans g c plan → (s : State)
    → StandsFor c.args.self.now.core s
    → StandsFor c.prepare.new.protocol s × IsAccepted s (Do c.args.command.now)
accepts g c plan planned s stands =
    (there g c s stands, prepared_allowed s c.args.command.now plan (planned s (here g c s stands)))

-- the step that is made is the command's
steps_on : (g : Over) (c : After-prepare g) (plan : Plan) → Plans g c plan → (done : Core)
    → ((s : State) → StandsFor c.prepare.new.protocol s → StandsFor done (step s (Do plan.command)).0)
    → (s : State) → StandsFor c.self.inside.protocol s → StandsFor done (after s c.args.command.now)
steps_on g c plan planned done made s stands =
    prepared_steps done s c.args.command.now plan (planned s stands) (made s (stands_after c.self.inside.protocol
    c.prepare.new.protocol s c.prepare.ensures.same stands))

-- ---- where the other disk is turned to

-- the rotation that is planned, from the bytes as they are read
rotates_on : (g : Over) (c : After-deref g) → (s : State) → StandsFor c.self.inside.protocol s
    → IsRotationOf s (beginning (s.generation + 1) c.deref.result.now) c.args.command.now
rotates_on g c =
    rotation_from c.self.inside.protocol c.prepare.new.protocol c.protocol.result.now c.in-Ready.planned
    c.args.command.now c.in-Ok.checkpoint.items c.deref.result.now c.prepare.ensures.same c.protocol.ensures
    (c.in-Ready.ensures.ready.0 ∙ unhinted_rotation c.args.command.now c.in-Rotate.is) c.deref.ensures.value
    c.in-Ok.ensures.rotation

-- what a crash in it may leave of the disk that was beside
turns_to : (g : Over) (c : After-deref g) (now : g.row.D.Denot) → Lasts g.D.Disk.at c.self.inside.beside now
    → CrashOfCreate g.D.Disk.at c.self.inside.beside now (c.self.inside.taken.generation + 1) c.deref.result.now
    → Turns g.D.Disk.at c.self.inside.side c.self.inside.taken c.self.inside.beside now c.self.inside.protocol
    c.args.command.now c.deref.result.now
turns_to g c now lasts crash =
    turns_by g.D.Disk.at c.self.inside.side c.self.inside.taken c.self.inside.beside now c.self.inside.protocol
    c.self.inside.stopped c.args.command.now c.deref.result.now (ap (λ (o : Stored g.row.D.Denot). o.stopped)
    c.self.view_is ∙ c.requires.going) c.self.invariant (rotates_on g c) lasts.telling crash lasts.time

-- ---- where a record is appended

stays_then : (g : Over) (c : After-write_record g) → is_rotate c.args.command.now.call ≡ false
stays_then g c = not_rotate c.args.command.now.call c.in_default.not-Rotate

-- what a crash in it may leave of the disk that is taken
appends_one : (g : Over) (c : After-write_record g)
    → Appends g.D.Disk.at c.self.inside.side c.self.inside.taken c.write_record.new.taken c.self.inside.beside
    c.self.inside.protocol c.args.command.now
appends_one g c =
    appends g.D.Disk.at c.self.inside.side c.self.inside.taken c.write_record.new.taken c.self.inside.beside
    c.self.inside.protocol c.self.inside.stopped c.args.command.now c.in-Ready.planned (ap
    (λ (o : Stored g.row.D.Denot). o.stopped) c.self.view_is ∙ c.requires.going) c.self.invariant
    c.in-Ready.ensures.prepared c.write_record.ensures.called.lasts.telling c.write_record.ensures.crash

appends_with : (g : Over) (c : After-write_record g) (a : Answer) → (a ≡ answer.NoMemory → ⊥) → (next : Core)
    (later : Option ℕ) (changes : List ListChange)
    → WritesOn g.D.Disk.at c.args.self.now (Do c.args.command.now) a (stored c.self.inside.side
    c.write_record.new.taken c.self.inside.beside next later changes)
appends_with g c a some next later changes =
    appends_on g.D.Disk.at c.self.inside.side c.self.inside.taken c.write_record.new.taken c.self.inside.beside
    c.self.inside.protocol c.args.command.now (appends_one g c) c.args.self.now c.self.inside.stopped c.self.view_is
    (stays_then g c) (ap (λ j. j.start) c.write_record.ensures.same) c.write_record.ensures.called.lasts.time a some
    next later changes

-- ---- the command comes again, or is refused

pub invariant_of-self : goal.invariant_of-self
invariant_of-self g c = still_within g (goal.at.invariant_of-self g c).After-prepare

pub invariant_of-self-in-No : goal.invariant_of-self-in-No
invariant_of-self-in-No g c = still_within g (goal.at.invariant_of-self-in-No g c).After-prepare

pub returns-in-Again-clause-order : goal.returns-in-Again-clause-order
returns-in-Again-clause-order g c = still_in_order g (goal.at.returns-in-Again-clause-order g c).After-prepare

pub returns-in-No-clause-order : goal.returns-in-No-clause-order
returns-in-No-clause-order g c = still_in_order g (goal.at.returns-in-No-clause-order g c).After-prepare

pub returns-in-Again-clause-disks : goal.returns-in-Again-clause-disks
returns-in-Again-clause-disks g c = ruled_out g (goal.at.returns-in-Again-clause-disks g c).After-prepare
    (Repeated c.in-Again.done) (Said c.in-Again.done) refl c.in-Again.ensures.prepared

pub returns-in-No-clause-disks : goal.returns-in-No-clause-disks
returns-in-No-clause-disks g c = ruled_out g (goal.at.returns-in-No-clause-disks g c).After-prepare
    (Refused c.in-No.refusal) (No c.in-No.refusal) refl c.in-No.ensures.prepared

pub returns-in-Again-clause-appended : goal.returns-in-Again-clause-appended
returns-in-Again-clause-appended g c s stands accepted none =
    let at = (goal.at.returns-in-Again-clause-appended g c).After-prepare in
    let so = c.in-Again.ensures.prepared s (here g at s stands) in
    absurd (none_accepted s c.args.command.now (Repeated c.in-Again.done) so refl accepted)

pub returns-in-No-clause-appended : goal.returns-in-No-clause-appended
returns-in-No-clause-appended g c s stands accepted none =
    let so = c.in-No.ensures.prepared s (here g (goal.at.returns-in-No-clause-appended g c).After-prepare s stands) in
    absurd (none_accepted s c.args.command.now (Refused c.in-No.refusal) so refl accepted)

pub returns-in-Again-clause-step : goal.returns-in-Again-clause-step
returns-in-Again-clause-step g c s stands =
    let at = (goal.at.returns-in-Again-clause-step g c).After-prepare in
    ruled c.prepare.new.protocol s c.args.command.now (Repeated c.in-Again.done) (Said c.in-Again.done)
    (c.in-Again.ensures.prepared s (here g at s stands)) (there g at s stands) refl

pub returns-in-No-clause-step : goal.returns-in-No-clause-step
returns-in-No-clause-step g c s stands =
    let at = (goal.at.returns-in-No-clause-step g c).After-prepare in
    ruled c.prepare.new.protocol s c.args.command.now (Refused c.in-No.refusal) (No c.in-No.refusal)
    (c.in-No.ensures.prepared s (here g at s stands)) (there g at s stands) refl

pub returns-in-Again-clause-told : goal.returns-in-Again-clause-told
returns-in-Again-clause-told g c s stands =
    let at = (goal.at.returns-in-Again-clause-told g c).After-prepare in
    tells_none g at s (answer.Reply (Said c.in-Again.done)) (told_by_ruling s c.args.command.now
    (Repeated c.in-Again.done) (c.in-Again.ensures.prepared s (here g at s stands)))

pub returns-in-No-clause-told : goal.returns-in-No-clause-told
returns-in-No-clause-told g c s stands =
    let at = (goal.at.returns-in-No-clause-told g c).After-prepare in
    tells_none g at s (answer.Reply (No c.in-No.refusal)) (told_by_ruling s c.args.command.now
    (Refused c.in-No.refusal) (c.in-No.ensures.prepared s (here g at s stands)))

pub returns-in-Again-clause-stops : goal.returns-in-Again-clause-stops
returns-in-Again-clause-stops g c = ap (λ (o : Stored g.row.D.Denot). o.stopped) c.self.view_is

pub returns-in-No-clause-stops : goal.returns-in-No-clause-stops
returns-in-No-clause-stops g c = ap (λ (o : Stored g.row.D.Denot). o.stopped) c.self.view_is

pub returns-in-Again-clause-cause : goal.returns-in-Again-clause-cause
returns-in-Again-clause-cause g c =
    ap (λ (o : Stored g.row.D.Denot). counts_of g.D.Disk.at o.left o.right) c.self.view_is

pub returns-in-No-clause-cause : goal.returns-in-No-clause-cause
returns-in-No-clause-cause g c =
    ap (λ (o : Stored g.row.D.Denot). counts_of g.D.Disk.at o.left o.right) c.self.view_is

-- ---- there is no memory for it, or none for the checkpoint of a rotation

pub invariant_of-self-in-NoMemory : goal.invariant_of-self-in-NoMemory
invariant_of-self-in-NoMemory g c = still_within g (goal.at.invariant_of-self-in-NoMemory g c).After-prepare

pub invariant_of-self-in_default-checkpoint_after : goal.invariant_of-self-in_default-checkpoint_after
invariant_of-self-in_default-checkpoint_after g c =
    still_within g (goal.at.invariant_of-self-in_default-checkpoint_after g c).After-prepare

pub returns-in-NoMemory-clause-order : goal.returns-in-NoMemory-clause-order
returns-in-NoMemory-clause-order g c = still_in_order g (goal.at.returns-in-NoMemory-clause-order g c).After-prepare

pub returns-in_default-checkpoint_after-clause-order : goal.returns-in_default-checkpoint_after-clause-order
returns-in_default-checkpoint_after-clause-order g c =
    still_in_order g (goal.at.returns-in_default-checkpoint_after-clause-order g c).After-prepare

pub returns-in-NoMemory-clause-disks : goal.returns-in-NoMemory-clause-disks
returns-in-NoMemory-clause-disks g c = still_written g (goal.at.returns-in-NoMemory-clause-disks g c).After-prepare
    answer.NoMemory (λ s stands. (refl, refl))

pub returns-in_default-checkpoint_after-clause-disks : goal.returns-in_default-checkpoint_after-clause-disks
returns-in_default-checkpoint_after-clause-disks g c =
    still_written g (goal.at.returns-in_default-checkpoint_after-clause-disks g c).After-prepare answer.NoMemory
    (λ s stands. (refl, refl))

pub returns-in-NoMemory-clause-step : goal.returns-in-NoMemory-clause-step
returns-in-NoMemory-clause-step g c s stands =
    let at = (goal.at.returns-in-NoMemory-clause-step g c).After-prepare in
    (there g at s stands, c.in-NoMemory.ensures.prepared s (here g at s stands))

pub returns-in_default-checkpoint_after-clause-step : goal.returns-in_default-checkpoint_after-clause-step
returns-in_default-checkpoint_after-clause-step g c s stands =
    let is = accepts g (goal.at.returns-in_default-checkpoint_after-clause-step g c).After-prepare c.in-Ready.planned
    c.in-Ready.ensures.prepared s stands in (is.0, inl is.1)

pub returns-in-NoMemory-clause-told : goal.returns-in-NoMemory-clause-told
returns-in-NoMemory-clause-told g c s stands =
    tells_none g (goal.at.returns-in-NoMemory-clause-told g c).After-prepare s answer.NoMemory refl

pub returns-in_default-checkpoint_after-clause-told : goal.returns-in_default-checkpoint_after-clause-told
returns-in_default-checkpoint_after-clause-told g c s stands =
    tells_none g (goal.at.returns-in_default-checkpoint_after-clause-told g c).After-prepare s answer.NoMemory refl

pub returns-in-NoMemory-clause-stops : goal.returns-in-NoMemory-clause-stops
returns-in-NoMemory-clause-stops g c = ap (λ (o : Stored g.row.D.Denot). o.stopped) c.self.view_is

pub returns-in_default-checkpoint_after-clause-stops : goal.returns-in_default-checkpoint_after-clause-stops
returns-in_default-checkpoint_after-clause-stops g c = ap (λ (o : Stored g.row.D.Denot). o.stopped) c.self.view_is

pub returns-in-NoMemory-clause-cause : goal.returns-in-NoMemory-clause-cause
returns-in-NoMemory-clause-cause g c =
    ap (λ (o : Stored g.row.D.Denot). counts_of g.D.Disk.at o.left o.right) c.self.view_is

pub returns-in_default-checkpoint_after-clause-cause : goal.returns-in_default-checkpoint_after-clause-cause
returns-in_default-checkpoint_after-clause-cause g c =
    ap (λ (o : Stored g.row.D.Denot). counts_of g.D.Disk.at o.left o.right) c.self.view_is

-- ---- a rotation meets a fault

pub invariant_of-self-in-Err : goal.invariant_of-self-in-Err
invariant_of-self-in-Err g c =
    subst (λ (j : JournalOn g.row.D.Denot). IsWithin g.D.Disk.at c.self.inside.side j c.begin_generation.new.beside
    c.prepare.new.protocol (Some c.sum_of_faults.result) c.prepare.new.changes.items) (sym c.in-Err.ensures.kept)
    (turning_halts g.D.Disk.at c.self.inside.side c.self.inside.taken c.self.inside.beside c.begin_generation.new.beside
    c.self.inside.protocol c.args.command.now c.deref.result.now
    (turns_to g (goal.at.invariant_of-self-in-Err g c).After-deref c.begin_generation.new.beside c.in-Err.ensures.lasts
    c.in-Err.ensures.crash) g.met.D.Disk.seen_may_stay c.self.inside.stopped c.self.invariant c.prepare.new.protocol
    c.prepare.ensures.same c.sum_of_faults.result)

pub returns-in-Err-clause-order : goal.returns-in-Err-clause-order
returns-in-Err-clause-order g c = (invariant_of-self-in-Err g c).order

pub returns-in-Err-clause-disks : goal.returns-in-Err-clause-disks
returns-in-Err-clause-disks g c =
    subst (λ (j : JournalOn g.row.D.Denot). WritesOn g.D.Disk.at c.args.self.now (Do c.args.command.now)
    answer.DiskFault (stored c.self.inside.side j c.begin_generation.new.beside c.prepare.new.protocol
    (Some c.sum_of_faults.result) c.prepare.new.changes.items)) (sym c.in-Err.ensures.kept)
    (turning_failed g.D.Disk.at c.self.inside.side c.self.inside.taken c.self.inside.beside
    c.begin_generation.new.beside c.self.inside.protocol c.args.command.now c.deref.result.now
    (turns_to g (goal.at.returns-in-Err-clause-disks g c).After-deref c.begin_generation.new.beside
    c.in-Err.ensures.lasts c.in-Err.ensures.crash) c.self.inside.stopped c.self.inside.changes.items c.self.invariant
    c.args.self.now c.self.view_is c.prepare.new.protocol (Some c.sum_of_faults.result) c.prepare.new.changes.items)

pub returns-in-Err-clause-step : goal.returns-in-Err-clause-step
returns-in-Err-clause-step g c s stands = accepts g (goal.at.returns-in-Err-clause-step g c).After-prepare
    c.in-Ready.planned c.in-Ready.ensures.prepared s stands

pub returns-in-Err-clause-told : goal.returns-in-Err-clause-told
returns-in-Err-clause-told g c s stands =
    tells_none g (goal.at.returns-in-Err-clause-told g c).After-prepare s answer.DiskFault refl

pub returns-in-Err-clause-stops : goal.returns-in-Err-clause-stops
returns-in-Err-clause-stops g c =
    stopped_on g.D.Disk.at c.self.inside.side c.begin_generation.new.taken.disk c.begin_generation.new.beside
    c.args.self.now.stopped
    c.sum_of_faults.result c.requires.going c.sum_of_faults.ensures

pub returns-in-Err-clause-cause : goal.returns-in-Err-clause-cause
returns-in-Err-clause-cause g c =
    let side = c.self.inside.side in
    let before = counts_of g.D.Disk.at c.args.self.now.left c.args.self.now.right in
    subst (λ (j : JournalOn g.row.D.Denot). OneRose before (counts_of g.D.Disk.at (on side j.disk
    c.begin_generation.new.beside)
    (on side c.begin_generation.new.beside j.disk))) (sym c.in-Err.ensures.kept)
    (subst (λ (o : Stored g.row.D.Denot). OneRose (counts_of g.D.Disk.at o.left o.right) (counts_of g.D.Disk.at
    (on side c.self.inside.taken.disk c.begin_generation.new.beside) (on side c.begin_generation.new.beside
    c.self.inside.taken.disk)))
    c.self.view_is
    (beside_rose g.D.Disk.at side c.self.inside.taken.disk c.self.inside.beside c.begin_generation.new.beside
    c.in-Err.ensures.cause.later c.in-Err.ensures.cause.rose))

-- ---- a rotation is answered

pub invariant_of-self-in-Rotate : goal.invariant_of-self-in-Rotate
invariant_of-self-in-Rotate g c =
    let at = goal.at.invariant_of-self-in-Rotate g c in
    subst (λ (x : Side). IsWithin g.D.Disk.at x c.begin_generation.new.taken c.begin_generation.new.beside
    c.make-done.new.protocol
    c.self.inside.stopped c.prepare.new.changes.items) (sym c.in-Ok-begin_generation.ensures.side)
    (subst (λ (d : g.row.D.Denot). IsWithin g.D.Disk.at (other c.self.inside.side) c.begin_generation.new.taken d
    c.make-done.new.protocol c.self.inside.stopped c.prepare.new.changes.items) (sym
    c.in-Ok-begin_generation.ensures.exchanged)
    (subst (λ (o : Option ℕ). IsWithin g.D.Disk.at (other c.self.inside.side) c.begin_generation.new.taken
    c.self.inside.taken.disk
    c.make-done.new.protocol o c.prepare.new.changes.items)
    (sym (goes g at.After-prepare))
    (turning_within g.D.Disk.at c.self.inside.side c.self.inside.taken c.self.inside.beside
    c.begin_generation.new.taken.disk
    c.self.inside.protocol c.args.command.now c.deref.result.now (turns_to g at.After-deref
    c.begin_generation.new.taken.disk c.in-Ok-begin_generation.ensures.lasts c.in-Ok-begin_generation.ensures.crash)
    c.make-done.new.protocol (state_of c.self.inside.protocol) c.prepare.ensures.stands
    (steps_on g at.After-prepare c.in-Ready.planned c.in-Ready.ensures.prepared c.make-done.new.protocol
    c.make-done.ensures.state)
    c.in-Ok-begin_generation.ensures.durable c.in-Ok-begin_generation.ensures.created
    c.begin_generation.new.taken.generation c.begin_generation.new.taken.limit c.begin_generation.new.taken.start
    c.begin_generation.new.taken.count
    c.in-Ok-begin_generation.ensures.known.0 c.in-Ok-begin_generation.ensures.known.3
    c.in-Ok-begin_generation.ensures.settled)))

pub returns-in-Rotate-clause-order : goal.returns-in-Rotate-clause-order
returns-in-Rotate-clause-order g c = (invariant_of-self-in-Rotate g c).order

pub returns-in-Rotate-clause-disks : goal.returns-in-Rotate-clause-disks
returns-in-Rotate-clause-disks g c =
    subst (λ (x : Side). WritesOn g.D.Disk.at c.args.self.now (Do c.args.command.now)
    (answer.Reply (Said c.make-done.result)) (stored x c.begin_generation.new.taken c.begin_generation.new.beside
    c.make-done.new.protocol
    c.self.inside.stopped c.prepare.new.changes.items)) (sym c.in-Ok-begin_generation.ensures.side)
    (subst (λ (d : g.row.D.Denot). WritesOn g.D.Disk.at c.args.self.now (Do c.args.command.now)
    (answer.Reply (Said c.make-done.result)) (stored (other c.self.inside.side) c.begin_generation.new.taken d
    c.make-done.new.protocol c.self.inside.stopped c.prepare.new.changes.items)) (sym
    c.in-Ok-begin_generation.ensures.exchanged)
    (turning_done g.D.Disk.at c.self.inside.side c.self.inside.taken c.self.inside.beside
    c.begin_generation.new.taken.disk
    c.self.inside.protocol c.args.command.now c.deref.result.now (turns_to g
    (goal.at.returns-in-Rotate-clause-disks g c).After-deref c.begin_generation.new.taken.disk
    c.in-Ok-begin_generation.ensures.lasts c.in-Ok-begin_generation.ensures.crash) c.self.inside.stopped
    c.self.inside.changes.items c.self.invariant c.args.self.now c.self.view_is (Said c.make-done.result)
    c.make-done.new.protocol c.self.inside.stopped c.prepare.new.changes.items c.begin_generation.new.taken.generation
    c.begin_generation.new.taken.limit c.begin_generation.new.taken.start c.begin_generation.new.taken.count
    c.in-Ok-begin_generation.ensures.known.2))

pub returns-in-Rotate-clause-appended : goal.returns-in-Rotate-clause-appended
returns-in-Rotate-clause-appended g c s stands accepted none =
    absurd (rotates_then s c.args.command.now c.in-Rotate.is accepted none)

pub returns-in-Rotate-clause-step : goal.returns-in-Rotate-clause-step
returns-in-Rotate-clause-step g c s stands =
    let at = (goal.at.returns-in-Rotate-clause-step g c).After-prepare in
    replied c.make-done.new.protocol s c.args.command.now c.in-Ready.planned c.make-done.result
    (c.in-Ready.ensures.prepared s (here g at s stands)).0 (c.make-done.ensures.state s (there g at s stands))
    (c.make-done.ensures.reply s (there g at s stands))

pub returns-in-Rotate-clause-told : goal.returns-in-Rotate-clause-told
returns-in-Rotate-clause-told g c s stands =
    let at = (goal.at.returns-in-Rotate-clause-told g c).After-prepare in
    tells_none g at s (answer.Reply (Said c.make-done.result)) (told_by_ruling s c.args.command.now Allowed
    (prepared_allowed s c.args.command.now c.in-Ready.planned (c.in-Ready.ensures.prepared s (here g at s stands)))
    ∙ ap (call_changes s) c.in-Rotate.is)

pub returns-in-Rotate-clause-stops : goal.returns-in-Rotate-clause-stops
returns-in-Rotate-clause-stops g c = ap (λ (o : Stored g.row.D.Denot). o.stopped) c.self.view_is

pub returns-in-Rotate-clause-cause : goal.returns-in-Rotate-clause-cause
returns-in-Rotate-clause-cause g c =
    ap₂ (λ (x : Side) (d : g.row.D.Denot). counts_of g.D.Disk.at (on x c.begin_generation.new.taken.disk d)
    (on x d c.begin_generation.new.taken.disk)) c.in-Ok-begin_generation.ensures.side
    c.in-Ok-begin_generation.ensures.exchanged
    ∙ turned_still g.D.Disk.at c.self.inside.side c.self.inside.taken.disk c.self.inside.beside
    c.begin_generation.new.taken.disk
    c.in-Ok-begin_generation.ensures.cause
    ∙ ap (λ (o : Stored g.row.D.Denot). counts_of g.D.Disk.at o.left o.right) c.self.view_is

-- ---- a record meets a fault

pub write_record-requires-clause-stays : goal.write_record-requires-clause-stays
write_record-requires-clause-stays g c = not_rotate c.args.command.now.call c.in_default.not-Rotate

pub write_record-requires-clause-few : goal.write_record-requires-clause-few
write_record-requires-clause-few g c =
    let few = c.in-Ready.ensures.ready.2 (not_rotate c.args.command.now.call c.in_default.not-Rotate)
    in omega (arith, few, c.prepare.ensures.same.records, c.self.invariant.count_is)

pub write_record-requires-clause-settled : goal.write_record-requires-clause-settled
write_record-requires-clause-settled g c = c.self.invariant.settled
    (goes g (goal.at.write_record-requires-clause-settled g c).After-prepare)

pub invariant_of-self-in-Err-write_record : goal.invariant_of-self-in-Err-write_record
invariant_of-self-in-Err-write_record g c =
    let a = appends_one g (goal.at.invariant_of-self-in-Err-write_record g c).After-write_record in
    record {
      order = order_same g.D.Disk.at c.self.inside.changes.items _ c.self.inside.side c.write_record.new.taken
          c.self.inside.beside c.self.inside.protocol c.prepare.new.protocol
          (Some c.sum_of_faults-in-Err-write_record.result) c.prepare.ensures.same
          (order_halted g.D.Disk.at c.self.inside.side c.write_record.new.taken c.self.inside.beside
          c.self.inside.protocol c.sum_of_faults-in-Err-write_record.result g.met.D.Disk.seen_may_stay
          (kept_near g.D.Disk.at c.self.inside.side c.self.inside.taken c.write_record.new.taken c.self.inside.beside
          c.self.inside.protocol c.args.command.now a));
      generation_is = (ap (λ j. j.generation) c.write_record.ensures.same) ∙ c.self.invariant.generation_is
          ∙ sym (ap (λ (i : Image). i.generation) c.prepare.ensures.same.image);
      parity_is = ap is_odd (ap (λ j. j.generation) c.write_record.ensures.same) ∙ c.self.invariant.parity_is;
      count_is = c.in-Err-write_record.ensures.no_more ∙ c.self.invariant.count_is ∙ sym c.prepare.ensures.same.records;
      told = has_same (g.D.Disk.at c.write_record.new.taken.disk).seen c.self.inside.taken.generation
          c.self.inside.taken.start c.self.inside.taken.count c.write_record.new.taken.generation
          c.write_record.new.taken.start c.write_record.new.taken.count
          (ap (λ j. j.generation) c.write_record.ensures.same) (ap (λ j. j.start) c.write_record.ensures.same)
          c.in-Err-write_record.ensures.no_more (still_has g.D.Disk.at c.self.inside.side c.self.inside.taken
          c.write_record.new.taken c.self.inside.beside c.self.inside.protocol c.args.command.now a
          g.met.D.Disk.seen_may_stay);
      settled = λ no. absurd (some_isnt_none c.sum_of_faults-in-Err-write_record.result no);
    }

pub returns-in-Err-write_record-clause-order : goal.returns-in-Err-write_record-clause-order
returns-in-Err-write_record-clause-order g c = (invariant_of-self-in-Err-write_record g c).order

pub returns-in-Err-write_record-clause-disks : goal.returns-in-Err-write_record-clause-disks
returns-in-Err-write_record-clause-disks g c =
    appends_with g (goal.at.returns-in-Err-write_record-clause-disks g c).After-write_record answer.DiskFault
    (λ none. absurd (cc (none))) c.prepare.new.protocol (Some c.sum_of_faults-in-Err-write_record.result)
    c.prepare.new.changes.items

pub returns-in-Err-write_record-clause-step : goal.returns-in-Err-write_record-clause-step
returns-in-Err-write_record-clause-step g c s stands =
    accepts g (goal.at.returns-in-Err-write_record-clause-step g c).After-prepare c.in-Ready.planned
    c.in-Ready.ensures.prepared s stands

pub returns-in-Err-write_record-clause-told : goal.returns-in-Err-write_record-clause-told
returns-in-Err-write_record-clause-told g c s stands =
    tells_none g (goal.at.returns-in-Err-write_record-clause-told g c).After-prepare s answer.DiskFault refl

pub returns-in-Err-write_record-clause-stops : goal.returns-in-Err-write_record-clause-stops
returns-in-Err-write_record-clause-stops g c =
    stopped_on g.D.Disk.at c.self.inside.side c.write_record.new.taken.disk c.self.inside.beside c.args.self.now.stopped
    c.sum_of_faults-in-Err-write_record.result c.requires.going c.sum_of_faults-in-Err-write_record.ensures

pub returns-in-Err-write_record-clause-cause : goal.returns-in-Err-write_record-clause-cause
returns-in-Err-write_record-clause-cause g c =
    let side = c.self.inside.side in
    subst (λ (o : Stored g.row.D.Denot). OneRose (counts_of g.D.Disk.at o.left o.right) (counts_of g.D.Disk.at
    (on side c.write_record.new.taken.disk c.self.inside.beside)
    (on side c.self.inside.beside c.write_record.new.taken.disk))) c.self.view_is
    (taken_rose g.D.Disk.at side c.self.inside.taken.disk c.write_record.new.taken.disk c.self.inside.beside
    c.in-Err-write_record.ensures.called.cause.later c.in-Err-write_record.ensures.called.cause.failed)

-- ---- a command is answered behind its record

pub invariant_of-self-2 : goal.invariant_of-self-2
invariant_of-self-2 g c =
    let at = goal.at.invariant_of-self-2 g c in
    let settled = c.in-Ok-write_record.ensures.settled in
    let s = state_of c.self.inside.protocol in
    let stands = c.prepare.ensures.stands in
    let steps = steps_on g at.After-prepare c.in-Ready.planned c.in-Ready.ensures.prepared c.make-done-2.new.protocol
    c.make-done-2.ensures.state in
    let stays = stays_then g at.After-write_record in
    let counted = counts_on c.self.inside.protocol c.make-done-2.new.protocol s c.args.command.now stays stands
    (steps s stands) in
    record {
      order = subst (λ (o : Option ℕ). IsInOrder g.D.Disk.at (stored c.self.inside.side c.write_record.new.taken
          c.self.inside.beside c.make-done-2.new.protocol o c.note.new.changes.items))
          (sym (goes g at.After-prepare))
          (order_going g.D.Disk.at c.self.inside.side c.write_record.new.taken c.self.inside.beside
          c.make-done-2.new.protocol (went_on g.D.Disk.at c.self.inside.side c.self.inside.taken
          c.write_record.new.taken c.self.inside.beside c.self.inside.protocol c.args.command.now
          (appends_one g at.After-write_record) c.make-done-2.new.protocol s stands steps
          c.in-Ok-write_record.ensures.durable c.in-Ok-write_record.ensures.appended));
      generation_is = (ap (λ j. j.generation) c.write_record.ensures.same) ∙ c.self.invariant.generation_is
          ∙ sym (generation_stays c.self.inside.protocol c.make-done-2.new.protocol s c.args.command.now stays stands
          (steps s stands));
      parity_is = ap is_odd (ap (λ j. j.generation) c.write_record.ensures.same) ∙ c.self.invariant.parity_is;
      count_is = omega (arith, c.in-Ok-write_record.ensures.one_more, c.self.invariant.count_is, counted);
      told = all_has (g.D.Disk.at c.write_record.new.taken.disk).seen c.write_record.new.taken.generation
          c.write_record.new.taken.start c.write_record.new.taken.count settled;
      settled = λ none. settled;
    }

pub returns-clause-order : goal.returns-clause-order
returns-clause-order g c = (invariant_of-self-2 g c).order

pub returns-clause-disks : goal.returns-clause-disks
returns-clause-disks g c =
    appends_with g (goal.at.returns-clause-disks g c).After-write_record (answer.Reply (Said c.make-done-2.result))
    (λ none. absurd (cc (none))) c.make-done-2.new.protocol c.self.inside.stopped c.note.new.changes.items

pub returns-clause-appended : goal.returns-clause-appended
returns-clause-appended g c s stands accepted none =
    subst (λ (o : Stored g.row.D.Denot). IsLater g.D.Disk.at 4 (taken_disk o)
    (taken_disk (stored c.self.inside.side c.write_record.new.taken c.self.inside.beside c.make-done-2.new.protocol
    c.self.inside.stopped c.note.new.changes.items))) c.self.view_is
    (taken_later g.D.Disk.at c.self.inside.side c.self.inside.taken.disk c.self.inside.beside
    c.write_record.new.taken.disk c.self.inside.beside 4 c.in-Ok-write_record.ensures.calls)

pub returns-clause-step : goal.returns-clause-step
returns-clause-step g c s stands =
    let at = (goal.at.returns-clause-step g c).After-prepare in
    replied c.make-done-2.new.protocol s c.args.command.now c.in-Ready.planned c.make-done-2.result
    (c.in-Ready.ensures.prepared s (here g at s stands)).0 (c.make-done-2.ensures.state s (there g at s stands))
    (c.make-done-2.ensures.reply s (there g at s stands))

pub returns-clause-told : goal.returns-clause-told
returns-clause-told g c s stands =
    let at = (goal.at.returns-clause-told g c).After-prepare in
    let was = changes_stay g at in
    let more = c.list_changes.ensures ∙ prepared_told s c.args.command.now c.in-Ready.planned
    (c.in-Ready.ensures.prepared s (here g at s stands)) in
    c.note.ensures ∙ (λ i. was i ++ more i)

pub returns-clause-stops : goal.returns-clause-stops
returns-clause-stops g c = ap (λ (o : Stored g.row.D.Denot). o.stopped) c.self.view_is

pub returns-clause-cause : goal.returns-clause-cause
returns-clause-cause g c =
    taken_still g.D.Disk.at c.self.inside.side c.self.inside.taken.disk c.write_record.new.taken.disk
    c.self.inside.beside c.in-Ok-write_record.ensures.called.cause.ok
    ∙ ap (λ (o : Stored g.row.D.Denot). counts_of g.D.Disk.at o.left o.right) c.self.view_is

-- ---- what is called on the way

pub make-done-requires-clause-planned : goal.make-done-requires-clause-planned
make-done-requires-clause-planned g c = plans_there g (goal.at.make-done-requires-clause-planned g c).After-prepare
    c.in-Ready.planned c.in-Ready.ensures.prepared

pub make-done-requires-clause-room : goal.make-done-requires-clause-room
make-done-requires-clause-room g c = c.in-Ready.ensures.ready.1

pub make-done-requires-2-clause-planned : goal.make-done-requires-2-clause-planned
make-done-requires-2-clause-planned g c =
    plans_there g (goal.at.make-done-requires-2-clause-planned g c).After-prepare c.in-Ready.planned
    c.in-Ready.ensures.prepared

pub make-done-requires-2-clause-room : goal.make-done-requires-2-clause-room
make-done-requires-2-clause-room g c = c.in-Ready.ensures.ready.1

-- the command is planned without hint words, and the guide has its place
pub make-done-requires-clause-unhinted : goal.make-done-requires-clause-unhinted
make-done-requires-clause-unhinted g c =
    ap (λ (k : Command). words_of k.call) c.in-Ready.ensures.ready.0 ∙ unhinted_words c.args.command.now

pub make-done-requires-clause-guided : goal.make-done-requires-clause-guided
make-done-requires-clause-guided g c =
    guided_there c.self.inside.protocol c.prepare.new.protocol c.in-Ready.planned c.in-Ready.hints c.prepare.ensures.same
    c.in-Ready.ensures.exact

pub make-done-requires-2-clause-unhinted : goal.make-done-requires-2-clause-unhinted
make-done-requires-2-clause-unhinted g c =
    ap (λ (k : Command). words_of k.call) c.in-Ready.ensures.ready.0 ∙ unhinted_words c.args.command.now

pub make-done-requires-2-clause-guided : goal.make-done-requires-2-clause-guided
make-done-requires-2-clause-guided g c =
    guided_there c.self.inside.protocol c.prepare.new.protocol c.in-Ready.planned c.in-Ready.hints c.prepare.ensures.same
    c.in-Ready.ensures.exact

pub checkpoint_after-requires-clause-rotates : goal.checkpoint_after-requires-clause-rotates
checkpoint_after-requires-clause-rotates g c =
    ap (λ (k : Command). k.call) (c.in-Ready.ensures.ready.0 ∙ unhinted_rotation c.args.command.now c.in-Rotate.is)
    ∙ c.in-Rotate.is

pub checkpoint_after-requires-clause-planned : goal.checkpoint_after-requires-clause-planned
checkpoint_after-requires-clause-planned g c s stands =
    plans_there g (goal.at.checkpoint_after-requires-clause-planned g c).After-prepare c.in-Ready.planned
    c.in-Ready.ensures.prepared s (subst (λ (k : Core). StandsFor k s) c.protocol.ensures stands)

pub begin_generation-requires-clause-more : goal.begin_generation-requires-clause-more
begin_generation-requires-clause-more g c =
    let here = c.self.invariant.generation_is ∙ sym (ap (λ (i : Image). i.generation) c.prepare.ensures.same.image)
    ∙ sym (ap (λ (k : Core). k.image.generation) c.protocol.ensures) in
    omega (arith, here, c.checkpoint_after.ensures.generation)

pub begin_generation-requires-clause-size : goal.begin_generation-requires-clause-size
begin_generation-requires-clause-size g c =
    let here = c.self.invariant.generation_is ∙ sym (ap (λ (i : Image). i.generation) c.prepare.ensures.same.image)
    ∙ sym (ap (λ (k : Core). k.image.generation) c.protocol.ensures) in
    (λ i. is_size (here i + 1) (length (c.deref.ensures.value i))) ∙ c.in-Ok.ensures.size
