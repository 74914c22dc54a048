use Rattle.std.proofs.Common.{arith, ◌≡◌, List, ℕ, Some, Result, subst, sym}
use Rattle.std.specs.Prelude.{◌↔◌}
use Rattle.liq_core.specs.Core.{state_of}
use Rattle.liq_types.specs.declared.entries.Entry.{Entry}
use Rattle.liq_text_lines.specs.declared.stops.Stop.{Stop}
use Rattle.liq_text_lines.proofs.Readings.{takes_none}
use Rattle.liq_text_scripts.specs.Gathering.{ReadCause}
use Rattle.liq_outside.specs.Disk.{LeftNow}
use Rattle.liq_outside.proofs.Moments.{unmoved}
use Rattle.liq_word_serve.specs.Input.{Written}
use Rattle.liq_word_serve.specs.Serves.{Serves}
use Rattle.liq_word_serve.proofs.Inputs.{are_eight, are_numbered, cause_by, reads_whole, rests_by, serves_input, serves_nothing, serves_unopened, serves_unread, telling_by, time_by}
use Rattle.liq_word_serve.proofs.input.serve_input.Given.{Over}
use Rattle.liq_word_serve.proofs.input.serve_input.Goals as goal

-- what a disk tells may stay of it
may_stay : (g : Over) (disk : g.row.D.Denot) (held : List ℕ)
    → (g.D.Disk.at disk).seen ≡ Some held → LeftNow g.D.Disk.at disk held
may_stay g = (g.met.D.Disk g.world.𝓛 g.world.𝓜 g.world.𝓡 ((λ s x. x), (λ x. x), (λ x. x), λ x. x)).seen_may_stay

-- what was served, from the state of the store's protocol on
serves : (g : Over) (c : goal.After-drop-outbox-inside-2 g)
    → Serves g.D.Disk.at (state_of c.in-Ok-open.store.core)
    (g.D.Disk.at c.in-Ok-open.store.left) (g.D.Disk.at c.in-Ok-open.store.right)
    c.in-Ok-read_scripts.scripts.items c.serve_sessions-left.result
serves g c =
    c.serve_sessions-left.ensures (state_of c.in-Ok-open.store.core)
    (rw c.protocol.ensures at c.protocols_stand.ensures)

-- a disk that nobody touched tells what it told
itself : {X : Type 0} → X ↔ X
itself = (λ told. told, λ told. told)

pub serve_sessions-left-requires-clause-servable : goal.serve_sessions-left-requires-clause-servable
serve_sessions-left-requires-clause-servable g c κs within =
    let scripts = c.in-Ok-read_scripts.scripts.items in
    let gathers = c.in-Ok-read_scripts.ensures.read in
    let eight = are_eight gathers.asked scripts gathers.scripts in
    record {
      some = omega (arith, eight);
      few = omega (arith, eight);
      numbered = are_numbered gathers.asked scripts gathers.scripts;
      total = c.in-Ok-read_scripts.ensures.few;
      going = c.in-Ok-open.ensures.opened.going;
      listed = c.in-Ok-open.ensures.followed;
    }

pub returns-in_default-clause-served : goal.returns-in_default-clause-served
returns-in_default-clause-served g c =
    serves_nothing g.K.Sink.at g.D.Disk.at (may_stay g) (g.S.Source.at c.args.input.now).left c.args.out.now
    c.args.left c.args.right

pub returns-in-Err-clause-served : goal.returns-in-Err-clause-served
returns-in-Err-clause-served g c =
    serves_unread g.K.Sink.at g.D.Disk.at (may_stay g) (g.S.Source.at c.args.input.now).left
    (g.S.Source.at c.read_scripts.new.input).left c.args.out.now c.args.left c.args.right
    c.in-Err.stop c.in-Err.ensures.read

pub returns-in-Err-open-clause-served : goal.returns-in-Err-open-clause-served
returns-in-Err-open-clause-served g c =
    let fault = c.in-Err-open.fault in
    let opening = c.in-Err-open.ensures in
    serves_unopened g.K.Sink.at g.D.Disk.at (may_stay g) (g.S.Source.at c.args.input.now).left
    (g.S.Source.at c.read_scripts.new.input).left c.args.out.now c.args.left c.args.right
    c.in-Ok-read_scripts.scripts fault.why fault.left fault.right
    c.in-Ok-read_scripts.ensures.read opening.not_opened
    (record {
      left_leaves = opening.left_leaves;
      right_leaves = opening.right_leaves;
      recovers = opening.recovers;
    })
    opening.left_time opening.right_time opening.rests opening.shuts

pub returns-clause-served : goal.returns-clause-served
returns-clause-served g c =
    let store = c.in-Ok-open.store in
    let opening = c.in-Ok-open.ensures in
    let gathers = c.in-Ok-read_scripts.ensures.read in
    let how = c.write_end-finish.result in
    serves_input g.D.Disk.at store c.in-Ok-read_scripts.scripts.items c.serve_sessions-left.result
    gathers.asked gathers.scripts g.K.Sink.at
    (g.S.Source.at c.args.input.now).left (g.S.Source.at c.read_scripts.new.input).left
    c.args.out.now c.write_end-finish.new.out c.args.left c.args.right
    gathers.few gathers.read opening.opened (state_of store.core) (serves g c) c.serve_sessions-left.ensures
    (may_stay g)
    (record {
      left_leaves = opening.left_leaves;
      right_leaves = opening.right_leaves;
      recovers = opening.recovers;
    })
    opening.order opening.left_telling opening.right_telling how c.write_end-finish.ensures.finish
    (subst (λ (entries : List Entry).
    Written g.K.Sink.at how entries c.args.out.now c.write_end-finish.new.out)
    c.as_slice.ensures c.write_end-finish.ensures.written)

pub returns-clause-disks : goal.returns-clause-disks
returns-clause-disks g c =
    cause_by g.D.Disk.at c.in-Ok-open.store c.in-Ok-read_scripts.scripts.items c.serve_sessions-left.result
    c.args.left c.args.right (state_of c.in-Ok-open.store.core) (serves g c)
    c.in-Ok-open.ensures.opened c.write_end-finish.result c.write_end-finish.ensures.finish

pub returns-clause-rests : goal.returns-clause-rests
returns-clause-rests g c =
    rests_by g.D.Disk.at c.in-Ok-open.store c.in-Ok-read_scripts.scripts.items c.serve_sessions-left.result
    (state_of c.in-Ok-open.store.core) (serves g c) c.write_end-finish.result c.write_end-finish.ensures.finish

pub returns-in_default-clause-rests : goal.returns-in_default-clause-rests
returns-in_default-clause-rests g c = tt

pub returns-in-Err-clause-rests : goal.returns-in-Err-clause-rests
returns-in-Err-clause-rests g c = tt

pub returns-in-Err-open-clause-rests : goal.returns-in-Err-open-clause-rests
returns-in-Err-open-clause-rests g c = tt

pub returns-clause-source : goal.returns-clause-source
returns-clause-source g c =
    let whole = reads_whole c.serve_sessions-left.result.end c.write_end-finish.result c.write_end-finish.ensures.finish
    in
    subst (λ (r : Result (Unit {0}) Stop).
    ReadCause r (g.S.Source.at c.args.input.now).faults (g.S.Source.at c.read_scripts.new.input).faults)
    (sym whole) c.in-Ok-read_scripts.ensures.source

pub returns-clause-unread : goal.returns-clause-unread
returns-clause-unread g c stop is =
    let whole = reads_whole c.serve_sessions-left.result.end c.write_end-finish.result c.write_end-finish.ensures.finish
    in
    absurd (cc (rw is at whole))

pub returns-clause-shown : goal.returns-clause-shown
returns-clause-shown g c = c.write_end-finish.ensures.shown

pub returns-clause-sink : goal.returns-clause-sink
returns-clause-sink g c = c.write_end-finish.ensures.cause

pub returns-clause-takes : goal.returns-clause-takes
returns-clause-takes g c = c.in-Ok-read_scripts.ensures.takes

pub returns-in_default-clause-takes : goal.returns-in_default-clause-takes
returns-in_default-clause-takes g c = takes_none (g.S.Source.at c.args.input.now).left

pub returns-clause-left_time : goal.returns-clause-left_time
returns-clause-left_time g c =
    time_by g.D.Disk.at c.args.left c.in-Ok-open.store.left c.serve_sessions-left.result.left
    (serves g c).since.left_time c.in-Ok-open.ensures.left_time

pub returns-clause-right_time : goal.returns-clause-right_time
returns-clause-right_time g c =
    time_by g.D.Disk.at c.args.right c.in-Ok-open.store.right c.serve_sessions-left.result.right
    (serves g c).since.right_time c.in-Ok-open.ensures.right_time

pub returns-in_default-clause-left_time : goal.returns-in_default-clause-left_time
returns-in_default-clause-left_time g c = unmoved g.D.Disk.at c.args.left

pub returns-in_default-clause-right_time : goal.returns-in_default-clause-right_time
returns-in_default-clause-right_time g c = unmoved g.D.Disk.at c.args.right

pub returns-clause-left_telling : goal.returns-clause-left_telling
returns-clause-left_telling g c =
    telling_by g.D.Disk.at c.args.left c.in-Ok-open.store.left c.serve_sessions-left.result.left
    (serves g c).since.left_time c.in-Ok-open.ensures.left_telling

pub returns-in_default-clause-left_telling : goal.returns-in_default-clause-left_telling
returns-in_default-clause-left_telling g c = itself

pub returns-in-Err-clause-left_telling : goal.returns-in-Err-clause-left_telling
returns-in-Err-clause-left_telling g c = itself

pub returns-in-Err-open-clause-left_telling : goal.returns-in-Err-open-clause-left_telling
returns-in-Err-open-clause-left_telling g c = c.in-Err-open.ensures.left_telling

pub returns-clause-right_telling : goal.returns-clause-right_telling
returns-clause-right_telling g c =
    telling_by g.D.Disk.at c.args.right c.in-Ok-open.store.right c.serve_sessions-left.result.right
    (serves g c).since.right_time c.in-Ok-open.ensures.right_telling

pub returns-in_default-clause-right_telling : goal.returns-in_default-clause-right_telling
returns-in_default-clause-right_telling g c = itself

pub returns-in-Err-clause-right_telling : goal.returns-in-Err-clause-right_telling
returns-in-Err-clause-right_telling g c = itself

pub returns-in-Err-open-clause-right_telling : goal.returns-in-Err-open-clause-right_telling
returns-in-Err-open-clause-right_telling g c = c.in-Err-open.ensures.right_telling
