use Rattle.std.proofs.Common.{ℕ, ◌+◌, subst}
use Rattle.serde_json.specs.Events.{SendsItems}
use Rattle.liq_types.specs.declared.amounts.TheConstants.{ACCOUNTS}
use Rattle.liq_types.specs.declared.figures.Trove.{Trove}
use Rattle.liq_troves.specs.StakeSums.{trove_rows}
use Rattle.liq_core.specs.Core.{state_of}
use Rattle.liq_report.specs.Values.{standing, trove_data, trove_of}
use Rattle.liq_report.proofs.Rows.{list_sent, rest, rest_whole, rest_with, rest_without}
use Rattle.liq_report.proofs.Stands.{trove_keys, troves_ascend}
use Rattle.liq_report.proofs.entries.send_troves.Goals as goal
use Rattle.liq_report.proofs.entries.send_troves.Goals.{in-Some+in_ok-send_trove, in_default}

pub loop-account-init : goal.loop-account-init
loop-account-init g c =
    let s = state_of c.args.protocol.now in
    rest_whole (trove_of s) (trove_rows s) (g.S.Serializer.written c.begin_seq.new.self)

pub loop-account-preserved : goal.loop-account-preserved
loop-account-preserved g c end h =
    let s = state_of c.args.protocol.now in
    let account = c.loop-account.account in
    let told : ℕ → Trove → ℕ × ℕ × ℕ = λ key t. standing s t in
    let ascends = troves_ascend s c.protocols_are_sound_states.ensures in
    elim c.match-trove.branch [
      | in-Some+in_ok-send_trove w ↦
          c.loop-account.invariant end (rest_with told trove_data (trove_rows s) account w.in-Some.standing ascends
          w.in-Some.ensures (g.S.Serializer.written c.loop-account.out)
          (g.S.Serializer.written w.send_trove.new.out) end w.in_ok-send_trove.ensures
          (subst (λ o. SendsItems (rest (trove_of s) (trove_rows s) (account + 1)) (g.S.Serializer.written o) end)
          w.out-is h))
      | in_default w ↦
          c.loop-account.invariant end (rest_without told trove_data (trove_rows s) account ascends
          w.in_default.ensures (g.S.Serializer.written c.loop-account.out) end
          (subst (λ o. SendsItems (rest (trove_of s) (trove_rows s) (account + 1)) (g.S.Serializer.written o) end)
          w.out-is h))
    ]

pub returns : goal.returns
returns g c =
    let s = state_of c.args.protocol.now in
    let written = g.S.Serializer.written in
    list_sent (trove_of s) (trove_rows s) c.end_seq.result ACCOUNTS c.loop-account.account c.loop-account-test.false
    (trove_keys s c.protocols_are_sound_states.ensures)
    (written c.args.out.now) (written c.begin_seq.new.self) (written c.loop-account.out) (written c.end_seq.new.self)
    c.in_ok-begin_seq.ensures c.loop-account.invariant c.end_seq.ensures
