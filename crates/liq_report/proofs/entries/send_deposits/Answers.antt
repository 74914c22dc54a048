use Rattle.std.proofs.Common.{ℕ, ◌+◌, subst}
use Rattle.serde_json.specs.Events.{SendsItems}
use Rattle.liq_types.specs.declared.amounts.TheConstants.{ACCOUNTS}
use Rattle.liq_types.specs.State.{DepositEntry}
use Rattle.liq_rule_sound.proofs.SoundTests.{sound_facts}
use Rattle.liq_core.specs.Core.{state_of}
use Rattle.liq_report.specs.Values.{deposit_data, deposit_of, position}
use Rattle.liq_report.proofs.Rows.{list_sent, rest, rest_whole, rest_with, rest_without}
use Rattle.liq_report.proofs.entries.send_deposits.Goals as goal
use Rattle.liq_report.proofs.entries.send_deposits.Goals.{in-Some+in_ok-send_deposit, in_default}

pub loop-account-init : goal.loop-account-init
loop-account-init g c =
    let s = state_of c.args.protocol.now in
    rest_whole (deposit_of s) s.deposits (g.S.Serializer.written c.begin_seq.new.self)

pub loop-account-preserved : goal.loop-account-preserved
loop-account-preserved g c end h =
    let s = state_of c.args.protocol.now in
    let account = c.loop-account.account in
    let told : ℕ → DepositEntry → ℕ × ℕ = λ key d. position s key in
    let ascends = c.protocols_are_sound_states.ensures.ordered.3 in
    elim c.match-deposit.branch [
      | in-Some+in_ok-send_deposit w ↦
          c.loop-account.invariant end (rest_with told deposit_data s.deposits account w.in-Some.position ascends
          w.in-Some.ensures (g.S.Serializer.written c.loop-account.out)
          (g.S.Serializer.written w.send_deposit.new.out) end w.in_ok-send_deposit.ensures
          (subst (λ o. SendsItems (rest (deposit_of s) s.deposits (account + 1)) (g.S.Serializer.written o) end)
          w.out-is h))
      | in_default w ↦
          c.loop-account.invariant end (rest_without told deposit_data s.deposits account ascends
          w.in_default.ensures (g.S.Serializer.written c.loop-account.out) end
          (subst (λ o. SendsItems (rest (deposit_of s) s.deposits (account + 1)) (g.S.Serializer.written o) end)
          w.out-is h))
    ]

pub returns : goal.returns
returns g c =
    let s = state_of c.args.protocol.now in
    let written = g.S.Serializer.written in
    list_sent (deposit_of s) s.deposits c.end_seq.result ACCOUNTS c.loop-account.account c.loop-account-test.false
    (sound_facts s c.protocols_are_sound_states.ensures).stands.deposit_keys
    (written c.args.out.now) (written c.begin_seq.new.self) (written c.loop-account.out) (written c.end_seq.new.self)
    c.in_ok-begin_seq.ensures c.loop-account.invariant c.end_seq.ensures
