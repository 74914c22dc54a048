use Rattle.std.proofs.Common.{◌≡◌, ◌+◌, ◌≤◌, length, take}
use Rattle.liq_types.specs.State.{State}
use Rattle.liq_rule_sound.specs.SoundState.{IsSoundState}
use Rattle.liq_core_lowest.specs.Victims.{AreKept, AreVictims}
use Rattle.liq_rule_step.specs.Liquidation.{all_liquidated}
use Rattle.liq_core_lowest.proofs.liquidations.strike.Given as goal

abbrev pub invariant-loop-victim : goal.invariant-loop-victim
invariant-loop-victim l = record {
  wallets : l.wallets.room ≡ l.fn.wallets.room;
  owners : l.surplus.room ≡ l.fn.surplus.room;
  finished : length l.victims ≤ l.stability.spare + l.victim-index;
  kept : (s : State) → IsSoundState s → AreVictims s l.liquidator l.victims
      → AreKept s l.fn.wallets l.fn.pools l.fn.surplus l.fn.troves l.fn.order l.fn.stability
      → AreKept (all_liquidated s l.liquidator (take l.victim-index l.victims)) l.wallets l.pools l.surplus l.troves
      l.order l.stability;
}
