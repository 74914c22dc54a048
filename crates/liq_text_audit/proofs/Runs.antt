-- What a whole replay leaves: its events are lawful and few, and every depositor has what is promised.
use Rattle.std.proofs.Common.{◌≡◌, ℕ, ◌+◌, ◌<◌, ◌≤◌, ◌^◌, List, length, Ok, sym, subst, arith}
use Rattle.std.specs.Prelude.{map}
use Rattle.liq_types.specs.declared.amounts.TheConstants.{ACCOUNTS, LIM, RECORDS_MOST}
use Rattle.liq_types.specs.declared.events.PoolEvent.{PoolEvent}
use Rattle.liq_types.specs.declared.requests.Command.{Command}
use Rattle.liq_types.specs.declared.requests.Request.{Request}
use Rattle.liq_types.specs.declared.requests.Request.TheVariants.{Do}
use Rattle.liq_types.specs.Image.{IsLimit}
use Rattle.liq_types.specs.PlainLedger.{offsets_coll, gains_paid_to, AreOwnedBelow, over_accounts}
use Rattle.liq_types.specs.State.{State, opening, opening_with}
use Rattle.liq_types.specs.Tables.{at}
use Rattle.liq_types.specs.Totals.{pool_coll}
use Rattle.liq_types.proofs.Accounts.{over-term, owned_more}
use Rattle.liq_stability.specs.Lawful.{IsLawful}
use Rattle.liq_stability.specs.Position.{gain_of}
use Rattle.liq_stability.specs.Promise.{IsWithinAllowance}
use Rattle.liq_stability.proofs.Pool.{gain_within}
use Rattle.liq_stability.proofs.Promise.{all_paid_are}
use Rattle.liq_rule_step.specs.Events.{events}
use Rattle.liq_rule_step.specs.Step.{run, accepted}
use Rattle.liq_rule_step.proofs.Counting.{run_events_count}
use Rattle.liq_rule_sound.proofs.SoundPromises.{reached_paid, reached_pool, reached_shares}
use Rattle.liq_disk_pair.specs.Replay.{replay}
use Rattle.liq_disk_pair.proofs.Generations.{HaveNoRotation}
use Rattle.liq_disk_replay.proofs.Runs.{replay_runs, replay_few}

-- ---- its events

-- all that is known of a whole replay, its events and the state after it
pub record IsFinished (s : State) (told : List PoolEvent) : Type 0 where
  pub lawful : IsLawful opening told
  pub owners : AreOwnedBelow ACCOUNTS told
  pub few : length told < 2 ^ 40
  pub paid : pool_coll s + over_accounts ACCOUNTS (λ account. gains_paid_to account told) ≡ offsets_coll told
  pub shares : (account : ℕ) → IsWithinAllowance s account told

-- the Stability Pool begins empty under either limit
module _ (limit : ℕ) (known : IsLimit limit) where
  abbrev start : State
  start = opening_with limit

  finished_run : (requests : List Request) → length (accepted start requests) ≤ RECORDS_MOST
      → IsFinished (run start requests).0 (events start (accepted start requests))
  finished_run requests few =
      let h = reached_pool limit known requests in
      let count = run_events_count requests start in
      record {
        lawful = h.lawful;
        owners = h.owners;
        few = omega (arith, count, few);
        paid = reached_paid limit known requests;
        shares = reached_shares limit known requests;
      }

  pub finished : (commands : List Command) → HaveNoRotation commands → (s : State) → replay 1 start commands ≡ Ok s
      → (told : List PoolEvent) → told ≡ events start commands → IsFinished s told
  finished commands none s h told is =
      let made = replay_runs s commands 1 start h in
      let count = replay_few s commands 1 start none (omega arith) h in
      let short : length (accepted start (map Do commands)) ≤ RECORDS_MOST =
      subst (λ (cs : List Command). length cs ≤ RECORDS_MOST) (sym made.again) (omega (arith, count)) in
      let all = finished_run (map Do commands) short in
      subst (λ (es : List PoolEvent). IsFinished s es) (sym is)
      (subst (λ (cs : List Command). IsFinished s (events start cs)) made.again
      (subst (λ end. IsFinished end (events start (accepted start (map Do commands)))) made.state all))

-- ---- what the accounts gained

module _ (s : State) (told : List PoolEvent) (h : IsFinished s told) (gains : offsets_coll told ≤ LIM) where
  pub paid_little : (account : ℕ) → gains_paid_to account told < 2 ^ 64
  paid_little account =
      let n = ACCOUNTS + account + 1 in
      let all = all_paid_are LIM (omega arith) told h.lawful n (owned_more ACCOUNTS n (omega arith) told h.owners) in
      let one = over-term n (λ a. gains_paid_to a told) account (omega arith) in
      omega (arith, all, one, gains)

  pub gained_little : (account : ℕ) → account < ACCOUNTS → gain_of s account + gains_paid_to account told < 2 ^ 64
  gained_little account less =
      let now = gain_within s (at s.deposits account) in
      let one = over-term ACCOUNTS (λ a. gains_paid_to a told) account less in
      omega (arith, now, one, h.paid, gains)
