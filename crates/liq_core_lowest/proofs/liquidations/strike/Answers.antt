use Rattle.std.proofs.Common.{◌≡◌, ℕ, ◌*◌, ◌<◌, List, arith, get_or, take, add-one, sym, ap, ◌∙◌, subst}
use Rattle.std.specs.List.{Contains}
use Rattle.std.proofs.lemmas.List.{take_all}
use Rattle.liq_types.specs.declared.amounts.TheConstants.{ACCOUNTS}
use Rattle.liq_types.specs.State.{State}
use Rattle.liq_liquidation.specs.declared.one.Victim.{Victim}
use Rattle.liq_liquidation.specs.Applied.{finished_in}
use Rattle.liq_rule_step.specs.Liquidation.{all_liquidated}
use Rattle.liq_rule_sound.specs.SoundState.{IsSoundState}
use Rattle.liq_core_lowest.specs.Victims.{AreKept, AreVictims}
use Rattle.liq_rule_sound.proofs.SoundFacts.{Finds, finds_after}
use Rattle.liq_rule_sound.proofs.SoundStep.{finds}
use Rattle.liq_rule_sound.proofs.SoundTests.{sound_facts}
use Rattle.liq_core_lowest.proofs.Striking.{no_victim, all_at, walked, victim_there, one_more, room_few, places_fit, planned_kept, within_kept, listed_kept, kept_next}
use Rattle.liq_core_lowest.proofs.liquidations.strike.Goals as goal

-- what stands before the victim at an index
finds_before : (s : State) → IsSoundState s → (liquidator : ℕ) → liquidator < ACCOUNTS → (vs : List Victim)
    → AreVictims s liquidator vs → (i : ℕ) → Finds (all_liquidated s liquidator (take i vs))
finds_before s h liquidator k vs victims i =
    finds_after s (all_liquidated s liquidator (take i vs)) (walked liquidator k vs s (finds s (sound_facts s h))
    victims i)

pub apply_one-requires-clause-planned : goal.apply_one-requires-clause-planned
apply_one-requires-clause-planned c =
    let q = c.requires.planned in
    let vs = c.args.victims.now in
    let i = c.loop-victim.victim-index in
    let kept = c.loop-victim.invariant.kept q.0 q.1 q.2 q.3 in
    planned_kept (all_liquidated q.0 c.args.liquidator (take i vs)) (finds_before q.0 q.1 c.args.liquidator
    c.requires.range vs q.2 i) (get_or vs i no_victim)
    (victim_there c.args.liquidator c.requires.range vs q.0 q.2 i c.loop-victim-test.true) c.args.liquidator
    c.loop-victim.wallets c.loop-victim.pools c.loop-victim.surplus c.loop-victim.troves c.loop-victim.order
    c.loop-victim.stability kept

pub apply_one-requires-clause-within : goal.apply_one-requires-clause-within
apply_one-requires-clause-within c =
    let q = c.requires.planned in
    let vs = c.args.victims.now in
    let i = c.loop-victim.victim-index in
    let kept = c.loop-victim.invariant.kept q.0 q.1 q.2 q.3 in
    let t = all_liquidated q.0 c.args.liquidator (take i vs) in
    let facts = sound_facts q.0 q.1 in
    let fit = places_fit q.0 facts t (3 * i) (omega (arith, c.requires.few, c.loop-victim-test.true))
    (walked c.args.liquidator c.requires.range vs q.0 (finds q.0 facts) q.2 i) in
    within_kept t (finds_before q.0 q.1 c.args.liquidator c.requires.range vs q.2 i) (get_or vs i no_victim)
    (victim_there c.args.liquidator c.requires.range vs q.0 q.2 i c.loop-victim-test.true) c.args.liquidator
    c.loop-victim.wallets c.loop-victim.pools c.loop-victim.surplus c.loop-victim.troves c.loop-victim.order
    c.loop-victim.stability kept fit.0 fit.1

pub apply_one-requires-clause-room : goal.apply_one-requires-clause-room
apply_one-requires-clause-room c =
    let vs = c.args.victims.now in
    let i = c.loop-victim.victim-index in
    let h = c.loop-victim.invariant in
    record {
      wallet = subst (λ (keys : List ℕ). Contains keys c.args.liquidator) (sym h.wallets) c.requires.wallet;
      owner = subst (λ (keys : List ℕ). Contains keys (get_or vs i no_victim).account) (sym h.owners)
          (all_at (λ v. Contains c.args.surplus.now.room v.account) vs c.requires.owners i c.loop-victim-test.true);
      offset = λ some. omega (arith, h.finished, c.loop-victim-test.true);
    }

pub apply_one-requires-clause-listed : goal.apply_one-requires-clause-listed
apply_one-requires-clause-listed c =
    let q = c.requires.planned in
    let vs = c.args.victims.now in
    let i = c.loop-victim.victim-index in
    let kept = c.loop-victim.invariant.kept q.0 q.1 q.2 q.3 in
    listed_kept (all_liquidated q.0 c.args.liquidator (take i vs)) (finds_before q.0 q.1 c.args.liquidator
    c.requires.range vs q.2 i) (get_or vs i no_victim)
    (victim_there c.args.liquidator c.requires.range vs q.0 q.2 i c.loop-victim-test.true) c.args.liquidator
    c.loop-victim.wallets c.loop-victim.pools c.loop-victim.surplus c.loop-victim.troves c.loop-victim.order
    c.loop-victim.stability kept

pub loop-victim-preserved : goal.loop-victim-preserved
loop-victim-preserved c =
    let vs = c.args.victims.now in
    let i = c.loop-victim.victim-index in
    let h = c.loop-victim.invariant in
    let e = c.apply_one.ensures in
    let n = c.apply_one.new in
    record {
      wallets = e.wallets_room ∙ h.wallets;
      owners = e.surplus_room ∙ h.owners;
      finished = omega (
        arith,
        h.finished,
        e.spare,
        room_few (finished_in c.loop-victim.stability.words
            (get_or vs i no_victim).one),
      );
      kept = λ s sound victims begun.
          subst (λ (t : State). AreKept t n.wallets n.pools n.surplus n.troves n.order n.stability)
          (sym (ap (λ m. all_liquidated s c.args.liquidator (take m vs)) (add-one i)
          ∙ one_more c.args.liquidator c.requires.range vs s i c.loop-victim-test.true))
          (kept_next (all_liquidated s c.args.liquidator (take i vs)) (finds_before s sound c.args.liquidator
          c.requires.range vs victims i) (get_or vs i no_victim)
          (victim_there c.args.liquidator c.requires.range vs s victims i c.loop-victim-test.true) c.args.liquidator
          c.loop-victim.wallets c.loop-victim.pools c.loop-victim.surplus c.loop-victim.troves c.loop-victim.order
          c.loop-victim.stability (h.kept s sound victims begun)
          n.wallets n.pools n.surplus n.troves n.order n.stability e.wallets e.books e.pools e.surplus e.order e.words
          e.finished e.deposits);
    }

pub returns : goal.returns
returns c s sound victims begun =
    let vs = c.args.victims.now in
    let i = c.loop-victim.victim-index in
    let whole : take i vs ≡ vs = take_all i vs (omega (arith, c.loop-victim-test.false)) in
    subst (λ (l : List Victim). AreKept (all_liquidated s c.args.liquidator l) c.loop-victim.wallets c.loop-victim.pools
    c.loop-victim.surplus c.loop-victim.troves c.loop-victim.order c.loop-victim.stability) whole
    (c.loop-victim.invariant.kept s sound victims begun)
