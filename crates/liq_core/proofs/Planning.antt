-- What the plans of liquidations are told of a protocol.
use Rattle.std.proofs.Common.{◌≡◌, ℕ, ◌+◌, ◌^◌, ◌≤◌, ◌<◌, refl, ap, sym, ◌∙◌, subst, arith, inl, inr, List, [], ◌∷◌, length, Some, Option}
use Rattle.std.specs.Prelude.{IfSome, Result, Ok, sum_by}
use Rattle.liq_types.specs.declared.amounts.TheConstants.{LOWEST_MOST}
use Rattle.liq_types.specs.declared.replies.Done.{Done}
use Rattle.liq_types.specs.declared.replies.Refusal.{Refusal}
use Rattle.liq_types.specs.declared.requests.Call.TheVariants.{Liquidate, LiquidateLowest}
use Rattle.liq_types.specs.Rules.{first_refusal}
use Rattle.liq_types.specs.declared.figures.Market.{Market}
use Rattle.liq_types.specs.declared.figures.Trove.{Trove}
use Rattle.liq_types.specs.declared.image.Image.{Image}
use Rattle.liq_types.specs.State.{State}
use Rattle.liq_types.specs.Tables.{Table, at}
use Rattle.liq_types.specs.Totals.{market_of, pool_total}
use Rattle.liq_types.proofs.MapRows.{map-length}
use Rattle.liq_troves.specs.declared.sums.Sums.{Sums}
use Rattle.liq_troves.specs.Standing.{books_of}
use Rattle.liq_troves.specs.StakeSums.{trove_row, trove_rows, sums_words}
use Rattle.liq_order.specs.Order.{order_by}
use Rattle.liq_stability.specs.declared.words.PoolWords.{PoolWords}
use Rattle.liq_stability.specs.Words.{pool_words}
use Rattle.liq_liquidation.specs.Given.{IsTroveOf, IsStruckOf}
use Rattle.liq_liquidation.specs.Lowest.{AreParts, lowest, refusal_of, victim_by}
use Rattle.liq_liquidation.specs.declared.one.One.{One}
use Rattle.liq_liquidation.specs.declared.one.Victim.{Victim}
use Rattle.liq_liquidation.specs.Moment.{IsSoundMoment, TrovesAreSound, moment_of, moment_by}
use Rattle.liq_liquidation.specs.One.{one, one_in}
use Rattle.liq_liquidation.proofs.Struck.{sound_from}
use Rattle.liq_liquidation.proofs.Walking.{row_struck}
use Rattle.liq_core.specs.declared.engine.Protocol.TheInside.{Inside}
use Rattle.liq_core.specs.Core.{state_of}
use Rattle.liq_rule_step.specs.Image.{image}
use Rattle.liq_core.specs.Sound.{IsSound, core_of}
use Rattle.liq_core_lowest.specs.declared.course.Course.{Course}
use Rattle.liq_core.specs.declared.turns.Forecast.{Forecast}
use Rattle.liq_rule_step.specs.Liquidation.{listed, lowest_values, offset_events, one_values, victim_changes}
use Rattle.liq_rule_step.specs.Rules.{six}
use Rattle.liq_core.specs.declared.effects.Effect.TheVariants as effects
use Rattle.liq_core.specs.declared.effects.Victims.{Victims}
use Rattle.liq_core.specs.declared.kinds.TheConstants.{LIQUIDATE}
use Rattle.liq_core.specs.Effects.{IsEffect, victims_in}
use Rattle.liq_core.specs.Told.{events_in, changes_in}
use Rattle.liq_core.specs.Turn.{IsRuled}
use Rattle.liq_rule_sound.specs.SoundState.{IsSoundState}
use Rattle.liq_core_lowest.specs.Lowest.{AreLowest}
use Rattle.liq_core_lowest.specs.Victims.{AreVictims, course_of}
use Rattle.liq_rule_step.proofs.AlikeReads.{sums_by}
use Rattle.liq_core.specs.Parts.{words_by}
use Rattle.liq_core.proofs.SoundCores.{core_finds, image_back}
use Rattle.liq_rule_step.proofs.Counting.{lowest_count, lowest_within}
use Rattle.liq_rule_sound.proofs.SoundFacts.{Finds}
use Rattle.liq_rule_sound.proofs.SoundStep.{finds}
use Rattle.liq_rule_sound.proofs.SoundTests.{sound_facts}
use Rattle.liq_core_lowest.proofs.ToldVictims.{lowest_victims, sums_within}

-- ---- of a state

pub moment_sound : (s : State) → Finds s → IsSoundMoment (moment_of s)
moment_sound s f =
    let r = f.ranges in
    let coll = f.balanced.homes.coll in
    let limit = f.balanced.coll_limit in
    sound_from (market_of s) (books_of s) (pool_total s) (record {
      price_some = omega (arith, r.price_least);
      price_most = r.price_most;
    }) (sym (map-length (trove_row s) s.troves))
    (omega (arith, coll, limit)) f.balanced.debt_limit (record { stands = f.stands.troves; coll = refl; debt = refl })

pub troves_sound : (s : State) → Finds s → TrovesAreSound s
troves_sound s f = record { troves = f.stands.troves; marked = f.stands.formed.1 }

-- ---- of a protocol

abbrev pub course_by : Image → Course
course_by i = record {
  words = words_by i;
  stakes = i.stakes;
  coll = i.active_coll + i.default_coll;
  sum_debt = i.sum_debt;
}

module _ (p : Inside) (sound : IsSound p) where
  abbrev pub its : State
  its = state_of (core_of p)

  same : (core_of p).image ≡ image its
  same = sym (image_back (core_of p) sound.image)

  pub its_rows : p.troves.table.rows ≡ trove_rows its
  its_rows = ap (λ (i : Image). i.troves) same

  pub its_sums : p.troves.sums ≡ sums_words its
  its_sums = ap sums_by same

  pub its_words : p.pool.words ≡ pool_words its
  its_words = ap words_by same

  pub its_coll : (market_of its).total_coll ≡ p.pools.active_coll + p.pools.default_coll
  its_coll = sym (ap (λ (i : Image). i.active_coll + i.default_coll) same)

  pub its_course : course_by (core_of p).image ≡ course_of its
  its_course = ap course_by same

  pub its_parts : (m : Market) → m ≡ market_of its
      → AreParts its m p.troves.sums p.troves.table.rows p.order.entries p.pool.words
  its_parts m is =
      record {
        market = is;
        sums_are = its_sums;
        troves_are = its_rows;
        order_is = sound.order
            ∙ ap (λ (t : Table Trove). order_by t) its_rows;
        words_are = its_words;
      }

  pub its_moment : (m : Market) → m ≡ market_of its
      → IsSoundMoment (moment_by m p.troves.sums p.troves.table.rows p.pool.words)
  its_moment m is =
      subst (λ (w : PoolWords). IsSoundMoment (moment_by m p.troves.sums p.troves.table.rows w)) (sym its_words)
      (subst (λ (t : Table Trove). IsSoundMoment (moment_by m p.troves.sums t (pool_words its))) (sym its_rows)
      (subst (λ (x : Sums). IsSoundMoment (moment_by m x (trove_rows its) (pool_words its))) (sym its_sums)
      (subst (λ (k : Market). IsSoundMoment (moment_by k (sums_words its) (trove_rows its) (pool_words its))) (sym is)
      (moment_sound its (core_finds (core_of p) sound.image)))))

  pub its_trove : (m : Market) → m ≡ market_of its → (account : ℕ) (t : Trove) → at p.troves.table.rows account ≡ Some t
      → IsTroveOf m p.troves.sums t
  its_trove m is account t there =
      let struck = row_struck (moment_by m p.troves.sums p.troves.table.rows p.pool.words) account (its_moment m is) in
      (subst (λ (o : Option Trove). IfSome o
      (IsStruckOf (moment_by m p.troves.sums p.troves.table.rows p.pool.words).figures)) there struck).trove

  pub its_one : (m : Market) → m ≡ market_of its → (account : ℕ)
      → one_in m p.troves.sums p.pool.words.total account (at p.troves.table.rows account) ≡ one its account
  its_one m is account =
      ap (λ (k : Market). one_in k p.troves.sums p.pool.words.total account (at p.troves.table.rows account)) is
      ∙ ap (λ (x : Sums). one_in (market_of its) x p.pool.words.total account (at p.troves.table.rows account)) its_sums
      ∙ ap (λ (w : PoolWords). one_in (market_of its) (sums_words its) w.total account (at p.troves.table.rows account))
      its_words
      ∙ ap (λ (t : Table Trove). one_in (market_of its) (sums_words its) (pool_total its) account (at t account))
      its_rows

-- ---- what is ruled

-- the reply to a liquidation
abbrev pub one_done : One → Done
one_done made = record {
  kind = LIQUIDATE;
  values = made.gas ∷ made.offset_debt ∷ made.offset_coll ∷ made.spread_debt
      ∷ made.spread_coll ∷ made.surplus ∷ [];
}

pub liquidate_ruled : (s : State) (liquidator account : ℕ) (made : One) → one s account ≡ Ok made
    → (forecast : Forecast) (struck : Victims) → forecast.done ≡ one_done made
    → forecast.effect ≡ effects.Liquidate liquidator struck
    → victims_in struck ≡ record { account = account; one = made } ∷ []
    → events_in forecast.events ≡ offset_events s (record { account = account; one = made } ∷ [])
    → changes_in forecast.changes ≡ victim_changes s (record { account = account; one = made } ∷ [])
    → IsRuled s (Liquidate liquidator account) (Ok forecast)
liquidate_ruled s liquidator account made is forecast struck done effect victims events changes = (
  ap (λ (r : Result One Refusal). first_refusal (refusal_of r)) is,
  record {
    done = done ∙ sym (ap (λ (r : Result One Refusal). record { kind = LIQUIDATE; values = six (one_values r) }) is);
    effect = subst (IsEffect s (Liquidate liquidator account)) (sym effect) (inl (
      account,
      refl,
      victims ∙ sym (ap (λ (r : Result One Refusal). listed (victim_by account r)) is),
    ));
    events = events ∙ sym (ap (λ (r : Result One Refusal). offset_events s (listed (victim_by account r))) is);
    changes = changes ∙ sym (ap (λ (r : Result One Refusal). victim_changes s (listed (victim_by account r))) is);
  },
)

-- what the reply adds up fits, and the list is one that is told
pub record LowestFits (s : State) (vs : List Victim) : Type 0 where
  pub few : length vs ≤ LOWEST_MOST
  pub victims : AreVictims s 0 vs
  pub gas : sum_by (λ (v : Victim). v.one.gas) vs < 2 ^ 64
  pub debt : sum_by (λ (v : Victim). v.one.offset_debt) vs < 2 ^ 64
  pub coll : sum_by (λ (v : Victim). v.one.offset_coll) vs < 2 ^ 64

pub lowest_fits : (s : State) → IsSoundState s → (count : ℕ) (vs : List Victim) → AreLowest s count vs → LowestFits s vs
lowest_fits s h count vs are =
    let most = lowest_within s 0 count are.0 in
    let f = finds s (sound_facts s h) in
    let few = lowest_count count s in
    let sums = sums_within (lowest s count) s f (lowest_victims count s f 0 (omega arith)) in
    let coll = f.balanced.homes.coll in
    subst (λ (l : List Victim). LowestFits s l) are.1
    (record {
      few = omega (arith, few, most);
      victims = lowest_victims count s f 0 (omega arith);
      gas = omega (arith, sums.coll, coll, f.balanced.coll_limit);
      debt = omega (arith, sums.debt, f.balanced.debt_limit);
      coll = omega (arith, sums.coll, coll, f.balanced.coll_limit);
    })

pub lowest_ruled : (s : State) (liquidator count : ℕ) (vs : List Victim) → AreLowest s count vs → (forecast : Forecast)
    (struck : Victims) → forecast.done ≡ record { kind = 13; values = six (lowest_values vs) }
    → forecast.effect ≡ effects.Liquidate liquidator struck → victims_in struck ≡ vs
    → events_in forecast.events ≡ offset_events s vs → changes_in forecast.changes ≡ victim_changes s vs
    → IsRuled s (LiquidateLowest liquidator count) (Ok forecast)
lowest_ruled s liquidator count vs are forecast struck done effect victims events changes = (
  are.0,
  record {
    done = done ∙ sym (ap (λ (l : List Victim). record { kind = 13; values = six (lowest_values l) }) are.1);
    effect = subst (IsEffect s (LiquidateLowest liquidator count)) (sym effect) (inr (
      count,
      refl,
      victims ∙ sym are.1,
    ));
    events = events ∙ sym (ap (λ (l : List Victim). offset_events s l) are.1);
    changes = changes ∙ sym (ap (λ (l : List Victim). victim_changes s l) are.1);
  },
)
