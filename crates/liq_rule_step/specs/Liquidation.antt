-- Liquidation: one trove or the last ones of the order, and the surplus that their owners claim.
use Rattle.std.specs.Prelude.{ℕ, ◌==◌, Option, Some, None, Result, Ok, Err, List, [], ◌∷◌, ◌++◌, fold, length, sum_by, if◌then◌else◌}
use Rattle.liq_types.specs.declared.amounts.TheConstants.{LOWEST_MOST}
use Rattle.liq_types.specs.declared.events.ListChange.{ListChange}
use Rattle.liq_types.specs.declared.events.ListChange.TheVariants.{Gone}
use Rattle.liq_types.specs.declared.events.PoolEvent.{PoolEvent}
use Rattle.liq_types.specs.declared.events.PoolEvent.TheVariants.{Offset}
use Rattle.liq_types.specs.declared.replies.Refusal.{Refusal}
use Rattle.liq_types.specs.declared.replies.Refusal.TheVariants.{AmountLimit, NoSurplus}
use Rattle.liq_types.specs.Payments.{credited, surplus_taken}
use Rattle.liq_types.specs.Product.{rise_of}
use Rattle.liq_types.specs.Rules.{where_above}
use Rattle.liq_types.specs.State.{State, surplus_of}
use Rattle.liq_types.specs.Totals.{pool_total}
use Rattle.liq_stability.specs.Position.{words_of}
use Rattle.liq_liquidation.specs.declared.one.One.{One}
use Rattle.liq_liquidation.specs.declared.one.Victim.{Victim}
use Rattle.liq_liquidation.specs.Lowest.{lowest, lowest_rules, refusal_of, victim_by}
use Rattle.liq_liquidation.specs.One.{one, struck, liquidated}
use Rattle.liq_rule_step.specs.ListChanges.{words_in}
use Rattle.liq_rule_step.specs.Row.{Row, not_zero}

-- ---- victims, one after the other

abbrev pub all_liquidated : State → ℕ → List Victim → State
all_liquidated s liquidator victims = fold (λ now v. liquidated now liquidator v) s victims

-- a victim whose debt the pool takes none of makes no event
abbrev pub victim_events : State → One → List PoolEvent
victim_events s one =
    let total = pool_total s in
    let rise = rise_of (words_of s).p (record {
      debt = one.offset_debt;
      coll = one.offset_coll;
      total = total;
    }) in
    if one.offset_debt == 0 then [] else Offset one.offset_debt one.offset_coll total rise ∷ []

abbrev pub offset_events : State → List Victim → List PoolEvent
offset_events s [] = []
offset_events s (v ∷ vs) = victim_events s v.one ++ offset_events (struck s v) vs

abbrev pub victim_changes : State → List Victim → List ListChange
victim_changes s [] = []
victim_changes s (v ∷ vs) =
    let next = struck s v in
    Gone v.account ∷ words_in next ∷ victim_changes next vs

-- ---- liquidate

-- the victim, where there is one
abbrev pub listed : Option Victim → List Victim
listed None = []
listed (Some v) = v ∷ []

abbrev pub one_values : Result One Refusal → List ℕ
one_values (Ok one) = one.gas ∷ one.offset_debt ∷ one.offset_coll ∷ one.spread_debt
    ∷ one.spread_coll ∷ one.surplus ∷ []
one_values (Err refusal) = []

abbrev pub liquidate_row : State → ℕ → ℕ → Row
liquidate_row s liquidator account =
    let made = one s account in
    let victims = listed (victim_by account made) in
    record {
      rules = refusal_of made;
      effect = all_liquidated s liquidator victims;
      values = one_values made;
      events = offset_events s victims;
      changes = victim_changes s victims;
    }

-- ---- liquidate_lowest

abbrev pub lowest_values : List Victim → List ℕ
lowest_values victims =
    length victims
    ∷ sum_by (λ (v : Victim). v.one.gas) victims
    ∷ sum_by (λ (v : Victim). v.one.offset_debt) victims
    ∷ sum_by (λ (v : Victim). v.one.offset_coll) victims
    ∷ []

abbrev pub liquidate_lowest_row : State → ℕ → ℕ → Row
liquidate_lowest_row s liquidator count =
    let victims = lowest s count in
    record {
      rules = not_zero count ∷ where_above count LOWEST_MOST AmountLimit ∷ lowest_rules s;
      effect = all_liquidated s liquidator victims;
      values = lowest_values victims;
      events = offset_events s victims;
      changes = victim_changes s victims;
    }

-- ---- claim

abbrev pub claim_row : State → ℕ → Row
claim_row s account =
    let coll = surplus_of s account in
    record {
      rules = (coll == 0, NoSurplus account) ∷ [];
      effect = credited (surplus_taken s account) account coll 0;
      values = coll ∷ [];
      events = [];
      changes = [];
    }
