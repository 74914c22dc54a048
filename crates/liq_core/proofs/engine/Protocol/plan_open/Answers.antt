use Rattle.std.proofs.Common.{◌≡◌, ℕ, ◌≤◌, Bool, refl, ap, sym, ◌∙◌, subst, Some, None, Option, Bor}
use Rattle.std.specs.Prelude.{is_some, option_copied, Ok}
use Rattle.std.proofs.lemmas.Result.{err_from_is_err_and}
use Rattle.liq_types.specs.declared.figures.Market.{Market}
use Rattle.liq_types.specs.declared.figures.Trove.{Trove}
use Rattle.liq_types.specs.declared.figures.Wallet.{Wallet}
use Rattle.liq_types.specs.declared.hints.HintWords.{HintWords}
use Rattle.liq_types.specs.declared.requests.Call.TheVariants.{Open}
use Rattle.liq_types.specs.Rules.{first_refusal}
use Rattle.liq_types.specs.State.{wallet_of}
use Rattle.liq_types.specs.Tables.{at}
use Rattle.liq_types.specs.Totals.{market_of}
use Rattle.liq_borrow.specs.declared.change.Plan.{Plan}
use Rattle.liq_borrow.specs.Borrowing.{open_plan, opening_terms}
use Rattle.liq_rule_step.specs.Rules.{rules}
use Rattle.liq_core.specs.declared.engine.Protocol.TheInside.{Inside}
use Rattle.liq_core.specs.Core.{Core, state_of}
use Rattle.liq_core.specs.Sound.{IsSound, core_of}
use Rattle.liq_core.proofs.Forecasting.{open_refused, open_allowed, open_forecast}
use Rattle.liq_core.proofs.Reading.{exists_read}
use Rattle.liq_rule_sound.proofs.SoundBorrow.{open_allows}
use Rattle.liq_core.proofs.engine.Protocol.plan_open.Goals as goal

-- whether the table has a row is whether the state has a trove
there : (p : Inside) (old : Core) → core_of p ≡ old → IsSound p → (account : ℕ) (o : Option (Bor Trove))
    → option_copied o ≡ at p.troves.table.rows account → is_some o ≡ is_some (at (state_of old).troves account)
there p old view sound account o row =
    subst (λ (core : Core). is_some o ≡ is_some (at (state_of core).troves account)) view
    (copied o ∙ ap is_some row ∙ sym (exists_read (core_of p) sound.image account))
  where
    copied : (q : Option (Bor Trove)) → is_some q ≡ is_some (option_copied q)
    copied None = refl
    copied (Some t) = refl

-- what is planned is allowed, by what the rows tell of the account
open_so : (p : Inside) (old : Core) → core_of p ≡ old → IsSound p → (account : ℕ) (o : Option (Bor Trove))
    → option_copied o ≡ at p.troves.table.rows account → (exists : Bool) → exists ≡ is_some o
    → (m : Market) → m ≡ market_of (state_of old) → (w : Wallet) → w ≡ wallet_of (state_of old) account
    → (coll borrow bound : ℕ) (words : HintWords) (plan : Plan)
    → open_plan m w exists account coll borrow bound ≡ Ok plan
    → (first_refusal (rules (state_of old) (Open account coll borrow bound words)) ≡ None)
    × (plan ≡ opening_terms (market_of (state_of old)) coll borrow)
open_so p old view sound account o row exists is m market w wallet coll borrow bound words plan made =
    open_allowed (state_of old) account m w market wallet coll borrow bound words exists
    (is ∙ there p old view sound account o row) plan made

pub returns-in_err-plan : goal.returns-in_err-plan
returns-in_err-plan c =
    let exists = c.is_some-exists.ensures ∙ there c.self.inside c.args.self.now c.self.view_is c.self.invariant
    c.args.account c.get.result c.get.ensures.row in
    let p = err_from_is_err_and c.from_residual.result c.from_residual.ensures.1 in
    rw (p.1, p.2)
    (open_refused (state_of c.args.self.now) c.args.account c.market.result c.wallet-wallet.result
    c.market.ensures.market c.wallet-wallet.ensures c.args.coll c.args.borrow c.args.bound c.args.words
    c.is_some-exists.result exists c.in_err-plan.field-0.0
    (sym c.plan_open.ensures ∙ c.in_err-plan.was))

pub standing-requires : goal.standing-requires
standing-requires c =
    let a = open_so c.self.inside c.args.self.now c.self.view_is c.self.invariant c.args.account c.get.result
    c.get.ensures.row c.is_some-exists.result c.is_some-exists.ensures c.market.result c.market.ensures.market
    c.wallet-wallet.result c.wallet-wallet.ensures c.args.coll c.args.borrow c.args.bound c.args.words
    c.in_ok-plan.plan (sym c.plan_open.ensures ∙ c.in_ok-plan.was) in
    let allows = open_allows (state_of c.args.self.now) c.args.account c.args.coll c.args.borrow c.args.bound a.0 in
    subst (λ (p : Plan). 1 ≤ p.coll) (sym a.1) allows.some

pub returns : goal.returns
returns c =
    let a = open_so c.self.inside c.args.self.now c.self.view_is c.self.invariant c.args.account c.get.result
    c.get.ensures.row c.is_some-exists.result c.is_some-exists.ensures c.market.result c.market.ensures.market
    c.wallet-wallet.result c.wallet-wallet.ensures c.args.coll c.args.borrow c.args.bound c.args.words
    c.in_ok-plan.plan (sym c.plan_open.ensures ∙ c.in_ok-plan.was) in (
      a.0,
      open_forecast (state_of c.args.self.now) c.args.account c.args.coll c.args.borrow c.args.bound c.args.words
          c.in_ok-plan.plan c.standing.result a.1 c.standing.ensures,
    )
