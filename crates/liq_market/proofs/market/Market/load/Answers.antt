use Rattle.std.proofs.Common.{◌≡◌, ℕ, Some, Result, Ok, Err, sym, ap, ◌∙◌}
use Rattle.liq_types.specs.Soundness.{first_unsound}
use Rattle.liq_checkpoint.specs.Spelling.{spelling}
use Rattle.liq_market.specs.declared.load_fault.LoadFault.{LoadFault}
use Rattle.liq_market.specs.declared.load_fault.LoadFault.TheVariants.{Unsound}
use Rattle.liq_market.proofs.Loading.{none_of, save_is}
use Rattle.liq_market.proofs.market.Market.load.Goals as goal

the : {X E : Type 0} {a b : X} → ◌≡◌ {A = Result X E} (Ok a) (Ok b) → a ≡ b
the e = cc

the_rule : {X : Type 0} {a b : ℕ} → ◌≡◌ {A = Result X LoadFault} (Err (Unsound a)) (Err (Unsound b)) → a ≡ b
the_rule e = cc

never : {X E : Type 0} {a : X} {b : E} → ◌≡◌ {A = Result X E} (Ok a) (Err b) → ⊥
never e = cc

pub returns-in-Ok-at-clause-save : goal.returns-in-Ok-at-clause-save
returns-in-Ok-at-clause-save c i records save =
    let parts = c.in-Some.ensures.only records (spelling i) save.count save.spelled in
    let image = the (c.in-Ok.ensures.only i save.form parts.1) in
    let rules = none_of (first_unsound c.in-Ok.image c.in-Some.records)
    (λ rule e. never (sym c.in-Ok-at.is ∙ (c.at.ensures.unsound rule).1 e)) in (
      c.in-Ok-at.ensures.image ∙ sym image,
      c.in-Ok-at.ensures.records ∙ parts.0,
      c.in-Ok-at.ensures.untouched,
      (λ k. first_unsound (image k) (sym parts.0 k)) ∙ rules,
    )

pub returns-in-Err-Unsound-clause-save : goal.returns-in-Err-Unsound-clause-save
returns-in-Err-Unsound-clause-save c i records save =
    let parts = c.in-Some.ensures.only records (spelling i) save.count save.spelled in
    let image = the (c.in-Ok.ensures.only i save.form parts.1) in
    let broken = (c.in-Err-Unsound.ensures.unsound c.in-Err-Unsound.rule).0
    (λ k. Err (c.in-Err-Unsound.field-0-is k)) in
    (λ k. first_unsound (image k) (sym parts.0 k)) ∙ broken

pub returns-in-Err-Unsound-clause-unsound : goal.returns-in-Err-Unsound-clause-unsound
returns-in-Err-Unsound-clause-unsound c rule same =
    let broken = (c.in-Err-Unsound.ensures.unsound c.in-Err-Unsound.rule).0
    (λ k. Err (c.in-Err-Unsound.field-0-is k)) in
    record {
      image = c.in-Ok.image;
      records = c.in-Some.records;
      save =
          save_is c.args.bytes.now c.in-Some.records c.in-Some.checkpoint.now c.in-Ok.image
          c.in-Ok.ensures.found.0 c.in-Some.ensures.fits
          c.in-Some.ensures.found c.in-Ok.ensures.found.1;
      broken = broken ∙ ap Some (the_rule same);
    }
