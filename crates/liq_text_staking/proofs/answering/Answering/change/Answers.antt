use Rattle.std.proofs.Common.{◌≡◌, Ok, Err, refl, ap}
use Rattle.liq_fees.specs.declared.changes.ChangeFault.{ChangeFault}
use Rattle.liq_fees.specs.declared.changes.ChangeFault.TheVariants.{No}
use Rattle.liq_fees.specs.declared.changes.StakeRefusal.{StakeRefusal}
use Rattle.liq_text_staking.proofs.Answered.{made, refused_only, not_refused}
use Rattle.liq_text_staking.proofs.answering.Answering.change.Goals as goal

pub returns-in_ok-append_line-in-Ok-clause-asked : goal.returns-in_ok-append_line-in-Ok-clause-asked
returns-in_ok-append_line-in-Ok-clause-asked c a h few =
    made c.args.self.now (record {
      fees = c.change.new.self;
      stakers = c.insert.new.self;
      least = c.args.line.now.at;
      text = c.append_line.new.text;
    }) a c.args.line.now h
    (not_refused _ (λ refusal some. absurd (no_error refusal ((c.in-Ok.ensures.refused a.past h.fees refusal).1 some))))
    (c.in-Ok.ensures.changed a.past h.fees few) c.in-Ok-insert.ensures.keys refl c.in_ok-append_line-in-Ok.ensures where
      no_error : (refusal : StakeRefusal) → Ok c.in-Ok.field-0 ≡ Err (No refusal) → ⊥
      no_error refusal e = cc

pub returns-in_ok-put_refusal-in-Err-No-clause-asked : goal.returns-in_ok-put_refusal-in-Err-No-clause-asked
returns-in_ok-put_refusal-in-Err-No-clause-asked c a h few =
    refused_only c.args.self.now (record {
      fees = c.change.new.self;
      stakers = c.args.self.now.stakers;
      least = c.args.line.now.at;
      text = c.put_refusal.new.text;
    }) a c.args.line.now h
    c.in-Err-No.refusal ((c.in-Err-No.ensures.refused a.past h.fees c.in-Err-No.refusal).0
    (ap (λ (f : ChangeFault). Err f) c.in-Err-No.field-0-is)) c.in-Err-No.ensures.err refl refl
    c.in_ok-put_refusal-in-Err-No.ensures
