use Rattle.std.proofs.Common.{sym, ◌∙◌}
use Rattle.test_stores.proofs.tests.full_journal.accept.Goals as goal

pub apply-requires-clause-planned : goal.apply-requires-clause-planned
apply-requires-clause-planned g c s h =
    let same = c.in-Ok.ensures.same in
    ((rw c.in-Ok-New.field-0-is at c.in-Ok-New.ensures) s (record {
      image = sym same.image
          ∙ h.image;
      records = sym same.records ∙ h.records;
      formed = h.formed;
    })).1
