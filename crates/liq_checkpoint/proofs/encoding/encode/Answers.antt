use Rattle.std.proofs.lemmas.Result.{IfOk-weaker}
use Rattle.liq_checkpoint.proofs.Encoded.{is_spelled, is_long, reads}
use Rattle.liq_checkpoint.proofs.encoding.encode.Goals as goal

pub returns-clause-spelled : goal.returns-clause-spelled
returns-clause-spelled c = IfOk-weaker c.write_image.result _ _ (λ b put. is_spelled c.args.image.now b.items put)
    c.write_image.ensures

pub returns-clause-length : goal.returns-clause-length
returns-clause-length c = IfOk-weaker c.write_image.result _ _ (λ b put. is_long c.args.image.now b.items
    c.requires.tables
    put) c.write_image.ensures

pub returns-clause-read : goal.returns-clause-read
returns-clause-read c = IfOk-weaker c.write_image.result _ _ (λ b put. reads c.args.image.now b.items
    c.requires.tables put
    c.requires.limit) c.write_image.ensures
