use Rattle.liq_text.proofs.ReplyLaws.{text_short}
use Rattle.liq_text.proofs.laws.short_texts.Goals as goal

pub returns : goal.returns
returns c = text_short
