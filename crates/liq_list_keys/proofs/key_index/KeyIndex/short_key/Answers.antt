use Rattle.std.proofs.Common.{◌∙◌}
use Rattle.liq_list_keys.proofs.Moving.{kept_key}
use Rattle.liq_list_keys.proofs.key_index.KeyIndex.short_key.Goals as goal

pub returns-clause-key : goal.returns-clause-key
returns-clause-key c = kept_key _ c.args.self.now c.args.account c.copied.result c.self.view_is (c.copied.ensures
    ∙ c.get.ensures.row)
