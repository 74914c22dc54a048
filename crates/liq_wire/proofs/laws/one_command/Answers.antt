use Rattle.std.proofs.Common.{sym, ◌∙◌}
use Rattle.liq_wire.proofs.Spelling.{of_spelled}
use Rattle.liq_wire.proofs.laws.one_command.Goals as goal

pub returns : goal.returns
returns c = λ bytes a b spells_a spells_b has_a has_b. sym (of_spelled bytes a spells_a has_a)
    ∙ of_spelled bytes b spells_b has_b
