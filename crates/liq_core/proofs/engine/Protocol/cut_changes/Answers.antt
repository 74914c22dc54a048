use Rattle.std.proofs.Common.{List, ◌∙◌, ap, false}
use Rattle.std.specs.Prelude.{map}
use Rattle.std.proofs.lemmas.List.{map_more, take_all}
use Rattle.std.proofs.lemmas.List.Elements.{All-from_recursion}
use Rattle.liq_redemption.specs.declared.cut.Cut.{Cut}
use Rattle.liq_core.specs.Core.{state_of}
use Rattle.liq_rule_step.specs.Redemption.{cut_told}
use Rattle.liq_rule_sound.specs.SoundState.{CutIsCovered}
use Rattle.liq_core.proofs.engine.Protocol.cut_changes.Goals as goal

abbrev nothing : Cut
nothing = record { account = 0; lot = 0; draw = 0; full = false }

pub cut_change-change-requires : goal.cut_change-change-requires
cut_change-change-requires c =
    All-from_recursion (CutIsCovered (state_of c.args.self.now)) c.args.cuts.now c.requires c.loop-cut.cut-index nothing
    c.loop-cut-test.true

pub loop-cut-preserved : goal.loop-cut-preserved
loop-cut-preserved c =
    let more = map_more (cut_told (state_of c.args.self.now)) c.args.cuts.now c.loop-cut.cut-index nothing
    c.loop-cut-test.true in
    cc (c.in-Ok.ensures.items, c.cut_change-change.ensures, c.loop-cut.invariant)

pub returns : goal.returns
returns c = c.loop-cut.invariant ∙ ap (λ (cuts : List Cut). map (cut_told (state_of c.args.self.now)) cuts)
    (take_all c.loop-cut.cut-index c.args.cuts.now c.loop-cut-test.false)
