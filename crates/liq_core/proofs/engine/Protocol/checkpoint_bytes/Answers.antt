use Rattle.std.proofs.Common.{length, subst, ap, ◌∙◌}
use Rattle.liq_types.specs.Soundness.{IsSoundImage}
use Rattle.liq_types.specs.Tables.{put}
use Rattle.liq_core.specs.Core.{Core, state_of}
use Rattle.liq_core.proofs.Rotating.{checkpoint_is, clients_few, reply_row}
use Rattle.liq_core.proofs.engine.Protocol.checkpoint_bytes.Goals as goal

pub clients_with-requires : goal.clients_with-requires
clients_with-requires c = clients_few c.self.inside c.self.invariant

pub returns : goal.returns
returns c =
    let core = c.args.self.now in
    let command = c.args.command.now in
    let row = reply_row (state_of core) command in
    let sound = subst (λ (view : Core). IsSoundImage view.image view.records) c.self.view_is c.self.invariant.image in
    let count = c.clients_with.ensures row
    ∙ ap (λ (view : Core). length (put view.image.clients command.client row)) c.self.view_is in
    c.checkpoint_with.ensures.length (put core.image.clients command.client row) count
    ∙ checkpoint_is core sound command c.requires
