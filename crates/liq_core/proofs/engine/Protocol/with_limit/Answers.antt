use Rattle.std.proofs.Common.{ap, sym, subst, ◌∙◌}
use Rattle.liq_types.specs.declared.image.Image.{Image}
use Rattle.liq_types.specs.Soundness.{IsSoundImage}
use Rattle.liq_order.specs.Order.{order_by}
use Rattle.liq_types.specs.Image.{opening_image_with}
use Rattle.liq_core.proofs.Images.{made_again}
use Rattle.liq_rule_sound.proofs.SoundStart.{opening_image_sound}
use Rattle.liq_core.proofs.engine.Protocol.with_limit.Goals as goal

pub invariant_of-result : goal.invariant_of-result
invariant_of-result c =
    record {
      image =
          subst (λ (i : Image). IsSoundImage i 0)
          (sym (made_again (opening_image_with c.args.limit) c.new.result.rows c.new-2.result.table.rows
          c.new-2.result.sums c.new-4.result.words c.new-4.result.finished c.new-4.result.deposits.rows
          c.new-5.result.rows c.new-6.result.rows c.new.ensures c.new-2.ensures.rows c.new-2.ensures.sums
          c.new-4.ensures.words c.new-4.ensures.finished c.new-4.ensures.deposits c.new-5.ensures c.new-6.ensures))
          (opening_image_sound c.args.limit c.requires);
      order = c.new-3.ensures ∙ sym (ap order_by c.new-2.ensures.rows);
    }
