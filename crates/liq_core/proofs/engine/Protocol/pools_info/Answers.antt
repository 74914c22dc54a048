use Rattle.std.proofs.Common.{ap, sym, ◌∙◌, [], ◌∷◌}
use Rattle.liq_types.specs.declared.replies.Info.{Info}
use Rattle.liq_types.specs.declared.replies.Info.TheVariants as info
use Rattle.liq_types.specs.declared.image.Image.{Image}
use Rattle.liq_stability.specs.declared.words.PoolWords.{PoolWords}
use Rattle.liq_core.specs.Core.{Core, state_of}
use Rattle.liq_rule_step.specs.Queries.{pools}
use Rattle.liq_core.specs.Sound.{core_of}
use Rattle.liq_core.proofs.SoundCores.{image_back}
use Rattle.liq_core.proofs.engine.Protocol.pools_info.Goals as goal

-- the ten words of an image
abbrev pools_by : Image → Info
pools_by i =
    info.Pools (i.active_coll ∷ i.active_debt ∷ i.default_coll ∷ i.default_debt ∷ i.reserve ∷ i.surplus ∷ i.fee_coll
    ∷ i.fee_lusd ∷ i.total ∷ i.pool_coll ∷ [])

pub returns : goal.returns
returns c =
    let i = (core_of c.self.inside).image in
    ap (λ (w : PoolWords). pools_by (record i { total = w.total; pool_coll = w.coll })) c.words-pool.ensures.words
    ∙ ap pools_by (sym (image_back (core_of c.self.inside) c.self.invariant.image))
    ∙ ap (λ (core : Core). info.Pools (pools (state_of core))) c.self.view_is
