use Rattle.std.proofs.Common.{rules, ap, ◌∙◌, refl, arith, []}
use Rattle.std.proofs.lemmas.List.Elements.{All-head}
use Rattle.liq_tables.specs.WithRoom.{HasRoom}
use Rattle.liq_stability.specs.Kept.{words_owned}
use Rattle.liq_stability.specs.declared.words.PoolWords.{PoolWords}
use Rattle.test_parts.proofs.plans.liquidated.opened.Goals as goal

pub returns : goal.returns
returns g c =
    let words = c.provide-gain.ensures.words
    ∙ ap (λ (w : PoolWords). words_owned w c.args.deposit 0 c.provide-gain.result) (c.in_ok-reserve-3.ensures.words
    ∙ c.new-stability.ensures.words) in
    record {
      wallets_are = search rules;
      liquidator = search rules;
      surplus_is = search rules;
      owner = All-head (HasRoom c.reserve-2.new.self) 1 [] c.in_ok-reserve-2.ensures.room;
      pools_are = refl;
      coll = let coll = ap (λ (w : PoolWords). w.coll) words in omega (arith, coll);
      scale = ap (λ (w : PoolWords). w.scale) words;
      epoch = ap (λ (w : PoolWords). w.epoch) words;
      room = let spare = c.provide-gain.ensures.spare in let offsets = c.in_ok-reserve-3.ensures.offsets
          in omega (arith, spare, offsets);
    }
