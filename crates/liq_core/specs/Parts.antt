-- What a protocol's parts are made of, where it begins with an image.
use Rattle.std.specs.Prelude.{◌≤◌}
use Rattle.liq_types.specs.declared.amounts.TheConstants.{SUM_MOST}
use Rattle.liq_types.specs.declared.figures.Trove.{Trove}
use Rattle.liq_types.specs.declared.image.Image.{Image}
use Rattle.liq_stability.specs.declared.words.PoolWords.{PoolWords}

-- the words of the Stability Pool
abbrev pub words_by : Image → PoolWords
words_by i = record {
  p = i.p;
  scale = i.scale;
  epoch = i.epoch;
  sum = i.sum;
  total = i.total;
  coll = i.pool_coll;
}

-- a trove whose key fits the ordered list
pub record HasKey (t : Trove) : Type 0 where
  pub stake : 1 ≤ t.stake
  pub mark : t.mark_debt ≤ SUM_MOST
