-- Images by their parts: what an image has of a part, and an image with another one.
use Rattle.std.proofs.Common.{◌≡◌, ℕ, List, ap, ◌∙◌}
use Rattle.liq_types.specs.declared.figures.Client.{Client}
use Rattle.liq_types.specs.declared.figures.Deposit.{Deposit}
use Rattle.liq_types.specs.declared.figures.Trove.{Trove}
use Rattle.liq_types.specs.declared.figures.Wallet.{Wallet}
use Rattle.liq_types.specs.declared.image.Image.{Image}
use Rattle.liq_types.specs.State.{started}
use Rattle.liq_types.specs.Tables.{EpochScale, Table}
use Rattle.liq_ledger.specs.declared.pools.Pools.{Pools}
use Rattle.liq_troves.specs.declared.sums.Sums.{Sums}
use Rattle.liq_trove_moves.specs.Books.{pools_of}
use Rattle.liq_stability.specs.declared.words.PoolWords.{PoolWords}
use Rattle.liq_rule_step.proofs.AlikeReads.{sums_by}
use Rattle.liq_core.specs.Parts.{words_by}

abbrev pub pools_by : Image → Pools
pools_by i = pools_of (started i)

abbrev pub with_pools : Image → Pools → Image
with_pools i pools =
    record i {
      active_coll = pools.active_coll;
      active_debt = pools.active_debt;
      default_coll = pools.default_coll;
      default_debt = pools.default_debt;
      reserve = pools.reserve;
      surplus = pools.surplus;
      fee_coll = pools.fee_coll;
      fee_lusd = pools.fee_lusd;
    }

abbrev pub with_sums : Image → Sums → Image
with_sums i sums =
    record i {
      sum_coll = sums.coll;
      sum_debt = sums.debt;
      stakes = sums.stakes;
      snap_stakes = sums.snap_stakes;
      snap_coll = sums.snap_coll;
    }

-- the Stability Pool's words, finished sums and deposits
abbrev pub with_pool : Image → PoolWords → List (EpochScale × ℕ) → Table Deposit → Image
with_pool i words finished deposits =
    record i {
      p = words.p;
      scale = words.scale;
      epoch = words.epoch;
      sum = words.sum;
      total = words.total;
      pool_coll = words.coll;
      finished = finished;
      deposits = deposits;
    }

-- an image with other parts
abbrev pub made_of : Image → Table Wallet → Table Trove → Sums → PoolWords → List (EpochScale × ℕ) → Table Deposit
    → Table ℕ
    → Table Client → Image
made_of i wallets troves sums words finished deposits surplus clients =
    record (with_pool (with_sums i sums) words finished deposits) {
      wallets = wallets;
      troves = troves;
      surplus_rows = surplus;
      clients = clients;
    }

-- with its own parts it is itself
pub made_again : (i : Image) (wallets : Table Wallet) (troves : Table Trove) (sums : Sums) (words : PoolWords)
    (finished : List (EpochScale × ℕ)) (deposits : Table Deposit) (surplus : Table ℕ) (clients : Table Client)
    → wallets ≡ i.wallets → troves ≡ i.troves → sums ≡ sums_by i → words ≡ words_by i → finished ≡ i.finished
    → deposits ≡ i.deposits → surplus ≡ i.surplus_rows → clients ≡ i.clients
    → made_of i wallets troves sums words finished deposits surplus clients ≡ i
made_again i wallets troves sums words finished deposits surplus clients w t u p f d s c =
    ap (λ (ws : Table Wallet). made_of i ws troves sums words finished deposits surplus clients) w
    ∙ ap (λ (ts : Table Trove). made_of i i.wallets ts sums words finished deposits surplus clients) t
    ∙ ap (λ (us : Sums). made_of i i.wallets i.troves us words finished deposits surplus clients) u
    ∙ ap (λ (ps : PoolWords). made_of i i.wallets i.troves (sums_by i) ps finished deposits surplus clients) p
    ∙ ap (λ (fs : List (EpochScale × ℕ)). made_of i i.wallets i.troves (sums_by i) (words_by i) fs deposits surplus
    clients) f
    ∙ ap (λ (ds : Table Deposit). made_of i i.wallets i.troves (sums_by i) (words_by i) i.finished ds surplus clients) d
    ∙ ap (λ (ss : Table ℕ). made_of i i.wallets i.troves (sums_by i) (words_by i) i.finished i.deposits ss clients) s
    ∙ ap (λ (cs : Table Client). made_of i i.wallets i.troves (sums_by i) (words_by i) i.finished i.deposits
    i.surplus_rows cs) c
