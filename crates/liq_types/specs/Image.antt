-- The image: all of a state on which its future rests, but for the count of its records. It is also
-- what the rules begin from, at the opening or at a checkpoint. Tables ascend by their keys and
-- have no empty rows.
use Rattle.std.specs.Prelude.{◌≡◌, ℕ, ◌⊎◌, []}
use Rattle.liq_types.specs.declared.amounts.TheConstants.{LIM, LIM_OF_VERSION_1, PRICE_OPENING, P_OPENING}
pub use Rattle.liq_types.specs.declared.image.Image.{Image}
pub use Rattle.liq_types.specs.Tables.{EpochScale}

-- the most collateral inside, and the most LUSD, is one of two numbers
abbrev pub IsLimit : ℕ → Type 0
IsLimit limit = (limit ≡ LIM_OF_VERSION_1) ⊎ (limit ≡ LIM)

-- nothing but the price, and a product that is whole
abbrev pub opening_image_with : ℕ → Image
opening_image_with limit =
    record {
      price = PRICE_OPENING;
      minute = 0;
      base = 0;
      fee_minute = 0;
      generation = 1;
      limit = limit;
      brought = 0;
      active_coll = 0;
      active_debt = 0;
      default_coll = 0;
      default_debt = 0;
      reserve = 0;
      surplus = 0;
      fee_coll = 0;
      fee_lusd = 0;
      sum_coll = 0;
      sum_debt = 0;
      stakes = 0;
      snap_stakes = 0;
      snap_coll = 0;
      p = P_OPENING;
      scale = 0;
      epoch = 0;
      sum = 0;
      total = 0;
      pool_coll = 0;
      wallets = [];
      troves = [];
      surplus_rows = [];
      finished = [];
      deposits = [];
      clients = [];
    }

abbrev pub opening_image : Image
opening_image = opening_image_with LIM
