-- A redemption on its way along the visited troves.
use Rattle.std.specs.Prelude.{ℕ, Bool, List, [], ◌++◌, unwrap_or, if◌then◌else◌}
use Rattle.liq_redemption.specs.declared.cut.Cut.{Cut}
use Rattle.liq_redemption.specs.declared.walk.Walk.{Walk}
use Rattle.liq_redemption.specs.Redemption.{Visit, cuts, first_net}

-- the cuts so far, and those along the visits that are still ahead
abbrev pub all_cuts : ℕ → Walk → List Visit → List Cut
all_cuts price w ahead = w.cuts ++ cuts price w.troves w.wanted ahead

-- the net debt of the first trove of all
abbrev pub first_net_of : Walk → List Visit → ℕ
first_net_of w ahead = unwrap_or w.first_net (first_net ahead)

-- what is still ahead: nothing, where it does not go on
abbrev pub ahead_where : Bool → List Visit → List Visit
ahead_where on ahead = if on then ahead else []
