-- How a guide stands to the list of a protocol.
use Rattle.std.specs.Prelude.{◌≡◌, false, List}
use Rattle.liq_types.specs.Ranked.{Ranked}
use Rattle.liq_list_index.specs.Followed.{all_listed}
use Rattle.liq_core_hinted.specs.declared.list_guide.ListGuide.{ListGuide}

-- It has the list with the changes that it has followed ahead of the protocol, unless it is stale.
abbrev pub IsGuideOf : List Ranked → ListGuide → Type 0
IsGuideOf list g = g.is_stale ≡ false → g.guide ≡ all_listed list g.ahead.items
