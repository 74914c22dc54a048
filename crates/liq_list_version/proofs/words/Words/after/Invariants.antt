use Rattle.std.proofs.Common.{◌≡◌, List, take}
use Rattle.liq_types.specs.Ranked.{Ranked}
use Rattle.liq_types.specs.Views.{all_followed}
use Rattle.liq_list_version.specs.Words.{seen}
use Rattle.liq_list_version.proofs.words.Words.after.Given as goal

abbrev pub invariant-loop-change : goal.invariant-loop-change
invariant-loop-change l =
    (list : List Ranked) → all_followed (seen list l.fn.self) (take l.change-index l.changes)
    ≡ seen (all_followed (seen list l.fn.self) (take l.change-index l.changes)).list l.words
