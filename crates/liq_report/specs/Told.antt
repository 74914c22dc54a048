-- The totals that a reply tells. Any other reply tells zeros.
use Rattle.std.specs.Prelude.{ℕ, List, [], ◌∷◌}
use Rattle.liq_types.specs.declared.replies.Info.TheVariants as info
use Rattle.liq_types.specs.declared.replies.Reply.{Reply}
use Rattle.liq_types.specs.declared.replies.Reply.TheVariants.{Told}

-- the ten totals
abbrev pub system_words : Reply → List ℕ
system_words (Told (info.System words)) = words
system_words _ = 0 ∷ 0 ∷ 0 ∷ 0 ∷ 0 ∷ 0 ∷ 0 ∷ 0 ∷ 0 ∷ 0 ∷ []
