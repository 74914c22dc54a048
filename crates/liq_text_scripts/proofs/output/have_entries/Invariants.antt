use Rattle.std.proofs.Common.{◌≡◌, ◌<◌, ℕ, false, length, get_or, take}
use Rattle.std.specs.Prelude.{◌==◌}
use Rattle.std.specs.List.{list_any}
use Rattle.liq_text_scripts.proofs.output.have_entries.Given as goal

-- whose the first entries are
abbrev pub invariant-loop-entry : goal.invariant-loop-entry
invariant-loop-entry g l =
    (length l.has_entries ≡ 256)
    × ((session : ℕ) → session < 256 → get_or l.has_entries session false
    ≡ list_any (λ e. (g.E.ShownEntry.entry e).session == session) (take l.entry-index l.entries))
