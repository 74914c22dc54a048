-- Whose hint the list is asked with, and what an exact one is.
use Rattle.std.specs.Prelude.{◌≡◌, List, Option, Some, None}
use Rattle.std.specs.Option.{IsSomeAnd}
use Rattle.liq_types.specs.declared.hints.Hint.{Hint}
use Rattle.liq_types.specs.declared.hints.HintWords.{HintWords}
use Rattle.liq_types.specs.Ranked.{Ranked, IsTight, without_ranked}
use Rattle.liq_core.specs.Steps.{used_hint}
use Rattle.liq_rule_step.specs.Verbs.{no_hint}
use Rattle.liq_core_hinted.specs.declared.hints.Hints.{Hints}

-- the exact one, where it is known; else the command's own words, where one of them is there;
-- else the given one
abbrev pub hint_or : Option Hint → HintWords → Hint → Hint
hint_or (Some exact) words given = exact
hint_or None words given = used_hint words given

abbrev pub hint_used : Hints → Hint
hint_used hints = hint_or hints.exact hints.words hints.given

-- nobody but the guide says anything
abbrev pub guides_alone : Option Hint → Hints
guides_alone exact =
    record {
      exact = exact;
      words = no_hint;
      given = record { prev = None; next = None; version = 0 };
    }

-- between whom an entry stands in the list, itself aside; nothing, where there is no entry
abbrev pub IsExact : List Ranked → Option Ranked → Option Hint → Type 0
IsExact list None exact = exact ≡ None
IsExact list (Some e) exact =
    IsSomeAnd exact (λ h. IsTight (without_ranked list e.1) e h.prev h.next)
