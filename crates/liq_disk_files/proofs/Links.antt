-- A link that was followed.
use Rattle.std.specs.Prelude.{◌≡◌, ℕ, List, ◌∷◌, Option, Some}
use Rattle.std.proofs.Common.{subst, sym, ◌∙◌, ap}
use Rattle.liq_disk_files.specs.Asked.{Asked, Saw, Read}
use Rattle.liq_disk_files.specs.Opened.{IsUnchanged, Leads, along}
use Rattle.liq_disk_files.specs.Taking.{MayBeFollowed}
use Rattle.liq_disk_files.specs.declared.calls.Seen.{Seen}

pub saw : (path text : List ℕ) (answer : Option Seen) (seen : Seen) (before after : List Asked)
    → after ≡ Saw path answer ∷ before → path ≡ text → answer ≡ Some seen → after ≡ Saw text (Some seen) ∷ before
saw path text answer seen before after is p a =
    is ∙ ap (λ (x : List ℕ). Saw x answer ∷ before) p ∙ ap (λ (x : Option Seen). Saw text x ∷ before) a

pub read : (path text : List ℕ) (answer : Option (List ℕ)) (target : List ℕ) (before after : List Asked)
    → after ≡ Read path answer ∷ before → path ≡ text → answer ≡ Some target → after ≡ Read text (Some target) ∷ before
read path text answer target before after is p a =
    is ∙ ap (λ (x : List ℕ). Read x answer ∷ before) p ∙ ap (λ (x : Option (List ℕ)). Read text x ∷ before) a

pub followed : (user : ℕ) (text link target : List ℕ) (calls first second third : List Asked) (seen again : Seen)
    → Leads user text link calls → MayBeFollowed user seen.found.owner → IsUnchanged seen again
    → first ≡ Saw link (Some seen) ∷ calls → second ≡ Read link (Some target) ∷ first
    → third ≡ Saw link (Some again) ∷ second → Leads user text target third
followed user text link target calls first second third seen again leads may same e1 e2 e3 =
    subst (λ (c : List Asked). Leads user text target c) (sym (e3 ∙ ap (λ (c : List Asked). Saw link (Some again) ∷ c)
    (e2 ∙ ap (λ (c : List Asked). Read link (Some target) ∷ c) e1))) (along leads may same)
