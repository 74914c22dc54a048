-- What the protocol gives the accounts that were paid, one behind the other.
use Rattle.std.proofs.Common.{◌≡◌, ℕ, List, [], ◌∷◌, ◌++◌, map, sym, ap, subst, ◌∙◌, append_assoc, append-nil}
use Rattle.std.specs.List.{AllByRecursion}
use Rattle.std.specs.Map.{keys_of}
use Rattle.std.proofs.lemmas.List.{map-append}
use Rattle.liq_audit.specs.declared.rows.EngineRow.{EngineRow}
use Rattle.liq_audit.specs.Auditable.{accounts_of}
use Rattle.liq_core.specs.Core.{Core}
use Rattle.liq_text_audit.specs.Engine.{Pays}

-- the next of those that are left
pub pays_next : (core : Core) (left rest : List (ℕ × ℕ)) (x : ℕ × ℕ) → left ≡ x ∷ rest → AllByRecursion (Pays core) left
    → Pays core x × AllByRecursion (Pays core) rest
pays_next core left rest x is pays = subst (λ (l : List (ℕ × ℕ)). AllByRecursion (Pays core) l) is pays

pub rows_next : (f : ℕ × ℕ → EngineRow) (out new whole : List EngineRow) (row : EngineRow) (left rest : List (ℕ × ℕ))
    (x : ℕ × ℕ) → left ≡ x ∷ rest → new ≡ out ++ row ∷ [] → row ≡ f x → out ++ map f left ≡ whole
    → new ++ map f rest ≡ whole
rows_next f out new whole row left rest x is put row_is so =
    ap (λ (rows : List EngineRow). rows ++ map f rest) put
    ∙ append_assoc out (row ∷ []) (map f rest)
    ∙ ap (λ (r : EngineRow). out ++ r ∷ map f rest) row_is
    ∙ ap (λ (l : List (ℕ × ℕ)). out ++ map f l) (sym is)
    ∙ so

pub accounts_next : (out new : List EngineRow) (whole : List ℕ) (row : EngineRow) (left rest : List (ℕ × ℕ)) (x : ℕ × ℕ)
    → left ≡ x ∷ rest → new ≡ out ++ row ∷ [] → row.account ≡ x.0 → accounts_of out ++ keys_of left ≡ whole
    → accounts_of new ++ keys_of rest ≡ whole
accounts_next out new whole row left rest x is put account_is so =
    ap (λ (rows : List EngineRow). accounts_of rows ++ keys_of rest) put
    ∙ ap (λ (l : List ℕ). l ++ keys_of rest) (map-append (λ (e : EngineRow). e.account) out (row ∷ []))
    ∙ append_assoc (accounts_of out) (row.account ∷ []) (keys_of rest)
    ∙ ap (λ n. accounts_of out ++ n ∷ keys_of rest) account_is
    ∙ ap (λ (l : List (ℕ × ℕ)). accounts_of out ++ keys_of l) (sym is)
    ∙ so

-- no account is left: the rows are whole
pub rows_last : (f : ℕ × ℕ → EngineRow) (out whole : List EngineRow) (left : List (ℕ × ℕ)) → left ≡ []
    → out ++ map f left ≡ whole → out ≡ whole
rows_last f out whole left none so = sym (append-nil out) ∙ ap (λ (l : List (ℕ × ℕ)). out ++ map f l) (sym none) ∙ so

pub accounts_last : (out : List EngineRow) (whole : List ℕ) (left : List (ℕ × ℕ)) → left ≡ []
    → accounts_of out ++ keys_of left ≡ whole → accounts_of out ≡ whole
accounts_last out whole left none so = sym (append-nil (accounts_of out))
    ∙ ap (λ (l : List (ℕ × ℕ)). accounts_of out ++ keys_of l) (sym none) ∙ so
