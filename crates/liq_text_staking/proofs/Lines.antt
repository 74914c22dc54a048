-- Replies, one behind the other.
use Rattle.std.proofs.Common.{◌≡◌, ℕ, List, [], ◌∷◌, ◌++◌, sym, ap, ◌∙◌, append_assoc, append-nil}
use Rattle.std.specs.List.{flat_map}
use Rattle.liq_text_staking.specs.Staked.{reply_lines}

pub reply_more : (replies : List (List ℕ)) (reply : List ℕ) → reply_lines (replies ++ reply ∷ []) ≡ reply_lines replies
    ++ (reply ++ 10 ∷ [])
reply_more [] reply = append-nil (reply ++ 10 ∷ [])
reply_more (r ∷ rs) reply =
    ap (λ (t : List ℕ). (r ++ 10 ∷ []) ++ t) (reply_more rs reply)
    ∙ sym (append_assoc (r ++ 10 ∷ []) (reply_lines rs) (reply ++ 10 ∷ []))

-- a line for each of a list: the next of those that are left
pub row_next : (f : ℕ → List ℕ) (out next whole : List ℕ) (x : ℕ) (left rest : List ℕ) → left ≡ x ∷ rest
    → next ≡ out ++ f x → out ++ flat_map f left ≡ whole → next ++ flat_map f rest ≡ whole
row_next f out next whole x left rest is put so =
    ap (λ (t : List ℕ). t ++ flat_map f rest) put
    ∙ append_assoc out (f x) (flat_map f rest)
    ∙ ap (λ (t : List ℕ). out ++ flat_map f t) (sym is)
    ∙ so

-- no account is left: the lines are whole
pub row_last : (f : ℕ → List ℕ) (out whole left : List ℕ) → left ≡ [] → out ++ flat_map f left ≡ whole → out ≡ whole
row_last f out whole left none so =
    sym (append-nil out) ∙ ap (λ (t : List ℕ). out ++ flat_map f t) (sym none) ∙ so
