-- Whom one change more moves.
use Rattle.std.proofs.Common.{◌≡◌, ℕ, ◌+◌, ◌<◌, Bool, true, false, not, List, [], ◌∷◌, ◌++◌, length, take, get_or}
use Rattle.std.proofs.Common.{filter, filter_map, refl, sym, ap, ◌∙◌, Some, None, append_assoc, append-nil}
use Rattle.std.proofs.lemmas.List.{take_at, take_more}
use Rattle.std.proofs.lemmas.List.Elements.{filter-append, filter_map-append}
use Rattle.liq_types.specs.declared.events.ListChange.{ListChange}
use Rattle.liq_market.specs.Touching.{is_among, moved, others}

-- ---- one change

pub moves_none :
    (all named : List ℕ) (change : ListChange) → moved change ≡ None
    → all ≡ all ++ others named (change ∷ [])
moves_none all named change is =
    let none : others named (change ∷ []) ≡ [] = rw is refl in
    sym (ap (λ (l : List ℕ). all ++ l) none ∙ append-nil all)

pub moves_named :
    (all named : List ℕ) (change : ListChange) (account : ℕ) → moved change ≡ Some account
    → is_among named account ≡ true → all ≡ all ++ others named (change ∷ [])
moves_named all named change account is there =
    let none : others named (change ∷ []) ≡ [] = rw (is, there) refl in
    sym (ap (λ (l : List ℕ). all ++ l) none ∙ append-nil all)

pub moves_other :
    (all named : List ℕ) (change : ListChange) (account : ℕ) → moved change ≡ Some account
    → is_among named account ≡ false → all ++ account ∷ [] ≡ all ++ others named (change ∷ [])
moves_other all named change account is absent =
    let one : others named (change ∷ []) ≡ account ∷ [] = rw (is, absent) refl in
    ap (λ (l : List ℕ). all ++ l) (sym one)

-- ---- one more

others-more :
    (named : List ℕ) (changes : List ListChange) (change : ListChange)
    → others named (changes ++ change ∷ []) ≡ others named changes ++ others named (change ∷ [])
others-more named changes change =
    let is_other : ℕ → Bool = λ account. not (is_among named account) in
    ap (filter is_other) (filter_map-append moved changes (change ∷ []))
    ∙ filter-append is_other (filter_map moved changes) (filter_map moved (change ∷ []))

pub moves_on :
    (named all new : List ℕ) (n : ℕ) (changes : List ListChange) (k : ℕ) (d : ListChange) → k < length changes
    → all ≡ named ++ others named (take k changes) → n ≡ length named
    → new ≡ all ++ others (take n all) (get_or changes k d ∷ []) → new ≡ named ++ others named (take (k + 1) changes)
moves_on named all new n changes k d low is size made =
    let before = others named (take k changes) in
    let one = get_or changes k d ∷ [] in
    let front : take n all ≡ named = (λ i. take (size i) (is i)) ∙ take_at named before (length named) refl in
    made
    ∙ (λ i. is i ++ others (front i) one)
    ∙ append_assoc named before (others named one)
    ∙ ap (λ (l : List ℕ). named ++ l) (sym (others-more named (take k changes) (get_or changes k d)))
    ∙ ap (λ (l : List ListChange). named ++ others named l) (sym (take_more changes k d low))
