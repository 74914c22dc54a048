-- Batches one behind the other, and the views that they make.
use Rattle.std.proofs.Common.{◌≡◌, ℕ, ◌≤◌, List, [], ◌∷◌, ◌++◌, length, ◌⊎◌, inl, inr, refl, sym, ap, ◌∙◌, subst, arith, append-nil}
use Rattle.std.specs.Prelude.{fold}
use Rattle.std.proofs.lemmas.List.{append_assoc, length-append, take-append-le, take_all}
use Rattle.std.proofs.lemmas.List.Sums.{fold-append}
use Rattle.liq_types.specs.declared.events.ListChange.{ListChange}
use Rattle.liq_types.specs.Ranked.{IsAscending}
use Rattle.liq_types.specs.State.{State}
use Rattle.liq_types.specs.Views.{View, all_followed}
use Rattle.liq_list_changes.proofs.Following.{view_again, view_ascends}
use Rattle.liq_rule_step.specs.History.{Entry, state_after}
use Rattle.liq_rule_step.specs.View.{view_of, view_after}
use Rattle.liq_list_version.specs.Versions.{Numbered, empty_version}
use Rattle.liq_views.specs.Batches.{Given, version_after, with_batch, last_from}
use Rattle.liq_book.specs.Opened.{IsVersionOf}
use Rattle.liq_book.specs.Publishing.{AreViews}

-- ---- the version of batches

abbrev pub seen_after : List Given → View
seen_after batches = (version_after batches).view

one_more : (batches : List Given) (b : Given) → seen_after (batches ++ b ∷ [])
    ≡ all_followed (seen_after batches) b.changes
one_more batches b = ap (λ (v : Numbered). v.view) (fold-append with_batch empty_version batches (b ∷ []))

-- its number is that of the last one
number_more : (batches : List Given) (b : Given) → (version_after (batches ++ b ∷ [])).number ≡ b.number
number_more batches b = ap (λ (v : Numbered). v.number) (fold-append with_batch empty_version batches (b ∷ []))

all_ascend : (v : Numbered) (batches : List Given) → IsAscending v.view.list
    → IsAscending (fold with_batch v batches).view.list
all_ascend v [] h = h
all_ascend v (b ∷ bs) h = all_ascend (with_batch v b) bs (view_ascends v.view b.changes h)

-- a batch that waits may go out again with what is told then
pub folds_again : (batches : List Given) (changes : List ListChange) (number : ℕ) (now : View)
    → all_followed (seen_after batches) changes ≡ now
    → all_followed (seen_after (batches ++ record { changes = changes; number = number } ∷ [])) changes ≡ now
folds_again batches changes number now h =
    let twice : all_followed (all_followed (seen_after batches) changes) (changes ++ [])
    ≡ all_followed (seen_after batches) (changes ++ []) =
    view_again (seen_after batches) changes [] (all_ascend empty_version batches tt) in
    ap (λ (v : View). all_followed v changes) (one_more batches (record { changes = changes; number = number }))
    ∙ subst (λ (cs : List ListChange). all_followed (all_followed (seen_after batches) changes) cs
    ≡ all_followed (seen_after batches) cs) (append-nil changes) twice
    ∙ h

-- and when it has gone out there is nothing left to tell
pub folds_out : (batches : List Given) (changes : List ListChange) (number : ℕ) (now : View)
    → all_followed (seen_after batches) changes ≡ now
    → all_followed (seen_after (batches ++ record { changes = changes; number = number } ∷ [])) [] ≡ now
folds_out batches changes number now h = one_more batches (record { changes = changes; number = number }) ∙ h

-- further changes lead on
pub folds_on : (batches : List Given) (changes more : List ListChange) (then now : View)
    → all_followed (seen_after batches) changes ≡ then → all_followed then more ≡ now
    → all_followed (seen_after batches) (changes ++ more) ≡ now
folds_on batches changes more then now h on = fold-append _ (seen_after batches) changes more
    ∙ ap (λ (v : View). all_followed v more) h ∙ on

-- ---- each batch

-- what is in a list with one more behind it is in the list, or is that one
split_last : {X : Type 0} (xs : List X) (y : X) (before after : List X) (x : X) → xs ++ y ∷ [] ≡ before ++ x ∷ after
    → ((before ≡ xs) × (x ≡ y)) ⊎ ((more : List X) × (xs ≡ before ++ x ∷ more))
split_last [] y [] after x h = inl (refl, cc (sym h))
split_last [] y (z ∷ before) after x h = absurd (none before x after (cc (h))) where
  none : {X : Type 0} (before : List X) (x : X) (after : List X) → [] ≡ before ++ x ∷ after → ⊥
  none [] x after h = cc
  none (z ∷ before) x after h = cc
split_last (w ∷ xs) y [] after x h = inr (xs, cc (h))
split_last (w ∷ xs) y (z ∷ before) after x h = elim (split_last xs y before after x (cc (h))) [
  | inl last ↦ inl (cc (h, last.0), last.1)
  | inr more ↦ inr (more.0, cc (h, more.1))
]

pub views_grow : (base : State) (entries : List Entry) (e : Entry) (batches : List Given)
    → AreViews base entries batches → AreViews base (entries ++ e ∷ []) batches
views_grow base entries e batches h before after b is =
    let here = h before after b is in (
      omega (arith, here.0, length-append entries (e ∷ [])),
      here.1 ∙ ap (λ (es : List Entry). view_of (state_after base es))
          (sym (take-append-le b.number entries (e ∷ []) here.0)),
    )

pub views_with : (base : State) (entries : List Entry) (batches : List Given) (changes : List ListChange)
    → all_followed (seen_after batches) changes ≡ view_of (state_after base entries)
    → AreViews base entries batches
    → AreViews base entries (batches ++ record { changes = changes; number = length entries } ∷ [])
views_with base entries batches changes folds h before after b is =
    elim (split_last batches (record { changes = changes; number = length entries }) before after b is) [
      | inl last ↦ subst (λ (c : Given). (c.number ≤ length entries)
          × (seen_after (before ++ c ∷ []) ≡ view_after base entries c.number)) (sym last.1) (
            omega arith,
            ap (λ (bs : List Given).
                seen_after (bs ++ record { changes = changes; number = length entries } ∷ [])) last.0
                ∙ one_more batches (record { changes = changes; number = length entries })
                ∙ folds
                ∙ ap (λ (es : List Entry). view_of (state_after base es)) (sym (take_all (length entries) entries
                (omega arith))),
          )
      | inr more ↦ h before more.0 b more.1
    ]

pub views_none : (base : State) (entries : List Entry) → AreViews base entries []
views_none base entries [] after b is = absurd cc
views_none base entries (c ∷ before) after b is = absurd cc

-- ---- the last batch

along : (before : List Given) (b : Given) (batches : List Given) → (before ++ b ∷ []) ++ batches ≡ before ++ b ∷ batches
along before b batches = append_assoc before (b ∷ []) batches

low_from : (base : State) (entries : List Entry) (before : List Given) (n : ℕ) (batches : List Given)
    → n ≤ length entries → AreViews base entries (before ++ batches) → last_from n batches ≤ length entries
low_from base entries before n [] low h = low
low_from base entries before n (b ∷ bs) low h =
    low_from base entries (before ++ b ∷ []) b.number bs (h before bs b refl).0 (subst (AreViews base entries)
    (sym (along before b bs)) h)

-- no number is above that of the entries
pub last_low : (base : State) (entries : List Entry) (batches : List Given) → AreViews base entries batches
    → last_from 0 batches ≤ length entries
last_low base entries batches h = low_from base entries [] 0 batches (omega arith) h

-- batches, the last of which makes the view after some of the entries, under their number
abbrev EndsIn : State → List Entry → List Given → Type 0
EndsIn base entries batches =
    (n : ℕ) × (n ≤ length entries) × (seen_after batches ≡ view_after base entries n)
    × ((version_after batches).number ≡ n)

end_from : (base : State) (entries : List Entry) (before : List Given) (b : Given) (batches : List Given)
    → AreViews base entries (before ++ b ∷ batches) → EndsIn base entries (before ++ b ∷ batches)
end_from base entries before b [] h = let here = h before [] b refl in (b.number, here.0, here.1, number_more before b)
end_from base entries before b (c ∷ bs) h =
    let same = along before b (c ∷ bs) in
    subst (EndsIn base entries) same (end_from base entries (before ++ b ∷ []) c bs (subst (AreViews base entries)
    (sym same) h))

-- while there are no entries all that was published makes the view of the base
pub view_at_first : (base : State) (b : Given) (batches : List Given) → AreViews base [] (b ∷ batches)
    → seen_after (b ∷ batches) ≡ view_of (state_after base [])
view_at_first base b batches h =
    let last = end_from base [] [] b batches h in
    let none : last.0 ≡ 0 = omega (arith, last.1) in
    last.2 ∙ ap (λ n. view_after base [] n) none

-- ---- what a reader has seen

-- some batches make a version of the history
some_version : (base : State) (entries : List Entry) (b : Given) (batches : List Given)
    → AreViews base entries (b ∷ batches) → IsVersionOf base entries (version_after (b ∷ batches))
some_version base entries b batches h =
    let last = end_from base entries [] b batches h in
    (rw last.3 last.1, rw last.3 last.2)

-- so do those with which they begin
views_front : (base : State) (entries : List Entry) (front rest : List Given) → AreViews base entries (front ++ rest)
    → AreViews base entries front
views_front base entries front rest h before after b is =
    h before (after ++ rest) b (ap (λ (bs : List Given). bs ++ rest) is ∙ append_assoc before (b ∷ after) rest)

pub front_version : (base : State) (entries : List Entry) (all : List Given) (b : Given) (seen rest : List Given)
    → all ≡ (b ∷ seen) ++ rest → AreViews base entries all
    → IsVersionOf base entries (version_after (b ∷ seen))
front_version base entries all b seen rest is h =
    some_version base entries b seen (views_front base entries (b ∷ seen) rest (subst (AreViews base entries) is h))

pub seen_version : (base : State) (entries : List Entry) (all seen rest : List Given) → all ≡ seen ++ rest
    → AreViews base entries all
    → (seen ≡ []) ⊎ IsVersionOf base entries (version_after seen)
seen_version base entries all [] rest is h = inl refl
seen_version base entries all (b ∷ seen) rest is h = inr (front_version base entries all b seen rest is h)
