-- The numbers at the keys of pages, when a page is added, filled or written.
use Rattle.std.proofs.Common.{◌≡◌, ◌≢◌, ℕ, zero, suc, ◌/◌, ◌%◌, ◌<◌, ◌≤◌, List, [], ◌∷◌, ◌++◌, refl, ap, sym, ◌∙◌, subst, length, get_or, set, map, replicate, arith, inl, inr, ◌⊎◌}
use Rattle.std.proofs.Math.Nat.{div-add-mod}
use Rattle.std.proofs.lemmas.Bool.{cases_eq, cases_lt}
use Rattle.std.proofs.lemmas.List.{get_or-set_same, get_or-set_other, get_or-map, get_or_past, length-map, map_push}
use Rattle.std.proofs.lemmas.Nat.{mod_below}
use Rattle.liq_tables.specs.Pages.{place, HasPage}
use Rattle.liq_tables.specs.declared.places.TheConstants.{KEYS, NONE}

-- an empty page has no numbers
added_empty : (pages : List (List ℕ)) (i : ℕ) → get_or (pages ++ [] ∷ []) i [] ≡ get_or pages i []
added_empty [] zero = refl
added_empty [] (suc i) = refl
added_empty (p ∷ ps) zero = refl
added_empty (p ∷ ps) (suc i) = added_empty ps i

pub place-added : (pages : List (List ℕ)) (key : ℕ) → place (pages ++ [] ∷ []) key ≡ place pages key
unfolding place
place-added pages key = ap (λ page. get_or page (key % KEYS) NONE) (added_empty pages (key / KEYS))

-- two keys with one page and one place in it are one
pub same_key : (j k : ℕ) → j / KEYS ≡ k / KEYS → j % KEYS ≡ k % KEYS → j ≡ k
same_key j k page here = omega (arith, page, here, div-add-mod j KEYS, div-add-mod k KEYS)

pub page_there : (pages : List (List ℕ)) (key : ℕ) → HasPage pages key → key / KEYS < length pages
page_there pages key has = by (cases_lt (key / KEYS) (length pages)) where
  by : ((key / KEYS < length pages) ⊎ (length pages ≤ key / KEYS)) → key / KEYS < length pages
  by (inl less) = less
  by (inr past) = let none = ap length (get_or_past pages (key / KEYS) [] past) in absurd (omega (arith, none, has))

module _ (pages : List (List ℕ)) (i : ℕ) (page : List ℕ) where
  -- a key of another page keeps its number
  elsewhere : (key : ℕ) → key / KEYS ≢ i → place (set pages i page) key ≡ place pages key
  unfolding place
  elsewhere key apart = ap (λ p. get_or p (key % KEYS) NONE) (get_or-set_other pages i (key / KEYS) page [] apart)

  -- a key of this page has its number there
  here : i < length pages → (key : ℕ) → key / KEYS ≡ i → place (set pages i page) key ≡ get_or page (key % KEYS) NONE
  unfolding place
  here there key same =
      ap (λ j. get_or (get_or (set pages i page) j []) (key % KEYS) NONE) same
      ∙ ap (λ p. get_or p (key % KEYS) NONE) (get_or-set_same pages i page [] there)

  was : (key : ℕ) → key / KEYS ≡ i → place pages key ≡ get_or (get_or pages i []) (key % KEYS) NONE
  unfolding place
  was key same = ap (λ j. get_or (get_or pages j []) (key % KEYS) NONE) same

  -- a page whose numbers stay
  pub place-kept : i < length pages → ((n : ℕ) → get_or page n NONE ≡ get_or (get_or pages i []) n NONE) → (key : ℕ)
      → place (set pages i page) key ≡ place pages key
  place-kept there kept key = by (cases_eq (key / KEYS) i) where
    by : ((key / KEYS ≡ i) ⊎ (key / KEYS ≢ i)) → place (set pages i page) key ≡ place pages key
    by (inl same) = here there key same ∙ kept (key % KEYS) ∙ sym (was key same)
    by (inr apart) = elsewhere key apart

-- pages after a number was written
abbrev pub numbered : List (List ℕ) → ℕ → ℕ → List (List ℕ)
numbered pages key number = set pages (key / KEYS) (set (get_or pages (key / KEYS) []) (key % KEYS) number)

pub place-written : (pages : List (List ℕ)) (key number : ℕ) → HasPage pages key → place (numbered pages key number) key
    ≡ number
place-written pages key number has =
    here pages (key / KEYS) (set (get_or pages (key / KEYS) []) (key % KEYS) number) (page_there pages key has) key refl
    ∙ get_or-set_same (get_or pages (key / KEYS) []) (key % KEYS) number NONE has

pub place-other : (pages : List (List ℕ)) (key number : ℕ) → HasPage pages key → (k : ℕ) → k ≢ key
    → place (numbered pages key number) k ≡ place pages k
place-other pages key number has k apart = by (cases_eq (k / KEYS) (key / KEYS)) where
  old : List ℕ
  old = get_or pages (key / KEYS) []

  new : List ℕ
  new = set old (key % KEYS) number

  by : ((k / KEYS ≡ key / KEYS) ⊎ (k / KEYS ≢ key / KEYS)) → place (numbered pages key number) k ≡ place pages k
  by (inl same) =
      here pages (key / KEYS) new (page_there pages key has) k same
      ∙ get_or-set_other old (key % KEYS) (k % KEYS) number NONE (λ e. apart (same_key k key same e))
      ∙ sym (was pages (key / KEYS) new k same)
  by (inr other) = elsewhere pages (key / KEYS) new k other

map_set : {V : Type 0} (f : V → List ℕ) (pages : List V) (i : ℕ) (p : V)
    → map f (set pages i p) ≡ set (map f pages) i (f p)
map_set f [] i p = refl
map_set f (q ∷ qs) zero p = refl
map_set f (q ∷ qs) (suc i) p = ap (λ l. f q ∷ l) (map_set f qs i p)

-- a page that is filled up keeps its numbers
padding : (n k : ℕ) → get_or (replicate n NONE) k NONE ≡ NONE
padding zero k = refl
padding (suc n) zero = refl
padding (suc n) (suc k) = padding n k

pub padded : (page : List ℕ) (n k : ℕ) → get_or (page ++ replicate n NONE) k NONE ≡ get_or page k NONE
padded [] n k = padding n k
padded (x ∷ xs) n zero = refl
padded (x ∷ xs) n (suc k) = padded xs n k

-- pages as they are seen through their elements
module _ {V : Type 0} (f : V → List ℕ) (pages : List V) where
  pub place-past : (key : ℕ) → length pages ≤ key / KEYS → place (map f pages) key ≡ NONE
  unfolding place
  place-past key past =
      ap (λ p. get_or p (key % KEYS) NONE) (get_or_past (map f pages) (key / KEYS) [] (omega (
        arith,
        past,
        length-map pages f,
      )))

  pub place-in : (key : ℕ) (p : V) → key / KEYS < length pages → p ≡ get_or pages (key / KEYS) p
      → place (map f pages) key ≡ get_or (f p) (key % KEYS) NONE
  unfolding place
  place-in key p less read =
      ap (λ l. get_or l (key % KEYS) NONE) (get_or-map f pages (key / KEYS) p [] less ∙ ap f (sym read))

  pub place-pushed : (p : V) → f p ≡ [] → (key : ℕ) → place (map f (pages ++ p ∷ [])) key ≡ place (map f pages) key
  place-pushed p none key =
      ap (λ l. place l key) (map_push f pages p ∙ ap (λ l. map f pages ++ l ∷ []) none) ∙ place-added (map f pages) key

  pub numbered-through : (key number : ℕ) (p q : V) → key / KEYS < length pages → p ≡ get_or pages (key / KEYS) p
      → f q ≡ set (f p) (key % KEYS) number → map f (set pages (key / KEYS) q) ≡ numbered (map f pages) key number
  numbered-through key number p q less read e =
      map_set f pages (key / KEYS) q
      ∙ ap (λ l. set (map f pages) (key / KEYS) l) (e ∙ ap (λ l. set l (key % KEYS) number) (ap f read
      ∙ sym (get_or-map f pages (key / KEYS) p [] less)))

  pub place-filled : (i : ℕ) (p q : V) → i < length pages → p ≡ get_or pages i p
      → ((n : ℕ) → get_or (f q) n NONE ≡ get_or (f p) n NONE) → (key : ℕ) → place (map f (set pages i q)) key
      ≡ place (map f pages) key
  place-filled i p q less read kept key =
      ap (λ l. place l key) (map_set f pages i q)
      ∙ place-kept (map f pages) i (f q) (omega (arith, less, length-map pages f))
      (λ n. kept n ∙ ap (λ l. get_or l n NONE) (ap f read ∙ sym (get_or-map f pages i p [] less))) key

  pub page-filled : (key : ℕ) (q : V) → key / KEYS < length pages → KEYS ≤ length (f q)
      → HasPage (map f (set pages (key / KEYS) q)) key
  page-filled key q less long =
      let page : get_or (map f (set pages (key / KEYS) q)) (key / KEYS) [] ≡ f q =
      ap (λ l. get_or l (key / KEYS) []) (map_set f pages (key / KEYS) q) ∙ get_or-set_same (map f pages) (key / KEYS)
      (f q) [] (omega (arith, less, length-map pages f)) in
      subst (λ (l : List ℕ). key % KEYS < length l) (sym page) (omega (arith, long, mod_below key KEYS (omega arith)))
