-- Where an account is in the list, and what its neighbours are.
use Rattle.std.proofs.Common.{◌≡◌, ℕ, ℤ, suc, ◌+◌, ◌-◌, ◌<◌, Bool, true, false, cond, List, [], ◌∷◌, ◌++◌, length, get_or, map, refl, sym, ap, ◌∙◌, subst, Some, None, Option, inl, inr, arith, append-nil}
use Rattle.std.specs.Prelude.{◌≢◌, ◌⊎◌, ◌==◌, not, nat_lt, reverse, filter, find, position, option_map, IsSome, is_some}
use Rattle.std.specs.List.{position_or_len}
use Rattle.std.proofs.lemmas.Bool.Decides.{nat_tests}
use Rattle.std.proofs.lemmas.List.{reverse-append, get_or-reverse, length-append, length-reverse, append_assoc}
use Rattle.liq_types.specs.Ranked.{Ranked, key_in, without_ranked, before_in, after_account, first_of}
use Rattle.liq_types.proofs.RankedLists.{all_kept}
use Rattle.liq_order.specs.Listed.{IsAbsent, AreDistinct}
use Rattle.std.proofs.lemmas.Bool.{eqb-false, ne_eqb, eqb-true}

abbrev pub has : ℕ → Ranked → Bool
has account = λ (e : Ranked). e.1 == account

-- the list around an account's entry
pub record IsAt (list : List Ranked) (account index : ℕ) : Type 0 where
  pub front : List Ranked
  pub entry : Ranked
  pub back : List Ranked
  pub whole : list ≡ front ++ entry ∷ back
  pub place : length front ≡ index
  pub same : (entry.1 == account) ≡ true
  pub first : IsAbsent account front

-- ---- an account is absent, or at some index

split_first : (e : Ranked) (es : List Ranked) (account : ℕ) (b : Bool) → (e.1 == account) ≡ b → IsAbsent account es
    ⊎ ((i : ℕ) × IsAt es account i) → IsAbsent account (e ∷ es) ⊎ ((i : ℕ) × IsAt (e ∷ es) account i)
split_first e es account true test more = inr (
  0,
  record {
    front = [];
    entry = e;
    back = es;
    whole = refl;
    place = refl;
    same = test;
    first = tt;
  },
)
split_first e es account false test (inl absent) = inl (eqb-false e.1 account test, absent)
split_first e es account false test (inr (i, s)) =
    inr (
      suc i,
      record {
        front = e ∷ s.front;
        entry = s.entry;
        back = s.back;
        whole = ap (λ l. e ∷ l) s.whole;
        place = ap (λ k. suc k) s.place;
        same = s.same;
        first = (eqb-false e.1 account test, s.first);
      },
    )

pub split : (list : List Ranked) (account : ℕ) → IsAbsent account list ⊎ ((i : ℕ) × IsAt list account i)
split [] account = inl tt
split (e ∷ es) account = split_first e es account (e.1 == account) refl (split es account)

-- ---- what a search finds

skipped : (account : ℕ) (front rest : List Ranked) → IsAbsent account front
    → position_or_len (has account) (front ++ rest) ≡ length front + position_or_len (has account) rest
skipped account [] rest h = omega arith
skipped account (e ∷ es) rest h =
    ap (λ b. cond (not b) (1 + position_or_len (has account) (es ++ rest)) 0) (ne_eqb e.1 account h.0)
    ∙ omega (arith, skipped account es rest h.1)

within : (n len : ℕ) → n < len → cond (nat_lt n len) (Some n) None ≡ Some n
within n len h = grind (arith, nat_tests)

past : (n len : ℕ) → n ≡ len → cond (nat_lt n len) (Some n) None ≡ None
past n len h = grind (arith, nat_tests)

position_absent : (list : List Ranked) (account : ℕ) → IsAbsent account list → position (has account) list ≡ None
position_absent list account h =
    let all = skipped account list [] h in
    let whole = ap (λ l. position_or_len (has account) l) (append-nil list) in
    past (position_or_len (has account) list) (length list) (omega (arith, all, whole))

position_at : (list : List Ranked) (account index : ℕ) → IsAt list account index → position (has account) list
    ≡ Some index
position_at list account index s =
    let front = skipped account s.front (s.entry ∷ s.back) s.first in
    let here : position_or_len (has account) (s.entry ∷ s.back) ≡ 0 =
    ap (λ b. cond (not b) (1 + position_or_len (has account) s.back) 0) s.same in
    let at : position_or_len (has account) list ≡ index = ap (λ l. position_or_len (has account) l) s.whole
    ∙ omega (arith, front, here, s.place) in
    let long : length list ≡ length s.front + length (s.entry ∷ s.back) = ap (λ l. length l) s.whole
    ∙ length-append s.front (s.entry ∷ s.back) in
    within (position_or_len (has account) list) (length list) (omega (arith, at, long, s.place)) ∙ ap (λ k. Some k) at

pub key_absent : (list : List Ranked) (account : ℕ) → IsAbsent account list → key_in list account ≡ None
key_absent [] account h = refl
key_absent (e ∷ es) account h =
    ap (λ b. option_map (λ (f : Ranked). f.0) (cond b (Some e) (find (has account) es))) (ne_eqb e.1 account h.0)
    ∙ key_absent es account h.1

pub key_front : (account : ℕ) (front back : List Ranked) (entry : Ranked) → IsAbsent account front
    → (entry.1 == account) ≡ true → key_in (front ++ entry ∷ back) account ≡ Some entry.0
key_front account [] back entry h same =
    ap (λ b. option_map (λ (f : Ranked). f.0) (cond b (Some entry) (find (has account) back))) same
key_front account (e ∷ es) back entry h same =
    ap (λ b. option_map (λ (f : Ranked). f.0) (cond b (Some e) (find (has account) (es ++ entry ∷ back))))
    (ne_eqb e.1 account h.0) ∙ key_front account es back entry h.1 same

key_at : (list : List Ranked) (account index : ℕ) (s : IsAt list account index) → key_in list account ≡ Some s.entry.0
key_at list account index s = ap (λ l. key_in l account) s.whole
    ∙ key_front account s.front s.back s.entry s.first s.same

-- ---- what is known by what was found

pub found : (list : List Ranked) (account index : ℕ) → Some index ≡ position (has account) list
    → IsAt list account index
found list account index h = elim (split list account) [
  | inl absent ↦ absurd (none (h ∙ position_absent list account absent))
  | inr s ↦ subst (IsAt list account) (sym (one (h ∙ position_at list account s.0 s.1))) s.1
] where
  none : {i : ℕ} → Some i ≡ None → ⊥
  none e = cc

  one : {i j : ℕ} → Some i ≡ Some j → i ≡ j
  one e = cc

pub absent_from_key : (list : List Ranked) (account : ℕ) → key_in list account ≡ None → IsAbsent account list
absent_from_key list account h = elim (split list account) [
  | inl absent ↦ absent
  | inr s ↦ absurd (none (sym (key_at list account s.0 s.1) ∙ h))
] where
  none : {k : ℤ} → Some k ≡ None → ⊥
  none e = cc

pub not_found : (list : List Ranked) (account : ℕ) → None ≡ position (has account) list
    → IsSome (key_in list account) → ⊥
not_found list account h some = elim (split list account) [
  | inl absent ↦ nothing (key_absent list account absent) some
  | inr s ↦ none (h ∙ position_at list account s.0 s.1)
] where
  none : {i : ℕ} → None ≡ Some i → ⊥
  none e = cc

  nothing : {o : Option ℤ} → o ≡ None → is_some o ≡ true → ⊥
  nothing e s = cc

-- ---- without an account

pub absent_middle : (account : ℕ) (front back : List Ranked) (e : Ranked) → IsAbsent account (front ++ e ∷ back)
    → e.1 ≢ account
absent_middle account [] back e h = h.0
absent_middle account (f ∷ fs) back e h = absent_middle account fs back e h.1

-- an entry's account is neither before it nor behind it
pub distinct_front : (front back : List Ranked) (e : Ranked) → AreDistinct (front ++ e ∷ back) → IsAbsent e.1 front
distinct_front [] back e h = tt
distinct_front (f ∷ fs) back e h = ((λ same. absent_middle f.1 fs back e h.0 (sym same)), distinct_front fs back e h.1)

pub distinct_back : (front back : List Ranked) (e : Ranked) → AreDistinct (front ++ e ∷ back) → IsAbsent e.1 back
distinct_back [] back e h = h.0
distinct_back (f ∷ fs) back e h = distinct_back fs back e h.1

pub absent_back : (list : List Ranked) (account index : ℕ) (s : IsAt list account index) → AreDistinct list
    → IsAbsent account s.back
absent_back list account index s h =
    subst (λ a. IsAbsent a s.back) (eqb-true s.entry.1 account s.same) (distinct_back s.front s.back s.entry
    (subst AreDistinct s.whole h))

pub without_absent : (list : List Ranked) (account : ℕ) → IsAbsent account list → without_ranked list account ≡ list
without_absent [] account h = refl
without_absent (e ∷ es) account h =
    ap (λ b. cond (not b) (e ∷ without_ranked es account) (without_ranked es account)) (ne_eqb e.1 account h.0)
    ∙ ap (λ l. e ∷ l) (without_absent es account h.1)

pub distinct_kept : (q : Ranked → Bool) (list : List Ranked) → AreDistinct list → AreDistinct (filter q list)
distinct_kept q [] h = tt
distinct_kept q (e ∷ es) h = by (q e) (distinct_kept q es h.1) where
  by : (b : Bool) → AreDistinct (filter q es) → AreDistinct (cond b (e ∷ filter q es) (filter q es))
  by true more = (all_kept (λ (f : Ranked). f.1 ≢ e.1) q es h.0, more)
  by false more = more

-- ---- the account before

abbrev accounts : List Ranked → List ℕ
accounts list = map (λ (e : Ranked). e.1) list

pub reverse_first : (e : Ranked) (es : List Ranked) → reverse (e ∷ es) ≡ reverse es ++ e ∷ []
reverse_first e es = reverse-append (e ∷ []) es

pub absent_push : (list : List Ranked) (e : Ranked) (account : ℕ) → IsAbsent account list → e.1 ≢ account
    → IsAbsent account (list ++ e ∷ [])
absent_push [] e account h n = (n, tt)
absent_push (f ∷ fs) e account h n = (h.0, absent_push fs e account h.1 n)

pub absent_reverse : (list : List Ranked) (account : ℕ) → IsAbsent account list → IsAbsent account (reverse list)
absent_reverse [] account h = tt
absent_reverse (e ∷ es) account h = subst (IsAbsent account) (sym (reverse_first e es))
    (absent_push (reverse es) e account (absent_reverse es account h.1) h.0)

after_passed : (list rest : List Ranked) (e : Ranked) (account : ℕ) → IsAbsent account list → (e.1 == account) ≡ true
    → after_account (accounts (list ++ e ∷ rest)) account ≡ first_of (accounts rest)
after_passed [] rest e account h same =
    ap (λ b. cond b (first_of (accounts rest)) (after_account (accounts rest) account)) same
after_passed (f ∷ fs) rest e account h same =
    ap (λ b. cond b (first_of (accounts (fs ++ e ∷ rest))) (after_account (accounts (fs ++ e ∷ rest)) account))
    (ne_eqb f.1 account h.0)
    ∙ after_passed fs rest e account h.1 same

pub before_found : (list : List Ranked) (account index : ℕ) (s : IsAt list account index) → AreDistinct list
    → before_in list account ≡ first_of (accounts (reverse s.front))
before_found list account index s h =
    let back = absent_reverse s.back account (absent_back list account index s h) in
    let turned : reverse (s.front ++ s.entry ∷ s.back) ≡ reverse s.back ++ s.entry ∷ reverse s.front =
    reverse-append s.front (s.entry ∷ s.back) ∙ ap (λ l. l ++ reverse s.front) (reverse_first s.entry s.back)
    ∙ append_assoc (reverse s.back) (s.entry ∷ []) (reverse s.front) in
    ap (λ l. before_in l account) s.whole ∙ ap (λ l. after_account (accounts l) account) turned
    ∙ after_passed (reverse s.back) (reverse s.front) s.entry account back s.same

first_is : (list : List Ranked) (d : Ranked) → 0 < length list → first_of (accounts list) ≡ Some (get_or list 0 d).1
first_is [] d h = absurd (omega (arith, h))
first_is (e ∷ es) d h = refl

last_is : (list : List Ranked) (d : Ranked) → 0 < length list → first_of (accounts (reverse list))
    ≡ Some (get_or list (length list - 1) d).1
last_is list d h =
    let long : 0 < length (reverse list) = omega (arith, h, length-reverse list) in
    let same : length list - 1 - 0 ≡ length list - 1 = omega arith in
    first_is (reverse list) d long ∙ ap (λ (e : Ranked). Some e.1) (get_or-reverse list 0 d h
    ∙ ap (λ k. get_or list k d) same)
