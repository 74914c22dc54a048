-- Where accounts stand, and the places beside them, while changes are followed.
use Rattle.std.proofs.Common.{◌≡◌, ℕ, ℤ, Bool, true, false, cond, refl, sym, ap, ◌∙◌, Some, None, Option}
use Rattle.std.proofs.Common.{List, [], subst, Result, Ok, Err}
use Rattle.std.specs.Prelude.{◌==◌, ◌≢◌, not, unwrap_or, is_ok, OnOk, OnErr}
use Rattle.std.specs.Bool.{Decides}
use Rattle.std.specs.Option.{option_eq}
use Rattle.std.specs.Ordering.{is_eq, int_eq}
use Rattle.std.proofs.lemmas.Bool.Decides.{Decides-int_eq}
use Rattle.std.proofs.lemmas.Bool.{eqb-true, eq-eqb}
use Rattle.liq_types.specs.Ranked.{Ranked, rank_order, IsAscending}
use Rattle.liq_types.specs.declared.events.ListChange.{ListChange}
use Rattle.liq_types.specs.Views.{View, all_followed}
use Rattle.liq_list_keys.specs.Parts.{Parts, account_key}
use Rattle.liq_list_keys.specs.AccountKey.{settled_at, side_of}
use Rattle.liq_list_keys.proofs.Moving.{turned}
use Rattle.liq_list_index.specs.Followed.{all_listed}
use Rattle.liq_list_index.specs.Rows.{key_at, next_at, side_at, names, AreAsBefore, AreSettledBeside, is_in, is_key, Follows, HasTried, Holds}
use Rattle.liq_list_index.specs.declared.rows.Rows.{Rows}
use Rattle.liq_list_keys.specs.declared.key_index.AccountKey.{AccountKey}
use Rattle.liq_list_index.proofs.Following.{list_of_views}
use Rattle.liq_list_index.proofs.Holding.{ended, given_up, nothing_given, ready, same_keys, same_sides}

-- ---- made ready

pub prepared : {T E : Type 0} (r : Result T E) (stands : Parts) (places other : List Ranked) (changes : List ListChange)
    → AreSettledBeside stands changes → Holds (key_at stands) (next_at stands) other → OnOk r ((e : Ranked)
    → names changes e.1 ≡ true → is_key (next_at stands e.1) e.0 ≡ true → is_in other e ≡ true)
    → Holds (side_at (is_ok r) stands) (side_at (not (is_ok r)) stands) other
prepared (Ok x) stands places other changes settled h all = ready (key_at stands) (next_at stands) other in_all h where
  in_all : (e : Ranked) → is_key (next_at stands e.1) e.0 ≡ true → is_in other e ≡ true
  in_all e is = by (names changes e.1) refl where
    by : (b : Bool) → names changes e.1 ≡ b → is_in other e ≡ true
    by true named = all e named is
    by false beside = h.held e (ap (λ k. is_key k e.0) (sym (settled e.1 beside)) ∙ is)
prepared (Err e) stands places other changes settled h all = h

-- ---- settled

pub option_Decides : (a b : Option ℤ) → Decides (option_eq int_eq a b) (a ≡ b)
option_Decides None None = (λ x. refl, λ x. refl)
option_Decides None (Some l) = (λ x. cc, λ x. cc)
option_Decides (Some k) None = (λ x. cc, λ x. cc)
option_Decides (Some k) (Some l) = (
  λ x. ap (λ (z : ℤ). Some z) ((Decides-int_eq k l).0 x),
  λ x. (Decides-int_eq k l).1 (ap (λ (o : Option ℤ). unwrap_or o k) x),
)

both_sides : (made : Bool) (key : Option ℤ) → side_of made (settled_at key) ≡ key
both_sides true key = refl
both_sides false key = refl

module _ (made : Bool) (stands after : Parts) (account : ℕ)
    (moves : (a : ℕ) → account_key after a ≡ cond (a == account) (settled_at (side_of made
    (account_key stands account)))
    (account_key stands a)) where
  at_account : (m : Bool) → side_at m after account ≡ side_at made stands account
  at_account m =
      ap (λ (s : AccountKey). side_of m s) (moves account
      ∙ ap (λ b. cond b (settled_at (side_of made (account_key stands account))) (account_key stands account))
      (eq-eqb account account refl))
      ∙ both_sides m (side_of made (account_key stands account))

  elsewhere : (m : Bool) (a : ℕ) → (account == a) ≡ false → side_at m after a ≡ side_at m stands a
  elsewhere m a away =
      ap (λ (s : AccountKey). side_of m s) (moves a ∙ ap (λ b. cond b (settled_at (side_of made
      (account_key stands account)))
      (account_key stands a)) (turned account a away))

  -- the side that is kept stays, and so does the other one where it is the same
  stays_same : (m : Bool) → side_at made stands account ≡ side_at m stands account → (a : ℕ)
      → side_at m after a ≡ side_at m stands a
  stays_same m is a = at (account == a) refl where
    at : (b : Bool) → (account == a) ≡ b → side_at m after a ≡ side_at m stands a
    at true here =
        ap (λ k. side_at m after k) (sym (eqb-true account a here))
        ∙ at_account m
        ∙ is
        ∙ ap (λ k. side_at m stands k) (eqb-true account a here)
    at false away = elsewhere m a away

  pub same_kept : (a : ℕ) → side_at made after a ≡ side_at made stands a
  same_kept = stays_same made refl

  own : side_at (not made) after account ≡ side_at made after account
  own = at_account (not made) ∙ sym (at_account made)

  -- nothing is given up
  pub settled_as_it_was : (places : List Ranked) → side_at made stands account ≡ side_at (not made) stands account
      → Holds (side_at made stands) (side_at (not made) stands) places
      → Holds (side_at made after) (side_at (not made) after) places
  settled_as_it_was places is h =
      same_sides (side_at made stands) (side_at (not made) stands) (side_at made after) (side_at (not made) after)
      places same_kept (stays_same (not made) is) h

  -- an entry is, or none
  pub settled : (places other : List Ranked) (goes : Option ℤ) → goes ≡ side_at (not made) stands account
      → side_at made stands account ≢ goes → (goes ≡ None → other ≡ places) → ((k : ℤ) → goes ≡ Some k
      → IsAscending other × ((e : Ranked) → is_in other e ≡ cond (is_eq (rank_order (k, account) e)) false
      (is_in places e))) → Holds (side_at made stands) (side_at (not made) stands) places
      → Holds (side_at made after) (side_at (not made) after) other
  settled places other goes gives differ none some h = by goes refl where
    by : (o : Option ℤ) → goes ≡ o → Holds (side_at made after) (side_at (not made) after) other
    by None is =
        subst (Holds (side_at made after) (side_at (not made) after)) (sym (none is))
        (nothing_given (side_at made stands) (side_at (not made) stands) (side_at made after) (side_at (not made) after)
        places places account same_kept own (elsewhere (not made)) (sym gives ∙ is) h)
    by (Some k) is =
        given_up (side_at made stands) (side_at (not made) stands) (side_at made after) (side_at (not made) after)
        places other account same_kept own (elsewhere (not made)) k (sym gives ∙ is)
        (λ clash. differ (clash ∙ sym is)) (some k is).0 (some k is).1 h

-- ---- the end

-- the list that is followed then
abbrev pub outcome : {T E : Type 0} → Result T E → List Ranked → List ListChange → List Ranked
outcome (Ok x) list changes = all_listed list changes
outcome (Err e) list changes = list

abbrev pub IsEnded : {T E : Type 0} → Result T E → Parts → List Ranked → List Ranked → List ListChange → Type 0
IsEnded r after list places changes = (places ≡ outcome r list changes) × Follows (key_at after) places

module _ (made : Bool) (stands ready after : Parts) (list places : List Ranked) (changes : List ListChange) where
  pub followed : {T E : Type 0} (r : Result T E) → made ≡ is_ok r → Follows (key_at stands) list
      → AreSettledBeside stands [] → ((a : ℕ) → key_at ready a ≡ key_at stands a) → OnOk r ((old : List Ranked)
      → Follows (next_at stands) old → Follows (next_at ready) (all_listed old changes))
      → ((a : ℕ) → side_at made after a ≡ side_at made ready a) → AreSettledBeside after []
      → Holds (side_at made after) (side_at (not made) after) places → IsEnded r after list places changes
  followed (Ok x) was_made h settled key next same rests holds =
      let goes = subst (λ b. (a : ℕ) → side_at b after a ≡ side_at b ready a) was_made same in
      let stood = same_keys (next_at ready) (next_at after) (all_listed list changes) goes
      (next list (same_keys (key_at stands) (next_at stands) list (λ a. settled a refl) h)) in
      let it = ended (next_at after) (key_at after) places (all_listed list changes) (λ a. sym (rests a refl))
      (subst (λ b. Holds (side_at b after) (side_at (not b) after) places) was_made holds) stood in (
        it,
        subst (Follows (key_at after)) (sym it) (same_keys (next_at after) (key_at after) (all_listed list changes)
            (λ a. sym (rests a refl)) stood),
      )
  followed (Err e) not_made h settled key next same rests holds =
      let goes = subst (λ b. (a : ℕ) → side_at b after a ≡ side_at b ready a) not_made same in
      let stood = same_keys (key_at stands) (key_at after) list (λ a. goes a ∙ key a) h in
      let it = ended (key_at after) (next_at after) places list (λ a. rests a refl)
      (subst (λ b. Holds (side_at b after) (side_at (not b) after) places) not_made holds) stood in
      (it, subst (Follows (key_at after)) (sym it) stood)

-- rows that are as before follow the list that they followed
pub as_before : (old new : Rows) → AreAsBefore old new → Follows (key_at old.stands) old.places
    → Follows (key_at new.stands) new.places
as_before old new same h =
    subst (λ (stands : Parts). Follows (key_at stands) new.places) (sym same.1)
    (subst (Follows (key_at old.stands)) (sym same.0) h)

-- one change alone, without notes
pub followed_alone : {T E : Type 0} (r : Result T E) (old new : Rows) (changes : List ListChange)
    → Follows (key_at old.stands) old.places → HasTried old new (all_listed old.places changes) (Some r)
    → IsEnded r new.stands old.places new.places changes
followed_alone (Ok x) old new changes h made = (made.1, made.0)
followed_alone (Err e) old new changes h same = (same.0, as_before old new same h)

-- as contracts say it
pub listed_if_ok : {T E : Type 0} (r : Result T E) (list places old : List Ranked) (changes : List ListChange)
    → list ≡ old → places ≡ outcome r list changes → OnOk r ((v : View) → v.list ≡ old
    → places ≡ (all_followed v changes).list)
listed_if_ok (Ok x) list places old changes is h =
    λ v same. h ∙ ap (λ (l : List Ranked). all_listed l changes) (is ∙ sym same) ∙ sym (list_of_views v changes)
listed_if_ok (Err e) list places old changes is h = tt

pub kept_if_err : {T E : Type 0} (r : Result T E) (list places old : List Ranked) (changes : List ListChange)
    → list ≡ old → places ≡ outcome r list changes → OnErr r (places ≡ old)
kept_if_err (Ok x) list places old changes is h = tt
kept_if_err (Err e) list places old changes is h = h ∙ is
