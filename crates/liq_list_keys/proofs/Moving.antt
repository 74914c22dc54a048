-- Where all stand after one account was written, in either part.
use Rattle.std.proofs.Common.{◌≡◌, ℕ, ℤ, Bool, true, false, cond, List, refl, sym, ap, ◌∙◌, subst, Some, None, Option, Result, Ok, Err}
use Rattle.std.specs.BTreeMap.{BTreeMap, Updates}
use Rattle.std.specs.List.{Contains}
use Rattle.std.specs.Ordering.{nat_cmp}
use Rattle.std.specs.Prelude.{◌==◌, IsSome, IfSome, OnOk, OnErr}
use Rattle.std.proofs.lemmas.Bool.{eqb-true, eq-eqb}
use Rattle.std.proofs.lemmas.Option.{none-some}
use Rattle.liq_types.proofs.Ascending.{put-ascends}
use Rattle.liq_types.proofs.Lookups.{at-put_same, at-put_other, at-without_same, at-without_other}
use Rattle.liq_types.proofs.Places.{nat_cmp-eq}
use Rattle.liq_types.specs.Tables.{Table, at, put, without}
use Rattle.liq_types.specs.WellFormed.{Ascends}
use Rattle.liq_tables.specs.WithRoom.{WithRoom, HasRoom, KeepsRoom, written}
use Rattle.liq_list_keys.specs.declared.short_key.ShortKey.{ShortKey}
use Rattle.liq_list_keys.specs.declared.key_index.AccountKey.{AccountKey}
use Rattle.liq_list_keys.specs.ShortKey.{is_short}
use Rattle.liq_list_keys.specs.Parts.{Parts, account_key_in, account_key, AreParted}
use Rattle.liq_list_keys.specs.AccountKey.{settled_at, side_of, moved}

-- ---- a part

-- one account is found with this, and all others as before
pub record IsWritten {X : Type 0} (account : ℕ) (x : Option X) (old new : Table X) : Type 0 where
  pub own : at new account ≡ x
  pub others : (a : ℕ) → (account == a) ≡ false → at new a ≡ at old a

module _ {X : Type 0} (account : ℕ) where
  pub as_before : (table : Table X) (x : Option X) → at table account ≡ x → IsWritten account x table table
  as_before table x is = record { own = is; others = λ a away. refl }

  pub as_updated : (old new : BTreeMap ℕ X) (x : Option X) → Updates nat_cmp old new account x
      → IsWritten account x old.entries new.entries
  as_updated old new x h = record { own = h.1; others = λ a away. h.2 a (nat_cmp-eq account a ∙ away) }

  pub as_taken : (old new : Table X) → Ascends old → new ≡ without old account → IsWritten account None old new
  as_taken old new ascend is =
      subst (λ (t : Table X). IsWritten account None old t) (sym is)
      (record { own = at-without_same old account ascend; others = λ a away. at-without_other old account a away })

-- what is written over a row that is there takes no memory
pub over : {T E X : Type 0} (r : Result T E) (P : Type 0) (o : Option X) (x : X) → o ≡ Some x → OnErr r (o ≡ None)
    → OnOk r P → P
over (Ok t) P o x there absent h = h
over (Err e) P o x there absent h = absurd (none-some x (sym absent ∙ there))

pub puts : (old new : Table ShortKey) (account : ℕ) (kept : ShortKey) → is_short kept ≡ true
    → new ≡ written is_short old account kept → new ≡ put old account kept
puts old new account kept used is = is ∙ ap (λ b. cond b (put old account kept) (without old account)) used

pub as_put : (old new : Table ShortKey) (account : ℕ) (kept : ShortKey) → is_short kept ≡ true
    → new ≡ written is_short old account kept → IsWritten account (Some kept) old new
as_put old new account kept used is =
    subst (λ (t : Table ShortKey). IsWritten account (Some kept) old t) (sym (puts old new account kept used is))
    (record { own = at-put_same old account kept; others = λ a away. at-put_other old account kept a away })

-- ---- both

pub found : (parts : Parts) (account : ℕ) (kept : Option ShortKey) (apart : Option AccountKey) → at parts.kept account
    ≡ kept
    → at parts.apart account ≡ apart → account_key parts account ≡ account_key_in kept apart
unfolding account_key
found parts account kept apart is goes = ap (λ (o : Option ShortKey). account_key_in o (at parts.apart account)) is
    ∙ ap (λ (o : Option AccountKey). account_key_in kept o) goes

pub seen : (parts now : Parts) (account : ℕ) (kept : Option ShortKey) (apart : Option AccountKey) → parts ≡ now
    → at parts.kept account ≡ kept → at parts.apart account ≡ apart → account_key_in kept apart
    ≡ account_key now account
seen parts now account kept apart view k s = sym (found parts account kept apart k s)
    ∙ ap (λ (p : Parts). account_key p account) view

pub kept_key : (parts now : Parts) (account : ℕ) (kept : Option ShortKey) → parts ≡ now → kept ≡ at parts.kept account
    → IfSome kept (λ k. account_key now account ≡ settled_at (Some k.key))
kept_key parts now account None view is = tt
kept_key parts now account (Some k) view is = sym (seen parts now account (Some k) (at parts.apart account) view
    (sym is) refl)

pub turned : (a account : ℕ) → (a == account) ≡ false → (account == a) ≡ false
turned a account h = by (account == a) refl where
  by : (b : Bool) → (account == a) ≡ b → b ≡ false
  by true is = sym (eq-eqb a account (sym (eqb-true account a is))) ∙ h
  by false is = refl

module _ (account : ℕ) (kept : Option ShortKey) (apart : Option AccountKey) where
  pub moves : (old new : Parts) → IsWritten account kept old.kept new.kept → IsWritten account apart old.apart new.apart
      → (a : ℕ) → account_key new a ≡ moved (account_key old) account (account_key_in kept apart) a
  unfolding account_key
  moves old new k s a = by (a == account) refl where
    by : (b : Bool) → (a == account) ≡ b → account_key new a ≡ cond b (account_key_in kept apart) (account_key old a)
    by true is = ap (λ n. account_key new n) (eqb-true a account is) ∙ found new account kept apart k.own s.own
    by false is =
        let away = turned a account is in
        found new a (at old.kept a) (at old.apart a) (k.others a away) (s.others a away)

  pub parted : (old new : WithRoom ShortKey) (stands after : Table AccountKey) → AreParted old stands → Ascends new.rows
      → KeepsRoom old new → (IsSome kept → HasRoom new account) → (IsSome apart → HasRoom new account × (kept ≡ None))
      → IsWritten account kept old.rows new.rows → IsWritten account apart stands after → AreParted new after
  parted old new stands after were ascend room here own k s = record {
    ascend = ascend;
    stays = stays;
    room = λ a h. (both a h).0;
    once = λ a h. (both a h).1;
  } where
    stays : (a : ℕ) → IsSome (at new.rows a) → HasRoom new a
    stays a h = by (account == a) refl where
      by : (b : Bool) → (account == a) ≡ b → HasRoom new a
      by true is =
          let same = eqb-true account a is in
          subst (λ n. HasRoom new n) same (here (subst (λ (o : Option ShortKey). IsSome o) (ap (λ n. at new.rows n)
          (sym same) ∙ k.own) h))
      by false is = room a (were.stays a (subst (λ (o : Option ShortKey). IsSome o) (k.others a is) h))

    both : (a : ℕ) → IsSome (at after a) → HasRoom new a × (at new.rows a ≡ None)
    both a h = by (account == a) refl where
      by : (b : Bool) → (account == a) ≡ b → HasRoom new a × (at new.rows a ≡ None)
      by true is =
          let same = eqb-true account a is in
          let its = own (subst (λ (o : Option AccountKey). IsSome o) (ap (λ n. at after n) (sym same) ∙ s.own) h) in
          subst (λ n. HasRoom new n × (at new.rows n ≡ None)) same (its.0, k.own ∙ its.1)
      by false is =
          let was : IsSome (at stands a) = subst (λ (o : Option AccountKey). IsSome o) (s.others a is) h in
          (room a (were.room a was), k.others a is ∙ were.once a was)

-- another key among the kept ones, of an account that is not apart then
pub kept_parted : (account : ℕ) (kept : ShortKey) (apart : Option AccountKey) (old new : WithRoom ShortKey)
    (stands after : Table AccountKey) → AreParted old stands → HasRoom old account → is_short kept ≡ true
    → new.rows ≡ written is_short old.rows account kept → new.room ≡ old.room → (IsSome apart → ⊥)
    → IsWritten account apart stands after → AreParted new after
kept_parted account kept apart old new stands after were has used rows room none s =
    parted account (Some kept) apart old new stands after were
    (subst (λ (t : Table ShortKey). Ascends t) (sym (puts old.rows new.rows account kept used rows))
    (put-ascends old.rows account kept were.ascend))
    (λ a h. subst (λ (l : List ℕ). Contains l a) (sym room) h)
    (λ h. subst (λ (l : List ℕ). Contains l account) (sym room) has)
    (λ h. absurd (none h)) (as_put old.rows new.rows account kept used rows) s

-- ---- settled

abbrev pub IsSettled : Parts → Parts → ℕ → Bool → Type 0
IsSettled old new account made =
    (a : ℕ) → account_key new a ≡ moved (account_key old) account (settled_at (side_of made
    (account_key old account))) a

module _ (account : ℕ) (made : Bool) where
  settles : (old new : Parts) (s : AccountKey) (key : Option ℤ) (kept : Option ShortKey) (apart : Option AccountKey)
      → account_key old account ≡ s → key ≡ side_of made s → account_key_in kept apart ≡ settled_at key
      → IsWritten account kept old.kept new.kept → IsWritten account apart old.apart new.apart
      → IsSettled old new account made
  settles old new s key kept apart stood is own k t a =
      let to = own ∙ ap (λ (o : Option ℤ). settled_at o) (is ∙ ap (λ (u : AccountKey). side_of made u) (sym stood)) in
      moves account kept apart old new k t a ∙ ap (λ (u : AccountKey). moved (account_key old) account u a) to

  -- an account that stands apart
  pub apart_settles : (old now new : Parts) (s : AccountKey) (key : Option ℤ) (kept : Option ShortKey)
      (apart : Option AccountKey)
      → old ≡ now → at old.kept account ≡ None → at old.apart account ≡ Some s → key ≡ side_of made s
      → account_key_in kept apart ≡ settled_at key → IsWritten account kept old.kept new.kept
      → IsWritten account apart old.apart new.apart → IsSettled now new account made
  apart_settles old now new s key kept apart view none there is own k t =
      subst (λ (p : Parts). IsSettled p new account made) view
      (settles old new s key kept apart (found old account None (Some s) none there) is own k t)

  -- an account that no change moves
  both_sides : (b : Bool) (key : Option ℤ) → key ≡ side_of b (settled_at key)
  both_sides true key = refl
  both_sides false key = refl

  pub unmoved : (parts : Parts) → at parts.apart account ≡ None → IsSettled parts parts account made
  unmoved parts none = by (at parts.kept account) refl where
    under : (key : Option ℤ) (kept : Option ShortKey) → at parts.kept account ≡ kept → account_key_in kept None
        ≡ settled_at key
        → IsSettled parts parts account made
    under key kept is own =
        settles parts parts (settled_at key) key kept None (found parts account kept None is none
        ∙ own) (both_sides made key) own (as_before account parts.kept kept is)
        (as_before account parts.apart None none)

    by : (o : Option ShortKey) → at parts.kept account ≡ o → IsSettled parts parts account made
    by None is = under None None is refl
    by (Some kept) is = under (Some kept.key) (Some kept) is refl
