-- The accounts with an own operation, found one by one.
use Rattle.std.proofs.Common.{◌≡◌, ℕ, List, [], ◌∷◌, Ordering, refl, ap, sym, ◌∙◌}
use Rattle.std.specs.BTreeSet.{insert_key}
use Rattle.std.specs.Map.{keys_of}
use Rattle.std.specs.Ordering.{nat_cmp, match_ordering}
use Rattle.std.specs.declared.cmp.Ordering.TheVariants.{Less, Equal, Greater}
use Rattle.std.specs.Prelude.{fold}
use Rattle.liq_types.specs.declared.events.PoolEvent.{PoolEvent}
use Rattle.liq_types.specs.declared.events.PoolEvent.TheVariants.{Own, Offset}
use Rattle.liq_types.specs.Tables.{Table, put}
use Rattle.liq_audit.specs.Auditable.{with_owner, owners_of}
use Rattle.liq_text_rewards.specs.Telling.{Note, events_in}

pub put_keys : (table : Table ℕ) (key x : ℕ) → keys_of (put table key x) ≡ insert_key nat_cmp (keys_of table) key
put_keys [] key x = refl
put_keys (e ∷ es) key x = by (nat_cmp key e.0) (put_keys es key x) where
  by : (o : Ordering) → keys_of (put es key x) ≡ insert_key nat_cmp (keys_of es) key
      → keys_of (match_ordering o ((key, x) ∷ e ∷ es) ((e.0, x) ∷ es) (e ∷ put es key x))
      ≡ match_ordering o (key ∷ e.0 ∷ keys_of es) (e.0 ∷ keys_of es) (e.0 ∷ insert_key nat_cmp (keys_of es) key)
  by Less more = refl
  by Equal more = refl
  by Greater more = ap (λ (ks : List ℕ). e.0 ∷ ks) more

-- ---- the accounts that were found

abbrev pub found_by : PoolEvent → List ℕ → List ℕ
found_by (Own owner put_in paid gain amount) keys = insert_key nat_cmp keys owner
found_by (Offset debt coll total rise) keys = keys

abbrev pub found_in : List ℕ → Note → List ℕ
found_in keys note = found_by note.1 keys

found_from : (notes : List Note) (table : Table ℕ) → fold found_in (keys_of table) notes
    ≡ keys_of (fold with_owner table (events_in notes))
found_from [] table = refl
found_from (note ∷ notes) table = by note.1 (λ t. found_from notes t) where
  by : (e : PoolEvent) → ((t : Table ℕ) → fold found_in (keys_of t) notes
      ≡ keys_of (fold with_owner t (events_in notes)))
      → fold found_in (found_by e (keys_of table)) notes
      ≡ keys_of (fold with_owner (with_owner table e) (events_in notes))
  by (Own owner put_in paid gain amount) rest = ap (λ (ks : List ℕ). fold found_in ks notes)
      (sym (put_keys table owner 0)) ∙ rest (put table owner 0)
  by (Offset debt coll total rise) rest = rest table

pub all_found : (notes : List Note) → fold found_in [] notes ≡ owners_of (events_in notes)
all_found notes = found_from notes []
