-- How many rows a table has once a key has one.
use Rattle.std.proofs.Common.{◌≡◌, ℕ, suc, cond, [], ◌∷◌, length, None, Some, refl, ap, sym, ◌∙◌}
use Rattle.std.proofs.lemmas.Cmp.{nat_cmp_total}
use Rattle.std.proofs.lemmas.Map.{lookup-none}
use Rattle.std.proofs.lemmas.Map.Entries.{none_below_head}
use Rattle.std.proofs.lemmas.Map.Keys.{sorted_tail}
use Rattle.std.specs.BTreeMap.{is_at}
use Rattle.std.specs.Map.{keys_of}
use Rattle.std.specs.Ordering.{nat_cmp, is_eq, match_ordering}
use Rattle.std.specs.declared.cmp.Ordering.{Ordering}
use Rattle.std.specs.declared.cmp.Ordering.TheVariants.{Less, Equal, Greater}
use Rattle.liq_types.specs.Tables.{Table, at, put}
use Rattle.liq_types.specs.WellFormed.{Ascends}

-- as many as before, where it had one
module _ {X : Type 0} where
  pub length_again : (table : Table X) (key : ℕ) (x y : X) → Ascends table → at table key ≡ Some y
      → length (put table key x) ≡ length table
  length_again [] key x y s h = cc
  length_again (e ∷ es) key x y s h =
      by (nat_cmp key e.0) refl (length_again es key x y (sorted_tail nat_cmp e.0 (keys_of es) s)) where
        by : (o : Ordering) → nat_cmp key e.0 ≡ o → (at es key ≡ Some y → length (put es key x) ≡ length es)
            → length (match_ordering o ((key, x) ∷ e ∷ es) ((e.0, x) ∷ es) (e ∷ put es key x)) ≡ length (e ∷ es)
        by Less is more =
            absurd (none (sym (lookup-none (is_at (nat_cmp key)) (e ∷ es) (none_below_head nat_cmp_total key e es s is))
            ∙ h)) where
              none : None ≡ Some y → ⊥
              none k = cc
        by Equal is more = refl
        by Greater is more = ap suc (more (sym (ap (λ o. cond (is_eq o) (Some e.1) (at es key)) is) ∙ h))
