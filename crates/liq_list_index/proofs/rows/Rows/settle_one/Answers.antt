use Rattle.std.proofs.Common.{◌≡◌, ℕ, ℤ, false, cond, List, Option, sym, ap, ◌∙◌, subst}
use Rattle.std.proofs.lemmas.Bool.{not-false}
use Rattle.std.proofs.lemmas.Bool.Decides.{Decides-not}
use Rattle.std.specs.Option.{option_eq}
use Rattle.std.specs.Ordering.{int_eq, is_eq}
use Rattle.std.specs.Prelude.{◌==◌, not}
use Rattle.liq_types.specs.Ranked.{Ranked, rank_order, IsAscending}
use Rattle.liq_list_keys.specs.Parts.{Parts, account_key}
use Rattle.liq_list_keys.specs.AccountKey.{settled_at, side_of}
use Rattle.liq_list_keys.specs.declared.key_index.AccountKey.{AccountKey}
use Rattle.liq_list_index.specs.declared.rows.Rows.{Rows}
use Rattle.liq_list_index.specs.Rows.{Holds, side_at, is_in}
use Rattle.liq_list_index.proofs.Stands.{option_Decides, settled, settled_as_it_was}
use Rattle.liq_list_index.proofs.rows.Rows.settle_one.Goals as goal
use Rattle.liq_list_index.proofs.rows.Rows.settle_one.Goals.{then-ne, else-ne}

-- where the account stands then
moves : (c : goal.After-settle) → c.if-ne.self.stands ≡ c.args.self.now.stands → (a : ℕ) → account_key
    c.settle.new.self a
    ≡ cond (a == c.args.account) (settled_at (side_of c.args.made (account_key c.args.self.now.stands c.args.account)))
    (account_key c.args.self.now.stands a)
moves c same =
    subst (λ (stands : Parts). (a : ℕ) → account_key c.settle.new.self a
    ≡ cond (a == c.args.account) (settled_at (side_of c.args.made (account_key stands c.args.account)))
    (account_key stands a)) same c.settle.ensures

stays : (c : goal.After-settle) → c.sides-stays.result.0 ≡ side_at c.args.made c.args.self.now.stands c.args.account
stays c = ap (λ (p : Option ℤ × Option ℤ). p.0) c.sides-stays.ensures
    ∙ ap (λ (s : AccountKey). side_of c.args.made s) c.account_key.ensures

goes : (c : goal.After-settle)
    → c.sides-stays.result.1 ≡ side_at (not c.args.made) c.args.self.now.stands c.args.account
goes c = ap (λ (p : Option ℤ × Option ℤ). p.1) c.sides-stays.ensures
    ∙ ap (λ (s : AccountKey). side_of (not c.args.made) s) c.account_key.ensures

pub returns-clause-holds : goal.returns-clause-holds
returns-clause-holds c h = elim c.if-ne.branch [
  | then-ne w ↦
      let old = c.args.self.now in
      let kept = c.sides-stays.result.0 in
      let given = c.sides-stays.result.1 in
      let places : c.if-ne.self.places ≡ w.clear.new.self.places = ap (λ (r : Rows). r.places) w.self-is in
      let stands : c.if-ne.self.stands ≡ old.stands = ap (λ (r : Rows). r.stands) w.self-is ∙ w.clear.ensures.stands in
      settled c.args.made old.stands c.settle.new.self c.args.account (moves c stands) old.places c.if-ne.self.places
      given (goes c)
      (λ same. (Decides-not (option_eq int_eq kept given) (option_Decides kept given)).0 (sym w.if-ne.ensures)
      (stays c ∙ same))
      (λ none. places ∙ w.clear.ensures.none none)
      (λ k is. subst (λ (l : List Ranked). IsAscending l × ((e : Ranked)
      → is_in l e ≡ cond (is_eq (rank_order (k, c.args.account) e)) false (is_in old.places e))) (sym places)
      (w.clear.ensures.some k is))
      h
  | else-ne w ↦
      let old = c.args.self.now in
      let kept = c.sides-stays.result.0 in
      let given = c.sides-stays.result.1 in
      let places : c.if-ne.self.places ≡ old.places = ap (λ (r : Rows). r.places) w.self-is in
      let stands : c.if-ne.self.stands ≡ old.stands = ap (λ (r : Rows). r.stands) w.self-is in
      let same : kept ≡ given = (option_Decides kept given).0 (not-false (option_eq int_eq kept given)
      (sym w.if-ne.ensures)) in
      subst (Holds (side_at c.args.made c.settle.new.self) (side_at (not c.args.made) c.settle.new.self)) (sym places)
      (settled_as_it_was c.args.made old.stands c.settle.new.self c.args.account (moves c stands) old.places
      (sym (stays c) ∙ same ∙ goes c) h)
]
