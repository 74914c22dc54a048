use Rattle.std.proofs.Common.{◌≡◌, ℕ, sym, subst, ap, ◌∙◌, arith, length, List, ◌++◌, ◌∷◌, [], ◌+◌}
use Rattle.std.proofs.lemmas.List.{length-append}
use Rattle.liq_types.specs.Tables.{Table}
use Rattle.liq_stability.specs.declared.words.PoolWords.{PoolWords}
use Rattle.liq_tables.specs.WithRoom.{written}
use Rattle.liq_tables.specs.Rows.{is_used_amount}
use Rattle.liq_rewards.specs.declared.rows.Row.{Row}
use Rattle.liq_rewards.specs.Kept.{has_row}
use Rattle.liq_rewards.specs.Rows.{Counted, all_now, no_row, AreRows}
use Rattle.liq_rewards.proofs.Finding.{no_number, row_added}
use Rattle.liq_rewards.proofs.rows.Rows.add.Goals as goal

long : (rows : List Row) (row : Row) (n : ℕ) (now : List Row) → n ≡ length now → now ≡ rows ++ row ∷ []
    → n ≡ length rows + 1
long rows row n now is made = is ∙ ap (λ (t : List Row). length t) made ∙ length-append rows (row ∷ [])

any : PoolWords
any = record { p = 0; scale = 0; epoch = 0; sum = 0; total = 0; coll = 0 }

pub invariant_of-self-2 : goal.invariant_of-self-2
invariant_of-self-2 c =
    let none = no_number any c.self.inside.numbers.rows c.self.inside.offsets c.self.inside.rows.items c.args.account
    c.self.invariant.found
    (ap (λ (v : Counted). has_row (all_now any v) c.args.account) c.self.view_is ∙ c.requires any) in
    let pushed : c.push.new.self.items ≡ c.self.inside.rows.items ++ no_row c.args.account ∷ [] = c.in-Ok.ensures.items
    ∙ ap (λ (row : Row). c.self.inside.rows.items ++ row ∷ []) c.none.ensures in
    let wrote : c.write.new.self.rows ≡ written is_used_amount c.self.inside.numbers.rows c.args.account c.len.result =
    c.write.ensures.rows ∙ ap (λ (t : Table ℕ). written is_used_amount t c.args.account c.len.result)
    c.reserve.ensures.rows in
    subst (λ (t : Table ℕ). AreRows t c.self.inside.offsets c.push.new.self.items) (sym wrote)
    (subst (λ (rows : List Row). AreRows (written is_used_amount c.self.inside.numbers.rows c.args.account c.len.result)
    c.self.inside.offsets rows) (sym pushed)
    (row_added c.self.inside.numbers.rows c.self.inside.offsets c.self.inside.rows.items c.args.account c.len.result
    c.self.invariant none (long c.self.inside.rows.items (no_row c.args.account) c.len.result c.push.new.self.items
    (omega (arith, c.len.ensures, c.push.new.self.ok.0)) pushed)))
