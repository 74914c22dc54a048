use Rattle.std.proofs.Common.{◌≡◌, ℕ, ◌++◌, ◌∷◌, [], false, true, Option, Result, Ok, Err, ap, sym, subst, ◌∙◌}
use Rattle.std.specs.Prelude.{OnOk, OnErr, IfSome}
use Rattle.std.proofs.Math.Logic.{∥∥₁_map}
use Rattle.liq_stability.specs.declared.words.PoolWords.{PoolWords}
use Rattle.liq_rewards.specs.Earner.{no_earner}
use Rattle.liq_rewards.specs.Kept.{Kept, has_row, IsKeptOf}
use Rattle.liq_rewards.proofs.Following.{add_kept, add_made, add_stays}
use Rattle.liq_rewards.specs.Rows.{Counted, all_now}
use Rattle.liq_rewards.proofs.rewards.Rewards.reserve.Goals as goal

made : {R F : Type 0} (r : Result R F) (account : ℕ) (old new : Counted) (words : PoolWords)
    → OnOk r ((words : PoolWords) → all_now words new ≡ all_now words old ++ no_earner account ∷ [])
    → OnOk r (all_now words new ≡ all_now words old ++ no_earner account ∷ [])
made (Ok u) account old new words h = h words
made (Err f) account old new words h = tt

same : {R F : Type 0} (r : Result R F) (words : PoolWords) (old new : Counted) → OnErr r (new ≡ old)
    → OnErr r (all_now words new ≡ all_now words old)
same (Ok u) words old new h = tt
same (Err f) words old new h = ap (λ (v : Counted). all_now words v) h

pub invariant_of-self : goal.invariant_of-self
invariant_of-self c =
    let none : has_row (all_now c.self.inside.words c.self.inside.rows) c.in-Some.account ≡ false =
    sym (c.has.ensures c.self.inside.words) ∙ c.if-has.false in
    ∥∥₁_map c.self.invariant (λ k. (
      k.0,
      add_kept _ k.0 c.in-Some.account c.add.result (all_now c.self.inside.words c.add.new.self)
          (made c.add.result c.in-Some.account c.self.inside.rows c.add.new.self c.self.inside.words c.add.ensures.rows)
          (same c.add.result c.self.inside.words c.self.inside.rows c.add.new.self c.add.ensures.err) none k.1,
    ))

pub returns-clause-kept : goal.returns-clause-kept
returns-clause-kept c past h =
    let none : has_row (all_now c.self.inside.words c.self.inside.rows) c.in-Some.account ≡ false =
    sym (c.has.ensures c.self.inside.words) ∙ c.if-has.false in
    add_kept _ past c.in-Some.account c.add.result (all_now c.self.inside.words c.add.new.self)
    (made c.add.result c.in-Some.account c.self.inside.rows c.add.new.self c.self.inside.words c.add.ensures.rows)
    (same c.add.result c.self.inside.words c.self.inside.rows c.add.new.self c.add.ensures.err) none
    (subst (λ (v : Kept). IsKeptOf v past) (sym c.self.view_is) h)

pub returns-clause-account : goal.returns-clause-account
returns-clause-account c =
    subst (λ (o : Option _). OnOk c.add.result (IfSome o (λ a. has_row (all_now c.self.inside.words c.add.new.self) a
    ≡ true))) (sym c.in-Some.is)
    (add_made c.add.result (all_now c.self.inside.words c.self.inside.rows) (all_now c.self.inside.words c.add.new.self)
    c.in-Some.account (made c.add.result c.in-Some.account c.self.inside.rows c.add.new.self c.self.inside.words
    c.add.ensures.rows))

pub returns-clause-room : goal.returns-clause-room
returns-clause-room c a had =
    add_stays c.add.result (all_now c.self.inside.words c.self.inside.rows) (all_now c.self.inside.words c.add.new.self)
    c.in-Some.account a (made c.add.result c.in-Some.account c.self.inside.rows c.add.new.self c.self.inside.words
    c.add.ensures.rows) (same c.add.result c.self.inside.words c.self.inside.rows c.add.new.self c.add.ensures.err)
    (ap (λ (v : Kept). has_row v.earners a) c.self.view_is ∙ had)
