use Rattle.std.proofs.Common.{◌+◌, ◌-◌, ◌^◌, ◌++◌, ℕ, min, take, ap, sym, subst, ◌∙◌}
use Rattle.liq_follower.specs.Following.{Followed, IsAt}
use Rattle.liq_follower.proofs.Phases.{counts, fed_at, fed_by, fed_count, goes_on}
use Rattle.liq_follower.proofs.follower.Follower.advance.Goals as goal

pub returns-in-Ok-clause-going : goal.returns-in-Ok-clause-going
returns-in-Ok-clause-going c bytes is = goes_on bytes c.args.self.now is c.requires.goes

pub returns-in-Ok-clause-fed : goal.returns-in-Ok-clause-fed
returns-in-Ok-clause-fed c bytes is =
    let n : ℕ = c.in-Ok.count in
    let piece = c.args.piece.now in
    counts bytes piece n c.args.self.now.taken c.tally.new.self c.in-Ok.ensures.count.1
    (fed_count bytes c.args.self.now is)
    (ap (λ f. f.taken) c.tally.ensures ∙ ap (λ (t : ℕ). min (t + n) (2 ^ 64 - 1)) c.take.ensures.taken)
    (subst (λ (f : Followed). IsAt (bytes ++ take n piece) f) (sym c.tally.ensures) (c.in-Ok.ensures.at bytes
    (fed_at bytes c.args.self.now is)))

pub returns-in-Err-clause-going : goal.returns-in-Err-clause-going
returns-in-Err-clause-going c bytes is = goes_on bytes c.args.self.now is c.requires.goes

pub returns-in-Err-clause-memory : goal.returns-in-Err-clause-memory
returns-in-Err-clause-memory c bytes is =
    let m = c.in-Err.ensures.memory bytes (fed_at bytes c.args.self.now is) in
    (fed_by bytes c.take.new.self m.0 (c.take.ensures.taken ∙ fed_count bytes c.args.self.now is), m.1, m.2)
