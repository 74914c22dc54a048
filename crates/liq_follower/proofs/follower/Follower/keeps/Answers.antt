use Rattle.std.proofs.Common.{◌≡◌, ◌+◌, ◌-◌, ◌^◌, ◌++◌, List, ℕ, length, min, take, sym, subst, ap, ◌∙◌, arith}
use Rattle.std.proofs.lemmas.List.{take_all}
use Rattle.liq_follower.specs.Following.{Followed, IsAt}
use Rattle.liq_follower.proofs.Phases.{counts, fed_at, fed_count}
use Rattle.liq_follower.proofs.follower.Follower.keeps.Goals as goal

pub returns-clause-fed : goal.returns-clause-fed
returns-clause-fed c is_true bytes is =
    let piece : List ℕ = c.args.piece.now in
    let n : ℕ = length piece in
    let whole : piece ≡ take n piece = sym (take_all n piece (omega arith)) in
    counts bytes piece n c.args.self.now.taken c.tally_few.new.self (omega arith) (fed_count bytes c.args.self.now is)
    (ap (λ f. f.taken) c.tally_few.ensures ∙ ap (λ f. min (f.taken + n) (2 ^ 64 - 1)) c.keep.ensures.added)
    (subst (λ (f : Followed). IsAt (bytes ++ take n piece) f) (sym c.tally_few.ensures)
    (subst (λ (l : List ℕ). IsAt (bytes ++ l) c.keep.new.self) whole (c.keep.ensures.at bytes
    (fed_at bytes c.args.self.now is))))
