use Rattle.std.proofs.Common.{◌≡◌, ◌++◌, ◌∷◌, [], ℕ, List, get_or, sym, ◌∙◌, ap, subst}
use Rattle.liq_disk_header.specs.Layout.{header_size, layout_on}
use Rattle.liq_follower.specs.declared.phase.Phase.TheVariants as phase
use Rattle.liq_follower.specs.Fed.{begun_limit}
use Rattle.liq_follower.specs.Judging.{IsJudged}
use Rattle.liq_follower.proofs.Phases.{at_phase, in_phase}
use Rattle.liq_follower.proofs.Steps.{grown, still_header, whole_so}
use Rattle.liq_follower.proofs.follower.Follower.header.Goals as goal

pub returns-then-len-header_size-clause-at : goal.returns-then-len-header_size-clause-at
returns-then-len-header_size-clause-at c bytes at =
    let here = in_phase bytes _ c.args.self.now phase.Header c.self.view_is c.requires at in
    let g = grown bytes c.self.inside.held c.push.new.self c.self.inside.guided c.begin_under.new.self c.args.byte
    c.begun_limit-limit.result here c.push.ensures c.begin_under.ensures (c.begun_limit-limit.ensures.begun
    ∙ ap begun_limit c.bytes.ensures) in
    whole_so (bytes ++ c.args.byte ∷ []) c.push.new.self c.clear.new.self c.begin_under.new.self c.judge.result
    c.phase_of-self-inside.result g
    (sym c.len.ensures.count ∙ c.if-len-header_size.true ∙ c.header_size.ensures
    ∙ ap (λ (l : List ℕ). header_size (layout_on l)) c.bytes-2.ensures)
    (subst (λ (l : List ℕ). get_or l 0 0 ≡ 1 → IsJudged l c.judge.result) c.bytes-then-len-header_size.ensures
    c.judge.ensures)
    c.phase_of-self-inside.ensures

pub returns-else-len-header_size-clause-at : goal.returns-else-len-header_size-clause-at
returns-else-len-header_size-clause-at c bytes at =
    let here = in_phase bytes _ c.args.self.now phase.Header c.self.view_is c.requires at in
    let g = grown bytes c.self.inside.held c.push.new.self c.self.inside.guided c.begin_under.new.self c.args.byte
    c.begun_limit-limit.result here c.push.ensures c.begin_under.ensures (c.begun_limit-limit.ensures.begun
    ∙ ap begun_limit c.bytes.ensures) in
    at_phase (bytes ++ c.args.byte ∷ []) c.push.new.self c.begin_under.new.self _ c.args.self.now phase.Header
    c.self.view_is c.requires
    (still_header (bytes ++ c.args.byte ∷ []) c.push.new.self c.begin_under.new.self g
    (λ e. c.if-len-header_size.false (c.len.ensures.count ∙ e ∙ sym (c.header_size.ensures
    ∙ ap (λ (l : List ℕ). header_size (layout_on l)) c.bytes-2.ensures))))
