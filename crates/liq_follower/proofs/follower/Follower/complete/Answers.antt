use Rattle.liq_follower.specs.declared.phase.Phase.TheVariants as phase
use Rattle.liq_follower.proofs.Phases.{at_phase}
use Rattle.liq_follower.proofs.Steps.{full, lacking, taken_by}
use Rattle.liq_follower.proofs.follower.Follower.complete.Goals as goal

pub returns-in-Ok-clause-at : goal.returns-in-Ok-clause-at
returns-in-Ok-clause-at c bytes at =
    let f = full bytes _ c.args.self.now c.records.result c.saturating_add-index.result c.self.view_is c.requires.inside
    c.requires.full c.records.ensures c.saturating_add-index.ensures at in
    taken_by bytes c.self.inside.held c.self.inside.guided c.args.last c.saturating_add-index.result f.size f.next f.at
    c.with-raw.result c.with-raw.ensures c.take.new.protocol c.in-Ok.phase (c.in-Ok.ensures f.at.3.0 f.at.3.2)

pub returns-in-Err-clause-memory : goal.returns-in-Err-clause-memory
returns-in-Err-clause-memory c bytes at =
    let f = full bytes _ c.args.self.now c.records.result c.saturating_add-index.result c.self.view_is c.requires.inside
    c.requires.full c.records.ensures c.saturating_add-index.ensures at in
    let l = lacking bytes c.self.inside.held c.self.inside.guided c.args.last c.saturating_add-index.result f.size
    f.next f.at c.with-raw.result c.with-raw.ensures c.take.new.protocol c.in-Err.field-0
    (c.in-Err.ensures f.at.3.0 f.at.3.2) in (
      at_phase bytes c.self.inside.held c.take.new.protocol _ c.args.self.now phase.Inside c.self.view_is
          c.requires.inside l.0,
      l.1,
      l.2,
    )
