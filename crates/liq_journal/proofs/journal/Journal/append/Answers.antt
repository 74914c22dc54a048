use Rattle.std.proofs.Common.{◌<◌, IfSome, sym, subst, rules}
use Rattle.liq_journal.specs.Settled.{JournalOn, IsSettled}
use Rattle.liq_journal.proofs.Appending.{Crashes, Appends, Reads, reads, crashes, appends, settles}
use Rattle.liq_journal.proofs.Bodies.{plain}
use Rattle.liq_journal.proofs.journal.Journal.append.Given as given
use Rattle.liq_journal.proofs.journal.Journal.append.Goals as goal
use Rattle.liq_journal.proofs.journal.Journal.append.Goals.{After-write_gated}

-- the journal before the call
abbrev old : (g : given.Over) → After-write_gated g → JournalOn g.row.D.Denot
old g c = plain c.self.inside.disk c.self.inside.generation c.self.inside.limit c.self.inside.start c.self.inside.count

is_settled : (g : given.Over) (c : After-write_gated g)
    → IfSome (g.D.Disk.at (old g c).disk).seen (IsSettled (old g c).generation (old g c).start (old g c).count)
is_settled g c = subst (λ (j : JournalOn g.row.D.Denot). IfSome (g.D.Disk.at j.disk).seen
    (IsSettled j.generation j.start j.count)) (sym c.self.view_is) c.requires.settled

are_few : (g : given.Over) (c : After-write_gated g) → (old g c).count < 1000000
are_few g c = subst (λ (j : JournalOn g.row.D.Denot). j.count < 1000000) (sym c.self.view_is) c.requires.few

-- what a crash leaves, and what is read, after each end of the call
crashed : (g : given.Over) (c : After-write_gated g)
    → Crashes g.D.Disk.at c.args.self.now c.args.body.now c.record_bytes-record.result c.write_gated.new.disk
crashed g c =
    subst (λ (j : JournalOn g.row.D.Denot). Crashes g.D.Disk.at j c.args.body.now c.record_bytes-record.result
    c.write_gated.new.disk) c.self.view_is (crashes g.D.Disk.at (old g c) c.args.body.now c.record_bytes-record.result
    (is_settled g c) (are_few g c) (search rules) c.record_bytes-record.ensures c.write_gated.new.disk
    c.write_gated.ensures.crash)

read : (g : given.Over) (c : After-write_gated g)
    → Reads g.D.Disk.at c.args.self.now c.args.body.now c.record_bytes-record.result c.write_gated.new.disk
read g c = reads g.D.Disk.at c.args.self.now c.args.body.now c.record_bytes-record.result c.write_gated.new.disk
    (g.met.D.Disk.seen_may_stay c.write_gated.new.disk) (crashed g c)

pub returns-in_err-write_gated-clause-crash : goal.returns-in_err-write_gated-clause-crash
returns-in_err-write_gated-clause-crash g c = crashed g
    (goal.at.returns-in_err-write_gated-clause-crash g c).After-write_gated

pub returns-in_err-write_gated-clause-reads : goal.returns-in_err-write_gated-clause-reads
returns-in_err-write_gated-clause-reads g c = read g
    (goal.at.returns-in_err-write_gated-clause-reads g c).After-write_gated

pub returns-clause-crash : goal.returns-clause-crash
returns-clause-crash g c = crashed g (goal.at.returns-clause-crash g c).After-write_gated

pub returns-clause-reads : goal.returns-clause-reads
returns-clause-reads g c = read g (goal.at.returns-clause-reads g c).After-write_gated

pub returns-clause-appended : goal.returns-clause-appended
returns-clause-appended g c =
    let at = (goal.at.returns-clause-appended g c).After-write_gated in
    subst (λ (j : JournalOn g.row.D.Denot). Appends g.D.Disk.at j c.args.body.now c.record_bytes-record.result
    c.write_gated.new.disk) c.self.view_is (appends g.D.Disk.at (old g at) c.args.body.now c.record_bytes-record.result
    (is_settled g at) (are_few g at) (search rules) c.record_bytes-record.ensures c.write_gated.new.disk
    c.in_ok-write_gated.ensures.written)

pub returns-clause-settled : goal.returns-clause-settled
returns-clause-settled g c =
    let at = (goal.at.returns-clause-settled g c).After-write_gated in
    settles g.D.Disk.at (old g at) c.args.body.now c.record_bytes-record.result (is_settled g at) (are_few g at)
    (search rules) c.record_bytes-record.ensures c.write_gated.new.disk c.in_ok-write_gated.ensures.written
