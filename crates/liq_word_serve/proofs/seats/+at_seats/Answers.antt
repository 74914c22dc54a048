use Rattle.std.proofs.Common.{length, ap, arith}
use Rattle.std.proofs.lemmas.List.{length-map}
use Rattle.liq_word_serve.proofs.Mapped.{mapped_more, mapped_none}
use Rattle.liq_word_serve.proofs.seats.+at_seats.Goals as goal

pub push_reserved-requires : goal.push_reserved-requires
push_reserved-requires g t c =
    omega (
      arith,
      ap length c.at_seats-works.ensures.scripts,
      length-map c.at_seats-works.result.items (λ w. w.script),
      c.at_seats-works.ensures.room,
      c.in-Some.ensures.len,
      c.requires.room,
      c.at_seats-works.result.ok.0,
      c.pop.new.self.ok.0,
      c.args.scripts.ok.0,
    )

pub returns-clause-scripts : goal.returns-clause-scripts
returns-clause-scripts g t c = mapped_more _ _ _ _ _ _ c.push_reserved.ensures.items c.in-Some.ensures.items
    c.at_seats-works.ensures.scripts

pub returns-clause-seats : goal.returns-clause-seats
returns-clause-seats g t c = mapped_more _ _ _ _ _ _ c.push_reserved.ensures.items c.in-Some-pop.ensures.items
    c.at_seats-works.ensures.seats

pub returns-clause-hinters : goal.returns-clause-hinters
returns-clause-hinters g t c = mapped_more _ _ _ _ _ _ c.push_reserved.ensures.items c.in-Some-pop-2.ensures.items
    c.at_seats-works.ensures.hinters

pub returns-in_default-clause-scripts : goal.returns-in_default-clause-scripts
returns-in_default-clause-scripts g t c = mapped_none _ _ _ c.requires.none (omega (
  arith,
  c.in_default.ensures.cases.0,
  c.args.scripts.ok.0,
))

pub returns-in_default-clause-seats : goal.returns-in_default-clause-seats
returns-in_default-clause-seats g t c = mapped_none _ _ _ c.requires.none (omega (
  arith,
  c.in_default.ensures.cases.0,
  c.requires.many,
  c.args.scripts.ok.0,
))

pub returns-in_default-clause-hinters : goal.returns-in_default-clause-hinters
returns-in_default-clause-hinters g t c = mapped_none _ _ _ c.requires.none (omega (
  arith,
  c.in_default.ensures.cases.0,
  c.requires.as_many,
  c.args.scripts.ok.0,
))
