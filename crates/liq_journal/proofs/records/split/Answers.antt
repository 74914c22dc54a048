use Rattle.std.proofs.Common.{◌∙◌, ◌-◌, ℕ, length, drop, arith, length-take, length-drop}
use Rattle.std.proofs.lemmas.List.{take_all}
use Rattle.liq_journal.proofs.records.split.Goals as goal

pub slice_bounds-copy_from_slice-end-2 : goal.slice_bounds-copy_from_slice-end-2
slice_bounds-copy_from_slice-end-2 c = omega (arith, length-take {A = ℕ})

pub returns-clause-stored : goal.returns-clause-stored
returns-clause-stored c = c.copy_from_slice-2.ensures.after
    ∙ take_all (length c.args.bytes.now - 96) (drop 96 c.args.bytes.now) (omega (arith, length-drop {A = ℕ}))
