use Rattle.std.proofs.Common.{◌≡◌, Ok, List, ℕ, get_or, length, refl, sym, ◌∙◌, ap, subst}
use Rattle.liq_wire.specs.Fields.{Fields, Spells96, command_in}
use Rattle.liq_wire.proofs.Spelling.{of_spelled, fits_spelled, command_is, heard_back}
use Rattle.liq_wire.proofs.Writing.{put, whole, fields_whole}
use Rattle.liq_wire.proofs.encoding.encode.Goals as goal

pub returns-clause-spelled : goal.returns-clause-spelled
returns-clause-spelled c =
    let f = c.fields_of-fields.result in
    let s0 = c.put_u32.ensures.put in
    let s1 = c.put_u64.ensures.put ∙ ap (put 8 8 c.fields_of-fields.result.number) s0 in
    let s2 = c.put_u32-2.ensures.put ∙ ap (put 16 4 c.fields_of-fields.result.account) s1 in
    let s3 = c.put_u32-3.ensures.put ∙ ap (put 20 4 c.fields_of-fields.result.other) s2 in
    let s4 = c.put_u64-2.ensures.put ∙ ap (put 24 8 (get_or c.fields_of-fields.result.amounts 0 0)) s3 in
    let s5 = c.put_u64-3.ensures.put ∙ ap (put 32 8 (get_or c.fields_of-fields.result.amounts 1 0)) s4 in
    let s6 = c.put_u64-4.ensures.put ∙ ap (put 40 8 (get_or c.fields_of-fields.result.amounts 2 0)) s5 in
    let s7 = c.put_u64-5.ensures.put ∙ ap (put 48 8 (get_or c.fields_of-fields.result.amounts 3 0)) s6 in
    let s8 = c.put_u64-6.ensures.put ∙ ap (put 56 8 (get_or c.fields_of-fields.result.amounts 4 0)) s7 in
    let s9 = c.put_u32-4.ensures.put ∙ ap (put 64 4 c.fields_of-fields.result.before) s8 in
    let s10 = c.put_u32-5.ensures.put ∙ ap (put 68 4 c.fields_of-fields.result.after) s9 in
    let size : length (whole c.fields_of-fields.result.kind c.fields_of-fields.result.client
    c.fields_of-fields.result.number c.fields_of-fields.result.account c.fields_of-fields.result.other
    (get_or c.fields_of-fields.result.amounts 0 0) (get_or c.fields_of-fields.result.amounts 1 0)
    (get_or c.fields_of-fields.result.amounts 2 0) (get_or c.fields_of-fields.result.amounts 3 0)
    (get_or c.fields_of-fields.result.amounts 4 0) c.fields_of-fields.result.before c.fields_of-fields.result.after)
    ≡ 96 = refl in
    let fields = fields_whole c.fields_of-fields.result.kind c.fields_of-fields.result.client
    c.fields_of-fields.result.number c.fields_of-fields.result.account c.fields_of-fields.result.other
    (get_or c.fields_of-fields.result.amounts 0 0) (get_or c.fields_of-fields.result.amounts 1 0)
    (get_or c.fields_of-fields.result.amounts 2 0) (get_or c.fields_of-fields.result.amounts 3 0)
    (get_or c.fields_of-fields.result.amounts 4 0) c.fields_of-fields.result.before c.fields_of-fields.result.after
    c.put_u32.ensures.fits c.put_u64.ensures.fits c.put_u32-2.ensures.fits c.put_u32-3.ensures.fits
    c.put_u64-2.ensures.fits c.put_u64-3.ensures.fits c.put_u64-4.ensures.fits c.put_u64-5.ensures.fits
    c.put_u64-6.ensures.fits c.put_u32-4.ensures.fits c.put_u32-5.ensures.fits ∙ c.fields_of-fields.ensures in
    let spells : Spells96 (whole c.fields_of-fields.result.kind c.fields_of-fields.result.client
    c.fields_of-fields.result.number c.fields_of-fields.result.account c.fields_of-fields.result.other
    (get_or c.fields_of-fields.result.amounts 0 0) (get_or c.fields_of-fields.result.amounts 1 0)
    (get_or c.fields_of-fields.result.amounts 2 0) (get_or c.fields_of-fields.result.amounts 3 0)
    (get_or c.fields_of-fields.result.amounts 4 0) c.fields_of-fields.result.before c.fields_of-fields.result.after)
    c.args.command.now = record { size = size; fields = fields } in
    subst (λ (l : List ℕ). Spells96 l c.args.command.now) (sym s10) spells

pub returns-clause-back : goal.returns-clause-back
returns-clause-back c = λ has. let spells = returns-clause-spelled c
    in command_is c.put_u32-5.new.bytes (fits_spelled c.put_u32-5.new.bytes c.args.command.now spells)
    ∙ ap Ok (of_spelled c.put_u32-5.new.bytes c.args.command.now spells has)

pub returns-clause-read : goal.returns-clause-read
returns-clause-read c = let spells = returns-clause-spelled c
    in command_is c.put_u32-5.new.bytes (fits_spelled c.put_u32-5.new.bytes c.args.command.now spells)
    ∙ ap (λ (f : Fields). Ok (command_in f)) spells.fields
    ∙ ap Ok (heard_back c.args.command.now.client c.args.command.now.number c.args.command.now.call)
