use Rattle.std.proofs.Common.{◌≡◌, refl, sym, subst, arith, ◌+◌, ◌%◌}
use Rattle.liq_types.specs.declared.requests.Call.TheVariants.{Send}
use Rattle.liq_sessions.specs.Generated.{call_of}
use Rattle.liq_sessions.proofs.generator.call_by.Goals as goal

pub returns-in_default : goal.returns-in_default
returns-in_default c =
    let last : c.args.kind ≡ 15 = omega (arith, c.requires.kind, c.in_default) in
    subst (λ kind. Send c.args.account (1 + c.args.number % 50) (1 + c.args.number)
    ≡ call_of kind c.args.account c.args.number) (sym last) refl
