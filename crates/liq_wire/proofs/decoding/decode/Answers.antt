use Rattle.std.proofs.Common.{◌≡◌, sym, ◌∙◌, ap, rules, subst, Ok, List, ℕ, ◌<◌, take, drop}
use Rattle.liq_types.specs.declared.requests.Command.{Command}
use Rattle.liq_wire.specs.Fields.{Fields, Spells96, HasHints, misfit, fields_at, number_at, call_in, command_in}
use Rattle.liq_wire.specs.View.{seen}
use Rattle.liq_types.specs.declared.requests.Call.{Call}
use Rattle.liq_wire.specs.declared.fields.Fields as program
use Rattle.liq_wire.proofs.Spelling.{read_back, of_spelled, fits_spelled, command_is, misfit_is}
use Rattle.liq_wire.proofs.decoding.decode.Goals as goal

pub returns-in-Some-clause-exact : goal.returns-in-Some-clause-exact
returns-in-Some-clause-exact c = let e = c.first_misfit.ensures in let i = c.in-Some.is
    in let r = c.read-fields.ensures.fields
    in misfit_is c.args.bytes.now c.in-Some.place (sym (ap misfit c.read-fields.ensures.fields)
    ∙ sym c.first_misfit.ensures ∙ c.in-Some.is)

pub returns-in-Some-clause-only : goal.returns-in-Some-clause-only
returns-in-Some-clause-only c = λ d spells has. let fits = fits_spelled c.args.bytes.now d spells
    in let is = sym (ap misfit c.read-fields.ensures.fields) ∙ sym c.first_misfit.ensures ∙ c.in-Some.is
    in absurd (cc (fits, is))

pub returns-in-Some-clause-refused : goal.returns-in-Some-clause-refused
returns-in-Some-clause-refused c = λ d spells. let fits = fits_spelled c.args.bytes.now d spells
    in let is = sym (ap misfit c.read-fields.ensures.fields) ∙ sym c.first_misfit.ensures ∙ c.in-Some.is
    in cc (fits, is)

of_call : (f : Fields) → HasHints (call_in f) → HasHints (command_in f).call
unfolding command_in
of_call f has = has

same : (f : program.Fields) (gap rest : List ℕ) (call : Call) → call ≡ call_in (seen f gap rest)
    → ◌≡◌ {A = Command} (record { client = f.client; number = f.number; call = call }) (command_in (seen f gap rest))
unfolding command_in
same f gap rest call is = λ i. record { client = f.client; number = f.number; call = is i }

pub returns-in-None-clause-exact : goal.returns-in-None-clause-exact
returns-in-None-clause-exact c = command_is c.args.bytes.now (sym (ap misfit c.read-fields.ensures.fields)
    ∙ sym c.first_misfit.ensures ∙ c.in-None.is)
    ∙ ap Ok (sym (same c.read-fields.result (take 3 (drop 1 c.args.bytes.now)) (drop 72 c.args.bytes.now)
    c.call_in.result (c.call_in.ensures (take 3 (drop 1 c.args.bytes.now)) (drop 72 c.args.bytes.now))
    ∙ ap command_in c.read-fields.ensures.fields))

pub returns-in-None-clause-found : goal.returns-in-None-clause-found
returns-in-None-clause-found c =
    let before : number_at 64 4 c.args.bytes.now < 4294967296 =
    subst (λ (n : ℕ). n < 4294967296) (ap (λ (f : Fields). f.before) c.read-fields.ensures.fields)
    c.read-fields.ensures.hints.0 in
    let after : number_at 68 4 c.args.bytes.now < 4294967296 =
    subst (λ (n : ℕ). n < 4294967296) (ap (λ (f : Fields). f.after) c.read-fields.ensures.fields)
    c.read-fields.ensures.hints.1 in
    let back = read_back (fields_at c.args.bytes.now) before after (sym (ap misfit c.read-fields.ensures.fields)
    ∙ sym c.first_misfit.ensures ∙ c.in-None.is) in
    let at : Spells96 c.args.bytes.now (command_in (fields_at c.args.bytes.now)) = record {
      size = search rules;
      fields = sym back.0;
    } in (
      subst (λ (d : Command). Spells96 c.args.bytes.now d)
          (sym (same c.read-fields.result (take 3 (drop 1 c.args.bytes.now)) (drop 72 c.args.bytes.now) c.call_in.result
          (c.call_in.ensures (take 3 (drop 1 c.args.bytes.now)) (drop 72 c.args.bytes.now))
          ∙ ap command_in c.read-fields.ensures.fields)) at,
      subst (λ (d : Command). HasHints d.call)
          (sym (same c.read-fields.result (take 3 (drop 1 c.args.bytes.now)) (drop 72 c.args.bytes.now) c.call_in.result
          (c.call_in.ensures (take 3 (drop 1 c.args.bytes.now)) (drop 72 c.args.bytes.now))
          ∙ ap command_in c.read-fields.ensures.fields)) (of_call (fields_at c.args.bytes.now) back.1),
    )

pub returns-in-None-clause-only : goal.returns-in-None-clause-only
returns-in-None-clause-only c = λ d spells has. ap Ok ((same c.read-fields.result (take 3 (drop 1 c.args.bytes.now))
    (drop 72 c.args.bytes.now) c.call_in.result (c.call_in.ensures (take 3 (drop 1 c.args.bytes.now))
    (drop 72 c.args.bytes.now)) ∙ ap command_in c.read-fields.ensures.fields)
    ∙ of_spelled c.args.bytes.now d spells has)
