use Rattle.std.proofs.Common.{◌≡◌, ◌^◌, ◌+◌, ◌∷◌, List, ap, sym, subst, ◌∙◌, length, arith, None}
use Rattle.std.specs.Prelude.{unwrap_or}
use Rattle.liq_types.specs.declared.requests.Call.{Call}
use Rattle.liq_types.specs.declared.image.Image.{Image}
use Rattle.liq_types.specs.Ranked.{first_of}
use Rattle.liq_types.specs.State.{no_client}
use Rattle.liq_types.specs.Tables.{at}
use Rattle.liq_sessions.specs.Generated.{generated}
use Rattle.liq_word_gen.specs.Carrying.{none_yet}
use Rattle.liq_word_gen.proofs.Loads.{Underway, begun, gone_on, come_to_end, some_left, none_left, within_more}
use Rattle.liq_word_gen.proofs.load.Load.carried_out.Goals as goal

pub loop-call-init : goal.loop-call-init
loop-call-init g c =
    let all = generated c.args.seed c.args.count in
    let calls_are = sym c.generate-calls.ensures.calls in
    record {
      underway = subst (λ (calls : List Call). Underway c.new.result none_yet calls all) calls_are
          (begun c.new.result all c.new.ensures);
      made = 0;
      made_is = omega (arith, c.generate-calls.ensures.many);
      few = record { commands = omega arith; offsets = omega arith };
      numbered = ap (λ (i : Image). (unwrap_or (at i.clients 1) no_client).last) c.new.ensures.image;
    }

pub carry_out-requires-clause-few : goal.carry_out-requires-clause-few
carry_out-requires-clause-few g c =
    let i = c.loop-call.invariant in
    within_more i.made (2 ^ 32) c.loop-call.done.counts (omega (arith, i.made_is, c.requires)) i.few

pub loop-call-preserved : goal.loop-call-preserved
loop-call-preserved g c =
    let i = c.loop-call.invariant in
    let all = generated c.args.seed c.args.count in
    let calls_are : c.loop-call.calls ≡ c.in-Some.call ∷ c.next.new.self =
    some_left c.loop-call.calls c.in-Some.call c.in-Some.ensures.first
    ∙ ap (λ (calls : List Call). c.in-Some.call ∷ calls) (sym c.in-Some.ensures.rest) in
    let u = subst (λ (calls : List Call). Underway c.loop-call.done.protocol c.loop-call.done.counts calls all)
    calls_are i.underway in
    let done = c.in_ok-carry_out.ensures.done u.now u.stands in
    record {
      underway = gone_on c.loop-call.done.protocol c.carry_out.new.self.protocol c.loop-call.done.counts
          c.carry_out.new.self.counts c.in-Some.call c.next.new.self all u done.0 done.1;
      made = i.made + 1;
      made_is = omega (arith, i.made_is, ap length calls_are);
      few = c.carry_out.ensures.few i.made i.few;
      numbered = c.carry_out.ensures.numbered;
    }

pub returns : goal.returns
returns g c =
    let all = generated c.args.seed c.args.count in
    let none : first_of c.loop-call.calls ≡ None = sym c.in_default.ensures.first in
    come_to_end c.loop-call.done.protocol c.loop-call.done.counts all
    (subst (λ (calls : List Call). Underway c.loop-call.done.protocol c.loop-call.done.counts calls all)
    (none_left c.loop-call.calls none) c.loop-call.invariant.underway)
