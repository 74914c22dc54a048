use Rattle.std.proofs.Common.{◌≡◌, ◌+◌, false, true, cond, nat_lt, Some, None, refl, ap, sym, ◌∙◌, arith}
use Rattle.std.proofs.lemmas.Bool.Decides.{nat_tests}
use Rattle.liq_types.specs.declared.amounts.TheConstants.{GENERATIONS_MOST, CHECKPOINT_BYTES_MOST}
use Rattle.liq_types.specs.declared.replies.Refusal.TheVariants.{AmountLimit}
use Rattle.liq_types.specs.declared.requests.Call.TheVariants.{Rotate}
use Rattle.liq_types.specs.declared.requests.Command.{Command}
use Rattle.liq_rule_step.specs.Image.{image}
use Rattle.liq_types.specs.Length.{checkpoint_length}
use Rattle.liq_rule_step.specs.Step.{after}
use Rattle.liq_rule_step.proofs.Ruled.{refused_room}
use Rattle.liq_rule_step.proofs.laws.long_checkpoints_refuse_rotation.Goals as goal

pub returns : goal.returns
returns c s client number within next few bytes is long =
    let command : Command = record { client = client; number = number; call = Rotate } in
    let further : nat_lt GENERATIONS_MOST (s.generation + 1) ≡ false = grind (arith, nat_tests, few) in
    let above : nat_lt CHECKPOINT_BYTES_MOST bytes ≡ true = grind (arith, nat_tests, long) in
    refused_room s command (AmountLimit bytes CHECKPOINT_BYTES_MOST) within next refl
    (ap (λ b. cond b (Some (AmountLimit (s.generation + 1) GENERATIONS_MOST))
    (cond (nat_lt CHECKPOINT_BYTES_MOST (checkpoint_length (image (after s command))))
    (Some (AmountLimit (checkpoint_length (image (after s command))) CHECKPOINT_BYTES_MOST)) None)) further
    ∙ ap (λ n. cond (nat_lt CHECKPOINT_BYTES_MOST n) (Some (AmountLimit n CHECKPOINT_BYTES_MOST)) None) (sym is)
    ∙ ap (λ b. cond b (Some (AmountLimit bytes CHECKPOINT_BYTES_MOST)) None) above)
