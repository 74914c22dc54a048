-- Behind any requests no depositor has more than its share, or less by more than is allowed.
use Rattle.std.proofs.Common.{List, ◌++◌, ap, sym, ◌∙◌}
use Rattle.liq_types.specs.declared.requests.Request.{Request}
use Rattle.liq_types.specs.State.{State, opening_with}
use Rattle.liq_types.specs.WellFormed.{IsWellFormed}
use Rattle.liq_rule_step.specs.Image.{image}
use Rattle.liq_rule_step.specs.Step.{run}
use Rattle.liq_rule_step.proofs.AlikeReads.{Alike}
use Rattle.liq_rule_step.proofs.AlikeReplies.{alike_itself, run_alike}
use Rattle.liq_rule_step.proofs.Runs.{run_state}
use Rattle.liq_rule_sound.proofs.SoundPromises.{same_shares}
use Rattle.liq_disk_pair.proofs.Replaying.{opening_formed}
use Rattle.liq_word_exit.specs.Stops.{HaveTheirShares}

pub all_shares : (start : State) (requests : List Request) → IsWellFormed start → HaveTheirShares start requests
all_shares start requests formed limit known earlier same account =
    let reached : Alike (run (opening_with limit) earlier).0 start = record {
      image = same.image;
      records = same.records;
      left = (run_alike earlier (alike_itself (opening_with limit) (opening_formed limit))).left;
      right = formed;
    } in
    let then = run_alike requests reached in
    same_shares limit known (earlier ++ requests) (run start requests).0 then.right (sym then.image
    ∙ ap image (sym (run_state (opening_with limit) earlier requests))) account
