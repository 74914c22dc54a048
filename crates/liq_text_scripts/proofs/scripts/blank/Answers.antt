use Rattle.std.proofs.Common.{◌+◌, List, [], ◌∷◌, ◌++◌, ap, sym, ◌∙◌, arith}
use Rattle.std.specs.Prelude.{map}
use Rattle.std.specs.List.{range_with_len}
use Rattle.std.proofs.lemmas.List.FromFn.{map-range_with_len_more}
use Rattle.liq_sessions.specs.declared.script.Script.{Script}
use Rattle.liq_types.specs.declared.requests.Request.{Request}
use Rattle.liq_text_scripts.specs.BySession.{script_of}
use Rattle.liq_text_scripts.proofs.scripts.blank.Goals as goal

pub loop-before-preserved : goal.loop-before-preserved
loop-before-preserved c =
    let before = c.loop-before.before in
    let script = λ (requests : List Request). let s : Script = record {
      session = before + 1;
      requests = requests;
    } in s in
    c.in_ok-push.ensures.items
    ∙ ap (λ (scripts : List Script). scripts ++ script c.new.result ∷ []) c.loop-before.invariant
    ∙ ap (λ (requests : List Request). map (script_of []) (range_with_len 1 before) ++ script requests
    ∷ []) c.new.ensures
    ∙ sym (map-range_with_len_more (script_of []) 1 before (before + 1) (omega arith))
