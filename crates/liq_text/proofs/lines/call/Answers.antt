use Rattle.std.proofs.Common.{Bool, ap, ◌∙◌}
use Rattle.std.specs.Bool.{then_some}
use Rattle.liq_text.specs.Names.{verb_of}
use Rattle.liq_text.specs.Pieces.{pieces_left, finished}
use Rattle.liq_text.proofs.FormLaws.{call_unread, call_done}
use Rattle.liq_text.proofs.lines.call.Goals as goal

pub returns-in_err-verb : goal.returns-in_err-verb
returns-in_err-verb c = c.from_residual.ensures
    ∙ call_unread (pieces_left c.args.words.now) c.meaning.result c.args.words.now.has_failed c.in_err-verb.was
    (c.meaning.ensures ∙ ap verb_of c.next.ensures.word)

pub returns : goal.returns
unfolding finished
returns c =
    c.then_some.ensures ∙ ap (λ (d : Bool). then_some d c.arguments-call.result) c.is_done.ensures
    ∙ call_done (pieces_left c.args.words.now) c.meaning.result c.in_ok-verb.verb c.args.words.now.has_failed _ _ _
    c.in_ok-verb.was (c.meaning.ensures ∙ ap verb_of c.next.ensures.word) c.next.ensures.same c.next.ensures.left
    c.arguments-call.ensures
