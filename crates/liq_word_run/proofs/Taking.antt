-- A request on a line that was taken whole.
use Rattle.std.proofs.Common.{◌≡◌, ℕ, List, [], ◌∷◌, ◌++◌, Option, Some, None, Err, Ok, refl, ap, sym, subst, ◌∙◌, append_assoc}
use Rattle.liq_types.specs.declared.requests.Request.{Request}
use Rattle.liq_word_exit.specs.declared.halts.Halt.{Halt}
use Rattle.liq_word_exit.specs.declared.halts.Halt.TheVariants.{BadLine}
use Rattle.liq_word_exit.specs.Requests.{IsRequest}
use Rattle.liq_text_lines.specs.Lines.{IsWithinLine}
use Rattle.liq_text_lines.specs.Reading.{unread, Reads}
use Rattle.liq_text_lines.specs.Saying.{IsBadLine}
use Rattle.liq_word_run.specs.declared.run.Next.TheVariants.{Line}
use Rattle.liq_word_run.specs.Progress.{ReadsRequest, with_end}

line_read : (old line new : List ℕ) (left : Option (List ℕ)) → old ≡ line ++ 10 ∷ new
    → Reads (unread old left) (line ++ 10 ∷ []) (unread new left)
line_read old line new None is = refl
line_read old line new (Some more) is = ap (λ (t : List ℕ). Some (t ++ more)) (is
    ∙ sym (append_assoc line (10 ∷ []) new)) ∙ ap Some (append_assoc (line ++ 10 ∷ []) new more)

pub request_taken : (old line new : List ℕ) (left : Option (List ℕ)) (number : ℕ) (request : Request)
    → IsRequest line request → IsWithinLine line → old ≡ line ++ 10 ∷ new
    → ReadsRequest (unread old left) (unread new left) new number (Ok (Line request))
request_taken old line new left number request is within whole = (line, is, within, line_read old line new left whole)

pub bad_taken : (old line new : List ℕ) (left : Option (List ℕ)) (number : ℕ) (halt : Halt) → halt ≡ BadLine number
    → IsBadLine IsRequest line → IsWithinLine line → old ≡ line ++ 10 ∷ new
    → ReadsRequest (unread old left) (unread new left) new number (Err halt)
bad_taken old line new left number halt is bad within whole =
    subst (λ (h : Halt). ReadsRequest (unread old left) (unread new left) new number (Err h)) (sym is) (
      refl,
      with_end line bad within (line_read old line new left whole),
    )
