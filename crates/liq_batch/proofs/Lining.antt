-- One line more of a text.
use Rattle.std.proofs.Common.{◌≡◌, ℕ, ◌+◌, ◌-◌, ◌<◌, List, [], ◌∷◌, ◌++◌, length, take, drop, refl, ap, sym, ◌∙◌, subst}
use Rattle.std.proofs.Common.{arith, length-append, length-drop, inr, Some, Ok}
use Rattle.std.proofs.lemmas.Grind.{flat_map-append}
use Rattle.std.proofs.lemmas.List.{length-take-le, append-nil, append_assoc, drop-drop}
use Rattle.std.proofs.Math.Seq.{take-add, take-append-add, take-append_seam, drop-append_seam, take-length}
use borrow.Rule.Slice.PartMut.{put_mid, post_of}
use Rattle.std.specs.List.{AllZip, flat_map}
use Rattle.liq_types.specs.declared.replies.Reply.{Reply}
use Rattle.liq_types.specs.declared.requests.Request.{Request}
use Rattle.liq_types.specs.State.{State}
use Rattle.liq_core.specs.Core.{StandsFor}
use Rattle.liq_market.specs.Content.{Content}
use Rattle.liq_market.specs.Touching.{touched_after}
use Rattle.liq_rule_step.specs.Step.{step, run}
use Rattle.liq_rule_step.proofs.Runs.{run_state, run_replies}
use Rattle.liq_text_lines.specs.Lines.{ended, IsWithinLine}
use Rattle.liq_text.specs.Spelling.{Spells}
use Rattle.liq_text.specs.Replies.{reply_line}
use Rattle.liq_batch.specs.declared.lines.LineFault.{LineFault}
use Rattle.liq_batch.specs.declared.lines.LineFault.TheVariants.{Short, Bad, NoMemory}
use Rattle.liq_batch.specs.Batch.{Writes, touched_after_all}
use Rattle.liq_batch.specs.Texts.{AnswersLine, BeginsWithLine, EndsText, HasLineFault}
use Rattle.liq_batch.proofs.Ways.{touched_more}

-- a line of this length stands in front, and its line end behind it
abbrev pub IsFirstLine : ℕ → List ℕ → Type 0
IsFirstLine size rest =
    (size < length rest) × IsWithinLine (take size rest) × (rest ≡ take size rest ++ 10 ∷ drop (size + 1) rest)

-- in a part of a text, as the code has it
pub rest_of : (text : List ℕ) (taken size : ℕ)
    → IsFirstLine size (take (length text - taken) (drop taken text)) → IsFirstLine size (drop taken text)
rest_of text taken size first =
    let all = ap (λ (n : ℕ). take n (drop taken text)) (sym (length-drop taken text)) ∙ take-length (drop taken text) in
    subst (IsFirstLine size) all first

-- what is so behind the first lines
pub record TextSoFar (s : State) (text : List ℕ) (taken written : ℕ) (before now : Content) (old new : List ℕ)
    : Type 0 where
  pub asked : List (List ℕ)
  pub requests : List Request
  pub spelled : AllZip Spells asked requests
  pub is : take taken text ≡ ended asked
  pub stands : StandsFor now.core (run s requests).0
  pub touched : now.touched ≡ touched_after_all s requests before.touched
  pub filled : Writes old (flat_map reply_line (run s requests).1) new
  pub count : written ≡ length (flat_map reply_line (run s requests).1)

pub text_begun : (s : State) (text : List ℕ) (now : Content) (old : List ℕ) → StandsFor now.core s
    → TextSoFar s text 0 0 now now old old
text_begun s text now old stands = record {
  asked = [];
  requests = [];
  spelled = tt;
  is = refl;
  stands = stands;
  touched = refl;
  filled = refl;
  count = refl;
}

lines_more : (asked : List (List ℕ)) (requests : List Request) (line : List ℕ) (r : Request)
    → AllZip Spells asked requests → Spells line r
    → AllZip Spells (asked ++ line ∷ []) (requests ++ r ∷ [])
lines_more [] [] line r all one = (one, tt)
lines_more [] (q ∷ requests) line r all one = absurd all
lines_more (l ∷ asked) [] line r all one = absurd all
lines_more (l ∷ asked) (q ∷ requests) line r all one = (all.0, lines_more asked requests line r all.1 one)

-- the line in front of a text, and its line end
taken_line : (text : List ℕ) (size : ℕ)
    → size < length text → text ≡ take size text ++ 10 ∷ drop (size + 1) text
    → take (size + 1) text ≡ take size text ++ 10 ∷ []
taken_line text size low is =
    ap (take (size + 1)) is
    ∙ ap (λ (n : ℕ). take (n + 1) (take size text ++ 10 ∷ drop (size + 1) text))
    (sym (length-take-le size text (omega (arith, low))))
    ∙ take-append-add (take size text) (10 ∷ drop (size + 1) text) 1

ended_more : (asked : List (List ℕ)) (line : List ℕ) → ended (asked ++ line ∷ []) ≡ ended asked ++ (line ++ 10 ∷ [])
ended_more asked line =
    flat_map-append (λ (l : List ℕ). l ++ 10 ∷ []) asked (line ∷ [])
    ∙ ap (λ (back : List ℕ). ended asked ++ back) (append-nil (line ++ 10 ∷ []))

replied : (s : State) (rs : List Request) (r : Request)
    → flat_map reply_line (run s (rs ++ r ∷ [])).1
    ≡ flat_map reply_line (run s rs).1 ++ reply_line (step (run s rs).0 r).1
replied s rs r =
    ap (λ (replies : List Reply). flat_map reply_line replies) (run_replies s rs (r ∷ []))
    ∙ flat_map-append reply_line (run s rs).1 ((step (run s rs).0 r).1 ∷ [])
    ∙ ap (λ (back : List ℕ). flat_map reply_line (run s rs).1 ++ back) (append-nil (reply_line (step (run s rs).0 r).1))

-- bytes are written behind what was written
written_more : (front old reply : List ℕ)
    → put_mid (length front) (length reply) (front ++ drop (length front) old) reply
    ≡ (front ++ reply) ++ drop (length (front ++ reply)) old
written_more front old reply =
    (λ i. take-append_seam front (drop (length front) old) i ++ (reply ++ post i))
    ∙ sym (append_assoc front reply (drop (length front + length reply) old))
    ∙ ap (λ (n : ℕ). (front ++ reply) ++ drop n old) (sym (length-append front reply))
  where
    post : post_of (length front) (length reply) (front ++ drop (length front) old)
        ≡ drop (length front + length reply) old
    post =
        ap (λ (rest : List ℕ). drop (length reply) rest) (drop-append_seam front (drop (length front) old))
        ∙ drop-drop (length reply) (length front) old

pub text_more : (s : State) (text : List ℕ) (taken written size len count : ℕ) (before now after : Content)
    (old new reply : List ℕ)
    → size < length (drop taken text)
    → drop taken text ≡ take size (drop taken text) ++ 10 ∷ drop (size + 1) (drop taken text)
    → len ≡ length reply → count ≡ length reply
    → TextSoFar s text taken written before now old new
    → ((t : State) → StandsFor now.core t
    → AnswersLine {A = Unit {0}} t (take size (drop taken text)) (Ok tt) reply now after)
    → TextSoFar s text (taken + (size + 1)) (written + count) before after old (put_mid written len new reply)
text_more s text taken written size len count before now after old new reply low is long long_2 so answer =
    let line = take size (drop taken text) in
    let got = answer (run s so.requests).0 so.stands in
    let front = flat_map reply_line (run s so.requests).1 in
    let whole = replied s so.requests got.0 ∙ ap (λ (back : List ℕ). front ++ back) (sym got.3) in
    record {
      asked = so.asked ++ line ∷ [];
      requests = so.requests ++ got.0 ∷ [];
      spelled = lines_more so.asked so.requests line got.0 so.spelled got.1;
      is =
          take-add taken (size + 1) text
          ∙ (λ i. so.is i ++ taken_line (drop taken text) size low is i) ∙ sym (ended_more so.asked line);
      stands = subst (StandsFor after.core) (sym (run_state s so.requests (got.0 ∷ []))) got.2;
      touched =
          got.4 ∙ ap (touched_after (run s so.requests).0 got.0) so.touched
          ∙ sym (touched_more s so.requests got.0 before.touched);
      filled =
          (λ i. put_mid (so.count i) (long i) (so.filled i) reply) ∙ written_more front old reply
          ∙ ap (λ (now : List ℕ). now ++ drop (length now) old) (sym whole);
      count =
          (λ i. so.count i + long_2 i) ∙ sym (length-append front reply)
          ∙ ap (λ (now : List ℕ). length now) (sym whole);
    }

-- why the text is left at a line
pub left_at : (s : State) (rest line : List ℕ) (room taken : ℕ) (fault : LineFault)
    → BeginsWithLine line rest → HasLineFault s line fault → EndsText s rest room taken (Some fault)
left_at s rest line room taken Short begins has = absurd has
left_at s rest line room taken Bad begins has = (line, begins, has)
left_at s rest line room taken NoMemory begins has = inr (line, begins, has)
