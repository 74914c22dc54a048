-- Replies that are cut anywhere are cut within the last of some first ones.
use Rattle.std.proofs.Common.{◌≡◌, ◌≢◌, ℕ, ◌<◌, ◌≤◌, List, [], ◌∷◌, ◌++◌, length, take, drop, Option, Err, refl, ap, sym, subst, ◌∙◌, append_assoc, append-nil, length-append, length-drop, arith, inl, inr}
use Rattle.std.specs.Prelude.{◌⊎◌}
use Rattle.std.proofs.lemmas.List.{take-append-drop}
use Rattle.std.proofs.lemmas.Option.{IfSome_then}
use Rattle.std.specs.List.{AllZip}
use Rattle.liq_types.specs.declared.amounts.TheConstants.{LINES_MOST}
use Rattle.liq_types.specs.declared.requests.Request.{Request}
use Rattle.liq_types.specs.State.{State}
use Rattle.liq_core.specs.Core.{Core, StandsFor}
use Rattle.liq_rule_step.specs.Step.{accepted, run, step}
use Rattle.liq_word_exit.specs.declared.halts.Halt.TheVariants.{WriteFault}
use Rattle.liq_word_exit.specs.Output.{lines}
use Rattle.liq_word_exit.specs.Requests.{IsRequest}
use Rattle.liq_word_run.specs.Progress.{Begins, Comes, Written}
use Rattle.liq_text_lines.specs.Writing.{WritesPart}
use Rattle.liq_text_lines.proofs.Bytes.{writes_more}
use Rattle.liq_text_lines.specs.Saying.{BeginsWith}
use Rattle.liq_text.specs.Replies.{reply_line}

-- one front goes on past the other, or it ends within it
front_split : (xs ys zs ws : List ℕ) → xs ++ ys ≡ zs ++ ws → ((t : List ℕ) × (zs ≡ xs ++ t) × (ys ≡ t ++ ws))
    ⊎ ((b : ℕ) × (t : List ℕ) × (xs ≡ zs ++ b ∷ t))
front_split [] ys zs ws e = inl (zs, refl, e)
front_split (x ∷ xs) ys [] ws e = inr (x, xs, refl)
front_split (x ∷ xs) ys (z ∷ zs) ws e = by (front_split xs ys zs ws cc) where
  by : ((t : List ℕ) × (zs ≡ xs ++ t) × (ys ≡ t ++ ws)) ⊎ ((b : ℕ) × (t : List ℕ) × (xs ≡ zs ++ b ∷ t))
      → ((t : List ℕ) × (z ∷ zs ≡ x ∷ xs ++ t) × (ys ≡ t ++ ws)) ⊎ ((b : ℕ) × (t : List ℕ) × (x ∷ xs ≡ z ∷ zs ++ b ∷ t))
  by (inl h) = inl (h.0, cc (e, h.1), h.2)
  by (inr h) = inr (h.0, h.1, cc (e, h.2))

-- a part of the replies ends within that to this request
record CutAt (s : State) (rs : List Request) (part : List ℕ) : Type 0 where
  earlier : List Request
  request : Request
  later : List Request
  split : rs ≡ earlier ++ request ∷ later
  tail : List ℕ
  behind : part ≡ lines s earlier ++ tail
  missing : List ℕ
  some : missing ≢ []
  whole : lines s (earlier ++ request ∷ []) ≡ part ++ missing

nothing_missing : (part missing : List ℕ) → [] ≡ part ++ missing → missing ≡ []
nothing_missing [] missing e = sym e
nothing_missing (x ∷ part) missing e = absurd cc

cut_at : (s : State) (rs : List Request) (part missing : List ℕ) → lines s rs ≡ part ++ missing → missing ≢ []
    → CutAt s rs part
cut_at s [] part missing e some = absurd (some (nothing_missing part missing e))
cut_at s (q ∷ rs) part missing e some =
    by (λ t e'. cut_at (step s q).0 rs t missing e' some) (front_split (reply_line (step s q).1) (lines (step s q).0 rs)
    part missing e) where
      by : ((t : List ℕ) → lines (step s q).0 rs ≡ t ++ missing → CutAt (step s q).0 rs t)
          → ((t : List ℕ) × (part ≡ reply_line (step s q).1 ++ t) × (lines (step s q).0 rs ≡ t ++ missing))
          ⊎ ((b : ℕ) × (t : List ℕ) × (reply_line (step s q).1 ≡ part ++ b ∷ t)) → CutAt s (q ∷ rs) part
      by rec (inl h) =
          let reply = reply_line (step s q).1 in
          let c = rec h.0 h.2 in
          record {
            earlier = q ∷ c.earlier;
            request = c.request;
            later = c.later;
            split = ap (λ (l : List Request). q ∷ l) c.split;
            tail = c.tail;
            behind = h.1 ∙ ap (λ (t : List ℕ). reply ++ t) c.behind
                ∙ sym (append_assoc reply (lines (step s q).0 c.earlier) c.tail);
            missing = c.missing;
            some = c.some;
            whole = ap (λ (t : List ℕ). reply ++ t) c.whole ∙ sym (append_assoc reply h.0 c.missing)
                ∙ ap (λ (t : List ℕ). t ++ c.missing) (sym h.1);
          }
      by rec (inr h) = record {
        earlier = [];
        request = q;
        later = rs;
        split = refl;
        tail = part;
        behind = refl;
        missing = h.0 ∷ h.1;
        some = λ e. cc;
        whole = append-nil (reply_line (step s q).1) ∙ h.2;
      }

-- ---- the requests up to the cut

spelled_front : (lines : List (List ℕ)) (xs ys : List Request) → AllZip IsRequest lines (xs ++ ys)
    → (front : List (List ℕ)) × (back : List (List ℕ)) × (lines ≡ front ++ back) × AllZip IsRequest front xs
spelled_front lines [] ys h = ([], lines, refl, tt)
spelled_front [] (x ∷ xs) ys h = absurd h
spelled_front (line ∷ lines) (x ∷ xs) ys h =
    let f = spelled_front lines xs ys h.1 in
    (line ∷ f.0, f.1, ap (λ (ls : List (List ℕ)). line ∷ ls) f.2, (h.0, f.3))

begins_front : (bytes : List ℕ) (xs ys : List Request) (more : List (List ℕ))
    → BeginsWith IsRequest bytes (xs ++ ys) more → (later : List (List ℕ)) × BeginsWith IsRequest bytes xs later
begins_front bytes xs ys more h =
    let f = spelled_front h.0 xs ys h.1 in
    (f.1 ++ more, (f.0, f.3, h.2 ∙ ap (λ (ls : List (List ℕ)). ls ++ more) f.2 ∙ append_assoc f.0 f.1 more))

missing_some : (k : ℕ) (xs : List ℕ) → k < length xs → drop k xs ≢ []
missing_some k xs lt e = omega (arith, length-drop k xs, ap length e)

-- what misses something behind a front is longer than it
cut_behind : (front part missing whole : List ℕ) → missing ≢ [] → whole ≡ (front ++ part) ++ missing
    → length front < length whole
cut_behind front part [] whole some is = absurd (some refl)
cut_behind front part (x ∷ missing) whole some is =
    omega (arith, ap length is, length-append (front ++ part) (x ∷ missing), length-append front part)

pub cut_comes : (start : State) (core : Core) (past : List Request → Type 0) (kept : State → Request
    → Type 0) (stopped : List Request → Request → Type 0) → (told : Option (List ℕ)) (requests : List Request) (left :
    Option (List ℕ)) (waited waits : List ℕ) (before now after : Option (List ℕ)) → length requests ≤ LINES_MOST
    → Begins told requests → Written start requests waited before now → StandsFor core (run start requests).0
    → past requests → WritesPart now waited after
    → Comes start (Err WriteFault) core past kept stopped told left waits before after
cut_comes start core past kept stopped told requests left waited waits before now after few begins written stands
    passed part =
    let k = part.0 in
    let all = written.replies ∙ ap (λ (t : List ℕ). written.front ++ t) (sym (take-append-drop k waited))
    ∙ sym (append_assoc written.front (take k waited) (drop k waited)) in
    let c = cut_at start requests (written.front ++ take k waited) (drop k waited) all (missing_some k waited part.1) in
    let same = c.split ∙ sym (append_assoc c.earlier (c.request ∷ []) c.later) in
    let steady = written.steady c.earlier c.later c.request c.split (cut_behind written.front (take k waited) c.missing
    _ c.some c.whole) in
    let begun : Begins told (c.earlier ++ c.request ∷ []) =
    IfSome_then told (subst (Begins told) same begins) (λ bytes b. begins_front bytes (c.earlier ++ c.request
    ∷ []) c.later b.0 b.1) in
    record {
      requests = c.earlier ++ c.request ∷ [];
      few = omega (arith, few, ap length same, length-append (c.earlier ++ c.request ∷ []) c.later);
      why = tt;
      read = begun;
      begins = begun;
      written = (
        written.front ++ take k waited,
        writes_more before now after written.front (take k waited) written.writes part.2,
        (c.earlier, c.request, refl, (c.tail, c.behind), (c.missing, c.some, c.whole)),
      );
      stands = subst (StandsFor core) (sym steady.0) stands;
      halted = (c.later, ap (accepted start) (sym same) ∙ sym steady.1, subst past same passed);
    }
