-- What one line more makes of a run.
use Rattle.std.proofs.Common.{◌≡◌, ◌≢◌, Bool, Result, ℕ, ◌+◌, ◌<◌, ◌≤◌, List, [], ◌∷◌, ◌++◌, Option, Some, None, refl, ap, sym, ap₂, subst, ◌∙◌, append_assoc, append-nil, length-append, arith, length, Ok, Err, inl, inr}
use Rattle.std.specs.Prelude.{◌⊎◌, IfSome}
use Rattle.std.specs.List.{AllZip}
use Rattle.liq_types.specs.declared.requests.Request.{Request}
use Rattle.liq_types.specs.declared.requests.Request.TheVariants.{Do, Ask}
use Rattle.liq_types.specs.declared.amounts.TheConstants.{LINES_MOST}
use Rattle.liq_types.specs.State.{State}
use Rattle.liq_core.specs.Core.{Core, StandsFor}
use Rattle.liq_rule_step.specs.Step.{accepted, step, run}
use Rattle.liq_word_exit.specs.declared.halts.Halt.{Halt}
use Rattle.liq_word_exit.specs.declared.halts.Halt.TheVariants.{BadLine, ReadFault, WriteFault, DiskFault, Damaged, DamagedInput, NoMemory, Limit, Rotated}
use Rattle.liq_word_exit.specs.Output.{lines}
use Rattle.liq_word_exit.specs.Requests.{IsNext, IsRequest}
use Rattle.liq_text_lines.specs.Lines.{lines_in, ended, IsWithinLine}
use Rattle.liq_text_lines.specs.Reading.{unread, Reads, IsOver}
use Rattle.liq_text_lines.proofs.Bytes.{reads_more, writes_nothing, writes_more}
use Rattle.liq_text_lines.proofs.LinesRead.{lines_in-unended, lines_in-ended_all, ended-append, within-append}
use Rattle.liq_text_lines.proofs.Told.{first-begun, first-ended, only-unended, over_left}
use Rattle.liq_word_run.specs.Passing.{PassesBy}
use Rattle.liq_word_run.specs.Progress.{Answered, Answers, Begins, Comes, ReadsBad, ReadsRequest, Turns, Written}
use Rattle.liq_word_run.specs.Calls.{IsCommand}
use Rattle.liq_word_run.specs.Writing.{WritesFront}
use Rattle.liq_word_run.proofs.BadLines.{first_is_bad}
use Rattle.liq_word_run.proofs.Cutting.{cut_comes}
use Rattle.liq_word_run.proofs.Progressing.{after-more, asked-more, lines-more, requests-more}
use Rattle.liq_text.specs.Replies.{reply_line}

-- what holds of the bytes that a source told, of which these were read, holds where it told any
of_told : (P : List ℕ → Type 0) (told u : Option (List ℕ)) (xs : List ℕ) → Reads told xs u
    → ((rest : List ℕ) → u ≡ Some rest → P (xs ++ rest)) → IfSome told P
of_told P told None xs reads holds = subst (λ (o : Option (List ℕ)). IfSome o P) (sym reads) tt
of_told P told (Some rest) xs reads holds = subst (λ (o : Option (List ℕ)). IfSome o P) (sym reads) (holds rest refl)

-- what is left of a source of which nothing more was taken
left_of : (taken rest : List ℕ) (left : Option (List ℕ)) → unread taken left ≡ Some rest → (more : List ℕ)
    × (left ≡ Some more) × (rest ≡ taken ++ more)
left_of taken rest None is = absurd (cc is)
left_of taken rest (Some more) is = (more, refl, cc is)

module _ (start : State) (told : Option (List ℕ)) (n : ℕ) (core : Core) (u : Option (List ℕ)) (w : List ℕ)
    (before now : Option (List ℕ)) (past : List Request
    → Type 0) (a : Answered start told n core u w before now past) where
  -- what follows the answered lines
  begins : (rest : List ℕ) → lines_in (ended a.front ++ rest) ≡ a.front ++ lines_in rest
  begins rest = lines_in-ended_all a.front rest a.within

  of_answered : (P : List ℕ → Type 0) → ((rest : List ℕ) → u ≡ Some rest → P (ended a.front ++ rest)) → IfSome told P
  of_answered P holds = of_told P told u (ended a.front) a.reads holds

  begins_with : Begins told a.requests
  begins_with = of_answered _ (λ rest is. (lines_in rest, (a.front, a.spelled, begins rest)))

-- ---- a front of what waits is written

written_on : (start : State) (requests : List Request) (w w' : List ℕ) (before now now' : Option (List ℕ))
    → Written start requests w before now → WritesFront (Ok tt) w w' now now' → Written start requests w' before now'
written_on start requests w w' before now now' h f =
    record {
      front = h.front ++ f.0;
      writes = writes_more before now now' h.front f.0 h.writes f.1;
      replies = h.replies ∙ ap (λ (t : List ℕ). h.front ++ t) f.2 ∙ sym (append_assoc h.front f.0 w');
      steady = λ earlier later request is behind. h.steady earlier later request is (omega (
        arith,
        behind,
        length-append h.front f.0,
      ));
    }

pub answered_on : (start : State) (told : Option (List ℕ)) (n : ℕ) (core : Core) (u : Option (List ℕ)) (w w' : List ℕ)
    (before now now' : Option (List ℕ)) (past past' : List Request → Type 0) → ((rs : List Request) → past rs
    → past' rs) → Answered start told n core u w before now past → WritesFront (Ok tt) w w' now now'
    → Answered start told n core u w' before now' past'
answered_on start told n core u w w' before now now' past past' on a f =
    record {
      requests = a.requests;
      front = a.front;
      spelled = a.spelled;
      within = a.within;
      count = a.count;
      reads = a.reads;
      stands = a.stands;
      written = written_on start a.requests w w' before now now' a.written f;
      passed = on a.requests a.passed;
    }

-- it cannot be written
pub answered_cut : (start : State) (past past' : List Request → Type 0) → ((rs : List Request) → past rs → past' rs)
    → (kept : State → Request → Type 0) (stopped : List Request → Request → Type 0)
    → (halt : Halt) (told : Option (List ℕ)) (n : ℕ) (core : Core) (u left : Option (List ℕ)) (w w' : List ℕ)
    (before now now' : Option (List ℕ)) → n ≤ LINES_MOST → Answered start told n core u w before now past
    → WritesFront (Err halt) w w' now now' → Comes start (Err halt) core past' kept stopped told left w' before now'
answered_cut start past past' on kept stopped (BadLine n) told m core u left w w' before now now' few a f = absurd f
answered_cut start past past' on kept stopped ReadFault told m core u left w w' before now now' few a f = absurd f
answered_cut start past past' on kept stopped NoMemory told m core u left w w' before now now' few a f = absurd f
answered_cut start past past' on kept stopped DiskFault told m core u left w w' before now now' few a f = absurd f
answered_cut start past past' on kept stopped (Damaged side number) told m core u left w w' before now now' few a f =
    absurd f
answered_cut start past past' on kept stopped (Limit number) told m core u left w w' before now now' few a f = absurd f
answered_cut start past past' on kept stopped (Rotated generation) told m core u left w w' before now now' few a f =
    absurd f
answered_cut start past past' on kept stopped (DamagedInput number) told m core u left w w' before now now' few a f =
    absurd f
answered_cut start past past' on kept stopped WriteFault told m core u left w w' before now now' few a f =
    cut_comes start core past' kept stopped told a.requests left w w' before now now' (omega (arith, few, a.count))
    (begins_with start told m core u w before now past a) a.written a.stands (on a.requests a.passed) f

-- ---- the run stops at the next line

pub reading_fails : (start : State) (past : List Request → Type 0) (kept : State → Request
    → Type 0) (stopped : List Request → Request → Type 0) (told : Option (List ℕ)) (taken : List ℕ) (n : ℕ) (core :
    Core) (u left : Option (List ℕ)) (w : List ℕ) (before now : Option (List ℕ)) → n ≤ LINES_MOST
    → (r : ReadsRequest u (unread taken left) taken (n + 1) (Err ReadFault)) → (n ≡ LINES_MOST → r.0 ≡ [])
    → Answered start told n core u w before now past
    → Comes start (Err ReadFault) core past kept stopped told left w before now
reading_fails start past kept stopped told taken n core u left w before now few r none a =
    record {
      requests = a.requests;
      few = omega (arith, few, a.count);
      why = tt;
      read = of_told _ told (unread taken left) (ended a.front ++ r.0)
          (reads_more told u (unread taken left) (ended a.front) r.0 a.reads r.2)
          (λ rest is.
          let got = left_of taken rest left is in (
            a.front,
            a.spelled,
            (
              r.0,
              record { within = r.1; short = r.4; none_behind = λ e. none (omega (arith, e, a.count)) },
              (
                got.0,
                got.1,
                ap (λ (t : List ℕ). (ended a.front ++ r.0) ++ t) (got.2 ∙ ap (λ (t : List ℕ). t ++ got.0) r.3),
              ),
            ),
          ));
      begins = begins_with start told n core u w before now past a;
      written = a.written;
      stands = a.stands;
      halted = a.passed;
    }

pub reading_halts : (start : State) (past : List Request → Type 0) (kept : State → Request
    → Type 0) (stopped : List Request → Request → Type 0) (halt : Halt) (told : Option (List ℕ)) (taken : List ℕ) (n :
    ℕ) (core : Core) (u left : Option (List ℕ)) (w : List ℕ) (before now : Option (List ℕ)) → n < LINES_MOST
    → ReadsRequest u (unread taken left) taken (n + 1) (Err halt) → Answered start told n core u w before now past
    → Comes start (Err halt) core past kept stopped told left w before now
reading_halts start past kept stopped (BadLine at) told taken n core u left w before now few r a =
    let number = r.0 ∙ ap (λ m. m + 1) (sym a.count) in
    record {
      requests = a.requests;
      few = omega (arith, few, a.count);
      why = (number, omega (arith, few, r.0));
      read = of_answered start told n core u w before now past a _
          (λ rest is.
          let bad = first_is_bad rest (unread taken left) (subst (λ (v : Option (List ℕ)). ReadsBad v
          (unread taken left)) is r.1) in (
            number,
            omega (arith, few, r.0),
            (
              bad.0,
              bad.1,
              (
                bad.2.0,
                (
                  a.front,
                  a.spelled,
                  begins start told n core u w before now past a rest
                      ∙ ap (λ (ls : List (List ℕ)). a.front ++ ls) bad.2.1,
                ),
              ),
            ),
          ));
      begins = begins_with start told n core u w before now past a;
      written = a.written;
      stands = a.stands;
      halted = a.passed;
    }
reading_halts start past kept stopped ReadFault told taken n core u left w before now few r a =
    reading_fails start past kept stopped told taken n core u left w before now (omega (arith, few)) r
    (λ e. absurd (omega (arith, e, few))) a
reading_halts start past kept stopped WriteFault told taken n core u left w before now few r a = absurd r
reading_halts start past kept stopped NoMemory told taken n core u left w before now few r a = absurd r
reading_halts start past kept stopped DiskFault told taken n core u left w before now few r a = absurd r
reading_halts start past kept stopped (Damaged side number) told taken n core u left w before now few r a = absurd r
reading_halts start past kept stopped (Limit number) told taken n core u left w before now few r a = absurd r
reading_halts start past kept stopped (Rotated generation) told taken n core u left w before now few r a = absurd r
reading_halts start past kept stopped (DamagedInput number) told taken n core u left w before now few r a = absurd r

-- ---- the input is over

pub reading_ends : (start : State) (past : List Request → Type 0) (kept : State → Request
    → Type 0) (stopped : List Request → Request → Type 0) (told : Option (List ℕ)) (taken : List ℕ) (n : ℕ) (core :
    Core) (u left : Option (List ℕ)) (w : List ℕ) (before now : Option (List ℕ)) → n ≤ LINES_MOST
    → Reads u [] (unread taken left) → IsOver (unread taken left) → Answered start told n core u w before now past
    → Comes start (Ok tt) core past kept stopped told left w before now
reading_ends start past kept stopped told taken n core u left w before now few r over a =
    record {
      requests = a.requests;
      few = omega (arith, few, a.count);
      why = tt;
      read = of_answered start told n core u w before now past a _
          (λ rest is.
          let done = over_left rest [] taken left (subst (λ (v : Option (List ℕ)). Reads v [] (unread taken left)) is r)
          over in (
            subst (λ (ls : List (List ℕ)). AllZip IsRequest ls a.requests)
                (sym (begins start told n core u w before now past a rest
                ∙ ap (λ (t : List ℕ). a.front ++ lines_in t) done.1 ∙ append-nil a.front)) a.spelled,
            done.0,
          ));
      begins = begins_with start told n core u w before now past a;
      written = a.written;
      stands = a.stands;
      halted = a.passed;
    }

-- ---- a line is answered

-- a list with one more at its end, split before one of it: that is the last, or it is one of the list
last_or_earlier : (requests earlier later : List Request) (r request : Request)
    → requests ++ r ∷ [] ≡ earlier ++ request ∷ later → ((later ≡ []) × (requests ≡ earlier) × (r ≡ request))
    ⊎ ((more : List Request) × (requests ≡ earlier ++ request ∷ more))
last_or_earlier [] [] [] r request is = inl (refl, refl, cc)
last_or_earlier [] [] (x ∷ later) r request is = absurd cc
last_or_earlier [] (x ∷ []) later r request is = absurd cc
last_or_earlier [] (x ∷ y ∷ earlier) later r request is = absurd cc
last_or_earlier (q ∷ requests) [] later r request is = inr (requests, cc)
last_or_earlier (q ∷ requests) (x ∷ earlier) later r request is =
    by (last_or_earlier requests earlier later r request cc) where
      by : ((later ≡ []) × (requests ≡ earlier) × (r ≡ request)) ⊎ ((more : List Request)
          × (requests ≡ earlier ++ request ∷ more)) → ((later ≡ []) × (q ∷ requests ≡ x ∷ earlier) × (r ≡ request))
          ⊎ ((more : List Request) × (q ∷ requests ≡ (x ∷ earlier) ++ request ∷ more))
      by (inl h) = inl (h.0, cc (is, h.1), h.2)
      by (inr h) = inr (h.0, cc (is, h.1))

-- the replies to some first requests are no longer than those to all
lines_of_first : (start : State) (first more : List Request) → length (lines start first)
    ≤ length (lines start (first ++ more))
lines_of_first start [] more = omega arith
lines_of_first start (q ∷ first) more =
    let now = step start q in
    omega (
      arith,
      length-append (reply_line now.1) (lines now.0 first),
      length-append (reply_line now.1)
          (lines now.0 (first ++ more)),
      lines_of_first now.0 first more,
    )

-- both lead to the same state, by the same commands
abbrev IsSteady : State → List Request → List Request → Type 0
IsSteady start these those = ((run start these).0 ≡ (run start those).0) × (accepted start these ≡ accepted start those)

-- A query leaves the state, and before a command nothing waits.
steady_more : (start : State) (requests : List Request) (r : Request) (rest front : List ℕ)
    → lines start requests ≡ front ++ rest → (IsCommand r → rest ≡ [])
    → ((earlier later : List Request) (request : Request) → requests ≡ earlier ++ request ∷ later
    → length front < length (lines start (earlier ++ request ∷ [])) → IsSteady start (earlier ++ request ∷ []) requests)
    → (earlier more : List Request) (request : Request) → requests ≡ earlier ++ request ∷ more
    → length front < length (lines start (earlier ++ request ∷ []))
    → IsSteady start (earlier ++ request ∷ []) (requests ++ r ∷ [])
steady_more start requests (Ask query) rest front replies command steady earlier more request is behind =
    let so = steady earlier more request is behind in
    (so.0 ∙ sym (after-more start requests (Ask query)), so.1 ∙ sym (asked-more start requests query))
steady_more start requests (Do c) rest front replies command steady earlier more request is behind =
    let all : lines start requests ≡ front = replies ∙ ap (λ (t : List ℕ). front ++ t) (command tt)
    ∙ append-nil front in
    let whole : requests ≡ (earlier ++ request ∷ []) ++ more = is ∙ sym (append_assoc earlier (request ∷ []) more) in
    let fewer = lines_of_first start (earlier ++ request ∷ []) more in
    let same : length (lines start ((earlier ++ request ∷ []) ++ more)) ≡ length front =
    ap (λ (rs : List Request). length (lines start rs)) (sym whole) ∙ ap length all in
    absurd (omega (arith, behind, fewer, same))

-- the reply to one more request waits behind what waited, of which a front is written
wrote_more : (start : State) (requests : List Request) (r : Request) (w rest w' : List ℕ) (before now now' : Option
    (List ℕ)) → Written start requests w before now → WritesFront (Ok tt) w rest now now'
    → w' ≡ rest ++ reply_line (step (run start requests).0 r).1 → (IsCommand r → rest ≡ [])
    → Written start (requests ++ r ∷ []) w' before now'
wrote_more start requests r w rest w' before now now' h f is command =
    let reply = reply_line (step (run start requests).0 r).1 in
    let on = written_on start requests w rest before now now' h f in
    record {
      front = on.front;
      writes = on.writes;
      replies = lines-more start requests r ∙ ap (λ (t : List ℕ). t ++ reply) on.replies
          ∙ append_assoc on.front rest reply ∙ ap (λ (t : List ℕ). on.front ++ t) (sym is);
      steady = λ earlier later request split behind. by earlier later request behind
          (last_or_earlier requests earlier later r request split);
    } where
      by : (earlier later : List Request) (request : Request)
          → length (written_on start requests w rest before now now' h f).front
          < length (lines start (earlier ++ request ∷ []))
          → ((later ≡ []) × (requests ≡ earlier) × (r ≡ request)) ⊎ ((more : List Request)
          × (requests ≡ earlier ++ request ∷ more))
          → IsSteady start (earlier ++ request ∷ []) (requests ++ r ∷ [])
      by earlier later request behind (inl last) = (
        ap₂ (λ (rs : List Request) (q : Request). (run start (rs ++ q ∷ [])).0) (sym last.1) (sym last.2),
        ap₂ (λ (rs : List Request) (q : Request). accepted start (rs ++ q ∷ [])) (sym last.1) (sym last.2),
      )
      by earlier later request behind (inr one) =
          let on = written_on start requests w rest before now now' h f in
          steady_more start requests r rest on.front on.replies command on.steady earlier one.0 request one.1 behind

pub line_answered : (start : State) (told : Option (List ℕ)) (line : List ℕ) (r : Request) (n : ℕ) (core core' : Core)
    (u u' : Option (List ℕ)) (w w' : List ℕ) (before now now' : Option (List ℕ)) (past past' : List Request → Type 0)
    → IsRequest line r → IsWithinLine line → Reads u (line ++ 10 ∷ []) u'
    → (a : Answered start told n core u w before now past)
    → Answers (run start a.requests).0 r (Ok tt) core' w w' now now' → past' (a.requests ++ r ∷ [])
    → Answered start told (n + 1) core' u' w' before now' past'
line_answered start told line r n core core' u u' w w' before now now' past past' is within reads a said passed =
    record {
      requests = a.requests ++ r ∷ [];
      front = a.front ++ line ∷ [];
      spelled = requests-more a.front a.requests line r a.spelled is;
      within = within-append a.front (line ∷ []) a.within (within, tt);
      count = omega (arith, length-append a.requests (r ∷ []), a.count);
      reads = subst (λ (xs : List ℕ). Reads told xs u')
          (ap (λ (t : List ℕ). ended a.front ++ t) (sym (append-nil (line ++ 10 ∷ [])))
          ∙ sym (ended-append a.front (line ∷ [])))
          (reads_more told u u' (ended a.front) (line ++ 10 ∷ []) a.reads reads);
      stands = subst (λ (s : State). StandsFor core' s) (sym (after-more start a.requests r)) said.0;
      written = wrote_more start a.requests r w said.1.0 w' before now now' a.written said.1.1 said.1.2 said.1.3;
      passed = passed;
    }

pub last_answered : (start : State) (past past' : List Request → Type 0) (kept : State → Request
    → Type 0) (stopped : List Request → Request → Type 0) (told : Option (List ℕ)) (line taken : List ℕ) (r :
    Request) (n : ℕ) (core core' : Core) (u left : Option (List ℕ)) (w w' : List ℕ) (before now now' : Option (List ℕ))
    → n < LINES_MOST → IsRequest line r → IsWithinLine line → line ≢ [] → Reads u line (unread taken left)
    → IsOver (unread taken left) → (a : Answered start told n core u w before now past)
    → Answers (run start a.requests).0 r (Ok tt) core' w w' now now' → past' (a.requests ++ r ∷ [])
    → Comes start (Ok tt) core' past' kept stopped told left w' before now'
last_answered start past past' kept stopped told line taken r n core core' u left w w' before now now' few is within
    some reads over a said passed =
    let spelled = requests-more a.front a.requests line r a.spelled is in
    let whole : (rest : List ℕ) → rest ≡ line → lines_in (ended a.front ++ rest) ≡ a.front ++ line ∷ [] =
    λ rest only. begins start told n core u w before now past a rest ∙ ap (λ (t : List ℕ). a.front ++ lines_in t) only
    ∙ ap (λ (ls : List (List ℕ)). a.front ++ ls) (lines_in-unended line within some) in
    let done : (rest : List ℕ) → u ≡ Some rest → (left ≡ Some []) × (rest ≡ line) =
    λ rest told_is. over_left rest line taken left (subst (λ (v : Option (List ℕ)). Reads v line (unread taken left))
    told_is reads) over in
    record {
      requests = a.requests ++ r ∷ [];
      few = omega (arith, few, a.count, length-append a.requests (r ∷ []));
      why = tt;
      read = of_answered start told n core u w before now past a _
          (λ rest told_is. (
            subst (λ (ls : List (List ℕ)). AllZip IsRequest ls (a.requests ++ r ∷ []))
                (sym (whole rest (done rest told_is).1)) spelled,
            (done rest told_is).0,
          ));
      begins = of_answered start told n core u w before now past a _
          (λ rest told_is. (
            [],
            (
              a.front ++ line ∷ [],
              spelled,
              whole rest (done rest told_is).1
                  ∙ sym (append-nil (a.front ++ line ∷ [])),
            ),
          ));
      written = wrote_more start a.requests r w said.1.0 w' before now now' a.written said.1.1 said.1.2 said.1.3;
      stands = subst (λ (s : State). StandsFor core' s) (sym (after-more start a.requests r)) said.0;
      halted = passed;
    }

-- ---- a line is read, and its answer stops the run

-- the request whose line was read is the next one
next_is : (start : State) (told : Option (List ℕ)) (n : ℕ) (core : Core) (u : Option (List ℕ)) (w : List ℕ)
    (before now : Option (List ℕ)) (past : List Request → Type 0) (a : Answered start told n core u w before now past)
    (line : List ℕ) (r : Request) → IsRequest line r → ((rest : List ℕ) → u ≡ Some rest → (more : List (List ℕ))
    × (lines_in rest ≡ line ∷ more)) → IsNext told a.requests r
next_is start told n core u w before now past a line r is first =
    of_answered start told n core u w before now past a _
    (λ rest told_is.
    let follows = first rest told_is in (
      line,
      follows.0,
      is,
      (
        a.front,
        a.spelled,
        begins start told n core u w before now past a rest
            ∙ ap (λ (ls : List (List ℕ)). a.front ++ ls) follows.1,
      ),
    ))

pub answering_halts : (start : State) (past past' : List Request → Type 0) (kept : State → Request
    → Type 0) (stopped : List Request → Request → Type 0) → (halt : Halt) (told : Option (List ℕ)) (line : List ℕ) (r :
    Request) (n : ℕ) (core core' : Core) (u left : Option (List ℕ)) (w w' : List ℕ) (before now now' : Option (List ℕ))
    → n < LINES_MOST → IsRequest line r → (a : Answered start told n core u w before now past)
    → ((rest : List ℕ) → u ≡ Some rest → (more : List (List ℕ)) × (lines_in rest ≡ line ∷ more))
    → Answers (run start a.requests).0 r (Err halt) core' w w' now now'
    → (halt ≡ DiskFault → kept (run start a.requests).0 r)
    → PassesBy {T = Unit {0}} past' stopped a.requests r (Err halt)
    → Comes start (Err halt) core' past' kept stopped told left w' before now'
answering_halts start past past' kept stopped (BadLine at) told line r n core core' u left w w' before now now' few is a
    first failed kept_so passed = absurd failed
answering_halts start past past' kept stopped ReadFault told line r n core core' u left w w' before now now' few is a
    first failed kept_so passed = absurd failed
answering_halts start past past' kept stopped (Limit number) told line r n core core' u left w w' before now now' few is
    a first failed kept_so passed = absurd failed
answering_halts start past past' kept stopped (Rotated generation) told line r n core core' u left w w' before now now'
    few is a first failed kept_so passed = absurd failed
answering_halts start past past' kept stopped (DamagedInput number) told line r n core core' u left w w' before now now'
    few is a first failed kept_so passed = absurd failed
answering_halts start past past' kept stopped (Damaged side number) told line r n core core' u left w w' before now now'
    few is a first failed kept_so passed = absurd failed
answering_halts start past past' kept stopped DiskFault told line r n core core' u left w w' before now now' few is a
    first failed kept_so passed =
    let begun = begins_with start told n core u w before now past a in
    record {
      requests = a.requests;
      few = omega (arith, few, a.count);
      why = omega (arith, few, a.count);
      read = begun;
      begins = begun;
      written = written_on start a.requests w w' before now now' a.written failed.2;
      stands = failed.0;
      halted = (
        r,
        next_is start told n core u w before now past a line r is first,
        failed.1,
        failed.3,
        kept_so refl,
        passed,
      );
    }
answering_halts start past past' kept stopped NoMemory told line r n core core' u left w w' before now now' few is a
    first failed kept_so passed =
    let begun = begins_with start told n core u w before now past a in
    record {
      requests = a.requests;
      few = omega (arith, few, a.count);
      why = inr (
        omega (arith, few, a.count),
        (r, next_is start told n core u w before now past a line r is first, failed.1),
      );
      read = begun;
      begins = begun;
      written = written_on start a.requests w w' before now now' a.written failed.2;
      stands = failed.0;
      halted = passed;
    }
answering_halts start past past' kept stopped WriteFault told line r n core core' u left w w' before now now' few is a
    first failed kept_so passed =
    cut_comes start core' past' kept stopped told a.requests left w w' before now now' (omega (arith, few, a.count))
    (begins_with start told n core u w before now past a) a.written failed.0 passed failed.1

-- the line that was read is the first of what was unread
pub first_line : (line : List ℕ) (u u' : Option (List ℕ)) → IsWithinLine line → Reads u (line ++ 10 ∷ []) u'
    → (rest : List ℕ) → u ≡ Some rest → (more : List (List ℕ)) × (lines_in rest ≡ line ∷ more)
first_line line u u' within reads rest is =
    first-ended rest line u' within (subst (λ (v : Option (List ℕ)). Reads v (line ++ 10 ∷ []) u') is reads)

pub last_line : (line taken : List ℕ) (u left : Option (List ℕ)) → IsWithinLine line → line ≢ []
    → Reads u line (unread taken left) → IsOver (unread taken left) → (rest : List ℕ) → u ≡ Some rest
    → (more : List (List ℕ)) × (lines_in rest ≡ line ∷ more)
last_line line taken u left within some reads over rest is = (
  [],
  only-unended rest line taken left within some (subst (λ (v : Option (List ℕ)). Reads v line
      (unread taken left)) is reads) over,
)

-- ---- before the first line, and behind the last that one run answers

untaken : (left : Option (List ℕ)) → Reads left [] (unread [] left)
untaken None = refl
untaken (Some bytes) = refl

no_split : (earlier later : List Request) (request : Request) → [] ≡ earlier ++ request ∷ later → ⊥
no_split [] later request is = cc
no_split (x ∷ earlier) later request is = cc

pub opened : (start : State) (reader waiting : List ℕ) (core : Core) (left before : Option (List ℕ))
    (past : List Request → Type 0) → StandsFor core start → reader ≡ [] → waiting ≡ [] → past []
    → Answered start left 0 core (unread reader left) waiting before before past
opened start reader waiting core left before past stands fresh none passed =
    record {
      requests = [];
      front = [];
      spelled = tt;
      within = tt;
      count = refl;
      reads = subst (λ (taken : List ℕ). Reads left [] (unread taken left)) (sym fresh) (untaken left);
      stands = stands;
      passed = passed;
      written = record {
        front = [];
        writes = writes_nothing before;
        replies = sym none;
        steady = λ earlier later request is behind. absurd (no_split earlier later request is);
      };
    }

pub limit_halts : (start : State) (past : List Request → Type 0) (kept : State → Request
    → Type 0) (stopped : List Request → Request → Type 0) (told : Option (List ℕ)) (n byte : ℕ) (core :
    Core) (u u' left : Option (List ℕ)) (w : List ℕ) (before now : Option (List ℕ)) (number : ℕ) → number ≡ LINES_MOST
    → n ≡ LINES_MOST → Reads u (byte ∷ []) u' → Answered start told n core u w before now past
    → Comes start (Err (Limit number)) core past kept stopped told left w before now
limit_halts start past kept stopped told n byte core u u' left w before now number is full reads a =
    record {
      requests = a.requests;
      few = omega (arith, full, a.count);
      why = (is, a.count ∙ full);
      read = of_answered start told n core u w before now past a _
          (λ rest told_is.
          let first = first-begun rest byte u' (subst (λ (v : Option (List ℕ)). Reads v (byte ∷ []) u') told_is reads)
          in (
            is,
            (
              a.count
                  ∙ full,
              (
                first.0,
                (
                  first.1,
                  (
                    a.front,
                    a.spelled,
                    begins start told n core u w before now past a rest
                        ∙ ap (λ (ls : List (List ℕ)). a.front ++ ls) first.2,
                  ),
                ),
              ),
            ),
          ));
      begins = begins_with start told n core u w before now past a;
      written = a.written;
      stands = a.stands;
      halted = a.passed;
    }

-- ---- a turn that stops the run

pub turn_halts : (start : State) (past : List Request → Type 0) (kept : State → Request
    → Type 0) (stopped : List Request → Request → Type 0) (told : Option (List ℕ)) (n : ℕ) (core : Core) (u left :
    Option (List ℕ)) (w : List ℕ) (before now : Option (List ℕ)) (end : Result Bool Halt) (halt : Halt) → end ≡ Err halt
    → Comes start (Err halt) core past kept stopped told left w before now
    → Turns start past kept stopped told n core u left w before now end
turn_halts start past kept stopped told n core u left w before now end halt is h =
    subst (λ (e : Result Bool Halt). Turns start past kept stopped told n core u left w before now e) (sym is) h
