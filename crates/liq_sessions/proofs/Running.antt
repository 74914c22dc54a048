-- A session on its way: what its seat knows after the first requests of its script.
use Rattle.std.proofs.Common.{ℕ, suc, ◌+◌, ◌<◌, ◌≤◌, ◌≡◌, List, [], ◌∷◌, ◌++◌, length, get_or, drop, zip, Option, refl, sym, ap, ◌∙◌, arith}
use Rattle.std.specs.Prelude.{All, Vec}
use Rattle.std.specs.Global.{Global}
use Rattle.std.specs.List.{AllZip}
use Rattle.std.proofs.Math.Seq.{drop-cons}
use Rattle.std.proofs.lemmas.List.{drop_all, append-nil, append_assoc}
use Rattle.liq_types.specs.Desks.{EndsKnown, own_after, faulted_after}
use Rattle.liq_types.specs.declared.replies.Answer.{Answer}
use Rattle.liq_types.specs.declared.replies.Answer.TheVariants as answer
use Rattle.liq_types.specs.declared.replies.Reply.{Reply}
use Rattle.liq_types.specs.declared.requests.Request.{Request}
use Rattle.liq_sessions.specs.declared.done.SessionDone.{SessionDone}
use Rattle.liq_sessions.specs.declared.done.SessionEnd.TheVariants as end
use Rattle.liq_sessions.specs.declared.done.Work.{Work}
use Rattle.liq_sessions.specs.declared.script.TheConstants.{REQUESTS_MOST}
use Rattle.liq_sessions.specs.Ran.{IsNoReply}
use Rattle.liq_sessions.specs.Sessions.{HasRun, HasRoom, IsReady}

-- one more reply joins the request at its place
pub zip-snoc : {A B : Type 0} → (xs : List A) (ys : List B) (y : B) (d : A) → length ys < length xs
    → zip xs (ys ++ y ∷ []) ≡ zip xs ys ++ (get_or xs (length ys) d, y) ∷ []
zip-snoc [] ys y d short = absurd (omega arith)
zip-snoc (x ∷ []) [] y d short = refl
zip-snoc (x ∷ x' ∷ xs) [] y d short = refl
zip-snoc (x ∷ xs) (y' ∷ ys) y d short = ap (λ r. (x, y') ∷ r) (zip-snoc xs ys y d (omega arith))

-- the first of those that are left stands at its place
pub head_at : {A : Type 0} → (xs : List A) (i : ℕ) (x : A) (left : List A) → i < length xs → drop i xs ≡ x ∷ left
    → (get_or xs i x ≡ x) × (drop (i + 1) xs ≡ left)
head_at xs i x left short at =
    let parts : x ∷ left ≡ get_or xs i x ∷ drop (suc i) xs = sym at ∙ drop-cons xs i x short in
    let more : drop (suc i) xs ≡ left = cc in
    let one : i + 1 ≡ suc i = omega arith in
    (cc, ap (λ k. drop k xs) one ∙ more)

pub zip-nil : {A B : Type 0} → (xs : List A) → zip {K = A} {X = B} xs [] ≡ []
zip-nil [] = refl
zip-nil (x ∷ xs) = refl

-- an answer that is none of the replies is no reply
pub no_reply : (a : Answer) → ((reply : Reply) → a ≡ answer.Reply reply → ⊥) → IsNoReply a
no_reply (answer.Reply reply) none = none reply refl
no_reply answer.NoMemory none = tt
no_reply answer.DiskFault none = tt
no_reply (answer.Stopped faults) none = tt
no_reply (answer.HistoryFull entries) none = tt

-- and then a seat's own calls stay
pub own_stays : (own : List (Request × Reply)) (request : Request) (a : Answer)
    → ((reply : Reply) → a ≡ answer.Reply reply → ⊥) → own_after own request a ≡ own
own_stays own request (answer.Reply reply) none = absurd (none reply refl)
own_stays own request answer.NoMemory none = refl
own_stays own request answer.DiskFault none = refl
own_stays own request (answer.Stopped faults) none = refl
own_stays own request (answer.HistoryFull entries) none = refl

-- the first requests have these replies, and nothing else happened to the seat
pub record IsUnderway {S : Type 0} (Belongs : S → Type 0) (number_of : S → ℕ) (own_of : S
    → List (Request × Reply)) (faulted_of : S → Option Request) (requests : List Request) (first seat : S) (replies :
    List Reply) : Type 0 where
  pub belongs : Belongs seat
  pub number : number_of seat ≡ number_of first
  pub own : own_of seat ≡ own_of first ++ zip requests replies
  pub faulted : faulted_of seat ≡ faulted_of first

module _ {S : Type 0} (Belongs : S → Type 0) (number_of : S → ℕ) (own_of : S → List (Request × Reply)) (faulted_of : S
    → Option Request) where
  pub begins : (requests : List Request) (first : S) → Belongs first
      → IsUnderway Belongs number_of own_of faulted_of requests first first []
  begins requests first here = record {
    belongs = here;
    number = refl;
    own = sym (ap (λ calls. own_of first ++ calls) (zip-nil requests) ∙ append-nil (own_of first));
    faulted = refl;
  }

  pub goes_on : (requests : List Request) (first seat seat' : S) (replies : List Reply) (i : ℕ) (request : Request)
      (left : List Request) (a : Answer) (reply : Reply)
      → length replies ≡ i → i < length requests → drop i requests ≡ request ∷ left
      → Belongs seat' → number_of seat' ≡ number_of seat
      → own_of seat' ≡ own_after (own_of seat) request a
      → faulted_of seat' ≡ faulted_after (faulted_of seat) request a
      → a ≡ answer.Reply reply
      → IsUnderway Belongs number_of own_of faulted_of requests first seat replies
      → IsUnderway Belongs number_of own_of faulted_of requests first seat' (replies ++ reply ∷ [])
  goes_on requests first seat seat' replies i request left a reply at short next here number own faulted is so =
      let call : own_of seat' ≡ own_of seat ++ (request, reply) ∷ [] = own
      ∙ ap (λ b. own_after (own_of seat) request b) is in
      let same : faulted_of seat' ≡ faulted_of seat = faulted
      ∙ ap (λ b. faulted_after (faulted_of seat) request b) is in
      let asked : get_or requests i request ≡ request = (head_at requests i request left short next).0 in
      let pair : zip requests (replies ++ reply ∷ []) ≡ zip requests replies ++ (get_or requests i request, reply)
      ∷ [] = rw (← at) (zip-snoc requests replies reply request (rw at short)) in
      let pairs : zip requests (replies ++ reply ∷ []) ≡ zip requests replies ++ (request, reply) ∷ [] = pair
      ∙ ap (λ r. zip requests replies ++ (r, reply) ∷ []) asked in
      record {
        belongs = here;
        number = number ∙ so.number;
        own = rw (call, so.own, pairs) (append_assoc (own_of first) (zip requests replies) ((request, reply) ∷ []));
        faulted = same ∙ so.faulted;
      }

  -- the script is asked to its end
  pub ends_all : {K H : Type 0} (KnowsEnd : S → Type 0) (work : Work K H S) (done : SessionDone K H S)
      (replies : List Reply)
      → done.replies ≡ replies → done.session ≡ work.script.session → done.end ≡ end.All
      → length replies ≡ length work.script.requests
      → IsUnderway Belongs number_of own_of faulted_of work.script.requests work.seat done.seat replies
      → HasRun Belongs number_of own_of KnowsEnd faulted_of work done
  ends_all KnowsEnd work done replies these session all whole so =
      let n : length done.replies ≡ length work.script.requests = ap length these ∙ whole in
      let left : drop (length done.replies) work.script.requests ≡ [] =
      drop_all (length done.replies) work.script.requests (omega (arith, n)) in
      record {
        session = session;
        belongs = so.belongs;
        number = so.number;
        within = omega (arith, n);
        own = rw these so.own;
        ends = rw (left, all) refl;
        faulted = rw left so.faulted;
      }

  -- a request got an answer that is no reply
  pub ends_at : {K H : Type 0} (KnowsEnd : S → Type 0) (work : Work K H S) (done : SessionDone K H S)
      (replies : List Reply) (seat : S) (i : ℕ) (request : Request) (later : List Request) (a : Answer)
      → done.replies ≡ replies → done.session ≡ work.script.session → done.end ≡ end.Fault a
      → length replies ≡ i → i < length work.script.requests → drop i work.script.requests ≡ request ∷ later
      → Belongs done.seat → number_of done.seat ≡ number_of seat
      → own_of done.seat ≡ own_after (own_of seat) request a
      → faulted_of done.seat ≡ faulted_after (faulted_of seat) request a
      → EndsKnown (KnowsEnd done.seat) a
      → ((reply : Reply) → a ≡ answer.Reply reply → ⊥)
      → IsUnderway Belongs number_of own_of faulted_of work.script.requests work.seat seat replies
      → HasRun Belongs number_of own_of KnowsEnd faulted_of work done
  ends_at KnowsEnd work done replies seat i request later a these session end at short next here number own faulted
      known none so =
      let n : length done.replies ≡ i = ap length these ∙ at in
      let left : drop (length done.replies) work.script.requests ≡ request ∷ later = rw n next in
      record {
        session = session;
        belongs = here;
        number = number ∙ so.number;
        within = omega (arith, n);
        own = rw these (own ∙ (own_stays (own_of seat) request a none ∙ so.own));
        ends = rw (left, end) ((λ e. cc), no_reply a none, known);
        faulted = rw (left, end) (faulted ∙ ap (λ f. faulted_after f request a) so.faulted);
      }

-- each session may run where its seat is one of the desk, its script is short enough and its list has room
pub all_ready : {K H S : Type 0} (Belongs : S → Type 0) (works : List (Work K H S)) (lists : List (Vec Reply Global))
    → All (λ w. Belongs w.seat) works → All (λ w. length w.script.requests ≤ REQUESTS_MOST) works
    → AllZip HasRoom works lists
    → AllZip (IsReady Belongs) works lists
all_ready Belongs [] [] belong short rooms = tt
all_ready Belongs [] (list ∷ lists) belong short rooms = absurd rooms
all_ready Belongs (work ∷ works) [] belong short rooms = absurd rooms
all_ready Belongs (work ∷ works) (list ∷ lists) belong short rooms = (
  record { belongs = belong 0 work (omega arith); short = short 0 work (omega arith); room = rooms.0 },
  all_ready Belongs works lists (λ k d within. belong (suc k) d (omega arith)) (λ k d within. short (suc k) d
      (omega arith)) rooms.1,
)
