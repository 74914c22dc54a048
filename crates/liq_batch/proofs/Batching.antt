-- One item more of a batch, and its end, in whatever way its items are answered.
use Rattle.std.proofs.Common.{◌≡◌, ℕ, suc, ◌+◌, ◌<◌, ◌≤◌, min, List, [], ◌∷◌, ◌++◌, length, take, drop, set, get_or}
use Rattle.std.proofs.Common.{map, refl, ap, sym, ◌∙◌, subst, arith, add-one, append-nil, append_assoc, drop-cons}
use Rattle.std.proofs.Common.{length-append, Some, None, Ok, Err}
use Rattle.std.proofs.lemmas.List.{take_more, length-take-le, length-map, map-append, get_or_default}
use Rattle.std.proofs.Math.Seq.{set-append_seam}
use Rattle.liq_types.specs.declared.replies.Reply.{Reply}
use Rattle.liq_types.specs.declared.requests.Request.{Request}
use Rattle.liq_types.specs.State.{State}
use Rattle.liq_core.specs.Core.{StandsFor}
use Rattle.liq_market.specs.Content.{Content}
use Rattle.liq_replies96.specs.declared.reply.Reply96.{Reply96}
use Rattle.liq_replies96.specs.Replies.{reply96}
use Rattle.liq_batch.specs.declared.batch.Batch.{Batch}
use Rattle.liq_batch.specs.declared.batch.Fault.{Fault}
use Rattle.liq_batch.specs.Batch.{Answered, AnswersItem, HasFault, Way, said}

-- how a way to answer many requests goes on by one
pub record GoesOn {X : Type 0} (way : Way X) : Type 0 where
  pub nothing : (s : State) → way.go s [] ≡ (s, [])
  pub untouched : (s : State) (before : List ℕ) → way.touched s [] before ≡ before
  pub state : (s : State) (rs : List Request) (r : Request)
      → (way.go s (rs ++ r ∷ [])).0 ≡ (way.go (way.go s rs).0 (r ∷ [])).0
  pub replies : (s : State) (rs : List Request) (r : Request)
      → (way.go s (rs ++ r ∷ [])).1 ≡ (way.go s rs).1 ++ (way.go (way.go s rs).0 (r ∷ [])).1
  pub touched : (s : State) (rs : List Request) (r : Request) (before : List ℕ)
      → way.touched s (rs ++ r ∷ []) before ≡ way.touched (way.go s rs).0 (r ∷ []) (way.touched s rs before)
  pub count : (s : State) (rs : List Request) → length (way.go s rs).1 ≡ length rs

-- what is so behind the first items
pub record SoFar {X : Type 0} (way : Way X) (s : State) (items : List X) (done : ℕ) (before now : Content)
    (old new : List Reply96) : Type 0 where
  pub requests : List Request
  pub are : map way.read (take done items) ≡ map Ok requests
  pub stands : StandsFor now.core (way.go s requests).0
  pub touched : now.touched ≡ way.touched s requests before.touched
  pub replies : new ≡ map reply96 (way.go s requests).1 ++ drop done old

module _ {X : Type 0} (way : Way X) (goes : GoesOn way) (s : State) (items : List X) where
  unfoldable pub begun : (now : Content) (old : List Reply96) → StandsFor now.core s
      → SoFar way s items 0 now now old old
  begun now old stands = record {
    requests = [];
    are = refl;
    stands = subst (λ (t : State × List Reply). StandsFor now.core t.0) (sym (goes.nothing s)) stands;
    touched = sym (goes.untouched s now.touched);
    replies = sym (ap (λ (t : State × List Reply). map reply96 t.1 ++ old) (goes.nothing s));
  }

  -- as many replies as items
  pub counted : (done : ℕ) (requests : List Request)
      → done ≤ length items → map way.read (take done items) ≡ map Ok requests
      → length (map reply96 (way.go s requests).1) ≡ done
  counted done requests within are =
      length-map (way.go s requests).1 reply96 ∙ goes.count s requests
      ∙ sym (length-map requests Ok) ∙ sym (ap length are)
      ∙ length-map (take done items) way.read ∙ length-take-le done items within

  -- the place behind the replies is written
  pub placed : (front : List Reply96) (done : ℕ) (old : List Reply96) (now : Reply96)
      → length front ≡ done → done < length old
      → set (front ++ drop done old) done now ≡ (front ++ now ∷ []) ++ drop (done + 1) old
  placed front done old now long within =
      ap (λ (back : List Reply96). set (front ++ back) done now) (drop-cons old done now within)
      ∙ ap (λ (k : ℕ). set (front ++ get_or old done now ∷ drop (suc done) old) k now) (sym long)
      ∙ set-append_seam front (get_or old done now) (drop (suc done) old) now
      ∙ sym (append_assoc front (now ∷ []) (drop (suc done) old))
      ∙ ap (λ (k : ℕ). (front ++ now ∷ []) ++ drop k old) (sym (add-one done))

  module _ (done most : ℕ) (before now : Content) (old new : List Reply96)
      (is : most ≡ min (length items) (length old)) (far : SoFar way s items done before now old new) where
    unfoldable pub more : (after : Content) (reply : Reply) (written : Reply96) (d : X)
        → done < most → written ≡ reply96 reply
        → ((t : State) → StandsFor now.core t → AnswersItem way t (get_or items done d) (Ok reply) now after)
        → SoFar way s items (done + 1) before after old (set new done written)
    more after reply written d low is_reply answer =
        let t = (way.go s far.requests).0 in
        let got = answer t far.stands in
        let front = map reply96 (way.go s far.requests).1 in
        let count = counted done far.requests (omega (arith, low, is)) far.are in
        let replies =
        goes.replies s far.requests got.0 ∙ ap (λ (r : List Reply). (way.go s far.requests).1 ++ r) got.3 in
        record {
          requests = far.requests ++ got.0 ∷ [];
          are =
              ap (map way.read) (take_more items done d (omega (arith, low, is)))
              ∙ map-append way.read (take done items) (get_or items done d ∷ [])
              ∙ (λ i. far.are i ++ got.1 i ∷ []) ∙ sym (map-append Ok far.requests (got.0 ∷ []));
          stands = subst (StandsFor after.core) (sym (goes.state s far.requests got.0)) got.2;
          touched =
              got.4 ∙ ap (way.touched t (got.0 ∷ [])) far.touched
              ∙ sym (goes.touched s far.requests got.0 before.touched);
          replies =
              (λ i. set (far.replies i) done (is_reply i))
              ∙ placed front done old (reply96 reply) count (omega (arith, low, is))
              ∙ ap (λ (l : List Reply96). l ++ drop (done + 1) old)
              (sym (ap (map reply96) replies ∙ map-append reply96 (way.go s far.requests).1 (reply ∷ [])));
        }

    -- no item is left, or no place
    unfoldable pub over_at : done ≡ most
        → Answered way s items (record { done = done; fault = None }) before now old new
    over_at all =
        let count = counted done far.requests (omega (arith, all, is)) far.are in
        let front = map reply96 (way.go s far.requests).1 in
        record {
          requests = far.requests;
          are = far.are;
          stands = far.stands;
          touched = far.touched;
          replies =
              far.replies ∙ ap (λ (k : ℕ). front ++ drop k old) (sym count)
              ∙ ap (λ (l : List Reply96). l ++ drop (length l) old) (sym (append-nil front));
          ends = all ∙ is;
        }

    pub over : (batch : Batch) → done ≤ most → most ≤ done → batch ≡ record { done = most; fault = None }
        → Answered way s items batch before now old new
    over batch below above ends =
        let all : done ≡ most = omega (arith, below, above) in
        let whole =
        subst (λ (k : ℕ). Answered way s items (record { done = k; fault = None }) before now old new) all
        (over_at all) in
        subst (λ (b : Batch). Answered way s items b before now old new) (sym ends) whole

    -- the next item has a fault
    unfoldable pub stopped_at : (after : Content) (fault : Fault) (d : X) → done < most
        → ((t : State) → StandsFor now.core t → AnswersItem way t (get_or items done d) (Err fault) now after)
        → Answered way s items (record { done = done; fault = Some fault }) before after old (set new done (said fault))
    stopped_at after fault d low answer =
        let t = (way.go s far.requests).0 in
        let got = answer t far.stands in
        let count = counted done far.requests (omega (arith, low, is)) far.are in
        let front = map reply96 (way.go s far.requests).1 in
        let long : length (front ++ said fault ∷ []) ≡ done + 1 =
        length-append front (said fault ∷ []) ∙ ap (λ (k : ℕ). k + 1) count in
        record {
          requests = far.requests;
          are = far.are;
          stands = got.1;
          touched = got.2 ∙ far.touched;
          replies =
              ap (λ (l : List Reply96). set l done (said fault)) far.replies
              ∙ placed front done old (said fault) count (omega (arith, low, is))
              ∙ ap (λ (k : ℕ). (front ++ said fault ∷ []) ++ drop k old) (sym long);
          ends = (
            omega (arith, low, is),
            λ e.
                subst (λ (x : X). HasFault way t x fault)
                (get_or_default items done d e (omega (arith, low, is))) got.0,
          );
        }

    pub stopped : (after : Content) (fault : Fault) (d : X) (batch : Batch) (left : List Reply96) → done < most
        → batch ≡ record { done = done; fault = Some fault } → left ≡ set new done (said fault)
        → ((t : State) → StandsFor now.core t → AnswersItem way t (get_or items done d) (Err fault) now after)
        → Answered way s items batch before after old left
    stopped after fault d batch left low ends says answer =
        subst (λ (b : Batch). Answered way s items b before after old left) (sym ends)
        (subst
        (λ (l : List Reply96). Answered way s items (record { done = done; fault = Some fault }) before after old l)
        (sym says) (stopped_at after fault d low answer))
