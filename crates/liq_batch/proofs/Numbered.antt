-- One command more that gets its number.
use Rattle.std.proofs.Common.{◌≡◌, ℕ, ◌+◌, ◌<◌, ◌≤◌, min, List, [], ◌∷◌, ◌++◌, length, take, drop, set, get_or, map}
use Rattle.std.proofs.Common.{refl, ap, sym, ◌∙◌, subst, arith, add-one, drop-cons, Ok, Err, Some, None}
use Rattle.std.proofs.lemmas.List.{take_more_set, map-append, drop-set-lt, set-get_or}
use Rattle.liq_types.specs.declared.replies.Reply.{Reply}
use Rattle.liq_types.specs.State.{State}
use Rattle.liq_core.specs.Core.{StandsFor}
use Rattle.liq_market.specs.Content.{Content}
use Rattle.liq_replies96.specs.declared.reply.Reply96.{Reply96}
use Rattle.liq_replies96.specs.Replies.{reply96}
use Rattle.liq_batch.specs.declared.batch.Batch.{Batch}
use Rattle.liq_batch.specs.declared.batch.Command96.{Command96}
use Rattle.liq_batch.specs.declared.batch.Fault.{Fault}
use Rattle.liq_batch.specs.Batch.{AnswersItem, call_in, command_in, said}
use Rattle.liq_batch.specs.Numbering.{Numbers, numbered, numbered_all, numbered_in, numbered_run, numbering}
use Rattle.liq_batch.proofs.Batching.{SoFar, begun, more, over_at, stopped_at}
use Rattle.liq_batch.proofs.Ways.{by_numbering, numbered_more}

-- what is so behind the first commands: they are answered, and have their numbers; the others are as they were
pub record NumberedSoFar (s : State) (given left : List Command96) (done : ℕ) (before now : Content)
    (old new : List Reply96) : Type 0 where
  pub far : SoFar numbering s given done before now old new
  pub numbers : map command_in (take done left) ≡ map Ok (numbered_all s far.requests)

-- where two lists go on alike they have the same item
pub same_item : {A : Type 0} (xs ys : List A) (k : ℕ) (d : A)
    → k < length xs → k < length ys → drop k xs ≡ drop k ys → get_or xs k d ≡ get_or ys k d
same_item {A = A} xs ys k d low low_2 same =
    ap (λ (rest : List A). get_or rest 0 d) (sym (drop-cons xs k d low) ∙ same ∙ drop-cons ys k d low_2)

pub same_rest : {A : Type 0} (xs ys : List A) (k : ℕ) (y : A)
    → k < length xs → k < length ys → drop k xs ≡ drop k ys → drop (k + 1) (set xs k y) ≡ drop (k + 1) ys
same_rest {A = A} xs ys k y low low_2 same =
    drop-set-lt (k + 1) xs k y (omega arith) ∙ ap (λ (n : ℕ). drop n xs) (add-one k)
    ∙ ap (λ (rest : List A). drop 1 rest) (sym (drop-cons xs k y low) ∙ same ∙ drop-cons ys k y low_2)
    ∙ ap (λ (n : ℕ). drop n ys) (sym (add-one k))

module _ (s : State) (given : List Command96) where
  pub numbered_begun : (now : Content) (old : List Reply96) → StandsFor now.core s
      → NumberedSoFar s given given 0 now now old old
  unfolding begun
  numbered_begun now old stands = record { far = begun numbering by_numbering s given now old stands; numbers = refl }

  module _ (left : List Command96) (done most : ℕ) (before now : Content) (old new : List Reply96)
      (is : most ≡ min (length given) (length old)) (same : drop done left ≡ drop done given)
      (so : NumberedSoFar s given left done before now old new) where
    pub numbered_one : (after : Content) (reply : Reply) (written : Reply96) (item d : Command96)
        → done < most → done < length left → written ≡ reply96 reply
        → ((t : State) → StandsFor now.core t → AnswersItem numbering t (get_or left done d) (Ok reply) now after)
        → ((t : State) → StandsFor now.core t → command_in item ≡ numbered_in t (call_in (get_or left done d)))
        → NumberedSoFar s given (set left done item) (done + 1) before after old (set new done written)
    unfolding more
    numbered_one after reply written item d low low_2 is_reply answer numbers =
        let here = same_item left given done d low_2 (omega (arith, low, is)) same in
        let answered : (t : State) → StandsFor now.core t
        → AnswersItem numbering t (get_or given done d) (Ok reply) now after =
        λ t k. subst (λ (x : Command96). AnswersItem numbering t x (Ok reply) now after) here (answer t k) in
        let t = (numbered_run s so.far.requests).0 in
        let got = answered t so.far.stands in
        record {
          far = more numbering by_numbering s given done most before now old new is so.far after reply written d low
              is_reply answered;
          numbers =
              ap (map command_in) (take_more_set left done item low_2)
              ∙ map-append command_in (take done left) (item ∷ [])
              ∙ (λ i.
              so.numbers i
              ++ (numbers t so.far.stands ∙ ap (λ (x : Command96). numbered_in t (call_in x)) here
              ∙ ap (numbered_in t) got.1) i ∷ [])
              ∙ sym (map-append Ok (numbered_all s so.far.requests) (numbered t got.0 ∷ []))
              ∙ ap (map Ok) (sym (numbered_more s so.far.requests got.0));
        }

    pub numbered_over : (batch : Batch) → done ≤ most → most ≤ done → batch ≡ record { done = most; fault = None }
        → Numbers s given left batch before now old new
    unfolding over_at
    numbered_over batch below above ends =
        let all : done ≡ most = omega (arith, below, above) in
        let whole =
        subst (λ (k : ℕ). Numbers s given left (record { done = k; fault = None }) before now old new) all
        (record {
          answered = over_at numbering by_numbering s given done most before now old new is so.far all;
          numbers = so.numbers;
          others = same;
        }) in
        subst (λ (b : Batch). Numbers s given left b before now old new) (sym ends) whole

    pub numbered_stopped : (after : Content) (fault : Fault) (item d : Command96)
        (batch : Batch) (places : List Reply96)
        → done < most → done < length left
        → batch ≡ record { done = done; fault = Some fault } → places ≡ set new done (said fault)
        → ((t : State) → StandsFor now.core t → AnswersItem numbering t (get_or left done d) (Err fault) now after)
        → item ≡ get_or left done d
        → Numbers s given (set left done item) batch before after old places
    unfolding stopped_at
    numbered_stopped after fault item d batch places low low_2 ends says answer stays =
        let here = same_item left given done d low_2 (omega (arith, low, is)) same in
        let kept : left ≡ set left done item = sym (set-get_or left done d) ∙ ap (set left done) (sym stays) in
        let told : Batch = record { done = done; fault = Some fault } in
        let here_too =
        subst (λ (l : List Command96). Numbers s given l told before after old (set new done (said fault))) kept
        (record {
          answered = stopped_at numbering by_numbering s given done most before now old new is so.far after fault d low
              (λ t k. subst (λ (x : Command96). AnswersItem numbering t x (Err fault) now after) here (answer t k));
          numbers = so.numbers;
          others = same;
        }) in
        subst (λ (b : Batch). Numbers s given (set left done item) b before after old places) (sym ends)
        (subst (λ (l : List Reply96). Numbers s given (set left done item) told before after old l) (sym says) here_too)
