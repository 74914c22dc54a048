-- How showings go on, and what they hold of the requests.
use Rattle.std.proofs.Common.{◌≡◌, ◌⊎◌, inl, inr, ⊎_elim, ℕ, zero, suc, ◌+◌, ◌-◌, ◌≤◌, List, [], ◌∷◌, ◌++◌, length, take, drop, fold, arith, refl, sym, ap, subst, ◌∙◌, append_assoc, append-nil, length-append, take-append-drop}
use Rattle.liq_outside.specs.At.{DiskAt}
use Rattle.liq_outside.specs.declared.showing.Showing.{Showing}
use Rattle.liq_outside.specs.Disk.{GoesOn, LeftBetween, LeftSince}
use Rattle.liq_outside.specs.Showings.{AllNeighbours, LeavesBetween, shown_as}
use Rattle.liq_types.specs.declared.requests.Command.{Command}
use Rattle.liq_types.specs.declared.requests.Request.{Request}
use Rattle.liq_types.specs.State.{State}
use Rattle.liq_rule_step.specs.Step.{Allowed, accepted, after, newly_accepted, ruling, run, step}
use Rattle.liq_rule_step.proofs.Runs.{run_accepted}
use Rattle.liq_text.specs.Replies.{reply_line}
use Rattle.liq_disk_pair.specs.Commands.{kept_behind}
use Rattle.liq_disk_pair.specs.Kept.{IsKept, IsKeptWith}
use Rattle.liq_disk_pair.specs.Past.{AtCommand, Fault}
use Rattle.liq_disk_pair.proofs.Behind.{behind_more}
use Rattle.liq_disk_pair.proofs.Past.{run_folds}
use Rattle.liq_store.specs.Keeping.{IsKeptAround, LeavesPairs}
use Rattle.liq_word_exit.specs.Answered.{HoldsAnswered}
use Rattle.liq_word_exit.specs.Output.{lines}
use Rattle.liq_word_run.specs.Passing.{Covers, HoldsFirst, IsShown, WasShown, last_of}
use Rattle.liq_word_run.proofs.Progressing.{after-more, lines-more}

-- kept for the state after the command at which a disk met a fault
abbrev pub IsKeptFailed : Fault → State → List Command → List ℕ → List ℕ → Type 0
IsKeptFailed fault s held a b =
    (c : Command) × (fault ≡ AtCommand c) × (ruling s c ≡ Allowed)
    × IsKeptWith a b (after s c) (kept_behind held (c ∷ []))

-- ---- lists

-- one more at the end
one_more : {A : Type 0} (P : A → A → Type 0) (first : A) (since : List A) (next : A) → AllNeighbours P first since
    → P (last_of first since) next → AllNeighbours P first (since ++ next ∷ [])
one_more P first [] next all here = (here, tt)
one_more P first (x ∷ since) next all here = (all.0, one_more P x since next all.1 here)

last_is : {A : Type 0} (first : A) (since : List A) (next : A) → last_of first (since ++ next ∷ []) ≡ next
last_is first [] next = refl
last_is first (x ∷ since) next = last_is x since next

-- what holds of each two neighbours
all_weaker : {A : Type 0} (P Q : A → A → Type 0) → ((p q : A) → P p q → Q p q) → (first : A) (since : List A)
    → AllNeighbours P first since → AllNeighbours Q first since
all_weaker P Q gives first [] all = tt
all_weaker P Q gives first (x ∷ since) all = (gives first x all.0, all_weaker P Q gives x since all.1)

take_of_more : (n : ℕ) (xs ys : List Request) → n ≤ length xs → take n (xs ++ ys) ≡ take n xs
take_of_more zero xs ys le = refl
take_of_more (suc n) [] ys le = absurd (omega (arith, le))
take_of_more (suc n) (x ∷ xs) ys le = ap (λ (t : List Request). x ∷ t) (take_of_more n xs ys (omega (arith, le)))

take_all : (xs : List Request) → take (length xs) xs ≡ xs
take_all [] = refl
take_all (x ∷ xs) = ap (λ (t : List Request). x ∷ t) (take_all xs)

take_past : (n : ℕ) (these later : List Request) → length these ≤ n
    → take n (these ++ later) ≡ these ++ take (n - length these) later
take_past n [] later le = ap (λ (k : ℕ). take k later) (omega arith)
take_past zero (x ∷ these) later le = absurd (omega (arith, le))
take_past (suc n) (x ∷ these) later le =
    let so : n - length these ≡ suc n - length (x ∷ these) = omega arith in
    ap (λ (t : List Request). x ∷ t) (take_past n these later (omega (arith, le)))
    ∙ ap (λ (k : ℕ). x ∷ (these ++ take k later)) so

none_behind : (xs ys : List Command) → xs ++ ys ≡ xs → ys ≡ []
none_behind [] ys is = is
none_behind (x ∷ xs) ys is = none_behind xs ys cc

none_of : (xs ys : List Command) → xs ++ ys ≡ [] → xs ≡ []
none_of [] ys is = refl
none_of (x ∷ xs) ys is = absurd cc

at_most : (n m : ℕ) → (n ≤ m) ⊎ (m ≤ n)
at_most n m = grind arith

-- ---- what the disks hold, while a run goes on

module _ (begun : List Command) (start : State) (before : ℕ) where
  -- the commands behind these requests
  abbrev pub held_behind : List Request → List Command
  held_behind requests = kept_behind begun (accepted start requests)

  abbrev KeptBehind : List Request → List ℕ → List ℕ → Type 0
  KeptBehind requests a b = IsKeptWith a b (run start requests).0 (held_behind requests)

  -- behind one request more
  held_more : (requests : List Request) (request : Request)
      → kept_behind (held_behind requests) (newly_accepted (run start requests).0 request)
      ≡ held_behind (requests ++ request ∷ [])
  held_more requests request =
      let s = (run start requests).0 in
      ap (kept_behind (held_behind requests)) (sym (append-nil (newly_accepted s request)))
      ∙ sym (behind_more begun (accepted start requests) (accepted s (request ∷ [])))
      ∙ ap (kept_behind begun) (sym (run_accepted start requests (request ∷ [])))

  -- more requests were answered
  further : (requests more : List Request) (held : ℕ) (a b : List ℕ) → HoldsFirst begun start before requests held a b
      → HoldsFirst begun start before (requests ++ more) held a b
  further requests more held a b h =
      let same : take h.0 requests ≡ take h.0 (requests ++ more) = sym (take_of_more h.0 requests more h.1) in (
        h.0,
        omega (arith, h.1, length-append requests more),
        subst (λ (rs : List Request). held ≤ before + length (lines start rs)) same h.2,
        subst (λ (rs : List Request). KeptBehind rs a b) same h.3,
      )

  -- all of them
  of_all : (requests : List Request) (held : ℕ) (a b : List ℕ) → held ≤ before + length (lines start requests)
      → KeptBehind requests a b → HoldsFirst begun start before requests held a b
  of_all requests held a b le kept =
      let same : requests ≡ take (length requests) requests = sym (take_all requests) in (
        length requests,
        omega arith,
        subst (λ (rs : List Request). held ≤ before + length (lines start rs)) same le,
        subst (λ (rs : List Request). KeptBehind rs a b) same kept,
      )

  -- a call: before it or after it
  around : (requests : List Request) (request : Request) (held : ℕ) (a b : List ℕ)
      → held ≤ before + length (lines start requests)
      → IsKeptAround (run start requests).0 (held_behind requests) request a b → HoldsFirst begun start before (requests ++ request ∷ []) held a b
  around requests request held a b le (inl kept) = further requests (request ∷ []) held a b
      (of_all requests held a b le kept)
  around requests request held a b le (inr kept) =
      let longer = ap length (lines-more start requests request)
      ∙ length-append (lines start requests) (reply_line (step (run start requests).0 request).1) in
      of_all (requests ++ request ∷ []) held a b (omega (arith, le, longer))
      (record {
        kept = subst (λ (s : State). IsKept a b s) (sym (after-more start requests request)) kept.kept;
        commands = kept.commands ∙ held_more requests request;
      })

  -- ---- and at its end

  in_all : (requests : List Request) (fault : Fault) (held : ℕ) (a b : List ℕ)
      → HoldsFirst begun start before requests held a b → HoldsAnswered begun start requests fault before held a b
  in_all requests fault held a b h = (h.0, h.1, inl h.2, inl h.3)

  -- kept for the state after all, or after the command that failed
  at_end : (requests : List Request) (fault : Fault) (held : ℕ) (a b : List ℕ)
      → KeptBehind requests a b ⊎ IsKeptFailed fault (run start requests).0 (held_behind requests) a b
      → HoldsAnswered begun start requests fault before held a b
  at_end requests fault held a b (inl kept) = (
    length requests,
    omega arith,
    inr refl,
    inl
        (subst (λ (rs : List Request). KeptBehind rs a b) (sym (take_all requests)) kept),
  )
  at_end requests fault held a b (inr failed) = (
    length requests,
    omega arith,
    inr refl,
    inr (
      refl,
      (
        failed.0,
        failed.1,
        failed.2,
        subst (λ (rs : List Request).
            IsKeptWith a b (after (run start requests).0 failed.0) (kept_behind (held_behind rs) (failed.0 ∷ [])))
            (sym (take_all requests)) failed.3,
      ),
    ),
  )

  -- if all accept what the first ones accept, so do more of them
  same_first : (these more rest : List Request) → accepted start these ≡ accepted start (these ++ (more ++ rest))
      → accepted start (these ++ more) ≡ accepted start these
  same_first these more rest same =
      let s = (run start these).0 in
      let all = run_accepted start these (more ++ rest) in
      let behind : accepted s (more ++ rest) ≡ [] = none_behind (accepted start these) (accepted s (more ++ rest))
      (sym all ∙ sym same) in
      let none : accepted s more ≡ [] = none_of (accepted s more) (accepted (run s more).0 rest)
      (sym (run_accepted s more rest) ∙ behind) in
      run_accepted start these more ∙ ap (λ (cs : List Command). accepted start these ++ cs) none
      ∙ append-nil (accepted start these)

  -- the same accepted commands lead to the same state
  pub same_state : (these those : List Request) → accepted start these ≡ accepted start those
      → (run start these).0 ≡ (run start those).0
  same_state these those same = run_folds start these ∙ ap (fold after start) same ∙ sym (run_folds start those)

  -- of one that was cut in what it answered last
  of_cut : (these later : List Request) (fault : Fault) (held : ℕ) (a b : List ℕ)
      → accepted start these ≡ accepted start (these ++ later)
      → HoldsFirst begun start before (these ++ later) held a b → HoldsAnswered begun start these fault before held a b
  of_cut these later fault held a b same h = ⊎_elim
      (λ le.
      let is : take h.0 (these ++ later) ≡ take h.0 these = take_of_more h.0 these later le in
      in_all these fault held a b (
        h.0,
        le,
        subst (λ (rs : List Request). held ≤ before + length (lines start rs)) is h.2,
        subst (λ (rs : List Request). KeptBehind rs a b) is h.3,
      ))
      (λ le.
      let k = h.0 - length these in
      let is : take h.0 (these ++ later) ≡ these ++ take k later = take_past h.0 these later le in
      let so : accepted start (these ++ take k later) ≡ accepted start these =
      same_first these (take k later) (drop k later)
      (same ∙ ap (λ (rs : List Request). accepted start (these ++ rs)) (sym (take-append-drop k later))) in
      let ends : (run start (take h.0 (these ++ later))).0 ≡ (run start these).0 =
      ap (λ (rs : List Request). (run start rs).0) is ∙ same_state (these ++ take k later) these so in
      at_end these fault held a b (inl (record {
        kept = subst (λ (s : State). IsKept a b s) ends h.3.kept;
        commands = h.3.commands ∙ ap (kept_behind begun) (ap (accepted start) is ∙ so);
      })))
      (at_most h.0 (length these))

-- ---- what the sink was shown

module _ {D : Type 0} (at : D → DiskAt) where
  earlier_left : (old new : D) (from to : ℕ) (image : List ℕ) → GoesOn at old new → to ≤ (at old).moment
      → LeftBetween at new from to image → LeftBetween at old from to image
  earlier_left old new from to image time le left =
      (left.0, left.1, left.2, time.past left.0 image (omega (arith, left.2, le)) left.3)

  -- as time goes on, and of what P gives
  later_on : (ol or nl nr : D) (P Q : ℕ → List ℕ → List ℕ → Type 0) → GoesOn at ol nl → GoesOn at or nr
      → ((held : ℕ) (a b : List ℕ) → P held a b → Q held a b) → (p q : Showing) → Covers at ol or P p q
      → Covers at nl nr Q p q
  later_on ol or nl nr P Q left right gives p q covers = record {
    between = record {
      left_time = covers.between.left_time;
      right_time = covers.between.right_time;
      leaves = λ a b at_a at_b. gives q.held a b (covers.between.leaves a b
          (earlier_left ol nl p.left q.left a left covers.left_by at_a)
          (earlier_left or nr p.right q.right b right covers.right_by at_b));
    };
    left_by = omega (arith, covers.left_by, left.later);
    right_by = omega (arith, covers.right_by, right.later);
  }

  -- what a crash from a moment until now may have left
  pub since_then : (disk : D) (from : ℕ) (image : List ℕ) → LeftBetween at disk from (at disk).moment image
      → LeftSince at disk from image
  since_then disk from image left = (left.0, left.1, left.2, left.3)

  -- of two disks that were opened, and the same since then, all that was left in the opening has P
  pub opening_left : (ol or ml mr nl nr : D) → GoesOn at ml nl → GoesOn at mr nr
      → (at ol).moment ≤ (at ml).moment → (at or).moment ≤ (at mr).moment
      → (P : List ℕ → List ℕ → Type 0) (before now : List ℕ)
      → LeavesPairs at ol or ml mr P
      → LeavesBetween at nl nr (λ held a b. P a b) (shown_as at before ol or) (shown_as at now ml mr)
  opening_left ol or ml mr nl nr left right left_time right_time P before now leaves = record {
    left_time = left_time;
    right_time = right_time;
    leaves = λ a b at_a at_b.
        leaves a b (since_then ml (at ol).moment a
        (earlier_left ml nl (at ol).moment (at ml).moment a left (omega arith) at_a))
        (since_then mr (at or).moment b (earlier_left mr nr (at or).moment (at mr).moment b right (omega arith) at_b));
  }

  module _ (begun : List Command) (start : State) (before : ℕ) (first : Showing) (earlier : List Showing) where
    abbrev behind : List Request → List Command
    behind requests = kept_behind begun (accepted start requests)

    abbrev ShownSo : List Request → D → D → List Showing → Type 0
    ShownSo requests left right all = IsShown at begun start before requests left right first earlier all

    -- before the first request
    pub shown_first : (left right : D) → first.left ≡ (at left).moment → first.right ≡ (at right).moment
        → ShownSo [] left right (earlier ++ first ∷ [])
    shown_first left right left_is right_is = record
        { since = []; are = refl; each = tt; left_is = left_is; right_is = right_is }

    -- more requests, at which no disk was called
    pub shown_on : (requests more : List Request) (left right : D) (all : List Showing)
        → GoesOn at left left → GoesOn at right right
        → ShownSo requests left right all → ShownSo (requests ++ more) left right all
    shown_on requests more left right all time_left time_right shown = record {
      since = shown.since;
      are = shown.are;
      each = all_weaker _ _ (later_on left right left right _ _ time_left time_right
          (λ held a b h. further begun start before requests more held a b h)) first shown.since shown.each;
      left_is = shown.left_is;
      right_is = shown.right_is;
    }

    module _ (requests : List Request) (ol or nl nr : D) (all : List Showing)
        (time_left : GoesOn at ol nl) (time_right : GoesOn at or nr)
        (shown : ShownSo requests ol or all) where
      from_left : (a : List ℕ) → LeftBetween at nl (last_of first shown.since).left (at nl).moment a
          → LeftSince at nl (at ol).moment a
      from_left a left = since_then nl (at ol).moment a
          (subst (λ (k : ℕ). LeftBetween at nl k (at nl).moment a) shown.left_is left)

      from_right : (b : List ℕ) → LeftBetween at nr (last_of first shown.since).right (at nr).moment b
          → LeftSince at nr (at or).moment b
      from_right b right = since_then nr (at or).moment b
          (subst (λ (k : ℕ). LeftBetween at nr k (at nr).moment b) shown.right_is right)

      -- from the last showing until now
      until_now : (now : List ℕ) (P : ℕ → List ℕ → List ℕ → Type 0)
          → ((a b : List ℕ) → LeftSince at nl (at ol).moment a → LeftSince at nr (at or).moment b
          → P (length now) a b)
          → LeavesBetween at nl nr P (last_of first shown.since) (shown_as at now nl nr)
      until_now now P gives = record {
        left_time = omega (arith, shown.left_is, time_left.later);
        right_time = omega (arith, shown.right_is, time_right.later);
        leaves = λ a b at_a at_b. gives a b (from_left a at_a) (from_right b at_b);
      }

      -- one request more, and a showing behind it
      pub shown_again : (request : Request) (now : List ℕ) → length now ≤ before + length (lines start requests)
          → ((a b : List ℕ) → LeftSince at nl (at ol).moment a → LeftSince at nr (at or).moment b
          → IsKeptAround (run start requests).0 (behind requests) request a b)
          → ShownSo (requests ++ request ∷ []) nl nr (all ++ shown_as at now nl nr ∷ [])
      shown_again request now within leaves =
          let next = shown_as at now nl nr in
          let is = last_is first shown.since next in
          let holds = HoldsFirst begun start before (requests ++ request ∷ []) in
          record {
            since = shown.since ++ next ∷ [];
            are = ap (λ (t : List Showing). t ++ next ∷ []) shown.are
                ∙ append_assoc earlier (first ∷ shown.since) (next ∷ []);
            each = one_more (Covers at nl nr holds) first shown.since next
                (all_weaker _ _ (later_on ol or nl nr _ _ time_left time_right
                (λ held a b h. further begun start before requests (request ∷ []) held a b h)) first shown.since
                shown.each)
                (record {
                  between = until_now now holds (λ a b at_a at_b. around begun start before requests request (length now) a
                      b within (leaves a b at_a at_b));
                  left_by = omega arith;
                  right_by = omega arith;
                });
            left_is = ap (λ (s : Showing). s.left) is;
            right_is = ap (λ (s : Showing). s.right) is;
          }

      -- the end, of these requests or of others that hold what they held
      pub shown_all : (others : List Request) (fault : Fault)
          → ((held : ℕ) (a b : List ℕ) → HoldsFirst begun start before requests held a b
          → HoldsAnswered begun start others fault before held a b)
          → ((a b : List ℕ) → LeftSince at nl (at ol).moment a → LeftSince at nr (at or).moment b
          → IsKeptWith a b (run start others).0 (behind others)
          ⊎ IsKeptFailed fault (run start others).0 (behind others) a b)
          → WasShown at begun start before others fault nl nr first earlier all
      shown_all others fault more gives = record {
        since = shown.since;
        are = shown.are;
        each = λ now. one_more (LeavesBetween at nl nr (HoldsAnswered begun start others fault before)) first
            shown.since (shown_as at now nl nr)
            (all_weaker _ _ (λ p q covers. (later_on ol or nl nr _ _ time_left time_right more p q covers).between)
            first shown.since shown.each)
            (until_now now (HoldsAnswered begun start others fault before)
            (λ a b at_a at_b. at_end begun start before others fault (length now) a b (gives a b at_a at_b)));
      }

    -- at a command
    pub shown_failed : (requests : List Request) (fault : Fault) (ol or nl nr : D) (all : List Showing)
        → GoesOn at ol nl → GoesOn at or nr → ShownSo requests ol or all
        → ((a b : List ℕ) → LeftSince at nl (at ol).moment a → LeftSince at nr (at or).moment b
        → IsKeptWith a b (run start requests).0 (behind requests)
        ⊎ IsKeptFailed fault (run start requests).0 (behind requests) a b)
        → WasShown at begun start before requests fault nl nr first earlier all
    shown_failed requests fault ol or nl nr all time_left time_right shown gives =
        shown_all requests ol or nl nr all time_left time_right shown requests fault
        (λ held a b h. in_all begun start before requests fault held a b h) gives

    -- at rest, where the replies to some later requests were cut, of which none was accepted
    pub shown_ended : (requests later : List Request) (fault : Fault) (left right : D) (all : List Showing)
        → accepted start requests ≡ accepted start (requests ++ later)
        → GoesOn at left left → GoesOn at right right
        → ShownSo (requests ++ later) left right all
        → ((a b : List ℕ) → LeftSince at left (at left).moment a → LeftSince at right (at right).moment b
        → IsKeptWith a b (run start requests).0 (behind requests))
        → WasShown at begun start before requests fault left right first earlier all
    shown_ended requests later fault left right all same time_left time_right shown gives =
        shown_all (requests ++ later) left right left right all time_left time_right shown requests fault
        (λ held a b h. of_cut begun start before requests later fault held a b same h)
        (λ a b at_a at_b. inl (gives a b at_a at_b))
