-- What a seat tells of its session's script, when the book is closed.
use Rattle.std.proofs.Common.{ℕ, zero, suc, ◌-◌, ◌<◌, ◌≤◌, ◌≡◌, ◌≢◌, List, [], ◌∷◌, ◌++◌, map, length, take, drop, zip, Bool, true, false, Some, None, refl, sym, ap, subst, ◌∙◌, length-drop, length-take, arith}
use Rattle.std.specs.Prelude.{◌↔◌, All, Contains, IsTrue, slice_index_or}
use Rattle.std.specs.List.{AllByRecursion}
use Rattle.std.proofs.lemmas.List.{append-nil, take-append-drop}
use Rattle.std.proofs.lemmas.List.Elements.{Contains-get_or}
use Rattle.liq_types.specs.declared.replies.Answer.TheVariants as answer
use Rattle.liq_types.specs.declared.replies.Reply.{Reply}
use Rattle.liq_types.specs.declared.requests.Request.{Request}
use Rattle.liq_types.specs.declared.entries.Entry.{Entry}
use Rattle.liq_rule_step.specs.History.{own_entries, requests_of}
use Rattle.liq_lock.specs.History.{Behind}
use Rattle.liq_sessions.specs.declared.done.SessionEnd.{SessionEnd}
use Rattle.liq_sessions.specs.declared.done.SessionEnd.TheVariants as session_end
use Rattle.liq_sessions.specs.declared.script.Script.{Script}
use Rattle.liq_sessions.specs.Ran.{faulted_at}
use Rattle.liq_book.specs.declared.items.Halt.{Halt}
use Rattle.liq_book.specs.declared.items.Item.{Item}
use Rattle.liq_book.specs.declared.items.Item.TheVariants as item
use Rattle.liq_book.specs.Items.{calls_of, entries_of, faulted_in, session_of}
use Rattle.liq_book.proofs.Chronicles.{faulted_behind, faulted_in-append, own_behind, same_session}
use Rattle.liq_word_serve.specs.Answered.{IsNextOf, IsServedFrom, IsServedWhole, answered_of}
use Rattle.liq_word_serve.specs.Serves.{AreNumbered}

-- ---- lists

pub all_from : {X : Type 0} (P : X → Type 0) (xs : List X) → All P xs → AllByRecursion P xs
all_from P [] all = tt
all_from P (x ∷ xs) all = (all 0 x (omega arith), all_from P xs (λ k d within. all (suc k) d (omega arith)))

pub all_to : {X : Type 0} (P : X → Type 0) (xs : List X) → AllByRecursion P xs → All P xs
all_to P [] all k d within = absurd (omega arith)
all_to P (x ∷ xs) all zero d within = all.0
all_to P (x ∷ xs) all (suc k) d within = all_to P xs all.1 k d (omega arith)

pub all_unmap : {X Y : Type 0} (P : Y → Type 0) (f : X → Y) (xs : List X) → AllByRecursion P (map f xs)
    → AllByRecursion (λ x. P (f x)) xs
all_unmap P f [] all = tt
all_unmap P f (x ∷ xs) all = (all.0, all_unmap P f xs all.1)

pub all_mapped : {X Y : Type 0} (P : Y → Type 0) (f : X → Y) (xs : List X) → AllByRecursion (λ x. P (f x)) xs
    → AllByRecursion P (map f xs)
all_mapped P f [] all = tt
all_mapped P f (x ∷ xs) all = (all.0, all_mapped P f xs all.1)

pub all_so : {X : Type 0} (P Q : X → Type 0) → ((x : X) → P x → Q x) → (xs : List X) → AllByRecursion P xs
    → AllByRecursion Q xs
all_so P Q so [] all = tt
all_so P Q so (x ∷ xs) all = (so x all.0, all_so P Q so xs all.1)

all_apart : {X : Type 0} (P : X → Type 0) (front : List X) (last : X) → AllByRecursion P (front ++ last ∷ [])
    → AllByRecursion P front × P last
all_apart P [] last all = (tt, all.0)
all_apart P (x ∷ front) last all = let rest = all_apart P front last all.1 in ((all.0, rest.0), rest.1)

all_joined : {X : Type 0} (P : X → Type 0) (front : List X) (last : X) → AllByRecursion P front → P last
    → AllByRecursion P (front ++ last ∷ [])
all_joined P [] last all here = (here, tt)
all_joined P (x ∷ front) last all here = (all.0, all_joined P front last all.1 here)

-- a test of all, by one of all but the last and one of that
module _ {X : Type 0} (P : X → Type 0) (front items : List X) (last : X) (others here all : Bool) (are : items
    ≡ front ++ last ∷ []) (front_so : IsTrue others ↔ AllByRecursion P front) (last_so : IsTrue here ↔ P last) where
  pub all_tested : others ≡ true → all ≡ here → IsTrue all ↔ AllByRecursion P items
  all_tested is_so all_is = (
    λ so. subst (AllByRecursion P) (sym are) (all_joined P front last (front_so.0 is_so) (last_so.0 (sym all_is ∙ so))),
    λ so. all_is ∙ last_so.1 (all_apart P front last (subst (AllByRecursion P) are so)).1,
  )

  pub not_all_tested : others ≡ false → all ≡ false → IsTrue all ↔ AllByRecursion P items
  not_all_tested is_not all_is = (
    λ so. absurd (cc (so, all_is)),
    λ so. absurd (cc (is_not, front_so.1 (all_apart P front last (subst (AllByRecursion P) are so)).0)),
  )

firsts-zip : (xs : List Request) (ys : List Reply) → length ys ≤ length xs
    → map (λ (p : Request × Reply). p.0) (zip xs ys) ≡ take (length ys) xs
firsts-zip [] [] few = refl
firsts-zip [] (y ∷ ys) few = absurd (omega arith)
firsts-zip (x ∷ xs) [] few = refl
firsts-zip (x ∷ xs) (y ∷ ys) few = ap (λ rest. x ∷ rest) (firsts-zip xs ys (omega arith))

requests_shown : (entries : List Entry)
    → map (λ (p : Request × Reply). p.0) (map (λ (e : Entry). (e.request, e.reply)) entries)
    ≡ requests_of entries
requests_shown [] = refl
requests_shown (e ∷ entries) = ap (λ rest. e.request ∷ rest) (requests_shown entries)

-- ---- scripts

-- a script of this session is there
pub script_of : (scripts : List Script) → AreNumbered scripts → (session : ℕ) → 1 ≤ session → session ≤ length scripts
    → (script : Script) × Contains scripts script × (script.session ≡ session)
script_of [] numbered session low high = absurd (omega arith)
script_of (first ∷ scripts) numbered session low high =
    let k : ℕ = session - 1 in
    let within : k < length (first ∷ scripts) = omega arith in (
      slice_index_or (first ∷ scripts) k first,
      Contains-get_or (first ∷ scripts) k first within,
      numbered k first within
          ∙ omega arith,
    )

-- ---- one session

-- So many of the script's requests got replies. The session ended there in this way, and the halt, if it is the
-- session's, is the next one's.
pub record IsTold (left : List Item) (script : Script) : Type 0 where
  pub count : ℕ
  pub within : count ≤ length script.requests
  pub answered : answered_of script.session (entries_of left) ≡ take count script.requests
  pub end : SessionEnd
  pub faulted : faulted_in script.session left ≡ faulted_at None (drop count script.requests) end

-- the requests that got replies
answered_by : (left seen : List Item) (script : Script) (replies : List Reply)
    → Behind session_of left (script.session ∷ []) seen
    → calls_of script.session seen ≡ zip script.requests replies → length replies ≤ length script.requests
    → answered_of script.session (entries_of left) ≡ take (length replies) script.requests
answered_by left seen script replies behind calls few =
    ap (map (λ (e : Entry). e.request)) (own_behind script.session left seen behind)
    ∙ (sym (requests_shown (own_entries script.session (entries_of seen)))
    ∙ (ap (map (λ (p : Request × Reply). p.0)) calls ∙ firsts-zip script.requests replies few))

-- by what a seat has seen that was given back
pub told_by : (left seen : List Item) (script : Script) (replies : List Reply) (end : SessionEnd)
    → Behind session_of left (script.session ∷ []) seen
    → calls_of script.session seen ≡ zip script.requests replies → length replies ≤ length script.requests
    → faulted_in script.session seen ≡ faulted_at None (drop (length replies) script.requests) end
    → IsTold left script
told_by left seen script replies end behind calls few faulted = record {
  count = length replies;
  within = few;
  answered = answered_by left seen script replies behind calls few;
  end = end;
  faulted = faulted_behind script.session left seen behind ∙ faulted;
}

-- a seat that saw nothing
pub answered_none : (left : List Item) (script : Script) → Behind session_of left (script.session ∷ []) []
    → answered_of script.session (entries_of left) ≡ []
answered_none left script behind = ap (map (λ (e : Entry). e.request))
    (own_behind script.session left [] behind)

pub told_none : (left : List Item) (script : Script) → Behind session_of left (script.session ∷ []) []
    → IsTold left script
told_none left script behind = record {
  count = 0;
  within = omega arith;
  answered = answered_none left script behind;
  end = session_end.All;
  faulted = faulted_behind script.session left [] behind ∙ sym (nothing (drop 0 script.requests));
} where
  nothing : (rest : List Request) → faulted_at None rest session_end.All ≡ None
  nothing [] = refl
  nothing (request ∷ rest) = refl

pub front_told : (left : List Item) (script : Script) → IsTold left script → IsServedFrom (entries_of left) script
front_told left script told = (
  drop told.count script.requests,
  rw told.answered (sym (take-append-drop told.count script.requests)),
)

-- a fault is the next request's
next_faulted : (rest : List Request) (end : SessionEnd) (request : Request) → faulted_at None rest end ≡ Some request
    → (later : List Request) × (rest ≡ request ∷ later)
next_faulted [] end request is = absurd (let e : None ≡ Some request = is in cc)
next_faulted (r ∷ rest) session_end.All request is = absurd (let e : None ≡ Some request = is in cc)
next_faulted (r ∷ rest) (session_end.Fault (answer.Reply reply)) request is =
    absurd (let e : None ≡ Some request = is in cc)
next_faulted (r ∷ rest) (session_end.Fault answer.NoMemory) request is = absurd (let e : None ≡ Some request = is in cc)
next_faulted (r ∷ rest) (session_end.Fault answer.DiskFault) request is =
    (rest, (let e : Some r ≡ Some request = is in cc))
next_faulted (r ∷ rest) (session_end.Fault (answer.Stopped faults)) request is =
    absurd (let e : None ≡ Some request = is in cc)
next_faulted (r ∷ rest) (session_end.Fault (answer.HistoryFull entries)) request is =
    absurd (let e : None ≡ Some request = is in cc)

-- a chronicle that ends in a halt shows it to its session
faulted_last : (items : List Item) (h : Halt) → faulted_in h.session (items ++ item.Halt h ∷ []) ≡ Some h.request
faulted_last items h = rw (faulted_in-append h.session items (item.Halt h ∷ []), same_session h.session) refl

pub next_told : (items : List Item) (h : Halt) (script : Script) → IsTold (items ++ item.Halt h ∷ []) script
    → script.session ≡ h.session
    → IsNextOf (entries_of (items ++ item.Halt h ∷ [])) h.request script
next_told items h script told same =
    let left : List Item = items ++ item.Halt h ∷ [] in
    let fault : faulted_in script.session left ≡ Some h.request = ap (λ session. faulted_in session left) same
    ∙ faulted_last items h in
    let next = next_faulted (drop told.count script.requests) told.end h.request (sym told.faulted ∙ fault) in (
      next.0,
      rw told.answered (sym (take-append-drop told.count script.requests)
          ∙ ap (λ rest. take told.count script.requests ++ rest) next.1),
    )

-- all were answered where none is left
pub whole_told : (left seen : List Item) (script : Script) (replies : List Reply)
    → Behind session_of left (script.session ∷ []) seen → calls_of script.session seen ≡ zip script.requests replies
    → length replies ≤ length script.requests
    → drop (length replies) script.requests ≡ [] → IsServedWhole (entries_of left) script
whole_told left seen script replies behind calls few none =
    rw (answered_by left seen script replies behind calls few) (sym (take-append-drop (length replies) script.requests)
    ∙ (ap (λ rest. take (length replies) script.requests ++ rest) none
    ∙ append-nil (take (length replies) script.requests)))

-- and only then
pub short_told : (left seen : List Item) (script : Script) (replies : List Reply)
    → Behind session_of left (script.session ∷ []) seen → calls_of script.session seen ≡ zip script.requests replies
    → length replies ≤ length script.requests
    → drop (length replies) script.requests ≢ [] → IsServedWhole (entries_of left) script → ⊥
short_told left seen script replies behind calls few some whole =
    let requests : List Request = script.requests in
    let all : length requests ≡ length (take (length replies) requests) = ap length (whole
    ∙ answered_by left seen script replies behind calls few) in
    some (none_left (drop (length replies) requests) (omega (
      arith,
      all,
      length-take (length replies) requests,
      length-drop (length replies) requests,
    ))) where
      none_left : (rest : List Request) → length rest ≤ 0 → rest ≡ []
      none_left [] none = refl
      none_left (request ∷ rest) none = absurd (omega arith)
