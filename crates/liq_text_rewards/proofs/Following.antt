-- What was noted of a journal's commands is what they do, and can be followed.
use Rattle.std.proofs.Common.{◌≡◌, ℕ, zero, suc, ◌+◌, ◌*◌, ◌≤◌, ◌<◌, List, [], ◌∷◌, ◌++◌, length, take, drop, get_or, Ok, refl, sym, ap, subst, ◌∙◌, arith, append_assoc, append-nil, drop-cons, add-one}
use Rattle.std.specs.Prelude.{map, fold}
use Rattle.std.proofs.lemmas.List.{map-append}
use Rattle.std.proofs.lemmas.List.Sums.{fold_more}
use Rattle.liq_types.specs.declared.amounts.TheConstants.{ACCOUNTS, LIM, LOWEST_MOST}
use Rattle.liq_types.specs.declared.events.PoolEvent.{PoolEvent}
use Rattle.liq_types.specs.declared.replies.Done.{Done}
use Rattle.liq_types.specs.declared.requests.Command.{Command}
use Rattle.liq_types.specs.declared.requests.Request.TheVariants.{Do}
use Rattle.liq_types.specs.Image.{IsLimit}
use Rattle.liq_types.specs.PlainLedger.{AreOwnedBelow, over_accounts}
use Rattle.liq_types.specs.State.{State, opening, opening_with}
use Rattle.liq_stability.specs.Lawful.{IsLawful}
use Rattle.liq_stability.proofs.LawfulLists.{lawful_first}
use Rattle.liq_rule_step.specs.Events.{events}
use Rattle.liq_rule_step.specs.Rules.{call_events}
use Rattle.liq_rule_step.specs.Step.{after}
use Rattle.liq_rule_step.proofs.Counting.{run_events_count}
use Rattle.liq_rule_sound.proofs.SoundPromises.{reached_pool}
use Rattle.liq_disk_pair.specs.Replay.{replay}
use Rattle.liq_disk_pair.proofs.Basing.{ok_same}
use Rattle.liq_disk_pair.proofs.Generations.{HaveNoRotation}
use Rattle.liq_disk_pair.proofs.Replaying.{first_accepted, replay_none}
use Rattle.liq_disk_replay.specs.Retold as retold
use Rattle.liq_disk_replay.proofs.Runs.{replay_runs, replay_few}
use Rattle.liq_rewards.specs.declared.issuance.TheConstants.{EVENTS_MOST}
use Rattle.liq_rewards.specs.Issued.{issued}
use Rattle.liq_rewards.specs.Timed.{Timed, events_of, AreInOrder, unshared_at}
use Rattle.liq_rewards.specs.Earning.{reward_at}
use Rattle.liq_rewards.specs.Exact.{IsWithinAllowance, allowance_at}
use Rattle.liq_rewards.specs.Kept.{MayHappen}
use Rattle.liq_rewards.proofs.Along.{within_allowance}
use Rattle.liq_rewards.proofs.Conserving.{all_units, all_rewards}
use Rattle.liq_rewards.proofs.Small.{served}
use Rattle.liq_text_rewards.specs.Happened.{happens, past_after, minute_after}
use Rattle.liq_text_rewards.specs.Telling.{Note, notes_in, events_in, noted, past_in, NeverFall, CanBeFollowed}
use Rattle.liq_text_rewards.proofs.Minutes.{later_after}

-- what is noted of the commands
abbrev pub adds : ℕ → Done → List PoolEvent → List Note
adds minute done events = notes_in minute events

-- ---- notes and events

pub events_noted : (minute : ℕ) (es : List PoolEvent) → events_in (notes_in minute es) ≡ es
events_noted minute [] = refl
events_noted minute (e ∷ es) = ap (λ (t : List PoolEvent). e ∷ t) (events_noted minute es)

pub events_along : (commands : List Command) (s : State) → events_in (retold.noted adds s commands) ≡ events s commands
events_along [] s = refl
events_along (c ∷ cs) s =
    map-append (λ (note : Note). note.1) (notes_in s.minute (call_events s c.call)) (retold.noted adds (after s c) cs)
    ∙ ap (λ (t : List PoolEvent). t ++ events_in (retold.noted adds (after s c) cs)) (events_noted s.minute
    (call_events s c.call))
    ∙ ap (λ (t : List PoolEvent). call_events s c.call ++ t) (events_along cs (after s c))

one_call : (minute : ℕ) (es : List PoolEvent) (rest : List Note) (past : List Timed)
    → fold noted past (notes_in minute es ++ rest) ≡ fold noted (fold (happens minute) past es) rest
one_call minute [] rest past = refl
one_call minute (e ∷ es) rest past = one_call minute es rest (happens minute past e)

pub past_along : (commands : List Command) (s : State) (past : List Timed)
    → fold noted past (retold.noted adds s commands) ≡ past_after past s commands
past_along [] s past = refl
past_along (c ∷ cs) s past = one_call s.minute (call_events s c.call) (retold.noted adds (after s c) cs) past
    ∙ past_along cs (after s c) (fold (happens s.minute) past (call_events s c.call))

pub events_behind : (notes : List Note) (past : List Timed) → events_of (fold noted past notes) ≡ events_of past
    ++ events_in notes
events_behind [] past = sym (append-nil (events_of past))
events_behind (note ∷ notes) past = events_behind notes (noted past note)
    ∙ append_assoc (events_of past) (note.1 ∷ []) (events_in notes)

length_behind : (notes : List Note) (past : List Timed) → length (fold noted past notes) ≡ length past + length notes
length_behind [] past = omega arith
length_behind (note ∷ notes) past = let rest = length_behind notes (noted past note) in omega (arith, rest)

events_as_many : (notes : List Note) → length (events_in notes) ≡ length notes
events_as_many [] = refl
events_as_many (note ∷ notes) = ap suc (events_as_many notes)

-- ---- minutes

pub order_from : (lower from to : ℕ) (notes : List Note) → lower ≤ from → NeverFall from notes to
    → NeverFall lower notes to
order_from lower from to [] le h = omega (arith, le, h)
order_from lower from to (note ∷ notes) le h = let first = h.0 in (omega (arith, le, first), h.1)

order_call : (from minute to : ℕ) (es : List PoolEvent) (rest : List Note) → from ≤ minute → NeverFall minute rest to
    → NeverFall from (notes_in minute es ++ rest) to
order_call from minute to [] rest le h = order_from from minute to rest le h
order_call from minute to (e ∷ es) rest le h = (le, order_call minute minute to es rest (omega arith) h)

pub order_along : (commands : List Command) (index : ℕ) (s end : State) → replay index s commands ≡ Ok end
    → NeverFall s.minute (retold.noted adds s commands) end.minute
order_along [] index s end came = let same : s.minute ≡ end.minute =
    ap (λ (t : State). t.minute) (ok_same s end (sym (replay_none index s) ∙ came)) in omega (arith, same)
order_along (c ∷ cs) index s end came =
    let first = first_accepted index s end c cs came in
    order_call s.minute s.minute end.minute (call_events s c.call) (retold.noted adds (after s c) cs) (omega arith)
    (order_from s.minute (after s c).minute end.minute (retold.noted adds (after s c) cs) (later_after s c)
    (order_along cs (index + 1) (after s c) end first.rest))

pub last_minute : (commands : List Command) (index : ℕ) (s end : State) → replay index s commands ≡ Ok end
    → minute_after s commands ≡ end.minute
last_minute [] index s end came = ap (λ (t : State). t.minute) (ok_same s end (sym (replay_none index s) ∙ came))
last_minute (c ∷ cs) index s end came = let first = first_accepted index s end c cs came
    in last_minute cs (index + 1) (after s c) end first.rest

raised : (past : List Timed) (from to : ℕ) → from ≤ to → AreInOrder from past → AreInOrder to past
raised [] from to le kept = tt
raised (t ∷ past) from to le kept = let first = kept.0 in (omega (arith, le, first), kept.1)

pub in_order : (notes : List Note) (past : List Timed) (from to : ℕ) → NeverFall from notes to → AreInOrder from past
    → AreInOrder to (fold noted past notes)
in_order [] past from to h kept = raised past from to h kept
in_order (note ∷ notes) past from to h kept = in_order notes (noted past note) note.0 to h.1 (
  omega arith,
  raised past from note.0 h.0 kept,
)

pub past_in_order : (limit : ℕ) (commands : List Command) (s : State) → replay 1 (opening_with limit) commands ≡ Ok s
    → AreInOrder s.minute (past_after [] (opening_with limit) commands)
past_in_order limit commands s came =
    subst (AreInOrder s.minute) (past_along commands (opening_with limit) [])
    (in_order (retold.noted adds (opening_with limit) commands) [] 0 s.minute (order_along commands 1
    (opening_with limit) s came) tt)

pub events_past : (limit : ℕ) (commands : List Command) → events_of (past_after [] (opening_with limit) commands)
    ≡ events (opening_with limit) commands
events_past limit commands =
    ap events_of (sym (past_along commands (opening_with limit) []))
    ∙ events_behind (retold.noted adds (opening_with limit) commands) []
    ∙ events_along commands (opening_with limit)

-- ---- a journal

module _ (limit : ℕ) (known : IsLimit limit) (commands : List Command) (s : State)
    (came : replay 1 (opening_with limit) commands ≡ Ok s) where
  pub lawful_events : IsLawful opening (events (opening_with limit) commands)
  lawful_events =
      subst (λ (cs : List Command). IsLawful opening (events (opening_with limit) cs)) (replay_runs s commands 1
      (opening_with limit) came).again
      (reached_pool limit known (map Do commands)).lawful

  owned_events : AreOwnedBelow ACCOUNTS (events (opening_with limit) commands)
  owned_events =
      subst (λ (cs : List Command). AreOwnedBelow ACCOUNTS (events (opening_with limit) cs)) (replay_runs s commands 1
      (opening_with limit) came).again
      (reached_pool limit known (map Do commands)).owners

  few_notes : HaveNoRotation commands → length (retold.noted adds (opening_with limit) commands) ≤ EVENTS_MOST
  few_notes none =
      let run = replay_runs s commands 1 (opening_with limit) came in
      let count = replay_few s commands 1 (opening_with limit) none (omega arith) came in
      let all : length (events (opening_with limit) commands) ≤ LOWEST_MOST * length commands =
      subst (λ (cs : List Command). length (events (opening_with limit) cs) ≤ LOWEST_MOST * length cs) run.again
      (run_events_count (map Do commands) (opening_with limit)) in
      let as_many = events_as_many (retold.noted adds (opening_with limit) commands) in
      let same : length (events_in (retold.noted adds (opening_with limit) commands))
      ≡ length (events (opening_with limit) commands) = ap (λ (t : List PoolEvent). length t) (events_along commands
      (opening_with limit)) in
      omega (arith, count, all, as_many, same)

  pub can_be_followed : HaveNoRotation commands
      → CanBeFollowed (retold.noted adds (opening_with limit) commands) s.minute
  can_be_followed none = record {
    lawful = subst (IsLawful opening) (sym (events_along commands (opening_with limit))) lawful_events;
    order = order_along commands 1 (opening_with limit) s came;
    few = few_notes none;
  }

  -- ---- what the laws say of it

  all_lawful : IsLawful opening (events_of (past_after [] (opening_with limit) commands))
  all_lawful = subst (IsLawful opening) (sym (events_past limit commands)) lawful_events

  pub all_shares : (account : ℕ) → let past = past_after [] (opening_with limit) commands
      in IsWithinAllowance account s.minute past (reward_at account s.minute past) (allowance_at account s.minute past)
  all_shares account = within_allowance LIM served account s.minute (past_after [] (opening_with limit) commands)
      all_lawful

  pub all_covered : let past = past_after [] (opening_with limit) commands
      in over_accounts ACCOUNTS (λ account. reward_at account s.minute past) + unshared_at s.minute past
      ≤ issued s.minute
  all_covered =
      let past = past_after [] (opening_with limit) commands in
      let owned = subst (AreOwnedBelow ACCOUNTS) (sym (events_past limit commands)) owned_events in
      let shared = all_rewards LIM served ACCOUNTS past all_lawful owned s.minute in
      let units = all_units s.minute past (past_in_order limit commands s came) in
      omega (arith, shared, units)

-- ---- one event

pub order_next : (notes : List Note) (i : ℕ) (d : Note) (from now to : ℕ) → i < length notes
    → NeverFall from (drop i notes) to → now ≡ (get_or notes i d).0 → NeverFall now (drop (i + 1) notes) to
order_next notes i d from now to lt order is =
    subst (λ m. NeverFall m (drop (i + 1) notes) to) (sym is) (subst (λ (ns : List Note). NeverFall from ns to) here
    order).1
  where
    here : drop i notes ≡ get_or notes i d ∷ drop (i + 1) notes
    here = rw (add-one, drop-cons notes i d lt) refl

cut_at : (notes : List Note) (i : ℕ) (d : Note) → i < length notes → notes ≡ (take i notes ++ get_or notes i d ∷ [])
    ++ drop (suc i) notes
cut_at [] i d lt = absurd (omega (arith, lt))
cut_at (note ∷ notes) zero d lt = refl
cut_at (note ∷ notes) (suc i) d lt = ap (λ (t : List Note). note ∷ t) (cut_at notes i d (omega (arith, lt)))

module _ (notes : List Note) (minute : ℕ) (can : CanBeFollowed notes minute) (i : ℕ) (d : Note) (lt : i
    < length notes) where
  abbrev here : Note
  here = get_or notes i d

  pub may_happen : MayHappen (record { minute = here.0; event = here.1 }) (past_in (take i notes))
  may_happen =
      let parts : events_in notes ≡ events_in (take i notes ++ here ∷ []) ++ events_in (drop (suc i) notes) =
      ap events_in (cut_at notes i d lt) ∙ map-append (λ (note : Note). note.1) (take i notes ++ here ∷ [])
      (drop (suc i) notes) in
      let first = lawful_first LIM opening (events_in (take i notes ++ here ∷ [])) (events_in (drop (suc i) notes))
      (subst (IsLawful opening) parts can.lawful) in
      let same : events_in (take i notes ++ here ∷ []) ≡ events_of (past_in (take i notes)) ++ here.1 ∷ [] =
      map-append (λ (note : Note). note.1) (take i notes) (here ∷ []) ∙ ap (λ (t : List PoolEvent). t ++ here.1 ∷ [])
      (sym (events_behind (take i notes) [])) in
      let long = length_behind (take i notes) [] in
      let taken = part i notes in
      let few = can.few in
      record { lawful = subst (IsLawful opening) same first; few = omega (arith, long, taken, few, lt) } where
        part : (i : ℕ) (ns : List Note) → length (take i ns) ≤ i
        part i [] = empty i where
          empty : (i : ℕ) → length (take i (let none : List Note = [] in none)) ≤ i
          empty zero = omega arith
          empty (suc i) = omega arith
        part zero (n ∷ ns) = omega arith
        part (suc i) (n ∷ ns) = let rest = part i ns in omega (arith, rest)

  pub next_past : past_in (take (i + 1) notes) ≡ record { minute = here.0; event = here.1 } ∷ past_in (take i notes)
  next_past = fold_more noted [] notes i d lt
