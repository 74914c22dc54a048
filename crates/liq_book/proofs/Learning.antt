-- What a session learns from a call that was made at the book.
use Rattle.std.proofs.Common.{ℕ, ◌+◌, ◌≡◌, List, [], ◌∷◌, ◌++◌, map, length, Option, Some, None, refl, sym, ap, ◌∙◌, arith, length-append}
use Rattle.std.specs.Option.{IsSomeAnd}
use Rattle.std.proofs.lemmas.List.{append-nil, map-append}
use Rattle.liq_types.specs.Desks.{faulted_after, own_after}
use Rattle.liq_types.specs.declared.replies.Answer.{Answer}
use Rattle.liq_types.specs.declared.replies.Answer.TheVariants as answer
use Rattle.liq_types.specs.declared.replies.Reply.{Reply}
use Rattle.liq_types.specs.declared.requests.Request.{Request}
use Rattle.liq_types.specs.State.{State}
use Rattle.liq_rule_step.specs.History.{own_entries}
use Rattle.liq_lock.specs.History.{Behind, GoesOn, NoneOf}
use Rattle.liq_lock.proofs.Histories.{in_one, nothing_in_nil}
use Rattle.liq_types.specs.declared.entries.Entry.{Entry}
use Rattle.liq_book.specs.declared.items.Halt.{Halt}
use Rattle.liq_book.specs.declared.items.Item.{Item}
use Rattle.liq_book.specs.declared.items.Item.TheVariants as item
use Rattle.liq_book.specs.Answered.{Answered, IsLimited}
use Rattle.liq_book.specs.Booked.{Booked}
use Rattle.liq_book.specs.Entered.{Enters, IsTestedFirst}
use Rattle.liq_book.specs.Items.{calls_of, chronicle, entries_of, faulted_in, session_of}
use Rattle.liq_book.proofs.Chronicles.{entries_of-append, entries_of-chronicle, faulted_behind, faulted_in-append, faulted_on, own_behind, own_entries-append, own_on, same_session}

abbrev pub items_in : {D : Type 0} → Booked D → List Item
items_in book = chronicle book.entries book.halt

-- a book without a halt
plain : {D : Type 0} (book : Booked D) → book.halt ≡ None → items_in book ≡ map item.Entry book.entries
plain book none = ap (chronicle book.entries) none

ends_in : {D : Type 0} (book : Booked D) (faults : ℕ) → IsSomeAnd book.halt (λ h. h.faults ≡ faults)
    → (earlier : List Item) × ((halt : Halt) × ((items_in book ≡ earlier ++ item.Halt halt ∷ [])
    × (halt.faults ≡ faults)))
ends_in book faults some = at book.halt refl some where
  at : (o : Option Halt) → book.halt ≡ o → IsSomeAnd o (λ h. h.faults ≡ faults) → (earlier : List Item)
      × ((halt : Halt) × ((items_in book ≡ earlier ++ item.Halt halt ∷ []) × (halt.faults ≡ faults)))
  at None is some = absurd some
  at (Some halt) is some = (map item.Entry book.entries, (halt, (ap (chronicle book.entries) is, some)))

pub same_items : {D : Type 0} (old new : Booked D) → (new.entries ≡ old.entries) × (new.halt ≡ old.halt)
    → items_in new ≡ items_in old
same_items old new same = ap (λ entries. chronicle entries new.halt) same.0 ∙ ap (chronicle old.entries) same.1

-- one more entry is the last item
entered : {D : Type 0} (old new : Booked D) (e : Entry) → old.halt ≡ None → new.halt ≡ None
    → new.entries ≡ old.entries ++ e ∷ [] → items_in new ≡ items_in old ++ item.Entry e ∷ []
entered old new e none still grown =
    plain new still ∙ (ap (map item.Entry) grown ∙ (map-append item.Entry old.entries (e ∷ [])
    ∙ ap (λ (items : List Item). items ++ item.Entry e ∷ []) (sym (plain old none))))

-- the halt is the last item
halted : {D : Type 0} (old new : Booked D) (h : Halt) → old.halt ≡ None → new.entries ≡ old.entries → new.halt
    ≡ Some h
    → items_in new ≡ items_in old ++ item.Halt h ∷ []
halted old new h none same some =
    ap (chronicle new.entries) some ∙ (ap (λ entries. map item.Entry entries ++ item.Halt h ∷ []) same
    ∙ ap (λ (items : List Item). items ++ item.Halt h ∷ []) (sym (plain old none)))

-- the seat that gives the book back has made what is new
pub grows : {D : Type 0} (base : State) (session calls : ℕ) (request : Request) (a : Answer) (old new : Booked D)
    → Enters base session calls request a old new → GoesOn session_of session (items_in old) (items_in new)
grows base session calls request (answer.Reply reply) old new h = (
  _,
  entered old new _ h.0 h.1 h.2,
  λ i c. ap session_of (sym (in_one _ i c)),
)
grows base session calls request answer.NoMemory old new h = (
  [],
  same_items old new h
      ∙ sym (append-nil (items_in old)),
  λ i c. absurd (nothing_in_nil i c),
)
grows base session calls request answer.DiskFault old new h = (
  _,
  halted old new _ h.0 h.1 h.2.1,
  λ i c. ap session_of (sym (in_one _ i c)),
)
grows base session calls request (answer.Stopped faults) old new h = (
  [],
  same_items old new h.0
      ∙ sym (append-nil (items_in old)),
  λ i c. absurd (nothing_in_nil i c),
)
grows base session calls request (answer.HistoryFull entries) old new h = (
  [],
  same_items old new h.0
      ∙ sym (append-nil (items_in old)),
  λ i c. absurd (nothing_in_nil i c),
)

-- and it has learnt the answer
pub learns : {D : Type 0} (base : State) (session calls : ℕ) (request : Request) (a : Answer) (old new : Booked D)
    (before : List Item)
    → Behind session_of (items_in old) (session ∷ []) before → Enters base session calls request a old new
    → Answered base session calls request a before (items_in new)
learns base session calls request (answer.Reply reply) old new before b h =
    let e : Entry = record { session = session; index = calls + 1; request = request; reply = reply } in
    let entries : entries_of (before ++ b.0) ≡ old.entries = ap entries_of (sym b.1)
    ∙ entries_of-chronicle old.entries old.halt in (
      b.0,
      b.2,
      entered old new e h.0 h.1 h.2 ∙ ap (λ (items : List Item). items ++ item.Entry e ∷ []) b.1,
      rw entries h.3,
    )
learns base session calls request answer.NoMemory old new before b h = rw (same_items old new h) b
learns base session calls request answer.DiskFault old new before b h = (
  b.0,
  b.2,
  (
    h.2.0,
    halted old new _ h.0 h.1 h.2.1
        ∙ ap (λ (items : List Item). items
        ++ item.Halt (record { session = session; request = request; faults = h.2.0 }) ∷ []) b.1,
  ),
)
learns base session calls request (answer.Stopped faults) old new before b h = rw (same_items old new h.0) (
  b,
  ends_in old faults h.1,
)
learns base session calls request (answer.HistoryFull entries) old new before b h = (rw (same_items old new h.0) b, h.1)

many : {D : Type 0} (book : Booked D) → length (entries_of (items_in book)) ≡ length book.entries
many book = ap length (entries_of-chronicle book.entries book.halt)

pub limits : {D : Type 0} (base : State) (session calls : ℕ) (request : Request) (a : Answer) (old new : Booked D)
    → Enters base session calls request a old new → IsTestedFirst old.entries a → IsLimited a (items_in new)
limits base session calls request (answer.Reply reply) old new h few = omega (
  arith,
  many new,
  few,
  ap length h.2,
  length-append old.entries (record { session = session; index = calls + 1; request = request; reply = reply } ∷ []),
)
limits base session calls request answer.NoMemory old new h few = omega (arith, many new, few, ap length h.0)
limits base session calls request answer.DiskFault old new h few = omega (arith, many new, few, ap length h.1)
limits base session calls request (answer.Stopped faults) old new h few = omega (arith, many new, few, ap length h.0.0)
limits base session calls request (answer.HistoryFull entries) old new h few =
    omega (arith, many new, few, ap length h.0.0)

-- ---- a session's own calls

-- the seat counts what the book has of its session
pub counts : {D : Type 0} (session calls : ℕ) (book : Booked D) (before : List Item)
    → Behind session_of (items_in book) (session ∷ []) before → length (own_entries session (entries_of before)) ≡ calls
    → length (own_entries session book.entries) ≡ calls
counts session calls book before b counted =
    ap (λ (es : List Entry). length (own_entries session es))
    (sym (entries_of-chronicle book.entries book.halt))
    ∙ (ap length (own_behind session (items_in book) before b) ∙ counted)

own_last : (session : ℕ) (before between : List Item) (e : Entry) → e.session ≡ session
    → NoneOf session_of (session ∷ []) between
    → own_entries session (entries_of ((before ++ between) ++ item.Entry e ∷ []))
    ≡ own_entries session (entries_of before) ++ e ∷ []
own_last session before between e its none =
    let last : own_entries session (e ∷ []) ≡ e ∷ [] = rw (its, same_session session) refl in
    rw (
      entries_of-append (before ++ between) (item.Entry e ∷ []),
      own_entries-append session (entries_of (before ++ between)) (e ∷ []),
      last,
      own_on session before between none,
    ) refl

own_halt : (session : ℕ) (before between : List Item) (h : Halt) → NoneOf session_of (session ∷ []) between
    → own_entries session (entries_of ((before ++ between) ++ item.Halt h ∷ []))
    ≡ own_entries session (entries_of before)
own_halt session before between h none =
    rw (entries_of-append (before ++ between) (item.Halt h ∷ []), append-nil (entries_of (before ++ between)))
    (own_on session before between none)

-- after a reply they are what they were and this call
pub own_reply : (base : State) (session calls : ℕ) (request : Request) (reply : Reply) (before after : List Item)
    → Answered base session calls request (answer.Reply reply) before after
    → own_entries session (entries_of after) ≡ own_entries session (entries_of before) ++ record {
      session = session;
      index = calls + 1;
      request = request;
      reply = reply;
    } ∷ []
own_reply base session calls request reply before after a =
    rw a.2 (own_last session before a.0 (record {
      session = session;
      index = calls + 1;
      request = request;
      reply = reply;
    }) refl a.1)

-- and after any other answer what they were
pub own_other : (base : State) (session calls : ℕ) (request : Request) (a : Answer) (before after : List Item)
    → ((reply : Reply) → a ≡ answer.Reply reply → ⊥) → Answered base session calls request a before after
    → own_entries session (entries_of after) ≡ own_entries session (entries_of before)
own_other base session calls request (answer.Reply reply) before after none a = absurd (none reply refl)
own_other base session calls request answer.NoMemory before after none a = own_behind session after before a
own_other base session calls request answer.DiskFault before after none a =
    rw a.2.1 (own_halt session before a.0 (record { session = session; request = request; faults = a.2.0 }) a.1)
own_other base session calls request (answer.Stopped faults) before after none a = own_behind session after before a.0
own_other base session calls request (answer.HistoryFull entries) before after none a =
    own_behind session after before a.0

pub counts_reply : (base : State) (session calls : ℕ) (request : Request) (reply : Reply) (before after : List Item)
    → Answered base session calls request (answer.Reply reply) before after
    → length (own_entries session (entries_of before)) ≡ calls
    → length (own_entries session (entries_of after)) ≡ calls + 1
counts_reply base session calls request reply before after a counted =
    let e : Entry = record { session = session; index = calls + 1; request = request; reply = reply } in
    rw (own_reply base session calls request reply before after a) (omega (
      arith,
      counted,
      length-append (own_entries session (entries_of before)) (e ∷ []),
    ))

-- ---- a desk's meanings

pub calls_after : (base : State) (session calls : ℕ) (request : Request) (a : Answer) (before after : List Item)
    → Answered base session calls request a before after
    → calls_of session after ≡ own_after (calls_of session before) request a
calls_after base session calls request (answer.Reply reply) before after a =
    let e : Entry = record { session = session; index = calls + 1; request = request; reply = reply } in
    ap (map (λ (e : Entry). (e.request, e.reply))) (own_reply base session calls request reply before after a)
    ∙ map-append (λ (e : Entry). (e.request, e.reply)) (own_entries session (entries_of before)) (e ∷ [])
calls_after base session calls request answer.NoMemory before after a =
    ap (map (λ (e : Entry). (e.request, e.reply))) (own_other base session calls request answer.NoMemory before
    after (λ reply e. cc) a)
calls_after base session calls request answer.DiskFault before after a =
    ap (map (λ (e : Entry). (e.request, e.reply))) (own_other base session calls request answer.DiskFault before
    after (λ reply e. cc) a)
calls_after base session calls request (answer.Stopped faults) before after a =
    ap (map (λ (e : Entry). (e.request, e.reply))) (own_other base session calls request (answer.Stopped faults)
    before after (λ reply e. cc) a)
calls_after base session calls request (answer.HistoryFull entries) before after a =
    ap (map (λ (e : Entry). (e.request, e.reply))) (own_other base session calls request
    (answer.HistoryFull entries) before after (λ reply e. cc) a)

pub faults_after : (base : State) (session calls : ℕ) (request : Request) (a : Answer) (before after : List Item)
    → Answered base session calls request a before after → faulted_in session after
    ≡ faulted_after (faulted_in session before) request a
faults_after base session calls request (answer.Reply reply) before after a =
    rw (
      a.2,
      faulted_in-append session (before ++ a.0) (item.Entry (record {
        session = session;
        index = calls + 1;
        request = request;
        reply = reply;
      }) ∷ []),
    ) (faulted_on session before a.0 a.1)
faults_after base session calls request answer.NoMemory before after a = faulted_behind session after before a
faults_after base session calls request answer.DiskFault before after a =
    rw (
      a.2.1,
      faulted_in-append session (before ++ a.0) (item.Halt (record {
        session = session;
        request = request;
        faults = a.2.0;
      }) ∷ []),
      same_session session,
    ) refl
faults_after base session calls request (answer.Stopped faults) before after a = faulted_behind session after before a.0
faults_after base session calls request (answer.HistoryFull entries) before after a =
    faulted_behind session after before a.0

-- items of others leave a session's calls
pub calls_behind : (session : ℕ) (after before : List Item) → Behind session_of after (session ∷ []) before
    → calls_of session after ≡ calls_of session before
calls_behind session after before b = ap (map (λ (e : Entry). (e.request, e.reply)))
    (own_behind session after before b)
