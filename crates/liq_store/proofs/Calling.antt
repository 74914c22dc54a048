-- What a call does to the disks, by the side of the one that is taken.
use Rattle.std.proofs.Common.{◌≡◌, ◌↔◌, inl, inr, ℕ, List, Bool, true, false, ◌&&◌, if◌then◌else◌, Option, Some, None, IfSome, IsSome, refl, sym, ◌∙◌, ap, subst}
use Rattle.std.proofs.Math.Bool.{and-false}
use Rattle.liq_outside.specs.At.{DiskAt}
use Rattle.liq_outside.specs.Disk.{GoesOn, IsLater, LeavesOnly, LeftSince}
use Rattle.liq_outside.proofs.Moments.{started, unmoved}
use Rattle.liq_types.specs.declared.events.ListChange.{ListChange}
use Rattle.liq_types.specs.declared.requests.Call.{Call}
use Rattle.liq_types.specs.declared.requests.Call.TheVariants.{Rotate}
use Rattle.liq_types.specs.declared.requests.Command.{Command}
use Rattle.liq_types.specs.declared.requests.Request.{Request}
use Rattle.liq_types.specs.declared.requests.Request.TheVariants.{Do, Ask}
use Rattle.liq_types.specs.declared.replies.Answer.{Answer}
use Rattle.liq_types.specs.declared.replies.Reply.{Reply}
use Rattle.liq_types.specs.declared.replies.Answer.TheVariants as answer
use Rattle.liq_types.specs.State.{State}
use Rattle.liq_core.specs.Core.{Core, StandsFor}
use Rattle.liq_rule_step.specs.Step.{Ruling, is_allowed, ruling}
use Rattle.liq_journal.specs.Crash.{BeforeOrAfter, CreateLeaves, Stands}
use Rattle.liq_journal.specs.Settled.{IsSettled, JournalOn}
use Rattle.liq_types.specs.Verbs.{is_rotate}
use Rattle.liq_journal.specs.Written.{Open, Written, found_on, start_of}
use Rattle.liq_disk_pair.specs.declared.side.Side.{Side}
use Rattle.liq_disk_pair.specs.declared.side.Side.TheVariants.{Left, Right}
use Rattle.liq_disk_pair.specs.Kept.{IsKeptWith}
use Rattle.liq_disk_pair.specs.Pair.{commands_on}
use Rattle.liq_disk_pair.specs.Sides.{has_odd, on, other}
use Rattle.liq_disk_pair.proofs.Keeping.{settled_kept}
use Rattle.liq_disk_pair.specs.Commands.{read_back}
use Rattle.liq_store.specs.Calling.{WritesOn}
use Rattle.liq_store.specs.Keeping.{IsKeptAround}
use Rattle.liq_rule_step.specs.Memory.{IsAccepted}
use Rattle.liq_store.specs.Rotating.{is_rotation, rotation_of, side_after, start_after}
use Rattle.liq_store.specs.Stored.{Stored}
use Rattle.liq_store.specs.Within.{IsWithin, stored}
use Rattle.liq_store.proofs.Going.{going_by, rest_now, rest_only}

-- ---- which calls are no rotation

-- one on which another ruling is made
pub ruled_stays : (s : State) (c : Command) (r : Ruling) → ruling s c ≡ r → is_allowed r ≡ false
    → is_rotation s (Do c) ≡ false
ruled_stays s c r is differs = ap (λ (x : Ruling). is_rotate c.call && is_allowed x) is
    ∙ ap (λ (b : Bool). is_rotate c.call && b) differs ∙ and-false (is_rotate c.call)

-- and one of another verb
pub other_stays : (s : State) (c : Command) → is_rotate c.call ≡ false → is_rotation s (Do c) ≡ false
other_stays s c stays = ap (λ (b : Bool). b && is_allowed (ruling s c)) stays

-- where another ruling is made on a command, it isn't accepted
pub none_accepted : (s : State) (c : Command) (r : Ruling) → ruling s c ≡ r → is_allowed r ≡ false
    → IsAccepted s (Do c) → ⊥
none_accepted s c r is differs accepted =
    let both : false ≡ true = sym differs ∙ ap is_allowed (sym is ∙ accepted) in absurd (cc (both))

-- an accepted command of this verb is a rotation
pub rotates_then : (s : State) (c : Command) → c.call ≡ Rotate → IsAccepted s (Do c)
    → is_rotation s (Do c) ≡ false → ⊥
rotates_then s c call accepted none =
    let rotation : is_rotation s (Do c) ≡ true =
    ap (λ (r : Ruling). is_rotate c.call && is_allowed r) accepted ∙ ap (λ (k : Call). is_rotate k && true) call in
    let no : true ≡ false = sym rotation ∙ none in absurd (cc (no))

-- the disk that is taken is so much later
pub taken_later : {D : Type 0} (at : D → DiskAt) (side : Side) (t b t' b' : D) (n : ℕ) → IsLater at n t t'
    → IsLater at n (on side (on side t b) (on side b t)) (on side (on side t' b') (on side b' t'))
taken_later at Left t b t' b' n later = later
taken_later at Right t b t' b' n later = later

-- A reply to one takes no other disk.
pub reply_stays : (s : State) (request : Request) (reply : Reply) (side : Side) (start : ℕ)
    → is_rotation s request ≡ false
    → (side_after (answer.Reply reply) s request side ≡ side) × (start_after (answer.Reply reply) s request start
    ≡ start)
reply_stays s (Do c) reply side start stays = (
  ap (λ (b : Bool). if b then other side else side) stays,
  ap (λ (b : Bool). if b then start_of (rotation_of s c)
      else start) stays,
)
reply_stays s (Ask query) reply side start stays = (refl, refl)

-- nor does any other answer
pub answer_stays : (a : Answer) (s : State) (request : Request) (side : Side) (start : ℕ)
    → is_rotation s request ≡ false
    → (side_after a s request side ≡ side) × (start_after a s request start ≡ start)
answer_stays (answer.Reply reply) s request side start stays = reply_stays s request reply side start stays
answer_stays _ s request side start stays = (refl, refl)

module _ {D : Type 0} (at : D → DiskAt) where
  -- Of a store whose taken disk is t, beside b: the disks t' and b' after a call, the side that is next taken, and
  -- where the records begin there.
  pub record Writes (side : Side) (core : Core) (start : ℕ) (stopped : Option ℕ) (request : Request) (a : Answer)
      (t b t' b' : D) (side' : Side) (start' : ℕ) : Type 0 where
    pub side_is : (s : State) → StandsFor core s → side' ≡ side_after a s request side
    pub start_is : (s : State) → StandsFor core s → start' ≡ start_after a s request start
    pub taken : (s : State) → StandsFor core s → is_rotation s request ≡ true → t' ≡ t
    pub aside : (s : State) → StandsFor core s → is_rotation s request ≡ false → b' ≡ b
    pub unwritten : (s : State) → StandsFor core s → (IsAccepted s request → ⊥) → (t' ≡ t) × (b' ≡ b)
    pub no_memory : a ≡ answer.NoMemory → (t' ≡ t) × (b' ≡ b)
    pub written : stopped ≡ None → (held : List ℕ) (w : Written) (c : Command) → (at t).seen ≡ Some held
        → found_on (has_odd side) held ≡ Open w → request ≡ Do c
        → LeavesOnly at t t' (BeforeOrAfter (has_odd side) w (read_back c))
    pub created : stopped ≡ None → (s : State) → StandsFor core s → (held : List ℕ) (c : Command)
        → (at b).seen ≡ Some held → request ≡ Do c → is_rotation s request ≡ true
        → LeavesOnly at b b' (CreateLeaves (has_odd (other side)) held (rotation_of s c))
    pub kept : stopped ≡ None → (held aside_held : List ℕ) (s : State) → (at t).seen ≡ Some held
        → (at b).seen ≡ Some aside_held → StandsFor core s
        → (x y : List ℕ) → LeftSince at t' (at t).moment x → LeftSince at b' (at b).moment y
        → IsKeptAround s (commands_on (on side held aside_held) (on side aside_held held)) request (on side x y)
        (on side y x)
    pub taken_telling : IsSome (at t').seen ↔ IsSome (at t).seen
    pub aside_telling : IsSome (at b').seen ↔ IsSome (at b).seen
    pub taken_time : GoesOn at t t'
    pub aside_time : GoesOn at b b'

  -- the store whose taken disk is t, beside b
  abbrev whole : Side → Core → ℕ → Option ℕ → List ListChange → D → D → Stored D
  whole side core start stopped changes t b = record {
    left = on side t b;
    right = on side b t;
    side = side;
    start = start;
    core = core;
    stopped = stopped;
    changes = changes;
  }

  -- the same of the left disk and the right one
  pub writes_on : (side side' : Side) (core next : Core) (start start' : ℕ) (stopped later : Option ℕ)
      (before now : List ListChange) (request : Request) (a : Answer) (t b t' b' : D)
      → Writes side core start stopped request a t b t' b' side' start'
      → WritesOn at
      (whole side core start stopped before t b) request a
      (record (whole side next start' later now t' b') { side = side' })
  writes_on Left side' core next start start' stopped later before now request a t b t' b' w = record {
    side = w.side_is;
    start = w.start_is;
    taken = w.taken;
    aside = w.aside;
    unwritten = w.unwritten;
    no_memory = w.no_memory;
    written = w.written;
    created = w.created;
    kept = λ none l r s tl tr stands x y lx ly. w.kept none l r s tl tr stands x y lx ly;
    left_telling = w.taken_telling;
    right_telling = w.aside_telling;
    left_time = w.taken_time;
    right_time = w.aside_time;
  }
  writes_on Right side' core next start start' stopped later before now request a t b t' b' w = record {
    side = w.side_is;
    start = w.start_is;
    taken = w.taken;
    aside = w.aside;
    unwritten = λ s stands refused. let both = w.unwritten s stands refused in (both.1, both.0);
    no_memory = λ none. let both = w.no_memory none in (both.1, both.0);
    written = w.written;
    created = w.created;
    kept = λ none l r s tl tr stands x y lx ly. w.kept none r l s tr tl stands y x ly lx;
    left_telling = w.aside_telling;
    right_telling = w.taken_telling;
    left_time = w.aside_time;
    right_time = w.taken_time;
  }

  -- where the other one is taken
  pub turned_on : (side : Side) (core next : Core) (start start' : ℕ) (stopped later : Option ℕ)
      (before now : List ListChange) (request : Request) (a : Answer) (t b b' : D)
      → Writes side core start stopped request a t b t b' (other side) start'
      → WritesOn at
      (whole side core start stopped before t b) request a
      (whole (other side) next start' later now b' t)
  turned_on Left core next start start' stopped later before now request a t b b' w =
      writes_on Left Right core next start start' stopped later before now request a t b t b' w
  turned_on Right core next start start' stopped later before now request a t b b' w =
      writes_on Right Left core next start start' stopped later before now request a t b t b' w

  -- ---- nothing is written

  module _ (side : Side) (taken : JournalOn D) (b : D) (core : Core) (stopped : Option ℕ) (before : List ListChange)
      (within : IsWithin at side taken b core stopped before) where
    -- what a crash now leaves of the disk that is taken
    settled_rest : stopped ≡ None → (held : List ℕ) (w : Written) → (at taken.disk).seen ≡ Some held
        → found_on (has_odd side) held ≡ Open w → Stands (has_odd side) held w
    settled_rest none held w told found =
        let is : IsSettled taken.generation taken.start taken.count held =
        subst (λ (o : Option (List ℕ)). IfSome o (IsSettled taken.generation taken.start taken.count)) told
        (within.settled none) in
        let stands : Stands (has_odd side) held is.written =
        subst (λ (o : Bool). Stands o held is.written) within.parity_is is.stands in
        let opens : Open is.written ≡ Open w = sym stands.found ∙ found in
        let one : is.written ≡ w = cc (opens) in
        subst (λ (v : Written). Stands (has_odd side) held v) one stands

    -- one that is written only on the other disk leaves it as it was
    pub taken_left : stopped ≡ None → (held : List ℕ) (w : Written) (c : Command) → (at taken.disk).seen ≡ Some held
        → found_on (has_odd side) held ≡ Open w
        → LeavesOnly at taken.disk taken.disk (BeforeOrAfter (has_odd side) w c)
    taken_left none held w c told found =
        let going = going_by at before side taken b core stopped none within.order in
        started at taken.disk (BeforeOrAfter (has_odd side) w c) (λ image left.
        inl (subst (λ (l : List ℕ). Stands (has_odd side) l w)
        (sym (rest_now at taken.disk held told going.taken_rests image left)) (settled_rest none held w told found)))

    -- the other one as it was
    aside_left : stopped ≡ None → (held : List ℕ) (w : Written) → (at b).seen ≡ Some held
        → LeavesOnly at b b (CreateLeaves (has_odd (other side)) held w)
    aside_left none held w told =
        let going = going_by at before side taken b core stopped none within.order in
        started at b (CreateLeaves (has_odd (other side)) held w) (λ image left.
        inr (inl (inl (rest_now at b held told going.beside_rests image left))))

    pairs_left : stopped ≡ None → (held aside_held : List ℕ) (s : State) → (at taken.disk).seen ≡ Some held
        → (at b).seen ≡ Some aside_held → StandsFor core s → (request : Request)
        → (x y : List ℕ) → LeftSince at taken.disk (at taken.disk).moment x → LeftSince at b (at b).moment y
        → IsKeptAround s (commands_on (on side held aside_held) (on side aside_held held)) request (on side x y)
        (on side y x)
    pairs_left none held aside_held s th ta stands request x y lx ly =
        let going = going_by at before side taken b core stopped none within.order in
        let ex : x ≡ held = rest_only at taken.disk held th going.taken_rests x lx in
        let ey : y ≡ aside_held = rest_only at b aside_held ta going.beside_rests y ly in
        let commands = commands_on (on side held aside_held) (on side aside_held held) in
        let kept : IsKeptWith (on side held aside_held) (on side aside_held held) s commands = record {
          kept = settled_kept side (on side held aside_held) (on side aside_held held) s
              (going.settled held aside_held th ta s stands);
          commands = refl;
        } in
        inl (subst (λ (l : List ℕ). IsKeptWith (on side l y) (on side y l) s commands) (sym ex)
        (subst (λ (l : List ℕ). IsKeptWith (on side held l) (on side l held) s commands) (sym ey) kept))

    -- the disks stay as they are
    pub stays_on : (old : Stored D) → stored side taken b core stopped before ≡ old
        → (next : Core) (later : Option ℕ) (now : List ListChange) (request : Request) (a : Answer)
        → ((s : State) → StandsFor core s → (side_after a s request side ≡ side) × (start_after a s request taken.start
        ≡ taken.start))
        → WritesOn at old request a (stored side taken b next later now)
    stays_on old same next later now request a stays =
        subst (λ (o : Stored D). WritesOn at o request a (stored side taken b next later now)) same
        (writes_on side side core next taken.start taken.start stopped later before now request a taken.disk b
        taken.disk b
        (record {
          side_is = λ s stands. sym (stays s stands).0;
          start_is = λ s stands. sym (stays s stands).1;
          taken = λ s stands rotation. refl;
          aside = λ s stands other_one. refl;
          unwritten = λ s stands refused. (refl, refl);
          no_memory = λ none. (refl, refl);
          written = λ none held w c told found is. taken_left none held w (read_back c) told found;
          created = λ none s stands held c told is rotation. aside_left none held (rotation_of s c) told;
          kept = λ none held aside_held s th ta stands x y lx ly. pairs_left none held aside_held s th ta stands request
              x y lx ly;
          taken_telling = (λ some. some, λ some. some);
          aside_telling = (λ some. some, λ some. some);
          taken_time = unmoved at taken.disk;
          aside_time = unmoved at b;
        }))
