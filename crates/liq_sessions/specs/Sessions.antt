-- What a session came to.
use Rattle.std.specs.Prelude.{ℕ, ◌≡◌, ◌≤◌, List, ◌++◌, length, drop, zip, Option, [], Vec, vec_capacity}
use Rattle.std.specs.Global.{Global}
use Rattle.liq_types.specs.declared.replies.Reply.{Reply}
use Rattle.liq_types.specs.declared.requests.Request.{Request}
use Rattle.liq_sessions.specs.declared.done.Work.{Work}
use Rattle.liq_sessions.specs.declared.done.SessionDone.{SessionDone}
use Rattle.liq_sessions.specs.declared.script.TheConstants.{REQUESTS_MOST}
use Rattle.liq_sessions.specs.Ran.{EndsAt, faulted_at}

-- A session has its seat back, and the first requests of its script have their replies, in order:
-- the seat's own calls are those from before and then these. The first five arguments say what a
-- seat of the desk means.
pub record HasRun {K H S : Type 0} (Belongs : S → Type 0) (number_of : S → ℕ) (own_of : S
    → List (Request × Reply)) (KnowsEnd : S → Type 0) (faulted_of : S → Option Request) (work :
    Work K H S) (done : SessionDone K H S) : Type 0 where
  pub session : done.session ≡ work.script.session
  pub belongs : Belongs done.seat
  pub number : number_of done.seat ≡ number_of work.seat
  pub within : length done.replies ≤ length work.script.requests
  pub own : own_of done.seat ≡ own_of work.seat ++ zip work.script.requests done.replies
  pub ends : EndsAt (KnowsEnd done.seat) (drop (length done.replies) work.script.requests) done.end
  pub faulted : faulted_of done.seat ≡ faulted_at (faulted_of work.seat)
      (drop (length done.replies) work.script.requests) done.end

-- an empty list for the replies to a script, with room for all of them
abbrev pub HasRoom : {K H S : Type 0} → Work K H S → Vec Reply Global → Type 0
HasRoom work list = (list.items ≡ []) × (length work.script.requests ≤ vec_capacity list)

-- a session may run: its seat is one of the desk, its script is short enough, and its list has room
pub record IsReady {K H S : Type 0} (Belongs : S
    → Type 0) (work : Work K H S) (list : Vec Reply Global) : Type 0 where
  pub belongs : Belongs work.seat
  pub short : length work.script.requests ≤ REQUESTS_MOST
  pub room : HasRoom work list
