-- What comes of scripts that run at the seats of a desk.
use Rattle.std.specs.Prelude.{ℕ, ◌≡◌, ◌⊎◌, ◌↔◌, List, map, Option, Bool, false, IsTrue}
use Rattle.std.specs.List.{AllByRecursion, AllZip}
use Rattle.liq_types.specs.declared.replies.Reply.{Reply}
use Rattle.liq_types.specs.declared.requests.Request.{Request}
use Rattle.liq_sessions.specs.declared.done.SessionDone.{SessionDone}
use Rattle.liq_sessions.specs.declared.done.SessionEnd.TheVariants.{All}
use Rattle.liq_sessions.specs.declared.done.Work.{Work}
use Rattle.liq_sessions.specs.declared.script.Script.{Script}
use Rattle.liq_sessions.specs.Sessions.{HasRun}

-- Each script has run at the seat of its place, these are the seats back, and it is told whether
-- each got replies to all its requests. The first five arguments say what a seat of the desk means.
pub record HaveRun
    (K H : Type 0) {S : Type 0} (Belongs : S → Type 0) (number_of : S → ℕ)
    (own_of : S → List (Request × Reply)) (KnowsEnd : S → Type 0) (faulted_of : S → Option Request)
    (scripts : List Script) (seats back : List S) (whole : Bool) : Type 0 where
  pub works : List (Work K H S)
  pub done : List (SessionDone K H S)
  pub scripts_are : map (λ (w : Work K H S). w.script) works ≡ scripts
  pub seats_are : map (λ (w : Work K H S). w.seat) works ≡ seats
  pub ran : AllZip (HasRun Belongs number_of own_of KnowsEnd faulted_of) works done
  pub back_are : back ≡ map (λ (d : SessionDone K H S). d.seat) done
  pub ends : IsTrue whole ↔ AllByRecursion (λ (d : SessionDone K H S). d.end ≡ All) done

-- or none was begun, and the seats are as they were
abbrev pub ComesTo :
    (K H : Type 0) {S : Type 0} → (S → Type 0) → (S → ℕ) → (S → List (Request × Reply))
    → (S → Type 0) → (S → Option Request) → List Script → (seats back : List S) → Bool → Type 0
ComesTo K H Belongs number_of own_of KnowsEnd faulted_of scripts seats back whole =
    HaveRun K H Belongs number_of own_of KnowsEnd faulted_of scripts seats back whole
    ⊎ (back ≡ seats) × (whole ≡ false)
