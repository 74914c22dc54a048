-- The seats of sessions that have run are those of their desk.
use Rattle.std.proofs.Common.{ℕ, List, [], ◌∷◌, map, Option, arith}
use Rattle.std.specs.Prelude.{All}
use Rattle.std.specs.List.{AllZip}
use Rattle.std.proofs.lemmas.List.Elements.{All-cons}
use Rattle.liq_types.specs.declared.replies.Reply.{Reply}
use Rattle.liq_types.specs.declared.requests.Request.{Request}
use Rattle.liq_sessions.specs.declared.done.SessionDone.{SessionDone}
use Rattle.liq_sessions.specs.declared.done.Work.{Work}
use Rattle.liq_sessions.specs.Sessions.{HasRun}

pub seats_belong : {K H S : Type 0} (Belongs : S → Type 0) (number_of : S → ℕ) (own_of : S
    → List (Request × Reply)) (KnowsEnd : S → Type 0) (faulted_of : S → Option Request) (works : List (Work K H S))
    (done : List (SessionDone K H S))
    → AllZip (HasRun Belongs number_of own_of KnowsEnd faulted_of) works done
    → All Belongs (map (λ (d : SessionDone K H S). d.seat) done)
seats_belong belongs number own knows faulted [] [] ran = λ k d within. absurd (omega (arith, within))
seats_belong belongs number own knows faulted [] (d ∷ done) ran = absurd ran
seats_belong belongs number own knows faulted (w ∷ works) [] ran = absurd ran
seats_belong belongs number own knows faulted (w ∷ works) (d ∷ done) ran =
    All-cons belongs d.seat _ ran.0.belongs (seats_belong belongs number own knows faulted works done ran.1)
