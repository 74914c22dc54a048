-- What sessions come to.
use Rattle.std.specs.Prelude.{◌≡◌, ◌≢◌, List, [], ◌∷◌, Option}
use Rattle.liq_types.specs.Desks.{EndsKnown, faulted_after}
use Rattle.liq_types.specs.declared.replies.Answer.{Answer}
use Rattle.liq_types.specs.declared.replies.Answer.TheVariants as answer
use Rattle.liq_types.specs.declared.requests.Request.{Request}
use Rattle.liq_sessions.specs.declared.done.SessionEnd.{SessionEnd}
use Rattle.liq_sessions.specs.declared.done.SessionEnd.TheVariants.{All, Fault}

abbrev pub IsNoReply : Answer → Type 0
IsNoReply (answer.Reply reply) = ⊥
IsNoReply other = Unit {0}

-- How a session ends that has these requests left: with none, or at the first of them, which got an
-- answer that is no reply.
abbrev pub EndsAt : Type 0 → List Request → SessionEnd → Type 0
EndsAt knows_end left All = left ≡ []
EndsAt knows_end left (Fault answer) = (left ≢ []) × IsNoReply answer × EndsKnown knows_end answer

-- the last request that met a fault of a disk: the first of those left, where the session ended so
abbrev pub faulted_at : Option Request → List Request → SessionEnd → Option Request
faulted_at faulted (request ∷ later) (Fault answer) = faulted_after faulted request answer
faulted_at faulted left end = faulted
