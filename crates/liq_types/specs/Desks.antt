-- What an answer leaves of a seat's own calls.
use Rattle.std.specs.Prelude.{List, [], ◌∷◌, ◌++◌, Option, Some}
use Rattle.liq_types.specs.declared.replies.Answer.{Answer}
use Rattle.liq_types.specs.declared.replies.Answer.TheVariants as answer
use Rattle.liq_types.specs.declared.replies.Reply.{Reply}
use Rattle.liq_types.specs.declared.requests.Request.{Request}

-- a reply joins them, any other answer leaves them
abbrev pub own_after : List (Request × Reply) → Request → Answer → List (Request × Reply)
own_after own request (answer.Reply reply) = own ++ (request, reply) ∷ []
own_after own request _ = own

-- the request that met a fault of a disk is the last such
abbrev pub faulted_after : Option Request → Request → Answer → Option Request
faulted_after faulted request answer.DiskFault = Some request
faulted_after faulted request _ = faulted

-- an answer other than a reply and want of memory needs an end of service that is known
abbrev pub EndsKnown : Type 0 → Answer → Type 0
EndsKnown known (answer.Reply reply) = Unit {0}
EndsKnown known answer.NoMemory = Unit {0}
EndsKnown known _ = known
