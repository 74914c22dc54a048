-- What a `?` hands on.
use Rattle.std.proofs.Common.{◌≡◌, Ok, Err, Result, ap}
use Rattle.std.specs.Prelude.{IsErrAnd}

pub handed_on : {T E : Type 0} (end : Result T E) (e : E) → IsErrAnd end (λ x. x ≡ e) → end ≡ Err e
handed_on (Ok x) e h = absurd h
handed_on (Err x) e h = ap Err h
