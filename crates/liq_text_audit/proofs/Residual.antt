-- What a `?` hands on.
use Rattle.std.proofs.Common.{◌≡◌, Ok, Err, Result, sym, subst}
use Rattle.std.specs.Prelude.{IsErrAnd, IfErr}
use Rattle.liq_text_audit.specs.declared.fault.ReviewFault.{ReviewFault}

pub handed_on : {T : Type 0} (P : ReviewFault → Type 0) (end : Result T ReviewFault) (why : ReviewFault)
    → IsErrAnd end (λ h. h ≡ why) → P why → IfErr end P
handed_on P (Ok x) why h p = absurd h
handed_on P (Err e) why h p = subst P (sym h) p
