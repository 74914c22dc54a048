-- What a call is, whatever its arguments.
use Rattle.std.proofs.Common.{◌≡◌, false, refl}
use Rattle.liq_types.specs.declared.requests.Call.{Call}
use Rattle.liq_types.specs.declared.requests.Call.TheVariants.{Rotate}
use Rattle.liq_types.specs.Verbs.{is_rotate}

pub not_rotate : (call : Call) → (call ≡ Rotate → ⊥) → is_rotate call ≡ false
not_rotate Rotate isnt = absurd (isnt refl)
not_rotate _ isnt = refl
