-- What is said of a result that is known to be a value.
use Rattle.std.proofs.Common.{◌≡◌, refl, sym, subst}
use Rattle.std.specs.Prelude.{IfOk, IsOk, OnOk, Result, Ok}

pub is_value : {X Y : Type 0} (r : Result X Y) (x : X) → r ≡ Ok x → IsOk r
is_value {X} {Y} r x is = subst (λ (q : Result X Y). IsOk q) (sym is) refl

pub on_value : {X Y : Type 0} (P : Type 0) (r : Result X Y) (x : X) → r ≡ Ok x → OnOk r P → P
on_value {X} {Y} P r x is h = subst (λ (q : Result X Y). OnOk q P) is h

pub if_value : {X Y : Type 0} (P : X → Type 0) (r : Result X Y) (x : X) → r ≡ Ok x → IfOk r P → P x
if_value {X} {Y} P r x is h = subst (λ (q : Result X Y). IfOk q P) is h
