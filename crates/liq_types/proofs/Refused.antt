-- Rules tested in groups: what a group refuses or lets pass, and the rules behind it.
use Rattle.std.proofs.Common.{◌≡◌, Bool, true, false, cond, refl, List, [], ◌∷◌, ◌++◌, Some, None, Option}
use Rattle.std.specs.Prelude.{Err}
use Rattle.liq_types.specs.declared.replies.Refusal.{Refusal}
use Rattle.liq_types.specs.Rules.{Rule, first_refusal, outcome}

pub refused : {X Y : Type 0} (o : Option Refusal) (x : X) (y : Y) (e : Refusal) → outcome o x ≡ Err e
    → outcome o y ≡ Err e
refused None x y e h = cc
refused (Some refusal) x y e h = cc

pub refused_before : {X Y : Type 0} (rules rest : List Rule) (x : X) (y : Y) (e : Refusal)
    → outcome (first_refusal rules) x ≡ Err e → outcome (first_refusal (rules ++ rest)) y ≡ Err e
refused_before [] rest x y e h = cc
refused_before {X} {Y} (rule ∷ rules) rest x y e h = by rule.0 h (refused_before rules rest x y e) where
  by : (b : Bool) → outcome (cond b (Some rule.1) (first_refusal rules)) x ≡ Err e
      → (outcome (first_refusal rules) x ≡ Err e → outcome (first_refusal (rules ++ rest)) y ≡ Err e)
      → outcome (cond b (Some rule.1) (first_refusal (rules ++ rest))) y ≡ Err e
  by true k later = refused (Some rule.1) x y e k
  by false k later = later k

pub passed : (rules rest : List Rule) → first_refusal rules ≡ None
    → first_refusal (rules ++ rest) ≡ first_refusal rest
passed [] rest h = refl
passed (rule ∷ rules) rest h = by rule.0 h (passed rules rest) where
  by : (b : Bool) → cond b (Some rule.1) (first_refusal rules) ≡ None → (first_refusal rules ≡ None
      → first_refusal (rules ++ rest) ≡ first_refusal rest) → cond b (Some rule.1) (first_refusal (rules ++ rest))
      ≡ first_refusal rest
  by true k later = cc
  by false k later = later k
