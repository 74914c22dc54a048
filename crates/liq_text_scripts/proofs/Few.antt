-- All scripts together have no more requests than there are lines.
use Rattle.std.proofs.Common.{◌≡◌, ℕ, zero, suc, ◌+◌, ◌<◌, ◌≤◌, ◌⊎◌, inl, inr, List, [], ◌∷◌, length, Bool, true, false, cond, refl, ap, ◌∙◌, eqb-true, arith}
use Rattle.std.specs.Prelude.{◌==◌, filter, map, sum_by}
use Rattle.std.proofs.lemmas.List.Sums.{sum_by-cons}
use Rattle.liq_types.specs.declared.amounts.TheConstants.{LINES_MOST}
use Rattle.liq_types.specs.declared.requests.Request.{Request}
use Rattle.liq_sessions.specs.declared.script.Script.{Script}
use Rattle.liq_text_scripts.specs.BySession.{requests_of, script_of, scripts_of}
use Rattle.liq_text_scripts.specs.Sessions.{sessions}

-- one where it is the session's, else none
abbrev one_if : Bool → ℕ
one_if true = 1
one_if false = 0

abbrev hit : ℕ → ℕ → ℕ
hit asker session = one_if (asker == session)

own : List (ℕ × Request) → ℕ → ℕ
own asked session = length (requests_of asked session)

own-cons : (a : ℕ × Request) (asked : List (ℕ × Request)) (session : ℕ)
    → own (a ∷ asked) session ≡ hit a.0 session + own asked session
unfolding own
own-cons a asked session = by (a.0 == session) where
  by : (b : Bool)
      → length (map (λ (x : ℕ × Request). x.1) (cond b (a ∷ filter (λ (x : ℕ × Request). x.0 == session) asked)
      (filter (λ (x : ℕ × Request). x.0 == session) asked)))
      ≡ one_if b + length (map (λ (x : ℕ × Request). x.1) (filter (λ (x : ℕ × Request). x.0 == session) asked))
  by true = omega arith
  by false = omega arith

-- so many sessions, from this one on
from : ℕ → ℕ → List ℕ
from first zero = []
from first (suc count) = first ∷ from (suc first) count

hits : ℕ → List ℕ → ℕ
hits asker list = sum_by (hit asker) list

whose : (asker session : ℕ) → (hit asker session ≡ 0) ⊎ ((asker ≡ session) × (hit asker session ≡ 1))
whose asker session = by (asker == session) refl where
  by : (b : Bool) → (asker == session) ≡ b → (one_if b ≡ 0) ⊎ ((asker ≡ session) × (one_if b ≡ 1))
  by true is = inr (eqb-true asker session is, refl)
  by false is = inl refl

hits_later : (asker first count : ℕ) → asker < first → hits asker (from first count) ≡ 0
unfolding hits from
hits_later asker first zero later = refl
hits_later asker first (suc count) later = sum_by-cons (hit asker) first (from (suc first) count)
    ∙ by (whose asker first) (hits_later asker (suc first) count (omega arith)) where
      by : (hit asker first ≡ 0) ⊎ ((asker ≡ first) × (hit asker first ≡ 1)) → hits asker (from (suc first) count) ≡ 0
          → hit asker first + hits asker (from (suc first) count) ≡ 0
      by (inl other) none = omega arith
      by (inr same) none = absurd (omega (arith, same.0, later))

-- who asks is one of them at most
hits_few : (asker first count : ℕ) → hits asker (from first count) ≤ 1
unfolding hits from
hits_few asker first zero = omega arith
hits_few asker first (suc count) = by (whose asker first) (sum_by-cons (hit asker) first (from (suc first) count))
    (hits_few asker (suc first) count) where
      by : (hit asker first ≡ 0) ⊎ ((asker ≡ first) × (hit asker first ≡ 1))
          → hits asker (first ∷ from (suc first) count) ≡ hit asker first + hits asker (from (suc first) count)
          → hits asker (from (suc first) count) ≤ 1 → hits asker (first ∷ from (suc first) count) ≤ 1
      by (inl other) all later = omega arith
      by (inr same) all later = omega (
        arith,
        same.0,
        same.1,
        all,
        hits_later asker (suc first) count (omega (
          arith,
          same.0,
        )),
      )

-- one request more
owns-cons : (a : ℕ × Request) (asked : List (ℕ × Request)) (list : List ℕ) → sum_by (own (a ∷ asked)) list
    ≡ hits a.0 list + sum_by (own asked) list
unfolding hits
owns-cons a asked [] = refl
owns-cons a asked (session ∷ list) =
    omega (
      arith,
      sum_by-cons (own (a ∷ asked)) session list,
      sum_by-cons (own asked) session list,
      sum_by-cons (hit a.0) session list,
      own-cons a asked session,
      owns-cons a asked list,
    )

owns-nil : (list : List ℕ) → sum_by (own []) list ≡ 0
unfolding own
owns-nil [] = refl
owns-nil (session ∷ list) = omega (arith, sum_by-cons (own []) session list, owns-nil list)

owns_few : (asked : List (ℕ × Request)) (first count : ℕ) → sum_by (own asked) (from first count) ≤ length asked
owns_few [] first count = omega (arith, owns-nil (from first count))
owns_few (a ∷ asked) first count = omega (
  arith,
  owns-cons a asked (from first count),
  hits_few a.0 first count,
  owns_few asked first count,
)

scripts-owns : (asked : List (ℕ × Request)) (list : List ℕ)
    → sum_by (λ (script : Script). length script.requests) (map (script_of asked) list) ≡ sum_by (own asked) list
unfolding own
scripts-owns asked [] = refl
scripts-owns asked (session ∷ list) =
    omega (
      arith,
      sum_by-cons (λ (script : Script). length script.requests) (script_of asked session) (map (script_of asked) list),
      sum_by-cons (own asked) session list,
      scripts-owns asked list,
    )

sessions-from : sessions ≡ from 1 8
unfolding from
sessions-from = refl

pub few_requests : (asked : List (ℕ × Request)) (scripts : List Script) → scripts ≡ scripts_of asked
    → length asked ≤ LINES_MOST → sum_by (λ (script : Script). length script.requests) scripts ≤ LINES_MOST
few_requests asked scripts is few =
    let all : sum_by (λ (script : Script). length script.requests) scripts ≡ sum_by (own asked) (from 1 8) =
    ap (sum_by (λ (script : Script). length script.requests)) is ∙ (scripts-owns asked sessions
    ∙ ap (sum_by (own asked)) sessions-from) in
    omega (arith, all, owns_few asked 1 8, few)
