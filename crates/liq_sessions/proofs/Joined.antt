-- Requests apart from their commands, and one more behind them.
use Rattle.std.proofs.Common.{◌≡◌, ◌++◌, ◌∷◌, [], List, length, suc, refl, ap, arith, length-append}
use Rattle.liq_types.specs.declared.requests.Command.{Command}
use Rattle.liq_types.specs.declared.requests.Query.{Query}
use Rattle.liq_types.specs.declared.requests.Request.{Request}
use Rattle.liq_types.specs.declared.requests.Request.TheVariants as request
use Rattle.liq_sessions.specs.Waiting.{commands_among, joined}
use Rattle.liq_sessions.specs.declared.waiting.Waiting.{Waiting}
use Rattle.liq_sessions.specs.declared.waiting.Waiting.TheVariants.{Ask, NextCommand}

pub joined-ask : (ws : List Waiting) (cs : List Command) (q : Query) → commands_among ws ≡ length cs
    → joined (ws ++ Ask q ∷ []) cs ≡ joined ws cs ++ request.Ask q ∷ []
joined-ask [] cs q many = refl
joined-ask (Ask x ∷ ws) cs q many = ap (λ (rs : List Request). request.Ask x ∷ rs) (joined-ask ws cs q many)
joined-ask (NextCommand ∷ ws) [] q many = absurd (omega (arith, many))
joined-ask (NextCommand ∷ ws) (c ∷ cs) q many =
    ap (λ (rs : List Request). request.Do c ∷ rs) (joined-ask ws cs q (omega (arith, many)))

pub joined-command : (ws : List Waiting) (cs : List Command) (c : Command) → commands_among ws ≡ length cs
    → joined (ws ++ NextCommand ∷ []) (cs ++ c ∷ []) ≡ joined ws cs ++ request.Do c ∷ []
joined-command [] [] c many = refl
joined-command [] (x ∷ cs) c many = absurd (omega (arith, many))
joined-command (Ask x ∷ ws) cs c many =
    ap (λ (rs : List Request). request.Ask x ∷ rs) (joined-command ws cs c many)
joined-command (NextCommand ∷ ws) [] c many = absurd (omega (arith, many))
joined-command (NextCommand ∷ ws) (x ∷ cs) c many =
    ap (λ (rs : List Request). request.Do x ∷ rs) (joined-command ws cs c (omega (arith, many)))

pub among-ask : (ws : List Waiting) (q : Query) → commands_among (ws ++ Ask q ∷ []) ≡ commands_among ws
among-ask [] q = refl
among-ask (Ask x ∷ ws) q = among-ask ws q
among-ask (NextCommand ∷ ws) q = ap suc (among-ask ws q)

pub among-command : (ws : List Waiting) → commands_among (ws ++ NextCommand ∷ []) ≡ suc (commands_among ws)
among-command [] = refl
among-command (Ask x ∷ ws) = among-command ws
among-command (NextCommand ∷ ws) = ap suc (among-command ws)

pub more_commands : (ws : List Waiting) (cs : List Command) (c : Command) → commands_among ws ≡ length cs
    → commands_among (ws ++ NextCommand ∷ []) ≡ length (cs ++ c ∷ [])
more_commands ws cs c many = omega (arith, many, among-command ws, length-append cs (c ∷ []))

-- as many as wait
pub as_many : (ws : List Waiting) (cs : List Command) → commands_among ws ≡ length cs
    → length (joined ws cs) ≡ length ws
as_many [] cs many = refl
as_many (Ask x ∷ ws) cs many = ap suc (as_many ws cs many)
as_many (NextCommand ∷ ws) [] many = absurd (omega (arith, many))
as_many (NextCommand ∷ ws) (c ∷ cs) many = ap suc (as_many ws cs (omega (arith, many)))
