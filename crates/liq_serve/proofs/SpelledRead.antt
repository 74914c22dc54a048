-- A command that a line spells is read back as it is.
use Rattle.std.proofs.Common.{◌≡◌, ℕ, ◌<◌, List, [], ◌∷◌, ◌++◌, Option, Some, None, codes, refl, ap, arith}
use Rattle.std.proofs.lemmas.Bool.Decides.{nat_tests}
use Rattle.liq_types.specs.declared.hints.HintWords.{HintWords}
use Rattle.liq_types.specs.declared.requests.Call.{Call}
use Rattle.liq_types.specs.declared.requests.Call.TheVariants as calls
use Rattle.liq_types.specs.declared.requests.Command.{Command}
use Rattle.liq_types.specs.declared.requests.Request.TheVariants.{Do}
use Rattle.liq_wire.specs.Fields.{heard, hint_of, hint_word}
use Rattle.liq_disk_pair.specs.Commands.{read_back}
use Rattle.liq_text.specs.Spelling.{Spell, SpellEach, Spells, Word, account, call_words, hint, number, text}

some_read : (a : ℕ) → a < 4294967295 → hint_of a ≡ Some a
some_read a below = grind (arith, nat_tests)

hint_read : (h : Option ℕ) (piece : List ℕ) → Spell piece (hint h) → hint_of (hint_word h) ≡ h
hint_read None piece spelled = refl
hint_read (Some a) piece spelled = some_read a spelled.0

-- behind other words there are two hints
hints_read : (words : List Word) (h k : Option ℕ) (pieces : List (List ℕ))
    → SpellEach pieces (words ++ hint h ∷ hint k ∷ [])
    → (hint_of (hint_word h) ≡ h) × (hint_of (hint_word k) ≡ k)
hints_read [] h k [] each = absurd each
hints_read [] h k (p ∷ []) each = absurd each.1
hints_read [] h k (p ∷ q ∷ pieces) each = (hint_read h p each.0, hint_read k q each.1.0)
hints_read (w ∷ words) h k [] each = absurd each
hints_read (w ∷ words) h k (p ∷ pieces) each = hints_read words h k pieces each.1

both : (words : List Word) (h : HintWords) (pieces : List (List ℕ))
    → SpellEach pieces (words ++ hint h.prev ∷ hint h.next ∷ [])
    → ◌≡◌ {A = HintWords} (record { prev = hint_of (hint_word h.prev); next = hint_of (hint_word h.next) }) h
both words h pieces each =
    let so = hints_read words h.prev h.next pieces each in λ i. record { prev = so.0 i; next = so.1 i }

call_read : (client n : ℕ) (call : Call) (pieces : List (List ℕ))
    → SpellEach pieces (account client ∷ number n ∷ call_words call) → heard call ≡ call
call_read client n (calls.Open owner coll borrow bound h) pieces each =
    ap (λ (words : HintWords). calls.Open owner coll borrow bound words)
    (both (account client ∷ number n ∷ text (codes "open") ∷ account owner ∷ number coll ∷ number borrow
    ∷ number bound ∷ []) h pieces each)
call_read client n (calls.Adjust owner coll_in coll_out borrow repay bound h) pieces each =
    ap (λ (words : HintWords). calls.Adjust owner coll_in coll_out borrow repay bound words)
    (both (account client ∷ number n ∷ text (codes "adjust") ∷ account owner ∷ number coll_in ∷ number coll_out
    ∷ number borrow ∷ number repay ∷ number bound ∷ []) h pieces each)
call_read client n (calls.GainToTrove owner h) pieces each =
    ap (λ (words : HintWords). calls.GainToTrove owner words)
    (both (account client ∷ number n ∷ text (codes "gain_to_trove") ∷ account owner ∷ []) h pieces each)
call_read client n (calls.Redeem owner lusd bound h) pieces each =
    ap (λ (words : HintWords). calls.Redeem owner lusd bound words)
    (both (account client ∷ number n ∷ text (codes "redeem") ∷ account owner ∷ number lusd ∷ number bound ∷ []) h
    pieces each)
call_read client n _ pieces each = refl

pub spelled_read : (line : List ℕ) (c : Command) → Spells line (Do c) → read_back c ≡ c
spelled_read line c spelled =
    ap (λ (call : Call). record { client = c.client; number = c.number; call = call })
    (call_read c.client c.number c.call spelled.0 spelled.2)
