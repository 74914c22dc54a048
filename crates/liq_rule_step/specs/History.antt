-- A legal history: each reply is what the step gives where the entries before have led, and a
-- session's entries are numbered one by one from 1.
use Rattle.std.specs.Prelude.{◌≡◌, ℕ, ◌+◌, ◌==◌, List, [], ◌∷◌, map, filter, length}
pub use Rattle.liq_types.specs.declared.entries.Entry.{Entry}
use Rattle.liq_types.specs.declared.replies.Reply.{Reply}
use Rattle.liq_types.specs.declared.requests.Request.{Request}
use Rattle.liq_types.specs.State.{State}
use Rattle.liq_rule_step.specs.Step.{step, run}

abbrev pub requests_of : List Entry → List Request
requests_of entries = map (λ (e : Entry). e.request) entries

abbrev pub replies_of : List Entry → List Reply
replies_of entries = map (λ (e : Entry). e.reply) entries

-- the numbers from n on, one for each entry
abbrev pub counted_from : ℕ → List Entry → List ℕ
counted_from n [] = []
counted_from n (e ∷ es) = n ∷ counted_from (n + 1) es

abbrev pub own_entries : ℕ → List Entry → List Entry
own_entries session entries = filter (λ (e : Entry). e.session == session) entries

pub record IsLegal (s : State) (entries : List Entry) : Type 0 where
  pub replies : replies_of entries ≡ (run s (requests_of entries)).1
  pub indices : (session : ℕ) → map (λ (e : Entry). e.index) (own_entries session entries)
      ≡ counted_from 1 (own_entries session entries)

-- the state after the entries
abbrev pub state_after : State → List Entry → State
state_after s entries = (run s (requests_of entries)).0

-- a further call of its session, with the reply of the state after all entries before it
pub record GoesOn (s : State) (entries : List Entry) (e : Entry) : Type 0 where
  pub reply_is : e.reply ≡ (step (state_after s entries) e.request).1
  pub index_is : e.index ≡ length (own_entries e.session entries) + 1
