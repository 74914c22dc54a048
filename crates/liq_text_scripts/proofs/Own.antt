-- A session's own entries.
use Rattle.std.proofs.Common.{◌≡◌, ℕ, ◌+◌, ◌<◌, Bool, true, false, cond, List, [], ◌∷◌, ◌++◌, get_or, refl, ap, sym, ◌∙◌, arith}
use Rattle.std.specs.Prelude.{◌==◌, ◌||◌, map}
use Rattle.std.specs.List.{flat_map, list_any}
use Rattle.std.proofs.lemmas.List.FromFn.{get_or-map-range_with_len}
use Rattle.liq_rule_step.specs.History.{Entry, own_entries}
use Rattle.liq_text_scripts.specs.Output.{session_text}
use Rattle.liq_text_scripts.specs.Sending.{part_text, heading}
use Rattle.liq_text_scripts.specs.Sessions.{sessions}
use Rattle.liq_text_scripts.specs.declared.output.Part.{Part}
use Rattle.liq_text_scripts.specs.declared.output.Part.TheVariants.{ReplyTo}
use Rattle.liq_text.specs.Replies.{reply_line}

module _ {E : Type 0} (entry : E → Entry) where
  -- what is sent of each
  abbrev pub sent_of : Part → E → List ℕ
  sent_of part e = part_text part (entry e)

  -- what the entries say of a session
  abbrev pub session_part : List E → ℕ → List ℕ
  session_part es session = session_text session (own_entries session (map entry es))

module _ {E : Type 0} (entry : E → Entry) (session : ℕ) where
  -- the reply's line, where the entry is the session's
  abbrev pub own_line : E → List ℕ
  own_line e = sent_of entry (ReplyTo session) e

  pub own-lines : (es : List E) → flat_map (λ (e : Entry). reply_line e.reply) (own_entries session (map entry es))
      ≡ flat_map own_line es
  own-lines [] = refl
  own-lines (e ∷ es) = by ((entry e).session == session) (own_entries session (map entry es)) (own-lines es) where
    by : (b : Bool) (own : List Entry) → flat_map (λ (x : Entry). reply_line x.reply) own ≡ flat_map own_line es
        → flat_map (λ (x : Entry). reply_line x.reply) (cond b (entry e ∷ own) own)
        ≡ cond b (reply_line (entry e).reply) [] ++ flat_map own_line es
    by true own h = ap (λ (t : List ℕ). reply_line (entry e).reply ++ t) h
    by false own h = h

  pub own-none : (es : List E) → list_any (λ e. (entry e).session == session) es ≡ false
      → own_entries session (map entry es) ≡ []
  own-none [] h = refl
  own-none (e ∷ es) h = by ((entry e).session == session) h (own-none es) where
    by : (b : Bool) → (b || list_any (λ x. (entry x).session == session) es) ≡ false
        → (list_any (λ x. (entry x).session == session) es ≡ false → own_entries session (map entry es) ≡ [])
        → cond b (entry e ∷ own_entries session (map entry es)) (own_entries session (map entry es)) ≡ []
    by true h later = absurd (cc h)
    by false h later = later h

  own-some : (es : List E) → list_any (λ e. (entry e).session == session) es ≡ true → (first : Entry)
      × (more : List Entry) × (own_entries session (map entry es) ≡ first ∷ more)
  own-some [] h = absurd (cc h)
  own-some (e ∷ es) h = by ((entry e).session == session) h (own-some es) where
    by : (b : Bool) → (b || list_any (λ x. (entry x).session == session) es) ≡ true
        → (list_any (λ x. (entry x).session == session) es ≡ true → (first : Entry) × (more : List Entry)
        × (own_entries session (map entry es) ≡ first ∷ more)) → (first : Entry) × (more : List Entry)
        × (cond b (entry e ∷ own_entries session (map entry es)) (own_entries session (map entry es)) ≡ first ∷ more)
    by true h later = (entry e, own_entries session (map entry es), refl)
    by false h later = later h

  -- a session with entries has a heading, and a line for each
  pub own-text : (es : List E) → list_any (λ e. (entry e).session == session) es ≡ true
      → session_text session (own_entries session (map entry es)) ≡ heading session ++ flat_map own_line es
  own-text es h =
      let some = own-some es h in
      ap (session_text session) some.2
      ∙ ap (λ (own : List Entry). heading session ++ flat_map (λ (e : Entry). reply_line e.reply) own) (sym some.2)
      ∙ ap (λ (t : List ℕ). heading session ++ t) (own-lines es)

pub session-at : (before : ℕ) → before < 8 → get_or sessions before 0 ≡ before + 1
session-at before lt = get_or-map-range_with_len (λ n. n) 1 8 before (before + 1) 0 lt (omega arith)
