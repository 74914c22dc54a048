-- What a store tells leads from the last version on, and what a book publishes stays true.
use Rattle.std.proofs.Common.{◌≡◌, ℕ, ◌≤◌, List, [], ◌∷◌, ◌++◌, length, ◌⊎◌, inl, inr, Option, None, Result, Ok, Err, refl, sym, ap, ◌∙◌, subst, append-nil, append_assoc}
use Rattle.std.specs.List.Sorted.{IsStrictlySortedBy}
use Rattle.std.specs.Result.{MatchResult}
use Rattle.std.specs.Ordering.{nat_cmp}
use Rattle.std.proofs.lemmas.Map.Made.{keys_of-map_values}
use Rattle.liq_types.specs.declared.entries.Entry.{Entry}
use Rattle.liq_types.specs.declared.replies.Answer.{Answer}
use Rattle.liq_types.specs.declared.replies.Answer.TheVariants as answer
use Rattle.liq_types.specs.declared.replies.Reply.{Reply}
use Rattle.liq_types.specs.declared.requests.Request.{Request}
use Rattle.liq_types.specs.declared.requests.Request.TheVariants.{Do, Ask}
use Rattle.liq_types.specs.declared.image.Image.{Image}
use Rattle.liq_types.specs.Soundness.{HasTables, IsSoundImage}
use Rattle.liq_types.specs.State.{State, opening}
use Rattle.liq_types.specs.WellFormed.{IsWellFormed, TablesAscend}
use Rattle.liq_stability.specs.Position.{deposit_row}
use Rattle.liq_troves.specs.StakeSums.{trove_row}
use Rattle.liq_rule_step.specs.History.{state_after}
use Rattle.liq_rule_step.specs.Image.{image}
use Rattle.liq_rule_step.specs.Rules.{call_changes}
use Rattle.liq_rule_step.specs.Step.{Ruling, Refused, Repeated, Allowed, after_ruling, ruling, step}
use Rattle.liq_rule_step.specs.View.{all_followed, view_of}
use Rattle.liq_rule_step.proofs.Following.{after_follows}
use Rattle.liq_rule_step.proofs.Histories.{state-snoc}
use Rattle.liq_core.specs.Core.{Core, StandsFor}
use Rattle.liq_store.specs.Stored.{Stored}
use Rattle.liq_store.specs.Telling.{told, told_by, told_of}
use Rattle.liq_views.specs.Batches.{Given, last_from}
use Rattle.liq_book.specs.declared.items.Halt.{Halt}
use Rattle.liq_book.specs.Publishing.{AreViews, IsPublishing, open_book}
use Rattle.liq_book.proofs.Batches.{folds_again, folds_on, folds_out, last_low, seen_after, view_at_first, views_grow, views_none, views_with}

-- ---- one call

-- the tables of a state whose image is sound are in order
tables_of : (s : State) → HasTables (image s) → TablesAscend s
tables_of s h = (
  h.wallets,
  subst (λ (keys : List ℕ). IsStrictlySortedBy nat_cmp keys) (keys_of-map_values (trove_row s) s.troves) h.troves,
  h.surplus,
  subst (λ (keys : List ℕ). IsStrictlySortedBy nat_cmp keys) (keys_of-map_values (deposit_row s) s.deposits) h.deposits,
  h.clients,
)

pub in_order : (core : Core) (s : State) → IsSoundImage core.image core.records → StandsFor core s → TablesAscend s
in_order core s sound stands = tables_of s (subst (λ (i : Image). HasTables i) stands.image sound.tables)

-- what is told of a request leads to the view after its step
leads : (s : State) (request : Request) → IsWellFormed s → TablesAscend s → all_followed (view_of s) (told_of s request)
    ≡ view_of (step s request).0
leads s (Do c) w h = by (ruling s c) where
  by : (r : Ruling) → all_followed (view_of s) (told_by r (call_changes s c.call)) ≡ view_of (after_ruling s c r).0
  by (Refused refusal) = refl
  by (Repeated kept) = refl
  by Allowed = after_follows s c w (record { tables = h })
leads s (Ask query) w h = refl

-- without a reply nothing is told
pub nothing_told : {D : Type 0} (old new : Stored D) (s : State) (request : Request) (a : Answer)
    → ((reply : Reply) → a ≡ answer.Reply reply → ⊥) → new.changes ≡ old.changes ++ told s request a
    → new.changes ≡ old.changes
nothing_told old new s request (answer.Reply reply) without tells = absurd (without reply refl)
nothing_told old new s request answer.NoMemory without tells = tells ∙ append-nil old.changes
nothing_told old new s request answer.DiskFault without tells = tells ∙ append-nil old.changes
nothing_told old new s request (answer.Stopped faults) without tells = tells ∙ append-nil old.changes
nothing_told old new s request (answer.HistoryFull most) without tells = tells ∙ append-nil old.changes

-- ---- what is published

module _ {D : Type 0} (base : State) where
  abbrev pub Publishes : Stored D → List Entry → Option Halt → List Given → List Given → Type 0
  Publishes store entries halt published waiting = IsPublishing base (open_book store entries halt published waiting)

  -- nothing more is told, or nothing is told any more while there is no entry
  pub nothing_more : (old new : Stored D) (entries : List Entry) (halt now : Option Halt)
      (published waiting : List Given) → Publishes old entries halt published waiting
      → (new.changes ≡ old.changes) ⊎ ((entries ≡ []) × (new.changes ≡ []))
      → Publishes new entries now published waiting
  nothing_more old new entries halt now published waiting h (inl same) = record {
    first = h.first;
    each = h.each;
    folds = ap (all_followed (seen_after (published ++ waiting))) same ∙ h.folds;
  }
  nothing_more old new entries halt now published waiting h (inr none) =
      let all : published ++ waiting ≡ h.first.0 ∷ (h.first.1 ++ waiting) =
      ap (λ (bs : List Given). bs ++ waiting) h.first.2 in
      let each : AreViews base [] (h.first.0 ∷ (h.first.1 ++ waiting)) =
      subst (AreViews base []) all (subst (λ (es : List Entry). AreViews base es (published ++ waiting))
      none.0 h.each) in
      record {
        first = h.first;
        each = h.each;
        folds =
            ap (all_followed (seen_after (published ++ waiting))) none.1
            ∙ ap (λ (bs : List Given). seen_after bs) all
            ∙ view_at_first base h.first.0 (h.first.1 ++ waiting) each
            ∙ ap (λ (es : List Entry). view_of (state_after base es)) (sym none.0);
      }

  -- a call without a reply publishes nothing, whatever changes were let go before it
  pub nothing_published :
      (first old new : Stored D) (entries : List Entry) (halt now : Option Halt) (request : Request) (a : Answer)
      (published waiting : List Given) → Publishes first entries halt published waiting
      → (old.changes ≡ first.changes) ⊎ ((entries ≡ []) × (old.changes ≡ []))
      → ((reply : Reply) → a ≡ answer.Reply reply → ⊥)
      → new.changes ≡ old.changes ++ told (state_after base entries) request a
      → Publishes new entries now published waiting
  nothing_published first old new entries halt now request a published waiting h forgotten without tells =
      nothing_more old new entries halt now published waiting
      (nothing_more first old entries halt halt published waiting h forgotten)
      (inl (nothing_told old new (state_after base entries) request a without tells))

  -- an entry, with what its call told
  pub entry_more : (old new : Stored D) (entries : List Entry) (e : Entry) (halt now : Option Halt)
      (published waiting : List Given) → Publishes old entries halt published waiting
      → IsSoundImage old.core.image old.core.records → StandsFor old.core (state_after base entries)
      → new.changes ≡ old.changes ++ told (state_after base entries) e.request (answer.Reply e.reply)
      → Publishes new (entries ++ e ∷ []) now published waiting
  entry_more old new entries e halt now published waiting h sound stands tells =
      let s : State = state_after base entries in
      record {
        first = h.first;
        each = views_grow base entries e (published ++ waiting) h.each;
        folds =
            ap (all_followed (seen_after (published ++ waiting))) tells
            ∙ folds_on (published ++ waiting) old.changes (told_of s e.request) (view_of s)
            (view_of (step s e.request).0) h.folds (leads s e.request stands.formed
            (in_order old.core s sound stands))
            ∙ ap view_of (sym (state-snoc base entries e));
      }

  -- ---- a publication

  abbrev batch : Stored D → List Entry → Given
  batch store entries = record { changes = store.changes; number = length entries }

  one_more_view : (store : Stored D) (entries : List Entry) (halt : Option Halt) (published waiting : List Given)
      → Publishes store entries halt published waiting
      → AreViews base entries ((published ++ waiting) ++ batch store entries ∷ [])
  one_more_view store entries halt published waiting h =
      views_with base entries (published ++ waiting) store.changes h.folds h.each

  -- the number of entries is not below any that was published
  pub not_below : (store : Stored D) (entries : List Entry) (halt : Option Halt) (published waiting : List Given)
      → Publishes store entries halt published waiting
      → last_from 0 (published ++ waiting) ≤ length entries
  not_below store entries halt published waiting h =
      last_low base entries (published ++ waiting) h.each

  -- it went out, with what waited
  pub goes_out : (store new : Stored D) (entries : List Entry) (halt : Option Halt)
      (published waiting published' waiting' : List Given) → Publishes store entries halt published waiting
      → published' ≡ published ++ (waiting ++ batch store entries ∷ []) → waiting' ≡ [] → new.changes ≡ []
      → Publishes new entries halt published' waiting'
  goes_out store new entries halt published waiting published' waiting' h out none cleared =
      let all : published' ++ waiting' ≡ (published ++ waiting) ++ batch store entries ∷ [] =
      ap (λ (bs : List Given). published' ++ bs) none ∙ append-nil published' ∙ out
      ∙ sym (append_assoc published waiting (batch store entries ∷ [])) in
      record {
        first = (
          h.first.0,
          h.first.1 ++ (waiting ++ batch store entries ∷ []),
          out
              ∙ ap (λ (bs : List Given). bs ++ (waiting ++ batch store entries ∷ [])) h.first.2,
          h.first.3,
        );
        each = subst (AreViews base entries) (sym all) (one_more_view store entries halt published
            waiting h);
        folds =
            ap (all_followed (seen_after (published' ++ waiting'))) cleared
            ∙ ap (λ (bs : List Given). all_followed (seen_after bs) []) all
            ∙ folds_out (published ++ waiting) store.changes (length entries)
            (view_of (state_after base entries)) h.folds;
      }

  -- without memory it was not taken, or it waits
  pub waits : (store : Stored D) (entries : List Entry) (halt : Option Halt)
      (published waiting published' waiting' : List Given) → Publishes store entries halt published waiting
      → published' ≡ published → (waiting' ≡ waiting) ⊎ (waiting' ≡ waiting ++ batch store entries ∷ [])
      → Publishes store entries halt published' waiting'
  waits store entries halt published waiting published' waiting' h same (inl still) =
      subst (λ (bs : List Given). Publishes store entries halt bs waiting') (sym same)
      (subst (λ (bs : List Given). Publishes store entries halt published bs) (sym still) h)
  waits store entries halt published waiting published' waiting' h same (inr more) =
      let all : published ++ (waiting ++ batch store entries ∷ []) ≡ (published ++ waiting) ++ batch store entries
      ∷ [] = sym (append_assoc published waiting (batch store entries ∷ [])) in
      subst (λ (bs : List Given). Publishes store entries halt bs waiting') (sym same)
      (subst (λ (bs : List Given). Publishes store entries halt published bs) (sym more) (record {
        first = h.first;
        each = subst (AreViews base entries) (sym all) (one_more_view store entries halt published
            waiting h);
        folds =
            ap (λ (bs : List Given). all_followed (seen_after bs) store.changes) all
            ∙ folds_again (published ++ waiting) store.changes (length entries)
            (view_of (state_after base entries)) h.folds;
      }))

  -- ---- the beginning

  -- the list as it was opened, published as version 0
  pub opens : (store : Stored D) (published waiting : List Given) → all_followed (view_of opening) store.changes
      ≡ view_of base
      → published ≡ record { changes = store.changes; number = 0 } ∷ [] → waiting ≡ []
      → Publishes store [] None published waiting
  opens store published waiting listed out none =
      let opened : Given = record { changes = store.changes; number = 0 } in
      subst (λ (bs : List Given). Publishes store [] None bs waiting) (sym out)
      (subst (λ (bs : List Given). Publishes store [] None (opened ∷ []) bs) (sym none) (record {
        first = (opened, [], refl, refl);
        each = views_with base [] [] store.changes listed (views_none base []);
        folds = folds_again [] store.changes 0 (view_of base) listed;
      }))

  -- what went out is let go, and what did not is kept
  pub goes_or_waits : {X Y : Type 0} (r : Result X Y) (old new : Stored D) (entries : List Entry)
      (halt : Option Halt)
      (published waiting published' waiting' : List Given) (number : ℕ) → number ≡ length entries
      → Publishes old entries halt published waiting
      → MatchResult r (λ _. (published' ≡ published ++ (waiting ++ record { changes = old.changes; number = number }
      ∷ [])) × (waiting' ≡ [])) (λ _. (published' ≡ published) × ((waiting' ≡ waiting)
      ⊎ (waiting' ≡ waiting ++ record { changes = old.changes; number = number } ∷ [])))
      → MatchResult r (λ _. new ≡ record old { changes = [] }) (λ _. new ≡ old)
      → Publishes new entries halt published' waiting'
  goes_or_waits (Ok x) old new entries halt published waiting published' waiting' number count h sent told =
      goes_out old new entries halt published waiting published' waiting' h (rw count at sent.0) sent.1 (rw told refl)
  goes_or_waits (Err y) old new entries halt published waiting published' waiting' number count h sent told =
      subst (λ (store : Stored D). Publishes store entries halt published' waiting') (sym told)
      (waits old entries halt published waiting published' waiting' h sent.0 (rw count at sent.1))
