-- What each byte makes of the bytes and the phase.
use Rattle.std.proofs.Common.{◌≡◌, ⊎_elim, ℕ, ◌+◌, ◌-◌, ◌^◌, ◌<◌, ◌≤◌, min, List, [], ◌∷◌, ◌++◌, length, get_or, Ok, Err, refl, sym, ◌∙◌, ap, subst, arith, length-append, append_assoc}
use Rattle.liq_types.specs.declared.replies.NoMemory.{NoMemory}
use Rattle.liq_types.specs.declared.requests.Command.{Command}
use Rattle.liq_types.specs.State.{State, opening_with}
use Rattle.liq_rule_step.specs.Step.{Allowed, after, ruling}
use Rattle.liq_core.specs.Core.{Core, StandsFor}
use Rattle.liq_disk_header.specs.Layout.{header_size, layout_on}
use Rattle.liq_journal.proofs.Reading.{isnt_long}
use Rattle.liq_follower.specs.declared.header.Judged.{Judged}
use Rattle.liq_follower.specs.declared.header.Judged.TheVariants as judged
use Rattle.liq_follower.specs.declared.phase.Phase.{Phase}
use Rattle.liq_follower.specs.declared.phase.Phase.TheVariants.{Start, Header, Gate, Inside, Shut, Damaged, Rotated}
use Rattle.liq_disk_replay.specs.Making.{MayWantMemory}
use Rattle.liq_follower.specs.Fed.{AreDamagedAt, Completes, EndsWhole, IsBegun, IsNoRecord, IsRecordOf, LackOne, LeadTo, begun_limit}
use Rattle.liq_follower.specs.Following.{EndsAs, Followed, IsAt, IsInPhase, StandsBeforeLast}
use Rattle.liq_follower.specs.Judging.{IsJudged, IsTaken, IsUnfit, phase_of}
use Rattle.liq_follower.proofs.Fronts.{bad_command, bad_form, completes, lacks_one, leads, one_record_more}
use Rattle.liq_follower.proofs.Growing.{gate_is, has_room, least, same_limit, still_begun}
use Rattle.liq_follower.proofs.Headers.{no_header, too_short, whole_header, wrong}
use Rattle.liq_follower.proofs.Phases.{in_phase}

-- ---- the header

-- the phase behind a whole header
judged_so : (bytes none : List ℕ) (core : Core) (j : Judged) → get_or bytes 0 0 ≡ 1
    → length bytes ≡ header_size (layout_on bytes)
    → StandsFor core (opening_with (begun_limit bytes)) → StandsBeforeLast bytes core → IsJudged bytes j
    → IsInPhase (phase_of j) none bytes core
judged_so bytes none core judged.Right gate whole stands before is = (
  opening_with (begun_limit bytes),
  whole_header bytes gate whole is.0 is.1,
  stands,
)
judged_so bytes none core (judged.Turned generation) gate whole stands before is = (is, before)
judged_so bytes none core judged.Damaged gate whole stands before is = (wrong bytes gate whole is.1 is.0, before)

-- one byte more of the header
pub record Grown (bytes : List ℕ) (held : List ℕ) (core : Core) : Type 0 where
  pub are : bytes ≡ held
  pub gate : get_or held 0 0 ≡ 1
  pub stands : StandsFor core (opening_with (begun_limit held))
  pub begun : (length held ≡ header_size (layout_on held) → ⊥) → IsBegun held
  pub before : length held ≡ header_size (layout_on held) → StandsBeforeLast bytes core

pub grown : (bytes held more : List ℕ) (core next : Core) (byte limit : ℕ) → IsInPhase Header held bytes core
    → (length held < 127 → more ≡ held ++ byte ∷ []) → ((before : ℕ) → StandsFor core (opening_with before)
    → StandsFor next (opening_with limit))
    → limit ≡ begun_limit more → Grown (bytes ++ byte ∷ []) more next
grown bytes held more core next byte limit (are, begun, stands) pushed opened is =
    let begun_held : IsBegun held = subst IsBegun are begun in
    let same : more ≡ held ++ byte ∷ [] = pushed (has_room held begun_held) in
    let now : StandsFor next (opening_with (begun_limit more)) = subst (λ (n : ℕ). StandsFor next (opening_with n)) is
    (opened (begun_limit bytes) stands) in
    record {
      are = ap (λ (l : List ℕ). l ++ byte ∷ []) are ∙ sym same;
      gate = subst (λ (l : List ℕ). get_or l 0 0 ≡ 1) (sym same) (gate_is held byte begun_held);
      stands = now;
      begun = subst (λ (l : List ℕ). (length l ≡ header_size (layout_on l) → ⊥)
          → IsBegun l) (sym same) (still_begun held byte begun_held);
      before = λ whole.
          let long : 9 ≤ length held = let n = ap length same in let m = length-append held (byte ∷ [])
          in let l = least more in omega arith in
          let limit : begun_limit more ≡ begun_limit bytes = ap begun_limit same ∙ same_limit held byte long
          ∙ ap begun_limit (sym are) in
          record {
            front = bytes;
            last = byte;
            are = refl;
            state = opening_with (begun_limit bytes);
            lead = no_header bytes (too_short (get_or bytes 0 0) (header_size (layout_on bytes))
                (length bytes) begun.short);
            stands = subst (λ (n : ℕ). StandsFor next (opening_with n)) limit now;
          };
    }

pub still_header : (bytes held : List ℕ) (core : Core) → Grown bytes held core
    → (length held ≡ header_size (layout_on held) → ⊥) → IsInPhase Header held bytes core
still_header bytes held core g isnt = (
  g.are,
  subst IsBegun (sym g.are) (g.begun isnt),
  subst (λ (l : List ℕ). StandsFor core (opening_with (begun_limit l))) (sym g.are) g.stands,
)

pub whole_so : (bytes held none : List ℕ) (core : Core) (j : Judged) (phase : Phase) → Grown bytes held core
    → length held ≡ header_size (layout_on held)
    → (get_or held 0 0 ≡ 1 → IsJudged held j) → phase ≡ phase_of j → IsInPhase phase none bytes core
whole_so bytes held none core j phase g whole judged is =
    subst (λ (p : Phase). IsInPhase p none bytes core) (sym is)
    (subst (λ (l : List ℕ). IsInPhase (phase_of j) none l core) (sym g.are) (judged_so held none core j g.gate whole
    g.stands (subst (λ (l : List ℕ). StandsBeforeLast l core) g.are (g.before whole)) (judged g.gate)))

-- ---- records

pub lacks : (bytes held : List ℕ) (core : Core) → length held ≡ 127 → IsInPhase Inside held bytes core → LackOne bytes
lacks bytes held core size (front, are, less, (s, e, stands)) = subst LackOne (sym are) (lacks_one front s e held size)

pub few_records : (bytes held : List ℕ) (core : Core) → IsInPhase Inside held bytes core → core.records ≤ 1000000
few_records bytes held core (front, are, less, (s, e, stands)) =
    let same = stands.records in
    let few : s.records ≤ 1000000 = e.few in
    omega arith

-- inside a record, all of whose bytes but the last are held: that of the number after the core's
pub record IsFull (bytes : List ℕ) (f : Followed) (index : ℕ) : Type 0 where
  pub at : IsInPhase Inside f.held bytes f.core
  pub size : length f.held ≡ 127
  pub next : index ≡ f.core.records + 1

pub full : (bytes : List ℕ) (f now : Followed) (told index : ℕ) → f ≡ now → now.phase ≡ Inside → length now.held ≡ 127
    → told ≡ f.core.records → index ≡ min (told + 1) (2 ^ 64 - 1) → IsAt bytes now → IsFull bytes f index
full bytes f now told index same is size counted next at =
    let here = in_phase bytes f now Inside same is at in
    let few = few_records bytes f.held f.core here in
    record {
      at = here;
      size = ap (λ (g : Followed). length g.held) same
          ∙ size;
      next = omega (arith, few, counted, next);
    }

-- the last byte of a record
module _ (bytes held : List ℕ) (core : Core) (last index : ℕ) (size : length held ≡ 127) (next : index
    ≡ core.records + 1) (at : IsInPhase Inside held bytes core) where
  abbrev raw : List ℕ
  raw = held ++ last ∷ []

  raw_long : length raw ≡ 128
  raw_long = let n = length-append held (last ∷ []) in omega (arith, n, size)

  all_are : at.0 ++ 1 ∷ raw ≡ bytes ++ last ∷ []
  all_are = sym (ap (λ (l : List ℕ). l ++ last ∷ []) at.1 ∙ append_assoc at.0 (1 ∷ held) (last ∷ []))

  abbrev pub state : State
  state = at.3.0

  front : EndsWhole at.0 state
  front = at.3.1

  index_is : index ≡ state.records + 1
  index_is = next ∙ ap (λ (n : ℕ). n + 1) at.3.2.records

  pub damaged_form : IsNoRecord index raw → AreDamagedAt index (bytes ++ last ∷ [])
  damaged_form none = subst (AreDamagedAt index) all_are (bad_form at.0 state front raw raw_long index index_is none)

  pub damaged_command : (c : Command) → IsRecordOf index raw c → (ruling state c ≡ Allowed → ⊥)
      → AreDamagedAt index (bytes ++ last ∷ [])
  damaged_command c read isnt = subst (AreDamagedAt index) all_are (bad_command at.0 state front raw raw_long index
      index_is c read isnt)

  pub record_made : (c : Command) → IsRecordOf index raw c → ruling state c ≡ Allowed → (next_core : Core)
      → StandsFor next_core (after state c)
      → EndsAs (bytes ++ last ∷ []) next_core
  record_made c read allowed next_core stands = (
    after state c,
    subst (λ (l : List ℕ). EndsWhole l (after state c)) all_are
        (one_record_more at.0 state front raw raw_long index index_is c read allowed),
    stands,
  )

  -- all bytes before it lead to the state
  leads_before : LeadTo bytes state
  leads_before = subst (λ (l : List ℕ). LeadTo l state) (sym at.1) (leads at.0 state front (1 ∷ held)
      (isnt_long (1 ∷ held) (omega arith)))

  pub record_refused : (next_core : Core) → IsUnfit state index raw × StandsFor next_core state
      → AreDamagedAt index (bytes ++ last ∷ []) × StandsBeforeLast (bytes ++ last ∷ []) next_core
  record_refused next_core (unfit, stands) = (
    ⊎_elim damaged_form (λ r. damaged_command r.0 r.1 r.2) unfit,
    record { front = bytes; last = last; are = refl; state = state; lead = leads_before; stands = stands },
  )

  -- by what the record was taken for, as its bytes were put together
  pub taken_by : (read : List ℕ) → read ≡ raw → (next_core : Core) (phase : Phase)
      → IsTaken state index read next_core (Ok phase) → IsInPhase phase held (bytes ++ last ∷ []) next_core
  taken_by read same next_core Gate (c, is, allowed, stands) =
      record_made c (subst (λ (l : List ℕ). IsRecordOf index l c) same is) allowed next_core stands
  taken_by read same next_core (Damaged at) (is, unfit, stands) =
      subst (λ (n : ℕ). AreDamagedAt n (bytes ++ last ∷ []) × StandsBeforeLast (bytes ++ last ∷ []) next_core) (sym is)
      (record_refused next_core (subst (λ (l : List ℕ). IsUnfit state index l) same unfit, stands))
  taken_by read same next_core Start t = absurd t
  taken_by read same next_core Header t = absurd t
  taken_by read same next_core Inside t = absurd t
  taken_by read same next_core Shut t = absurd t
  taken_by read same next_core (Rotated generation) t = absurd t

  completed : (c : Command) → IsRecordOf index raw c → MayWantMemory state c → Completes last bytes
  completed c read wants = subst (Completes last) (sym at.1) (completes at.0 state front held last index c size index_is
      read wants)

  pub lacking : (read : List ℕ) → read ≡ raw → (next_core : Core) (none : NoMemory)
      → IsTaken state index read next_core (Err none)
      → IsInPhase Inside held bytes next_core × LackOne bytes × Completes last bytes
  lacking read same next_core none (c, is, wants, stands) = (
    (at.0, at.1, at.2, (state, front, stands)),
    lacks bytes held core size at,
    completed c (subst (λ (l : List ℕ). IsRecordOf index l c) same is) wants,
  )
