-- What each phase says of the bytes.
use Rattle.std.proofs.Common.{◌≡◌, ◌≢◌, ⊎_elim, ℕ, ◌+◌, ◌-◌, ◌^◌, ◌≤◌, min, List, [], ◌∷◌, ◌++◌, length, take, drop, get_or, Option, Some, None, false, refl, sym, ◌∙◌, ap, subst, arith, length-append, append_assoc}
use Rattle.std.specs.Prelude.{unwrap_or}
use Rattle.std.proofs.Common.{length-take}
use Rattle.std.proofs.Math.Seq.{take-add}
use Rattle.std.proofs.lemmas.List.{append-nil, get_or-drop}
use Rattle.liq_types.specs.State.{State, opening, opening_with}
use Rattle.liq_core.specs.Core.{Core, StandsFor}
use Rattle.liq_journal.specs.declared.damage.Damage.{Damage}
use Rattle.liq_journal.proofs.Reading.{isnt_long, isnt_open}
use Rattle.liq_disk_pair.specs.Pair.{Faulty, Holding, Standing}
use Rattle.liq_follower.specs.declared.answers.FedEnd.{FedEnd}
use Rattle.liq_follower.specs.declared.answers.FedEnd.TheVariants as end
use Rattle.liq_follower.specs.declared.phase.Phase.{Phase}
use Rattle.liq_follower.specs.declared.phase.Phase.TheVariants.{Start, Header, Gate, Inside, Shut, Damaged, Rotated}
use Rattle.liq_follower.specs.Fed.{AreOver, Completes, EndsWith, GoOn, LeadTo, begun_limit, fed, is_turned}
use Rattle.liq_follower.specs.Following.{EndsAs, Followed, IsAt, IsFed, IsInPhase, IsShut, StandsBeforeLast, stopped_in}
use Rattle.liq_follower.proofs.Fronts.{leads}
use Rattle.liq_follower.proofs.Headers.{no_header, shut_leads, too_short}
use Rattle.liq_follower.proofs.Verdicts.{apart}
use Rattle.liq_disk_header.specs.Layout.{header_size, layout_on}
use Rattle.liq_journal.specs.Records.{begins_whole}

-- ---- what is fed is in a phase, and counted

pub fed_at : (bytes : List ℕ) (f : Followed) → IsFed bytes f → IsAt bytes f
unfolding IsFed
fed_at bytes f is = is.0

pub fed_count : (bytes : List ℕ) (f : Followed) → IsFed bytes f → f.taken ≡ min (length bytes) (2 ^ 64 - 1)
unfolding IsFed
fed_count bytes f is = is.1

pub fed_by : (bytes : List ℕ) (f : Followed) → IsAt bytes f → f.taken ≡ min (length bytes) (2 ^ 64 - 1) → IsFed bytes f
unfolding IsFed
fed_by bytes f at count = (at, count)

-- what is known in the phase in which it is
pub in_phase : (bytes : List ℕ) (f now : Followed) (p : Phase) → f ≡ now → now.phase ≡ p → IsAt bytes now
    → IsInPhase p f.held bytes f.core
in_phase bytes f now p same is at =
    subst (λ (q : Phase). IsInPhase q f.held bytes f.core) (ap (λ (g : Followed). g.phase) same
    ∙ is) (subst (IsAt bytes) (sym same) at)

pub at_phase : (bytes held : List ℕ) (core : Core) (f now : Followed) (p : Phase) → f ≡ now → now.phase ≡ p
    → IsInPhase p held bytes core → IsInPhase f.phase held bytes core
at_phase bytes held core f now p same is at =
    subst (λ (q : Phase). IsInPhase q held bytes core) (sym (ap (λ (g : Followed). g.phase) same ∙ is)) at

-- ---- where feeding goes on, they lead to a state, for which the core stands

pub record Leads (bytes : List ℕ) (core : Core) : Type 0 where
  pub state : State
  pub lead : LeadTo bytes state
  pub stands : StandsFor core state

front_leads : (front rest : List ℕ) (core : Core) (e : EndsAs front core) → begins_whole rest ≡ false
    → Leads (front ++ rest) core
front_leads front rest core (s, e, stands) none = record {
  state = s;
  lead = leads front s e rest none;
  stands = stands;
}

leads_so : (a b : List ℕ) (core : Core) → a ≡ b → Leads a core → Leads b core
leads_so a b core same l = subst (λ (bytes : List ℕ). Leads bytes core) same l

whole_leads : (front : List ℕ) (core : Core) (e : EndsAs front core) → Leads front core
whole_leads front core e =
    leads_so (front ++ []) front core (append-nil front) (front_leads front [] core e (isnt_long [] (omega arith)))

shut_by : (bytes : List ℕ) (core : Core) → IsShut bytes core → Leads bytes core
shut_by bytes core s = leads_so (s.front ++ s.gate ∷ s.rest) bytes core (sym s.are) (⊎_elim none some s.whole)
  where
    none : (s.front ≡ []) × StandsFor core opening → Leads (s.front ++ s.gate ∷ s.rest) core
    none (nothing, stands) =
        leads_so (s.gate ∷ s.rest) (s.front ++ s.gate ∷ s.rest) core (ap (λ (l : List ℕ). l ++ s.gate ∷ s.rest)
        (sym nothing))
        (record { state = opening; lead = shut_leads (s.gate ∷ s.rest) s.shut; stands = stands })

    some : EndsAs s.front core → Leads (s.front ++ s.gate ∷ s.rest) core
    some e = front_leads s.front (s.gate ∷ s.rest) core e (isnt_open (s.gate ∷ s.rest) s.shut)

pub going_leads : (phase : Phase) (held bytes : List ℕ) (core : Core) → stopped_in phase ≡ None
    → IsInPhase phase held bytes core → Leads bytes core
going_leads Start held bytes core goes (none, stands) =
    record {
      state = opening;
      lead = subst (λ (l : List ℕ). LeadTo l opening) (sym none)
          (shut_leads [] (λ is. absurd (cc (is))));
      stands = stands;
    }
going_leads Header held bytes core goes (are, begun, stands) = record {
  state = opening_with (begun_limit bytes);
  lead = no_header bytes (too_short (get_or bytes 0 0) (header_size (layout_on bytes)) (length bytes) begun.short);
  stands = stands;
}
going_leads Gate held bytes core goes e = whole_leads bytes core e
going_leads Inside held bytes core goes (front, are, few, e) =
    leads_so (front ++ 1 ∷ held) bytes core (sym are) (front_leads front (1 ∷ held) core e (isnt_long (1 ∷ held)
    (omega arith)))
going_leads Shut held bytes core goes s = shut_by bytes core s
going_leads (Damaged index) held bytes core goes is = absurd (cc (goes))
going_leads (Rotated generation) held bytes core goes is = absurd (cc (goes))

-- ---- where it has ended, they lead to none

holds_no_fault : (a : Standing) (s : State) (damage : Damage) → a ≡ Holding 1 s → a ≡ Faulty damage → ⊥
holds_no_fault a s damage one other = let e = sym one ∙ other in cc (e)

pub lead_unstopped : (phase : Phase) (held bytes : List ℕ) (core : Core) (s : State) → IsInPhase phase held bytes core
    → LeadTo bytes s → stopped_in phase ≡ None
lead_unstopped Start held bytes core s is lead = refl
lead_unstopped Header held bytes core s is lead = refl
lead_unstopped Gate held bytes core s is lead = refl
lead_unstopped Inside held bytes core s is lead = refl
lead_unstopped Shut held bytes core s is lead = refl
lead_unstopped (Damaged index) held bytes core s ((none, (damage, is, at)), before) lead =
    absurd (holds_no_fault (fed bytes) s damage lead.1 is)
lead_unstopped (Rotated generation) held bytes core s ((turned, at), before) lead =
    absurd (apart (is_turned bytes) turned lead.0)

-- two damages of them are one
same_damage : (a : Standing) (d e : Damage) → a ≡ Faulty d → a ≡ Faulty e → d ≡ e
same_damage a d e one other = let same : Faulty d ≡ Faulty e = sym one ∙ other in cc (same)

-- two states to which they lead are one
same_state : (a : Standing) (s t : State) → a ≡ Holding 1 s → a ≡ Holding 1 t → s ≡ t
same_state a s t one other = let e : Holding 1 s ≡ Holding 1 t = sym one ∙ other in cc (e)

pub stands_for_it : (bytes : List ℕ) (f : Followed) (s : State) → IsFed bytes f → LeadTo bytes s → StandsFor f.core s
stands_for_it bytes f s is lead =
    let at = fed_at bytes f is in
    let l = going_leads f.phase f.held bytes f.core (lead_unstopped f.phase f.held bytes f.core s at lead) at in
    subst (StandsFor f.core) (same_state (fed bytes) l.state s l.lead.1 lead.1) l.stands

-- where feeding has ended, all bytes but the last one lead to a state, for which the core stands
pub ended_stands : (bytes : List ℕ) (f : Followed) → IsFed bytes f → AreOver bytes → StandsBeforeLast bytes f.core
ended_stands bytes f is over = by f.phase (fed_at bytes f is) where
  goes : (phase : Phase) → stopped_in phase ≡ None → IsInPhase phase f.held bytes f.core → StandsBeforeLast bytes f.core
  goes phase none at = absurd (over (let l = going_leads phase f.held bytes f.core none at in (l.state, l.lead)))

  by : (phase : Phase) → IsInPhase phase f.held bytes f.core → StandsBeforeLast bytes f.core
  by Start at = goes Start refl at
  by Header at = goes Header refl at
  by Gate at = goes Gate refl at
  by Inside at = goes Inside refl at
  by Shut at = goes Shut refl at
  by (Damaged index) at = at.1
  by (Rotated generation) at = at.1

-- ---- what feeding answers

stopped_with : (phase : Phase) (held bytes : List ℕ) (core : Core) (e : FedEnd) → IsInPhase phase held bytes core
    → stopped_in phase ≡ Some e → EndsWith e bytes
stopped_with Start held bytes core e is stopped = absurd (cc (stopped))
stopped_with Header held bytes core e is stopped = absurd (cc (stopped))
stopped_with Gate held bytes core e is stopped = absurd (cc (stopped))
stopped_with Inside held bytes core e is stopped = absurd (cc (stopped))
stopped_with Shut held bytes core e is stopped = absurd (cc (stopped))
stopped_with (Damaged index) held bytes core e is stopped = let same : end.Damaged index ≡ e = cc (stopped)
    in subst (λ (x : FedEnd). EndsWith x bytes) same is.0
stopped_with (Rotated generation) held bytes core e is stopped = let same : end.Rotated generation ≡ e = cc (stopped)
    in subst (λ (x : FedEnd). EndsWith x bytes) same is.0

pub ends_stopped : (bytes : List ℕ) (f : Followed) (e : FedEnd) → IsFed bytes f → stopped_in f.phase ≡ Some e
    → EndsWith e bytes
ends_stopped bytes f e is stopped = stopped_with f.phase f.held bytes f.core e (fed_at bytes f is) stopped

pub goes_on : (bytes : List ℕ) (f : Followed) → IsFed bytes f → stopped_in f.phase ≡ None → GoOn bytes
goes_on bytes f is goes = let l = going_leads f.phase f.held bytes f.core goes (fed_at bytes f is) in (l.state, l.lead)

pub goes_inside : (bytes : List ℕ) (f : Followed) → IsFed bytes f → f.phase ≡ Inside → GoOn bytes
goes_inside bytes f is inside = goes_on bytes f is (ap stopped_in inside)

ends_by : (bytes : List ℕ) (f : Followed) (o : Option FedEnd) → IsFed bytes f → stopped_in f.phase ≡ o
    → EndsWith (unwrap_or o end.All) bytes
ends_by bytes f None is goes = goes_on bytes f is goes
ends_by bytes f (Some e) is stopped = ends_stopped bytes f e is stopped

-- how a feed ends behind all bytes of its piece
pub ends_there : (bytes : List ℕ) (f : Followed) → IsFed bytes f
    → EndsWith (unwrap_or (stopped_in f.phase) end.All) bytes
ends_there bytes f is = ends_by bytes f (stopped_in f.phase) is refl

-- it ends for good neither with the piece nor for want of memory
pub for_good : (phase : Phase) (e : FedEnd) → stopped_in phase ≡ Some e → (e ≢ end.All) × (e ≢ end.NoMemory)
for_good Start e stopped = absurd (cc (stopped))
for_good Header e stopped = absurd (cc (stopped))
for_good Gate e stopped = absurd (cc (stopped))
for_good Inside e stopped = absurd (cc (stopped))
for_good Shut e stopped = absurd (cc (stopped))
for_good (Damaged index) e stopped = ((λ is. cc (stopped, is)), λ is. cc (stopped, is))
for_good (Rotated generation) e stopped = ((λ is. cc (stopped, is)), λ is. cc (stopped, is))

finds_memory : (o : Option FedEnd) → ((e : FedEnd) → o ≡ Some e → e ≢ end.NoMemory) → unwrap_or o end.All ≢ end.NoMemory
finds_memory None other is = cc (is)
finds_memory (Some e) other is = other e refl is

-- and so where the whole piece was taken
pub memory_there : (phase : Phase) → unwrap_or (stopped_in phase) end.All ≢ end.NoMemory
memory_there phase = finds_memory (stopped_in phase) (λ e stopped. (for_good phase e stopped).1)

-- two ends that come with the same bytes, where none goes on
one_end : (bytes : List ℕ) (a b : FedEnd) → AreOver bytes → EndsWith a bytes → EndsWith b bytes → a ≡ b
one_end bytes end.All b over is other = absurd (over is)
one_end bytes end.NoMemory b over is other = absurd (over is.0)
one_end bytes a end.All over is other = absurd (over other)
one_end bytes a end.NoMemory over is other = absurd (over other.0)
one_end bytes (end.Damaged index) (end.Damaged later) over (none, (damage, is, at)) (nor, (damaged, so, there)) =
    let same : damage ≡ damaged = same_damage (fed bytes) damage damaged is so in
    ap end.Damaged (sym at ∙ ap (λ (d : Damage). d.index) same ∙ there)
one_end bytes (end.Damaged index) (end.Rotated generation) over is other = absurd (apart (is_turned bytes) other.0 is.0)
one_end bytes (end.Rotated generation) (end.Damaged index) over is other = absurd (apart (is_turned bytes) is.0 other.0)
one_end bytes (end.Rotated generation) (end.Rotated later) over is other = ap end.Rotated (sym is.1 ∙ other.1)

-- what was told of bytes behind which none is taken is told again
pub told_again : (bytes piece : List ℕ) (taken : ℕ) (a b : FedEnd) → taken ≡ 0 → AreOver bytes
    → EndsWith a (bytes ++ take taken piece) → EndsWith b bytes → a ≡ b
told_again bytes piece taken a b none over is other =
    let nothing : bytes ++ take taken piece ≡ bytes = ap (λ (n : ℕ). bytes ++ take n piece) none ∙ append-nil bytes in
    one_end bytes a b over (subst (EndsWith a) nothing is) other

-- bytes that are over are taken by nobody
pub goes_over : (bytes : List ℕ) (taken : ℕ) (piece : List ℕ) → GoOn (bytes ++ take taken piece) → AreOver bytes
    → taken ≡ 0 → ⊥
goes_over bytes taken piece goes over none = over (subst GoOn (ap (λ (n : ℕ). bytes ++ take n piece) none
    ∙ append-nil bytes) goes)

pub none_over : (bytes : List ℕ) (taken more : ℕ) (piece : List ℕ) → GoOn (bytes ++ take taken piece) → AreOver bytes
    → taken ≡ 0 → taken + more ≡ 0
none_over bytes taken more piece goes over none = absurd (goes_over bytes taken piece goes over none)

-- the first byte of what is left of a piece
pub completes_at : (bytes piece rest : List ℕ) (taken : ℕ) → rest ≡ drop taken piece → Completes (get_or rest 0 0) bytes
    → Completes (get_or piece taken 0) bytes
completes_at bytes piece rest taken is completes =
    let same : taken + 0 ≡ taken = omega arith in
    subst (λ (byte : ℕ). Completes byte bytes) (ap (λ (l : List ℕ). get_or l 0 0) is ∙ get_or-drop taken piece 0 0
    ∙ ap (λ (k : ℕ). get_or piece k 0) same) completes

-- one piece behind another
pub fed_on : (bytes piece rest : List ℕ) (taken more : ℕ) (f : Followed) → rest ≡ drop taken piece
    → IsFed ((bytes ++ take taken piece) ++ take more rest) f → IsFed (bytes ++ take (taken + more) piece) f
fed_on bytes piece rest taken more f is fed =
    subst (λ (l : List ℕ). IsFed l f)
    (append_assoc bytes (take taken piece) (take more rest)
    ∙ ap (λ (l : List ℕ). bytes ++ (take taken piece ++ take more l)) is
    ∙ ap (λ (l : List ℕ). bytes ++ l) (sym (take-add taken more piece)))
    fed

-- what was taken is counted
pub counts : (bytes piece : List ℕ) (n taken : ℕ) (f : Followed) → n ≤ length piece
    → taken ≡ min (length bytes) (2 ^ 64 - 1)
    → f.taken ≡ min (taken + n) (2 ^ 64 - 1) → IsAt (bytes ++ take n piece) f → IsFed (bytes ++ take n piece) f
counts bytes piece n taken f within before now at =
    let long : length (bytes ++ take n piece) ≡ length bytes + n = length-append bytes (take n piece)
    ∙ ap (λ (k : ℕ). length bytes + k) (length-take n piece ∙ omega arith) in
    fed_by (bytes ++ take n piece) f at (now ∙ sums (length bytes) n taken before
    ∙ ap (λ (k : ℕ). min k (2 ^ 64 - 1)) (sym long))
  where
    sums : (k n taken : ℕ) → taken ≡ min k (2 ^ 64 - 1) → min (taken + n) (2 ^ 64 - 1) ≡ min (k + n) (2 ^ 64 - 1)
    sums k n taken before = omega arith
