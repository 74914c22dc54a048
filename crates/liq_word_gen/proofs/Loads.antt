-- A load goes on: one more command, and what is counted.
use Rattle.std.proofs.Common.{◌≡◌, ℕ, ◌+◌, ◌*◌, ◌^◌, ◌≤◌, Option, List, [], ◌∷◌, ◌++◌, length, drop, Some, None, refl, sym, ap, ap₂, subst, ◌∙◌, append-nil, add-zero, zero-add, add_assoc, length-append, arith}
use Rattle.std.specs.Prelude.{count_by, cond, unwrap_or, if◌then◌else◌}
use Rattle.std.proofs.Math.Nat.{min-eq_left}
use Rattle.std.proofs.lemmas.List.Sums.{count_by-le-length, sum_by-append}
use Rattle.liq_types.specs.declared.amounts.TheConstants.{LOWEST_MOST, NUMBER_MOST}
use Rattle.liq_types.specs.declared.events.PoolEvent.{PoolEvent}
use Rattle.liq_types.specs.declared.figures.Client.{Client}
use Rattle.liq_types.specs.declared.replies.Done.{Done}
use Rattle.liq_types.specs.declared.replies.Refusal.{Refusal}
use Rattle.liq_types.specs.declared.requests.Call.{Call}
use Rattle.liq_types.specs.declared.requests.Command.{Command}
use Rattle.liq_types.specs.declared.requests.Request.{Request}
use Rattle.liq_types.specs.declared.requests.Request.TheVariants.{Do}
use Rattle.liq_types.specs.Ranked.{first_of}
use Rattle.liq_types.specs.declared.image.Image.{Image}
use Rattle.liq_types.specs.State.{State, client_of, no_client, opening}
use Rattle.liq_types.specs.Tables.{at}
use Rattle.liq_types.proofs.Lookups.{at-put_same}
use Rattle.liq_stability.specs.declared.words.PoolWords.{PoolWords}
use Rattle.liq_audit.specs.Auditable.{is_offset, offsets_in}
use Rattle.liq_core.specs.Core.{Core, StandsFor}
use Rattle.liq_rule_step.specs.Events.{events}
use Rattle.liq_rule_step.specs.Image.{image}
use Rattle.liq_rule_step.specs.Rules.{call_events}
use Rattle.liq_rule_step.specs.Step.{Ruling, Refused, Repeated, Allowed, accepted, after, after_ruling, done_of, effect, is_allowed, next_number, run, ruling, step}
use Rattle.liq_word_gen.specs.declared.load.Counts.{Counts}
use Rattle.liq_word_gen.specs.Carrying.{AreWithin, IsNumbered, counts, next_command, none_yet, plus, told}
use Rattle.liq_word_gen.specs.Load.{is_refusal, load}

same_counts : (a b : Counts) → a.accepted ≡ b.accepted → a.refused ≡ b.refused → a.offsets ≡ b.offsets → a ≡ b
same_counts a b accepted refused offsets =
    let first = ap (λ n. record a { accepted = n }) accepted in
    let second = ap (λ n. record a { accepted = b.accepted; refused = n }) refused in
    first ∙ second ∙ ap (λ n. record b { offsets = n }) offsets

-- ---- one command

-- what a ruling adds
abbrev added : State → Command → Ruling → Counts
added s c r =
    let made = (if is_allowed r then c ∷ [] else []) ++ [] in
    record {
      accepted = length made;
      refused = count_by is_refusal ((after_ruling s c r).1 ∷ []);
      offsets = offsets_in (events s made);
    }

-- a command whose ruling is this adds it
adds : (s : State) (c : Command) (r : Ruling) (n m : Counts) → ruling s c ≡ r → m ≡ plus n (added s c r)
    → m ≡ plus n (counts s (Do c ∷ []))
adds s c r n m is m_is = m_is ∙ ap (λ (q : Ruling). plus n (added s c q)) (sym is)

pub repeated_adds : (s : State) (c : Command) (kept : Done) (n : Counts) → ruling s c ≡ Repeated kept
    → n ≡ plus n (counts s (Do c ∷ []))
repeated_adds s c kept n is =
    adds s c (Repeated kept) n n is (same_counts _ _ (sym (add-zero _)) (sym (add-zero _)) (sym (add-zero _)))

pub refused_adds : (s : State) (c : Command) (refusal : Refusal) (n m : Counts) → ruling s c ≡ Refused refusal
    → m ≡ record n { refused = n.refused + 1 } → m ≡ plus n (counts s (Do c ∷ []))
refused_adds s c refusal n m is m_is =
    adds s c (Refused refusal) n m is (m_is ∙ same_counts _ _ (sym (add-zero _)) refl (sym (add-zero _)))

pub allowed_adds : (s : State) (c : Command) (made : List PoolEvent) (n m : Counts) → ruling s c ≡ Allowed
    → made ≡ call_events s c.call → m ≡ record {
      accepted = n.accepted + 1;
      refused = n.refused;
      offsets = n.offsets + offsets_in made;
    } → m ≡ plus n (counts s (Do c ∷ []))
allowed_adds s c made n m is made_is m_is =
    let offsets = ap (λ (es : List PoolEvent). n.offsets + offsets_in es)
    (made_is ∙ sym (append-nil (call_events s c.call))) in
    adds s c Allowed n m is (m_is ∙ same_counts _ _ refl (sym (add-zero _)) offsets)

abbrev command_of : State → Call → ℕ → Command
command_of s call number = record { client = 1; number = number; call = call }

-- the next command was made, and is counted
pub next_carries : (s : State) (call : Call) (k : Command) (number : ℕ) (new : Core) (made : List PoolEvent)
    (n m : Counts) → k ≡ command_of s call number → number ≡ next_number s 1 → ruling s k ≡ Allowed
    → made ≡ call_events s k.call → StandsFor new (step s (Do k)).0
    → m ≡ record { accepted = n.accepted + 1; refused = n.refused; offsets = n.offsets + offsets_in made }
    → StandsFor new (step s (next_command s call)).0 × (m ≡ plus n (counts s (next_command s call ∷ [])))
next_carries s call k number new made n m k_is number_is is made_is stands m_is =
    subst (λ (c : Command). StandsFor new (step s (Do c)).0 × (m ≡ plus n (counts s (Do c ∷ [])))) (k_is
    ∙ ap (command_of s call) number_is) (stands, allowed_adds s k made n m is made_is m_is)

-- the client's next command has the number behind those that were accepted
pub next_is : (core : Core) (n : Counts) (s : State) → AreWithin (2 ^ 32) n → IsNumbered core n → StandsFor core s
    → n.accepted + 1 ≡ next_number s 1
next_is core n s few numbered stands =
    let last : (client_of s 1).last ≡ n.accepted = ap (λ (i : Image). (unwrap_or (at i.clients 1) no_client).last)
    (sym stands.image) ∙ numbered in
    let small : (client_of s 1).last + 1 ≤ NUMBER_MOST = omega (arith, last, few.commands) in
    ap (λ (k : ℕ). k + 1) (sym last) ∙ sym (min-eq_left small)

-- and so it is behind one more
pub numbered_more : (s : State) (call : Call) (k : Command) (number : ℕ) (new : Core) (n m : Counts)
    → k ≡ command_of s call number → number ≡ n.accepted + 1 → ruling s k ≡ Allowed → StandsFor new (step s (Do k)).0
    → m.accepted ≡ n.accepted + 1 → IsNumbered new m
numbered_more s call k number new n m k_is number_is is stands m_is =
    let kept : Client = record { last = k.number; kept = done_of s k.call } in
    let one : k.client ≡ 1 = ap (λ (c : Command). c.client) k_is in
    let made = ap (λ (r : Ruling). (after_ruling s k r).0) is in
    let image_is : new.image ≡ image (after s k) = stands.image ∙ ap image made in
    let put_is : (client_of (after s k) k.client).last ≡ k.number =
    ap (λ (o : Option Client). (unwrap_or o no_client).last) (at-put_same (effect s k.call).clients k.client kept) in
    ap (λ (i : Image). (unwrap_or (at i.clients 1) no_client).last) image_is
    ∙ ap (λ (client : ℕ). (client_of (after s k) client).last) (sym one)
    ∙ put_is ∙ ap (λ (c : Command). c.number) k_is ∙ number_is ∙ sym m_is

-- an accepted command makes few offsets
pub few_more : (s : State) (r : Request) (n m : Counts) (k : ℕ) → m ≡ plus n (counts s (r ∷ []))
    → length (events s (accepted s (r ∷ []))) ≤ LOWEST_MOST * length (accepted s (r ∷ [])) → m.accepted ≡ n.accepted + 1
    → m.refused ≡ n.refused → AreWithin k n → AreWithin (k + 1) m
few_more s r n m k m_is few one same h =
    let made = events s (accepted s (r ∷ [])) in
    let fewer : offsets_in made ≤ length made = count_by-le-length is_offset made in
    let accepted_is : m.accepted ≡ n.accepted + length (accepted s (r ∷ [])) = ap (λ (c : Counts). c.accepted) m_is in
    let offsets_are : m.offsets ≡ n.offsets + offsets_in made = ap (λ (c : Counts). c.offsets) m_is in
    let only : length (accepted s (r ∷ [])) ≡ 1 = omega (arith, accepted_is, one) in
    let at_most : length made ≤ LOWEST_MOST * 1 = subst (λ (x : ℕ). length made ≤ LOWEST_MOST * x) only few in
    record {
      commands = omega (arith, h.commands, one, same);
      offsets = omega (
        arith,
        h.offsets,
        offsets_are,
        fewer,
        at_most,
        one,
      );
    }

-- ---- a command and those that follow

pub events-after : (s : State) (c : Command) (r : Ruling) (cs : List Command)
    → events s ((if is_allowed r then c ∷ [] else []) ++ cs) ≡ events s ((if is_allowed r then c ∷ [] else []) ++ [])
    ++ events (after_ruling s c r).0 cs
events-after s c Allowed cs = ap (λ (es : List PoolEvent). es ++ events (after s c) cs)
    (sym (append-nil (call_events s c.call)))
events-after s c (Refused refusal) cs = refl
events-after s c (Repeated kept) cs = refl

-- the counts of a command and of what follows it
pub counts-next : (s : State) (c : Command) (rs : List Request)
    → counts s (Do c ∷ rs) ≡ plus (counts s (Do c ∷ [])) (counts (step s (Do c)).0 rs)
counts-next s c rs =
    let r = ruling s c in
    let one : List Command = if is_allowed r then c ∷ [] else [] in
    let more = accepted (step s (Do c)).0 rs in
    same_counts _ _
    (length-append one more ∙ ap (λ (cs : List Command). length cs + length more) (sym (append-nil one)))
    (sum_by-append (λ reply. cond (is_refusal reply) 1 0) ((after_ruling s c r).1 ∷ []) (run (step s (Do c)).0 rs).1)
    (ap offsets_in (events-after s c r more) ∙ sum_by-append (λ event. cond (is_offset event) 1 0)
    (events s (one ++ [])) (events (step s (Do c)).0 more))

-- ---- where a load has come to

-- what is still to come completes the counts, and leads to the state, of all calls
pub record Underway (core : Core) (n : Counts) (calls all : List Call) : Type 0 where
  pub now : State
  pub stands : StandsFor core now
  pub counted : plus n (counts now (load now calls)) ≡ counts opening (load opening all)
  pub ends : (run now (load now calls)).0 ≡ (run opening (load opening all)).0

pub begun : (core : Core) (all : List Call) → StandsFor core opening → Underway core none_yet all all
begun core all stands = record {
  now = opening;
  stands = stands;
  counted = same_counts _ _ (zero-add _) (zero-add _) (zero-add _);
  ends = refl;
}

plus-plus : (a b c : Counts) → plus (plus a b) c ≡ plus a (plus b c)
plus-plus a b c = same_counts _ _ (add_assoc a.accepted b.accepted c.accepted) (add_assoc a.refused b.refused c.refused)
    (add_assoc a.offsets b.offsets c.offsets)

pub gone_on : (core new : Core) (n m : Counts) (call : Call) (calls all : List Call) (u : Underway core n (call
    ∷ calls) all) → StandsFor new (step u.now (next_command u.now call)).0
    → m ≡ plus n (counts u.now (next_command u.now call ∷ [])) → Underway new m calls all
unfolding load
gone_on core new n m call calls all u stands m_is =
    let s = u.now in
    let c = command_of s call (next_number s 1) in
    let later = (step s (Do c)).0 in
    let rest = load later calls in
    record {
      now = later;
      stands = stands;
      counted = ap (λ (k : Counts). plus k (counts later rest)) m_is
          ∙ plus-plus n (counts s (Do c ∷ [])) (counts later rest) ∙ ap (plus n) (sym (counts-next s c rest))
          ∙ u.counted;
      ends = u.ends;
    }

pub come_to_end : (core : Core) (n : Counts) (all : List Call) → Underway core n [] all
    → StandsFor core (run opening (load opening all)).0 × (n ≡ counts opening (load opening all))
unfolding load
come_to_end core n all u = (
  subst (StandsFor core) u.ends u.stands,
  same_counts n (plus n none_yet) (sym (add-zero _)) (sym (add-zero _))
      (sym (add-zero _)) ∙ u.counted,
)

-- ---- the calls that come

pub some_left : (calls : List Call) (call : Call) → Some call ≡ first_of calls → calls ≡ call ∷ drop 1 calls
some_left [] call first = absurd cc
some_left (c ∷ calls) call first = ap (λ (k : Call). k ∷ calls) cc

pub none_left : (calls : List Call) → first_of calls ≡ None → calls ≡ []
none_left [] none = refl
none_left (c ∷ calls) none = absurd cc

pub within_more : (n m : ℕ) (c : Counts) → n ≤ m → AreWithin n c → AreWithin m c
within_more n m c le h = record { commands = omega (arith, le, h.commands); offsets = h.offsets }

-- ---- the line

pub lined : (n : Counts) (words now : PoolWords) (supply debt : ℕ) (line text : List ℕ) → line ≡ text
    → text ≡ told n words supply → words ≡ now → supply ≡ debt → line ≡ told n now debt
lined n words now supply debt line text line_is text_is words_are supply_is = line_is ∙ text_is
    ∙ ap₂ (told n) words_are supply_is
