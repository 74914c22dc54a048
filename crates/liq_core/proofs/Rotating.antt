-- What a rotation makes of a protocol and of its image, and which limits of the journal refuse it.
use Rattle.std.proofs.Common.{◌≡◌, ℕ, zero, suc, ◌+◌, ◌≤◌, ◌<◌, true, false, cond, nat_le, nat_lt, List, [], ◌∷◌, length, get_or, Some, None, refl, ap, sym, ◌∙◌, subst, arith}
use Rattle.std.proofs.lemmas.Bool.Decides.{nat_tests}
use Rattle.std.proofs.lemmas.Map.Entries.{length-keys_of}
use Rattle.std.proofs.lemmas.Map.Keys.{below_from_sorted}
use Rattle.std.specs.List.{AllByRecursion}
use Rattle.std.specs.List.Sorted.{IsStrictlySortedBy}
use Rattle.std.specs.Map.{keys_of}
use Rattle.std.specs.Ordering.{nat_cmp}
use Rattle.liq_types.specs.declared.amounts.TheConstants.{ACCOUNTS, LIM, CHECKPOINT_BYTES_MOST, GENERATIONS_MOST, RECORDS_MOST}
use Rattle.liq_types.specs.declared.figures.Client.{Client}
use Rattle.liq_types.specs.declared.image.Image.{Image}
use Rattle.liq_types.specs.declared.replies.Done.{Done}
use Rattle.liq_types.specs.declared.replies.Refusal.TheVariants.{AmountLimit, JournalFull}
use Rattle.liq_types.specs.declared.requests.Call.TheVariants.{Rotate}
use Rattle.liq_types.specs.declared.requests.Command.{Command}
use Rattle.liq_types.specs.Length.{checkpoint_length}
use Rattle.liq_types.specs.Rules.{Rule, first_refusal, where_above}
use Rattle.liq_types.specs.Soundness.{IsSoundImage}
use Rattle.liq_types.specs.State.{State, is_used_client}
use Rattle.liq_types.specs.Tables.{Table, put}
use Rattle.liq_tables.specs.WithRoom.{WithRoom, written}
use Rattle.liq_core_limits.specs.declared.generation.Generation.{Generation}
use Rattle.liq_core_limits.specs.Generations.{next_generation}
use Rattle.liq_rule_step.specs.Image.{image}
use Rattle.liq_rule_step.specs.Rules.{effect, done_of}
use Rattle.liq_rule_step.specs.Step.{Allowed, after, noted, room_rules, ruling}
use Rattle.liq_types.specs.Verbs.{is_rotate}
use Rattle.liq_rule_step.proofs.Allowed.{allowed_number}
use Rattle.liq_rule_sound.proofs.SoundStart.{started_with}
use Rattle.liq_rule_sound.proofs.SoundStep.{after_sound}
use Rattle.liq_core.specs.declared.engine.Protocol.TheInside.{Inside}
use Rattle.liq_core.specs.Core.{Core, StandsFor, current, state_of}
use Rattle.liq_core.specs.Plan.{IsPlannedOn, Plan}
use Rattle.liq_core.specs.Sound.{IsSound, core_of}
use Rattle.liq_core.proofs.Noting.{kept_rows, made_sound, made_stands}
use Rattle.liq_core.proofs.SoundCores.{core_facts, image_back, sound_stands}

-- ---- the image

-- the image with which the next generation begins, under the greater limit; the client's row has its reply
abbrev pub turned : Image → ℕ → Client → Image
turned i client row = record i { generation = i.generation + 1; limit = LIM; clients = put i.clients client row }

abbrev pub reply_row : State → Command → Client
reply_row s c = record { last = c.number; kept = done_of s c.call }

module _ (s : State) (c : Command) (is : c.call ≡ Rotate) where
  pub turned_image : image (after s c) ≡ turned (image s) c.client (reply_row s c)
  turned_image = ap (λ (t : State). image (noted t c (done_of s c.call))) (ap (effect s) is)

  pub turned_records : (after s c).records ≡ 0
  turned_records = ap (λ b. cond b 0 ((effect s c.call).records + 1)) (ap is_rotate is)

-- of the state that begins with a core's image
pub turned_core : (core : Core) → IsSoundImage core.image core.records → (c : Command) → c.call ≡ Rotate
    → image (after (state_of core) c) ≡ turned core.image c.client (reply_row (state_of core) c)
turned_core core sound c is =
    turned_image (state_of core) c is ∙ ap (λ (i : Image). turned i c.client (reply_row (state_of core) c))
    (image_back core sound)

-- and the length of its checkpoint: its clients alone have another row
pub checkpoint_is : (core : Core) → IsSoundImage core.image core.records → (c : Command) → c.call ≡ Rotate
    → checkpoint_length (record core.image {
      clients = put core.image.clients c.client (reply_row (state_of core) c);
    }) ≡ checkpoint_length (image (after (state_of core) c))
checkpoint_is core sound c is = sym (ap checkpoint_length (turned_core core sound c is))

-- ---- what is planned

-- the image that a planned rotation leaves, made of the core's
module _ (core : Core) (sound : IsSoundImage core.image core.records) (plan : Plan) (planned : IsPlannedOn core plan)
    (is : plan.command.call ≡ Rotate) where
  pub planned_image : (s : State) → StandsFor core s
      → turned core.image plan.command.client (record { last = plan.command.number; kept = plan.done })
      ≡ image (after s plan.command)
  planned_image s h =
      let c = plan.command in
      ap (λ (i : Image). turned i c.client (record { last = c.number; kept = plan.done })) h.image
      ∙ ap (λ (d : Done). turned (image s) c.client (record { last = c.number; kept = d })) (planned s h).done
      ∙ sym (turned_image s c is)

  pub planned_number : 0 < plan.command.number
  planned_number =
      let number = allowed_number (state_of core) plan.command (planned (state_of core)
      (sound_stands core sound)).allowed in
      omega (arith, number)

  pub planned_sound : IsSoundImage (turned core.image plan.command.client (record {
    last = plan.command.number;
    kept = plan.done;
  })) 0
  planned_sound =
      let s = state_of core in
      let stands = sound_stands core sound in
      let left = after_sound s (started_with core.image core.records sound) plan.command (planned s stands).allowed in
      subst (λ (i : Image). IsSoundImage i 0) (sym (planned_image s stands))
      (subst (λ n. IsSoundImage (image (after s plan.command)) n) (turned_records s plan.command is) left.sound)

pub generation_within : (p : Inside) → IsSound p → p.generation ≤ GENERATIONS_MOST
generation_within p sound = (core_facts (core_of p) sound.image).ranges.last_generation

-- ---- how many clients there are

-- ascending numbers below a bound are no more than it
module _ (keys : List ℕ) (bound : ℕ) (ascend : IsStrictlySortedBy nat_cmp keys) (below : AllByRecursion (λ key. key
    < bound) keys) where
  at_least : (j : ℕ) → j < length keys → j ≤ get_or keys j 0
  at_least zero h = omega arith
  at_least (suc j) h =
      let before = at_least j (omega (arith, h)) in
      let more = below_from_sorted keys j (suc j) 0 ascend (omega arith) h in
      omega (arith, before, more)

  keys_few : length keys ≤ bound
  keys_few = by (length keys) refl where
    one_below : (all : List ℕ) (j : ℕ) → AllByRecursion (λ key. key < bound) all → j < length all
        → get_or all j 0 < bound
    one_below [] j h k = absurd (omega (arith, k))
    one_below (key ∷ all) zero h k = h.0
    one_below (key ∷ all) (suc j) h k = one_below all j h.1 (omega (arith, k))

    by : (count : ℕ) → length keys ≡ count → count ≤ bound
    by zero is = omega arith
    by (suc last) is =
        let place = at_least last (omega (arith, is)) in
        let less = one_below keys last below (omega (arith, is)) in
        omega (arith, place, less)

pub clients_few : (p : Inside) → IsSound p → length p.clients.rows ≤ ACCOUNTS
clients_few p sound =
    let rows = (core_facts (core_of p) sound.image).stands.clients in
    let few = keys_few (keys_of p.clients.rows) ACCOUNTS rows.ascend rows.keys in
    let same = length-keys_of p.clients.rows in
    omega (arith, few, same)

-- ---- the journal's limits

abbrev limits : ℕ → ℕ → List Rule
limits generation bytes =
    where_above generation GENERATIONS_MOST AmountLimit ∷ where_above bytes CHECKPOINT_BYTES_MOST AmountLimit ∷ []

rotation_rules : (s : State) (c : Command) → c.call ≡ Rotate → first_refusal (room_rules s c)
    ≡ first_refusal (limits (s.generation + 1) (checkpoint_length (image (after s c))))
rotation_rules s c is =
    ap (λ b. first_refusal (cond b (limits (s.generation + 1) (checkpoint_length (image (after s c))))
    ((nat_le RECORDS_MOST s.records, JournalFull RECORDS_MOST) ∷ []))) (ap is_rotate is)

pub other_rules : (s : State) (c : Command) → is_rotate c.call ≡ false → first_refusal (room_rules s c)
    ≡ first_refusal ((nat_le RECORDS_MOST s.records, JournalFull RECORDS_MOST) ∷ [])
other_rules s c stays =
    ap (λ b. first_refusal (cond b (limits (s.generation + 1) (checkpoint_length (image (after s c))))
    ((nat_le RECORDS_MOST s.records, JournalFull RECORDS_MOST) ∷ []))) stays

module _ (s : State) (c : Command) (is : c.call ≡ Rotate) (generation bytes : ℕ) (next : generation
    ≡ s.generation + 1) where
  pub past_generations : GENERATIONS_MOST < generation → Some (AmountLimit generation GENERATIONS_MOST)
      ≡ first_refusal (room_rules s c)
  past_generations late =
      let length_is = checkpoint_length (image (after s c)) in
      let over : nat_lt GENERATIONS_MOST generation ≡ true = grind (arith, nat_tests, late) in
      sym (ap (λ b. cond b (Some (AmountLimit generation GENERATIONS_MOST))
      (first_refusal (where_above length_is CHECKPOINT_BYTES_MOST AmountLimit ∷ []))) over)
      ∙ ap (λ n. first_refusal (limits n length_is)) next
      ∙ sym (rotation_rules s c is)

  module _ (soon : generation ≤ GENERATIONS_MOST) (long : bytes ≡ checkpoint_length (image (after s c))) where
    second : first_refusal (where_above bytes CHECKPOINT_BYTES_MOST AmountLimit ∷ []) ≡ first_refusal (room_rules s c)
    second =
        let within : nat_lt GENERATIONS_MOST generation ≡ false = grind (arith, nat_tests, soon) in
        sym (ap (λ b. cond b (Some (AmountLimit generation GENERATIONS_MOST))
        (first_refusal (where_above bytes CHECKPOINT_BYTES_MOST AmountLimit ∷ []))) within)
        ∙ ap (λ n. first_refusal (limits generation n)) long
        ∙ ap (λ n. first_refusal (limits n (checkpoint_length (image (after s c))))) next
        ∙ sym (rotation_rules s c is)

    pub past_bytes : CHECKPOINT_BYTES_MOST < bytes → Some (AmountLimit bytes CHECKPOINT_BYTES_MOST)
        ≡ first_refusal (room_rules s c)
    past_bytes large =
        let over : nat_lt CHECKPOINT_BYTES_MOST bytes ≡ true = grind (arith, nat_tests, large) in
        sym (ap (λ b. cond b (Some (AmountLimit bytes CHECKPOINT_BYTES_MOST)) None) over) ∙ second

    pub within_both : bytes ≤ CHECKPOINT_BYTES_MOST → None ≡ first_refusal (room_rules s c)
    within_both small =
        let under : nat_lt CHECKPOINT_BYTES_MOST bytes ≡ false = grind (arith, nat_tests, small) in
        sym (ap (λ b. cond b (Some (AmountLimit bytes CHECKPOINT_BYTES_MOST)) None) under) ∙ second

-- ---- the rotation is made

abbrev turned_inside : Inside → Generation → WithRoom Client → Inside
turned_inside p next clients = record p {
  generation = next.number;
  limit = next.limit;
  records = next.records;
  clients = clients;
}

module _ (p : Inside) (sound : IsSound p) (c : Command) (done : Done) (is : c.call
    ≡ Rotate) (allowed : ruling (state_of (core_of p)) c ≡ Allowed)
    (made : done ≡ done_of (state_of (core_of p)) c.call) (next : Generation) (follows : next
    ≡ next_generation (current (core_of p))) (clients : WithRoom Client)
    (wrote : clients.rows ≡ written is_used_client p.clients.rows c.client (record {
      last = c.number;
      kept = done;
    })) where
  next_image : (core_of (turned_inside p next clients)).image ≡ image (after (state_of (core_of p)) c)
  next_image =
      let row : Client = record { last = c.number; kept = done } in
      let number = allowed_number (state_of (core_of p)) c allowed in
      let rows = wrote ∙ kept_rows p.clients.rows c.client row (omega (arith, number)) in
      ap (λ (g : Generation). record (core_of p).image {
        generation = g.number;
        limit = g.limit;
        clients = clients.rows;
      }) follows
      ∙ ap (λ (t : Table Client). record (core_of p).image {
        generation = p.generation + 1;
        limit = LIM;
        clients = t;
      }) rows
      ∙ ap (λ (d : Done). turned (core_of p).image c.client (record { last = c.number; kept = d })) made
      ∙ sym (turned_core (core_of p) sound.image c is)

  next_records : (after (state_of (core_of p)) c).records ≡ next.records
  next_records = turned_records (state_of (core_of p)) c is ∙ sym (ap (λ (g : Generation). g.records) follows)

  turned_stands : (old : Core) → core_of p ≡ old
      → StandsFor (core_of (turned_inside p next clients)) (after (state_of old) c)
  turned_stands = made_stands p (turned_inside p next clients) sound c allowed next_image next_records

  turned_sound : IsSound (turned_inside p next clients)
  turned_sound = made_sound p (turned_inside p next clients) sound c allowed next_image next_records sound.order

-- the same of the core that a protocol is seen as
module _ (p : Inside) (old : Core) (view : core_of p ≡ old) (sound : IsSound p) (c : Command) (done : Done) (is : c.call
    ≡ Rotate) (allowed : ruling (state_of old) c ≡ Allowed) (made : done ≡ done_of (state_of old) c.call)
    (next : Generation) (follows : next ≡ next_generation (current old)) (clients : WithRoom Client)
    (wrote : clients.rows ≡ written is_used_client p.clients.rows c.client (record {
      last = c.number;
      kept = done;
    })) where
  is_allowed : ruling (state_of (core_of p)) c ≡ Allowed
  is_allowed = subst (λ (core : Core). ruling (state_of core) c ≡ Allowed) (sym view) allowed

  is_made : done ≡ done_of (state_of (core_of p)) c.call
  is_made = subst (λ (core : Core). done ≡ done_of (state_of core) c.call) (sym view) made

  is_next : next ≡ next_generation (current (core_of p))
  is_next = follows ∙ sym (ap (λ (core : Core). next_generation (current core)) view)

  pub rotation_stands : StandsFor (core_of (turned_inside p next clients)) (after (state_of old) c)
  rotation_stands = turned_stands p sound c done is is_allowed is_made next is_next clients wrote old view

  pub rotation_sound : IsSound (turned_inside p next clients)
  rotation_sound = turned_sound p sound c done is is_allowed is_made next is_next clients wrote
