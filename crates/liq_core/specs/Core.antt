-- What the code of a protocol holds, and the states for which it stands.
use Rattle.std.specs.Prelude.{◌≡◌, ℕ, ◌≤◌, List}
use Rattle.std.specs.List.{AllByRecursion, Contains}
use Rattle.liq_types.specs.declared.requests.Call.{Call}
use Rattle.liq_types.specs.declared.image.Image.{Image}
use Rattle.liq_types.specs.Ranked.{Ranked}
use Rattle.liq_types.specs.State.{State, started}
use Rattle.liq_types.specs.WellFormed.{IsWellFormed}
use Rattle.liq_core_limits.specs.declared.generation.Generation.{Generation}
use Rattle.liq_rule_step.specs.Image.{image}
use Rattle.liq_rule_step.specs.Rules.{effect}

-- Room: the keys of each table at which a row can be written without memory; how many more troves
-- the list takes without any, and how many more finished sums the Stability Pool.
pub record Room : Type 0 where
  pub wallets : List ℕ
  pub troves : List ℕ
  pub surplus : List ℕ
  pub deposits : List ℕ
  pub clients : List ℕ
  pub list : ℕ
  pub finished : ℕ

-- every key of the first is one of the second
abbrev pub AreAmong : List ℕ → List ℕ → Type 0
AreAmong some all = AllByRecursion (λ key. Contains all key) some

-- what there is room for in the first there is room for in the second
pub record IsWithin (some all : Room) : Type 0 where
  pub wallets : AreAmong some.wallets all.wallets
  pub troves : AreAmong some.troves all.troves
  pub surplus : AreAmong some.surplus all.surplus
  pub deposits : AreAmong some.deposits all.deposits
  pub clients : AreAmong some.clients all.clients
  pub list : some.list ≤ all.list
  pub finished : some.finished ≤ all.finished

-- The image has no row that only keeps room. The list has the troves in their order.
pub record Core : Type 0 where
  pub image : Image
  pub records : ℕ
  pub list : List Ranked
  pub room : Room

-- the state that begins with the core's image
abbrev pub state_of : Core → State
state_of core = record (started core.image) { records = core.records }

-- the generation of its journal, as far as it has come
abbrev pub current : Core → Generation
current core = record {
  number = core.image.generation;
  limit = core.image.limit;
  records = core.records;
}

-- the core has the state's image and its records, and the state is one that the rules can reach
pub record StandsFor (core : Core) (s : State) : Type 0 where
  pub image : core.image ≡ image s
  pub records : core.records ≡ s.records
  pub formed : IsWellFormed s

-- two cores that differ at most in what there is room for
pub record SameContent (old new : Core) : Type 0 where
  pub image : new.image ≡ old.image
  pub records : new.records ≡ old.records
  pub list : new.list ≡ old.list

-- the new core is the old one after a call that is allowed, not yet counted
pub record Changes (old : Core) (call : Call) (new : Core) : Type 0 where
  pub image : new.image ≡ image (effect (state_of old) call)
  pub records : new.records ≡ old.records
  pub clients : new.room.clients ≡ old.room.clients
