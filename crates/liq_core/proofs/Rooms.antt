-- Room: of one protocol within that of another, and of what a planned command writes.
use Rattle.std.proofs.Common.{◌≡◌, ℕ, zero, suc, ◌<◌, ◌≤◌, Bool, true, false, cond, List, [], ◌∷◌, length, refl, sym, subst, arith}
use Rattle.std.specs.Prelude.{IsTrue, OnOk, Result, Ok, Err, filter, map, slice_index_or}
use Rattle.std.specs.List.{AllByRecursion, Contains}
use Rattle.liq_types.specs.declared.figures.Wallet.{Wallet}
use Rattle.liq_tables.specs.WithRoom.{KeepsRoom, WithRoom}
use Rattle.liq_liquidation.specs.declared.one.Victim.{Victim}
use Rattle.liq_redemption.specs.declared.cut.Cut.{Cut}
use Rattle.liq_redemption.specs.Given.{HasRoomToClose}
use Rattle.liq_core.specs.declared.engine.Protocol.TheInside.{Inside}
use Rattle.liq_core.specs.Core.{AreAmong, Core, IsWithin, Room}
use Rattle.liq_core.specs.Sound.{core_of}
use Rattle.liq_core.specs.declared.effects.Effect.{Effect}
use Rattle.liq_core.specs.declared.effects.Effect.TheVariants as effects
use Rattle.liq_core.specs.declared.effects.Move.{Move}
use Rattle.liq_core.specs.declared.effects.Move.TheVariants as moves
use Rattle.liq_core.specs.Effects.{closed, room_of, room_to_move}

pub on_ok : {X Y : Type 0} (r : Result X Y) {P Q : Type 0} → (P → Q) → OnOk r P → OnOk r Q
on_ok (Ok x) f h = f h
on_ok (Err y) f h = tt

-- ---- keys

pub all_among : (xs ys : List ℕ) → ((key : ℕ) → Contains xs key → Contains ys key) → AreAmong xs ys
all_among [] ys h = tt
all_among (x ∷ xs) ys h = (
  h x (0, omega arith, refl),
  all_among xs ys (λ key at. let within = at.1
      in h key (suc at.0, omega (arith, within), at.2)),
)

pub among_key : (xs ys : List ℕ) → AreAmong xs ys → (key : ℕ) → Contains xs key → Contains ys key
among_key xs ys all key at = by xs at.0 all at.1 at.2 where
  by : (zs : List ℕ) (k : ℕ) → AreAmong zs ys → k < length zs → slice_index_or zs k key ≡ key → Contains ys key
  by [] k h within is = absurd (none within) where
    none : k < 0 → ⊥
    none j = omega (arith, j)
  by (z ∷ zs) zero h within is = subst (λ n. Contains ys n) is h.0
  by (z ∷ zs) (suc k) h within is = by zs k h.1 (omega (arith, within)) is

among_then : (xs ys zs : List ℕ) → AreAmong xs ys → AreAmong ys zs → AreAmong xs zs
among_then [] ys zs h g = tt
among_then (x ∷ xs) ys zs h g = (among_key ys zs g x h.0, among_then xs ys zs h.1 g)

-- the accounts of all victims are among these
pub owners_among : (keys : List ℕ) (vs : List Victim) → AllByRecursion (λ (v : Victim). Contains keys v.account) vs
    → AreAmong (map (λ (v : Victim). v.account) vs) keys
owners_among keys [] h = tt
owners_among keys (v ∷ vs) h = (h.0, owners_among keys vs h.1)

pub among_owners : (keys : List ℕ) (vs : List Victim) → AreAmong (map (λ (v : Victim). v.account) vs) keys
    → AllByRecursion (λ (v : Victim). Contains keys v.account) vs
among_owners keys [] h = tt
among_owners keys (v ∷ vs) h = (h.0, among_owners keys vs h.1)

-- and those of troves that are closed
abbrev closed_with : Cut → List Cut → Bool → List ℕ
closed_with cut cuts b = map (λ (c : Cut). c.account) (cond b (cut ∷ filter (λ (c : Cut). c.full) cuts)
    (filter (λ (c : Cut). c.full) cuts))

pub closed_among : (surplus : WithRoom ℕ) (cuts : List Cut) → AllByRecursion (HasRoomToClose surplus) cuts
    → AreAmong (closed cuts) surplus.room
closed_among surplus [] h = tt
closed_among surplus (cut ∷ cuts) h = by cut.full h.0 (closed_among surplus cuts h.1) where
  by : (b : Bool) → (IsTrue b → Contains surplus.room cut.account) → AreAmong (closed cuts) surplus.room
      → AreAmong (closed_with cut cuts b) surplus.room
  by true here later = (here refl, later)
  by false here later = later

pub among_closed : (surplus : WithRoom ℕ) (cuts : List Cut) → AreAmong (closed cuts) surplus.room
    → AllByRecursion (HasRoomToClose surplus) cuts
among_closed surplus [] h = tt
among_closed surplus (cut ∷ cuts) h =
    let both = by cut.full h in
    (both.0, among_closed surplus cuts both.1)
  where
    by : (b : Bool) → AreAmong (closed_with cut cuts b) surplus.room → (IsTrue b → Contains surplus.room cut.account)
        × AreAmong (closed cuts) surplus.room
    by true h = (λ _. h.0, h.1)
    by false h = (λ e. cc, h)

-- ---- rooms

pub within_itself : (room : Room) → IsWithin room room
within_itself room =
    record {
      wallets = all_among room.wallets room.wallets (λ _ h. h);
      troves = all_among room.troves room.troves (λ _ h. h);
      surplus = all_among room.surplus room.surplus (λ _ h. h);
      deposits = all_among room.deposits room.deposits (λ _ h. h);
      clients = all_among room.clients room.clients (λ _ h. h);
      list = omega arith;
      finished = omega arith;
    }

pub within_then : (a b c : Room) → IsWithin a b → IsWithin b c → IsWithin a c
within_then a b c h g =
    let list = g.list in
    let finished = g.finished in
    record {
      wallets = among_then a.wallets b.wallets c.wallets h.wallets g.wallets;
      troves = among_then a.troves b.troves c.troves h.troves g.troves;
      surplus = among_then a.surplus b.surplus c.surplus h.surplus g.surplus;
      deposits = among_then a.deposits b.deposits c.deposits h.deposits g.deposits;
      clients = among_then a.clients b.clients c.clients h.clients g.clients;
      list = omega (arith, h.list, list);
      finished = omega (arith, h.finished, finished);
    }

-- of a protocol whose tables, list and Stability Pool keep their room
pub room_kept : (old : Core) (p q : Inside) → core_of p ≡ old → KeepsRoom p.wallets q.wallets
    → KeepsRoom p.troves.table q.troves.table → KeepsRoom p.surplus q.surplus
    → KeepsRoom p.pool.deposits q.pool.deposits → KeepsRoom p.clients q.clients
    → p.order.room ≤ q.order.room → p.pool.spare ≤ q.pool.spare → IsWithin old.room (core_of q).room
room_kept old p q view wallets troves surplus deposits clients list finished =
    subst (λ (core : Core). IsWithin core.room (core_of q).room) view
    (record {
      wallets = all_among p.wallets.room q.wallets.room wallets;
      troves = all_among p.troves.table.room q.troves.table.room troves;
      surplus = all_among p.surplus.room q.surplus.room surplus;
      deposits = all_among p.pool.deposits.room q.pool.deposits.room deposits;
      clients = all_among p.clients.room q.clients.room clients;
      list = list;
      finished = finished;
    })

-- more room in the wallets alone
pub wallets_kept : (old : Core) (p : Inside) (wallets : WithRoom Wallet) → core_of p ≡ old
    → KeepsRoom p.wallets wallets → IsWithin old.room (core_of (record p { wallets = wallets })).room
wallets_kept old p wallets view kept = room_kept old p (record p { wallets = wallets }) view kept (λ _ h. h) (λ _ h. h)
    (λ _ h. h) (λ _ h. h) (omega arith) (omega arith)

-- with a client's, and without it
pub with_client : (needed room : Room) (client : ℕ) → IsWithin needed room → Contains room.clients client
    → IsWithin (record needed { clients = client ∷ [] }) room
with_client needed room client h there =
    record {
      wallets = h.wallets;
      troves = h.troves;
      surplus = h.surplus;
      deposits = h.deposits;
      clients = (there, tt);
      list = h.list;
      finished = h.finished;
    }

move_clients : (moved : Move) → (room_to_move moved).clients ≡ []
move_clients (moves.Price price) = refl
move_clients _ = refl

effect_clients : (planned : Effect) → (room_of planned).clients ≡ []
effect_clients (effects.Move moved) = move_clients moved
effect_clients (effects.Liquidate liquidator struck) = refl
effect_clients effects.Rotate = refl

pub without_client : (planned : Effect) (room : Room) (client : ℕ)
    → IsWithin (record (room_of planned) { clients = client ∷ [] }) room → IsWithin (room_of planned) room
without_client planned room client h =
    record {
      wallets = h.wallets;
      troves = h.troves;
      surplus = h.surplus;
      deposits = h.deposits;
      clients = subst (λ keys. AreAmong keys room.clients) (sym (effect_clients planned)) tt;
      list = h.list;
      finished = h.finished;
    }
