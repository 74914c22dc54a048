-- A header and a record, as their bytes come.
use Rattle.std.proofs.Common.{◌≡◌, ◌⊎◌, inl, inr, ℕ, ◌+◌, ◌<◌, ◌≤◌, List, [], ◌∷◌, ◌++◌, length, take, get_or, Bool, true, false, if◌then◌else◌, sym, ◌∙◌, ap, arith, length-append, length-take}
use Rattle.std.specs.Prelude.{◌&&◌, ◌==◌, set}
use Rattle.std.specs.Str.{bytes_eq}
use Rattle.std.proofs.lemmas.List.{drop_all, set_split, take-append-le}
use Rattle.liq_disk_header.specs.Layout.{header_size, layout_named, layout_on, name_on, version_1, version_2}
use Rattle.liq_journal.proofs.Reading.{byte_alike, piece_alike}
use Rattle.liq_types.specs.declared.amounts.TheConstants.{LIM, LIM_OF_VERSION_1}
use Rattle.liq_follower.specs.Fed.{IsBegun, begun_limit}

pub least : (bytes : List ℕ) → 57 ≤ header_size (layout_on bytes)
least bytes = omega arith

pub greatest : (bytes : List ℕ) → header_size (layout_on bytes) ≤ 65
greatest bytes = by (bytes_eq (name_on bytes) version_2.name) where
  by : (b : Bool) → header_size (if b then version_2 else version_1) ≤ 65
  by true = omega arith
  by false = omega arith

-- a record whose last byte is written behind those that are held
pub with_last : (bytes held : List ℕ) (count last : ℕ) → length bytes ≡ 128 → held ≡ take count bytes
    → length held ≡ 127 → set bytes 127 last ≡ held ++ last ∷ []
with_last bytes held count last size is full =
    let n = ap length is ∙ length-take count bytes in
    let all : count ≡ 127 = omega arith in
    set_split bytes 127 last (omega arith)
    ∙ (λ i. take (sym all i) bytes ++ last ∷ drop_all 128 bytes (omega arith) i)
    ∙ ap (λ (l : List ℕ). l ++ last ∷ []) (sym is)

-- ---- one byte more

module _ (held : List ℕ) (byte : ℕ) (begun : IsBegun held) where
  abbrev more : List ℕ
  more = held ++ byte ∷ []

  long : length more ≡ length held + 1
  long = length-append held (byte ∷ [])

  pub gate_is : get_or more 0 0 ≡ 1
  gate_is = by held begun.gate where
    by : (l : List ℕ) → get_or l 0 0 ≡ 1 → get_or (l ++ byte ∷ []) 0 0 ≡ 1
    by [] gate = absurd (cc (gate))
    by (first ∷ l) gate = gate

  order : (a b : ℕ) → (a < b) ⊎ (b ≤ a)
  order a b = grind arith

  within : length more ≤ header_size (layout_on more)
  within = by (order (length held) 9) where
    by : (length held < 9) ⊎ (9 ≤ length held) → length more ≤ header_size (layout_on more)
    by (inl few) = let l = least more in let n = long in omega (arith, few)
    by (inr there) =
        let alike : take 9 more ≡ take 9 held = take-append-le 9 held (byte ∷ []) there in
        let same : layout_on more ≡ layout_on held = ap layout_named (piece_alike 9 held more alike 1 8 (omega arith))
        in
        let size = ap header_size same in
        let less = begun.short in
        let n = long in
        omega arith

  pub still_begun : (length more ≡ header_size (layout_on more) → ⊥) → IsBegun more
  still_begun isnt = record { gate = gate_is; short = below (length more) (header_size (layout_on more)) within isnt }
    where
      below : (a b : ℕ) → a ≤ b → (a ≡ b → ⊥) → a < b
      below a b most isnt = grind arith

-- behind its name one byte more leaves the limit
pub same_limit : (held : List ℕ) (byte : ℕ) → 9 ≤ length held → begun_limit (held ++ byte ∷ []) ≡ begun_limit held
same_limit held byte long =
    let alike : take 9 (held ++ byte ∷ []) ≡ take 9 held = take-append-le 9 held (byte ∷ []) long in
    let gate : get_or (held ++ byte ∷ []) 0 0 ≡ get_or held 0 0 = byte_alike 9 held (held ++ byte ∷ []) alike 0
    (omega arith) in
    let name : name_on (held ++ byte ∷ []) ≡ name_on held = piece_alike 9 held (held ++ byte ∷ []) alike 1 8
    (omega arith) in
    λ i. if (gate i == 1) && bytes_eq (name i) version_1.name then LIM_OF_VERSION_1 else LIM

-- a header has fewer bytes than a record
pub has_room : (held : List ℕ) → IsBegun held → length held < 127
has_room held begun = let less = begun.short in let most = greatest held in omega arith
