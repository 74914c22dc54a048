-- How many bytes a checkpoint has.
use Rattle.std.proofs.Common.{◌≡◌, ℕ, ◌+◌, ◌*◌, List, [], ◌∷◌, ◌++◌, length, refl, arith}
use Rattle.std.specs.List.{flat_map, AllByRecursion}
use Rattle.std.specs.Map.{values_of}
use Rattle.std.proofs.lemmas.List.{length-append}
use Rattle.byteorder.specs.Numbers.{length-bytes_high_first}
use Rattle.liq_types.specs.declared.figures.Client.{Client}
use Rattle.liq_types.specs.declared.image.Image.{Image}
use Rattle.liq_types.specs.Length.{checkpoint_length, client_length}
use Rattle.liq_types.specs.Soundness.{HasTables, IsClientRow}
use Rattle.liq_types.specs.Tables.{Table}
use Rattle.liq_checkpoint.specs.Spelling.{Field, bytes_of, spelled, eights, table, wallet, trove, surplus, finished, deposit, client, words, spelling, name}

-- the bytes of fields
abbrev widths : List Field → ℕ
widths [] = 0
widths (f ∷ fs) = f.0 + widths fs

bytes_are : (f : Field) → length (bytes_of f) ≡ f.0
unfolding bytes_of
bytes_are f = length-bytes_high_first f.0 f.1

spelled_are : (fields : List Field) → length (spelled fields) ≡ widths fields
spelled_are [] = refl
spelled_are (f ∷ fs) = let rest = spelled_are fs in omega (arith, length-append (bytes_of f) (spelled fs), bytes_are f)

widths-append : (fields more : List Field) → widths (fields ++ more) ≡ widths fields + widths more
widths-append [] more = omega arith
widths-append (f ∷ fs) more = let rest = widths-append fs more in omega (arith, rest)

eights_are : (numbers : List ℕ) → widths (eights numbers) ≡ 8 * length numbers
eights_are [] = refl
eights_are (n ∷ ns) = let rest = eights_are ns in omega (arith, rest)

-- rows of one width
rows_are : {R : Type 0} (row : R → List Field) (k : ℕ) (rows : List R) → AllByRecursion (λ r. widths (row r) ≡ k) rows
    → widths (flat_map row rows) ≡ k * length rows
rows_are row k [] all = omega arith
rows_are row k (r ∷ rs) all =
    let rest = rows_are row k rs all.1 in
    grind (arith, widths-append (row r) (flat_map row rs), all.0, rest)

each : {R : Type 0} (row : R → List Field) (k : ℕ) → ((r : R) → widths (row r) ≡ k) → (rows : List R)
    → AllByRecursion (λ r. widths (row r) ≡ k) rows
each row k is [] = tt
each row k is (r ∷ rs) = (is r, each row k is rs)

each_client : (rows : Table Client) → AllByRecursion IsClientRow (values_of rows)
    → AllByRecursion (λ (r : ℕ × Client). widths (client r) ≡ client_length) rows
each_client [] h = tt
each_client (r ∷ rs) h = (omega (arith, eights_are r.1.kept.values, h.0.values), each_client rs h.1)

pub spelling_is_long : (i : Image) → HasTables i → length (spelling i) ≡ checkpoint_length i
unfolding spelling
spelling_is_long i has =
    let w = rows_are wallet 20 i.wallets (each wallet 20 (λ r. refl) i.wallets) in
    let t = rows_are trove 60 i.troves (each trove 60 (λ r. refl) i.troves) in
    let s = rows_are surplus 12 i.surplus_rows (each surplus 12 (λ r. refl) i.surplus_rows) in
    let f = rows_are finished 32 i.finished (each finished 32 (λ r. refl) i.finished) in
    let d = rows_are deposit 60 i.deposits (each deposit 60 (λ r. refl) i.deposits) in
    let c = rows_are client client_length i.clients (each_client i.clients has.client_rows) in
    apart (table wallet i.wallets) (table trove i.troves) (table surplus i.surplus_rows) (table finished i.finished)
    (table deposit i.deposits) (table client i.clients) (omega (arith, w, t, s, f, d, c)) where
      apart : (a b g h j k : List Field) → widths (words i) + widths a + widths b + widths g + widths h + widths j
          + widths k + 8 ≡ checkpoint_length i
          → length (name i.limit ++ spelled (words i ++ (a ++ b ++ g ++ h ++ j ++ k))) ≡ checkpoint_length i
      apart a b g h j k is =
          let whole = spelled_are (words i ++ (a ++ b ++ g ++ h ++ j ++ k)) in
          omega (
            arith,
            whole,
            is,
            length-append (name i.limit) (spelled (words i ++ (a ++ b ++ g ++ h ++ j ++ k))),
            widths-append (words i) (a ++ b ++ g ++ h ++ j ++ k),
            widths-append (a ++ b ++ g ++ h ++ j) k,
            widths-append (a ++ b ++ g ++ h) j,
            widths-append (a ++ b ++ g) h,
            widths-append (a ++ b) g,
            widths-append a b,
          )
