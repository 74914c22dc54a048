-- The two laws of an image, row by row and whole: what is read is spelled so, and what is spelled so is read.
use Rattle.std.proofs.Common.{◌≡◌, ℕ, zero, suc, ◌^◌, ◌<◌, ◌≤◌, Bool, true, false, cond, ltb, List, [], ◌∷◌, ◌++◌, length, take, drop, get_or, Option, Some, None, Result, Ok, Err, inl, inr, refl, sym, ap, subst, ◌∙◌, append_assoc, arith}
use Rattle.std.specs.Prelude.{not, ◌==◌, ◌&&◌, IfOk, if◌then◌else◌}
use Rattle.std.specs.Str.{bytes_eq}
use Rattle.std.specs.Map.{values_of}
use Rattle.std.specs.Cmp.{nat_cmp_total, then_total, on_total}
use Rattle.std.specs.List.{AllByRecursion}
use Rattle.std.specs.Ordering.{nat_cmp}
use Rattle.std.proofs.lemmas.Bool.Decides.{nat_tests}
use Rattle.std.proofs.lemmas.Bool.{le-ltb, eqb-true}
use Rattle.std.proofs.lemmas.List.{append-nil, length-append, take-append-drop}
use Rattle.std.proofs.lemmas.Slice.Eq.{bytes_eq-Decides}
use Rattle.liq_types.specs.declared.amounts.TheConstants.{LIM, LIM_OF_VERSION_1}
use Rattle.liq_types.specs.declared.figures.Wallet.{Wallet}
use Rattle.liq_types.specs.declared.figures.Client.{Client}
use Rattle.liq_types.specs.declared.figures.Trove.{Trove}
use Rattle.liq_types.specs.declared.figures.Deposit.{Deposit}
use Rattle.liq_types.specs.declared.image.Image.{Image}
use Rattle.liq_checkpoint.specs.declared.image_bytes.ImageBytes.{ImageBytes}
use Rattle.liq_types.specs.Image.{IsLimit}
use Rattle.liq_disk_layout.specs.Keys.{follows, epoch_follows, place_follows}
use Rattle.liq_types.specs.Product.{place_order}
use Rattle.liq_types.specs.Soundness.{IsClientRow, HasTables}
use Rattle.liq_types.specs.State.{is_used_wallet}
use Rattle.liq_types.specs.Tables.{EpochScale, Table}
use Rattle.liq_checkpoint.specs.Spelling.{Field, spelled, Fit, eights, wallet, trove, surplus, finished, deposit, client, words, name, spelling, table, contents, HasCheckpoint}
use Rattle.liq_checkpoint.specs.Reading.{◌>>=◌, Gives, number_at, tested, numbers_at, some_at, key_at, is_kind, wallet_at, trove_at, surplus_at, finished_at, deposit_at, client_at, limit_named, limit_at, words_at, image_at}
use Rattle.liq_checkpoint.proofs.Fields.{IsBytes, IsBytes-drop, bind_ok, ok_is, passed, passed_then, Takes, Takes-then, spelled-append, Fit-front, Fit-back, number_takes, number_then, number_again, numbers_then, numbers_again}
use Rattle.liq_checkpoint.proofs.Rows.{IsRow, IsOrder, table_then, table_again, ascends, ascend_from}

-- ---- parts of rows

some_takes : (end count : ℕ) (at : List ℕ) (x : ℕ × List ℕ) → IsBytes at → some_at end count at ≡ Ok x
    → Takes at ((count, x.0) ∷ []) x.1 × (1 ≤ x.0)
unfolding some_at
some_takes end count at x fits e =
    let a = bind_ok (number_at end count at) _ x e in
    let p = passed (not (a.0.0 == 0)) end at a.0 x a.2 in
    let some : 1 ≤ a.0.0 = grind (arith, nat_tests, p.0) in
    subst (λ (y : ℕ × List ℕ). Takes at ((count, y.0) ∷ []) y.1
    × (1 ≤ y.0)) p.1 (number_takes end count at a.0 fits a.1, some)

some_then : {Y P : Type 0} (end count : ℕ) (at : List ℕ) (f : ℕ × List ℕ → Result Y ℕ) (y : Y) → IsBytes at
    → (some_at end count at >>= f) ≡ Ok y → ((n : ℕ) (rest : List ℕ) → Takes at ((count, n) ∷ []) rest → 1 ≤ n
    → f (n, rest) ≡ Ok y → P) → P
some_then end count at f y fits e on = let a = bind_ok (some_at end count at) f y e
    in let t = some_takes end count at a.0 fits a.1 in on a.0.0 a.0.1 t.0 t.1 a.2

some_again : (end count n : ℕ) (more : List Field) (rest : List ℕ) → n < 256 ^ count → 1 ≤ n
    → some_at end count (spelled ((count, n) ∷ more) ++ rest) ≡ Ok (n, spelled more ++ rest)
unfolding some_at
some_again end count n more rest small some =
    let not_none : not (n == 0) ≡ true = grind (arith, nat_tests, some) in
    rw (number_again end count n more rest small, not_none) refl

key_takes : (end : ℕ) (last : Option ℕ) (at : List ℕ) (x : ℕ × List ℕ) → IsBytes at → key_at end last at ≡ Ok x
    → Takes at ((4, x.0) ∷ []) x.1 × (follows last x.0 ≡ true)
unfolding key_at
key_takes end last at x fits e =
    let a = bind_ok (number_at end 4 at) _ x e in
    let p = passed (follows last a.0.0) end at a.0 x a.2 in
    subst (λ (y : ℕ × List ℕ). Takes at ((4, y.0) ∷ []) y.1 × (follows last y.0 ≡ true)) p.1
    (number_takes end 4 at a.0 fits a.1, p.0)

key_then : {Y P : Type 0} (end : ℕ) (last : Option ℕ) (at : List ℕ) (f : ℕ × List ℕ → Result Y ℕ) (y : Y) → IsBytes at
    → (key_at end last at >>= f) ≡ Ok y → ((key : ℕ) (rest : List ℕ) → Takes at ((4, key) ∷ []) rest
    → follows last key ≡ true → f (key, rest) ≡ Ok y → P) → P
key_then end last at f y fits e on = let a = bind_ok (key_at end last at) f y e
    in let t = key_takes end last at a.0 fits a.1 in on a.0.0 a.0.1 t.0 t.1 a.2

key_again : (end : ℕ) (last : Option ℕ) (key : ℕ) (more : List Field) (rest : List ℕ) → key < 256 ^ 4
    → follows last key ≡ true → key_at end last (spelled ((4, key) ∷ more) ++ rest) ≡ Ok (key, spelled more ++ rest)
unfolding key_at
key_again end last key more rest small h = rw (number_again end 4 key more rest small, h) refl

-- ---- wallets

wallet_takes : (end : ℕ) (last : Option ℕ) (at : List ℕ) (x : (ℕ × Wallet) × List ℕ) → IsBytes at
    → wallet_at end last at ≡ Ok x → Takes at (wallet x.0) x.1 × (is_used_wallet x.0.1 ≡ true)
    × (follows last x.0.0 ≡ true)
unfolding wallet_at
wallet_takes end last at x fits e =
    key_then end last at _ x fits e λ account a t0 above e0.
    number_then end 8 a _ x t0.rest_fits e0 λ coll b t1 e1.
    number_then end 8 b _ x t1.rest_fits e1 λ lusd c t2 e2.
    let p = passed (not (coll == 0 && lusd == 0)) end b ((account, record { coll = coll; lusd = lusd }), c) x e2 in
    subst (λ (y : (ℕ × Wallet) × List ℕ). Takes at (wallet y.0) y.1 × (is_used_wallet y.0.1 ≡ true)
    × (follows last y.0.0 ≡ true)) p.1
    (Takes-then t0 (Takes-then t1 t2), p.0, above)

wallet_again : (end : ℕ) (last : Option ℕ) (row : ℕ × Wallet) (rest : List ℕ) → Fit (wallet row)
    → is_used_wallet row.1 ≡ true → follows last row.0 ≡ true → wallet_at end last (spelled (wallet row) ++ rest)
    ≡ Ok (row, rest)
unfolding wallet_at
wallet_again end last row rest fit used h =
    let w = row.1 in
    rw (
      key_again end last row.0 ((8, w.coll) ∷ (8, w.lusd) ∷ []) rest fit.0 h,
      number_again end 8 w.coll ((8, w.lusd)
          ∷ []) rest fit.1.0,
      number_again end 8 w.lusd [] rest fit.1.1.0,
      used,
    ) refl

pub wallet_row : (end : ℕ) → IsRow (wallet_at end) wallet (λ w. is_used_wallet w ≡ true) follows
wallet_row end = record { takes = wallet_takes end; again = wallet_again end }

-- ---- troves

trove_takes : (end : ℕ) (last : Option ℕ) (at : List ℕ) (x : (ℕ × Trove) × List ℕ) → IsBytes at
    → trove_at end last at ≡ Ok x → Takes at (trove x.0) x.1 × Unit {0} × (follows last x.0.0 ≡ true)
unfolding trove_at
trove_takes end last at x fits e =
    key_then end last at _ x fits e λ account a t0 above e0.
    number_then end 8 a _ x t0.rest_fits e0 λ coll b t1 e1.
    number_then end 8 b _ x t1.rest_fits e1 λ debt c t2 e2.
    number_then end 8 c _ x t2.rest_fits e2 λ stake d t3 e3.
    number_then end 16 d _ x t3.rest_fits e3 λ mark_coll f t4 e4.
    number_then end 16 f _ x t4.rest_fits e4 λ mark_debt g t5 e5.
    subst (λ (y : (ℕ × Trove) × List ℕ). Takes at (trove y.0) y.1 × Unit {0} × (follows last y.0.0 ≡ true))
    (ok_is (
      (account, record { coll = coll; debt = debt; stake = stake; mark_coll = mark_coll; mark_debt = mark_debt }),
      g,
    ) x e5)
    (Takes-then t0 (Takes-then t1 (Takes-then t2 (Takes-then t3 (Takes-then t4 t5)))), tt, above)

trove_again : (end : ℕ) (last : Option ℕ) (row : ℕ × Trove) (rest : List ℕ) → Fit (trove row) → Unit {0}
    → follows last row.0 ≡ true → trove_at end last (spelled (trove row) ++ rest) ≡ Ok (row, rest)
unfolding trove_at
trove_again end last row rest fit used h =
    let t = row.1 in
    let marks : List Field = (16, t.mark_coll) ∷ (16, t.mark_debt) ∷ [] in
    rw (
      key_again end last row.0 ((8, t.coll) ∷ (8, t.debt) ∷ (8, t.stake) ∷ marks) rest fit.0 h,
      number_again end 8 t.coll ((8, t.debt) ∷ (8, t.stake) ∷ marks) rest fit.1.0,
      number_again end 8 t.debt ((8, t.stake) ∷ marks) rest fit.1.1.0,
      number_again end 8 t.stake marks rest fit.1.1.1.0,
      number_again end 16 t.mark_coll ((16, t.mark_debt) ∷ []) rest fit.1.1.1.1.0,
      number_again end 16 t.mark_debt [] rest fit.1.1.1.1.1.0,
    ) refl

pub trove_row : (end : ℕ) → IsRow (trove_at end) trove (λ _. Unit {0}) follows
trove_row end = record { takes = trove_takes end; again = trove_again end }

no_use : (table : List (ℕ × Trove)) → AllByRecursion (λ (t : Trove). Unit {0}) (values_of table)
no_use [] = tt
no_use (row ∷ rows) = (tt, no_use rows)

-- ---- surplus

surplus_takes : (end : ℕ) (last : Option ℕ) (at : List ℕ) (x : (ℕ × ℕ) × List ℕ) → IsBytes at
    → surplus_at end last at ≡ Ok x → Takes at (surplus x.0) x.1 × (1 ≤ x.0.1) × (follows last x.0.0 ≡ true)
unfolding surplus_at
surplus_takes end last at x fits e =
    key_then end last at _ x fits e λ account a t0 above e0.
    some_then end 8 a _ x t0.rest_fits e0 λ coll b t1 some e1.
    subst (λ (y : (ℕ × ℕ) × List ℕ). Takes at (surplus y.0) y.1 × (1 ≤ y.0.1) × (follows last y.0.0 ≡ true))
    (ok_is ((account, coll), b) x e1)
    (Takes-then t0 t1, some, above)

surplus_again : (end : ℕ) (last : Option ℕ) (row : ℕ × ℕ) (rest : List ℕ) → Fit (surplus row) → 1 ≤ row.1
    → follows last row.0 ≡ true → surplus_at end last (spelled (surplus row) ++ rest) ≡ Ok (row, rest)
unfolding surplus_at
surplus_again end last row rest fit used h =
    rw (key_again end last row.0 ((8, row.1) ∷ []) rest fit.0 h, some_again end 8 row.1 [] rest fit.1.0 used) refl

pub surplus_row : (end : ℕ) → IsRow (surplus_at end) surplus (λ coll. 1 ≤ coll) follows
surplus_row end = record { takes = surplus_takes end; again = surplus_again end }

-- ---- finished sums

-- a place that follows has an epoch that follows
epoch_too : (last : Option EpochScale) (place : EpochScale) → place_follows last place ≡ true
    → epoch_follows last place.0 ≡ true
epoch_too None place h = refl
epoch_too (Some last) place h = grind (arith, nat_tests, h)

finished_takes : (end : ℕ) (last : Option EpochScale) (at : List ℕ) (x : (EpochScale × ℕ) × List ℕ) → IsBytes at
    → finished_at end last at ≡ Ok x → Takes at (finished x.0) x.1 × (1 ≤ x.0.1) × (place_follows last x.0.0 ≡ true)
unfolding finished_at
finished_takes end last at x fits e =
    number_then end 8 at _ x fits e λ epoch a t0 e0.
    passed_then (epoch_follows last epoch) end at (epoch, a) _ x e0 λ _ e1.
    number_then end 8 a _ x t0.rest_fits e1 λ scale b t1 e2.
    passed_then (place_follows last (epoch, scale)) end a (scale, b) _ x e2 λ above e3.
    some_then end 16 b _ x t1.rest_fits e3 λ sum c t2 some e4.
    subst (λ (y : (EpochScale × ℕ) × List ℕ). Takes at (finished y.0) y.1 × (1 ≤ y.0.1) × (place_follows last y.0.0
    ≡ true))
    (ok_is (((epoch, scale), sum), c) x e4)
    (Takes-then t0 (Takes-then t1 t2), some, above)

finished_again : (end : ℕ) (last : Option EpochScale) (row : EpochScale × ℕ) (rest : List ℕ) → Fit (finished row)
    → 1 ≤ row.1
    → place_follows last row.0 ≡ true → finished_at end last (spelled (finished row) ++ rest) ≡ Ok (row, rest)
unfolding finished_at
finished_again end last row rest fit used h =
    rw (
      number_again end 8 row.0.0 ((8, row.0.1) ∷ (16, row.1) ∷ []) rest fit.0,
      epoch_too last row.0 h,
      number_again end 8 row.0.1 ((16, row.1) ∷ []) rest fit.1.0,
      h,
      some_again end 16 row.1 [] rest fit.1.1.0 used,
    ) refl

pub finished_row : (end : ℕ) → IsRow (finished_at end) finished (λ sum. 1 ≤ sum) place_follows
finished_row end = record { takes = finished_takes end; again = finished_again end }

-- ---- deposits

deposit_takes : (end : ℕ) (last : Option ℕ) (at : List ℕ) (x : (ℕ × Deposit) × List ℕ) → IsBytes at
    → deposit_at end last at ≡ Ok x → Takes at (deposit x.0) x.1 × (1 ≤ x.0.1.amount) × (follows last x.0.0 ≡ true)
unfolding deposit_at
deposit_takes end last at x fits e =
    key_then end last at _ x fits e λ account a t0 above e0.
    some_then end 8 a _ x t0.rest_fits e0 λ amount b t1 some e1.
    number_then end 16 b _ x t1.rest_fits e1 λ p c t2 e2.
    number_then end 16 c _ x t2.rest_fits e2 λ sum d t3 e3.
    number_then end 8 d _ x t3.rest_fits e3 λ scale f t4 e4.
    number_then end 8 f _ x t4.rest_fits e4 λ epoch g t5 e5.
    subst (λ (y : (ℕ × Deposit) × List ℕ). Takes at (deposit y.0) y.1 × (1 ≤ y.0.1.amount)
    × (follows last y.0.0 ≡ true))
    (ok_is ((account, record { amount = amount; p = p; sum = sum; scale = scale; epoch = epoch }), g) x e5)
    (Takes-then t0 (Takes-then t1 (Takes-then t2 (Takes-then t3 (Takes-then t4 t5)))), some, above)

deposit_again : (end : ℕ) (last : Option ℕ) (row : ℕ × Deposit) (rest : List ℕ) → Fit (deposit row) → 1 ≤ row.1.amount
    → follows last row.0 ≡ true → deposit_at end last (spelled (deposit row) ++ rest) ≡ Ok (row, rest)
unfolding deposit_at
deposit_again end last row rest fit used h =
    let d = row.1 in
    let place : List Field = (8, d.scale) ∷ (8, d.epoch) ∷ [] in
    rw (
      key_again end last row.0 ((8, d.amount) ∷ (16, d.p) ∷ (16, d.sum) ∷ place) rest fit.0 h,
      some_again end 8 d.amount ((16, d.p) ∷ (16, d.sum) ∷ place) rest fit.1.0 used,
      number_again end 16 d.p ((16, d.sum) ∷ place) rest fit.1.1.0,
      number_again end 16 d.sum place rest fit.1.1.1.0,
      number_again end 8 d.scale ((8, d.epoch) ∷ []) rest fit.1.1.1.1.0,
      number_again end 8 d.epoch [] rest fit.1.1.1.1.1.0,
    ) refl

pub deposit_row : (end : ℕ) → IsRow (deposit_at end) deposit (λ d. 1 ≤ d.amount) follows
deposit_row end = record { takes = deposit_takes end; again = deposit_again end }

-- ---- clients

kind_within : (kind : ℕ) → is_kind kind ≡ true → (1 ≤ kind) × (kind ≤ 16)
kind_within kind h = (grind (arith, nat_tests, h), grind (arith, nat_tests, h))

kind_fits : (kind : ℕ) → 1 ≤ kind → kind ≤ 16 → is_kind kind ≡ true
kind_fits kind low high = grind (arith, nat_tests)

-- so many numbers, and nothing more of the row
values_again : (end : ℕ) (numbers : List ℕ) (count : ℕ) (rest : List ℕ) → Fit (eights numbers) → length numbers ≡ count
    → numbers_at end count (spelled (eights numbers) ++ rest) ≡ Ok (numbers, rest)
values_again end numbers count rest fit is =
    let whole : eights numbers ≡ eights numbers ++ [] = sym (append-nil (eights numbers)) in
    ap (λ (n : ℕ). numbers_at end n (spelled (eights numbers) ++ rest)) (sym is)
    ∙ ap (λ (fields : List Field). numbers_at end (length numbers) (spelled fields ++ rest)) whole
    ∙ numbers_again end numbers [] rest fit

client_takes : (end : ℕ) (last : Option ℕ) (at : List ℕ) (x : (ℕ × Client) × List ℕ) → IsBytes at
    → client_at end last at ≡ Ok x → Takes at (client x.0) x.1 × IsClientRow x.0.1 × (follows last x.0.0 ≡ true)
unfolding client_at
client_takes end last at x fits e =
    key_then end last at _ x fits e λ client_key a t0 above e0.
    some_then end 8 a _ x t0.rest_fits e0 λ number b t1 some e1.
    number_then end 1 b _ x t1.rest_fits e1 λ kind c t2 e2.
    passed_then (is_kind kind) end b (kind, c) _ x e2 λ within e3.
    numbers_then end 6 c _ x t2.rest_fits e3 λ values d t3 six e4.
    subst (λ (y : (ℕ × Client) × List ℕ). Takes at (client y.0) y.1 × IsClientRow y.0.1 × (follows last y.0.0 ≡ true))
    (ok_is ((client_key, record { last = number; kept = record { kind = kind; values = values } }), d) x e4) (
      Takes-then t0 (Takes-then t1 (Takes-then t2 t3)),
      record {
        last = some;
        kind = kind_within kind within;
        values = six;
      },
      above,
    )

client_again : (end : ℕ) (last : Option ℕ) (row : ℕ × Client) (rest : List ℕ) → Fit (client row) → IsClientRow row.1
    → follows last row.0 ≡ true → client_at end last (spelled (client row) ++ rest) ≡ Ok (row, rest)
unfolding client_at
client_again end last row rest fit used h =
    let kept = row.1.kept in
    rw (
      key_again end last row.0 ((8, row.1.last) ∷ (1, kept.kind) ∷ eights kept.values) rest fit.0 h,
      some_again end 8 row.1.last ((1, kept.kind) ∷ eights kept.values) rest fit.1.0 used.last,
      number_again end 1 kept.kind (eights kept.values) rest fit.1.1.0,
      kind_fits kept.kind used.kind.0 used.kind.1,
      values_again end kept.values 6 rest fit.1.1.1 used.values,
    ) refl

pub client_row : (end : ℕ) → IsRow (client_at end) client IsClientRow follows
client_row end = record { takes = client_takes end; again = client_again end }

-- ---- words

-- so many elements from a place on
abbrev cells : ℕ → ℕ → List ℕ → List ℕ
cells k zero xs = []
cells k (suc n) xs = get_or xs k 0 ∷ cells (suc k) n xs

cells-cons : (k n x : ℕ) (xs : List ℕ) → cells (suc k) n (x ∷ xs) ≡ cells k n xs
cells-cons k zero x xs = refl
cells-cons k (suc n) x xs = ap (λ (rest : List ℕ). get_or xs k 0 ∷ rest) (cells-cons (suc k) n x xs)

-- a list by its elements
by_cells : (n : ℕ) (xs : List ℕ) → length xs ≡ n → xs ≡ cells 0 n xs
by_cells zero [] len = refl
by_cells zero (x ∷ xs) len = absurd (omega arith)
by_cells (suc n) [] len = absurd (omega arith)
by_cells (suc n) (x ∷ xs) len = ap (λ (rest : List ℕ). x ∷ rest) (by_cells n xs (omega arith)
    ∙ sym (cells-cons 0 n x xs))

in_cells : {at rest : List ℕ} (n : ℕ) (numbers : List ℕ) → length numbers ≡ n → Takes at (eights numbers) rest
    → Takes at (eights (cells 0 n numbers)) rest
in_cells {at} {rest} n numbers len t = subst (λ (ns : List ℕ). Takes at (eights ns) rest) (by_cells n numbers len) t

words_take : (end limit : ℕ) (at : List ℕ) (x : Image × List ℕ) → IsBytes at → words_at end limit at ≡ Ok x
    → Takes at (words x.0) x.1 × (x.0.limit ≡ limit)
unfolding words_at
words_take end limit at x fits e =
    numbers_then end 6 at _ x fits e λ times a t0 six e0.
    numbers_then end 8 a _ x t0.rest_fits e0 λ pools b t1 eight e1.
    number_then end 16 b _ x t1.rest_fits e1 λ sum_coll c t2 e2.
    number_then end 16 c _ x t2.rest_fits e2 λ sum_debt d t3 e3.
    numbers_then end 3 d _ x t3.rest_fits e3 λ stakes f t4 three e4.
    number_then end 16 f _ x t4.rest_fits e4 λ p g t5 e5.
    numbers_then end 2 g _ x t5.rest_fits e5 λ place h t6 two e6.
    number_then end 16 h _ x t6.rest_fits e6 λ sum j t7 e7.
    numbers_then end 2 j _ x t7.rest_fits e7 λ deposited k t8 both e8.
    subst (λ (y : Image × List ℕ). Takes at (words y.0) y.1 × (y.0.limit ≡ limit)) (ok_is _ x e8) (
      Takes-then (in_cells 6 times six t0) (Takes-then (in_cells 8 pools eight t1)
          (Takes-then t2 (Takes-then t3 (Takes-then (in_cells 3 stakes three t4)
          (Takes-then t5 (Takes-then (in_cells 2 place two t6) (Takes-then t7 (in_cells 2 deposited both t8)))))))),
      refl,
    )

words_then : {Y P : Type 0} (end limit : ℕ) (at : List ℕ) (f : Image × List ℕ → Result Y ℕ) (y : Y) → IsBytes at
    → (words_at end limit at >>= f) ≡ Ok y → ((i : Image) (rest : List ℕ) → Takes at (words i) rest → i.limit ≡ limit
    → f (i, rest) ≡ Ok y → P) → P
words_then end limit at f y fits e on = let a = bind_ok (words_at end limit at) f y e
    in let t = words_take end limit at a.0 fits a.1 in on a.0.0 a.0.1 t.0 t.1 a.2

-- an image with other rows
abbrev with_rows : Image → Table Wallet → Table Trove → Table ℕ → List (EpochScale × ℕ) → Table Deposit
    → Table Client → Image
with_rows i wallets troves surplus finished deposits clients =
    record i {
      wallets = wallets;
      troves = troves;
      surplus_rows = surplus;
      finished = finished;
      deposits = deposits;
      clients = clients;
    }

words_again : (end : ℕ) (i : Image) (rest : List ℕ) → Fit (words i)
    → words_at end i.limit (spelled (words i) ++ rest) ≡ Ok (with_rows i [] [] [] [] [] [], rest)
unfolding words_at
words_again end i rest fit =
    let deposited : List Field = eights (i.total ∷ i.pool_coll ∷ []) in
    let sum : List Field = (16, i.sum) ∷ deposited in
    let place : List Field = eights (i.scale ∷ i.epoch ∷ []) ++ sum in
    let p : List Field = (16, i.p) ∷ place in
    let stakes : List Field = eights (i.stakes ∷ i.snap_stakes ∷ i.snap_coll ∷ []) ++ p in
    let sum_debt : List Field = (16, i.sum_debt) ∷ stakes in
    let sum_coll : List Field = (16, i.sum_coll) ∷ sum_debt in
    let pools : List ℕ = i.active_coll ∷ i.active_debt ∷ i.default_coll ∷ i.default_debt ∷ i.reserve ∷ i.surplus
    ∷ i.fee_coll ∷ i.fee_lusd ∷ [] in
    let times : List ℕ = i.price ∷ i.minute ∷ i.base ∷ i.fee_minute ∷ i.generation ∷ i.brought ∷ [] in
    let fit_pools : Fit (eights pools ++ sum_coll) = Fit-back (eights times) (eights pools ++ sum_coll) fit in
    let fit_sums : Fit sum_coll = Fit-back (eights pools) sum_coll fit_pools in
    let fit_stakes : Fit stakes = fit_sums.1.1 in
    let fit_p : Fit p = Fit-back (eights (i.stakes ∷ i.snap_stakes ∷ i.snap_coll ∷ [])) p fit_stakes in
    let fit_sum : Fit sum = Fit-back (eights (i.scale ∷ i.epoch ∷ [])) sum fit_p.1 in
    rw (
      numbers_again end times (eights pools ++ sum_coll) rest (Fit-front (eights times) (eights pools ++ sum_coll) fit),
      numbers_again end pools sum_coll rest (Fit-front (eights pools) sum_coll fit_pools),
      number_again end 16 i.sum_coll sum_debt rest fit_sums.0,
      number_again end 16 i.sum_debt stakes rest fit_sums.1.0,
      numbers_again end (i.stakes ∷ i.snap_stakes ∷ i.snap_coll ∷ []) p rest
          (Fit-front (eights (i.stakes ∷ i.snap_stakes ∷ i.snap_coll ∷ [])) p fit_stakes),
      number_again end 16 i.p place rest fit_p.0,
      numbers_again end (i.scale ∷ i.epoch ∷ []) sum rest (Fit-front (eights (i.scale ∷ i.epoch ∷ [])) sum fit_p.1),
      number_again end 16 i.sum deposited rest fit_sum.0,
      numbers_again end (i.total ∷ i.pool_coll ∷ []) [] rest fit_sum.1,
    ) refl

-- ---- the name

-- the name that is there, of the limit for which it stands
one_named : (front : List ℕ) → IsLimit (limit_named front)
one_named front = either (bytes_eq front (name LIM)) where
  either : (b : Bool) → IsLimit (if b then LIM else LIM_OF_VERSION_1)
  either true = inr refl
  either false = inl refl

-- a name stands for its limit
its_limit : (limit : ℕ) → IsLimit limit → limit_named (name limit) ≡ limit
its_limit limit (inl first) = subst (λ (l : ℕ). limit_named (name l) ≡ l) (sym first) refl
its_limit limit (inr second) = subst (λ (l : ℕ). limit_named (name l) ≡ l) (sym second) refl

record IsNamed (at : List ℕ) (x : ℕ × List ℕ) : Type 0 where
  named : at ≡ name x.0 ++ x.1
  rest_fits : IsBytes x.1
  is_limit : IsLimit x.0

limit_takes : (end : ℕ) (at : List ℕ) (x : ℕ × List ℕ) → IsBytes at → limit_at end at ≡ Ok x → IsNamed at x
unfolding limit_at
limit_takes end at x fits e =
    by (ltb (length at) 8) refl e where
      by : (short : Bool) → ltb (length at) 8 ≡ short
          → cond short (Err end) (tested (bytes_eq (take 8 at) (name (limit_named (take 8 at)))) end at
          (limit_named (take 8 at), drop 8 at)) ≡ Ok x → IsNamed at x
      by true is e = absurd cc
      by false is e =
          let l = limit_named (take 8 at) in
          let p = passed (bytes_eq (take 8 at) (name l)) end at (l, drop 8 at) x e in
          let front : take 8 at ≡ name l = (bytes_eq-Decides (take 8 at) (name l)).0 p.0 in
          let parts : at ≡ name l ++ drop 8 at = sym (take-append-drop 8 at)
          ∙ ap (λ (bytes : List ℕ). bytes ++ drop 8 at) front in
          subst (IsNamed at) p.1 (record {
            named = parts;
            rest_fits = IsBytes-drop 8 at fits;
            is_limit = one_named (take 8 at);
          })

limit_then : {Y P : Type 0} (end : ℕ) (at : List ℕ) (f : ℕ × List ℕ → Result Y ℕ) (y : Y) → IsBytes at
    → (limit_at end at >>= f) ≡ Ok y → ((limit : ℕ) (rest : List ℕ) → IsNamed at (limit, rest) → f (limit, rest) ≡ Ok y
    → P) → P
limit_then end at f y fits e on = let a = bind_ok (limit_at end at) f y e
    in on a.0.0 a.0.1 (limit_takes end at a.0 fits a.1) a.2

limit_again : (end limit : ℕ) (rest : List ℕ) → IsLimit limit → limit_at end (name limit ++ rest) ≡ Ok (limit, rest)
unfolding limit_at
limit_again end limit rest is =
    let long : ltb (length (name limit ++ rest)) 8 ≡ false = le-ltb (length (name limit ++ rest)) 8 (omega (
      arith,
      length-append (name limit) rest,
    )) in
    let same : bytes_eq (name limit) (name limit) ≡ true = (bytes_eq-Decides (name limit) (name limit)).1 refl in
    rw (long, its_limit limit is, same) refl

-- ---- the order of keys

keys_in_order : IsOrder nat_cmp follows
keys_in_order = record { total = nat_cmp_total; none = λ k. refl; some = λ a b. grind (arith, nat_tests) }

places_in_order : IsOrder place_order place_follows
places_in_order = record {
  total = then_total (on_total (λ (p : EpochScale). p.0) nat_cmp_total)
      (on_total (λ (p : EpochScale). p.1) nat_cmp_total);
  none = λ k. refl;
  some = λ a b. grind (arith, nat_tests);
}

-- ---- an image

nothing_left : (xs : List ℕ) → (length xs == 0) ≡ true → xs ≡ []
nothing_left [] h = refl
nothing_left (x ∷ xs) h = absurd (let e : suc (length xs) ≡ 0 = eqb-true (suc (length xs)) 0 h in omega arith)

to_the_end : {at : List ℕ} {fields : List Field} {rest : List ℕ} → Takes at fields rest → rest ≡ []
    → at ≡ spelled fields
to_the_end {at} {fields} t none = t.parts ∙ ap (λ (bytes : List ℕ). spelled fields ++ bytes) none
    ∙ append-nil (spelled fields)

image_takes : (end : ℕ) (at : List ℕ) (i : Image) → IsBytes at → image_at end at ≡ Ok i → HasCheckpoint i
    × (at ≡ spelling i)
unfolding image_at spelling
image_takes end at i fits e =
    limit_then end at _ i fits e λ limit a named e0.
    words_then end limit a _ i named.rest_fits e0 λ w b t0 same_limit e1.
    table_then _ _ _ _ (wallet_row end) end b _ i t0.rest_fits e1 λ wallets c t1 e2.
    table_then _ _ _ _ (trove_row end) end c _ i t1.takes.rest_fits e2 λ troves d t2 e3.
    table_then _ _ _ _ (surplus_row end) end d _ i t2.takes.rest_fits e3 λ surplus f t3 e4.
    table_then _ _ _ _ (finished_row end) end f _ i t3.takes.rest_fits e4 λ finished g t4 e5.
    table_then _ _ _ _ (deposit_row end) end g _ i t4.takes.rest_fits e5 λ deposits h t5 e6.
    table_then _ _ _ _ (client_row end) end h _ i t5.takes.rest_fits e6 λ clients k t6 e7.
    let p = passed (length k == 0) end k (with_rows w wallets troves surplus finished deposits clients) i e7 in
    let all = Takes-then t0 (Takes-then (Takes-then (Takes-then (Takes-then (Takes-then t1.takes t2.takes) t3.takes)
    t4.takes) t5.takes) t6.takes) in
    subst (λ (j : Image). HasCheckpoint j × (at ≡ name j.limit ++ spelled (contents j))) p.1 (
      record {
        numbers = all.fit;
        tables = record {
          wallets = ascends nat_cmp follows keys_in_order None wallets t1.ascend;
          used_wallets = t1.used;
          troves = ascends nat_cmp follows keys_in_order None troves t2.ascend;
          surplus = ascends nat_cmp follows keys_in_order None surplus t3.ascend;
          some_surplus = t3.used;
          finished = ascends place_order place_follows places_in_order None finished t4.ascend;
          some_finished = t4.used;
          deposits = ascends nat_cmp follows keys_in_order None deposits t5.ascend;
          some_deposits = t5.used;
          clients = ascends nat_cmp follows keys_in_order None clients t6.ascend;
          client_rows = t6.used;
        };
        limit = subst IsLimit (sym same_limit) named.is_limit;
      },
      named.named ∙ (λ i. name (sym same_limit i) ++ to_the_end all (nothing_left k p.0) i),
    )

-- six parts, one behind the other
six_apart : (a b c d e f : List Field) → spelled (a ++ b ++ c ++ d ++ e ++ f)
    ≡ spelled a ++ (spelled b ++ (spelled c ++ (spelled d ++ (spelled e ++ (spelled f ++ [])))))
six_apart a b c d e f = simp (spelled-append, append_assoc, append-nil)

module _ (i : Image) (tables : HasTables i) (fit : Fit (contents i)) (limit : IsLimit i.limit) where
  pub image_again : (end : ℕ) → image_at end (spelling i) ≡ Ok i
  unfolding image_at spelling
  image_again end =
      let w = table wallet i.wallets in
      let t = table trove i.troves in
      let s = table surplus i.surplus_rows in
      let f = table finished i.finished in
      let d = table deposit i.deposits in
      let c = table client i.clients in
      let fit_tables : Fit (w ++ t ++ s ++ f ++ d ++ c) = Fit-back (words i) (w ++ t ++ s ++ f ++ d ++ c) fit in
      let fit_5 : Fit (w ++ t ++ s ++ f ++ d) = Fit-front (w ++ t ++ s ++ f ++ d) c fit_tables in
      let fit_4 : Fit (w ++ t ++ s ++ f) = Fit-front (w ++ t ++ s ++ f) d fit_5 in
      let fit_3 : Fit (w ++ t ++ s) = Fit-front (w ++ t ++ s) f fit_4 in
      let fit_2 : Fit (w ++ t) = Fit-front (w ++ t) s fit_3 in
      let after_deposits = spelled c ++ [] in
      let after_sums = spelled d ++ after_deposits in
      let after_surplus = spelled f ++ after_sums in
      let after_troves = spelled s ++ after_surplus in
      let after_wallets = spelled t ++ after_troves in
      let after_words = spelled w ++ after_wallets in
      let apart : spelled (contents i) ≡ spelled (words i) ++ after_words = spelled-append (words i) (w ++ t ++ s ++ f
      ++ d ++ c) ∙ ap (λ (bytes : List ℕ). spelled (words i) ++ bytes) (six_apart w t s f d c) in
      ap (λ (bytes : List ℕ). image_at end (name i.limit ++ bytes)) apart
      ∙ rw (
        limit_again end i.limit (spelled (words i) ++ after_words) limit,
        words_again end i after_words (Fit-front (words i) (w ++ t ++ s ++ f ++ d ++ c) fit),
        table_again _ _ _ _ (wallet_row end) end i.wallets after_wallets (Fit-front w t fit_2) tables.used_wallets
            (ascend_from nat_cmp follows keys_in_order i.wallets tables.wallets),
        table_again _ _ _ _ (trove_row end) end i.troves after_troves (Fit-back w t fit_2) (no_use i.troves)
            (ascend_from nat_cmp follows keys_in_order i.troves tables.troves),
        table_again _ _ _ _ (surplus_row end) end i.surplus_rows after_surplus (Fit-back (w ++ t) s fit_3)
            tables.some_surplus (ascend_from nat_cmp follows keys_in_order i.surplus_rows tables.surplus),
        table_again _ _ _ _ (finished_row end) end i.finished after_sums (Fit-back (w ++ t ++ s) f fit_4)
            tables.some_finished (ascend_from place_order place_follows places_in_order i.finished tables.finished),
        table_again _ _ _ _ (deposit_row end) end i.deposits after_deposits (Fit-back (w ++ t ++ s ++ f) d fit_5)
            tables.some_deposits (ascend_from nat_cmp follows keys_in_order i.deposits tables.deposits),
        table_again _ _ _ _ (client_row end) end i.clients [] (Fit-back (w ++ t ++ s ++ f ++ d) c fit_tables)
            tables.client_rows (ascend_from nat_cmp follows keys_in_order i.clients tables.clients),
      ) refl

-- ---- what decode ensures

pub is_found : (bytes : List ℕ) (r : Result Image ImageBytes) → IsBytes bytes
    → Gives (λ i. i) r (image_at (length bytes) bytes) → IfOk r (λ i. HasCheckpoint i × (bytes ≡ spelling i))
is_found bytes (Ok i) fits given = image_takes (length bytes) bytes i fits given
is_found bytes (Err e) fits given = tt

pub is_read : (i : Image) → HasCheckpoint i → (end : ℕ) → image_at end (spelling i) ≡ Ok i
is_read i has end = image_again i has.tables has.numbers has.limit end
