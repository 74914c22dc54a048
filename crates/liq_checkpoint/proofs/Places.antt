-- A fault is told at a place of the bytes, or at their end.
use Rattle.std.proofs.Common.{◌≡◌, ℕ, zero, suc, ◌-◌, ◌≤◌, ◌==◌, ◌&&◌, List, [], ◌∷◌, length, take, drop, not, nat_lt, Option, Some, None, Bool, true, false, Result, Ok, Err, ap, subst, arith, if◌then◌else◌}
use Rattle.std.specs.Str.{bytes_eq}
use Rattle.liq_types.specs.declared.image.Image.{Image}
use Rattle.liq_disk_layout.specs.Keys.{follows}
use Rattle.liq_checkpoint.specs.declared.image_bytes.ImageBytes.{ImageBytes}
use Rattle.liq_checkpoint.specs.declared.image_bytes.ImageBytes.TheVariants.{Bad}
use Rattle.liq_checkpoint.specs.Spelling.{name}
use Rattle.std.proofs.lemmas.Bool.Decides.{nat_tests}
use Rattle.std.proofs.lemmas.List.{length-drop}
use Rattle.byteorder.specs.Endian.{big_number}
use Rattle.liq_checkpoint.proofs.Fields.{bind_ok, ok_is, passed}
use Rattle.liq_checkpoint.specs.Reading.{◌>>=◌, Gives, tested, number_at, numbers_at, some_at, key_at, wallet_at, trove_at, surplus_at, finished_at, deposit_at, client_at, rows_at, table_at, limit_named, limit_at, words_at, image_at}

record Within {X : Type 0} (end : ℕ) (read : Result X ℕ) : Type 0 where
  told : (place : ℕ) → read ≡ Err place → place ≤ end

err_within : {X : Type 0} (end place : ℕ) → place ≤ end → Within {X = X} end (Err place)
err_within end place le = record { told = λ p is. let same : place ≡ p = cc (is) in subst (λ (n : ℕ). n ≤ end) same le }

ok_within : {X : Type 0} (end : ℕ) (x : X) → Within end (Ok x)
ok_within end x = record { told = λ p is. absurd (cc (is)) }

then_within : {A B : Type 0} {end : ℕ} {read : Result A ℕ} {f : A → Result B ℕ} → Within end read
    → ((x : A) → Within end (f x)) → Within end (read >>= f)
then_within {end = end} {read = Ok x} first others = others x
then_within {end = end} {read = Err place} first others = err_within end place (let here : Err place
    ≡ Err place = λ i. Err place in first.told place here)

tested_within : {X : Type 0} (fits : Bool) (end : ℕ) (at : List ℕ) (x : X) → Within end (tested fits end at x)
tested_within true end at x = ok_within end x
tested_within false end at x = err_within end (end - length at) (omega arith)

unless_within : {X : Type 0} (b : Bool) (end : ℕ) (read : Result X ℕ) → Within end read
    → Within end (if b then Err end else read)
unless_within true end read within = err_within end end (omega arith)
unless_within false end read within = within

-- ---- fields

module _ (end : ℕ) where
  number_within : (count : ℕ) (at : List ℕ) → Within end (number_at end count at)
  unfolding number_at
  number_within count at = unless_within (nat_lt (length at) count) end (Ok _) (ok_within end _)

  numbers_within : (n : ℕ) (at : List ℕ) → Within end (numbers_at end n at)
  unfolding numbers_at
  numbers_within zero at = ok_within end ([], at)
  numbers_within (suc n) at =
      then_within (number_within 8 at) (λ first.
      then_within (numbers_within n first.1) (λ others.
      ok_within end (first.0 ∷ others.0, others.1)))

  some_within : (count : ℕ) (at : List ℕ) → Within end (some_at end count at)
  unfolding some_at
  some_within count at = then_within (number_within count at) (λ n. tested_within (not (n.0 == 0)) end at n)

  -- ---- rows

  key_within : (last : Option ℕ) (at : List ℕ) → Within end (key_at end last at)
  unfolding key_at
  key_within last at = then_within (number_within 4 at) (λ key. tested_within _ end at key)

  wallet_within : (last : Option ℕ) (at : List ℕ) → Within end (wallet_at end last at)
  unfolding wallet_at
  wallet_within last at =
      then_within (key_within last at) (λ account.
      then_within (number_within 8 account.1) (λ coll.
      then_within (number_within 8 coll.1) (λ lusd.
      tested_within _ end coll.1 _)))

  trove_within : (last : Option ℕ) (at : List ℕ) → Within end (trove_at end last at)
  unfolding trove_at
  trove_within last at =
      then_within (key_within last at) (λ account.
      then_within (number_within 8 account.1) (λ coll.
      then_within (number_within 8 coll.1) (λ debt.
      then_within (number_within 8 debt.1) (λ stake.
      then_within (number_within 16 stake.1) (λ mark_coll.
      then_within (number_within 16 mark_coll.1) (λ mark_debt.
      ok_within end _))))))

  surplus_within : (last : Option ℕ) (at : List ℕ) → Within end (surplus_at end last at)
  unfolding surplus_at
  surplus_within last at =
      then_within (key_within last at) (λ account.
      then_within (some_within 8 account.1) (λ coll.
      ok_within end _))

  finished_within : (last : Option (ℕ × ℕ)) (at : List ℕ) → Within end (finished_at end last at)
  unfolding finished_at
  finished_within last at =
      then_within (number_within 8 at) (λ number.
      then_within (tested_within _ end at number) (λ epoch.
      then_within (number_within 8 epoch.1) (λ next.
      then_within (tested_within _ end epoch.1 next) (λ scale.
      then_within (some_within 16 scale.1) (λ sum.
      ok_within end _)))))

  deposit_within : (last : Option ℕ) (at : List ℕ) → Within end (deposit_at end last at)
  unfolding deposit_at
  deposit_within last at =
      then_within (key_within last at) (λ account.
      then_within (some_within 8 account.1) (λ amount.
      then_within (number_within 16 amount.1) (λ p.
      then_within (number_within 16 p.1) (λ sum.
      then_within (number_within 8 sum.1) (λ scale.
      then_within (number_within 8 scale.1) (λ epoch.
      ok_within end _))))))

  client_within : (last : Option ℕ) (at : List ℕ) → Within end (client_at end last at)
  unfolding client_at
  client_within last at =
      then_within (key_within last at) (λ client.
      then_within (some_within 8 client.1) (λ number.
      then_within (number_within 1 number.1) (λ verb.
      then_within (tested_within _ end number.1 verb) (λ kind.
      then_within (numbers_within 6 kind.1) (λ values.
      ok_within end _)))))

  -- ---- tables

  rows_within : {K X : Type 0} (row_at : Option K → List ℕ → Result ((K × X) × List ℕ) ℕ)
      → ((last : Option K) (at : List ℕ) → Within end (row_at last at)) → (n : ℕ) (last : Option K) (at : List ℕ)
      → Within end (rows_at row_at n last at)
  unfolding rows_at
  rows_within row_at row zero last at = ok_within end ([], at)
  rows_within row_at row (suc n) last at =
      then_within (row last at) (λ first.
      then_within (rows_within row_at row n (Some first.0.0) first.1) (λ others.
      ok_within end (first.0 ∷ others.0, others.1)))

  table_within : {K X : Type 0} (row_at : Option K → List ℕ → Result ((K × X) × List ℕ) ℕ)
      → ((last : Option K) (at : List ℕ) → Within end (row_at last at)) → (at : List ℕ)
      → Within end (table_at row_at end at)
  unfolding table_at
  table_within row_at row at = then_within (number_within 8 at) (λ count. rows_within row_at row count.0 None count.1)

  -- ---- an image

  limit_within : (at : List ℕ) → Within end (limit_at end at)
  unfolding limit_at
  limit_within at =
      let limit = limit_named (take 8 at) in
      unless_within (nat_lt (length at) 8) end (tested (bytes_eq (take 8 at) (name limit)) end at (limit, drop 8 at))
      (tested_within _ end at _)

  words_within : (limit : ℕ) (at : List ℕ) → Within end (words_at end limit at)
  unfolding words_at
  words_within limit at =
      then_within (numbers_within 6 at) (λ times.
      then_within (numbers_within 8 times.1) (λ pools.
      then_within (number_within 16 pools.1) (λ sum_coll.
      then_within (number_within 16 sum_coll.1) (λ sum_debt.
      then_within (numbers_within 3 sum_debt.1) (λ stakes.
      then_within (number_within 16 stakes.1) (λ p.
      then_within (numbers_within 2 p.1) (λ place.
      then_within (number_within 16 place.1) (λ sum.
      then_within (numbers_within 2 sum.1) (λ deposited.
      ok_within end _)))))))))

  image_within : (at : List ℕ) → Within end (image_at end at)
  unfolding image_at
  image_within at =
      then_within (limit_within at) (λ limit.
      then_within (words_within limit.0 limit.1) (λ words.
      then_within (table_within (wallet_at end) wallet_within words.1) (λ wallets.
      then_within (table_within (trove_at end) trove_within wallets.1) (λ troves.
      then_within (table_within (surplus_at end) surplus_within troves.1) (λ surplus.
      then_within (table_within (finished_at end) finished_within surplus.1) (λ finished.
      then_within (table_within (deposit_at end) deposit_within finished.1) (λ deposits.
      then_within (table_within (client_at end) client_within deposits.1) (λ clients.
      tested_within _ end clients.1 _))))))))

pub place_within : (end place : ℕ) (at : List ℕ) → image_at end at ≡ Err place → place ≤ end
place_within end place at is = (image_within end at).told place is

-- what decode ensures of a fault
pub told_within : (end place : ℕ) (at : List ℕ) (r : Result Image ImageBytes) → Gives (λ i. i) r (image_at end at)
    → r ≡ Err (Bad place) → place ≤ end
told_within end place at r given is =
    place_within end place at (subst (λ (q : Result Image ImageBytes). Gives (λ i. i) q (image_at end at)) is given)

-- ---- a wallet of nothing

-- what is left behind a number that was read
number_behind : (end count : ℕ) (at : List ℕ) (x : ℕ × List ℕ) → number_at end count at ≡ Ok x
    → length x.1 ≡ length at - count
unfolding number_at
number_behind end count at x e =
    by (nat_lt (length at) count) e where
      by : (short : Bool) → (if short then Err end else Ok (big_number count at, drop count at)) ≡ Ok x
          → length x.1 ≡ length at - count
      by true e = absurd cc
      by false e = subst (λ (y : ℕ × List ℕ). length y.1 ≡ length at - count) (ok_is (
        big_number count at,
        drop count at,
      ) x e) (length-drop count at)

key_behind : (end : ℕ) (last : Option ℕ) (at : List ℕ) (x : ℕ × List ℕ) → key_at end last at ≡ Ok x
    → length x.1 ≡ length at - 4
unfolding key_at
key_behind end last at x e =
    let a = bind_ok (number_at end 4 at) _ x e in
    let p = passed (follows last a.0.0) end at a.0 x a.2 in
    subst (λ (y : ℕ × List ℕ). length y.1 ≡ length at - 4) p.1 (number_behind end 4 at a.0 a.1)

-- its fault is told where its second amount begins
pub empty_wallet : (end : ℕ) (last : Option ℕ) (row : List ℕ) (account coll lusd : ℕ × List ℕ)
    → key_at end last row ≡ Ok account → number_at end 8 account.1 ≡ Ok coll → number_at end 8 coll.1 ≡ Ok lusd
    → coll.0 ≡ 0 → lusd.0 ≡ 0
    → (place : ℕ) → place ≡ end - (length row - 12) → wallet_at end last row ≡ Err place
unfolding wallet_at
empty_wallet end last row account coll lusd key first second no_coll no_lusd place is =
    let a = key_behind end last row account key in
    let b = number_behind end 8 account.1 coll first in
    let here : end - length coll.1 ≡ place = omega (arith, a, b, is) in
    let nothing : not (coll.0 == 0 && lusd.0 == 0) ≡ false = grind (arith, nat_tests, no_coll, no_lusd) in
    rw (key, first, second, nothing) (ap (λ (n : ℕ). Err n) here)
