-- The input on its way to the follower.
use Rattle.std.proofs.Common.{◌≡◌, inl, ℕ, ◌≤◌, ◌+◌, ◌-◌, List, [], ◌++◌, length, take, Option, Ok, Err, Result, refl, sym, ap, subst, ◌∙◌, append-nil, arith}
use Rattle.std.proofs.Math.Seq.{take-append_seam}
use Rattle.std.proofs.lemmas.List.{length-append}
use Rattle.liq_text_lines.specs.Reading.{Reads}
use Rattle.liq_text_lines.proofs.Bytes.{reads_more, reads_nothing}
use Rattle.liq_follower.specs.Fed.{GoOn}
use Rattle.liq_follower.specs.Following.{Followed, IsFed}
use Rattle.liq_word_exit.specs.declared.halts.Halt.{Halt}
use Rattle.liq_word_exit.specs.declared.halts.Halt.TheVariants.{BadLine, ReadFault, WriteFault, DiskFault, Damaged, DamagedInput, NoMemory, Limit, Rotated}
use Rattle.liq_word_follow.specs.declared.feeding.TheConstants.{FED_MOST}
use Rattle.liq_word_exit.specs.Further.{IsFurther}
use Rattle.liq_word_follow.specs.Feeding.{FedAll, FedNext}
use Rattle.liq_word_follow.specs.Followed.{FollowsTo, StopsWithin}
use Rattle.liq_word_follow.proofs.Beginning.{none_goes_on}

-- some bytes were read and fed, and show no fault; so many more may be
pub record Underway (start left : Option (List ℕ)) (room : ℕ) (follower : Followed) : Type 0 where
  pub read : List ℕ
  pub reads : Reads start read left
  pub size : length read + room ≡ FED_MOST
  pub fed : IsFed read follower
  pub goes : GoOn read

-- feeding has ended so
abbrev pub Came : Result (Unit {0}) Halt → Option (List ℕ) → Option (List ℕ) → Followed → Type 0
Came end start left follower = (read : List ℕ) × Reads start read left × FedAll end read left follower

pub begun : (start : Option (List ℕ)) (follower : Followed) → IsFed [] follower → Underway start start FED_MOST follower
begun start follower is = record { read = []; reads = reads_nothing start; size = refl; fed = is; goes = none_goes_on }

-- where there is no memory for a piece
pub none_read : (start : Option (List ℕ)) (follower : Followed) → Came (Err NoMemory) start start follower
none_read start follower = ([], reads_nothing start, (omega arith, inl none_goes_on))

stopped_within : (halt : Halt) (read : List ℕ) (left : Option (List ℕ)) → length read ≤ FED_MOST → StopsWithin halt read
    → FollowsTo (Err halt) read left []
stopped_within ReadFault read left few h = (few, h)
stopped_within NoMemory read left few h = (few, h)
stopped_within (DamagedInput index) read left few h = (few, h)
stopped_within (Rotated generation) read left few h = (few, h)
stopped_within (BadLine n) read left few h = absurd h
stopped_within WriteFault read left few h = absurd h
stopped_within DiskFault read left few h = absurd h
stopped_within (Damaged side number) read left few h = absurd h
stopped_within (Limit number) read left few h = absurd h

module _ (start left : Option (List ℕ)) (room : ℕ) (follower : Followed) (u : Underway start left room follower) where
  module _ (more : List ℕ) (left' : Option (List ℕ)) (follower' : Followed) (reads : Reads left more left') where
    abbrev all : List ℕ
    all = u.read ++ more

    whole_read : Reads start (u.read ++ more) left'
    whole_read = reads_more start left left' u.read more u.reads reads

    long : length (u.read ++ more) ≡ length u.read + length more
    long = length-append u.read more

    -- the next bytes go on
    pub goes_on : (count : ℕ) → length more ≤ room → FedNext (Ok count) u.read more left' follower'
        → Underway start left' (room - count) follower'
    goes_on count few h = record {
      read = all;
      reads = whole_read;
      size = let size = u.size in omega (arith, long, few, h.0, size);
      fed = h.1;
      goes = h.2;
    }

    -- the source gave no bytes: all is read
    pub comes_to_end : (count : ℕ) → count ≡ 0 → length more ≤ room → FedNext (Ok count) u.read more left' follower'
        → Came (Ok tt) start left' follower'
    comes_to_end count none few h = (
      all,
      whole_read,
      (
        let size = u.size in omega (arith, long, few, size),
        h.3 none,
        h.1,
        h.2,
      ),
    )

    -- reading further bytes stops, or feeding them
    pub comes_to_stop : (halt : Halt) → length more ≤ room → FedNext (Err halt) u.read more left' follower'
        → Came (Err halt) start left' follower'
    comes_to_stop halt few h = (
      all,
      whole_read,
      stopped_within halt all left' (let size = u.size
          in omega (arith, long, few, size)) h,
    )

    -- behind the most that are followed
    pub looks_further : (end : Result (Unit {0}) Halt) → room ≡ 0 → IsFurther FED_MOST end more left'
        → Came end start left' follower
    looks_further (Ok done) none h =
        let same : all ≡ u.read = ap (λ (t : List ℕ). u.read ++ t) h.0 ∙ append-nil u.read in (
          all,
          whole_read,
          (
            let size = u.size in let l = ap length same in omega (arith, size),
            h.1,
            subst (λ (t : List ℕ). IsFed t follower) (sym same) u.fed,
            subst GoOn (sym same) u.goes,
          ),
        )
    looks_further (Err ReadFault) none h =
        let same : all ≡ u.read = ap (λ (t : List ℕ). u.read ++ t) h ∙ append-nil u.read in (
          all,
          whole_read,
          (
            let size = u.size in let l = ap length same
                in omega (arith, l, size),
            subst GoOn (sym same) u.goes,
          ),
        )
    looks_further (Err (Limit number)) none h =
        let size = u.size in
        let full : length u.read ≡ FED_MOST = omega (arith, size, none) in
        let front : take FED_MOST all ≡ u.read = ap (λ (n : ℕ). take n all) (sym full) ∙ take-append_seam u.read more in
        (all, whole_read, (h.0, omega (arith, long, full, h.1), subst GoOn (sym front) u.goes))
    looks_further (Err (BadLine n)) none h = absurd h
    looks_further (Err WriteFault) none h = absurd h
    looks_further (Err DiskFault) none h = absurd h
    looks_further (Err (Damaged side number)) none h = absurd h
    looks_further (Err (DamagedInput index)) none h = absurd h
    looks_further (Err NoMemory) none h = absurd h
    looks_further (Err (Rotated generation)) none h = absurd h
