-- The commands that are found on a disk are as they were read.
use Rattle.std.proofs.Common.{◌≡◌, ℕ, ◌+◌, ◌==◌, List, [], ◌∷◌, ◌++◌, take, drop, Option, Some, None, Result, Ok, Err, Bool, true, false, not, if◌then◌else◌, refl, sym, ap, subst, arith}
use Rattle.std.specs.Prelude.{All}
use Rattle.std.specs.Str.{bytes_eq}
use Rattle.std.proofs.lemmas.Bool.Decides.{nat_tests}
use Rattle.std.proofs.lemmas.List.Elements.{All-cons, All-head, All-nil, All-tail}
use Rattle.liq_types.specs.declared.hints.HintWords.{HintWords}
use Rattle.liq_types.specs.declared.requests.Call.{Call}
use Rattle.liq_types.specs.declared.requests.Call.TheVariants.{Price, Advance, Fund, Take, Send, Adjust, Close, Provide, Withdraw, GainToTrove, Liquidate, LiquidateLowest, Redeem, Claim, Rotate}
use Rattle.liq_types.specs.declared.requests.Call.TheVariants as calls
use Rattle.liq_types.specs.declared.requests.Command.{Command}
use Rattle.liq_types.specs.Verbs.{is_rotate}
use Rattle.liq_wire.specs.Fields.{Fields, call_in, command_in, command_of, command_or, fields_at, heard, heard_hints, hint_of, hint_word, hints_of, misfit}
use Rattle.liq_disk_header.specs.RecordDigest.{record_digest}
use Rattle.liq_journal.specs.declared.damage.What.{What}
use Rattle.liq_journal.specs.declared.damage.What.TheVariants.{Digest, Form}
use Rattle.liq_journal.specs.Records.{records}
use Rattle.liq_journal.specs.Written.{Open, Written, command_from, found_on, found_records, most_records, record_on, start_of}
use Rattle.liq_journal.proofs.Bodies.{found_no_rotation}
use Rattle.liq_journal.proofs.Heading.{is_open, record_open}
use Rattle.liq_disk_pair.specs.Commands.{read_back}

-- ---- what fields hold

word_back : (n : ℕ) → hint_word (hint_of n) ≡ n
word_back n = grind (arith, nat_tests)

hints_heard : (before after : ℕ) → heard_hints (hints_of before after) ≡ hints_of before after
hints_heard before after = λ i. hints_of (word_back before i) (word_back after i)

-- one of two calls, each of which is so
either : (b : Bool) (x y : Call) → heard x ≡ x → heard y ≡ y → heard (if b then x else y) ≡ (if b then x else y)
either true x y is other = is
either false x y is other = other

module _ (f : Fields) where
  hints : HintWords
  hints = hints_of f.before f.after

  same : heard_hints (hints_of f.before f.after) ≡ hints_of f.before f.after
  same = hints_heard f.before f.after

  call_heard : heard (call_in f) ≡ call_in f
  call_heard =
      either (f.kind == 1) (Price f.amount) _ refl
      (either (f.kind == 2) (Advance f.amount) _ refl
      (either (f.kind == 3) (Fund f.account f.amount) _ refl
      (either (f.kind == 4) (Take f.account f.amount) _ refl
      (either (f.kind == 5) (Send f.account f.other f.amount) _ refl
      (either (f.kind == 6) (calls.Open f.account f.amount f.amount_2 f.amount_3 (hints_of f.before f.after)) _
      (ap (λ (h : HintWords). calls.Open f.account f.amount f.amount_2 f.amount_3 h) same)
      (either (f.kind == 7) (Adjust f.account f.amount f.amount_2 f.amount_3 f.amount_4 f.amount_5
      (hints_of f.before f.after)) _
      (ap (λ (h : HintWords). Adjust f.account f.amount f.amount_2 f.amount_3 f.amount_4 f.amount_5 h) same)
      (either (f.kind == 8) (Close f.account) _ refl
      (either (f.kind == 9) (Provide f.account f.amount) _ refl
      (either (f.kind == 10) (Withdraw f.account f.amount) _ refl
      (either (f.kind == 11) (GainToTrove f.account (hints_of f.before f.after)) _
      (ap (λ (h : HintWords). GainToTrove f.account h) same)
      (either (f.kind == 12) (Liquidate f.account f.other) _ refl
      (either (f.kind == 13) (LiquidateLowest f.account f.amount) _ refl
      (either (f.kind == 14) (Redeem f.account f.amount f.amount_2 (hints_of f.before f.after)) _
      (ap (λ (h : HintWords). Redeem f.account f.amount f.amount_2 h) same)
      (either (f.kind == 15) (Claim f.account) Rotate refl refl))))))))))))))

  in_heard : read_back (command_in f) ≡ command_in f
  unfolding command_in
  in_heard = ap (λ (call : Call). record { client = f.client; number = f.number; call = call }) call_heard

-- ---- what a record holds

or_heard : (place : Option ℕ) (f : Fields) (c : Command) → command_or place (command_in f) ≡ Ok c → read_back c ≡ c
or_heard (Some place) f c is = absurd (cc (is))
or_heard None f c is = let one : command_in f ≡ c = cc (is) in subst (λ (d : Command). read_back d ≡ d) one (in_heard f)

body_heard : (body : List ℕ) (c : Command) → command_of body ≡ Ok c → read_back c ≡ c
unfolding command_of
body_heard body c is = or_heard (misfit (fields_at body)) (fields_at body) c is

unless_heard : (b : Bool) (place : ℕ) (read : Command) (c : Command)
    → ◌≡◌ {A = Result Command What} (if b then Err (Form place) else Ok read) (Ok c) → read ≡ c
unless_heard true place read c is = absurd (cc (is))
unless_heard false place read c is = cc (is)

from_heard : (place : ℕ) (read : Result Command ℕ) (c : Command) → command_from place read ≡ Ok c → read ≡ Ok c
from_heard place (Err at) c is = absurd (cc (is))
from_heard place (Ok other) c is = ap Ok (unless_heard (is_rotate other.call) place other c is)

digest_heard : (differs : Bool) (what : What) (place : ℕ) (read : Result Command ℕ) (c : Command)
    → (if differs then Err what else command_from place read) ≡ Ok c → command_from place read ≡ Ok c
digest_heard true what place read c is = absurd (cc (is))
digest_heard false what place read c is = is

record_heard : (generation index place : ℕ) (raw : List ℕ) (c : Command) → record_on generation index place raw ≡ Ok c
    → read_back c ≡ c
unfolding record_on
record_heard generation index place raw c is =
    body_heard (take 96 raw) c (from_heard place (command_of (take 96 raw)) c
    (digest_heard (not (bytes_eq (drop 96 raw) (record_digest generation index (take 96 raw)))) (Digest (drop 96 raw)
    (record_digest generation index (take 96 raw))) place (command_of (take 96 raw)) c is))

-- ---- what a journal holds

abbrev pub AreHeard : List Command → Type 0
AreHeard commands = All (λ (c : Command). read_back c ≡ c) commands

records_heard : (generation limit : ℕ) (checkpoint : List ℕ) (index place : ℕ) (raws : List (List ℕ)) (w : Written)
    → found_records generation limit checkpoint index place raws ≡ Open w → AreHeard w.commands
records_heard generation limit checkpoint index place [] w is =
    let e : record { generation = generation; limit = limit; checkpoint = checkpoint; commands = [] } ≡ w = cc in
    subst (λ (v : Written). AreHeard v.commands) e (All-nil (λ (c : Command). read_back c ≡ c))
records_heard generation limit checkpoint index place (raw ∷ raws) w is =
    let o = record_open index (record_on generation index (place + 1) raw) (found_records generation limit checkpoint
    (index + 1) (place + 129) raws) w is in
    let rest = records_heard generation limit checkpoint (index + 1) (place + 129) raws o.others o.behind in
    subst (λ (v : Written). AreHeard v.commands) (sym o.together)
    (All-cons (λ (c : Command). read_back c ≡ c) o.command o.others.commands
    (record_heard generation index (place + 1) raw o.command o.is) rest)

pub found_heard : (odd : Bool) (bytes : List ℕ) (w : Written) → found_on odd bytes ≡ Open w → AreHeard w.commands
found_heard odd bytes w found = records_heard w.generation w.limit w.checkpoint 1 (start_of w)
    (records most_records (drop (start_of w) bytes)) w (is_open odd bytes w found).behind

-- the last of some
pub last_of_all : (P : Command → Type 0) (cs : List Command) (c : Command) → All P (cs ++ c ∷ []) → P c
last_of_all P [] c all = All-head P c [] all
last_of_all P (first ∷ cs) c all = last_of_all P cs c (All-tail P first (cs ++ c ∷ []) all)

both_all : (P Q : Command → Type 0) (cs : List Command) → All P cs → All Q cs → All (λ (c : Command). P c × Q c) cs
both_all P Q [] first second = All-nil (λ (c : Command). P c × Q c)
both_all P Q (c ∷ cs) first second = All-cons (λ (d : Command). P d × Q d) c cs
    (All-head P c cs first, All-head Q c cs second)
    (both_all P Q cs (All-tail P c cs first) (All-tail Q c cs second))

pub found_read_back : (odd : Bool) (bytes : List ℕ) (w : Written) → found_on odd bytes ≡ Open w
    → All (λ (c : Command). (read_back c ≡ c) × (is_rotate c.call ≡ false)) w.commands
found_read_back odd bytes w found =
    both_all (λ (c : Command). read_back c ≡ c) (λ (c : Command). is_rotate c.call ≡ false) w.commands
    (found_heard odd bytes w found) (found_no_rotation odd bytes w found)
