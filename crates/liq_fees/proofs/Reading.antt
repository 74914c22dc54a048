-- A line of a staker and its words.
use Rattle.std.proofs.Common.{◌≡◌, ℕ, ◌^◌, ◌<◌, inl, inr, Bool, true, false, cond, List, [], ◌∷◌, Some, None, refl, ap, subst, ◌∙◌, arith}
use Rattle.std.specs.Prelude.{decimal, codes}
use Rattle.std.specs.List.{join_with_byte, AllByRecursion}
use Rattle.std.specs.Str.{bytes_eq}
use Rattle.std.proofs.lemmas.Option.{same_Some, cond_some}
use Rattle.std.proofs.lemmas.Slice.Eq.{bytes_eq-Decides}
use Rattle.liq_text.specs.Reading.{◌>>=◌, pieces_of, number_of, account_of}
use Rattle.liq_text.proofs.PieceLaws.{same_four}
use Rattle.liq_text.proofs.ReadingLaws.{number_of-decimal, number_of-some}
use Rattle.liq_text.proofs.SpellingLaws.{bind_some, either_some, account_takes, account_again, IsPlain, decimal_plain}
use Rattle.liq_text.proofs.LineLaws.{pieces_of-join, join-pieces_of}
use Rattle.liq_fees.specs.Lines.{verb_of, words_of, Spells}
use Rattle.liq_fees.specs.Reading.{out_of, line_by, line_of}
use Rattle.liq_fees.specs.declared.lines.StakeLine.{StakeLine}

-- ---- the verb

out_takes : (word : List ℕ) (out : Bool) → out_of word ≡ Some out → word ≡ verb_of out
unfolding out_of
out_takes word out e = elim (either_some (bytes_eq word (codes "stake")) (Some false)
    (cond (bytes_eq word (codes "unstake")) (Some true) None) out e) [
      | inl g ↦ (bytes_eq-Decides word (codes "stake")).0 g.0 ∙ ap verb_of (same_Some false out g.1)
      | inr g ↦
          let h = cond_some (bytes_eq word (codes "unstake")) true out g.1 in
          (bytes_eq-Decides word (codes "unstake")).0 h.0 ∙ ap verb_of h.1
    ]

out_again : (word : List ℕ) (out : Bool) → word ≡ verb_of out → out_of word ≡ Some out
unfolding out_of
out_again word true e = rw e refl
out_again word false e = rw e refl

-- ---- four words

takes : (at account verb amount : List ℕ) (l : StakeLine) → line_by (number_of at) (account_of account) (out_of verb)
    (number_of amount) ≡ Some l
    → (l.at < 2 ^ 64) × (l.account < 2 ^ 32) × (l.amount < 2 ^ 64) × ((at ∷ account ∷ verb ∷ amount ∷ []) ≡ words_of l)
unfolding line_by
takes at account verb amount l e =
    let a = bind_some (number_of at) (λ at. account_of account >>= λ account. out_of verb >>= λ out.
    number_of amount >>= λ amount. Some (record { at = at; account = account; amount = amount; out = out })) l e in
    let b = bind_some (account_of account) (λ account. out_of verb >>= λ out. number_of amount >>= λ amount.
    Some (record { at = a.0; account = account; amount = amount; out = out })) l a.2 in
    let o = bind_some (out_of verb) (λ out. number_of amount >>= λ amount. Some (record {
      at = a.0;
      account = b.0;
      amount = amount;
      out = out;
    })) l b.2 in
    let n = bind_some (number_of amount) (λ amount. Some (record {
      at = a.0;
      account = b.0;
      amount = amount;
      out = o.0;
    })) l o.2 in
    let is : record { at = a.0; account = b.0; amount = n.0; out = o.0 } ≡ l = same_Some _ l n.2 in
    let at_is = number_of-some at a.0 a.1 in
    let account_is = account_takes account b.0 b.1 in
    let amount_is = number_of-some amount n.0 n.1 in
    subst (λ (l : StakeLine). (l.at < 2 ^ 64) × (l.account < 2 ^ 32) × (l.amount < 2 ^ 64)
    × ((at ∷ account ∷ verb ∷ amount ∷ []) ≡ words_of l)) is
    (at_is.0, account_is.0, amount_is.0, same_four at_is.1 account_is.1 (out_takes verb o.0 o.1) amount_is.1)

pub line_takes : (words : List (List ℕ)) (l : StakeLine) → line_of words ≡ Some l → (l.at < 2 ^ 64)
    × (l.account < 2 ^ 32) × (l.amount < 2 ^ 64) × (words ≡ words_of l)
unfolding line_of
line_takes [] l e = absurd cc
line_takes (at ∷ []) l e = absurd cc
line_takes (at ∷ account ∷ []) l e = absurd cc
line_takes (at ∷ account ∷ verb ∷ []) l e = absurd cc
line_takes (at ∷ account ∷ verb ∷ amount ∷ []) l e = takes at account verb amount l e
line_takes (at ∷ account ∷ verb ∷ amount ∷ more ∷ words) l e = absurd cc

line_again : (l : StakeLine) → l.at < 2 ^ 64 → l.account < 2 ^ 32 → l.amount < 2 ^ 64 → line_of (words_of l) ≡ Some l
unfolding line_of line_by
line_again l at account amount =
    rw (
      number_of-decimal (decimal l.at) l.at at refl,
      account_again (decimal l.account) l.account account refl,
      out_again (verb_of l.out) l.out refl,
      number_of-decimal (decimal l.amount) l.amount amount refl,
    ) refl

-- ---- the line

pub read_is_spelled : (line : List ℕ) (l : StakeLine) → line_of (pieces_of line) ≡ Some l → Spells line l
read_is_spelled line l e =
    let t = line_takes (pieces_of line) l e in
    record { at = t.0; account = t.1; amount = t.2; words = join-pieces_of line ∙ ap (join_with_byte 32) t.3 }

verb_plain : (out : Bool) → IsPlain (verb_of out)
verb_plain true = refl
verb_plain false = refl

words_plain : (l : StakeLine) → l.at < 2 ^ 64 → l.account < 2 ^ 32 → l.amount < 2 ^ 64
    → AllByRecursion IsPlain (words_of l)
words_plain l at account amount = (
  decimal_plain (decimal l.at) l.at at refl,
  (
    decimal_plain (decimal l.account) l.account (omega (arith, account)) refl,
    (verb_plain l.out, (decimal_plain (decimal l.amount) l.amount amount refl, tt)),
  ),
)

pub spelled_is_read : (line : List ℕ) (l : StakeLine) → Spells line l → line_of (pieces_of line) ≡ Some l
spelled_is_read line l s =
    ap line_of (ap pieces_of s.words ∙ pieces_of-join (decimal l.at) (decimal l.account ∷ verb_of l.out
    ∷ decimal l.amount ∷ []) (words_plain l s.at s.account s.amount))
    ∙ line_again l s.at s.account s.amount
