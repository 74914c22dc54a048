-- A line that names a front end and its words.
use Rattle.std.proofs.Common.{◌≡◌, ℕ, ◌^◌, ◌<◌, List, [], ◌∷◌, Some, refl, ap, subst, ◌∙◌, arith}
use Rattle.std.specs.Prelude.{decimal, codes}
use Rattle.std.specs.List.{join_with_byte, AllByRecursion}
use Rattle.std.specs.Str.{bytes_eq}
use Rattle.std.proofs.lemmas.Option.{same_Some, cond_some}
use Rattle.std.proofs.lemmas.Slice.Eq.{bytes_eq-Decides}
use Rattle.liq_text.specs.Reading.{◌>>=◌, pieces_of, number_of, account_of}
use Rattle.liq_text.proofs.PieceLaws.{same_four}
use Rattle.liq_text.proofs.ReadingLaws.{number_of-decimal, number_of-some}
use Rattle.liq_text.proofs.SpellingLaws.{bind_some, account_takes, account_again, IsPlain, decimal_plain}
use Rattle.liq_text.proofs.LineLaws.{pieces_of-join, join-pieces_of}
use Rattle.liq_rewards.specs.Lines.{words_of, Spells}
use Rattle.liq_rewards.specs.Reading.{tag_of, line_by, line_of}
use Rattle.liq_rewards.specs.declared.lines.TagLine.{TagLine}

-- ---- four words

tag_takes : (word : List ℕ) (u : Unit {0}) → tag_of word ≡ Some u → word ≡ codes "tag"
unfolding tag_of
tag_takes word u e = (bytes_eq-Decides word (codes "tag")).0 (cond_some (bytes_eq word (codes "tag")) tt u e).0

takes : (verb account front rate : List ℕ) (l : TagLine) → line_by (tag_of verb) (account_of account) (account_of front)
    (number_of rate) ≡ Some l
    → (l.account < 2 ^ 32) × (l.front < 2 ^ 32) × (l.kept_part < 2 ^ 64) × ((verb ∷ account ∷ front ∷ rate ∷ [])
    ≡ words_of l)
unfolding line_by
takes verb account front rate l e =
    let v = bind_some (tag_of verb) (λ tag. account_of account >>= λ account. account_of front >>= λ front.
    number_of rate >>= λ rate. Some (record { account = account; front = front; kept_part = rate })) l e in
    let a = bind_some (account_of account) (λ account. account_of front >>= λ front. number_of rate >>= λ rate.
    Some (record { account = account; front = front; kept_part = rate })) l v.2 in
    let f = bind_some (account_of front) (λ front. number_of rate >>= λ rate. Some (record {
      account = a.0;
      front = front;
      kept_part = rate;
    })) l a.2 in
    let r = bind_some (number_of rate) (λ rate. Some (record { account = a.0; front = f.0; kept_part = rate })) l f.2 in
    let is : record { account = a.0; front = f.0; kept_part = r.0 } ≡ l = same_Some _ l r.2 in
    let account_is = account_takes account a.0 a.1 in
    let front_is = account_takes front f.0 f.1 in
    let rate_is = number_of-some rate r.0 r.1 in
    subst (λ (l : TagLine). (l.account < 2 ^ 32) × (l.front < 2 ^ 32) × (l.kept_part < 2 ^ 64)
    × ((verb ∷ account ∷ front ∷ rate ∷ []) ≡ words_of l)) is
    (account_is.0, front_is.0, rate_is.0, same_four (tag_takes verb v.0 v.1) account_is.1 front_is.1 rate_is.1)

pub line_takes : (words : List (List ℕ)) (l : TagLine) → line_of words ≡ Some l → (l.account < 2 ^ 32)
    × (l.front < 2 ^ 32) × (l.kept_part < 2 ^ 64) × (words ≡ words_of l)
unfolding line_of
line_takes [] l e = absurd cc
line_takes (verb ∷ []) l e = absurd cc
line_takes (verb ∷ account ∷ []) l e = absurd cc
line_takes (verb ∷ account ∷ front ∷ []) l e = absurd cc
line_takes (verb ∷ account ∷ front ∷ rate ∷ []) l e = takes verb account front rate l e
line_takes (verb ∷ account ∷ front ∷ rate ∷ more ∷ words) l e = absurd cc

line_again : (l : TagLine) → l.account < 2 ^ 32 → l.front < 2 ^ 32 → l.kept_part < 2 ^ 64 → line_of (words_of l)
    ≡ Some l
unfolding line_of line_by tag_of
line_again l account front rate =
    rw (
      account_again (decimal l.account) l.account account refl,
      account_again (decimal l.front) l.front front refl,
      number_of-decimal (decimal l.kept_part) l.kept_part rate refl,
    ) refl

-- ---- the line

pub read_is_spelled : (line : List ℕ) (l : TagLine) → line_of (pieces_of line) ≡ Some l → Spells line l
read_is_spelled line l e =
    let t = line_takes (pieces_of line) l e in
    record { account = t.0; front = t.1; rate = t.2; words = join-pieces_of line ∙ ap (join_with_byte 32) t.3 }

words_plain : (l : TagLine) → l.account < 2 ^ 32 → l.front < 2 ^ 32 → l.kept_part < 2 ^ 64
    → AllByRecursion IsPlain (words_of l)
words_plain l account front rate = (
  refl,
  (
    decimal_plain (decimal l.account) l.account (omega (arith, account)) refl,
    (
      decimal_plain (decimal l.front) l.front (omega (arith, front)) refl,
      (decimal_plain (decimal l.kept_part) l.kept_part rate refl, tt),
    ),
  ),
)

pub spelled_is_read : (line : List ℕ) (l : TagLine) → Spells line l → line_of (pieces_of line) ≡ Some l
spelled_is_read line l s =
    ap line_of (ap pieces_of s.words ∙ pieces_of-join (codes "tag") (decimal l.account ∷ decimal l.front
    ∷ decimal l.kept_part ∷ []) (words_plain l s.account s.front s.rate))
    ∙ line_again l s.account s.front s.rate
