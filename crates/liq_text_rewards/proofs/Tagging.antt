-- Tags, line by line.
use Rattle.std.proofs.Common.{◌≡◌, ℕ, ◌+◌, ◌<◌, ◌≤◌, List, ◌∷◌, ◌++◌, length, get_or, drop, refl, sym, ap, ◌∙◌, append_assoc, append-nil, drop-cons, drop_of_length-le, add-one}
use Rattle.std.specs.Prelude.{fold}
use Rattle.liq_text.specs.Writing.{words_line}
use Rattle.liq_rewards.specs.declared.lines.TagLine.{TagLine}
use Rattle.liq_text_rewards.specs.Tagged.{Tags, refusal_of, replies, reply_words, with_tag}

first_left : (lines : List TagLine) (i : ℕ) (d : TagLine) → i < length lines
    → drop i lines ≡ get_or lines i d ∷ drop (i + 1) lines
first_left lines i d less = rw (add-one, drop-cons lines i d less) refl

-- the tags that are accepted, one line further
pub tags_next : (lines : List TagLine) (i : ℕ) (d : TagLine) (tags new all : Tags) → i < length lines
    → new ≡ with_tag tags (get_or lines i d) → fold with_tag tags (drop i lines) ≡ all
    → fold with_tag new (drop (i + 1) lines) ≡ all
tags_next lines i d tags new all less is so =
    ap (λ (t : Tags). fold with_tag t (drop (i + 1) lines)) is
    ∙ ap (λ (ls : List TagLine). fold with_tag tags ls) (sym (first_left lines i d less))
    ∙ so

-- the replies, one line further
pub replies_next : (lines : List TagLine) (i : ℕ) (d : TagLine) (tags new : Tags) (text more all : List ℕ)
    → i < length lines → new ≡ with_tag tags (get_or lines i d)
    → more ≡ text ++ words_line (reply_words (refusal_of tags (get_or lines i d))) → text ++ replies tags (drop i lines)
    ≡ all → more ++ replies new (drop (i + 1) lines) ≡ all
replies_next lines i d tags new text more all less is put so =
    let rest = replies (with_tag tags (get_or lines i d)) (drop (i + 1) lines) in
    ap (λ (t : Tags). more ++ replies t (drop (i + 1) lines)) is
    ∙ ap (λ (t : List ℕ). t ++ rest) put
    ∙ append_assoc text (words_line (reply_words (refusal_of tags (get_or lines i d)))) rest
    ∙ ap (λ (ls : List TagLine). text ++ replies tags ls) (sym (first_left lines i d less))
    ∙ so

-- no line is left: these are all tags
pub tags_last : (lines : List TagLine) (i : ℕ) (tags all : Tags) → length lines ≤ i → fold with_tag tags (drop i lines)
    ≡ all → tags ≡ all
tags_last lines i tags all le so = ap (λ (ls : List TagLine). fold with_tag tags ls) (sym (drop_of_length-le lines le))
    ∙ so

pub replies_last : (lines : List TagLine) (i : ℕ) (tags : Tags) (text all : List ℕ) → length lines ≤ i
    → text ++ replies tags (drop i lines) ≡ all → text ≡ all
replies_last lines i tags text all le so =
    sym (append-nil text) ∙ ap (λ (ls : List TagLine). text ++ replies tags ls) (sym (drop_of_length-le lines le)) ∙ so
