-- What depositors say of front ends, line by line.
use Rattle.std.specs.Prelude.{ℕ, ◌-◌, nat_le, nat_lt, List, [], ◌∷◌, ◌++◌, Option, None, Some}
use Rattle.std.specs.Prelude.{fold, map, codes, decimal, if◌then◌else◌}
use Rattle.std.specs.Option.{is_some}
use Rattle.liq_num.specs.Quotient.{floor_of}
use Rattle.liq_types.specs.declared.amounts.TheConstants.{ACCOUNTS, ONE}
use Rattle.liq_types.specs.Tables.{Table, at, put}
use Rattle.liq_text.specs.Writing.{words_line}
use Rattle.liq_rewards.specs.declared.lines.TagLine.{TagLine}
use Rattle.liq_text_rewards.specs.declared.tags.TagRefusal.{TagRefusal}
use Rattle.liq_text_rewards.specs.declared.tags.TagRefusal.TheVariants.{AccountRange, TagRate, TagTwice}

-- the tags that were accepted, each under its account
abbrev pub Tags : Type 0
Tags = Table TagLine

-- An account names one front end: a further tag of it is refused, but none counts that was refused
-- itself.
abbrev pub refusal_of : Tags → TagLine → Option TagRefusal
refusal_of tags t =
    if nat_le ACCOUNTS t.account then Some (AccountRange t.account)
    else if nat_le ACCOUNTS t.front then Some (AccountRange t.front)
    else if nat_lt ONE t.kept_part then Some (TagRate t.kept_part ONE)
    else if is_some (at tags t.account) then Some (TagTwice t.account)
    else None

abbrev pub unless_refused : Option TagRefusal → Tags → TagLine → Tags
unless_refused (Some refusal) tags t = tags
unless_refused None tags t = put tags t.account t

abbrev pub with_tag : Tags → TagLine → Tags
with_tag tags t = unless_refused (refusal_of tags t) tags t

abbrev pub tags_of : List TagLine → Tags
tags_of lines = fold with_tag [] lines

-- ---- replies

-- the code and its values
abbrev pub numbers_of : TagRefusal → List ℕ
numbers_of (AccountRange value) = 13 ∷ value ∷ []
numbers_of (TagRate rate limit) = 45 ∷ rate ∷ limit ∷ []
numbers_of (TagTwice account) = 46 ∷ account ∷ []

abbrev pub reply_words : Option TagRefusal → List (List ℕ)
reply_words None = codes "ok" ∷ []
reply_words (Some refusal) = codes "no" ∷ map decimal (numbers_of refusal)

-- a line for each of these, where so many were accepted before
abbrev pub replies : Tags → List TagLine → List ℕ
replies tags [] = []
replies tags (t ∷ ts) = words_line (reply_words (refusal_of tags t)) ++ replies (with_tag tags t) ts

-- ---- what a tag does

-- what the depositor keeps of its reward; the rest is the front end's
abbrev pub kept_of : ℕ → Option TagLine → ℕ
kept_of reward None = reward
kept_of reward (Some t) = floor_of reward t.kept_part ONE

abbrev pub given_of : ℕ → Option TagLine → ℕ
given_of reward tag = reward - kept_of reward tag

abbrev pub front_word : Option TagLine → List ℕ
front_word None = codes "-"
front_word (Some t) = decimal t.front
