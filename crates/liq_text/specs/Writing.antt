-- Words written one after the other.
use Rattle.std.specs.Prelude.{ℕ, ◌<◌, ◌^◌, List, [], ◌∷◌, ◌++◌, map, take}
use Rattle.std.specs.Prelude.{Option, Some, None, codes, decimal}
use Rattle.std.specs.List.{flat_map, join_with_byte}
use Rattle.liq_types.specs.declared.requests.Request.{Request}
use Rattle.liq_types.specs.declared.hints.HintWords.{HintWords}
use Rattle.liq_text.specs.declared.requests.Named.{Named}
use Rattle.liq_text.specs.Spelling.{Word, text, account, number, hint, request_words}

-- each piece with a space in front of it
abbrev pub spaced : List (List ℕ) → List ℕ
spaced pieces = flat_map (λ piece. 32 ∷ piece) pieces

-- words with one space between two, and the line end
abbrev pub words_line : List (List ℕ) → List ℕ
words_line words = join_with_byte 32 words ++ 10 ∷ []

-- how a word is written
abbrev pub piece_of : Word → List ℕ
piece_of (text t) = t
piece_of (account a) = decimal a
piece_of (number n) = decimal n
piece_of (hint None) = codes "-"
piece_of (hint (Some a)) = decimal a

-- the line that is written for a request
abbrev pub line_of : Request → List ℕ
line_of request = join_with_byte 32 (map piece_of (request_words request))

-- the words of a command's hint, if it has one
abbrev pub hint_words : Option HintWords → List Word
hint_words None = []
hint_words (Some h) = hint h.prev ∷ hint h.next ∷ []

-- the words of a name and of what stands behind it
abbrev pub words_in : Named → List Word
words_in named = text named.name.now ∷ (map number (take named.count named.numbers)
    ++ hint_words named.hint)

-- a name, numbers and hints, each with a space in front of it
abbrev pub written : List Word → List ℕ
written words = spaced (map piece_of words)

-- a number of the word's type has this word
abbrev pub IsInRange : Word → Type 0
IsInRange (text t) = Unit {0}
IsInRange (account a) = a < 2 ^ 32
IsInRange (number n) = n < 2 ^ 64
IsInRange (hint h) = Unit {0}
