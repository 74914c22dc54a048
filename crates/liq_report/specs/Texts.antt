-- Texts in JSON, without spaces.
use Rattle.std.specs.Prelude.{ℕ, List, ◌++◌, codes, map}
use Rattle.std.specs.List.{join_with_byte}

-- a member of an object: its name, and its value's text
abbrev pub member_text : List ℕ × List ℕ → List ℕ
member_text m = codes "\"" ++ m.0 ++ codes "\":" ++ m.1

-- an object of these members, in this order
abbrev pub object_text : List (List ℕ × List ℕ) → List ℕ
object_text members = codes "{" ++ join_with_byte 44 (map member_text members) ++ codes "}"

-- a list of values with these texts
abbrev pub list_text : List (List ℕ) → List ℕ
list_text items = codes "[" ++ join_with_byte 44 items ++ codes "]"

-- a string, of a text that needs no escape
abbrev pub string_text : List ℕ → List ℕ
string_text text = codes "\"" ++ text ++ codes "\""
