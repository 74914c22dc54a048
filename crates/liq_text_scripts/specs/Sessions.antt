use Rattle.std.specs.Prelude.{ℕ, List, [], ◌∷◌}

-- the sessions, in ascending order
abbrev pub sessions : List ℕ
sessions = 1 ∷ 2 ∷ 3 ∷ 4 ∷ 5 ∷ 6 ∷ 7 ∷ 8 ∷ []
