-- What a word of the program works on.

-- the outside at a moment: the source, the sink, and the left and the right disk
pub record Outside (S K D : Type 0) : Type 0 where
  pub source : S
  pub sink : K
  pub left : D
  pub right : D
