-- What is told of a disk's content, if it is told.
use Rattle.std.proofs.Common.{ℕ, List, Option, Some, None, IfSome}

pub if_some : (o : Option (List ℕ)) (P Q : List ℕ → Type 0) → ((held : List ℕ) → P held → Q held) → IfSome o P
    → IfSome o Q
if_some None P Q f p = tt
if_some (Some held) P Q f p = f held p

pub if_both : (o : Option (List ℕ)) (P Q R : List ℕ → Type 0) → ((held : List ℕ) → P held → Q held → R held)
    → IfSome o P → IfSome o Q → IfSome o R
if_both None P Q R f p q = tt
if_both (Some held) P Q R f p q = f held p q
