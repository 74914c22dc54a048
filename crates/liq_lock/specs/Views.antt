-- What a seat knows, and what each kind of step makes of it.
use Rattle.std.specs.Prelude.{ℕ, zero, suc, ◌+◌, ◌-◌, Bool, true, false, cond, ltb, List, [], ◌∷◌, ◌++◌, length, Option, Some, None}
use Rattle.liq_lock.specs.declared.view.Past.{Past}
use Rattle.liq_lock.specs.declared.view.View.{View}

-- one for a ticket, none without
abbrev pub count_of : Option ℕ → ℕ
count_of None = 0
count_of (Some t) = 1

abbrev pub resting : Option ℕ → Bool → Bool → ℕ → Bool
resting None false false (suc k) = true
resting _ _ _ _ = false

abbrev pub turning : Option ℕ → Bool → Bool → ℕ → Bool
turning (Some t) true false (suc k) = true
turning _ _ _ _ = false

-- the one slot is held, and is empty
abbrev pub is_empty_hand : {T : Type 0} → List (ℕ × Option T) → Bool
is_empty_hand ((zero, None) ∷ []) = true
is_empty_hand _ = false

module _ {I : Type 0} where
  abbrev pub waits : View I → ℕ
  waits v = count_of v.ticket

  abbrev pub shares : View I → ℕ
  shares v = v.shares

  -- it has a share and no ticket, is not inside, and no seats are made out of it
  abbrev pub is_at_rest : View I → Bool
  is_at_rest v = resting v.ticket v.inside v.splitting v.shares

  -- it has a share and a ticket, is inside, and no seats are made out of it
  abbrev pub is_turn : View I → Bool
  is_turn v = turning v.ticket v.inside v.splitting v.shares

  abbrev pub past : List ℕ → List I → Past I
  past numbers items = record { stands = numbers; seen = items }

  abbrev pub no_past : Past I
  no_past = past [] []

  -- the longer of two lists, the first if they are as long
  abbrev pub longer : List I → List I → List I
  longer xs ys = cond (ltb (length xs) (length ys)) ys xs

  -- a view that knows nothing and has no share
  abbrev pub blank : View I
  blank = record {
    number = 0;
    stands = [];
    seen = [];
    ticket = None;
    inside = false;
    shares = 0;
    splitting = false;
    next = 0;
    left = no_past;
    right = no_past;
  }

  -- what is left of a view that was joined into another
  abbrev pub spent : View I
  spent = blank

  -- the first view with these shares, when the seats below k are made
  abbrev pub first_with : ℕ → ℕ → View I
  first_with k kept =
      record blank { number = 1; stands = 1 ∷ []; shares = kept; splitting = ltb 1 kept; next = k }

  -- the first view, with all shares
  abbrev pub opener : ℕ → View I
  opener seats = first_with 2 seats

  abbrev pub drew : View I → ℕ → View I
  drew v t = record v { ticket = Some t }

  abbrev pub saw : View I → List I → View I
  saw v log = record v { seen = log; left = no_past; right = no_past }

  abbrev pub entered : View I → List I → View I
  entered v log = record v { inside = true; seen = log; left = no_past; right = no_past }

  abbrev pub outside : View I → View I
  outside v = record v { ticket = None; inside = false }

  -- a split: the view gives one share to a new view, which has the next number and has seen as much
  abbrev pub keeping : View I → View I
  keeping v = record v {
    shares = v.shares - 1;
    splitting = ltb 1 (v.shares - 1);
    next = v.next + 1;
  }

  abbrev pub dealt : View I → View I
  dealt v = record v {
    number = v.next;
    stands = v.next ∷ [];
    shares = 1;
    splitting = false;
    next = 0;
  }

  -- a view into which another was joined: it answers for the numbers of both, has the shares of
  -- both, and has seen the longer of the two histories
  abbrev pub joined : View I → View I → View I
  joined v w = record v {
    stands = v.stands ++ w.stands;
    seen = longer v.seen w.seen;
    shares = v.shares + w.shares;
    left = past v.stands v.seen;
    right = past w.stands w.seen;
  }

  -- the one view of a seat
  abbrev pub view_in : List (View I) → View I
  view_in [] = spent
  view_in (v ∷ vs) = v

  -- the first view, when the seats below k are made
  abbrev pub dealer : ℕ → ℕ → View I
  dealer k n = first_with k (n + 2 - k)

  -- the view of a seat that was made for one share
  abbrev pub newcomer : ℕ → ℕ → View I
  newcomer k next = record blank { number = k; stands = k ∷ []; shares = 1; next = next }
