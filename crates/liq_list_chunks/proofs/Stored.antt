-- Chunks as vectors have them: what is read of one, and what the lists are once one is cut in two or taken out, or two
-- are made one.
use Rattle.std.proofs.Common.{◌≡◌, ℕ, ◌<◌, ◌+◌, suc, zero, List, [], ◌∷◌, ◌++◌, length, get_or, set, take, drop, refl, sym, ap, ◌∙◌, arith, map, subst}
use Rattle.std.proofs.lemmas.List.{take-append-drop, get_or-map, get_or_read, length-map, map-set, drop_more, set-get_or}
use Rattle.std.proofs.lemmas.List.Edits.{get_or-insert_below, get_or-remove_below}
use Rattle.std.specs.Prelude.{insert, remove, Vec}
use Rattle.liq_types.specs.Ranked.{Ranked, IsAscending}
use Rattle.liq_list_chunks.specs.Chunks.{joined, BelongsTo}
use Rattle.liq_list_chunks.specs.Entries.{with_entry, without_entry}
use Rattle.liq_list_chunks.proofs.Around.{chunk_ascending, chunk_entered, chunk_kept, chunk_left, cut, together}

module _ {Z : Type 0} where
  abbrev pub items_of : Vec Ranked Z → List Ranked
  items_of v = v.items

  pub read_rest : (rests : List (Vec Ranked Z)) (i : ℕ) (r : Vec Ranked Z) → i < length rests → r ≡ get_or rests i r
      → r.items ≡ get_or (map items_of rests) i []
  read_rest rests i r h is = ap items_of is ∙ sym (get_or-map items_of rests i r [] h)

  -- a chunk and its first, as they are read
  pub read_chunk : (fs : List Ranked) (rests : List (Vec Ranked Z)) (i : ℕ) (e f : Ranked) (r : Vec Ranked Z)
      → i < length fs → length fs ≡ length rests → f ≡ get_or fs i f → r ≡ get_or rests i r
      → f ∷ r.items ≡ get_or fs i e ∷ get_or (map items_of rests) i []
  read_chunk fs rests i e f r h k is was =
      ap (λ (g : Ranked). g ∷ r.items) (get_or_read fs i f h is e)
      ∙ ap (λ (l : List Ranked). get_or fs i e ∷ l) (read_rest rests i r (omega arith) was)

  -- the chunk to which an entry belongs, as it is read: f and behind it r
  module _ (fs : List Ranked) (rests : List (Vec Ranked Z)) (i : ℕ) (e f : Ranked) (r : Vec Ranked Z)
      (belongs : BelongsTo fs e i) (len : length fs ≡ length rests) (ascending : IsAscending (joined fs
      (map items_of rests))) (f_is : f ≡ get_or fs i f) (r_is : r ≡ get_or rests i r) where
    lens : length fs ≡ length (map items_of rests)
    lens = len ∙ sym (length-map rests items_of)

    was : f ∷ r.items ≡ get_or fs i e ∷ get_or (map items_of rests) i []
    was = read_chunk fs rests i e f r belongs.within len f_is r_is

    pub read_ascending : IsAscending (f ∷ r.items)
    read_ascending =
        subst IsAscending (sym was) (chunk_ascending fs (map items_of rests) i e belongs.within lens ascending)

    -- what it is then, g and behind it q, and what the entries are
    module _ (g : Ranked) (q : Vec Ranked Z) where
      put : joined (set fs i g) (map items_of (set rests i q))
          ≡ joined (set fs i g) (set (map items_of rests) i q.items)
      put = ap (λ (l : List (List Ranked)). joined (set fs i g) l) (map-set items_of rests i q)

      pub entered_stored : g ∷ q.items ≡ with_entry (f ∷ r.items) e
          → joined (set fs i g) (map items_of (set rests i q)) ≡ with_entry (joined fs (map items_of rests)) e
      entered_stored is =
          put
          ∙ chunk_entered fs (map items_of rests) i e belongs.within lens ascending e belongs.low belongs.high g q.items
          (is ∙ ap (λ (l : List Ranked). with_entry l e) was)

      pub kept_stored : g ∷ q.items ≡ f ∷ r.items
          → joined (set fs i g) (map items_of (set rests i q)) ≡ joined fs (map items_of rests)
      kept_stored is =
          put ∙ chunk_kept fs (map items_of rests) i e belongs.within lens ascending g q.items (is ∙ was)

      pub left_stored : g ∷ q.items ≡ without_entry (f ∷ r.items) e
          → joined (set fs i g) (map items_of (set rests i q)) ≡ without_entry (joined fs (map items_of rests)) e
      left_stored is =
          put
          ∙ chunk_left fs (map items_of rests) i e belongs.within lens ascending e belongs.low belongs.high g q.items
          (is ∙ ap (λ (l : List Ranked). without_entry l e) was)

  map_insert : (rests : List (Vec Ranked Z)) (j : ℕ) (r : Vec Ranked Z) → map items_of (insert rests j r)
      ≡ insert (map items_of rests) j r.items
  map_insert [] zero r = refl
  map_insert [] (suc j) r = refl
  map_insert (q ∷ rests) zero r = refl
  map_insert (q ∷ rests) (suc j) r = ap (λ (l : List (List Ranked)). q.items ∷ l) (map_insert rests j r)

  pub map_remove : (rests : List (Vec Ranked Z)) (i : ℕ) → map items_of (remove rests i) ≡ remove (map items_of rests) i
  map_remove [] zero = refl
  map_remove [] (suc i) = refl
  map_remove (q ∷ rests) zero = refl
  map_remove (q ∷ rests) (suc i) = ap (λ (l : List (List Ranked)). q.items ∷ l) (map_remove rests i)

  pub cut_in_two : (fs more : List Ranked) (rests others : List (Vec Ranked Z)) (i : ℕ) (f : Ranked)
      (chunk second seen half : Vec Ranked Z) → i < length fs → length fs ≡ length rests → chunk ≡ get_or rests i chunk
      → 31 < length chunk.items → f ≡ get_or chunk.items 31 f → second.items ≡ drop 32 chunk.items
      → more ≡ insert fs (i + 1) f → others ≡ insert rests (i + 1) second → seen ≡ get_or others i seen
      → half.items ≡ take 31 seen.items → joined more (map items_of (set others i half))
      ≡ joined fs (map items_of rests)
  cut_in_two fs more rests others i f chunk second seen half h k was full first_is second_is more_is others_is seen_is
      half_is =
      ap (λ (l : List Ranked). joined l (map items_of (set others i half))) (more_is ∙ ap (λ n. insert fs n f) next)
      ∙ ap (λ (l : List (List Ranked)). joined (insert fs (suc i) f) l) lists_are
      ∙ cut fs (map items_of rests) i f half.items second.items h (k ∙ sym (length-map rests items_of)) whole where
        next : i + 1 ≡ suc i
        next = omega arith

        lists_are : map items_of (set others i half) ≡ set (insert (map items_of rests) (suc i) second.items) i
            half.items
        lists_are =
            map-set items_of others i half
            ∙ ap (λ (l : List (List Ranked)). set l i half.items) (ap (λ (l : List (Vec Ranked Z)). map items_of l)
            (others_is ∙ ap (λ n. insert rests n second) next) ∙ map_insert rests (suc i) second)

        seen_chunk : seen ≡ chunk
        seen_chunk =
            seen_is
            ∙ ap (λ (l : List (Vec Ranked Z)). get_or l i seen) others_is
            ∙ get_or-insert_below rests (i + 1) second seen i (omega arith) (omega arith)
            ∙ sym (get_or_read rests i chunk (omega arith) was seen)

        whole : get_or (map items_of rests) i [] ≡ half.items ++ (f ∷ second.items)
        whole =
            sym (read_rest rests i chunk (omega arith) was)
            ∙ sym (take-append-drop 31 chunk.items)
            ∙ ap (λ (l : List Ranked). take 31 chunk.items ++ l) (drop_more chunk.items 31 f full
            ∙ ap (λ (g : Ranked). g ∷ drop 32 chunk.items) (sym first_is)
            ∙ ap (λ (l : List Ranked). f ∷ l) (sym second_is))
            ∙ ap (λ (l : List Ranked). l ++ (f ∷ second.items)) (ap (λ (v : Vec Ranked Z). take 31 v.items)
            (sym seen_chunk) ∙ sym half_is)

  -- a chunk that got more room
  pub same_chunks : (rests : List (Vec Ranked Z)) (i : ℕ) (chunk held : Vec Ranked Z) → i < length rests
      → chunk ≡ get_or rests i chunk → held.items ≡ chunk.items → map items_of (set rests i held) ≡ map items_of rests
  same_chunks rests i chunk held h was is =
      map-set items_of rests i held
      ∙ ap (λ (l : List Ranked). set (map items_of rests) i l) (is ∙ read_rest rests i chunk h was)
      ∙ set-get_or (map items_of rests) i []

  -- a chunk that got more room, and the one behind it that is taken out
  module _ (rests others : List (Vec Ranked Z)) (i j : ℕ) (chunk held second seen : Vec Ranked Z) (next : j
      ≡ suc i) (h : j < length rests)
      (was : chunk ≡ get_or rests i chunk) (held_is : held.items ≡ chunk.items)
      (second_is : second ≡ get_or (set rests i held) j second) (others_is : others ≡ remove (set rests i held) j)
      (seen_is : seen ≡ get_or others i seen) where
    abbrev held_rests : List (Vec Ranked Z)
    held_rests = set rests i held

    pub same : map items_of held_rests ≡ map items_of rests
    same = same_chunks rests i chunk held (omega arith) was held_is

    count : length held_rests ≡ length rests
    count = sym (length-map held_rests items_of) ∙ ap (λ (l : List (List Ranked)). length l) same
        ∙ length-map rests items_of

    pub second_read : second.items ≡ get_or (map items_of rests) j []
    second_read =
        read_rest held_rests j second (omega (arith, count)) second_is
        ∙ ap (λ (l : List (List Ranked)). get_or l j []) same

    pub seen_read : seen.items ≡ get_or (map items_of rests) i []
    seen_read =
        read_rest held_rests i seen (omega (arith, count)) (seen_is
        ∙ ap (λ (l : List (Vec Ranked Z)). get_or l i seen) others_is
        ∙ get_or-remove_below held_rests j seen i (omega arith) (omega (arith, count)))
        ∙ ap (λ (l : List (List Ranked)). get_or l i []) same

    -- it goes behind the first one's
    pub made_one : (fs : List Ranked) (f : Ranked) (whole : Vec Ranked Z) → length fs ≡ length rests → f ≡ get_or fs j f
        → whole.items ≡ seen.items ++ (f ∷ second.items) → joined (remove fs j) (map items_of (set others i whole))
        ≡ joined fs (map items_of rests)
    made_one fs f whole k first_is whole_is =
        ap (λ n. joined (remove fs n) (map items_of (set others i whole))) next
        ∙ ap (λ (l : List (List Ranked)). joined (remove fs (suc i)) l) lists_are
        ∙ together fs rs i f (omega arith) (k ∙ sym (length-map rests items_of)) where
          rs : List (List Ranked)
          rs = map items_of rests

          whole_read : whole.items ≡ get_or rs i [] ++ (get_or fs (suc i) f ∷ get_or rs (suc i) [])
          whole_read =
              whole_is
              ∙ ap (λ (l : List Ranked). l ++ (f ∷ second.items)) seen_read
              ∙ ap (λ (l : List Ranked). get_or rs i [] ++ (f ∷ l)) (second_read ∙ ap (λ n. get_or rs n []) next)
              ∙ ap (λ (g : Ranked). get_or rs i [] ++ (g ∷ get_or rs (suc i) [])) (first_is
              ∙ ap (λ n. get_or fs n f) next)

          lists_are : map items_of (set others i whole) ≡ set (remove rs (suc i)) i (get_or rs i []
              ++ (get_or fs (suc i) f ∷ get_or rs (suc i) []))
          lists_are =
              map-set items_of others i whole
              ∙ ap (λ (l : List (List Ranked)). set l i whole.items) (ap (λ (l : List (Vec Ranked Z)). map items_of l)
              others_is ∙ map_remove held_rests j ∙ ap (λ n. remove (map items_of held_rests) n) next
              ∙ ap (λ (l : List (List Ranked)). remove l (suc i)) same)
              ∙ ap (λ (l : List Ranked). set (remove rs (suc i)) i l) whole_read
