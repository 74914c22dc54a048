-- The nodes of entries that come all at once are linked in their order.
use Rattle.std.proofs.Common.{◌≡◌, ℕ, suc, ◌+◌, ◌<◌, ◌≤◌, cond, List, [], ◌∷◌, ◌++◌, length, get_or, take, refl, sym, ap, ◌∙◌, subst, Some, None, Option, arith, append_assoc, append-nil, length-append}
use Rattle.std.specs.Prelude.{◌==◌}
use Rattle.std.proofs.lemmas.Bool.Decides.{nat_tests}
use Rattle.std.proofs.Math.Seq.{take-suc}
use Rattle.std.proofs.lemmas.List.{get_or_at, length-take-le}
use Rattle.liq_types.specs.Ranked.{Ranked, IsAscending}
use Rattle.liq_order.specs.Chained.{before, below, chained_node, chained, rows_from, numbered}
use Rattle.liq_order.specs.Listed.{AreDistinct}
use Rattle.liq_order.specs.Accounts.{Row, row_of}
use Rattle.liq_order.specs.declared.places.Node.{Node}
use Rattle.liq_order.specs.declared.places.NodeNo.{NodeNo}
use Rattle.liq_order.specs.Nodes.{Memory, memory, nobody, entry_of, entries_at, first_or, last_or, IsOff, AreApart, AreWithin, Linked, node_of, IsRing, visited}
use Rattle.liq_order.proofs.Kept.{along_order}

-- ---- one more

pub chained_more : (n i : ℕ) (es : List Ranked) (e : Ranked) → chained n i (es ++ e ∷ []) ≡ chained n i es
    ++ chained_node n (i + length es) e ∷ []
chained_more n i [] e = ap (λ k. chained_node n k e ∷ []) (zero_more i) where
  zero_more : (k : ℕ) → k ≡ k + 0
  zero_more k = omega arith
chained_more n i (f ∷ fs) e = ap (λ l. chained_node n i f ∷ l) (chained_more n (suc i) fs e
    ∙ ap (λ k. chained n (suc i) fs ++ chained_node n k e ∷ []) (moved i (length fs))) where
      moved : (k l : ℕ) → suc k + l ≡ k + suc l
      moved k l = omega arith

pub rows_from_more : (i : ℕ) (es : List Ranked) (e : Ranked) → rows_from i (es ++ e ∷ []) ≡ rows_from i es
    ++ (e.1, record { 0 = i + length es }) ∷ []
rows_from_more i [] e = ap (λ k. (e.1, record { 0 = k }) ∷ []) (zero_more i) where
  zero_more : (k : ℕ) → k ≡ k + 0
  zero_more k = omega arith
rows_from_more i (f ∷ fs) e = ap (λ l. (f.1, record { 0 = i }) ∷ l) (rows_from_more (suc i) fs e
    ∙ ap (λ k. rows_from (suc i) fs ++ (e.1, record { 0 = k }) ∷ []) (moved i (length fs))) where
      moved : (k l : ℕ) → suc k + l ≡ k + suc l
      moved k l = omega arith

pub chained_next : (n at : ℕ) (es : List Ranked) (d : Ranked) → at < length es
    → chained n 0 (take at es) ++ chained_node n at (get_or es at d) ∷ [] ≡ chained n 0 (take (at + 1) es)
chained_next n at es d less =
    let long : 0 + length (take at es) ≡ at = omega (arith, length-take-le at es (omega (arith, less))) in
    let next : suc at ≡ at + 1 = omega arith in
    ap (λ k. chained n 0 (take at es) ++ chained_node n k (get_or es at d) ∷ []) (sym long)
    ∙ sym (chained_more n 0 (take at es) (get_or es at d))
    ∙ ap (λ l. chained n 0 l) (sym (take-suc es at d less) ∙ ap (λ k. take k es) next)

pub rows_from_next : (at : ℕ) (es : List Ranked) (d : Ranked) → at < length es → (rows : List Row)
    → rows ≡ rows_from 0 (take at es) → rows ++ ((get_or es at d).1, record { 0 = at }) ∷ []
    ≡ rows_from 0 (take (at + 1) es)
rows_from_next at es d less rows so_far =
    let long : 0 + length (take at es) ≡ at = omega (arith, length-take-le at es (omega (arith, less))) in
    let next : suc at ≡ at + 1 = omega arith in
    ap (λ (l : List Row). l ++ ((get_or es at d).1, record { 0 = at }) ∷ []) so_far
    ∙ ap (λ k. rows_from 0 (take at es) ++ ((get_or es at d).1, record { 0 = k }) ∷ []) (sym long)
    ∙ sym (rows_from_more 0 (take at es) (get_or es at d))
    ∙ ap (λ l. rows_from 0 l) (sym (take-suc es at d less) ∙ ap (λ k. take k es) next)

chained_length : (n i : ℕ) (es : List Ranked) → length (chained n i es) ≡ length es
chained_length n i [] = refl
chained_length n i (e ∷ es) = ap (λ k. suc k) (chained_length n (suc i) es)

-- ---- the places

numbered_length : (i : ℕ) (es : List Ranked) → length (numbered i es) ≡ length es
numbered_length i [] = refl
numbered_length i (e ∷ es) = ap (λ k. suc k) (numbered_length (suc i) es)

numbered_off : (k i : ℕ) (es : List Ranked) → k < i → IsOff k (numbered i es)
numbered_off k i [] less = tt
numbered_off k i (e ∷ es) less = ((λ same. omega (arith, same, less)), numbered_off k (suc i) es (omega (arith, less)))

numbered_apart : (i : ℕ) (es : List Ranked) → AreApart (numbered i es)
numbered_apart i [] = tt
numbered_apart i (e ∷ es) = (numbered_off i (suc i) es (omega arith), numbered_apart (suc i) es)

numbered_within : (n i : ℕ) (es : List Ranked) → i + length es ≤ n → AreWithin n (numbered i es)
numbered_within n i [] few = tt
numbered_within n i (e ∷ es) few = (omega (arith, few), numbered_within n (suc i) es (omega (arith, few)))

numbered_first : (n i : ℕ) (es : List Ranked) → i + length es ≡ n → first_or None (numbered i es) ≡ below n i
numbered_first n i [] all = sym (none n i all) where
  none : (n i : ℕ) → i + 0 ≡ n → below n i ≡ None
  none n i all = grind (arith, nat_tests)
numbered_first n i (e ∷ es) all = sym (some n i (length es) all) where
  some : (n i l : ℕ) → i + suc l ≡ n → below n i ≡ Some (record { 0 = i })
  some n i l all = grind (arith, nat_tests)

numbered_last : (i : ℕ) (es : List Ranked) → last_or (before i) (numbered i es) ≡ before (i + length es)
numbered_last i [] = ap before (zero_more i) where
  zero_more : (k : ℕ) → k ≡ k + 0
  zero_more k = omega arith
numbered_last i (e ∷ es) = numbered_last (suc i) es ∙ ap before (moved i (length es)) where
  moved : (k l : ℕ) → suc k + l ≡ k + suc l
  moved k l = omega arith

-- ---- the nodes at them

abbrev IsChained : Memory → ℕ → ℕ → List Ranked → Type 0
IsChained f n i [] = Unit {0}
IsChained f n i (e ∷ es) = (f (record { 0 = i }) ≡ chained_node n i e) × IsChained f n (suc i) es

is_chained : (nodes front : List Node) (n i : ℕ) (es : List Ranked) → nodes ≡ front ++ chained n i es → length front ≡ i
    → IsChained (memory nodes) n i es
is_chained nodes front n i [] whole long = tt
is_chained nodes front n i (e ∷ es) whole long =
    let node = chained_node n i e in
    let more : length (front ++ node ∷ []) ≡ suc i = length-append front (node ∷ []) ∙ omega (arith, long) in (
      ap (λ (l : List Node). memory l (record { 0 = i })) whole
          ∙ get_or_at front node (chained n (suc i) es) nobody i long,
      is_chained nodes (front ++ node ∷ []) n (suc i) es (whole
          ∙ sym (append_assoc front (node ∷ []) (chained n (suc i) es))) more,
    )

chained_linked : (f : Memory) (n i : ℕ) (es : List Ranked) → i + length es ≡ n → IsChained f n i es
    → Linked f (before i) (numbered i es) None
chained_linked f n i [] all h = tt
chained_linked f n i (e ∷ es) all h =
    let rest : suc i + length es ≡ n = omega (arith, all) in (
      ap (λ (node : Node). node.previous) h.0,
      ap (λ (node : Node). node.next) h.0 ∙ sym (numbered_first n (suc i) es rest),
      chained_linked f n (suc i) es rest h.1,
    )

chained_entries : (f : Memory) (n i : ℕ) (es : List Ranked) → IsChained f n i es → entries_at f (numbered i es) ≡ es
chained_entries f n i [] h = refl
chained_entries f n i (e ∷ es) h =
    ap (λ (node : Node). entry_of node ∷ entries_at f (numbered (suc i) es)) h.0
    ∙ ap (λ l. e ∷ l) (chained_entries f n (suc i) es h.1)

chained_told : (f : Memory) (n i : ℕ) (es : List Ranked) → IsChained f n i es → (account : ℕ)
    → row_of (rows_from i es) account ≡ node_of f (numbered i es) account
chained_told f n i [] h account = refl
chained_told f n i (e ∷ es) h account =
    ap (λ o. cond (e.1 == account) (Some (record { 0 = i })) o) (chained_told f n (suc i) es h.1 account)
    ∙ ap (λ (node : Node). cond (node.account == account) (Some (record { 0 = i }))
    (node_of f (numbered (suc i) es) account)) (sym h.0)

-- ---- all together

-- the places to which one comes along the links are those of the entries
pub record Chain (es : List Ranked) (nodes : List Node) (place : ℕ → Option NodeNo) (first last : Option NodeNo) :
    Type 0 where
  pub ring : IsRing nodes (visited nodes first) [] place first last
  pub listed : entries_at (memory nodes) (visited nodes first) ≡ es
  pub long : length (visited nodes first) ≡ length es
  pub nodes_long : length nodes ≡ length es

pub chain : (es : List Ranked) (nodes : List Node) (place : ℕ → Option NodeNo) (first last : Option NodeNo)
    → IsAscending es → AreDistinct es → nodes ≡ chained (length es) 0 es
    → ((account : ℕ) → place account ≡ row_of (rows_from 0 es) account) → first ≡ below (length es) 0
    → last ≡ before (length es) → Chain es nodes place first last
chain es nodes place first last up apart made told first_is last_is =
    let n = length es in
    let f = memory nodes in
    let places = numbered 0 es in
    let h = is_chained nodes [] n 0 es made refl in
    let listed = chained_entries f n 0 es h in
    let nodes_long : length nodes ≡ n = ap (λ l. length l) made ∙ chained_length n 0 es in
    let long = numbered_length 0 es in
    let none = append-nil places in
    let all : 0 + n ≡ n = omega arith in
    let inside : AreWithin (length nodes) places = numbered_within (length nodes) 0 es (omega (arith, nodes_long)) in
    let ring : IsRing nodes places [] place first last = record {
      linked = chained_linked f n 0 es (omega arith) h;
      first_is = first_is ∙ sym (numbered_first n 0 es (omega arith));
      last_is = last_is ∙ sym (numbered_last 0 es ∙ ap before all);
      apart = subst AreApart (sym none) (numbered_apart 0 es);
      within = subst (AreWithin (length nodes)) (sym none) inside;
      shared = omega (arith, long, nodes_long);
      told = λ account. told account ∙ chained_told f n 0 es h account;
      ascending = subst IsAscending (sym listed) up;
      distinct = subst AreDistinct (sym listed) apart;
    } in
    let same : visited nodes first ≡ places = along_order nodes places [] place first last ring in
    record {
      ring = subst (λ l. IsRing nodes l [] place first last) (sym same) ring;
      listed = ap (λ l. entries_at f l) same ∙ listed;
      long = ap (λ l. length l) same ∙ long;
      nodes_long = nodes_long;
    }
