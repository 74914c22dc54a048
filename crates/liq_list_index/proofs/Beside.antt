-- What stands next to a place in an ascending list, and next to it without an account.
use Rattle.std.proofs.Common.{◌≡◌, ℕ, ℤ, Bool, true, false, cond, List, [], ◌∷◌, ◌++◌, refl, sym, ap, ◌∙◌, Some, None, Option, subst}
use Rattle.std.specs.Prelude.{◌==◌, ◌≢◌, ◌<ℤ◌, not, reverse, filter, unwrap_or, IfSome}
use Rattle.std.specs.List.{AllByRecursion}
use Rattle.std.specs.Ordering.{is_lt}
use Rattle.std.specs.declared.cmp.Ordering.TheVariants.{Less}
use Rattle.std.proofs.lemmas.Bool.{eqb-true}
use Rattle.std.proofs.lemmas.Cmp.{tied_itself}
use Rattle.std.proofs.lemmas.List.Elements.{filter-append}
use Rattle.std.proofs.lemmas.List.{reverse-append, append-nil}
use Rattle.liq_types.proofs.RankedLists.{rank_total, Behind, behind_more, all_kept}
use Rattle.liq_types.specs.Ranked.{Ranked, rank_order, IsAscending, first_of, account_of, without_ranked}
use Rattle.liq_list_chunks.proofs.Lists.{all_pass, each, nothing_before, whole_after, is_less}
use Rattle.liq_list_index.specs.Rows.{StandOnce}
use Rattle.liq_list_index.specs.Sides.{account_aside, entry_beside, past_own}
use Rattle.liq_list_chunks.specs.Entries.{entry_after, entry_before}
use Rattle.liq_list_index.proofs.Parts.{all_appended, lower_key}
use Rattle.liq_list_index.specs.declared.sides.Side.{Side}
use Rattle.liq_list_index.specs.declared.sides.Side.TheVariants.{Before, After}

-- ---- filters

first_passes : (q : Ranked → Bool) (list : List Ranked) (h : Ranked) → first_of (filter q list) ≡ Some h → q h ≡ true
first_passes q [] h is = cc
first_passes q (g ∷ gs) h is = by (q g) refl is (first_passes q gs h) where
  by : (b : Bool) → q g ≡ b → first_of (cond b (g ∷ filter q gs) (filter q gs)) ≡ Some h
      → (first_of (filter q gs) ≡ Some h → q h ≡ true) → q h ≡ true
  by true t here more = ap q (ap (λ (o : Option Ranked). unwrap_or o g) (sym here)) ∙ t
  by false t later more = more later

first_last : (e : Ranked) (list : List Ranked) → reverse (e ∷ list) ≡ reverse list ++ e ∷ []
first_last e list = reverse-append (e ∷ []) list

reverse_filter : (q : Ranked → Bool) (list : List Ranked) → reverse (filter q list) ≡ filter q (reverse list)
reverse_filter q [] = refl
reverse_filter q (g ∷ gs) =
    by (q g) refl (reverse_filter q gs) ∙ sym (filter-append q (reverse gs) (g ∷ []))
    ∙ ap (λ (l : List Ranked). filter q l) (sym (first_last g gs)) where
      by : (b : Bool) → q g ≡ b → reverse (filter q gs) ≡ filter q (reverse gs)
          → reverse (cond b (g ∷ filter q gs) (filter q gs)) ≡ filter q (reverse gs) ++ filter q (g ∷ [])
      by true is more =
          first_last g (filter q gs)
          ∙ ap (λ (l : List Ranked). l ++ g ∷ []) more
          ∙ ap (λ b. filter q (reverse gs) ++ cond b (g ∷ []) []) (sym is)
      by false is more = more ∙ sym (append-nil (filter q (reverse gs)))
          ∙ ap (λ b. filter q (reverse gs) ++ cond b (g ∷ []) []) (sym is)

-- ---- along a list in one direction

-- R a b: b lies beyond a
record Lies (R : Ranked → Ranked → Bool) : Type 0 where
  on : (a b c : Ranked) → R a b ≡ true → R b c ≡ true → R a c ≡ true
  apart : (a : Ranked) → R a a ≡ false

abbrev Goes : (Ranked → Ranked → Bool) → List Ranked → Type 0
Goes R [] = Unit {0}
Goes R (g ∷ gs) = AllByRecursion (λ (f : Ranked). (R g f ≡ true) × (f.1 ≢ g.1)) gs × Goes R gs

-- the account of what was found, or of what comes next where that is the account's own entry
abbrev stepped : (Ranked → Option Ranked) → Ranked → Option Ranked → Option ℕ
stepped next e None = None
stepped next e (Some g) = cond (g.1 == e.1) (account_of (next g)) (Some g.1)

abbrev beyond : (Ranked → Ranked → Bool) → List Ranked → Ranked → Option Ranked
beyond R list e = first_of (filter (R e) list)

not_equal : (a b : ℕ) → a ≢ b → (a == b) ≡ false
not_equal a b n = by (a == b) refl where
  by : (t : Bool) → (a == b) ≡ t → t ≡ false
  by true is = absurd (n (eqb-true a b is))
  by false is = refl

not_beyond : (R : Ranked → Ranked → Bool) → Lies R → (e g h : Ranked) → R e g ≡ false → R e h ≡ true → R h g ≡ false
not_beyond R o e g h before beyond = by (R h g) refl where
  by : (t : Bool) → R h g ≡ t → t ≡ false
  by true is = sym (o.on e h g beyond is) ∙ before
  by false is = refl

passed : (R : Ranked → Ranked → Bool) → Lies R → (list : List Ranked) (e : Ranked) → Goes R list
    → account_of (beyond R (without_ranked list e.1) e) ≡ stepped (beyond R list) e (beyond R list e)
passed R o [] e h = refl
passed R o (g ∷ gs) e h = by (R e g) refl (g.1 == e.1) refl (passed R o gs e h.1) where
  rest : List Ranked
  rest = without_ranked gs e.1

  -- an entry of the account's comes last of all that are not beyond, or is passed
  own : (g.1 == e.1) ≡ true → R e g ≡ true → account_of (beyond R rest e)
      ≡ cond (g.1 == e.1) (account_of (beyond R (g ∷ gs) g)) (Some g.1)
  own same is =
      let others = all_pass (λ (f : Ranked). not (f.1 == e.1)) gs (each (λ (f : Ranked). (R g f ≡ true)
      × (f.1 ≢ g.1)) (λ (f : Ranked). not (f.1 == e.1) ≡ true) (λ f k. ap not (not_equal f.1 e.1 (λ s. k.1 (s
      ∙ sym (eqb-true g.1 e.1 same))))) gs h.0) in
      let from = all_pass (R e) gs (each (λ (f : Ranked). (R g f ≡ true) × (f.1 ≢ g.1)) (λ (f : Ranked). R e f
      ≡ true) (λ f k. o.on e g f is k.0) gs h.0) in
      let own = all_pass (R g) gs (each (λ (f : Ranked). (R g f ≡ true) × (f.1 ≢ g.1)) (λ (f : Ranked). R g f
      ≡ true) (λ f k. k.0) gs h.0) in
      ap (λ (l : List Ranked). account_of (first_of (filter (R e) l))) others
      ∙ ap (λ (l : List Ranked). account_of (first_of l)) (from ∙ sym own)
      ∙ ap (λ t. account_of (first_of (cond t (g ∷ filter (R g) gs) (filter (R g) gs)))) (sym (o.apart g))
      ∙ ap (λ t. cond t (account_of (beyond R (g ∷ gs) g)) (Some g.1)) (sym same)

  wider : (x : Option Ranked) → ((f : Ranked) → x ≡ Some f → R e f ≡ true) → R e g ≡ false → stepped (beyond R gs) e x
      ≡ stepped (beyond R (g ∷ gs)) e x
  wider None there is = refl
  wider (Some f) there is =
      ap (λ t. cond (f.1 == e.1) (account_of (first_of (cond t (g ∷ filter (R f) gs) (filter (R f) gs)))) (Some f.1))
      (sym (not_beyond R o e g f is (there f refl)))

  by : (b : Bool) → R e g ≡ b → (c : Bool) → (g.1 == e.1) ≡ c → account_of (beyond R rest e)
      ≡ stepped (beyond R gs) e (beyond R gs e) → account_of (beyond R (cond (not c) (g ∷ rest) rest) e)
      ≡ stepped (beyond R (g ∷ gs)) e (first_of (cond b (g ∷ filter (R e) gs) (filter (R e) gs)))
  by true is true same more = own same is
  by true is false other more =
      ap (λ t. account_of (first_of (cond t (g ∷ filter (R e) rest) (filter (R e) rest)))) is
      ∙ ap (λ t. cond t (account_of (beyond R (g ∷ gs) g)) (Some g.1)) (sym other)
  by false is true same more = more ∙ wider (beyond R gs e) (first_passes (R e) gs) is
  by false is false other more =
      ap (λ t. account_of (first_of (cond t (g ∷ filter (R e) rest) (filter (R e) rest)))) is ∙ more
      ∙ wider (beyond R gs e) (first_passes (R e) gs) is

stepped_same : (next other : Ranked → Option Ranked) → ((g : Ranked) → next g ≡ other g)
    → (e : Ranked) (x y : Option Ranked) → x ≡ y → stepped next e x ≡ stepped other e y
stepped_same next other same e x y is = by x ∙ ap (λ (o : Option Ranked). stepped other e o) is where
  by : (o : Option Ranked) → stepped next e o ≡ stepped other e o
  by None = refl
  by (Some g) = ap (λ (o : Option Ranked). cond (g.1 == e.1) (account_of o) (Some g.1)) (same g)

-- ---- to the end

lies_after : Lies (λ (a b : Ranked). is_lt (rank_order a b))
lies_after = record {
  on = λ a b c h k. ap is_lt (rank_total.trans a b c (is_less (rank_order a b) h) (is_less (rank_order b c) k));
  apart = λ a. ap is_lt (tied_itself rank_total a);
}

both : (e : Ranked) (list : List Ranked) → Behind e list → AllByRecursion (λ (f : Ranked). f.1 ≢ e.1) list
    → AllByRecursion (λ (f : Ranked). (is_lt (rank_order e f) ≡ true) × (f.1 ≢ e.1)) list
both e [] h k = tt
both e (f ∷ fs) h k = ((ap is_lt h.0, k.0), both e fs h.1 k.1)

goes_after : (list : List Ranked) → IsAscending list → StandOnce list
    → Goes (λ (a b : Ranked). is_lt (rank_order a b)) list
goes_after [] h k = tt
goes_after (e ∷ es) h k = (both e es h.0 k.0, goes_after es h.1 k.1)

next_is : (list : List Ranked) (e : Ranked) → IsAscending list → StandOnce list → account_aside After list e
    ≡ stepped (λ g. entry_after list g) e (entry_after list e)
next_is list e h k = passed (λ (a b : Ranked). is_lt (rank_order a b)) lies_after list e (goes_after list h k)

-- ---- to the front

lies_before : Lies (λ (a b : Ranked). is_lt (rank_order b a))
lies_before = record {
  on = λ a b c h k. ap is_lt (rank_total.trans c b a (is_less (rank_order c b) k) (is_less (rank_order b a) h));
  apart = λ a. ap is_lt (tied_itself rank_total a);
}

all_reverse : (P : Ranked → Type 0) (list : List Ranked) → AllByRecursion P list → AllByRecursion P (reverse list)
all_reverse P [] h = tt
all_reverse P (f ∷ fs) h = subst (AllByRecursion P) (sym (first_last f fs)) (all_appended P (reverse fs) (f ∷ [])
    (all_reverse P fs h.1) (h.0, tt))

goes_last : (R : Ranked → Ranked → Bool) (list : List Ranked) (x : Ranked) → Goes R list
    → AllByRecursion (λ (f : Ranked). (R f x ≡ true) × (x.1 ≢ f.1)) list → Goes R (list ++ x ∷ [])
goes_last R [] x h k = (tt, tt)
goes_last R (f ∷ fs) x h k = (
  all_appended (λ (g : Ranked). (R f g ≡ true) × (g.1 ≢ f.1)) fs (x ∷ []) h.0 (k.0, tt),
  goes_last R fs x h.1 k.1,
)

goes_before : (list : List Ranked) → IsAscending list → StandOnce list
    → Goes (λ (a b : Ranked). is_lt (rank_order b a)) (reverse list)
goes_before [] h k = tt
goes_before (e ∷ es) h k =
    subst (λ (l : List Ranked). Goes (λ (a b : Ranked). is_lt (rank_order b a)) l) (sym (first_last e es))
    (goes_last (λ (a b : Ranked). is_lt (rank_order b a)) (reverse es) e (goes_before es h.1 k.1)
    (all_reverse (λ (f : Ranked). (is_lt (rank_order e f) ≡ true) × (e.1 ≢ f.1)) es
    (each (λ (f : Ranked). (is_lt (rank_order e f) ≡ true) × (f.1 ≢ e.1)) (λ (f : Ranked). (is_lt (rank_order e f)
    ≡ true) × (e.1 ≢ f.1)) (λ f t. (t.0, λ s. t.1 (sym s))) es (both e es h.0 k.0))))

prev_is : (list : List Ranked) (e : Ranked) → IsAscending list → StandOnce list → account_aside Before list e
    ≡ stepped (λ g. entry_before list g) e (entry_before list e)
prev_is list e h k =
    ap (λ (l : List Ranked). account_of (first_of l)) (reverse_filter (R e) (without_ranked list e.1)
    ∙ ap (λ (l : List Ranked). filter (R e) l) (reverse_filter (λ (f : Ranked). not (f.1 == e.1)) list))
    ∙ passed R lies_before (reverse list) e (goes_before list h k)
    ∙ stepped_same (beyond R (reverse list)) (λ g. entry_before list g) same e (beyond R (reverse list) e)
    (entry_before list e) (same e) where
      R : Ranked → Ranked → Bool
      R a b = is_lt (rank_order b a)

      same : (g : Ranked) → beyond R (reverse list) g ≡ entry_before list g
      same g = ap (λ (l : List Ranked). first_of l) (sym (reverse_filter (R g) list))

-- ---- on either side

pub aside_is : (side : Side) (list : List Ranked) (e : Ranked) → IsAscending list → StandOnce list
    → account_aside side list e ≡ past_own side list e.1 (entry_beside side list e)
aside_is Before list e h k = prev_is list e h k ∙ by (entry_before list e) where
  by : (o : Option Ranked) → stepped (λ g. entry_before list g) e o ≡ past_own Before list e.1 o
  by None = refl
  by (Some g) = refl
aside_is After list e h k = next_is list e h k ∙ by (entry_after list e) where
  by : (o : Option Ranked) → stepped (λ g. entry_after list g) e o ≡ past_own After list e.1 o
  by None = refl
  by (Some g) = refl

-- ---- before all

-- an entry before the first comes before all
before_all : (list : List Ranked) (e : Ranked) → IsAscending list → ((f : Ranked) → first_of list ≡ Some f
    → rank_order e f ≡ Less) → Behind e list
before_all [] e h first = tt
before_all (f ∷ fs) e h first = (first f refl, behind_more e f fs (first f refl) h.0)

pub none_before : (list : List Ranked) (e : Ranked) → Behind e list → account_aside Before list e ≡ None
none_before list e h =
    ap (λ (l : List Ranked). account_of (first_of (reverse l)))
    (nothing_before (without_ranked list e.1) e (all_kept (λ (f : Ranked). rank_order e f
    ≡ Less) (λ (f : Ranked). not (f.1 == e.1)) list h))

-- a key below the first, if there is one, is below all
pub below_all : (list : List Ranked) (key : ℤ) (account : ℕ) (first : Option Ranked) → first ≡ first_of list
    → IfSome first (λ f. key <ℤ f.0) → IsAscending list → Behind (key, account) list
below_all list key account first is least h =
    before_all list (key, account) h (λ f here. lower_key (key, account) f
    (subst (λ (o : Option Ranked). IfSome o (λ g. key <ℤ g.0)) (is ∙ here) least))

after_all : (list : List Ranked) (key : ℤ) (account : ℕ) (first : Option Ranked) → first ≡ first_of list
    → IfSome first (λ f. key <ℤ f.0) → IsAscending list → entry_after list (key, account) ≡ first
after_all list key account first is least h = ap (λ (l : List Ranked). first_of l) (whole_after list (
  key,
  account,
) (below_all list key account first is least h)) ∙ sym is

-- the account after a key that is below all
pub first_is : (list : List Ranked) (key : ℤ) (account : ℕ) (first : Option Ranked) → first ≡ first_of list
    → IfSome first (λ f. key <ℤ f.0) → IsAscending list → StandOnce list → past_own After list account first
    ≡ account_aside After list (key, account)
first_is list key account first is least h k =
    ap (λ (o : Option Ranked). past_own After list account o) (sym (after_all list key account first is least h))
    ∙ sym (aside_is After list (key, account) h k)
