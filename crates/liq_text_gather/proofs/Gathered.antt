-- What one line more makes of what was gathered.
use Rattle.std.proofs.Common.{◌≡◌, ◌≢◌, ℕ, ◌+◌, ◌<◌, ◌≤◌, List, [], ◌∷◌, ◌++◌, length, Option, Some, Ok, Err, refl, ap, sym, subst, ◌∙◌, append_assoc, append-nil, length-append, arith}
use Rattle.std.specs.List.{AllZip}
use Rattle.liq_types.specs.declared.amounts.TheConstants.{LINE_BYTES, LINES_MOST}
use Rattle.liq_text_lines.specs.declared.stops.Stop.{Stop}
use Rattle.liq_text_lines.specs.declared.stops.Stop.TheVariants.{BadLine, ReadFault, NoMemory, Limit}
use Rattle.liq_text_lines.specs.Lines.{lines_in, ended, IsPartOfLine, IsWithinLine}
use Rattle.liq_text_lines.specs.Reading.{unread, Reads, IsOver}
use Rattle.liq_text_lines.specs.Saying.{IsBadLine, BeginsWith, StopsAfter}
use Rattle.liq_text_lines.proofs.LinesRead.{lines_in-unended, lines_in-ended_all, within-append}
use Rattle.liq_text_lines.proofs.Told.{told, told_rest, told_left, over_left, first-begun, first-longer, ended-more}
use Rattle.liq_text_gather.specs.Gathering.{Gathers}
use Rattle.liq_text_gather.specs.Progress.{HasRead, HasGathered, Keeps}

module _ {X : Type 0} (Says : List ℕ → X → Type 0) where
  -- ---- where the source tells its bytes

  said-more : (front : List (List ℕ)) (said : List X) (line : List ℕ) (x : X) → AllZip Says front said → Says line x
      → AllZip Says (front ++ line ∷ []) (said ++ x ∷ [])
  said-more [] [] line x h k = (k, tt)
  said-more [] (y ∷ said) line x h k = absurd h
  said-more (l ∷ front) [] line x h k = absurd h
  said-more (l ∷ front) (y ∷ said) line x h k = (h.0, said-more front said line x h.1 k)

  -- what follows the lines that were read
  begins : (bytes : List ℕ) (said : List X) (u : Option (List ℕ)) → (r : HasRead Says bytes said u)
      → lines_in bytes ≡ r.front ++ lines_in r.rest
  begins bytes said u r = ap lines_in r.bytes_are ∙ lines_in-ended_all r.front r.rest r.within

  begins_with : (bytes : List ℕ) (said : List X) (u : Option (List ℕ)) → (r : HasRead Says bytes said u)
      → (lines : List (List ℕ)) → lines_in r.rest ≡ lines → BeginsWith Says bytes said lines
  begins_with bytes said u r lines same = (
    r.front,
    r.spelled,
    begins bytes said u r
        ∙ ap (λ (ls : List (List ℕ)). r.front ++ ls) same,
  )

  line_read : (bytes line : List ℕ) (said : List X) (x : X) (u u' : Option (List ℕ)) → HasRead Says bytes said u
      → Says line x → IsWithinLine line → Reads u (line ++ 10 ∷ []) u' → HasRead Says bytes (said ++ x ∷ []) u'
  line_read bytes line said x u u' r says within reads =
      let t = told_rest r.rest (line ++ 10 ∷ []) u' (told (line ++ 10 ∷ []) u u' r.rest r.unread_is reads) in
      record {
        front = r.front ++ line ∷ [];
        rest = t.0;
        spelled = said-more r.front said line x r.spelled says;
        within = within-append r.front (line ∷ []) r.within (within, tt);
        bytes_are = r.bytes_are ∙ ap (λ (t : List ℕ). ended r.front ++ t) t.2 ∙ ended-more r.front line t.0;
        unread_is = t.1;
      }

  -- a line of too many bytes says nothing
  bad_long : ((line : List ℕ) (x : X) → Says line x → length line ≤ LINE_BYTES) → (line : List ℕ)
      → LINE_BYTES < length line → IsBadLine Says line
  bad_long short line long x says = omega (arith, long, short line x says)

  -- what is unread begins with a bad line
  abbrev pub StartsBad : Option (List ℕ) → Type 0
  StartsBad u = (rest : List ℕ) → u ≡ Some rest → (line : List ℕ) × IsBadLine Says line × ((more : List (List ℕ))
      × (lines_in rest ≡ line ∷ more))

  pub starts_too_long : ((line : List ℕ) (x : X) → Says line x → length line ≤ LINE_BYTES)
      → (line : List ℕ) (byte : ℕ) (u u' : Option (List ℕ)) → IsWithinLine line → byte ≢ 10 → length line ≡ LINE_BYTES
      → Reads u (line ++ byte ∷ []) u' → StartsBad u
  starts_too_long short line byte u u' within apart long reads rest is =
      let f = first-longer rest line byte u' within apart (told (line ++ byte ∷ []) u u' rest is reads) in (
        line ++ byte ∷ f.0,
        bad_long short (line ++ byte ∷ f.0) (omega (arith, length-append line (byte ∷ f.0), long)),
        (f.1, f.2),
      )

  module _ {G : Type 0} (Holds : G → List X → Type 0) where
    -- ---- before the first line

    pub opened : (taken : List ℕ) (left : Option (List ℕ)) (kept : G) → taken ≡ [] → Holds kept []
        → HasGathered Says Holds left 0 kept (unread taken left)
    opened taken left kept fresh blank =
        record {
          said = [];
          count = refl;
          holds = blank;
          read = λ bytes is.
              record {
                front = [];
                rest = bytes;
                spelled = tt;
                within = tt;
                bytes_are = refl;
                unread_is = ap (λ (t : List ℕ). unread t left) fresh ∙ ap (λ (o : Option (List ℕ)). unread [] o) is;
              };
        }

    -- ---- a line is read

    pub gathered : (start u u' : Option (List ℕ)) (n : ℕ) (kept kept' : G) (line : List ℕ)
        → HasGathered Says Holds start n kept u → Keeps Says Holds line (n + 1) kept kept' (Ok tt) → IsWithinLine line
        → Reads u (line ++ 10 ∷ []) u' → HasGathered Says Holds start (n + 1) kept' u'
    gathered start u u' n kept kept' line h keeps within reads =
        record {
          said = h.said ++ keeps.0 ∷ [];
          count = omega (arith, length-append h.said (keeps.0 ∷ []), h.count);
          holds = keeps.2 h.said h.holds;
          read = λ bytes is. line_read bytes line h.said keeps.0 u u' (h.read bytes is) keeps.1 within reads;
        }

    pub gathered_last : {T : Type 0} (x : T) (start u left : Option (List ℕ)) (n : ℕ) (kept kept' : G)
        (line taken : List ℕ) → n < LINES_MOST → HasGathered Says Holds start n kept u
        → Keeps Says Holds line (n + 1) kept kept' (Ok tt) → IsWithinLine line → line ≢ []
        → Reads u line (unread taken left) → IsOver (unread taken left)
        → Gathers Says (λ (t : T). Holds kept') (Ok x) start left
    gathered_last x start u left n kept kept' line taken few h keeps within some reads over =
        record {
          said = h.said ++ keeps.0 ∷ [];
          few = omega (arith, few, length-append h.said (keeps.0 ∷ []), h.count);
          has = keeps.2 h.said h.holds;
          read = λ bytes is.
              let r = h.read bytes is in
              let done = over_left r.rest line taken left (told line u (unread taken left) r.rest r.unread_is
              reads) over in
              let whole = begins bytes h.said u r ∙ ap (λ (t : List ℕ). r.front ++ lines_in t) done.1
              ∙ ap (λ (ls : List (List ℕ)). r.front ++ ls) (lines_in-unended line within some) in (
                subst (λ (ls : List (List ℕ)). AllZip Says ls (h.said ++ keeps.0 ∷ [])) (sym whole)
                    (said-more r.front h.said line keeps.0 r.spelled keeps.1),
                done.0,
              );
        }

    -- ---- reading comes to its end

    pub ended_well : {T : Type 0} (x : T) (start u left : Option (List ℕ)) (n : ℕ) (kept : G) (taken : List ℕ)
        → n ≤ LINES_MOST → HasGathered Says Holds start n kept u → Reads u [] (unread taken left)
        → IsOver (unread taken left) → Gathers Says (λ (t : T). Holds kept) (Ok x) start left
    ended_well x start u left n kept taken few h reads over =
        record {
          said = h.said;
          few = omega (arith, few, h.count);
          has = h.holds;
          read = λ bytes is.
              let r = h.read bytes is in
              let done = over_left r.rest [] taken left (told [] u (unread taken left) r.rest r.unread_is reads) over in
              let whole = begins bytes h.said u r ∙ ap (λ (t : List ℕ). r.front ++ lines_in t) done.1
              ∙ append-nil r.front in
              (subst (λ (ls : List (List ℕ)). AllZip Says ls h.said) (sym whole) r.spelled, done.0);
        }

    -- it stops, for a reason that is shown by what was read
    module _ {T : Type 0} (Has : T → List X → Type 0) where
      stopped : (stop : Stop) (start u left : Option (List ℕ)) (n : ℕ) (kept : G) → n ≤ LINES_MOST
          → (h : HasGathered Says Holds start n kept u) → ((bytes : List ℕ) → HasRead Says bytes h.said u
          → StopsAfter Says stop bytes left h.said) → Gathers Says Has (Err stop) start left
      stopped stop start u left n kept few h why =
          record {
            said = h.said;
            few = omega (arith, few, h.count);
            has = tt;
            read = λ bytes is. why bytes (h.read bytes is);
          }

      pub ended_by_fault : (start u left : Option (List ℕ)) (n : ℕ) (kept : G) (part taken : List ℕ) → n ≤ LINES_MOST
          → HasGathered Says Holds start n kept u → IsPartOfLine n part → Reads u part (unread taken left) → taken ≡ []
          → Gathers Says Has (Err ReadFault) start left
      ended_by_fault start u left n kept part taken few h within reads fresh =
          stopped ReadFault start u left n kept few h (λ bytes r.
          let t = told_left r.rest part taken left (told part u (unread taken left) r.rest r.unread_is reads) in (
            r.front,
            r.spelled,
            (
              part,
              subst (λ (m : ℕ). IsPartOfLine m part) (sym h.count) within,
              (
                t.0,
                t.1,
                r.bytes_are ∙ ap (λ (t : List ℕ). ended r.front ++ t) (t.2
                    ∙ ap (λ (l : List ℕ). part ++ (l ++ t.0)) fresh) ∙ sym (append_assoc (ended r.front) part t.0),
              ),
            ),
          ))

      pub ended_by_bad_line : (start u left : Option (List ℕ)) (n at : ℕ) (kept : G) → n < LINES_MOST → at ≡ n + 1
          → HasGathered Says Holds start n kept u → StartsBad u → Gathers Says Has (Err (BadLine at)) start left
      ended_by_bad_line start u left n at kept few next h bad =
          stopped (BadLine at) start u left n kept (omega (arith, few)) h (λ bytes r.
          let b = bad r.rest r.unread_is in (
            next ∙ ap (λ m. m + 1) (sym h.count),
            omega (arith, few, next),
            (b.0, b.1, (b.2.0, begins_with bytes h.said u r (b.0 ∷ b.2.0) b.2.1)),
          ))

      pub ended_by_memory : (start u left : Option (List ℕ)) (n : ℕ) (kept : G) → n ≤ LINES_MOST
          → HasGathered Says Holds start n kept u → Gathers Says Has (Err NoMemory) start left
      ended_by_memory start u left n kept few h =
          stopped NoMemory start u left n kept few h (λ bytes r. (
            lines_in r.rest,
            begins_with bytes h.said u r
                (lines_in r.rest) refl,
          ))

      pub ended_by_limit : (start u u' left : Option (List ℕ)) (n byte : ℕ) (kept : G) → n ≡ LINES_MOST
          → HasGathered Says Holds start n kept u → Reads u (byte ∷ []) u' → Gathers Says Has (Err Limit) start left
      ended_by_limit start u u' left n byte kept full h reads =
          stopped Limit start u left n kept (omega (arith, full)) h (λ bytes r.
          let f = first-begun r.rest byte u' (told (byte ∷ []) u u' r.rest r.unread_is reads) in
          (h.count ∙ full, (f.0, (f.1, begins_with bytes h.said u r (f.0 ∷ f.1) f.2))))

      -- the line was read, and what it says is not kept
      pub ended_at_line : (stop : Stop) (start u left : Option (List ℕ)) (n : ℕ) (kept kept' : G) (line : List ℕ)
          → n < LINES_MOST → HasGathered Says Holds start n kept u → Keeps Says Holds line (n + 1) kept kept' (Err stop)
          → ((rest : List ℕ) → u ≡ Some rest → (more : List (List ℕ)) × (lines_in rest ≡ line ∷ more))
          → Gathers Says Has (Err stop) start left
      ended_at_line (BadLine at) start u left n kept kept' line few h keeps first =
          ended_by_bad_line start u left n at kept few keeps.0 h (λ rest is. (line, keeps.1, first rest is))
      ended_at_line NoMemory start u left n kept kept' line few h keeps first =
          ended_by_memory start u left n kept (omega (arith, few)) h
      ended_at_line ReadFault start u left n kept kept' line few h keeps first = absurd keeps
      ended_at_line Limit start u left n kept kept' line few h keeps first = absurd keeps
