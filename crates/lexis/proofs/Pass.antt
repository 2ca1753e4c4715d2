-- The pass over a text: what its loop keeps (`Lexing`), at the first turn, after a token, after a gap, at the end and at a fault.
use mathlib.Core.Path.{◌≡◌, refl, sym, ap, ◌∙◌, subst}
use mathlib.Core.Bool.{Bool, true, false, false≢true}
use mathlib.Core.List.{List, []}
use Prim.Native.Nat.{ℕ, ◌+◌, ◌-◌, ◌*◌, ◌<◌, ◌≤◌, zero-le}
use native.Mathlib.Nat.{add-zero}
use native.Mathlib.Omega.{arith}
use lib.ListN.{length, take, drop, get_or, length-set}
use Rattle.lexis.specs.Sizes.{max_text, max_tokens, record_words, first_mark}
use Rattle.lexis.specs.Lexer.{Token, Lexed, accepted, refused, prepend, lex}
use Rattle.lexis.specs.Symbol.{sym_of, symbol_of}
use Rattle.lexis.specs.Answer.{counted_after}
use Rattle.lexis.specs.Work.{Recorded, Room, area_words, record_at, marked_at}
use Rattle.lexis.specs.Steps.{plainly, step_at}
use Rattle.lexis.specs.declared.cursor.Cursor.{Cursor}
use Rattle.lexis.specs.Steps.{Record}
use Rattle.lexis.specs.declared.cursor.Step.{Step}
use Rattle.lexis.specs.Answer.{Tokens, Fault}
use Rattle.lexis.proofs.Theorems.{few}
use Rattle.lexis.proofs.Laid.{lay_one, laid, laid-is, marked-length, area-records, area-marks}
use Rattle.lexis.proofs.Terminals.{mark-is}
use Rattle.lexis.proofs.Cursors.{lex_here, Stepped, Passed, Says, step-says}

abbrev is_accepted : Lexed → Bool
is_accepted (accepted ts) = true
is_accepted (refused c p) = false

-- the work area with the records and marks stored from place n on
abbrev laid_from : Bool → ℕ → List ℕ → Lexed → List ℕ
laid_from m n area (accepted ts) = laid m n area ts
laid_from m n area (refused c p) = area

-- what a call of `next` and the match on its answer say
pub told : (text : List ℕ) (c : Cursor) (x y : Step) → plainly c x ≡ step_at text c → x ≡ y → Says text c (plainly c y)
told text c x y e q = subst (Says text c) (sym e ∙ ap (plainly c) q) (step-says text c)

pub record Lexing (marked : Bool) (text table₀ : List ℕ) (c : Cursor) (table : List ℕ) : Type 0 where
  pub within : c.at ≤ length text
  pub few : c.count ≤ max_tokens
  pub slow : c.count ≤ c.at
  pub long : length table ≡ length table₀
  pub counted : counted_after 0 (lex text) ≡ counted_after c.count (lex_here text c)
  pub wrote : is_accepted (lex_here text c) ≡ true → laid_from marked 0 table₀ (lex text) ≡ laid_from marked c.count table (lex_here text c)

pub lexing-first : (marked : Bool) (text table : List ℕ) (c : Cursor) → c ≡ record { at = 0; count = 0 } → Lexing marked text table c table
lexing-first marked text table c e =
    subst (λ (d : Cursor). Lexing marked text table d table) (sym e)
    (record { within = zero-le; few = zero-le; slow = zero-le; long = refl; counted = refl; wrote = λ h. refl })

counted-one : (n m : ℕ) (t : Token) (l : Lexed) → m ≡ n + 1 → counted_after n (prepend t l) ≡ counted_after m l
counted-one n m t (accepted ts) e = ap Tokens (omega arith)
counted-one n m t (refused c p) e = refl

good_more : (t : Token) (l : Lexed) → is_accepted l ≡ true → is_accepted (prepend t l) ≡ true
good_more t (accepted ts) h = refl
good_more t (refused c p) h = h

laid_one : (m : Bool) (n : ℕ) (area : List ℕ) (t : Token) (l : Lexed) → is_accepted l ≡ true
    → laid_from m n area (prepend t l) ≡ laid_from m (n + 1) (lay_one m n area t) l
unfolding laid
laid_one m n area t (accepted ts) h = refl
laid_one m n area t (refused c p) h = absurd (false≢true h)

counted-accepted : (n : ℕ) (l : Lexed) → counted_after 0 l ≡ Tokens n → is_accepted l ≡ true
counted-accepted n (accepted ts) e = refl
counted-accepted n (refused c p) e = let z : ◌≡◌ {A = ℕ} 0 1 = cc in absurd (omega arith)

written-good : (m : Bool) (text : List ℕ) (l : Lexed) (before after : List ℕ) → lex text ≡ l → is_accepted l ≡ true
    → after ≡ laid_from m 0 before l → Recorded m l before after
written-good m text (accepted ts) before after q h e = e ∙ laid-is m 0 before ts (omega (arith, few text ts q))
written-good m text (refused c p) before after q h e = absurd (false≢true h)

written-fault : (m : Bool) (l : Lexed) (before after : List ℕ) (k q : ℕ) → counted_after 0 l ≡ Fault k q → length after ≡ length before
    → Recorded m l before after
written-fault m (accepted ts) before after k q e h = let z : ◌≡◌ {A = ℕ} 0 1 = cc in absurd (omega arith)
written-fault m (refused c p) before after k q e h = h

module _ (marked : Bool) (text table₀ : List ℕ) (c : Cursor) (table : List ℕ) (inv : Lexing marked text table₀ c table) where
  -- the record of a token has room, and its places are words
  pub record-room : (r : Record) (d : Cursor) → Stepped text c r d → length text ≤ max_text → area_words marked (length text) ≤ length table₀
      → (c.count * record_words + 2 < length table) × ((r.start ≤ max_text) × (r.end ≤ max_text))
  record-room r d s t a =
      let room = area-records marked (length text) (length table₀) a in
      (omega (arith, s.room, s.moves, s.within, inv.slow, inv.long), (omega (arith, s.some, s.inside), omega (arith, s.inside)))

  -- and its mark, where one is asked for
  pub mark-room : (r : Record) (d : Cursor) (mid : List ℕ) → Stepped text c r d → area_words marked (length text) ≤ length table₀
      → mid ≡ record_at table (c.count * record_words) r.kind r.start r.end → marked ≡ true → first_mark + c.count < length mid
  mark-room r d mid s a e m =
      let long : length mid ≡ length table = ap length e ∙ simp length-set refl in
      omega (arith, s.room, inv.long, area-marks marked (length text) (length table₀) a m)

  pub lexing-next : (r : Record) (d : Cursor) (mid area : List ℕ) → Stepped text c r d
      → mid ≡ record_at table (c.count * record_words) r.kind r.start r.end
      → area ≡ marked_at marked mid c.count (symbol_of r.kind (take (r.end - r.start) (drop r.start text)))
      → Lexing marked text table₀ d area
  unfolding sym_of
  lexing-next r d mid area s f e = record {
    within = s.within;
    few = omega (arith, s.room, s.counts);
    slow = omega (arith, s.counts, s.moves, inv.slow);
    long = ap length e ∙ marked-length marked _ c.count _ ∙ ap length f ∙ simp length-set inv.long;
    counted = inv.counted ∙ ap (counted_after c.count) s.lexes ∙ counted-one c.count d.count _ (lex_here text d) s.counts;
    wrote = λ h. inv.wrote (ap is_accepted s.lexes ∙ good_more _ (lex_here text d) h) ∙ ap (laid_from marked c.count table) s.lexes
        ∙ laid_one marked c.count table (record { kind = r.kind; start = r.start; bytes = s.bytes }) (lex_here text d) h
        ∙ rw (e, f, s.counts, s.ends, s.spelt);
  }

  pub lexing-mark : (d : Cursor) (v : ℕ) (mid area : List ℕ) → Stepped text c (record { kind = 8; start = c.at; end = d.at }) d
      → mid ≡ record_at table (c.count * record_words) 8 c.at d.at → v ≡ get_or text c.at 0 → area ≡ marked_at marked mid c.count v
      → Lexing marked text table₀ d area
  lexing-mark d v mid area s f q e =
      lexing-next (record { kind = 8; start = c.at; end = d.at }) d mid area s f
      (e ∙ ap (marked_at marked mid c.count) (q ∙ mark-is text 8 c.at d.at refl s.some))

  pub lexing-gap : (d : Cursor) → Passed text c d → Lexing marked text table₀ d table
  lexing-gap d s = record {
    within = s.within;
    few = omega (arith, s.counts, inv.few);
    slow = omega (arith, s.counts, s.moves, inv.slow);
    long = inv.long;
    counted = inv.counted ∙ ap (counted_after c.count) s.lexes ∙ ap (λ (n : ℕ). counted_after n (lex_here text d)) (sym s.counts);
    wrote =
        λ h. inv.wrote (ap is_accepted s.lexes ∙ h) ∙ ap (laid_from marked c.count table) s.lexes
        ∙ ap (λ (n : ℕ). laid_from marked n table (lex_here text d)) (sym s.counts);
  }

  pub lexing-end : (n m : ℕ) → n ≡ c.count → lex_here text c ≡ accepted [] → length table₀ ≡ m → area_words marked (length text) ≤ m
      → (Tokens n ≡ counted_after 0 (lex text)) × (Recorded marked (lex text) table₀ table × Room (Tokens n) m)
  unfolding laid
  lexing-end n m e l f a =
      let h = area-records marked (length text) m a in
      let counts : counted_after 0 (lex text) ≡ Tokens n = inv.counted ∙ ap (counted_after c.count) l ∙ ap Tokens (add-zero c.count ∙ sym e) in
      let good : is_accepted (lex_here text c) ≡ true = ap is_accepted l in (
        sym counts,
        (
          written-good marked text (lex text) table₀ table refl (counted-accepted n (lex text) counts)
              (sym (inv.wrote good ∙ ap (laid_from marked c.count table) l)),
          (omega (arith, inv.few), omega (arith, inv.few, inv.slow, inv.within)),
        ),
      )

  pub lexing-fault : (code p k q m : ℕ) → k ≡ code → q ≡ p → lex_here text c ≡ refused code p
      → (Fault k q ≡ counted_after 0 (lex text)) × (Recorded marked (lex text) table₀ table × Room (Fault k q) m)
  lexing-fault code p k q m e f l =
      let counts : counted_after 0 (lex text) ≡ Fault k q = inv.counted ∙ ap (counted_after c.count) l ∙ rw (e, f) in
      (sym counts, (written-fault marked (lex text) table₀ table k q counts inv.long, tt))
