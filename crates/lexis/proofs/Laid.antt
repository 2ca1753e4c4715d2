-- The work area of a lexer that writes as it goes: a record and a mark in every turn are the records in front and the marks behind.
use mathlib.Core.Path.{◌≡◌, refl, sym, ap, ◌∙◌}
use mathlib.Core.Bool.{Bool, true, false}
use mathlib.Core.List.{List, [], ◌∷◌}
use Prim.Native.Nat.{ℕ, suc, ◌+◌, ◌*◌, ◌≤◌, min}
use native.Mathlib.Numerals.{add-one, add-two}
use native.Mathlib.Omega.{arith}
use lib.ListN.{length, drop, get_or, set, length-set}
use lib.Seq.{sets, set_comm, get_or-drop, drop-drop}
use Rattle.lexis.specs.Sizes.{max_tokens, record_words, first_mark, work_words}
use Rattle.lexis.specs.Lexer.{Token}
use Rattle.lexis.specs.Symbol.{sym_of, symbols}
use Rattle.lexis.specs.Work.{records, marks, record_at, marked_at, area_words}

-- the record and the mark of the token t at place n
abbrev pub lay_one : Bool → ℕ → List ℕ → Token → List ℕ
lay_one m n area t = marked_at m (record_at area (n * record_words) t.kind t.start (t.start + length t.bytes)) n (sym_of t)

-- those of the tokens ts from place n on
unfoldable pub laid : Bool → ℕ → List ℕ → List Token → List ℕ
laid m n area [] = area
laid m n area (t ∷ ts) = laid m (n + 1) (lay_one m n area t) ts

-- a store behind others may come before them
pub sets-set : (vs l : List ℕ) (at i v : ℕ) → at + length vs ≤ i → sets (set l i v) at vs ≡ set (sets l at vs) i v
sets-set [] l at i v h = refl
sets-set (x ∷ vs) l at i v h =
    ap (λ (y : List ℕ). sets y (suc at) vs) (set_comm l i at v x (λ e. omega arith)) ∙ sets-set vs (set l at x) (suc at) i v (omega arith)

pub records-length : (ts : List Token) → length (records ts) ≡ length ts * record_words
unfolding records
records-length [] = refl
records-length (t ∷ ts) = omega (arith, records-length ts)

-- a word of the table, read in the tail that starts at the record
pub word_of : (table : List ℕ) (i k : ℕ) (l : List ℕ) → drop (i * record_words) table ≡ l → get_or table (i * record_words + k) 0 ≡ get_or l k 0
word_of table i k l e = sym (get_or-drop (i * record_words) table k 0) ∙ ap (λ (x : List ℕ). get_or x k 0) e

pub next-tail : (table : List ℕ) (i a b c : ℕ) (l : List ℕ) → drop (i * record_words) table ≡ a ∷ (b ∷ (c ∷ l)) → drop ((i + 1) * record_words) table ≡ l
next-tail table i a b c l e =
    let q : (i + 1) * record_words ≡ i * record_words + record_words = omega arith in
    ap (λ (n : ℕ). drop n table) q ∙ (sym (drop-drop record_words (i * record_words) table) ∙ ap (λ (x : List ℕ). drop record_words x) e)

-- the records of t and ts, that of t stored first
records-more : (area : List ℕ) (n : ℕ) (t : Token) (ts : List Token)
    → sets (record_at area (n * record_words) t.kind t.start (t.start + length t.bytes)) ((n + 1) * record_words) (records ts) ≡ sets area
    (n * record_words) (records (t ∷ ts))
unfolding records
records-more area n t ts =
    let f : (n + 1) * record_words ≡ suc (suc (suc (n * record_words))) = omega arith in
    rw (add-one (n * record_words), add-two (n * record_words), f)

pub laid-is : (m : Bool) (n : ℕ) (area : List ℕ) (ts : List Token) → n + length ts ≤ max_tokens
    → laid m n area ts ≡ sets (sets area (n * record_words) (records ts)) (first_mark + n) (marks m ts)
unfolding laid records symbols
laid-is true n area [] h = refl
laid-is false n area [] h = refl
laid-is false n area (t ∷ ts) h = laid-is false (n + 1) (lay_one false n area t) ts (omega arith) ∙ records-more area n t ts
laid-is true n area (t ∷ ts) h =
    let one : first_mark + (n + 1) ≡ suc (first_mark + n) = omega arith in
    let front = record_at area (n * record_words) t.kind t.start (t.start + length t.bytes) in
    laid-is true (n + 1) (lay_one true n area t) ts (omega arith)
    ∙ ap (λ (y : List ℕ). sets y (first_mark + (n + 1)) (symbols ts))
    (sets-set (records ts) front ((n + 1) * record_words) (first_mark + n) (sym_of t) (omega (arith, records-length ts)))
    ∙ ap (λ (y : List ℕ). sets (set y (first_mark + n) (sym_of t)) (first_mark + (n + 1)) (symbols ts)) (records-more area n t ts)
    ∙ ap (λ (i : ℕ). sets (set (sets area (n * record_words) (records (t ∷ ts))) (first_mark + n) (sym_of t)) i (symbols ts)) one

-- ---- one mark

pub mark-none : (m : Bool) (area : List ℕ) (i s : ℕ) → m ≡ false → area ≡ marked_at m area i s
mark-none m area i s e = rw e

pub mark-some : (m : Bool) (area : List ℕ) (i s v : ℕ) → m ≡ true → v ≡ s → set area (first_mark + i) v ≡ marked_at m area i s
mark-some m area i s v e q = rw (e, q)

-- ---- lengths and room

pub marked-length : (m : Bool) (area : List ℕ) (i s : ℕ) → length (marked_at m area i s) ≡ length area
marked-length true area i s = length-set area (first_mark + i) s
marked-length false area i s = refl

-- a work area has room for the records
pub area-records : (m : Bool) (n l : ℕ) → area_words m n ≤ l → record_words * min n max_tokens ≤ l
area-records true n l h = omega arith
area-records false n l h = h

-- and for the marks
pub area-marks : (m : Bool) (n l : ℕ) → area_words m n ≤ l → m ≡ true → work_words ≤ l
area-marks true n l h e = h
area-marks false n l h e = let z : ◌≡◌ {A = ℕ} 0 1 = cc in absurd (omega arith)
