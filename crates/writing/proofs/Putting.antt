-- Laws of what is put. In order: one byte; one list of bytes after another, and from a place on; the output's length; one piece; one part
-- after another.
use mathlib.Core.Path.{◌≡◌, refl, sym, ap, ap₂, subst, ◌∙◌}
use mathlib.Core.Bool.{Bool, true, false, cond}
use mathlib.Core.List.{List, [], ◌∷◌, ◌++◌, append_assoc, append-nil}
use Prim.Native.Nat.{ℕ, ◌+◌, ◌-◌, ◌≤◌, ◌<◌}
use native.Mathlib.Numerals.{add-one}
use native.Mathlib.Omega.{arith}
use borrow.Author.Tests.{lt-ltb, le-ltb, le-leb, lt-leb, leb-true, leb-false}
use lib.Dec.{leb, ltb}
use lib.ListN.{length, get_or, set, drop, length-set, drop_of_length-le}
use lib.Seq.{drop-cons}
use Rattle.writing.specs.declared.writer.Writer.{Writer}
use Rattle.writing.specs.Pieces.{Piece, text}
use Rattle.writing.specs.Layout.{piece}
use Rattle.writing.specs.Writing.{max_count, one_more, store_byte, passed, stored, tallied, place_after, Wrote, one_token, Puts, PutsWord}

-- ---- bytes

-- a count goes on, up to the end of a word
pub counted-on : (n : ℕ) → n < max_count → n + 1 ≡ one_more n
unfolding one_more
counted-on n h = rw (lt-ltb n max_count h) (add-one n)

pub counted-out : (n : ℕ) → max_count ≤ n → n ≡ one_more n
unfolding one_more
counted-out n h = rw (le-ltb n max_count h)

-- a byte inside the output is stored; beyond it, it is not
pub store-inside : (out : List ℕ) (at b : ℕ) → at < length out → set out at b ≡ store_byte out at b
unfolding store_byte
store-inside out at b h = rw (lt-ltb at (length out) h)

pub store-beyond : (out : List ℕ) (at b : ℕ) → length out ≤ at → out ≡ store_byte out at b
unfolding store_byte
store-beyond out at b h = rw (le-ltb at (length out) h)

-- one list of bytes after another
pub passed-append : (at : ℕ) (v w : List ℕ) → passed at (v ++ w) ≡ passed (passed at v) w
unfolding passed
passed-append at [] w = refl
passed-append at (b ∷ v) w = passed-append (one_more at) v w

pub stored-append : (out : List ℕ) (at : ℕ) (v w : List ℕ) → stored out at (v ++ w) ≡ stored (stored out at v) (passed at v) w
unfolding passed stored
stored-append out at [] w = refl
stored-append out at (b ∷ v) w = stored-append (store_byte out at b) (one_more at) v w

-- bytes were stored from one position to another: one byte; one list of bytes after another
abbrev pub Stores : List ℕ → List ℕ → List ℕ → ℕ → ℕ → Type 0
Stores w out out' at end = (end ≡ passed at w) × (out' ≡ stored out at w)

pub stores-then : (out : List ℕ) (at : ℕ) (v w : List ℕ) {mid out' : List ℕ} {on end : ℕ} → Stores v out mid at on → Stores w mid out' on end
    → Stores (v ++ w) out out' at end
stores-then out at v w p q = (q.0 ∙ rw p.0 (sym (passed-append at v w)), q.1 ∙ rw (p.0, p.1) (sym (stored-append out at v w)))

-- what a writer wrote, as what was stored; one list of bytes after another
pub wrote-stores : {w : List ℕ} {out out' : Writer} → Wrote w out out' → Stores w out.out.now out'.out.now out.place.bytes out'.place.bytes
wrote-stores p = (p.end, p.bytes)

pub wrote-none : {out : Writer} → Wrote [] out out
unfolding passed stored
wrote-none = record { same = refl; bytes = refl; end = refl; tokens = refl }

pub wrote-then : (v w : List ℕ) {a b c : Writer} → Wrote v a b → Wrote w b c → Wrote (v ++ w) a c
wrote-then v w {a} p q =
    let s = stores-then a.out.now a.place.bytes v w (wrote-stores p) (wrote-stores q) in
    record { same = q.same ∙ p.same; bytes = s.1; end = s.0; tokens = q.tokens ∙ p.tokens }

-- what is left of a word from place i on: one byte more, and none
pub wrote-next : (w : List ℕ) (i : ℕ) {a b c : Writer} → i < length w → Wrote (get_or w i 0 ∷ []) a b → Wrote (drop (i + 1) w) b c → Wrote (drop i w) a c
wrote-next w i {a} {c = c} h p q =
    subst (λ (bs : List ℕ). Wrote bs a c) (sym (rw (add-one i) (drop-cons w i 0 h))) (wrote-then (get_or w i 0 ∷ []) (drop (i + 1) w) p q)

pub wrote-end : (w : List ℕ) (i : ℕ) {a : Writer} → length w ≤ i → Wrote (drop i w) a a
wrote-end w i h = rw (drop_of_length-le w h) wrote-none

-- a list of bytes from place i on: one byte more, and none
pub stored-step : (out : List ℕ) (at : ℕ) (w : List ℕ) (i : ℕ) → i < length w → stored out at (drop i w) ≡ stored (store_byte out at (get_or w i 0))
    (one_more at) (drop (i + 1) w)
unfolding stored
stored-step out at w i h = rw (add-one i, drop-cons w i 0 h)

pub stored-end : (out : List ℕ) (at : ℕ) (w : List ℕ) (i : ℕ) → length w ≤ i → stored out at (drop i w) ≡ out
unfolding stored
stored-end out at w i h = rw (drop_of_length-le w h)

-- bytes that have room: one byte more in its place; whether n of them have room
pub paste-step : (out : List ℕ) (at : ℕ) (w : List ℕ) (i : ℕ) → i < length w → at + i < length out → at + i < max_count
    → stored out (at + i) (drop i w) ≡ stored (set out (at + i) (get_or w i 0)) (at + (i + 1)) (drop (i + 1) w)
paste-step out at w i h l m =
    let on : one_more (at + i) ≡ at + (i + 1) = omega (arith, counted-on (at + i) m) in
    stored-step out (at + i) w i h ∙ ap₂ (λ (x : List ℕ) (y : ℕ). stored x y (drop (i + 1) w)) (sym (store-inside out (at + i) (get_or w i 0) l)) on

pub room-left : (len at n : ℕ) → at ≤ len → leb n (len - at) ≡ leb (at + n) len
room-left len at n h = go (leb (at + n) len) refl
  where
    go : (b : Bool) → leb (at + n) len ≡ b → leb n (len - at) ≡ b
    go true e = le-leb n (len - at) (omega (arith, leb-true (at + n) len e))
    go false e = lt-leb n (len - at) (omega (arith, leb-false (at + n) len e))

-- the output stays as long as it is
pub store_length : (out : List ℕ) (at b : ℕ) → length (store_byte out at b) ≡ length out
unfolding store_byte
store_length out at b = go (ltb at (length out))
  where
    go : (t : Bool) → length (cond t (set out at b) out) ≡ length out
    go true = length-set out at b
    go false = refl

pub stored-length : (out : List ℕ) (at : ℕ) (w : List ℕ) → length (stored out at w) ≡ length out
unfolding stored
stored-length out at [] = refl
stored-length out at (b ∷ w) = stored-length (store_byte out at b) (one_more at) w ∙ store_length out at b

-- ---- pieces

-- one piece: its bytes and the white space after it were stored, and one token more was counted
pub puts-piece : (p : Piece) {out mid out' : Writer} → Wrote (p.bytes ++ p.space) out mid → out' ≡ one_token mid → Puts (λ r. p ∷ r) out out'
unfolding text tallied place_after
puts-piece p {out} {mid} w e = rw e (record {
  same = w.same;
  bytes = λ r. ap (stored out.out.now out.place.bytes) (sym (append_assoc p.bytes p.space (text r)))
      ∙ stored-append out.out.now out.place.bytes (p.bytes ++ p.space) (text r) ∙ rw (w.bytes, w.end);
  place = λ r. rw (w.tokens, w.end, ← append_assoc p.bytes p.space (text r), passed-append out.place.bytes (p.bytes ++ p.space) (text r));
})

-- one piece without white space
pub puts_word : (w : List ℕ) {out mid out' : Writer} → Wrote w out mid → out' ≡ one_token mid → PutsWord w out out'
puts_word w {out} {mid} p e k = puts-piece (piece k w) (subst (λ (bs : List ℕ). Wrote bs out mid) (sym (append-nil w)) p) e

-- no piece; one part after another
pub puts_none : {out : Writer} → Puts (λ r. r) out out
puts_none = record { same = refl; bytes = λ r. refl; place = λ r. refl }

pub puts_then : {P Q : List Piece → List Piece} {a b c : Writer} → Puts P a b → Puts Q b c → Puts (λ r. P (Q r)) a c
puts_then {Q = Q} p q = record { same = q.same ∙ p.same; bytes = λ r. p.bytes (Q r) ∙ q.bytes r; place = λ r. p.place (Q r) ∙ q.place r }

-- the same pieces, in other words
pub puts-same : {P Q : List Piece → List Piece} {out out' : Writer} → ((r : List Piece) → P r ≡ Q r) → Puts P out out' → Puts Q out out'
puts-same {out = out} e p = record {
  same = p.same;
  bytes = λ r. ap (λ (x : List Piece). stored out.out.now out.place.bytes (text x)) (sym (e r)) ∙ p.bytes r;
  place = λ r. ap (place_after out.place) (sym (e r)) ∙ p.place r;
}

-- all that was put, where nothing follows
pub puts-stored : {P : List Piece → List Piece} {out out' : Writer} → Puts P out out' → out'.out.now ≡ stored out.out.now out.place.bytes (text (P []))
unfolding text stored
puts-stored p = sym (p.bytes [])

pub puts-onward : {P : List Piece → List Piece} {out out' : Writer} → Puts P out out' → out'.place ≡ place_after out.place (P [])
unfolding text passed tallied place_after
puts-onward p = sym (p.place [])
