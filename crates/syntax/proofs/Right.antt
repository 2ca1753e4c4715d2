-- What it is for a reader to be right about a phrase: what it reads is that phrase, and the tokens before a fault of its can be
-- completed to one. The laws by which a reader that is made of right readers is right.
-- Assumes nothing.
use mathlib.Core.Path.{◌≡◌, refl, sym, ap, ◌∙◌}
use mathlib.Core.Bool.{Bool, true, false, cond}
use mathlib.Core.List.{List, [], ◌∷◌, ◌++◌, append_assoc}
use Prim.Native.Nat.{ℕ, zero, suc, ◌≤◌, ◌<◌}
use native.Mathlib.Omega.{arith}
use lib.Dec.{eqb}
use lib.ListN.{length, length-append}
use borrow.Author.Tests.{eqb-true}
use Rattle.lexis.specs.Lexer.{Token}
use Rattle.lexis.specs.Symbol.{sym_of, comma}
use Rattle.syntax.specs.Parser.{Parse, then, mapped, Reader, expect, begins, rest, Row, Follow, follow, onward, Lists, row_f, row}
use Rattle.syntax.specs.Parser.Parse.{ok, bad}
use Rattle.syntax.specs.Parser.Row.{commas, closed, to_the_end}
use Rattle.syntax.specs.Parser.Follow.{again, done, neither}
use Rattle.syntax.proofs.Row.{Shrinks, left-ok}
use Rattle.syntax.proofs.Samples.{Sample}

-- ---- what is stated

-- a phrase: how many brackets may be open, the tokens before, the tree, the tokens after
abbrev pub Phrase : Type 0 → Type 1
Phrase A = ℕ → List Token → A → List Token → Type 0

-- the tokens p are the phrase, whatever follows, where b brackets or more may be open
abbrev pub Reaches : {A : Type 0} → Phrase A → ℕ → List Token → A → Type 0
Reaches R b p a = (c : ℕ) (ws : List Token) → b ≤ c → R c (p ++ ws) a ws

-- some tokens after p complete the phrase
pub record Completes {A : Type 0} (R : Phrase A) (b : ℕ) (p : List Token) : Type 0 where
  pub tokens : List Token
  pub tree : A
  pub reaches : (c : ℕ) (ws : List Token) → b ≤ c → R c (p ++ (tokens ++ ws)) tree ws

-- The answer to the tokens ts is right: a tree of the tokens p before those that are left; or a fault, where p can be completed, and
-- with code 10 p and the token at the fault too, with one bracket more.
pub data Right {A : Type 0} (R : Phrase A) (b : ℕ) (ts : List Token) : Parse A → Type 0 where
  good : {a : A} {us : List Token} (p : List Token) → ts ≡ p ++ us → Reaches R b p a → Right R b ts (ok a us)
  nine : {us : List Token} (p : List Token) → ts ≡ p ++ us → Completes R b p → Right R b ts (bad 9 us)
  ten : {t : Token} {us : List Token} (p : List Token) → ts ≡ p ++ (t ∷ us) → Completes R b p → Completes R (suc b) (p ++ (t ∷ []))
      → Right R b ts (bad 10 (t ∷ us))

-- a reader is right everywhere, and there is such a phrase
pub record Reads {A : Type 0} (R : Phrase A) (b : ℕ) (f : Reader A) : Type 0 where
  pub each : (ts : List Token) → Right R b ts (f ts)
  pub some : Completes R b []

-- ---- choices

-- what holds of a choice, by its test
pub choice : {X : Type 0} (P : X → Type 0) (c : Bool) {x y : X} → (c ≡ true → P x) → (c ≡ false → P y) → P (cond c x y)
choice P true f g = f refl
choice P false f g = g refl

-- ---- tokens before a phrase

split : {ts us : List Token} (q p ws : List Token) → ts ≡ q ++ us → us ≡ p ++ ws → ts ≡ (q ++ p) ++ ws
split q p ws e d = e ∙ (ap (λ (l : List Token). q ++ l) d ∙ sym (append_assoc q p ws))

-- with the tokens q before it a phrase U is a phrase T, whose tree is made by g
abbrev pub Makes : {A B : Type 0} → Phrase A → Phrase B → List Token → (A → B) → ℕ → Type 0
Makes {A} U T q g b = (c : ℕ) (us : List Token) (a : A) (ws : List Token) → b ≤ c → U c us a ws → T c (q ++ us) (g a) ws

module _ {A B : Type 0} (U : Phrase A) (T : Phrase B) (q : List Token) (g : A → B) where
  ahead : {b : ℕ} (p : List Token) → Makes U T q g b → Completes U b p → Completes T b (q ++ p)
  ahead p f h =
      record { tokens = h.tokens; tree = g h.tree; reaches = λ c ws k. rw (append_assoc q p (h.tokens ++ ws)) (f c _ _ ws k (h.reaches c ws k)) }

  pub made : {b : ℕ} {ts us : List Token} {x : Parse A} → ts ≡ q ++ us → Makes U T q g b → Right U b us x → Right T b ts (mapped g x)
  made e f (good {a = a} p d h) = good {a = g a} (q ++ p) (split q p _ e d) (λ c ws k. rw (append_assoc q p ws) (f c _ _ ws k (h c ws k)))
  made e f (nine p d h) = nine (q ++ p) (split q p _ e d) (ahead p f h)
  made e f (ten {t = t} p d h h') =
      ten (q ++ p) (split q p _ e d) (ahead p f h) (rw (append_assoc q p (t ∷ [])) (ahead (p ++ (t ∷ [])) (λ c us a ws k. f c us a ws (omega arith)) h'))

mapped-same : {A : Type 0} (x : Parse A) → mapped (λ a. a) x ≡ x
mapped-same (ok a us) = refl
mapped-same (bad c us) = refl

pub glue : {A : Type 0} (U T : Phrase A) {b : ℕ} {ts us : List Token} {x : Parse A} (q : List Token) → ts ≡ q ++ us → Makes U T q (λ a. a) b
    → Right U b us x → Right T b ts x
glue U T {x = x} q e f h = rw (mapped-same x) at (made U T q (λ a. a) e f h)

-- every U is a T
pub also : {A : Type 0} (U T : Phrase A) {b : ℕ} {f : Reader A} → Reads U b f
    → ((c : ℕ) (ts : List Token) (a : A) (us : List Token) → U c ts a us → T c ts a us) → Reads T b f
also U T h k =
    let q = h.some in
    record {
      each = λ ts. glue U T [] refl (λ c us a ws l j. k c us a ws j) (h.each ts);
      some = record { tokens = q.tokens; tree = q.tree; reaches = λ c ws l. k _ _ _ _ (q.reaches c ws l) };
    }

-- ---- one phrase after another

-- the phrase T, from where a phrase R with the tree a ends
abbrev pub After : {A B : Type 0} → Phrase A → Phrase B → A → Phrase B
After R T a b us c ws = (ts : List Token) → R b ts a us → T b ts c ws

pub raise : {A : Type 0} {R : Phrase A} {b b' : ℕ} {p : List Token} → b ≤ b' → Completes R b p → Completes R b' p
raise l q = record { tokens = q.tokens; tree = q.tree; reaches = λ c ws k. q.reaches c ws (omega arith) }

module _ {A B : Type 0} (R : Phrase A) (T : Phrase B) where
  -- what begins an R begins a T
  pub begun : {b : ℕ} {p : List Token} → Completes R b p → ((a : A) → Completes (After R T a) b []) → Completes T b p
  begun {p = p} q f =
      let r = f q.tree in
      record {
        tokens = q.tokens ++ r.tokens;
        tree = r.tree;
        reaches =
            λ c ws k. rw (append_assoc q.tokens r.tokens ws)
            (r.reaches c ws k (p ++ (q.tokens ++ (r.tokens ++ ws))) (q.reaches c (r.tokens ++ ws) k));
      }

  -- a T, where it is known how to go on after the tokens q of an R
  pub from-right : {b : ℕ} {ts : List Token} {x : Parse A} (k : A → List Token → Parse B) → Right R b ts x → ((a : A) → Completes (After R T a) b []) →
      ((a : A) (us q : List Token) → x ≡ ok a us → ts ≡ q ++ us → Reaches R b q a → Right T b ts (k a us)) → Right T b ts (then x k)
  from-right k (good q e h) f g = g _ _ q refl e h
  from-right k (nine q e h) f g = nine q e (begun h f)
  from-right k (ten q e h h') f g = ten q e (begun h f) (begun h' (λ a. raise (omega arith) (f a)))

  after-right : {b : ℕ} {ts : List Token} {x : Parse A} (k : A → List Token → Parse B) → Right R b ts x → ((a : A) → Completes (After R T a) b []) →
      ((a : A) (us : List Token) → x ≡ ok a us → Right (After R T a) b us (k a us)) → Right T b ts (then x k)
  after-right k r f g = from-right k r f (λ a us q d e h. glue (After R T a) T q e (λ c us d ws l j. j (q ++ us) (h c us l)) (g a us d))

  pub after : {b : ℕ} {f : Reader A} {k : A → Reader B} → Reads R b f → ((a : A) → Reads (After R T a) b (k a)) → Reads T b (λ ts. then (f ts) k)
  after {b} {f} {k} h g = record { each = λ ts. after-right k (h.each ts) (λ a. (g a).some) (λ a us e. (g a).each us); some = begun h.some (λ a. (g a).some) }

-- no token more
pub finish : {A : Type 0} {T : Phrase A} {b : ℕ} (a : A) → ((b : ℕ) (us : List Token) → T b us a us) → Reads T b (λ us. ok a us)
finish a h = record { each = λ ts. good [] refl (λ c ws k. h c ws); some = record { tokens = []; tree = a; reaches = λ c ws k. h c ws } }

-- no token more, and a tree made of one
pub into : {A B : Type 0} (R : Phrase A) (T : Phrase B) {b : ℕ} {f : Reader A} (g : A → B) → Reads R b f →
    ((b : ℕ) (ts : List Token) (a : A) (us : List Token) → R b ts a us → T b ts (g a) us) → Reads T b (λ ts. mapped g (f ts))
into R T g h k = after R T h (λ a. finish (g a) (λ b us ts. k b ts a us))

-- ---- one token

-- the phrase T, from behind its first token
abbrev pub Past : {B : Type 0} → Phrase B → Token → Phrase B
Past T t b us c ws = T b (t ∷ us) c ws

module _ {B : Type 0} (T : Phrase B) where
  pub shift : {b : ℕ} {us : List Token} {x : Parse B} (t : Token) → Right (Past T t) b us x → Right T b (t ∷ us) x
  shift t h = glue (Past T t) T (t ∷ []) refl (λ c us a ws l j. j) h

  expected : (s : ℕ) {b : ℕ} {k : Token → Reader B} → Completes T b [] →
      ((t : Token) → sym_of t ≡ s → (us : List Token) → Right (Past T t) b us (k t us)) → (ts : List Token) → Right T b ts (then (expect s ts) k)
  unfolding expect
  expected s {b} {k} q f [] = nine [] refl q
  expected s {b} {k} q f (t ∷ us) =
      choice (λ x. Right T b (t ∷ us) (then x k)) (eqb (sym_of t) s) (λ e. shift t (f t (eqb-true (sym_of t) s e) us)) (λ e. nine [] refl q)

  pub expects : {s : ℕ} (x : Sample s) {b : ℕ} {k : Token → Reader B} → ((t : Token) → sym_of t ≡ s → Reads (Past T t) b (k t))
      → Reads T b (λ ts. then (expect s ts) k)
  expects {s} x {b} {k} f = record { each = expected s q (λ t e. (f t e).each); some = q }
    where
      g : Completes (Past T x.token) b []
      g = (f x.token x.is).some

      q : Completes T b []
      q = record { tokens = x.token ∷ g.tokens; tree = g.tree; reaches = g.reaches }

  -- a choice by the next token
  pub if-begins : (s : ℕ) {b : ℕ} {f g : Reader B} → ((t : Token) → sym_of t ≡ s → Reads (Past T t) b f) → Reads T b g
      → Reads T b (λ us. cond (begins s us) (f (rest us)) (g us))
  if-begins s {b} {f} {g} h k = record { each = go; some = k.some }
    where
      go : (us : List Token) → Right T b us (cond (begins s us) (f (rest us)) (g us))
      go [] = k.each []
      go (t ∷ us) = choice (Right T b (t ∷ us)) (eqb (sym_of t) s) (λ e. shift t ((h t (eqb-true (sym_of t) s e)).each us)) (λ _. k.each (t ∷ us))

-- ---- one bracket

-- the phrase T, with one bracket open
abbrev pub Inside : {B : Type 0} → Phrase B → Phrase B
Inside T b us c ws = T (suc b) us c ws

module _ {B : Type 0} (T : Phrase B) where
  deep : {b : ℕ} (f : List Token → List Token) (a : B) → ((c : ℕ) (ws : List Token) → b ≤ c → T (suc c) (f ws) a ws) → (c : ℕ) (ws : List Token) → suc b ≤ c
      → T c (f ws) a ws
  deep f a g zero ws k = absurd (omega arith)
  deep f a g (suc c) ws k = g c ws (omega arith)

  pub opened : {b : ℕ} {q : List Token} → Completes (Inside T) b q → Completes T (suc b) q
  opened {q = q} g = record { tokens = g.tokens; tree = g.tree; reaches = deep (λ ws. q ++ (g.tokens ++ ws)) g.tree g.reaches }

  pub deeper : {b : ℕ} {us : List Token} {x : Parse B} → Right (Inside T) b us x → Right T (suc b) us x
  deeper (good {a = a} q e g) = good q e (deep (λ ws. q ++ ws) a g)
  deeper (nine q e g) = nine q e (opened g)
  deeper (ten q e g g') = ten q e (opened g) (opened g')

-- ---- rows

-- the tokens between two items of a row, and those that end it
pub data Between : Row → List Token → Type 0 where
  a-comma : {close : ℕ} {c : Token} → sym_of c ≡ comma → Between (commas close) (c ∷ [])
  closed_on : {close : ℕ} → Between (closed close) []
  on-to-the-end : Between to_the_end []

pub data Ending : Row → List Token → Type 0 where
  a-closer : {close : ℕ} {c : Token} → sym_of c ≡ close → Ending (commas close) (c ∷ [])
  a-last : {close : ℕ} {c : Token} → sym_of c ≡ close → Ending (closed close) (c ∷ [])
  the_end : Ending to_the_end []

data Followed (r : Row) (us : List Token) : Follow → Type 0 where
  goes_on : {ws : List Token} (m : List Token) → us ≡ m ++ ws → Between r m → Followed r us (again ws)
  stops : {ws : List Token} (m : List Token) → us ≡ m ++ ws → Ending r m → Followed r us (done ws)
  stuck : Followed r us neither

followed : (r : Row) (us : List Token) → Followed r us (follow r us)
unfolding follow
followed (commas close) [] = stuck
followed (commas close) (t ∷ us) =
    choice (Followed (commas close) (t ∷ us)) (eqb (sym_of t) comma) (λ e. goes_on (t ∷ []) refl (a-comma (eqb-true _ _ e))) (λ _.
    choice (Followed (commas close) (t ∷ us)) (eqb (sym_of t) close) (λ e. stops (t ∷ []) refl (a-closer (eqb-true _ _ e))) (λ _. stuck))
followed (closed close) [] = stuck
followed (closed close) (t ∷ us) =
    choice (Followed (closed close) (t ∷ us)) (eqb (sym_of t) close) (λ e. stops (t ∷ []) refl (a-last (eqb-true _ _ e))) (λ _. goes_on [] refl closed_on)
followed to_the_end [] = stops [] refl the_end
followed to_the_end (t ∷ us) = goes_on [] refl on-to-the-end

shorter : (m ws us : List Token) → us ≡ m ++ ws → length ws ≤ length us
shorter m ws us e = omega (arith, simp length-append at (ap length e))

-- an item R with what ends a row is a row S, and so is one with what parts it from a row
abbrev pub Last : {A L : Type 0} → Lists A L → Row → Phrase A → Phrase L → Type 0
Last {A} l r R S = (b : ℕ) (ts : List Token) (a : A) (m us : List Token) → R b ts a (m ++ us) → Ending r m → S b ts (l.one a) us

abbrev pub Next : {A L : Type 0} → Lists A L → Row → Phrase A → Phrase L → Type 0
Next {A} {L} l r R S =
    (b : ℕ) (ts : List Token) (a : A) (m us : List Token) (x : L) (ws : List Token) → R b ts a (m ++ us) → Between r m → S b us x ws → S b ts (l.cons a x) ws

module _ {A L : Type 0} (l : Lists A L) (r : Row) (R : Phrase A) (S : Phrase L) (last : Last l r R S) (next : Next l r R S) (m₀ : List Token)
    (end : Ending r m₀) where
  ended : {b : ℕ} (a : A) → Completes (After R S a) b []
  ended a = record { tokens = m₀; tree = l.one a; reaches = λ c ws k ts h. last c ts a m₀ ws h end }

  turn : {b : ℕ} {us : List Token} {w : Follow} (a : A) (k : Reader L) → Followed r us w → ((ws : List Token) → length ws ≤ length us → Right S b ws (k ws)) →
      Right (After R S a) b us (onward w us (λ ws. mapped (l.cons a) (k ws)) (λ ws. ok (l.one a) ws))
  turn a k (goes_on {ws} m e q) h = made S (After R S a) m (l.cons a) e (λ c us x ws j s ts g. next c ts a m us x ws g q s) (h ws (shorter m ws _ e))
  turn a k (stops m e q) h = good m e (λ c ws k ts h. last c ts a m ws h q)
  turn a k stuck h = nine [] refl (ended a)

  row_f-right : {b : ℕ} {item : Reader A} → Shrinks item → Reads R b item → (f : ℕ) (ts : List Token) → length ts < f → Right S b ts (row_f f l r item ts)
  unfolding row_f
  row_f-right s h zero ts k = absurd (omega arith)
  row_f-right {b} {item} s h (suc f) ts k =
      after-right R S _ (h.each ts) (λ a. ended a) (λ a us e.
      turn a (λ ws. row_f f l r item ws) (followed r us) (λ ws j. row_f-right s h f ws (omega (arith, left-ok (rw e at (s ts))))))

  pub rows : {b : ℕ} {item : Reader A} → Shrinks item → Reads R b item → Reads S b (row l r item)
  unfolding row
  rows {b} {item} s h = record { each = λ ts. row_f-right s h (suc (length ts)) ts (omega arith); some = begun R S h.some (λ a. ended a) }
