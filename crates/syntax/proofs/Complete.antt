-- What the grammar derives is read: each phrase as its tree, with the tokens after it left. Where a reader takes all it can, that asks
-- of the next token that it does not go on with the phrase. Assumes nothing.
use mathlib.Core.Path.{◌≡◌, refl, sym, ap, ◌∙◌}
use mathlib.Core.Bool.{Bool, true, false, cond, ◌&&◌, ◌||◌}
use mathlib.Core.List.{List, [], ◌∷◌}
use mathlib.Core.Option.{Option, some}
use Prim.Native.Nat.{ℕ, zero, suc}
use native.Mathlib.Omega.{arith}
use lib.Dec.{eqb}
use borrow.Author.Tests.{eq-eqb, ne_eqb}
use Rattle.lexis.specs.Lexer.{Token}
use Rattle.lexis.specs.Symbol.{sym_of, is_literal, left_round, right_round, left_square, right_square, right_curly, equal, comma, semicolon, a_name, minus}
use Rattle.syntax.specs.Tree.{Literal, unsigned, Value, Values, Ty, Tys, Param, Result, Header, Arg, Call, Document}
use Rattle.syntax.specs.Tree.Value.{name, literal, array, tuple}
use Rattle.syntax.specs.Tree.Arg.{positional}
use Rattle.syntax.specs.Grammar.{Separated, IsLiteral, Leaves, takes_names, takes_literals, Spells, Items, IsTypeName, Dims, IsType, IsTypes}
use Rattle.syntax.specs.Grammar.{IsDefault, IsParam, IsResult, IsHeader, IsList, IsName, IsArg, IsLeft, IsEnd, IsCall, IsBody, IsDocument}
use Rattle.syntax.specs.Grammar.Separated.{last, next}
use Rattle.syntax.specs.Grammar.IsLiteral.{no_sign, a-sign}
use Rattle.syntax.specs.Grammar.Leaves.{names, both}
use Rattle.syntax.specs.Grammar.Spells.{a-name, a-literal, an-empty-array, an-array, a-tuple}
use Rattle.syntax.specs.Grammar.Items.{last-item, next-item}
use Rattle.syntax.specs.Grammar.IsTypeName.{is-tensor, is-extent, is-scalar, is-logical, is-string}
use Rattle.syntax.specs.Grammar.Dims.{no-pair, a_pair}
use Rattle.syntax.specs.Grammar.IsType.{a-plain, a-tuple-type}
use Rattle.syntax.specs.Grammar.IsTypes.{last-type, next-type}
use Rattle.syntax.specs.Grammar.IsDefault.{no_default, a-default}
use Rattle.syntax.specs.Grammar.IsParam.{a-param}
use Rattle.syntax.specs.Grammar.IsResult.{a-result}
use Rattle.syntax.specs.Grammar.IsHeader.{a-header}
use Rattle.syntax.specs.Grammar.IsList.{no_header, a-header-more}
use Rattle.syntax.specs.Grammar.IsName.{the-name}
use Rattle.syntax.specs.Grammar.IsArg.{a-positional, a-named}
use Rattle.syntax.specs.Grammar.IsLeft.{one-pattern, a-bare-tuple}
use Rattle.syntax.specs.Grammar.IsEnd.{no-semicolon, a-semicolon}
use Rattle.syntax.specs.Grammar.IsCall.{a_call}
use Rattle.syntax.specs.Grammar.IsBody.{last-call, next-call}
use Rattle.syntax.specs.Grammar.IsDocument.{a-document}
use Rattle.syntax.specs.Parser.{Reader, expect, begins, rest, Row, follow, Lists, plain, values, types, row, negative, value_step, array_items, tuple_items}
use Rattle.syntax.specs.Parser.{bracketed, value, type_name, dims, tuple_types, base_step, type, default, param, typed_name, header, operations, labelled}
use Rattle.syntax.specs.Parser.{argument, left, call, document}
use Rattle.syntax.specs.Parser.Parse.{ok}
use Rattle.syntax.specs.Parser.Row.{commas, closed, to_the_end}
use Rattle.syntax.specs.Parser.Follow.{again, done}
use Rattle.syntax.proofs.Row.{Shrinks, row_is}
use Rattle.syntax.proofs.Shrinks.{expect-shrinks, value-shrinks, type-shrinks, param-shrinks, result-shrinks, header-shrinks, argument-shrinks}
use Rattle.syntax.proofs.Shrinks.{call-shrinks}

-- ---- rows

module _ {A L : Type 0} (l : Lists A L) (r : Row) {item : Reader A} (s : Shrinks item) (ts : List Token) {a : A} {us ws : List Token}
    (e : item ts ≡ ok a us) where
  row_last : follow r us ≡ done ws → row l r item ts ≡ ok (l.one a) ws
  row_last f = rw (row_is l r item s ts, e, f)

  row_next : {x : L} {xs : List Token} → follow r us ≡ again ws → row l r item ws ≡ ok x xs → row l r item ts ≡ ok (l.cons a x) xs
  row_next f g = rw (row_is l r item s ts, e, f, g)

module _ (close : ℕ) (c : Token) (us : List Token) where
  follow-comma : sym_of c ≡ comma → follow (commas close) (c ∷ us) ≡ again us
  unfolding follow
  follow-comma e = rw e

  follow-close : eqb close comma ≡ false → sym_of c ≡ close → follow (commas close) (c ∷ us) ≡ done us
  unfolding follow
  follow-close n e = rw (e, n, eq-eqb close close refl)

-- ---- values

false-true : false ≡ true → ⊥
false-true e = let z : ◌≡◌ {A = ℕ} 0 1 = cc in omega arith

and-false : (x : Bool) → x && false ≡ false
and-false true = refl
and-false false = refl

-- the terminals that begin a value
abbrev starter : ℕ → Bool
starter s = is_literal s || (eqb s minus || (eqb s a_name || (eqb s left_square || eqb s left_round)))

data Starts : List Token → Type 0 where
  starts : {t : Token} {ts : List Token} → starter (sym_of t) ≡ true → Starts (t ∷ ts)

-- terminals that a test tells apart
apart : (f : ℕ → Bool) (s r : ℕ) → f s ≡ true → f r ≡ false → eqb s r ≡ false
apart f s r h k = ne_eqb s r (λ e. false-true (sym k ∙ (ap f (sym e) ∙ h)))

not-begins : (s : ℕ) {ts : List Token} → starter s ≡ false → Starts ts → begins s ts ≡ false
not-begins s k (starts {t} h) = apart starter (sym_of t) s h k

spells-starts : {m : Leaves} {b : ℕ} {ts us : List Token} {v : Value} → Spells m b ts v us → Starts ts
spells-starts (a-name {t = t} p q) = starts {t = t} (rw q)
spells-starts (a-literal p (no_sign {t = t} q)) = starts {t = t} (rw q)
spells-starts (a-literal p (a-sign {s = s} q r)) = starts {t = s} (rw q)
spells-starts (an-empty-array {o = o} p q) = starts {t = o} (rw p)
spells-starts (an-array {o = o} p q) = starts {t = o} (rw p)
spells-starts (a-tuple {o = o} p q r s) = starts {t = o} (rw p)

items-starts : {m : Leaves} {close b : ℕ} {ts us : List Token} {vs : Values} → Items m close b ts vs us → Starts ts
items-starts (last-item h e) = spells-starts h
items-starts (next-item h e i) = spells-starts h

module _ (m : Leaves) (k : Token → Reader Value) (t : Token) (ts : List Token) where
  name-step : takes_names m ≡ true → sym_of t ≡ a_name → value_step m k (t ∷ ts) ≡ ok (name t) ts
  unfolding value_step
  name-step p q = rw (p, q)

  literal-step : takes_literals m ≡ true → is_literal (sym_of t) ≡ true → value_step m k (t ∷ ts) ≡ ok (literal (unsigned t)) ts
  unfolding value_step
  literal-step p q = rw (apart is_literal (sym_of t) a_name q refl, and-false (takes_names m), p, q)

  sign-step : takes_literals m ≡ true → sym_of t ≡ minus → value_step m k (t ∷ ts) ≡ negative t ts
  unfolding value_step
  sign-step p q = rw (q, and-false (takes_names m), p)

  square-step : sym_of t ≡ left_square → value_step m k (t ∷ ts) ≡ k t ts
  unfolding value_step
  square-step e = rw (e, and-false (takes_names m), and-false (takes_literals m))

  round-step : sym_of t ≡ left_round → value_step m k (t ∷ ts) ≡ k t ts
  unfolding value_step
  round-step e = rw (e, and-false (takes_names m), and-false (takes_literals m))

leaf : (m : Leaves) (b : ℕ) (ts : List Token) {v : Value} {us : List Token} → ((k : Token → Reader Value) → value_step m k ts ≡ ok v us)
    → value m b ts ≡ ok v us
unfolding value
leaf m zero ts h = h _
leaf m (suc b) ts h = h _

literal-complete : (m : Leaves) {ts us : List Token} {l : Literal} → takes_literals m ≡ true → IsLiteral ts l us → (k : Token → Reader Value)
    → value_step m k ts ≡ ok (literal l) us
unfolding negative expect
literal-complete m p (no_sign {t = t} {ts} q) k = literal-step m k t ts p q
literal-complete m p (a-sign {s = s} {t} {ts} q r) k = sign-step m k s (t ∷ ts) p q ∙ rw r

module _ (m : Leaves) (b : ℕ) (o : Token) (ts us : List Token) where
  array-complete : {vs : Values} → sym_of o ≡ left_square → array_items (value m b) ts ≡ ok vs us → value m (suc b) (o ∷ ts) ≡ ok (array o vs) us
  unfolding value bracketed
  array-complete e h = square-step m _ o ts e ∙ rw (e, h)

  tuple-complete : {vs : Values} → sym_of o ≡ left_round → tuple_items (value m b) ts ≡ ok vs us → value m (suc b) (o ∷ ts) ≡ ok (tuple o vs) us
  unfolding value bracketed
  tuple-complete e h = round-step m _ o ts e ∙ rw (e, h)

mutual
  unfolding array_items tuple_items expect

  pub value-complete : {m : Leaves} {b : ℕ} {ts us : List Token} {v : Value} → Spells m b ts v us → value m b ts ≡ ok v us
  value-complete {m} {b} (a-name {t = t} {ts = ts} p q) = leaf m b (t ∷ ts) (λ k. name-step m k t ts p q)
  value-complete {m} {b} (a-literal {ts = ts} p q) = leaf m b ts (literal-complete m p q)
  value-complete {m} (an-empty-array {b = b} {o = o} {c = c} {ts = ts} p q) = array-complete m b o (c ∷ ts) ts p (rw q)
  value-complete {m} (an-array {b = b} {o = o} {ts = ts} {us = us} p i) =
      array-complete m b o ts us p (rw (not-begins right_square refl (items-starts i)) (items-complete refl i))
  value-complete {m} (a-tuple {b = b} {o = o} {ts = ts} {ws = ws} p h q i) = tuple-complete m b o ts ws p (rw (value-complete h, q, items-complete refl i))

  pub items-complete : {m : Leaves} {close b : ℕ} {ts us : List Token} {vs : Values} → eqb close comma ≡ false → Items m close b ts vs us
      → row values (commas close) (value m b) ts ≡ ok vs us
  items-complete {m} n (last-item {close = close} {b = b} {c = c} {ts = ts} {us = us} h e) =
      row_last values (commas close) (value-shrinks m b) ts (value-complete h) (follow-close close c us n e)
  items-complete {m} n (next-item {close = close} {b = b} {c = c} {ts = ts} {us = us} h e i) =
      row_next values (commas close) (value-shrinks m b) ts (value-complete h) (follow-comma close c us e) (items-complete n i)

-- ---- what follows an item of a list in round brackets

pub data Stops (c : Token) : Type 0 where
  at-comma : sym_of c ≡ comma → Stops c
  at-round : sym_of c ≡ right_round → Stops c

abbrev stopper : ℕ → Bool
stopper s = eqb s comma || eqb s right_round

stops : {c : Token} → Stops c → stopper (sym_of c) ≡ true
stops (at-comma e) = rw e
stops (at-round e) = rw e

not-stop : (s : ℕ) {c : Token} → stopper s ≡ false → Stops c → eqb (sym_of c) s ≡ false
not-stop s {c} k h = apart stopper (sym_of c) s (stops h) k

pub separated-complete : {A : Type 0} {Item : List Token → A → List Token → Type 0} {item : Reader A} → Shrinks item
    → ((ts : List Token) (a : A) (c : Token) (us : List Token) → Stops c → Item ts a (c ∷ us) → item ts ≡ ok a (c ∷ us))
    → {ts us : List Token} {xs : List A} → Separated Item right_round ts xs us → row plain (commas right_round) item ts ≡ ok xs us
separated-complete s f (last {c = c} {ts = ts} {us = us} h e) =
    row_last plain (commas right_round) s ts (f ts _ c us (at-round e) h) (follow-close right_round c us refl e)
separated-complete s f (next {c = c} {ts = ts} {us = us} h e i) =
    row_next plain (commas right_round) s ts (f ts _ c us (at-comma e) h) (follow-comma right_round c us e) (separated-complete s f i)

-- ---- types

-- a bracket may be opened
abbrev pub may : ℕ → Bool
may zero = false
may (suc b) = true

no-dims : (x : Bool) (w : Ty) (ts : List Token) → begins left_square ts ≡ false → dims x w ts ≡ ok w ts
unfolding dims
no-dims x w [] n = refl
no-dims x w (o ∷ []) n = rw n
no-dims x w (o ∷ c ∷ ts) n = rw n

pub dims-complete : {b : ℕ} {ts us : List Token} {w u : Ty} → begins left_square us ≡ false → Dims b ts w u us → dims (may b) w ts ≡ ok u us
unfolding dims
dims-complete {b} n (no-pair {ts = ts} {u = u}) = no-dims (may b) u ts n
dims-complete n (a_pair p q h) = rw (p, q) (dims-complete n h)

name-known : {s : ℕ} {w : Ty} → IsTypeName s w → (eqb s left_round ≡ false) × (type_name s ≡ some w)
unfolding type_name
name-known is-tensor = (refl, refl)
name-known is-extent = (refl, refl)
name-known is-scalar = (refl, refl)
name-known is-logical = (refl, refl)
name-known is-string = (refl, refl)

plain_step : (b : ℕ) (t : Token) (ts : List Token) {w : Ty} → IsTypeName (sym_of t) w → type b (t ∷ ts) ≡ dims (may b) w ts
unfolding type base_step
plain_step zero t ts h = rw ((name-known h).0, (name-known h).1)
plain_step (suc b) t ts h = rw ((name-known h).0, (name-known h).1)

mutual
  unfolding type base_step tuple_types expect

  pub type-complete : {b : ℕ} {ts us : List Token} {u : Ty} → begins left_square us ≡ false → IsType b ts u us → type b ts ≡ ok u us
  type-complete {b} n (a-plain {t = t} {ts = ts} h d) = plain_step b t ts h ∙ dims-complete n d
  type-complete n (a-tuple-type p h q i d) = rw (p, type-complete (rw q) h, q, types-complete i) (dims-complete n d)

  pub types-complete : {b : ℕ} {ts us : List Token} {vs : Tys} → IsTypes b ts vs us → row types (commas right_round) (type b) ts ≡ ok vs us
  types-complete (last-type {b = b} {c = c} {ts = ts} {us = us} h e) =
      row_last types (commas right_round) (type-shrinks b) ts (type-complete (rw e) h) (follow-close right_round c us refl e)
  types-complete (next-type {b = b} {c = c} {ts = ts} {us = us} h e i) =
      row_next types (commas right_round) (type-shrinks b) ts (type-complete (rw e) h) (follow-comma right_round c us e) (types-complete i)

-- ---- operation lists

pub default-complete : {b : ℕ} {ts us : List Token} {d : Option Value} → begins equal us ≡ false → IsDefault b ts d us → default b ts ≡ ok d us
unfolding default
default-complete n no_default = rw n
default-complete n (a-default e h) = rw (e, value-complete h)

-- what follows a parameter's type
default-starts : {b : ℕ} {ts us : List Token} {d : Option Value} → begins left_square us ≡ false → IsDefault b ts d us → begins left_square ts ≡ false
default-starts n no_default = n
default-starts n (a-default e h) = rw e

pub param-complete : {b : ℕ} {ts us : List Token} {x : Param} → begins left_square us ≡ false → begins equal us ≡ false → IsParam b ts x us
    → param b ts ≡ ok x us
unfolding param expect
param-complete n k (a-param p q h d) = rw (p, q, type-complete (default-starts n d) h, default-complete k d)

pub result-complete : {b : ℕ} {ts us : List Token} {x : Result} → begins left_square us ≡ false → IsResult b ts x us → typed_name b ts ≡ ok x us
unfolding typed_name expect
result-complete n (a-result p q h) = rw (p, q, type-complete n h)

pub header-complete : {b : ℕ} {ts us : List Token} {h : Header} → IsHeader b ts h us → header b ts ≡ ok h us
unfolding header expect
header-complete {b} (a-header p q r s t u v) =
    rw (
      p,
      q,
      r,
      separated-complete (param-shrinks b) (λ ts a c us k h. param-complete (not-stop left_square refl k) (not-stop equal refl k) h) s,
      t,
      u,
      separated-complete (result-shrinks b) (λ ts a c us k h. result-complete (not-stop left_square refl k) h) v,
    )

-- a header before other headers or the end
headers-more : (b : ℕ) (ts us : List Token) (h : Header) (hs : List Header) → header b ts ≡ ok h us → operations b us ≡ ok hs []
    → row plain to_the_end (header b) ts ≡ ok (h ∷ hs) []
unfolding operations follow
headers-more b ts [] h hs e f = row_last plain to_the_end (header-shrinks b) ts e refl ∙ ap (λ (l : List Header). ok (h ∷ l) []) (cc)
headers-more b ts (t ∷ us) h hs e f = row_next plain to_the_end (header-shrinks b) ts e refl f

operations-row : {b : ℕ} {ts us : List Token} {h : Header} → IsHeader b ts h us → operations b ts ≡ row plain to_the_end (header b) ts
unfolding operations
operations-row (a-header p q r s t u v) = refl

pub operations-complete : {b : ℕ} {ts : List Token} {hs : List Header} → IsList b ts hs → operations b ts ≡ ok hs []
unfolding operations
operations-complete no_header = refl
operations-complete {b} (a-header-more {ts = ts} {us = us} {h = h} {hs = hs} g l) =
    operations-row g ∙ headers-more b ts us h hs (header-complete g) (operations-complete l)

-- ---- documents

positional-complete : (b : ℕ) (v : Value) (us : List Token) → labelled v false b us ≡ ok (positional v) us
positional-complete b (name t) us = refl
positional-complete b (literal l) us = refl
positional-complete b (array t vs) us = refl
positional-complete b (tuple t vs) us = refl

pub argument-complete : {b : ℕ} {ts us : List Token} {a : Arg} → begins equal us ≡ false → IsArg b ts a us → argument b ts ≡ ok a us
unfolding argument
argument-complete {b} n (a-positional {us = us} {v = v} h) = rw (value-complete h, n) (positional-complete b v us)
argument-complete {b} n (a-named {n = t} {e = e} {ts = ts} p q h) = rw (leaf both b (t ∷ e ∷ ts) (λ k. name-step both k t (e ∷ ts) refl p), q, value-complete h)

one-complete : {ts : List Token} (b : ℕ) (e : Token) (us : List Token) (v : Value) → Starts ts → value names b ts ≡ ok v (e ∷ us) → sym_of e ≡ equal
    → left b ts ≡ ok v us
unfolding left
one-complete b e us v (starts h) p q = rw (p, q)

pub left-complete : {b : ℕ} {ts us : List Token} {v : Value} → IsLeft b ts v us → left b ts ≡ ok v us
unfolding left expect
left-complete {b} (one-pattern {e = e} {us = us} {v = v} h q) = one-complete b e us v (spells-starts h) (value-complete h) q
left-complete (a-bare-tuple h q i) = rw (value-complete h, q, items-complete refl i)

left-starts : {b : ℕ} {ts us : List Token} {v : Value} → IsLeft b ts v us → Starts ts
left-starts (one-pattern h e) = spells-starts h
left-starts (a-bare-tuple h e i) = spells-starts h

call-starts : {b : ℕ} {ts us : List Token} {x : Call} → IsCall b ts x us → Starts ts
call-starts (a_call h p q s e) = left-starts h

body-starts : {b : ℕ} {ts us : List Token} {xs : List Call} → IsBody b ts xs us → Starts ts
body-starts (last-call h e) = call-starts h
body-starts (next-call h i) = call-starts h

end-complete : {ts us : List Token} → begins semicolon us ≡ false → IsEnd ts us → cond (begins semicolon ts) (rest ts) ts ≡ us
end-complete n no-semicolon = rw n
end-complete n (a-semicolon e) = rw e

pub call-complete : {b : ℕ} {ts us : List Token} {x : Call} → begins semicolon us ≡ false → IsCall b ts x us → call b ts ≡ ok x us
unfolding call expect
call-complete {b} n (a_call h p q s e) =
    rw (left-complete h, p, q, separated-complete (argument-shrinks b) (λ ts a c us k g. argument-complete (not-stop equal refl k) g) s, end-complete n e)

follow-on : {ts : List Token} → Starts ts → follow (closed right_curly) ts ≡ again ts
unfolding follow
follow-on (starts {t} h) = rw (apart starter (sym_of t) right_curly h refl)

follow-off : (t : Token) (ts : List Token) → sym_of t ≡ right_curly → follow (closed right_curly) (t ∷ ts) ≡ done ts
unfolding follow
follow-off t ts e = rw e

pub body-complete : {b : ℕ} {ts us : List Token} {xs : List Call} → IsBody b ts xs us → row plain (closed right_curly) (call b) ts ≡ ok xs us
body-complete {b} (last-call {t = t} {ts = ts} {us = us} h e) =
    row_last plain (closed right_curly) (call-shrinks b) ts (call-complete (rw e) h) (follow-off t us e)
body-complete {b} (next-call {ts = ts} h i) =
    let first = body-starts i in
    row_next plain (closed right_curly) (call-shrinks b) ts (call-complete (not-begins semicolon refl first) h) (follow-on first) (body-complete i)

pub name-complete : (ts : List Token) (n c : Token) (us : List Token) → Stops c → IsName ts n (c ∷ us) → expect a_name ts ≡ ok n (c ∷ us)
unfolding expect
name-complete ts n c us k (the-name e) = rw e

pub document-complete : {b : ℕ} {ts : List Token} {d : Document} → IsDocument b ts d → document b ts ≡ ok d []
unfolding document expect
document-complete (a-document v l g n o is a p os q h) =
    rw (
      v,
      l,
      g,
      n,
      o,
      separated-complete (expect-shrinks a_name) name-complete is,
      a,
      p,
      separated-complete (expect-shrinks a_name) name-complete os,
      q,
      body-complete h,
    )
