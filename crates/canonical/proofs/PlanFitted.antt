-- The plan of an accepted document under an accepted operation list fits. In order: rows; types; headers; what a parameter is bound to;
-- left sides; calls; the document; all of it under an accepted list. Each law about a phrase says what its tree has, and that the tokens
-- after it are good.
use mathlib.Core.Path.{◌≡◌, refl, ap, ◌∙◌}
use mathlib.Core.Bool.{Bool, true, false, cond}
use mathlib.Core.List.{List, [], ◌∷◌}
use mathlib.Core.Option.{Option, some}
use mathlib.Core.Option.{none as nothing}
use Prim.Native.Nat.{ℕ, suc, ◌<◌}
use native.Mathlib.Omega.{arith}
use lib.ListN.{length}
use Rattle.spellings.specs.Comparison.{same_bytes}
use Rattle.lexis.specs.Sizes.{max_brackets}
use Rattle.lexis.specs.Lexer.{Token}
use Rattle.syntax.specs.Tree.{Value, Ty, Tys, Param, Result, Header, Arg, Call, Document}
use Rattle.syntax.specs.Tree.Arg.{positional, named}
use Rattle.syntax.specs.Grammar.{names, literals, both, Separated, last, next, Dims, no-pair, a_pair, IsType, a-plain, a-tuple-type, IsTypes, last-type}
use Rattle.syntax.specs.Grammar.{next-type}
use Rattle.syntax.specs.Grammar.{IsDefault, no_default, a-default, IsParam, IsResult, a-result, IsHeader, a-header, IsList, no_header, a-header-more}
use Rattle.syntax.specs.Grammar.{the-name, IsArg, a-positional, a-named, IsLeft, one-pattern, a-bare-tuple, IsEnd, no-semicolon, a-semicolon, IsCall, IsBody}
use Rattle.syntax.specs.Grammar.{last-call, next-call, IsDocument, a-document}
use Rattle.syntax.specs.Grammar as G
use Rattle.lists.specs.Fault.{first}
use Rattle.lists.specs.Names.{value_of, repeats}
use Rattle.lists.specs.Reading.{Val, bind, read_at, result_type, all_tensor}
use Rattle.lists.specs.ListRules.{param_names, list_faults}
use Rattle.lists.specs.Found.{find}
use Rattle.lists.specs.Accepted.{AcceptedList}
use Rattle.lists.proofs.Faultless.{apart-params}
use Rattle.documents.specs.Binding.{leading, value_at_place, later, named_value, or_else, slots, slots_from}
use Rattle.documents.specs.Accepted.{AcceptedDocument}
use Rattle.documents.proofs.Items.{clash}
use Rattle.writing.specs.Plan.{Plan, PlanCall, spellings, value_for, values_for, plan_call, plan_calls, plan_of}
use Rattle.writing.specs.Layout.{left_pieces}
use Rattle.writing.specs.Fit.{IsName, Fits, fit-name, fit-number, fit-scalar, fit-extent, fit-string, fit-logical, fit-truth, fit-array, fit-tuple}
use Rattle.writing.proofs.Fit.{LeftFits, alone, several, FitsParams, no-param, a-param, CallFits, CallsFit, one-call, more-calls, NamesFit, one_name}
use Rattle.writing.proofs.Fit.{more-names, PlanFits}
use Rattle.writing.proofs.Good.{Each, good-name, AllGood, lex-good}
use Rattle.writing.proofs.Planned.{bound}
use Rattle.writing.proofs.Found.{find-same}
use Rattle.writing.proofs.PlanExists.{find-each, found-clean}
use Rattle.canonical.proofs.Fitted.{Reads, Pair, pair, spells-rest, items-rest, spells-fits, tuple-pair, wider, each-wider}

-- ---- rows

module _ {A : Type 0} {Item : List Token → A → List Token → Type 0} (P : A → Type 0)
    (item : (ts : List Token) (a : A) (us : List Token) → Item ts a us → AllGood ts → P a × AllGood us)
  where
    row-good : {close : ℕ} {ts us : List Token} {xs : List A} → Separated Item close ts xs us → AllGood ts → Each P xs × AllGood us
    row-good (last x c) g = let y = item _ _ _ x g in ((y.0, tt), y.1.1)
    row-good (next x c r) g =
        let y = item _ _ _ x g in
        let z = row-good r y.1.1 in
        ((y.0, z.0), z.1)

row-some : {A : Type 0} {Item : List Token → A → List Token → Type 0} {close : ℕ} {ts us : List Token} {xs : List A} → Separated Item close ts xs us
    → 0 < length xs
row-some (last x c) = omega arith
row-some (next x c r) = omega arith

name-good : {ts us : List Token} {t : Token} → G.IsName ts t us → AllGood ts → IsName t.bytes × AllGood us
name-good (the-name {t} s) g = (good-name t g.0 s, g.1)

names-fit : {close : ℕ} {ts us xs : List Token} → Separated G.IsName close ts xs us → AllGood ts → NamesFit (spellings xs) × AllGood us
names-fit (last x c) g = let y = name-good x g in (one_name y.0, y.1.1)
names-fit (next x c r) g =
    let y = name-good x g in
    let z = names-fit r y.1.1 in
    (more-names y.0 z.0, z.1)

-- ---- types

dims-rest : {b : ℕ} {ts us : List Token} {w u : Ty} → Dims b ts w u us → AllGood ts → AllGood us
dims-rest no-pair g = g
dims-rest (a_pair o c d) g = dims-rest d g.1.1

mutual
  type-rest : {b : ℕ} {ts us : List Token} {u : Ty} → IsType b ts u us → AllGood ts → AllGood us
  type-rest (a-plain w d) g = dims-rest d g.1
  type-rest (a-tuple-type o i c r d) g = dims-rest d (types-rest r (type-rest i g.1).1)

  types-rest : {b : ℕ} {ts us : List Token} {vs : Tys} → IsTypes b ts vs us → AllGood ts → AllGood us
  types-rest (last-type i c) g = (type-rest i g).1
  types-rest (next-type i c r) g = types-rest r (type-rest i g).1

-- ---- headers

-- a value, where there is one, has the property
abbrev Perhaps : (Value → Type 0) → Option Value → Type 0
Perhaps P nothing = Unit {0}
Perhaps P (some v) = P v

pub record GoodParam (b : ℕ) (p : Param) : Type 0 where
  pub name : IsName p.name.bytes
  pub default : Perhaps (Reads both b) p.default

pub record GoodHeader (b : ℕ) (h : Header) : Type 0 where
  pub name : IsName h.name.bytes
  pub some-param : 0 < length h.params
  pub params : Each (GoodParam b) h.params

default-good : {b : ℕ} {ts us : List Token} {d : Option Value} → IsDefault b ts d us → AllGood ts → Perhaps (Reads both b) d × AllGood us
default-good no_default g = (tt, g)
default-good {b} (a-default e s) g = (λ u w h. wider literals both (λ _. refl) (λ _. refl) b (omega arith) (spells-fits s g.1 u w h), spells-rest s g.1)

param-good : {b : ℕ} {ts us : List Token} {p : Param} → IsParam b ts p us → AllGood ts → GoodParam b p × AllGood us
param-good (G.a-param {n} s c i d) g =
    let y = default-good d (type-rest i g.1.1) in
    (record { name = good-name n g.0 s; default = y.0 }, y.1)

result-good : {b : ℕ} {ts us : List Token} {r : Result} → IsResult b ts r us → AllGood ts → Unit {0} × AllGood us
result-good (a-result s c i) g = (tt, type-rest i g.1.1)

header-good : {b : ℕ} {ts us : List Token} {h : Header} → IsHeader b ts h us → AllGood ts → GoodHeader b h × AllGood us
header-good {b} (a-header {n = t} f n o ps a p rs) g =
    let y = row-good (GoodParam b) (λ ts q us. param-good) ps g.1.1.1 in
    let z = row-good (λ (r : Result). Unit {0}) (λ ts r us. result-good) rs y.1.1.1 in
    (record { name = good-name t g.1.0 n; some-param = row-some ps; params = y.0 }, z.1)

list-good : {b : ℕ} {ts : List Token} {hs : List Header} → IsList b ts hs → AllGood ts → Each (GoodHeader b) hs
list-good no_header g = tt
list-good (a-header-more h r) g = let y = header-good h g in (y.0, list-good r y.1)

-- ---- what a parameter is bound to

module _ (P : Value → Type 0) where
  or-else : (o o' : Option Value) → Perhaps P o → Perhaps P o' → Perhaps P (or_else o o')
  or-else nothing o' p q = q
  or-else (some v) o' p q = p

  by_place : (p : Param) (vs : List Value) → Each P vs → Perhaps P (value_at_place p vs)
  by_place p [] a = tt
  by_place p (v ∷ vs) a = go (all_tensor p.ty)
    where
      go : (b : Bool) → Perhaps P (cond b (some v) nothing)
      go true = a.0
      go false = tt

  all-later : (vs : List Value) → Each P vs → Each P (later vs)
  all-later [] a = tt
  all-later (v ∷ vs) a = a.1

  all-leading : (xs : List Arg) → Each (λ (x : Arg). P (value_of x)) xs → Each P (leading xs)
  unfolding leading
  all-leading [] a = tt
  all-leading (positional v ∷ xs) a = (a.0, all-leading xs a.1)
  all-leading (named t v ∷ xs) a = tt

  by_name : (n : Token) (xs : List Arg) → Each (λ (x : Arg). P (value_of x)) xs → Perhaps P (named_value n xs)
  unfolding named_value
  by_name n [] a = tt
  by_name n (positional v ∷ xs) a = by_name n xs a.1
  by_name n (named t v ∷ xs) a = go (same_bytes n.bytes t.bytes) (by_name n xs a.1)
    where
      go : (b : Bool) → Perhaps P (named_value n xs) → Perhaps P (cond b (some v) (named_value n xs))
      go true r = a.0
      go false r = r

value-fits : {b : ℕ} (o : Option Value) (u : Ty) (w : Val) → Perhaps (Reads both b) o → bind o (λ v. read_at v u) ≡ some w → Fits both b u w
value-fits nothing u w r h = clash cc
value-fits (some v) u w r h = r u w h

values-fit : {b : ℕ} (ps : List Param) (vs : List Value) (xs : List Arg) (ws : List Val) → Each (GoodParam b) ps → Each (Reads both b) vs
    → Each (λ (x : Arg). Reads both b (value_of x)) xs → values_for (slots_from ps vs xs) ≡ some ws → FitsParams b ps ws
unfolding slots_from value_for values_for
values-fit {b} [] vs xs ws gs fs ys h = let e : [] ≡ ws = cc in let r : FitsParams b [] [] = no-param in rw e at r
values-fit {b} (p ∷ ps) vs xs ws gs fs ys h =
    let o = or_else (value_at_place p vs) (named_value p.name xs) in
    let ss = slots_from ps (later vs) xs in
    let x = bound (bind (or_else o p.default) (λ v. read_at v p.ty)) (λ v. bind (values_for ss) (λ vs. some (v ∷ vs))) h in
    let y = bound (values_for ss) (λ vs. some (x.it ∷ vs)) x.gives in
    let e : x.it ∷ y.it ≡ ws = cc y.gives in
    let P = Reads both b in
    let k = or-else P o p.default (or-else P (value_at_place p vs) (named_value p.name xs) (by_place P p vs fs) (by_name P p.name xs ys)) gs.0.default in
    let r : FitsParams b (p ∷ ps) (x.it ∷ y.it) =
    a-param gs.0.name (value-fits (or_else o p.default) p.ty x.it k x.there)
    (values-fit ps (later vs) xs y.it gs.1 (all-later P vs fs) ys y.there) in
    rw e at r

-- ---- left sides

bare-fits : {b : ℕ} {u : Ty} {w : Val} → Pair names b u w → LeftFits b u w
bare-fits (pair f g r) = several f g r

-- the items of a tuple in brackets keep what fits at one bracket more
raise : {b : ℕ} {u : Ty} {w : Val} → Fits names b u w → Fits names (suc b) u w
raise {b} f = wider names names (λ h. h) (λ h. h) (suc b) (omega arith) f

pub left-fits : {b : ℕ} {u : Ty} {w : Val} → Fits names b u w → LeftFits b u w
unfolding left_pieces
left-fits (fit-name t h) = alone (fit-name t h) (λ r. refl)
left-fits (fit-number t h) = alone (fit-number t h) (λ r. refl)
left-fits (fit-scalar t h) = alone (fit-scalar t h) (λ r. refl)
left-fits (fit-extent t h) = alone (fit-extent t h) (λ r. refl)
left-fits (fit-string t h) = alone (fit-string t h) (λ r. refl)
left-fits (fit-logical t) = alone (fit-logical t) (λ r. refl)
left-fits (fit-truth t) = alone (fit-truth t) (λ r. refl)
left-fits (fit-array a) = alone (fit-array a) (λ r. refl)
left-fits (fit-tuple {b} f g r) = several (raise f) (raise g) (each-wider names names (λ h. h) (λ h. h) (suc b) (omega arith) r)

-- whatever a left side reads as fits
abbrev LeftReads : ℕ → Value → Type 0
LeftReads b v = (u : Ty) (w : Val) → read_at v u ≡ some w → LeftFits b u w

left-good : {b : ℕ} {ts us : List Token} {v : Value} → IsLeft b ts v us → AllGood ts → LeftReads b v × AllGood us
left-good (one-pattern s e) g = (λ u w h. left-fits (spells-fits s g u w h), (spells-rest s g).1)
left-good (a-bare-tuple {t} s c i) g = (λ u w h. bare-fits (tuple-pair s i g t u w h), items-rest i (spells-rest s g).1)

-- ---- calls

record GoodCall (b : ℕ) (c : Call) : Type 0 where
  left : LeftReads b c.left
  name : IsName c.op.bytes
  args : Each (λ (x : Arg). Reads both b (value_of x)) c.args

arg-good : {b : ℕ} {ts us : List Token} {x : Arg} → IsArg b ts x us → AllGood ts → Reads both b (value_of x) × AllGood us
arg-good (a-positional s) g = (spells-fits s g, spells-rest s g)
arg-good (a-named n e s) g = (spells-fits s g.1.1, spells-rest s g.1.1)

end_rest : {ts us : List Token} → IsEnd ts us → AllGood ts → AllGood us
end_rest no-semicolon g = g
end_rest (a-semicolon s) g = g.1

call-good : {b : ℕ} {ts us : List Token} {c : Call} → IsCall b ts c us → AllGood ts → GoodCall b c × AllGood us
call-good {b} (G.a_call {n} l s o xs e) g =
    let x = left-good l g in
    let y = row-good (λ (x : Arg). Reads both b (value_of x)) (λ ts x us. arg-good) xs x.1.1.1 in
    (record { left = x.0; name = good-name n x.1.0 s; args = y.0 }, end_rest e y.1)

-- parameters of an operation that is found have different names
pub found-distinct : (hs : List Header) (t : Token) (h : Header) → list_faults hs ≡ [] → find hs t ≡ some h → repeats (param_names h.params) ≡ []
unfolding first
found-distinct hs t h n e = apart-params h (ap first (found-clean hs t h n e))

module _ (hs : List Header) (good : Each (GoodHeader max_brackets) hs) (lawful : list_faults hs ≡ []) where
  call_fits : (c : Call) (p : PlanCall) → GoodCall max_brackets c → plan_call hs c ≡ some p → CallFits hs p
  unfolding plan_call
  call_fits c p g e =
      let x = bound (find hs c.op) _ e in
      let h = x.it in
      let y = bound (read_at c.left (result_type h.results)) _ x.gives in
      let z = bound (values_for (slots h.params c.args)) _ y.gives in
      let k = find-each (GoodHeader max_brackets) hs c.op h good x.there in
      let q : record { op = c.op.bytes; left = y.it; values = z.it } ≡ p = cc z.gives in
      let r : CallFits hs (record { op = c.op.bytes; left = y.it; values = z.it }) = record {
        header = h;
        found = λ t s. find-same hs t c.op s ∙ x.there;
        name = g.name;
        left = g.left (result_type h.results) y.it y.there;
        values =
            values-fit h.params (leading c.args) c.args z.it k.params (all-leading (Reads both max_brackets) c.args g.args) g.args
            z.there;
        some-param = k.some-param;
        distinct = found-distinct hs c.op h lawful x.there;
      } in
      rw q at r

  calls-fit : {ts us : List Token} {cs : List Call} (ps : List PlanCall) → IsBody max_brackets ts cs us → AllGood ts → plan_calls hs cs ≡ some ps → CallsFit hs ps
  unfolding plan_calls
  calls-fit ps (last-call {c = c} i s) g e =
      let x = bound (plan_call hs c) _ e in
      let q : x.it ∷ [] ≡ ps = cc x.gives in
      rw q at (one-call (call_fits c x.it (call-good i g).0 x.there))
  calls-fit ps (next-call {c = c} {cs} i r) g e =
      let x = bound (plan_call hs c) _ e in
      let y = bound (plan_calls hs cs) _ x.gives in
      let q : x.it ∷ y.it ≡ ps = cc y.gives in
      let k = call-good i g in
      rw q at (more-calls (call_fits c x.it k.0 x.there) (calls-fit y.it r k.1 y.there))

  document-fits : {ts : List Token} {d : Document} (p : Plan) → IsDocument max_brackets ts d → AllGood ts → plan_of hs d ≡ some p → PlanFits hs p
  unfolding plan_of
  document-fits p (a-document {n = n} {is = is} {os} {cs} v l g s o i a q t c b) k e =
      let x = names-fit i k.1.1.1.1.1 in
      let y = names-fit t x.1.1.1 in
      let z = bound (plan_calls hs cs) _ e in
      let whole : Plan = record { graph = n.bytes; inputs = spellings is; outputs = spellings os; calls = z.it } in
      let m : whole ≡ p = cc z.gives in
      let r : PlanFits hs whole = record
      { graph = good-name n k.1.1.1.0 s; inputs = x.0; outputs = y.0; calls = calls-fit z.it b y.1.1 z.there } in
      rw m at r

-- ---- under an accepted list

pub headers-good : (list : List ℕ) (hs : List Header) → AcceptedList list hs → Each (GoodHeader max_brackets) hs
headers-good list hs l = list-good l.spelt (lex-good list l.tokens l.lexed)

-- whatever good tokens spell it
pub spelt-fits : (list : List ℕ) (hs : List Header) {ts : List Token} {d : Document} (p : Plan) → AcceptedList list hs → IsDocument max_brackets ts d
    → AllGood ts → plan_of hs d ≡ some p → PlanFits hs p
spelt-fits list hs p l s g e = document-fits hs (headers-good list hs l) l.lawful p s g e

pub plan-fits : (list doc : List ℕ) (hs : List Header) (d : Document) (p : Plan) → AcceptedList list hs → AcceptedDocument hs doc d
    → plan_of hs d ≡ some p → PlanFits hs p
plan-fits list doc hs d p l a e = spelt-fits list hs p l a.spelt (lex-good doc a.tokens a.lexed) e
