-- A document that is read from the first token: its parts, and the places at which a flat scan finds them. Assumes nothing.
use mathlib.Core.Path.{◌≡◌, refl, sym, ap, ◌∙◌}
use mathlib.Core.List.{List, [], ◌∷◌, ◌++◌}
use Prim.Native.Nat.{ℕ, ◌+◌, ◌-◌, ◌≤◌, min}
use native.Mathlib.Omega.{arith}
use Rattle.lexis.specs.Lexer.{Token}
use Rattle.lexis.specs.Symbol.{sym_of, left_round, right_round, left_curly, right_curly, arrow, a_name, a_number, version, graph}
use Rattle.syntax.specs.Tree.{Call, Document}
use Rattle.syntax.specs.Grammar.{Separated}
use Rattle.syntax.specs.Parser.{expect, row, plain, call, at_end, document}
use Rattle.syntax.specs.Parser.Parse.{ok}
use Rattle.syntax.specs.Parser.Row.{commas, closed}
use Rattle.syntax.specs.Table.{toks}
use Rattle.syntax.proofs.Table.{toks-suffix}
use Rattle.syntax.proofs.Tails.{Suffix, Takes, call-tails}
use Rattle.syntax.proofs.Tails.Suffix.{all, past}
use Rattle.syntax.proofs.Tails.Takes.{took}
use Rattle.lists.specs.Scans.{is_name_token, names_among, from_symbol}
use Rattle.lists.proofs.Parts.{cancel, toks-split, First, first_of, those-append}
use Rattle.documents.specs.Calls.{Calls}
use Rattle.documents.specs.Calls.Calls.{no_call, a_call}
use Rattle.documents.specs.Graphs.{GraphAt}
use Rattle.documents.specs.declared.graph.Graph.{Graph}
use Rattle.documents.proofs.CallParses.{after-ok, token-ok, expect-ok, Reading, separated-ok}
use Rattle.documents.proofs.Bodies.{body_ok}
use Rattle.documents.proofs.Flat.{row-names, row-close, names-past, symbol-here}

clash : {C : Type 0} → ◌≡◌ {A = ℕ} 0 1 → C
clash z = absurd (omega arith)

-- ---- the parts

end-ok : {A : Type 0} (a : A) (us : List Token) (d : A) → at_end a us ≡ ok d [] → (us ≡ []) × (a ≡ d)
end-ok a [] d e = let q : a ≡ d = cc in (refl, q)
end-ok a (t ∷ us) d e = clash cc

abbrev Names : List Token → List Token → List Token → Type 0
Names ts xs us = Separated (Reading (expect a_name)) right_round ts xs us

record Parts (b : ℕ) (ts : List Token) (d : Document) : Type 0 where
  v : Token
  l : Token
  g : Token
  m : Token
  o : Token
  a : Token
  p : Token
  q : Token
  first : List Token
  second : List Token
  third : List Token
  head : ts ≡ v ∷ l ∷ g ∷ m ∷ o ∷ first
  literal : l ≡ d.version
  inputs : Names first d.inputs (a ∷ p ∷ second)
  arrow-is : sym_of a ≡ arrow
  open_is : sym_of p ≡ left_round
  outputs : row plain (commas right_round) (expect a_name) second ≡ ok d.outputs (q ∷ third)
  body : row plain (closed right_curly) (call b) third ≡ ok d.calls []

-- the token t stands before us
prepend : {ts us ws : List Token} {t : Token} → ts ≡ t ∷ us → us ≡ ws → ts ≡ t ∷ ws
prepend {t = t} p q = p ∙ ap (λ (x : List Token). t ∷ x) q

parts-of : (b : ℕ) (ts : List Token) (d : Document) → document b ts ≡ ok d [] → Parts b ts d
unfolding document
parts-of b ts d e0 =
    token-ok version ts _ d [] e0 (λ v t1 h1 s1 e1.
    token-ok a_number t1 _ d [] e1 (λ l t2 h2 s2 e2.
    token-ok graph t2 _ d [] e2 (λ g t3 h3 s3 e3.
    token-ok a_name t3 _ d [] e3 (λ m t4 h4 s4 e4.
    token-ok left_round t4 _ d [] e4 (λ o t5 h5 s5 e5.
    after-ok (row plain (commas right_round) (expect a_name) t5) _ d [] e5 (λ is t6 h6 e6.
    token-ok arrow t6 _ d [] e6 (λ a t7 h7 s7 e7.
    token-ok left_round t7 _ d [] e7 (λ p t8 h8 s8 e8.
    after-ok (row plain (commas right_round) (expect a_name) t8) _ d [] e8 (λ os t9 h9 e9.
    token-ok left_curly t9 _ d [] e9 (λ q t10 h10 s10 e10.
    after-ok (row plain (closed right_curly) (call b) t10) _ d [] e10 (λ cs t11 h11 e11.
    let end = end-ok (record { version = l; graph = m; inputs = is; outputs = os; calls = cs }) t11 d e11 in
    rw (← end.1) (record {
      v = v;
      l = l;
      g = g;
      m = m;
      o = o;
      a = a;
      p = p;
      q = q;
      first = t5;
      second = t8;
      third = t10;
      head = prepend h1 (prepend h2 (prepend h3 (prepend h4 h5)));
      literal = refl;
      inputs = rw (prepend h7 h8) at (separated-ok (expect a_name) right_round t5 is t6 h6);
      arrow-is = s7;
      open_is = s8;
      outputs = h9 ∙ ap (λ (x : List Token). ok os x) h10;
      body = h11 ∙ ap (λ (x : List Token). ok cs x) end.0;
    }))))))))))))

-- ---- calls end with an end of the tokens

suffix_trans : {ts us ws : List Token} → Suffix ts us → Suffix us ws → Suffix ts ws
suffix_trans all q = q
suffix_trans (past p) q = past (suffix_trans p q)

call-suffix : (b : ℕ) (ts : List Token) (c : Call) (us : List Token) → call b ts ≡ ok c us → Suffix ts us
call-suffix b ts c us e = go (rw e at (call-tails b ts))
  where
    go : Takes ts (ok c us) → Suffix ts us
    go (took h) = h

calls-suffix : {b : ℕ} {ts us : List Token} {cs : List Call} → Calls b ts cs us → Suffix ts us
calls-suffix no_call = all
calls-suffix {b} {ts} (a_call {us = us} {c = c} h r) = suffix_trans (call-suffix b ts c us h) (calls-suffix r)

-- ---- the places

name-token : (ts : List Token) (t : Token) (us : List Token) → Reading (expect a_name) ts t us → (ts ≡ t ∷ us) × (sym_of t ≡ a_name)
name-token ts t us e = expect-ok a_name ts t us e

module _ (text table : List ℕ) (n : ℕ) where
  abbrev tk : ℕ → List Token
  tk i = toks text table n i

  -- a row of names from place i on, which closes at place e
  record Row (i e : ℕ) (xs us : List Token) : Type 0 where
    names : names_among (toks text table e i) ≡ xs
    bracket : Token
    closes : sym_of bracket ≡ right_round
    here : First text table n e bracket us

  row_at : (i e : ℕ) (xs us : List Token) → i ≤ e → e ≤ n → tk e ≡ from_symbol right_round (tk i) → Names (tk i) xs us → Row i e xs us
  row_at i e xs us h k f r =
      let c = row-close name-token r in
      let at : tk e ≡ c.token ∷ us = f ∙ c.reached ∙ symbol-here c.token us right_round c.closes in
      let whole : names_among (tk i) ≡ names_among (toks text table e i) ++ names_among us =
      ap names_among (toks-split text table n i e h k)
      ∙ those-append is_name_token (toks text table e i) (tk e)
      ∙ ap (λ (x : List Token). names_among (toks text table e i) ++ x) (ap names_among at ∙ names-past c.token us c.closes refl) in
      record {
        names = cancel (names_among (toks text table e i)) xs (names_among us) (sym whole ∙ row-names name-token r);
        bracket = c.token;
        closes = c.closes;
        here = first_of text table n e c.token us at;
      }

  pub record FoundGraph (g : Graph) : Type 0 where
    pub first-is : g.first ≡ 5
    pub inputs-from : min 5 n ≤ g.inputs
    pub inputs_in : g.inputs ≤ n
    pub inputs-is : tk g.inputs ≡ from_symbol right_round (tk 5)
    pub outputs-from : min (g.inputs + 3) n ≤ g.closes
    pub outputs-in : g.closes ≤ n
    pub outputs-is : tk g.closes ≡ from_symbol right_round (tk (g.inputs + 3))
    pub begins-is : g.outputs ≡ g.inputs + 3
    pub body_is : g.body ≡ g.closes + 2
    pub end_is : g.end ≡ n - 1

  module _ (b : ℕ) (d : Document) (g : Graph) (f : FoundGraph g) (w : Parts b (toks text table n 0) d) where
    at0 : First text table n 0 w.v (w.l ∷ w.g ∷ w.m ∷ w.o ∷ w.first)
    at0 = first_of text table n 0 w.v _ w.head

    at1 : First text table n 1 w.l (w.g ∷ w.m ∷ w.o ∷ w.first)
    at1 = first_of text table n 1 w.l _ at0.rest

    at2 : First text table n 2 w.g (w.m ∷ w.o ∷ w.first)
    at2 = first_of text table n 2 w.g _ at1.rest

    at3 : First text table n 3 w.m (w.o ∷ w.first)
    at3 = first_of text table n 3 w.m _ at2.rest

    at4 : First text table n 4 w.o w.first
    at4 = first_of text table n 4 w.o _ at3.rest

    at5 : tk 5 ≡ w.first
    at5 = at4.rest

    abbrev i : ℕ
    i = g.inputs

    abbrev c : ℕ
    c = g.closes

    five : 5 ≤ i
    five = omega (arith, f.inputs-from, at4.inside)

    ins : Row 5 i d.inputs (w.a ∷ w.p ∷ w.second)
    ins = row_at 5 i d.inputs _ five f.inputs_in f.inputs-is (rw at5 w.inputs)

    at_a : First text table n (i + 1) w.a (w.p ∷ w.second)
    at_a = first_of text table n (i + 1) w.a _ ins.here.rest

    at_p : First text table n (i + 1 + 1) w.p w.second
    at_p = first_of text table n (i + 1 + 1) w.p _ at_a.rest

    second_at : tk (i + 3) ≡ w.second
    second_at = let q : i + 3 ≡ i + 1 + 1 + 1 = omega arith in ap tk q ∙ at_p.rest

    three : i + 3 ≤ c
    three = omega (arith, f.outputs-from, at_p.inside)

    outs : Row (i + 3) c d.outputs (w.q ∷ w.third)
    outs =
        row_at (i + 3) c d.outputs _ three f.outputs-in f.outputs-is
        (rw second_at (separated-ok (expect a_name) right_round w.second d.outputs (w.q ∷ w.third) w.outputs))

    at-q : First text table n (c + 1) w.q w.third
    at-q = first_of text table n (c + 1) w.q _ outs.here.rest

    third_at : tk g.body ≡ w.third
    third_at = let q : g.body ≡ c + 1 + 1 = omega (arith, f.body_is) in ap tk q ∙ at-q.rest

    returned-is : row plain (commas right_round) (expect a_name) (tk g.outputs) ≡ ok d.outputs (tk (c + 1))
    returned-is =
        ap (row plain (commas right_round) (expect a_name)) (ap tk f.begins-is ∙ second_at)
        ∙ w.outputs
        ∙ ap (λ (x : List Token). ok d.outputs x) (sym outs.here.rest)

    body_at : row plain (closed right_curly) (call b) (tk g.body) ≡ ok d.calls []
    body_at = ap (row plain (closed right_curly) (call b)) third_at ∙ w.body

    calls_at : Calls b (tk g.body) d.calls (tk g.end)
    calls_at =
        let B = body_ok b (tk g.body) d.calls [] body_at in
        let e : B.bracket ∷ [] ≡ tk (n - 1) = toks-suffix text table n g.body (calls-suffix B.calls) in
        rw (e ∙ ap tk (sym f.end_is)) at B.calls

    graph-found : GraphAt text table n b g d
    graph-found =
        record {
          version = at1.here ∙ w.literal;
          inside = at1.inside;
          rising =
              record {
                inputs = omega (arith, f.first-is, five);
                outputs = omega (arith, f.begins-is);
                closes = omega (arith, f.begins-is, three);
                body = omega (arith, f.body_is);
              };
          inputs = ap (λ (k : ℕ). names_among (toks text table i k)) f.first-is ∙ ins.names;
          outputs = ap (λ (k : ℕ). names_among (toks text table c k)) f.begins-is ∙ outs.names;
          returned = returned-is;
          body = body_at;
          calls = calls_at;
        }

  pub graph_is : (g : Graph) → FoundGraph g → (b : ℕ) (d : Document) → document b (toks text table n 0) ≡ ok d [] → GraphAt text table n b g d
  graph_is g f b d h = graph-found b d g f (parts-of b (toks text table n 0) d h)
