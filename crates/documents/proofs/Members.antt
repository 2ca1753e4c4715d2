-- The tokens of a document are tokens of its text: what holds of every token that spells it holds of those that it keeps.
use mathlib.Core.List.{List}
use Prim.Native.Nat.{ℕ}
use Rattle.lexis.specs.Lexer.{Token}
use Rattle.syntax.specs.Tree.{Value, Arg, Call, Document}
use Rattle.syntax.specs.Tree.Arg.{positional, named}
use Rattle.syntax.specs.Grammar.{IsName, the-name, IsArg, a-positional, a-named, IsLeft, one-pattern, a-bare-tuple}
use Rattle.syntax.specs.Grammar.{IsEnd, no-semicolon, a-semicolon, IsCall, a_call, IsBody, last-call, next-call, IsDocument, a-document}
use Rattle.lists.specs.Names.{names_in, names_of, value_of}
use Rattle.lists.proofs.Members.{Each, each_append, HasValue, value-good, items-good, separated-good}

module _ (P : Token → Type 0) where
  -- an argument's label
  abbrev pub HasLabel : Arg → Type 0
  HasLabel (positional v) = Unit {0}
  HasLabel (named t v) = P t

  pub record HasArg (a : Arg) : Type 0 where
    pub label : HasLabel a
    pub value : HasValue P (value_of a)

  pub record HasCall (c : Call) : Type 0 where
    pub left : HasValue P c.left
    pub op : P c.op
    pub args : Each HasArg c.args

  pub record HasDocument (d : Document) : Type 0 where
    pub version : P d.version
    pub inputs : Each P d.inputs
    pub outputs : Each P d.outputs
    pub calls : Each HasCall d.calls

  name-good : {ts us : List Token} {t : Token} → IsName ts t us → Each P ts → P t × Each P us
  name-good (the-name s) g = g

  arg-good : {b : ℕ} {ts us : List Token} {a : Arg} → IsArg b ts a us → Each P ts → HasArg a × Each P us
  arg-good (a-positional s) g = let x = value-good P s g in (record { label = tt; value = x.0 }, x.1)
  arg-good (a-named n e s) g = let x = value-good P s g.1.1 in (record { label = g.0; value = x.0 }, x.1)

  left-good : {b : ℕ} {ts us : List Token} {v : Value} → IsLeft b ts v us → Each P ts → HasValue P v × Each P us
  unfolding names_in names_of
  left-good (one-pattern s e) g = let x = value-good P s g in (x.0, x.1.1)
  left-good (a-bare-tuple {v = v} {vs = vs} s c i) g =
      let x = value-good P s g in
      let y = items-good P i x.1.1 in
      (record { first = g.0; names = each_append P (names_in v) (names_of vs) x.0.names y.0 }, y.1)

  end-good : {ts us : List Token} → IsEnd ts us → Each P ts → Each P us
  end-good no-semicolon g = g
  end-good (a-semicolon s) g = g.1

  call-good : {b : ℕ} {ts us : List Token} {c : Call} → IsCall b ts c us → Each P ts → HasCall c × Each P us
  call-good (a_call l n o s e) g =
      let x = left-good l g in
      let y = separated-good P HasArg (λ _ _ _ i k. arg-good i k) s x.1.1.1 in
      (record { left = x.0; op = x.1.0; args = y.0 }, end-good e y.1)

  body-good : {b : ℕ} {ts us : List Token} {cs : List Call} → IsBody b ts cs us → Each P ts → Each HasCall cs × Each P us
  body-good (last-call c s) g = let x = call-good c g in ((x.0, tt), x.1.1)
  body-good (next-call c r) g = let x = call-good c g in let y = body-good r x.1 in ((x.0, y.0), y.1)

  pub document-good : {b : ℕ} {ts : List Token} {d : Document} → IsDocument b ts d → Each P ts → HasDocument d
  document-good (a-document v l g n o is a p os q b) h =
      let x = separated-good P P (λ _ _ _ i k. name-good i k) is h.1.1.1.1.1 in
      let y = separated-good P P (λ _ _ _ i k. name-good i k) os x.1.1.1 in
      let z = body-good b y.1.1 in
      record { version = h.1.0; inputs = x.0; outputs = y.0; calls = z.0 }
