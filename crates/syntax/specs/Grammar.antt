-- The flat grammar of NNEF chapter 3, as narrowed for operation lists and documents: one constructor for each production. A relation
-- goes from the tokens before a phrase over its tree to the tokens after it. The number b is how many brackets may be open at once:
-- those of arrays and tuples in values, left sides and types, a type's `[` too, and never those of headers or argument lists. What
-- the grammar derives at some b it derives with brackets unlimited.
use Rattle.std.specs.Prelude.{◌≡◌, Bool, true, false, List, [], ◌∷◌, ℕ, suc}
use Rattle.std.proofs.Math.Option.{Option, some, none as nothing}
use Rattle.lexis.specs.Lexer.{Token}
use Rattle.lexis.specs.Symbol.{sym_of, is_literal, left_round, right_round, left_square, right_square, left_curly, right_curly, colon, equal, comma, semicolon}
use Rattle.lexis.specs.Symbol.{arrow, minus, a_name, a_number, version, graph, fragment, tensor_word, extent_word, scalar_word, logical_word, string_word}
use Rattle.syntax.specs.Tree.{Literal, unsigned, negated, Value, Values, Ty, Tys, Param, Result, Header, Arg, Call, Document}
use Rattle.syntax.specs.Tree.Value.{name, literal, array, tuple}
use Rattle.syntax.specs.Tree.Values.{none, more}
use Rattle.syntax.specs.Tree.Ty.{tensor, extent, scalar, logical, string, array_of, tuple_of}
use Rattle.syntax.specs.Tree.Tys.{no-type, a-type}
use Rattle.syntax.specs.Tree.Arg.{positional, named}

-- ---- lists

-- <item> ("," <item>)* and the closing terminal: never empty
pub data Separated {A : Type 0} (Item : List Token → A → List Token → Type 0) (close : ℕ) : List Token → List A → List Token → Type 0 where
  last : {c : Token} {ts us : List Token} {a : A} → Item ts a (c ∷ us) → sym_of c ≡ close → Separated Item close ts (a ∷ []) us
  next : {c : Token} {ts us ws : List Token} {a : A} {xs : List A} → Item ts a (c ∷ us) → sym_of c ≡ comma → Separated Item close us xs ws
      → Separated Item close ts (a ∷ xs) ws

-- ---- literals

-- <literal>: a string, a truth value, a number, or "-" and a number
pub data IsLiteral : List Token → Literal → List Token → Type 0 where
  no_sign : {t : Token} {ts : List Token} → is_literal (sym_of t) ≡ true → IsLiteral (t ∷ ts) (unsigned t) ts
  a-sign : {s t : Token} {ts : List Token} → sym_of s ≡ minus → sym_of t ≡ a_number → IsLiteral (s ∷ t ∷ ts) (negated s t) ts

-- ---- values

-- the leaves of a value: names on a left side, literals in a default, both in an argument
pub data Leaves : Type 0 where
  names literals both : Leaves

-- a value with these leaves may hold names
abbrev pub takes_names : Leaves → Bool
takes_names names = true
takes_names literals = false
takes_names both = true

-- a value with these leaves may hold literals
abbrev pub takes_literals : Leaves → Bool
takes_literals names = false
takes_literals literals = true
takes_literals both = true

-- <lvalue-expr>, <literal-expr>, <rvalue-expr>: a name, a literal, an array that may be empty, a tuple of at least two items
mutual
  pub data Spells (m : Leaves) : ℕ → List Token → Value → List Token → Type 0 where
    a-name : {b : ℕ} {t : Token} {ts : List Token} → takes_names m ≡ true → sym_of t ≡ a_name → Spells m b (t ∷ ts) (name t) ts
    a-literal : {b : ℕ} {ts us : List Token} {l : Literal} → takes_literals m ≡ true → IsLiteral ts l us → Spells m b ts (literal l) us
    an-empty-array : {b : ℕ} {o c : Token} {ts : List Token} → sym_of o ≡ left_square → sym_of c ≡ right_square
        → Spells m (suc b) (o ∷ c ∷ ts) (array o none) ts
    an-array : {b : ℕ} {o : Token} {ts us : List Token} {vs : Values} → sym_of o ≡ left_square → Items m right_square b ts vs us
        → Spells m (suc b) (o ∷ ts) (array o vs) us
    a-tuple : {b : ℕ} {o c : Token} {ts us ws : List Token} {v : Value} {vs : Values}
        → sym_of o ≡ left_round → Spells m b ts v (c ∷ us) → sym_of c ≡ comma → Items m right_round b us vs ws
        → Spells m (suc b) (o ∷ ts) (tuple o (more v vs)) ws

  -- items parted by commas, and the closing terminal
  pub data Items (m : Leaves) : ℕ → ℕ → List Token → Values → List Token → Type 0 where
    last-item : {close b : ℕ} {c : Token} {ts us : List Token} {v : Value} → Spells m b ts v (c ∷ us) → sym_of c ≡ close → Items m close b ts (more v none) us
    next-item : {close b : ℕ} {c : Token} {ts us ws : List Token} {v : Value} {vs : Values}
        → Spells m b ts v (c ∷ us) → sym_of c ≡ comma → Items m close b us vs ws → Items m close b ts (more v vs) ws

-- ---- types

-- <type-name>
pub data IsTypeName : ℕ → Ty → Type 0 where
  is-tensor : IsTypeName tensor_word tensor
  is-extent : IsTypeName extent_word extent
  is-scalar : IsTypeName scalar_word scalar
  is-logical : IsTypeName logical_word logical
  is-string : IsTypeName string_word string

-- <array-type-spec>: pairs of square brackets, which may stand apart, make the type u of the type w
pub data Dims : ℕ → List Token → Ty → Ty → List Token → Type 0 where
  no-pair : {b : ℕ} {ts : List Token} {u : Ty} → Dims b ts u u ts
  a_pair : {b : ℕ} {o c : Token} {ts us : List Token} {w u : Ty} → sym_of o ≡ left_square → sym_of c ≡ right_square → Dims (suc b) ts (array_of w) u us
      → Dims (suc b) (o ∷ c ∷ ts) w u us

-- <type-spec>, <tuple-type-spec>: a type's name or a tuple of at least two types, and its pairs of square brackets
mutual
  pub data IsType : ℕ → List Token → Ty → List Token → Type 0 where
    a-plain : {b : ℕ} {t : Token} {ts us : List Token} {w u : Ty} → IsTypeName (sym_of t) w → Dims b ts w u us → IsType b (t ∷ ts) u us
    a-tuple-type : {b : ℕ} {o c : Token} {ts us ws xs : List Token} {w u : Ty} {vs : Tys}
        → sym_of o ≡ left_round → IsType b ts w (c ∷ us) → sym_of c ≡ comma → IsTypes b us vs ws → Dims (suc b) ws (tuple_of (a-type w vs)) u xs
        → IsType (suc b) (o ∷ ts) u xs

  -- types parted by commas, and the closing bracket
  pub data IsTypes : ℕ → List Token → Tys → List Token → Type 0 where
    last-type : {b : ℕ} {c : Token} {ts us : List Token} {u : Ty} → IsType b ts u (c ∷ us) → sym_of c ≡ right_round → IsTypes b ts (a-type u no-type) us
    next-type : {b : ℕ} {c : Token} {ts us ws : List Token} {u : Ty} {vs : Tys} → IsType b ts u (c ∷ us) → sym_of c ≡ comma → IsTypes b us vs ws
        → IsTypes b ts (a-type u vs) ws

-- ---- operation lists

-- ["=" <literal-expr>]: a default holds no names
pub data IsDefault (b : ℕ) : List Token → Option Value → List Token → Type 0 where
  no_default : {ts : List Token} → IsDefault b ts nothing ts
  a-default : {e : Token} {ts us : List Token} {v : Value} → sym_of e ≡ equal → Spells literals b ts v us → IsDefault b (e ∷ ts) (some v) us

-- <parameter> ::= <identifier> ":" <type-spec> ["=" <literal-expr>]
pub data IsParam (b : ℕ) : List Token → Param → List Token → Type 0 where
  a-param : {n c : Token} {ts us ws : List Token} {u : Ty} {d : Option Value}
      → sym_of n ≡ a_name → sym_of c ≡ colon → IsType b ts u us → IsDefault b us d ws → IsParam b (n ∷ c ∷ ts) (record { name = n; ty = u; default = d }) ws

-- <result> ::= <identifier> ":" <type-spec>
pub data IsResult (b : ℕ) : List Token → Result → List Token → Type 0 where
  a-result : {n c : Token} {ts us : List Token} {u : Ty} → sym_of n ≡ a_name → sym_of c ≡ colon → IsType b ts u us
      → IsResult b (n ∷ c ∷ ts) (record { name = n; ty = u }) us

-- <operation-declaration> ::= "fragment" <identifier> "(" <parameter-list> ")" "->" "(" <result-list> ")"
pub data IsHeader (b : ℕ) : List Token → Header → List Token → Type 0 where
  a-header : {f n o a p : Token} {ts us ws : List Token} {ps : List Param} {rs : List Result}
      → sym_of f ≡ fragment → sym_of n ≡ a_name → sym_of o ≡ left_round → Separated (IsParam b) right_round ts ps (a ∷ p ∷ us)
      → sym_of a ≡ arrow → sym_of p ≡ left_round → Separated (IsResult b) right_round us rs ws
      → IsHeader b (f ∷ n ∷ o ∷ ts) (record { keyword = f; name = n; params = ps; results = rs }) ws

-- an operation list: zero or more headers without bodies, and the end
pub data IsList (b : ℕ) : List Token → List Header → Type 0 where
  no_header : IsList b [] []
  a-header-more : {ts us : List Token} {h : Header} {hs : List Header} → IsHeader b ts h us → IsList b us hs → IsList b ts (h ∷ hs)

-- ---- documents

-- <identifier>
pub data IsName : List Token → Token → List Token → Type 0 where
  the-name : {t : Token} {ts : List Token} → sym_of t ≡ a_name → IsName (t ∷ ts) t ts

-- <argument> ::= <rvalue-expr> | <identifier> "=" <rvalue-expr>
pub data IsArg (b : ℕ) : List Token → Arg → List Token → Type 0 where
  a-positional : {ts us : List Token} {v : Value} → Spells both b ts v us → IsArg b ts (positional v) us
  a-named : {n e : Token} {ts us : List Token} {v : Value} → sym_of n ≡ a_name → sym_of e ≡ equal → Spells both b ts v us → IsArg b (n ∷ e ∷ ts) (named n v) us

-- a left side and its "=": one pattern, or a bare tuple of at least two, which keeps its first token
pub data IsLeft (b : ℕ) : List Token → Value → List Token → Type 0 where
  one-pattern : {e : Token} {ts us : List Token} {v : Value} → Spells names b ts v (e ∷ us) → sym_of e ≡ equal → IsLeft b ts v us
  a-bare-tuple : {t c : Token} {ts us ws : List Token} {v : Value} {vs : Values}
      → Spells names b (t ∷ ts) v (c ∷ us) → sym_of c ≡ comma → Items names equal b us vs ws → IsLeft b (t ∷ ts) (tuple t (more v vs)) ws

-- [";"]
pub data IsEnd : List Token → List Token → Type 0 where
  no-semicolon : {ts : List Token} → IsEnd ts ts
  a-semicolon : {t : Token} {ts : List Token} → sym_of t ≡ semicolon → IsEnd (t ∷ ts) ts

-- <assignment> ::= <lvalue-expr> "=" <identifier> "(" <argument-list> ")" [";"]
pub data IsCall (b : ℕ) : List Token → Call → List Token → Type 0 where
  a_call : {n o : Token} {ts us ws xs : List Token} {v : Value} {xs' : List Arg}
      → IsLeft b ts v (n ∷ o ∷ us) → sym_of n ≡ a_name → sym_of o ≡ left_round → Separated (IsArg b) right_round us xs' ws → IsEnd ws xs
      → IsCall b ts (record { left = v; op = n; args = xs' }) xs

-- <assignment>+ "}"
pub data IsBody (b : ℕ) : List Token → List Call → List Token → Type 0 where
  last-call : {t : Token} {ts us : List Token} {c : Call} → IsCall b ts c (t ∷ us) → sym_of t ≡ right_curly → IsBody b ts (c ∷ []) us
  next-call : {ts us ws : List Token} {c : Call} {cs : List Call} → IsCall b ts c us → IsBody b us cs ws → IsBody b ts (c ∷ cs) ws

-- <document> ::= "version" <numeric-literal> "graph" <identifier> "(" <identifier-list> ")" "->" "(" <identifier-list> ")" "{" <assignment>+ "}"
pub data IsDocument (b : ℕ) : List Token → Document → Type 0 where
  a-document : {v l g n o a p q : Token} {ts us ws : List Token} {is os : List Token} {cs : List Call}
      → sym_of v ≡ version → sym_of l ≡ a_number → sym_of g ≡ graph → sym_of n ≡ a_name → sym_of o ≡ left_round
      → Separated IsName right_round ts is (a ∷ p ∷ us) → sym_of a ≡ arrow → sym_of p ≡ left_round
      → Separated IsName right_round us os (q ∷ ws) → sym_of q ≡ left_curly → IsBody b ws cs []
      → IsDocument b (v ∷ l ∷ g ∷ n ∷ o ∷ ts) (record { version = l; graph = n; inputs = is; outputs = os; calls = cs })
