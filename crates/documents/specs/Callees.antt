-- What only the contracts of the code that binds arguments to the parameters of a callee cite: its parameters, and what the code promises for whatever
-- arguments the tally is of.
use Rattle.std.specs.Prelude.{◌≡◌, ℕ, ◌+◌, ◌<◌, Bool, List, [], ◌∷◌, ◌++◌, Option as Maybe}
use Rattle.lexis.specs.Sizes.{max_brackets}
use Rattle.lexis.specs.Lexer.{Token}
use Rattle.lexis.specs.Symbol.{right_round}
use Rattle.syntax.specs.Tree.{Value, Param, Arg}
use Rattle.syntax.specs.Tree.Arg.{positional, named}
use Rattle.syntax.specs.Grammar.{both}
use Rattle.syntax.specs.Parser.{plain, commas, row, value, argument}
use Rattle.syntax.specs.Parser.Parse.{ok}
use Rattle.syntax.specs.Tokens.{from}
use Rattle.syntax.specs.declared.tokens.Tokens.{Tokens}
use Rattle.lists.specs.Names.{start_of}
use Rattle.lists.specs.Reading.{fits}
use Rattle.lists.specs.Fitting.{Fitted}
use Rattle.lists.specs.Directory.{ParameterAt}
use Rattle.documents.specs.declared.callee.Callee.{Callee}
use Rattle.documents.specs.declared.arguments.Tally.{Tally}
use Rattle.documents.specs.declared.arguments.Aim.{Aim}
use Rattle.documents.specs.Arguments.{leads}
use Rattle.documents.specs.Tallies.{operation_in, Declares, spelt_at, is_guessed, NumberOf, Binds, Aimed, AimedAt, Tallies, TalliesTo}

-- ---- the callee

-- it is operation k of the directory
pub record Called (ts : Tokens) (ws : List ℕ) (k : ℕ) (c : Callee) : Type 0 where
  pub list : c.list ≡ ts
  pub words : c.words.now ≡ ws
  pub operation : c.operation ≡ operation_in ws k

-- its parameters are ps
abbrev pub Takes : Callee → List Param → Type 0
Takes c ps = Declares c.list.text.now c.list.table.now c.words.now c.list.count c.operation ps

-- its parameter i is spelt w
abbrev pub spells : Callee → ℕ → List ℕ → Bool
spells c i w = spelt_at c.list.text.now c.list.table.now c.words.now (c.operation.first + i) w

-- the guess is the number of a parameter that is spelt w
abbrev pub guesses : Callee → List ℕ → ℕ → Bool
guesses c w guess = is_guessed c.list.text.now c.list.table.now c.words.now c.operation w guess

-- r is the number of a parameter that is spelt w, or their count where none is
abbrev pub Numbers : Callee → List ℕ → ℕ → Type 0
Numbers c w r = NumberOf c.list.text.now c.list.table.now c.words.now c.operation w r

-- ---- what the code promises

-- a positional argument at the tally's place
abbrev pub OfPlace : Callee → Tally → Aim → Type 0
OfPlace c t r = (ps : List Param) (xs : List Arg) (v : Value) → Takes c ps → Tallies ps xs t → Aimed ps xs (positional v) v (start_of v) r

-- an argument at the tally's place that is named by this token
abbrev pub OfLabel : Token → Callee → Tally → Aim → Type 0
OfLabel label c t r =
    (ps : List Param) (xs : List Arg) (v : Value) → Takes c ps → Tallies ps xs t → Aimed ps xs (named label v) v label.start r

-- the argument at the tally's place
abbrev pub OfArgument : Tokens → Callee → Tally → Aim → Type 0
OfArgument doc c t r =
    (ps : List Param) (xs : List Arg) (x : Arg) (us : List Token) → Takes c ps
    → argument max_brackets (from doc t.at) ≡ ok x us → Tallies ps xs t → AimedAt doc.text.now doc.table.now doc.count t.at ps xs x us r

-- the value at place v, tested against parameter i
abbrev pub FitsParameter : Tokens → ℕ → Callee → ℕ → Maybe ℕ → Type 0
FitsParameter doc v c i r =
    (p : Param) (x : Value) (us : List Token) → ParameterAt c.list.text.now c.list.table.now c.words.now c.list.count (c.operation.first + i) p
    → value both max_brackets (from doc v) ≡ ok x us → Fitted doc.text.now doc.table.now doc.count (fits x p.ty) us r

-- the tally with one argument more, which binds parameter i
abbrev pub OfBound : Tokens → Callee → Tally → Aim → ℕ → Tally → Type 0
OfBound doc c t a i r =
    (ps : List Param) (xs : List Arg) (x : Arg) (v : Value) (us : List Token) → Takes c ps
    → value both max_brackets (from doc a.value) ≡ ok v us → Tallies ps xs t → Binds ps xs x v i → a.leads ≡ leads (xs ++ (x ∷ []))
    → TalliesTo doc.text.now doc.table.now doc.count ps (xs ++ (x ∷ [])) us r

-- the tally with one argument more
abbrev pub OfOne : Tokens → Callee → Tally → Tally → Type 0
OfOne doc c t r =
    (ps : List Param) (xs : List Arg) (x : Arg) (us : List Token) → Takes c ps
    → argument max_brackets (from doc t.at) ≡ ok x us → Tallies ps xs t → TalliesTo doc.text.now doc.table.now doc.count ps (xs ++ (x ∷ [])) us r

-- the tally of all arguments from place i on, which close at its place
abbrev pub OfAll : Tokens → Callee → ℕ → Tally → Type 0
OfAll doc c i r =
    (ps : List Param) (xs : List Arg) (us : List Token) → Takes c ps
    → row plain (commas right_round) (argument max_brackets) (from doc i) ≡ ok xs us
    → Tallies ps xs r × (us ≡ from doc (r.at + 1)) × (r.at < doc.count)
