-- Documents are read back: the tokens of a plan's canonical text spell a document of the shape that `Shape` says.
-- In order: rows in round brackets; names; the parts of calls; left sides; arguments; calls; documents.
use mathlib.Core.Path.{◌≡◌, refl, ap}
use mathlib.Core.List.{List, [], ◌∷◌}
use mathlib.Core.Option.{some}
use Prim.Native.Nat.{ℕ, ◌<◌}
use native.Mathlib.Omega.{arith}
use lib.ListN.{length}
use Rattle.spellings.specs.Comparison.{same_bytes}
use Rattle.lexis.specs.Ascii.{ascii}
use Rattle.lexis.specs.Sizes.{max_brackets}
use Rattle.lexis.specs.Kind as Kind
use Rattle.lexis.specs.Lexer.{Token}
use Rattle.lexis.specs.Symbol.{sym_of, symbol_of, terminals, symbol_in, right_round, comma, equal}
use Rattle.syntax.specs.Tree.{Value, Values, Ty, Param, Header, Call, Document}
use Rattle.syntax.specs.Tree.Value.{tuple}
use Rattle.syntax.specs.Tree.Values.{more}
use Rattle.syntax.specs.Grammar.{Separated, last, next, no_sign, a-sign, names, both, Spells, a-name, a-literal, an-empty-array, an-array, a-tuple, Items}
use Rattle.syntax.specs.Grammar.{IsName, the-name, IsArg, a-named, IsLeft, one-pattern, a-bare-tuple}
use Rattle.syntax.specs.Grammar.{a-semicolon, IsCall, a_call, IsBody, last-call, next-call, IsDocument, a-document}
use Rattle.lists.specs.Reading.{Val, a-val, read_at, read_each}
use Rattle.writing.specs.Plan.{PlanCall, Plan, spellings}
use Rattle.writing.specs.Pieces.{Piece, tokens_at}
use Rattle.writing.specs.Layout as Layout
use Rattle.writing.specs.Layout.{name_piece, mark, spaced, lined, pieces, items, more_items, left_pieces, more_names_pieces}
use Rattle.writing.specs.Layout.{argument_pieces, more_arguments_pieces, arguments_pieces, call_pieces, calls_pieces, document_pieces}
use Rattle.writing.proofs.Fit.{LeftFits, alone, several, FitsParams, no-param, a-param, CallFits}
use Rattle.writing.proofs.Fit.{CallsFit, one-call, more-calls, NamesFit, one_name, more-names, PlanFits}
use Rattle.canonical.proofs.Shape as Shape
use Rattle.canonical.proofs.Shape.{Named, no-arg, an-arg, CanonCall, CanonCalls, no-calls, CanonDocument}
use Rattle.writing.proofs.Found.{params-found}
use Rattle.canonical.proofs.Reread.{placed, past, Back, value-back, each_back}

-- ---- rows in round brackets

-- the closing bracket, before this white space
abbrev closing : List ℕ → Piece
closing s = record { kind = Kind.syntactic; bytes = ascii ")"; space = s }

-- the pieces ps, placed at `at`, are a row of items, of which `Are` holds, and its closing bracket; the tokens of r are left
record RowBack {A : Type 0} (Item : List Token → A → List Token → Type 0) (Are : List A → Type 0) (at : ℕ) (ps r : List Piece) : Type 0 where
  trees : List A
  after : ℕ
  spells : Separated Item right_round (tokens_at at ps) trees (tokens_at after r)
  are : Are trees

-- so they are behind a first item
record OthersBack {A : Type 0} (Item : List Token → A → List Token → Type 0) (Are : List A → Type 0) (at : ℕ) (ps r : List Piece) : Type 0 where
  trees : List A
  after : ℕ
  spells : {ts : List Token} {a : A} → Item ts a (tokens_at at ps) → Separated Item right_round ts (a ∷ trees) (tokens_at after r)
  are : Are trees

module _ {A : Type 0} {Item : List Token → A → List Token → Type 0} {Are : List A → Type 0} where
  row_back : {More : List A → Type 0} {at then : ℕ} {ps qs r : List Piece} {a : A} → OthersBack Item Are then qs r → Item (tokens_at at ps) a (tokens_at then qs)
      → ((xs : List A) → Are xs → More (a ∷ xs)) → RowBack Item More at ps r
  row_back {a = a} x i f = record { trees = a ∷ x.trees; after = x.after; spells = x.spells i; are = f x.trees x.are }

  no-others : (s : List ℕ) (at : ℕ) (r : List Piece) → Are [] → OthersBack Item Are at (closing s ∷ r) r
  unfolding tokens_at sym_of symbol_of
  no-others s at r e = record { trees = []; after = past at (closing s); spells = λ i. last i refl; are = e }

  others : (at : ℕ) {ps r : List Piece} → RowBack Item Are (past at (mark (ascii ","))) ps r → OthersBack Item Are at (mark (ascii ",") ∷ ps) r
  unfolding tokens_at sym_of symbol_of
  others at x = record { trees = x.trees; after = x.after; spells = λ i. next i refl x.spells; are = x.are }

-- ---- names

abbrev Spelt : List (List ℕ) → List Token → Type 0
Spelt ws ts = spellings ts ≡ ws

name_back : (w : List ℕ) {ws : List (List ℕ)} {qs r : List Piece} (at : ℕ) → OthersBack IsName (Spelt ws) (past at (name_piece w)) qs r
    → RowBack IsName (Spelt (w ∷ ws)) at (name_piece w ∷ qs) r
unfolding tokens_at sym_of symbol_of
name_back w at x = row_back x (the-name refl) (λ ts e. ap (λ (l : List (List ℕ)). w ∷ l) e)

module _ (s : List ℕ) (r : List Piece) where
  more-names-back : (ws : List (List ℕ)) (at : ℕ) → OthersBack IsName (Spelt ws) at (more_names_pieces ws (closing s ∷ r)) r
  unfolding more_names_pieces
  more-names-back [] at = no-others s at r refl
  more-names-back (w ∷ ws) at = let i = past at (mark (ascii ",")) in others at (name_back w i (more-names-back ws (past i (name_piece w))))

  names-back : {ws : List (List ℕ)} → NamesFit ws → (at : ℕ) → RowBack IsName (Spelt ws) at (Layout.names_pieces ws (closing s ∷ r)) r
  unfolding Layout.names_pieces
  names-back (one_name {w} h) at = name_back w at (more-names-back [] (past at (name_piece w)))
  names-back (more-names {w} {ws} h f) at = name_back w at (more-names-back ws (past at (name_piece w)))

-- ---- the parts of calls

-- where the value of an argument at `at` stands
abbrev value_at : Param → ℕ → ℕ
value_at p at = past (past at (name_piece p.name.bytes)) (mark (ascii "="))

argument-back : {b : ℕ} {p : Param} {ps : List Param} {v : Val} {vs : List Val} {qs r : List Piece} (at : ℕ)
    (x : Back both b p.ty v (value_at p at) (pieces v qs) qs) → OthersBack (IsArg b) (Named ps vs) x.after qs r
    → RowBack (IsArg b) (Named (p ∷ ps) (v ∷ vs)) at (argument_pieces p v qs) r
unfolding tokens_at sym_of symbol_of
argument-back at x y = row_back y (a-named refl refl x.spells) (λ xs n. an-arg refl x.reads n)

-- a pattern, a comma and more patterns are a bare tuple
bare : {b : ℕ} {c : Token} {ts us ws : List Token} {v : Value} {vs : Values} → Spells names b ts v (c ∷ us) → sym_of c ≡ comma → Items names equal b us vs ws
    → (t : Token) × IsLeft b ts (tuple t (more v vs)) ws
bare (a-name {t = t} e s) q i = (t, a-bare-tuple (a-name e s) q i)
bare (a-literal e (no_sign {t = t} s)) q i = (t, a-bare-tuple (a-literal e (no_sign s)) q i)
bare (a-literal e (a-sign {s = t} s n)) q i = (t, a-bare-tuple (a-literal e (a-sign s n)) q i)
bare (an-empty-array {o = o} e s) q i = (o, a-bare-tuple (an-empty-array e s) q i)
bare (an-array {o = o} e s) q i = (o, a-bare-tuple (an-array e s) q i)
bare (a-tuple {o = o} e s k j) q i = (o, a-bare-tuple (a-tuple e s k j) q i)

-- The pieces ps, placed at `at`, are a left side and its `=`, a call, calls and the closing brace; the tokens of r are left.
record LeftBack (b : ℕ) (u : Ty) (v : Val) (at : ℕ) (ps r : List Piece) : Type 0 where
  tree : Value
  after : ℕ
  spells : IsLeft b (tokens_at at ps) tree (tokens_at after r)
  reads : read_at tree u ≡ some v

record CallBack (hs : List Header) (c : PlanCall) (at : ℕ) (ps r : List Piece) : Type 0 where
  tree : Call
  after : ℕ
  spells : IsCall max_brackets (tokens_at at ps) tree (tokens_at after r)
  shape : CanonCall hs c tree

record BodyBack (hs : List Header) (cs : List PlanCall) (at : ℕ) (ps r : List Piece) : Type 0 where
  trees : List Call
  after : ℕ
  spells : IsBody max_brackets (tokens_at at ps) trees (tokens_at after r)
  shape : CanonCalls hs cs trees

-- ---- left sides

left_back : {b : ℕ} {u : Ty} {v : Val} → LeftFits b u v → (at : ℕ) (r : List Piece) → LeftBack b u v at (left_pieces v (mark (ascii "=") ∷ r)) r
unfolding left_pieces items more_items tokens_at sym_of symbol_of read_at read_each
left_back (alone f e) at r =
    let q = mark (ascii "=") in
    let x = value-back f at (q ∷ r) in
    rw (e (q ∷ r)) (record { tree = x.tree; after = past x.after q; spells = one-pattern x.spells refl; reads = x.reads })
left_back (several {w = w} {vs = vs} f g h) at r =
    let q = mark (ascii "=") ∷ r in
    let x = value-back f at (more_items (a-val w vs) q) in
    let y = value-back g (past x.after (mark (ascii ","))) (more_items vs q) in
    let z = each_back h (ascii "=") y.after r in
    let l = bare x.spells refl (z.spells y.spells) in
    record { tree = tuple l.0 (more x.tree (more y.tree z.trees)); after = z.after; spells = l.1; reads = simp (x.reads, y.reads, z.reads) }

-- ---- arguments

module _ {b : ℕ} (r : List Piece) where
  more-arguments-back : {ps : List Param} {vs : List Val} → FitsParams b ps vs → (at : ℕ)
      → OthersBack (IsArg b) (Named ps vs) at (more_arguments_pieces ps vs (mark (ascii ")") ∷ r)) r
  unfolding more_arguments_pieces
  more-arguments-back no-param at = no-others [] at r no-arg
  more-arguments-back (a-param {p} {ps} {v} {vs} n f fs) at =
      let i = past at (mark (ascii ",")) in
      let x = value-back f (value_at p i) (more_arguments_pieces ps vs (mark (ascii ")") ∷ r)) in
      others at (argument-back i x (more-arguments-back fs x.after))

  arguments-back : {ps : List Param} {vs : List Val} → FitsParams b ps vs → 0 < length ps → (at : ℕ)
      → RowBack (IsArg b) (Named ps vs) at (arguments_pieces ps vs (mark (ascii ")") ∷ r)) r
  unfolding arguments_pieces
  arguments-back no-param l at = absurd (omega arith)
  arguments-back (a-param {p} {ps} {v} {vs} n f fs) l at =
      let x = value-back f (value_at p at) (more_arguments_pieces ps vs (mark (ascii ")") ∷ r)) in
      argument-back at x (more-arguments-back fs x.after)

-- ---- calls

call_back : {hs : List Header} {c : PlanCall} → CallFits hs c → (at : ℕ) (r : List Piece) → CallBack hs c at (call_pieces hs c r) r
unfolding call_pieces tokens_at sym_of symbol_of
call_back {hs} {c} f at r =
    let n = name_piece c.op in
    let o = mark (ascii "(") in
    let e = lined Kind.syntactic (ascii ";") in
    let x = left_back f.left at (n ∷ o ∷ arguments_pieces f.header.params c.values (mark (ascii ")") ∷ e ∷ r)) in
    let y = arguments-back (e ∷ r) f.values f.some-param (past (past x.after n) o) in
    let t = placed x.after n in
    rw (params-found hs t (f.found t refl))
    (record {
      tree = record { left = x.tree; op = t; args = y.trees };
      after = past y.after e;
      spells = a_call x.spells refl refl y.spells (a-semicolon refl);
      shape = record { header = f.header; op = refl; found = f.found t refl; left = x.reads; args = y.are; distinct = f.distinct };
    })

body_back : {hs : List Header} {cs : List PlanCall} → CallsFit hs cs → (at : ℕ) (r : List Piece)
    → BodyBack hs cs at (calls_pieces hs cs (lined Kind.syntactic (ascii "}") ∷ r)) r
unfolding calls_pieces tokens_at sym_of symbol_of
body_back (one-call f) at r =
    let e = lined Kind.syntactic (ascii "}") in
    let x = call_back f at (e ∷ r) in
    record { trees = x.tree ∷ []; after = past x.after e; spells = last-call x.spells refl; shape = Shape.a_call x.shape no-calls }
body_back {hs} (more-calls {cs = cs} f g) at r =
    let x = call_back f at (calls_pieces hs cs (lined Kind.syntactic (ascii "}") ∷ r)) in
    let y = body_back g x.after r in
    record { trees = x.tree ∷ y.trees; after = y.after; spells = next-call x.spells y.spells; shape = Shape.a_call x.shape y.shape }

-- ---- documents

pub document-back : (hs : List Header) (p : Plan) → PlanFits hs p
    → (d : Document) × (IsDocument max_brackets (tokens_at 0 (document_pieces hs p)) d × CanonDocument hs p d)
unfolding document_pieces tokens_at sym_of symbol_of terminals symbol_in same_bytes
document-back hs p f =
    let number = lined Kind.real (ascii "1.0") in
    let n = name_piece p.graph in
    let o = mark (ascii "(") in
    let a = mark (ascii "->") in
    let c = lined Kind.syntactic (ascii "{") in
    let body = c ∷ calls_pieces hs p.calls (lined Kind.syntactic (ascii "}") ∷ []) in
    let i = past 0 (spaced Kind.keyword (ascii "version")) in
    let j = past (past i number) (spaced Kind.keyword (ascii "graph")) in
    let x = names-back [] (a ∷ o ∷ Layout.names_pieces p.outputs (closing (10 ∷ []) ∷ body)) f.inputs (past (past j n) o) in
    let y = names-back (10 ∷ []) body f.outputs (past (past x.after a) o) in
    let z = body_back f.calls (past y.after c) [] in
    let d : Document = record { version = placed i number; graph = placed j n; inputs = x.trees; outputs = y.trees; calls = z.trees } in
    let shape : CanonDocument hs p d = record { version = refl; graph = refl; inputs = x.are; outputs = y.are; calls = z.shape } in
    (d, (a-document refl refl refl refl refl x.spells refl refl y.spells refl z.spells, shape))
