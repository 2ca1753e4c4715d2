-- The tally of one argument more, and the walk over all arguments: those passed are tallied, those left are read from the tally's place on.
-- Relies on `Turns` for what no argument amounts to and on `ArgumentFaults` for the faults that the code makes.
use mathlib.Core.Path.{◌≡◌, refl, sym, ap, ap₂, ◌∙◌}
use mathlib.Core.Bool.{Bool, true}
use mathlib.Core.List.{List, [], ◌∷◌, ◌++◌, append_assoc}
use mathlib.Core.Option.{Option, some}
use Prim.Native.Nat.{ℕ, zero, suc, ◌+◌, ◌<◌, ◌≤◌, min}
use native.Mathlib.Omega.{arith}
use lib.ListN.{length, set, length-append}
use Rattle.lexis.specs.Sizes.{max_brackets}
use Rattle.lexis.specs.Lexer.{Token}
use Rattle.lexis.specs.Symbol.{comma, right_round}
use Rattle.syntax.specs.Tree.{Value, Param, Arg}
use Rattle.syntax.specs.Parser.{rest, plain, commas, row, argument}
use Rattle.syntax.specs.Parser.Parse.{ok}
use Rattle.syntax.specs.Table.{toks}
use Rattle.syntax.specs.Tokens.{from}
use Rattle.syntax.specs.declared.tokens.Tokens.{Tokens}
use Rattle.syntax.specs.Inner.{lookahead}
use Rattle.syntax.proofs.Table.{toks-rest}
use Rattle.syntax.proofs.Shrinks.{argument-shrinks}
use Rattle.lists.specs.declared.best.Best.{Best}
use Rattle.lists.specs.Fault.{Fault, earlier, first}
use Rattle.lists.specs.Best.{clean, meant}
use Rattle.lists.specs.Masks.{mask_of}
use Rattle.documents.specs.declared.callee.Callee.{Callee}
use Rattle.documents.specs.declared.arguments.Tally.{Tally}
use Rattle.documents.specs.Binding.{leading, misfit}
use Rattle.documents.specs.Arguments.{bound, leads}
use Rattle.documents.specs.Tallies.{Turned, Binds, Tallies, Grown, TalliesTo, Onward}
use Rattle.documents.specs.Callees.{Takes, OfOne, OfAll}
use Rattle.documents.proofs.Slots.{bound-length, bound-none}
use Rattle.documents.proofs.Turns.{passed_none}
use Rattle.documents.proofs.Items.{token-there}
use Rattle.documents.proofs.RowParses.{Rowed, row_ok}
use Rattle.documents.proofs.RowParses.Rowed.{next}
use Rattle.documents.proofs.RowParses.Rowed.{last as row_last}
use Rattle.documents.proofs.DirectoryEntries.{nth-below}

-- ---- one argument more

pub grown-tallies : {ps : List Param} {xs : List Arg} {x : Arg} {o m : Option Fault} {bs : List Bool} {mask j : ℕ} {lead : Bool} {s r : Tally}
    → Tallies ps xs s → Turned ps xs x o bs → Grown s m mask lead j r → m ≡ o → mask ≡ mask_of bs → lead ≡ leads (xs ++ (x ∷ [])) → Tallies ps (xs ++ (x ∷ [])) r
grown-tallies {xs = xs} {x = x} t u g f e l =
    record {
      faulted = g.best ∙ ap₂ earlier t.faulted f ∙ sym u.faulted;
      flags = g.bound ∙ e ∙ ap mask_of (sym u.flags);
      unnamed = g.leads ∙ l;
      count = g.index ∙ ap (λ (k : ℕ). k + 1) t.count ∙ sym (length-append xs (x ∷ []));
    }

module _ (text table : List ℕ) (n : ℕ) {us : List Token} {m : Option Fault} {mask j : ℕ} {lead : Bool} {s r : Tally} (g : Grown s m mask lead j r)
    (after : us ≡ toks text table n j) where
  goes_on : us ≡ toks text table n r.at
  goes_on = after ∙ ap (λ (k : ℕ). toks text table n k) (sym g.at)

  module _ {ps : List Param} {xs : List Arg} (t : Tallies ps xs s) where
    -- refused
    pub refused-to : {x : Arg} {o : Option Fault} → Turned ps xs x o (bound ps xs) → lead ≡ leads (xs ++ (x ∷ [])) → m ≡ o → mask ≡ s.bound
        → TalliesTo text table n ps (xs ++ (x ∷ [])) us r
    refused-to u l f e = record { tally = grown-tallies t u g f (e ∙ t.flags) l; after = goes_on }

    -- bound
    pub bound-to : {x : Arg} {v : Value} {i : ℕ} (b : Binds ps xs x v i) → lead ≡ leads (xs ++ (x ∷ [])) → m ≡ first (misfit b.param.ty (some v))
        → ((bs : List Bool) → s.bound ≡ mask_of bs → i < length bs → mask ≡ mask_of (set bs i true)) → TalliesTo text table n ps (xs ++ (x ∷ [])) us r
    bound-to {i = i} b l f e =
        let w : i < length (bound ps xs) = rw (bound-length ps (leading xs) xs) (nth-below b.nth) in
        record { tally = grown-tallies t b.turned g f (e (bound ps xs) t.flags w) l; after = goes_on }

-- it goes on where the argument ends
pub onward : {n i : ℕ} {m : Option Fault} {mask j : ℕ} {lead : Bool} {s r : Tally} → Grown s m mask lead j r → min (i + 1) n ≤ j → j ≤ n → Onward n i s r
onward g l k = record { past = omega (arith, g.at, l); inside = omega (arith, g.at, k); index = g.index }

pub onward-from : {n i k : ℕ} {s r : Tally} → i ≤ k → Onward n k s r → Onward n i s r
onward-from l o = record { past = omega (arith, o.past); inside = o.inside; index = o.index }

pub positive : (n : ℕ) → (n ≡ 0 → ⊥) → 0 < n
positive zero h = absurd (h refl)
positive (suc n) h = omega arith

-- ---- all arguments

tally-none : (ps : List Param) (at guess : ℕ) {r : Best} → r ≡ clean
    → Tallies ps [] (record { best = r; bound = 0; leads = true; index = 0; guess = guess; at = at })
unfolding meant leads
tally-none ps at guess e = record { faulted = ap meant e ∙ sym (passed_none ps); flags = sym (bound-none ps); unnamed = refl; count = refl }

module _ (doc : Tokens) (callee : Callee) (args : ℕ) where
  -- the arguments from place i on
  abbrev Row : ℕ → List Arg → List Token → Type 0
  Row i xs us = row plain (commas right_round) (argument max_brackets) (from doc i) ≡ ok xs us

  -- s is the tally of those passed; those left are read from its place on
  pub record Summed (ps : List Param) (xs : List Arg) (us : List Token) (s : Tally) : Type 0 where
    pub passed : List Arg
    pub left : List Arg
    pub split : xs ≡ passed ++ left
    pub reads : Row s.at left us
    pub tally : Tallies ps passed s

  abbrev pub Sums : Tally → Type 0
  Sums s = (ps : List Param) (xs : List Arg) (us : List Token) → Takes callee ps → Row args xs us → Summed ps xs us s

  pub sums_none : (guess : ℕ) {r : Best} → r ≡ clean
      → Sums (record { best = r; bound = 0; leads = true; index = 0; guess = guess; at = args })
  sums_none guess e ps xs us d h = record { passed = []; left = xs; split = refl; reads = h; tally = tally-none ps args guess e }

  module _ (s r : Tally) (walk : Sums s)
      (step : OfOne doc callee s r) {sees : ℕ} (looks : sees ≡ lookahead (from doc r.at)) where
    -- the arguments end
    pub sums-ended : (sees ≡ comma → ⊥) → OfAll doc callee args r
    sums-ended stop ps xs us d h =
        let w = walk ps xs us d h in
        go w refl (row_ok right_round (argument max_brackets) (argument-shrinks max_brackets) (from doc s.at) w.reads)
      where
        go : (w : Summed ps xs us s) {ys : List Arg} → w.left ≡ ys → Rowed right_round (argument max_brackets) (from doc s.at) us ys
            → Tallies ps xs r × (us ≡ from doc (r.at + 1)) × (r.at < doc.count)
        go w e (row_last {a = x} {c = c} k q) =
            let t = step ps w.passed x (c ∷ us) d k w.tally in (
              rw (w.split ∙ ap (λ (zs : List Arg). w.passed ++ zs) e) t.tally,
              ap rest t.after ∙ toks-rest doc.text.now doc.table.now doc.count r.at,
              token-there doc.text.now doc.table.now doc.count r.at (sym t.after),
            )
        go w e (next {a = x} {c = c} {us = vs} k q m) =
            let t = step ps w.passed x (c ∷ vs) d k w.tally in
            absurd (stop (looks ∙ ap lookahead (sym t.after) ∙ q))

    -- another argument follows the comma
    pub sums_on : sees ≡ comma
        → Sums (record { best = r.best; bound = r.bound; leads = r.leads; index = r.index; guess = r.guess; at = r.at + 1 })
    sums_on goes ps xs us d h =
        let w = walk ps xs us d h in
        go w refl (row_ok right_round (argument max_brackets) (argument-shrinks max_brackets) (from doc s.at) w.reads)
      where
        go : (w : Summed ps xs us s) {ys : List Arg} → w.left ≡ ys → Rowed right_round (argument max_brackets) (from doc s.at) us ys
            → Summed ps xs us (record { best = r.best; bound = r.bound; leads = r.leads; index = r.index; guess = r.guess; at = r.at + 1 })
        go w e (row_last {a = x} {c = c} k q) =
            let t = step ps w.passed x (c ∷ us) d k w.tally in
            let z : comma ≡ right_round = sym goes ∙ looks ∙ ap lookahead (sym t.after) ∙ q in
            absurd (omega arith)
        go w e (next {a = x} {c = c} {us = vs} {xs = ys} k q m) =
            let t = step ps w.passed x (c ∷ vs) d k w.tally in
            let v : vs ≡ from doc (r.at + 1) = ap rest t.after ∙ toks-rest doc.text.now doc.table.now doc.count r.at in
            record {
              passed = w.passed ++ (x ∷ []);
              left = ys;
              split = w.split ∙ ap (λ (zs : List Arg). w.passed ++ zs) e ∙ sym (append_assoc w.passed (x ∷ []) ys);
              reads = rw v at m;
              tally = record { faulted = t.tally.faulted; flags = t.tally.flags; unnamed = t.tally.unnamed; count = t.tally.count };
            }
