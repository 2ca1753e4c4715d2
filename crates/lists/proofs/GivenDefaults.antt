-- The default of a parameter: none, one that fits, or one that does not. Relies on `Defaults` for where a value starts.
use mathlib.Core.Path.{◌≡◌, refl, sym, ap, ◌∙◌}
use mathlib.Core.Bool.{Bool, false}
use mathlib.Core.List.{List}
use mathlib.Core.Option.{Option, some}
use Prim.Native.Nat.{ℕ, ◌+◌, ◌-◌}
use native.Mathlib.Omega.{arith}
use lib.ListN.{length}
use Rattle.std.specs.Prelude.{Option as Maybe, Some, None}
use borrow.Author.Tests.{eq-eqb, ne_eqb}
use Rattle.lexis.specs.Sizes.{max_brackets}
use Rattle.lexis.specs.Lexer.{Token}
use Rattle.lexis.specs.Symbol.{equal}
use Rattle.syntax.specs.Tree.{Value, Ty}
use Rattle.syntax.specs.Grammar.{literals}
use Rattle.syntax.specs.Parser.{Parse, begins, rest, value, type, default}
use Rattle.syntax.specs.Parser.Parse.{ok}
use Rattle.syntax.specs.Table.{toks, place_of, parsed}
use Rattle.syntax.specs.Inner.{lookahead}
use Rattle.syntax.specs.Read.{Parsed}
use Rattle.syntax.specs.Read.Parsed.{Done, Fault}
use Rattle.syntax.proofs.Tails.{Takes, value-tails}
use Rattle.syntax.proofs.Tails.Takes.{took, fault}
use Rattle.syntax.proofs.Table.{toks-rest, toks-suffix}
use Rattle.syntax.proofs.Symbols.{begins-look}
use Rattle.lists.specs.Fault as F
use Rattle.lists.specs.Names.{start_of}
use Rattle.lists.specs.Best.{clean, meant}
use Rattle.lists.specs.ListRules.{bad_default}
use Rattle.lists.specs.Directory.{no_default, a-default}
use Rattle.lists.specs.Headers.{DefaultIs}
use Rattle.lists.specs.Types.{TypeIs}
use Rattle.lists.specs.Fitting.{OfItem}
use Rattle.lists.specs.declared.best.Best.{Best}
use Rattle.lists.specs.declared.types.TypeAt.{TypeAt}
use Rattle.lists.proofs.Defaults.{value-starts, default_none, default-left, Given, default-some}

-- ---- where a value ends

module _ (e n b : ℕ) (ts : List Token) {r : Parsed} (read : r ≡ parsed e n (value literals b ts)) where
  pub value-never : {c q : ℕ} (x : Value) (us : List Token) → r ≡ Fault c q → value literals b ts ≡ ok x us → ⊥
  value-never x us f h = let z = sym f ∙ read ∙ ap (parsed e n) h in let w : ◌≡◌ {A = ℕ} 0 1 = cc in omega arith

pub value-ends : (text table : List ℕ) (n v e : ℕ) {j : ℕ} {r : Parsed} → r ≡ parsed e n (value literals max_brackets (toks text table n v)) → r ≡ Done j
    → (x : Value) (us : List Token) → value literals max_brackets (toks text table n v) ≡ ok x us → us ≡ toks text table n j
value-ends text table n v e {j} read d x us h =
    let z = sym d ∙ read ∙ ap (parsed e n) h in
    let q : j ≡ n - length us = cc in
    go (value-tails literals max_brackets (toks text table n v)) h ∙ ap (λ (k : ℕ). toks text table n k) (sym q)
  where
    go : {y : Parse Value} → Takes (toks text table n v) y → y ≡ ok x us → us ≡ toks text table n (n - length us)
    go (took {us = ws} s) w = let i : ws ≡ us = cc in rw (sym i) (toks-suffix text table n v s)
    go (fault s) w = let i : ◌≡◌ {A = ℕ} 0 1 = cc in absurd (omega arith)

-- ---- the three ways

module _ {text table : List ℕ} {n : ℕ} {u : Ty} {ws : List Token} {ty : TypeAt} {o : Option Value} {us : List Token}
    (is : TypeIs text table n u ws ty) (read : default max_brackets ws ≡ ok o us)
  where
    begins-is : begins equal ws ≡ begins equal (toks text table n ty.end)
    begins-is = ap (begins equal) is.end

    pub no-default-is : {best : Best} → (lookahead (toks text table n ty.end) ≡ equal → ⊥) → meant best ≡ meant clean
        → DefaultIs text table n u o us (record { at = None; end = ty.end; best = best })
    unfolding meant F.first
    no-default-is q m =
        let b : begins equal ws ≡ false = begins-is ∙ begins-look equal (toks text table n ty.end) (omega arith)
        ∙ ne_eqb (lookahead (toks text table n ty.end)) equal q in
        let z = default_none max_brackets ws o us b read in
        record {
          left = sym (default-left max_brackets ws o us b read) ∙ is.end;
          given = rw z refl;
          place = rw z no_default;
          faulted = m ∙ sym (ap (λ (x : Option Value). F.first (bad_default u x)) z);
        }

    module _ (t : ℕ) (typed : type max_brackets (toks text table n t) ≡ ok u ws) (q : lookahead (toks text table n ty.end) ≡ equal) where
      given : Given max_brackets ws o us
      given =
          default-some max_brackets ws o us
          (begins-is ∙ begins-look equal (toks text table n ty.end) (omega arith) ∙ eq-eqb (lookahead (toks text table n ty.end)) equal q) read

      there : value literals max_brackets (toks text table n (ty.end + 1)) ≡ ok given.tree us
      there = ap (value literals max_brackets) (sym (toks-rest text table n ty.end) ∙ ap rest (sym is.end)) ∙ given.read

      module _ {answer : Maybe ℕ} (fit : OfItem text table n (ty.end + 1) (toks text table n t) ty.kinds ty.pairs answer) where
        pub fitting-at : {best : Best} {next : ℕ} → answer ≡ Some next → meant best ≡ meant clean
            → DefaultIs text table n u o us (record { at = Some (ty.end + 1); end = next; best = best })
        unfolding meant F.first
        fitting-at l m =
            let f = fit literals max_brackets given.tree us max_brackets u ws there typed is.kinds is.pairs in
            record {
              left = f.ends l;
              given = rw given.is refl;
              place = rw given.is (a-default {d = ty.end + 1} (omega arith) there);
              faulted = m ∙ sym (ap (λ (x : Option Value). F.first (bad_default u x)) given.is
                  ∙ ap (λ (b : Bool). F.first (F.unless b (F.fault 14 (start_of given.tree)))) (f.fit l));
            }

        pub misfit-at : {best : Best} {end : ℕ} → answer ≡ None
            → ((x : Value) (us : List Token) → value literals max_brackets (toks text table n (ty.end + 1)) ≡ ok x us → us ≡ toks text table n end)
            → meant best ≡ some (F.fault 14 (place_of (length text) (toks text table n (ty.end + 1))))
            → DefaultIs text table n u o us (record { at = Some (ty.end + 1); end = end; best = best })
        unfolding F.first
        misfit-at z ends m =
            let f = fit literals max_brackets given.tree us max_brackets u ws there typed is.kinds is.pairs in
            record {
              left = ends given.tree us there;
              given = rw given.is refl;
              place = rw given.is (a-default {d = ty.end + 1} (omega arith) there);
              faulted =
                  m
                  ∙ sym
                  (ap (λ (x : Option Value). F.first (bad_default u x)) given.is
                  ∙ ap (λ (b : Bool). F.first (F.unless b (F.fault 14 (start_of given.tree)))) (f.misfit z)
                  ∙ ap (λ (k : ℕ). some (F.fault 14 k)) (value-starts literals max_brackets (length text) (toks text table n (ty.end + 1))
                  given.tree us there));
            }

module _ {text table : List ℕ} {n : ℕ} (t : ℕ) {u : Ty} {ws : List Token} {ty : TypeAt} {o : Option Value} {us : List Token} {answer : Maybe ℕ} {best : Best}
    (typed : type max_brackets (toks text table n t) ≡ ok u ws) (is : TypeIs text table n u ws ty) (read : default max_brackets ws ≡ ok o us)
    (q : lookahead (toks text table n ty.end) ≡ equal) (fit : OfItem text table n (ty.end + 1) (toks text table n t) ty.kinds ty.pairs answer)
  where
    pub fitting-is : {next : ℕ} → answer ≡ Some next → meant best ≡ meant clean
        → DefaultIs text table n u o us (record { at = Some (ty.end + 1); end = next; best = best })
    fitting-is l m = fitting-at is read t typed q fit l m

    pub misfit-is : {end : ℕ} → answer ≡ None
        → ((x : Value) (us : List Token) → value literals max_brackets (toks text table n (ty.end + 1)) ≡ ok x us → us ≡ toks text table n end)
        → meant best ≡ some (F.fault 14 (place_of (length text) (toks text table n (ty.end + 1))))
        → DefaultIs text table n u o us (record { at = Some (ty.end + 1); end = end; best = best })
    misfit-is z ends m = misfit-at is read t typed q fit z ends m
