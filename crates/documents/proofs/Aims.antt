-- What an argument is for, by each way that the code takes: a positional one is refused, or binds the parameter at its place; a named one is refused, or binds
-- the one parameter of its name. Relies on `Turns` for what each way adds.
use mathlib.Core.Path.{◌≡◌, sym, ap, subst, subst₂, ◌∙◌}
use mathlib.Core.Bool.{Bool, true, false}
use mathlib.Core.List.{List}
use mathlib.Core.Option.{some}
use Prim.Native.Nat.{ℕ, ◌+◌, ◌<◌, ◌≤◌}
use native.Mathlib.Omega.{arith}
use lib.ListN.{length, get_or, drop_of_length-le}
use Rattle.lexis.specs.Sizes.{max_brackets}
use Rattle.lexis.specs.Lexer.{Token}
use Rattle.syntax.specs.Tree.{Value, Ty, Param, Arg}
use Rattle.syntax.specs.Tree.Arg.{positional, named}
use Rattle.syntax.specs.Grammar.{both}
use Rattle.syntax.specs.Parser.{value, argument}
use Rattle.syntax.specs.Parser.Parse.{ok}
use Rattle.syntax.specs.Table.{token_at, toks}
use Rattle.syntax.specs.Inner.{is_label}
use Rattle.lists.specs.Fault.{fault}
use Rattle.lists.specs.Names.{start_of}
use Rattle.lists.specs.Reading.{all_tensor}
use Rattle.lists.specs.Masks.{mask_of}
use Rattle.lists.specs.Types.{type_code}
use Rattle.lists.specs.Directory.{parameter_word}
use Rattle.lexis.specs.declared.refusal.Refusal.TheVariants.{Misplaced, Misnamed}
use Rattle.std.proofs.Common.{Ok, Err}
use Rattle.documents.specs.declared.operation.Operation.{Operation}
use Rattle.documents.specs.declared.arguments.Tally.{Tally}
use Rattle.documents.specs.declared.arguments.Aim.{Aim}
use Rattle.documents.specs.Binding.{takes_place}
use Rattle.documents.specs.Arguments.{bound, leads}
use Rattle.documents.specs.Tallies.{Declares, Nth, NumberOf, Turned, Binds, Aimed, AimedAt, Tallies}
use Rattle.documents.proofs.Labels.{leads-named, leads-same}
use Rattle.documents.proofs.Sought.{Only, only-nth, none_of, nth-takes}
use Rattle.documents.proofs.Turns.{turn-unknown, turn-again, turn-named, turn-trailing, turn-misplaced, turn-placed}
use Rattle.documents.proofs.ArgumentCalls.{value-starts, with-label, without-label}
use Rattle.documents.proofs.DirectoryEntries.{nth-below, parameter-at, spelt-as, number_of}

-- ---- positional arguments

module _ {ps : List Param} {xs : List Arg} {t : Tally} (v : Value) (s : Tallies ps xs t) (place : ℕ) where
  led : {b : Bool} → t.leads ≡ b → leads xs ≡ b
  led e = sym s.unnamed ∙ e

  refused-place : Turned ps xs (positional v) (some (fault 16 (start_of v))) (bound ps xs)
      → Aimed ps xs (positional v) v (start_of v) (record { parameter = Err Misplaced; value = place; leads = t.leads })
  refused-place u = record { unnamed = s.unnamed ∙ sym (leads-same xs v); serves = u }

  -- 16: after a named one
  pub aim-trailing : t.leads ≡ false → Aimed ps xs (positional v) v (start_of v) (record { parameter = Err Misplaced; value = place; leads = t.leads })
  aim-trailing e = refused-place (turn-trailing ps xs v (led e))

  -- beyond the parameters
  pub aim-beyond : t.leads ≡ true → length ps ≤ t.index
      → Aimed ps xs (positional v) v (start_of v) (record { parameter = Err Misplaced; value = place; leads = t.leads })
  aim-beyond e l =
      let k : length ps ≤ length xs = omega (arith, s.count) in
      refused-place (turn-misplaced ps xs v (led e) (ap takes_place (drop_of_length-le ps k)))

  module _ {text table words : List ℕ} {n : ℕ} {o : Operation} (d : Declares text table words n o ps) (e : t.leads ≡ true) (l : t.index < o.count)
      {b : Bool} (is : (u : Ty) → parameter_word words (o.first + t.index) 1 ≡ type_code u → b ≡ all_tensor u) where
    placed_at : (p : Param) → Nth t.index p ps → {c : Bool} → b ≡ c → all_tensor p.ty ≡ c
    placed_at p k f = sym (is p.ty (parameter-at d k).code) ∙ f

    counted : (p : Param) → Nth t.index p ps → Nth (length xs) p ps
    counted p k = rw s.count at k

    -- for a parameter that is not all tensor
    pub aim-unfit : b ≡ false → Aimed ps xs (positional v) v (start_of v) (record { parameter = Err Misplaced; value = place; leads = t.leads })
    aim-unfit f =
        let k = number_of d t.index l in
        refused-place (turn-misplaced ps xs v (led e) (nth-takes (counted k.param k.nth) ∙ placed_at k.param k.nth f))

    binds-place : (p : Param) → Nth t.index p ps → b ≡ true → Binds ps xs (positional v) v t.index
    binds-place p k f = record { param = p; nth = k; turned = rw s.count (turn-placed ps xs v (led e) (counted p k) (placed_at p k f)) }

    -- bound to the parameter at its place
    pub aim-place : b ≡ true → Aimed ps xs (positional v) v (start_of v) (record { parameter = Ok t.index; value = place; leads = true })
    aim-place f =
        let k = number_of d t.index l in
        record { unnamed = sym e ∙ s.unnamed ∙ sym (leads-same xs v); serves = binds-place k.param k.nth f }

-- ---- named arguments

module _ {text table words : List ℕ} {n : ℕ} {o : Operation} {ps : List Param} {xs : List Arg} {t : Tally} (d : Declares text table words n o ps)
    (s : Tallies ps xs t) (label : Token) (v : Value) {r : ℕ} (f : NumberOf text table words o label.bytes r) (place : ℕ) where
  refused-name : Turned ps xs (named label v) (some (fault 17 label.start)) (bound ps xs)
      → Aimed ps xs (named label v) v label.start (record { parameter = Err Misnamed; value = place; leads = false })
  refused-name u = record { unnamed = sym (leads-named xs label v); serves = u }

  -- 17: no parameter has the name
  pub aim-unknown : o.count ≤ r → Aimed ps xs (named label v) v label.start (record { parameter = Err Misnamed; value = place; leads = false })
  aim-unknown l =
      refused-name (turn-unknown ps xs label v (none_of label ps (λ i p k.
      spelt-as d label.bytes k ∙ f.none l i (let m = nth-below k in omega (arith, d.count)))))

  module _ (l : r < o.count) {b : Bool} (held : (bs : List Bool) → t.bound ≡ mask_of bs → b ≡ get_or bs r false) where
    flag : get_or (bound ps xs) r false ≡ b
    flag = sym (held (bound ps xs) s.flags)

    the-only : (p : Param) → Nth r p ps → Only label r p ps
    the-only p k = only-nth d.apart (spelt-as d label.bytes k ∙ f.spelt l) k

    -- its parameter is bound already
    pub aim-again : b ≡ true → Aimed ps xs (named label v) v label.start (record { parameter = Err Misnamed; value = place; leads = false })
    aim-again h = let k = number_of d r l in refused-name (turn-again ps xs label v (the-only k.param k.nth) (flag ∙ h))

    -- bound to the parameter of its name
    pub aim-name : b ≡ false → Aimed ps xs (named label v) v label.start (record { parameter = Ok r; value = place; leads = false })
    aim-name h =
        let k = number_of d r l in
        record {
          unnamed = sym (leads-named xs label v);
          serves = record { param = k.param; nth = k.nth; turned = turn-named ps xs label v (the-only k.param k.nth) (flag ∙ h) };
        }

-- ---- either

module _ (text table : List ℕ) (n i : ℕ) (ps : List Param) (xs : List Arg) {x : Arg} {us : List Token} {a : Aim}
    (h : argument max_brackets (toks text table n i) ≡ ok x us) where
  pub aimed-named : is_label (toks text table n i) ≡ true → a.value ≡ i + 2 → i < n
      → ((v : Value) → Aimed ps xs (named (token_at text table i) v) v (token_at text table i).start a) → AimedAt text table n i ps xs x us a
  aimed-named l e k f =
      let w = with-label text table n i max_brackets h l in
      record {
        inside = k;
        tree = w.tree;
        reads = ap (λ (j : ℕ). value both max_brackets (toks text table n j)) e ∙ w.reads;
        aimed = subst (λ (y : Arg). Aimed ps xs y w.tree (token_at text table i).start a) (sym w.is) (f w.tree);
      }

  pub aimed-placed : is_label (toks text table n i) ≡ false → a.value ≡ i
      → ((v : Value) → Aimed ps xs (positional v) v (start_of v) a) → AimedAt text table n i ps xs x us a
  aimed-placed l e f =
      let w = without-label text table n i max_brackets h l in
      let s = value-starts text table n i max_brackets w.reads in
      let q : start_of w.tree ≡ (token_at text table i).start = ap (λ (t : Token). t.start) s.first in
      record {
        inside = s.within;
        tree = w.tree;
        reads = ap (λ (j : ℕ). value both max_brackets (toks text table n j)) e ∙ w.reads;
        aimed = subst₂ (λ (y : Arg) (p : ℕ). Aimed ps xs y w.tree p a) (sym w.is) q (f w.tree);
      }
