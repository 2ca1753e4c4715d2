-- The value that is bound, or the default, read at the parameter's type.
use mathlib.Core.Path.{◌≡◌, ap, ◌∙◌}
use mathlib.Core.List.{List}
use mathlib.Core.Option.{Option, some}
use Prim.Native.Nat.{ℕ, ◌+◌, ◌<◌}
use native.Mathlib.Omega.{arith}
use Rattle.lexis.specs.Sizes.{max_brackets}
use Rattle.syntax.specs.Tree.{Value}
use Rattle.syntax.specs.Grammar.{literals, both}
use Rattle.syntax.specs.Parser.{value, type}
use Rattle.syntax.specs.Table.{toks}
use Rattle.lists.specs.Directory.{DefaultAt}
use Rattle.lists.specs.Directory.DefaultAt.{no_default, a-default}
use Rattle.documents.proofs.Items.{clash}
use Rattle.writing.proofs.ArgumentPlaces.{value_none, value-some, bound-value, default-value}
use Rattle.writing.proofs.ArgumentPuts.{default-read}
use Rattle.writing.proofs.argument.put_bound.Goals as goal

pub returns-then-v-ne0 : goal.returns-then-v-ne0
returns-then-v-ne0 c = λ p o w q v h.
    let f = value-some v c.if-v-ne0.true in
    c.put_value.ensures both max_brackets f.tree f.rest max_brackets p.ty q.after w f.reads
    (ap (λ (j : ℕ). type max_brackets (toks c.args.callee.now.list.text.now c.args.callee.now.list.table.now c.args.callee.now.list.count (j + 2))) c.name_of-t.ensures.value ∙ q.typed)
    (c.pairs_in-k.ensures p.ty (c.code_of.ensures ∙ q.code)) (bound-value p f.is h)

pub returns-in-Some : goal.returns-in-Some
returns-in-Some c = λ p o w q v h.
    let f = default-value p (value_none v c.if-v-ne0.false) h in
    let r = default-read q.default f.is in
    c.put_value-in-Some.ensures literals max_brackets f.tree r.after max_brackets p.ty q.after w
    (ap (λ (j : ℕ). value literals max_brackets (toks c.args.callee.now.list.text.now c.args.callee.now.list.table.now c.args.callee.now.list.count j)) c.in-Some.ensures.value ∙
    r.reads)
    (ap (λ (j : ℕ). type max_brackets (toks c.args.callee.now.list.text.now c.args.callee.now.list.table.now c.args.callee.now.list.count (j + 2))) c.name_of-t.ensures.value ∙ q.typed)
    (c.pairs_in-k.ensures p.ty (c.code_of.ensures ∙ q.code)) f.reads

-- a default that there is stands at a place
stands : {text table : List ℕ} {n d : ℕ} {o : Option Value} {v : Value} → DefaultAt text table n d o → o ≡ some v → 0 < d
stands no_default e = clash cc
stands (a-default l h) e = l

pub returns-in_default : goal.returns-in_default
returns-in_default c = λ p o w q v h.
    let f = default-value p (value_none v c.if-v-ne0.false) h in
    let l = stands q.default f.is in
    absurd (omega (arith, c.in_default.ensures.value, l))
