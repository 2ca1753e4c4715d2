-- All rules of a document: its header, its calls, and the names of the header that no call assigns, put together. Relies on `Sums` for the order in which
-- the specification has them.
use mathlib.Core.Path.{◌≡◌, refl, sym, ap, ap₂, subst, ◌∙◌}
use mathlib.Core.List.{List, [], append-nil}
use mathlib.Core.Option.{Option}
use Prim.Native.Nat.{ℕ, zero, suc, ◌<◌}
use Rattle.spellings.specs.Comparison.{same_bytes}
use Rattle.lexis.specs.Ascii.{ascii}
use Rattle.lexis.specs.Sizes.{max_inputs, max_outputs}
use Rattle.lexis.specs.Lexer.{Token}
use Rattle.syntax.specs.Tree.{Header, Document}
use Rattle.syntax.specs.Table.{token_at, toks}
use Rattle.index.specs.Indexed.{Walkable}
use Rattle.index.specs.Layout.{name_words}
use Rattle.index.specs.Mapped.{both}
use Rattle.index.proofs.Theorems.{empty-mapped, empty-walkable, mapped-wider, mapped-as}
use Rattle.lists.specs.Fault.{Fault, fault, faults, starts, unless, earlier, first}
use Rattle.lists.specs.Best.{meant}
use Rattle.lists.specs.declared.best.Best.{Best}
use Rattle.lists.specs.Names.{all_assigned}
use Rattle.lists.specs.Scans.{names_among}
use Rattle.lists.specs.Walks.{scan}
use Rattle.lists.proofs.Faultless.{neither}
use Rattle.documents.specs.Code as Code
use Rattle.documents.specs.Wiring.{strangers}
use Rattle.documents.specs.DocumentRules.{bad_version}
use Rattle.documents.specs.Walks.{listing}
use Rattle.documents.specs.Naming.{Entry, numbered, entry_number, input_word, output_word, headed, Naming}
use Rattle.documents.specs.NameWalks.{ListsNames, Unassigned}
use Rattle.documents.specs.Graphs.{GraphAt, Rising, Blank, Headed, Unmade, Body, Rules}
use Rattle.documents.specs.declared.graph.Graph.{Graph}
use Rattle.documents.specs.declared.body.Walk.{Walk}
use Rattle.documents.specs.declared.wiring.Tally.{Tally}
use Rattle.documents.proofs.Sums.{document-sum}
use Rattle.documents.proofs.Recording.{recorded-all}

-- an index without names
module _ (text table index : List ℕ) (n k : ℕ) (b : Blank index n) where
  pub blank-walks : Walkable index k n
  blank-walks = empty-walkable index b.size b.zeros k n b.room

  pub blank-named : Naming text table index k [] []
  unfolding entry_number
  blank-named = mapped-as (both (entry_number []) (entry_number [])) by (empty-mapped index b.size b.zeros text table k)
    where
      by : (i : ℕ) (w : List ℕ) → i < name_words → both (entry_number []) (entry_number []) i w ≡ 0
      by zero w l = refl
      by (suc i) w l = refl

module _ (text table : List ℕ) (g : Graph) where
  abbrev ins : List Token
  ins = names_among (toks text table g.inputs g.first)

  abbrev outs : List Token
  outs = names_among (toks text table g.closes g.outputs)

  -- ---- the header

  pub headed-is : (index between after : List ℕ) (start middle inputs outputs : Tally) → Rising g → start.count ≡ 0 → middle.count ≡ 0
      → middle.best ≡ inputs.best
      → ListsNames text table index between g.first g.inputs max_inputs input_word ins start inputs
      → ListsNames text table between after g.outputs g.closes max_outputs output_word outs middle outputs
      → Naming text table index g.first [] [] → Headed text table after g start.best outputs.best
  headed-is index between after start middle inputs outputs rising s m b one two named =
      let t = one [] [] [] named s in
      let known = subst (λ (l : List Entry). Naming text table between g.outputs l []) (sym (append-nil (numbered input_word ins)))
      (mapped-wider rising.outputs t.state) in
      let u = two ins [] [] known m in
      record {
        found = u.found ∙ ap (λ (o : Option Fault). earlier o (first (scan (listing max_outputs ins) [] outs))) (ap meant b ∙ t.found);
        named = u.state;
      }

  -- ---- names that no call assigns

  pub unmade-is : (index : List ℕ) (best inputs r : Best) → Unassigned text table index Code.misfed ins best inputs
      → Unassigned text table index Code.unassigned_output outs inputs r → Unmade text table index g best r
  unmade-is index best inputs r one two i es cs m =
      two i es cs m
      ∙ ap (λ (o : Option Fault). earlier o (first (faults Code.unassigned_output (starts (strangers (all_assigned cs) outs))))) (one i es cs m)

  -- ---- a document

  module _ (n b : ℕ) (d : Document) (at : GraphAt text table n b g d) where
    -- before its body
    pub body-named : (index : List ℕ) (best r : Best) → Headed text table index g best r
        → Naming text table index g.body (headed d.inputs d.outputs) []
    body-named index best r h =
        mapped-wider at.rising.body
        (subst (λ (l : List Entry). Naming text table index g.closes l []) (ap₂ (λ (x y : List Token). headed x y) at.inputs at.outputs) h.named)

    module _ (hs : List Header) (index after records : List ℕ) (version listed all best : Best) (w : Walk)
        (versioned : 1 < n
        → meant version ≡ first (unless (same_bytes (token_at text table 1).bytes (ascii "1.0")) (fault Code.wrong_version (token_at text table 1).start)))
        (header : Headed text table index g version listed) (body : Body text table after records hs d.inputs d.outputs d.calls w)
        (joined : meant all ≡ earlier (meant listed) (meant w.best)) (unmade : Unmade text table after g all best) where
      abbrev I : Option Fault
      I = first (scan (listing max_inputs []) [] d.inputs)

      abbrev O : Option Fault
      O = first (scan (listing max_outputs d.inputs) [] d.outputs)

      version-is : meant version ≡ first (bad_version d)
      unfolding bad_version
      version-is =
          versioned at.inside ∙ ap (λ (t : Token). first (unless (same_bytes t.bytes (ascii "1.0")) (fault Code.wrong_version t.start))) at.version

      listed-is : meant listed ≡ earlier (earlier (first (bad_version d)) I) O
      listed-is =
          header.found
          ∙ ap₂ (λ (x y : List Token). earlier (earlier (meant version) (first (scan (listing max_inputs []) [] x))) (first (scan (listing max_outputs x) [] y)))
          at.inputs at.outputs
          ∙ ap (λ (o : Option Fault). earlier (earlier o I) O) version-is

      all-is : meant best ≡ earlier (earlier (meant all) (first (faults Code.misfed (starts (strangers (all_assigned d.calls) d.inputs)))))
          (first (faults Code.unassigned_output (starts (strangers (all_assigned d.calls) d.outputs))))
      all-is =
          unmade w.at (headed d.inputs d.outputs) d.calls body.state.named
          ∙ ap₂ (λ (x y : List Token).
          earlier (earlier (meant all) (first (faults Code.misfed (starts (strangers (all_assigned d.calls) x)))))
          (first (faults Code.unassigned_output (starts (strangers (all_assigned d.calls) y))))) at.inputs at.outputs

      pub rules-are : Rules records hs d (record { best = best; calls = w.calls; uses = w.uses })
      rules-are =
          let M = first (faults Code.misfed (starts (strangers (all_assigned d.calls) d.inputs))) in
          let N = first (faults Code.unassigned_output (starts (strangers (all_assigned d.calls) d.outputs))) in
          record {
            found =
                all-is
                ∙ ap (λ (o : Option Fault). earlier (earlier o M) N) (joined ∙ ap₂ earlier listed-is body.found)
                ∙ sym (document-sum hs d);
            kept =
                λ z.
                let p = neither (earlier (meant all) M) N (sym all-is ∙ z) in
                let q = neither (meant all) M p.0 in
                let s = neither (meant listed) (meant w.best) (sym joined ∙ q.0) in
                recorded-all records hs d w.calls w.uses body.state.counted.calls body.state.counted.uses (body.state.recorded s.1);
          }
