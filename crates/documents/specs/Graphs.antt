-- Where the parts of a document stand, and how far a walk over its body has come, which the contracts of the walks over a document cite.
use Rattle.std.specs.Prelude.{◌≡◌, ℕ, ◌+◌, ◌<◌, ◌≤◌, eqb, length, replicate}
use mathlib.Core.List.{List, [], ◌∷◌, ◌++◌, flat_map}
use Rattle.std.proofs.Math.Option.{none as nothing}
use Rattle.lexis.specs.Sizes.{max_inputs, max_outputs, max_calls}
use Rattle.lexis.specs.Lexer.{Token}
use Rattle.lexis.specs.Symbol.{right_round, right_curly, a_name}
use Rattle.syntax.specs.Tree.{Header, Call, Document}
use Rattle.syntax.specs.Parser.{expect, row, plain, commas, closed, call, document}
use Rattle.syntax.specs.Parser.Parse.{ok}
use Rattle.syntax.specs.Table.{token_at, toks}
use Rattle.index.specs.Layout.{index_words}
use Rattle.lists.specs.Code as Lists
use Rattle.lists.specs.Fault.{fault, faults, starts, earlier, first}
use Rattle.lists.specs.Best.{meant}
use Rattle.lists.specs.declared.best.Best.{Best}
use Rattle.lists.specs.Names.{first_token, assigned, all_assigned, all_used}
use Rattle.lists.specs.Scans.{names_among}
use Rattle.lists.specs.Walks.{when, scan}
use Rattle.documents.specs.Code as Code
use Rattle.documents.specs.Wiring.{strangers, is_external}
use Rattle.documents.specs.DocumentRules.{document_faults}
use Rattle.documents.specs.Calls.{Calls}
use Rattle.documents.specs.Walks.{listing, assigning, call_faults, body_faults}
use Rattle.documents.specs.Naming.{Entry, headed, assigners, Naming}
use Rattle.documents.specs.Records.{TablesRecorded, Kept}
use Rattle.documents.specs.Operations.{operation_faults}
use Rattle.documents.specs.declared.graph.Graph.{Graph}
use Rattle.documents.specs.declared.body.Walk.{Walk}
use Rattle.documents.specs.declared.wiring.Tally.{Tally}
use Rattle.documents.specs.declared.document.Ruled.{Ruled}

-- the n tokens of a table are a document
pub record HasDocument (text table : List ℕ) (n : ℕ) : Type 0 where
  pub brackets : ℕ
  pub tree : Document
  pub is : document brackets (toks text table n 0) ≡ ok tree []

-- the places of a graph rise
pub record Rising (g : Graph) : Type 0 where
  pub inputs : g.first ≤ g.inputs
  pub outputs : g.inputs ≤ g.outputs
  pub closes : g.outputs ≤ g.closes
  pub body : g.closes ≤ g.body

-- the document d, read from place 0, has its parts at the places g
pub record GraphAt (text table : List ℕ) (n b : ℕ) (g : Graph) (d : Document) : Type 0 where
  pub version : token_at text table 1 ≡ d.version
  pub inside : 1 < n
  pub rising : Rising g
  pub inputs : names_among (toks text table g.inputs g.first) ≡ d.inputs
  pub outputs : names_among (toks text table g.closes g.outputs) ≡ d.outputs
  pub returned : row plain (commas right_round) (expect a_name) (toks text table n g.outputs) ≡ ok d.outputs (toks text table n (g.closes + 1))
  pub body : row plain (closed right_curly) (call b) (toks text table n g.body) ≡ ok d.calls []
  pub calls : Calls b (toks text table n g.body) d.calls (toks text table n g.end)

-- ---- a walk over the calls

-- the walk has counted the calls ds
pub record WalkCounts (w : Walk) (ds : List Call) : Type 0 where
  pub calls : w.calls ≡ length ds
  pub assigned : w.assigned ≡ length (all_assigned ds)
  pub uses : w.uses ≡ length (all_used ds)

-- after the calls ds: their number, their names, and as long as there is no fault their records
pub record Walked (text table index records : List ℕ) (hs : List Header) (ins outs : List Token) (ds : List Call) (w : Walk) : Type 0 where
  pub counted : WalkCounts w ds
  pub named : Naming text table index w.at (headed ins outs) (assigners ds)
  pub recorded : meant w.best ≡ nothing → TablesRecorded records hs ds

-- the left side of the call c after the calls ds: 12 if the call is one too many, and the faults of its identifiers
pub record LeftSide (text table index : List ℕ) (equal : ℕ) (ins outs : List Token) (ds : List Call) (c : Call) (tally r : Tally) : Type 0 where
  pub found : meant r.best
      ≡ earlier (earlier (meant tally.best) (first (when (eqb (length ds) max_calls) (fault Lists.over_size (first_token c.left).start))))
      (first (scan (assigning ins (is_external c)) (all_assigned ds) (assigned c)))
  pub count : r.count ≡ length (all_assigned ds ++ assigned c)
  pub named : Naming text table index equal (headed ins outs) (assigners (ds ++ (c ∷ [])))

-- one call c more, with us after it
pub record Stepped (text table : List ℕ) (n : ℕ) (index records : List ℕ) (hs : List Header) (ins outs : List Token) (ds : List Call) (c : Call)
    (us : List Token) (w r : Walk) : Type 0 where
  pub after : us ≡ toks text table n r.at
  pub state : Walked text table index records hs ins outs (ds ++ (c ∷ [])) r
  pub found : meant r.best ≡ earlier (meant w.best) (earlier (first (call_faults ins ds c)) (first (operation_faults hs c)))

-- after all calls cs
pub record Body (text table index records : List ℕ) (hs : List Header) (ins outs : List Token) (cs : List Call) (w : Walk) : Type 0 where
  pub state : Walked text table index records hs ins outs cs w
  pub found : meant w.best ≡ earlier (first (body_faults ins [] cs)) (first (flat_map (operation_faults hs) cs))

-- ---- all rules

-- an index without names, of room for n places
pub record Blank (index : List ℕ) (n : ℕ) : Type 0 where
  pub size : ℕ
  pub zeros : index ≡ replicate size 0
  pub room : index_words n ≤ size

-- the names of a header: 12 and 13 of inputs and outputs, which the index has then
pub record Headed (text table index : List ℕ) (g : Graph) (best r : Best) : Type 0 where
  pub found : let ins = names_among (toks text table g.inputs g.first) in let outs = names_among (toks text table g.closes g.outputs) in
      meant r ≡ earlier (earlier (meant best) (first (scan (listing max_inputs []) [] ins))) (first (scan (listing max_outputs ins) [] outs))
  pub named : Naming text table index g.closes
      (headed (names_among (toks text table g.inputs g.first)) (names_among (toks text table g.closes g.outputs))) []

-- those of its names that no call assigns: 23 and 24
abbrev pub Unmade : List ℕ → List ℕ → List ℕ → Graph → Best → Best → Type 0
Unmade text table index g best r =
    (i : ℕ) (es : List Entry) (cs : List Call) → Naming text table index i es (assigners cs)
    → meant r
    ≡ earlier (earlier (meant best) (first (faults Code.misfed (starts (strangers (all_assigned cs) (names_among (toks text table g.inputs g.first)))))))
    (first (faults Code.unassigned_output (starts (strangers (all_assigned cs) (names_among (toks text table g.closes g.outputs))))))

-- the first fault of a document under its headers, and its records where there is none
pub record Rules (records : List ℕ) (hs : List Header) (d : Document) (r : Ruled) : Type 0 where
  pub found : meant r.best ≡ first (document_faults hs d)
  pub kept : meant r.best ≡ nothing → Kept records hs d r.calls r.uses
