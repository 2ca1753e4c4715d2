-- What the faults of a document's rules are: each has one of their codes, the detail that goes with it, and the place of a token.
-- In order: codes with their details; headers with few parameters; binding; the rules of a document. Relies on `Members` for the
-- tokens of trees, and on `Lines` of lists for lists of faults.
use mathlib.Core.Path.{◌≡◌, refl, sym, ap, ◌∙◌}
use mathlib.Core.Bool.{Bool, true, false, cond, not, ◌&&◌}
use mathlib.Core.List.{List, [], ◌∷◌, ◌++◌, map, flat_map, flatten}
use mathlib.Core.Option.{Option, some}
use mathlib.Core.Option.{none as nothing}
use Prim.Native.Nat.{ℕ, suc, ◌+◌, ◌<◌, ◌≤◌}
use native.Mathlib.Omega.{arith}
use lib.ListN.{length}
use Rattle.spellings.specs.Comparison.{same_bytes}
use Rattle.lexis.specs.Sizes.{max_parameters, max_inputs, max_outputs, max_calls, max_assigned, max_uses}
use Rattle.lexis.specs.Ascii.{ascii}
use Rattle.lexis.specs.Lexer.{Token}
use Rattle.syntax.specs.Tree.{Value, Ty, Param, Header, Arg, Call, Document}
use Rattle.syntax.specs.Tree.Arg.{positional, named}
use Rattle.lists.specs.Code as Lists
use Rattle.lists.specs.Fault.{Fault, fault, faults, starts, unless, first}
use Rattle.lists.specs.Names.{those, is_among, repeats, first_token, start_of, names_in, value_of, assigned, used, all_assigned, all_used}
use Rattle.lists.specs.Reading.{fits, all_tensor, result_type}
use Rattle.lists.specs.ListRules.{over, param_names, list_faults}
use Rattle.lists.specs.Lists as L
use Rattle.lists.specs.Found.{operation_of, find}
use Rattle.lists.proofs.First.{first-append}
use Rattle.lists.proofs.Faultless.{neither, own-clean, few-params}
use Rattle.lists.proofs.Members.{Each, each_append, HasDefault}
use Rattle.lists.proofs.Lines.{OnLine, each_map, each-flat, each-flatten, each-those, each-repeats, fault-lined, starts-lined, over-lined, unless-lined}
use Rattle.documents.specs.Code as Code
use Rattle.documents.specs.Binding.{leading, labels, value_at_place, later, named_value, or_else, Slot, slots_from, slots, taken, takes_place, misplaced_from, misplaced}
use Rattle.documents.specs.Binding.{misnamed, misfit, misfits, is_missing, lacked, missing}
use Rattle.documents.specs.Wiring.{strangers, again, unwired_after, is_external, misfed_by, misfed, unmade}
use Rattle.documents.specs.DocumentRules.{bad_version, document_counts, graph_repeats, by_operation, undeclared, argument_faults, unmatched, document_faults}
use Rattle.documents.proofs.Members.{HasArg, HasCall, HasDocument}

-- ---- codes with their details

pub data DocumentCode : ℕ → ℕ → Type 0 where
  wrong-version : DocumentCode Code.wrong_version 0
  over-size : DocumentCode Lists.over_size 0
  repeated-name : DocumentCode Lists.repeated_name 0
  is-undeclared : DocumentCode Code.undeclared 0
  is-misplaced : DocumentCode Code.misplaced 0
  is-misnamed : DocumentCode Code.misnamed 0
  is-misfit : DocumentCode Code.misfit 0
  is-unbound : {k : ℕ} → k < max_parameters → DocumentCode Code.unbound k
  is-unmatched : DocumentCode Code.unmatched 0
  assigned-again : DocumentCode Code.assigned_again 0
  unassigned-use : DocumentCode Code.unassigned_use 0
  is-misfed : DocumentCode Code.misfed 0
  unassigned-output : DocumentCode Code.unassigned_output 0

-- ---- headers of a list without faults have few parameters

abbrev FewParams : Header → Type 0
FewParams h = length h.params ≤ max_parameters

all-few : (hs : List Header) → first (list_faults hs) ≡ nothing → Each FewParams hs
unfolding flat_map
all-few hs e = go hs (own-clean hs e)
  where
    go : (gs : List Header) → first (flat_map L.header_faults gs) ≡ nothing → Each FewParams gs
    go [] e = tt
    go (g ∷ gs) e =
        let x = neither (first (L.header_faults g)) (first (flat_map L.header_faults gs)) (sym (first-append (L.header_faults g) (flat_map L.header_faults gs)) ∙ e)
        in
        (few-params g x.0, go gs x.1)

found-few : (hs : List Header) (t : Token) (h : Header) → Each FewParams hs → find hs t ≡ some h → FewParams h
unfolding operation_of
found-few [] t h g e = let z : ◌≡◌ {A = ℕ} 0 1 = cc in absurd (omega arith)
found-few (x ∷ xs) t h g e = go (same_bytes x.name.bytes t.bytes) e (found-few xs t h g.1)
  where
    go : (b : Bool) → cond b (some x) (find xs t) ≡ some h → (find xs t ≡ some h → FewParams h) → FewParams h
    go true q r = let z : x ≡ h = cc in rw z at g.0
    go false q r = r q

-- ---- binding

module _ (At : ℕ → Type 0) where
  abbrev InDocument : List Fault → Type 0
  InDocument xs = Each (OnLine DocumentCode At) xs

  abbrev Place : Token → Type 0
  Place t = At t.start

  abbrev Valued : Value → Type 0
  Valued v = Place (first_token v)

  leading-places : (xs : List Arg) → Each (HasArg Place) xs → Each Valued (leading xs)
  unfolding leading
  leading-places [] g = tt
  leading-places (positional v ∷ xs) g = (g.0.value.first, leading-places xs g.1)
  leading-places (named t v ∷ xs) g = tt

  label-places : (xs : List Arg) → Each (HasArg Place) xs → Each Place (labels xs)
  unfolding labels
  label-places [] g = tt
  label-places (positional v ∷ xs) g = label-places xs g.1
  label-places (named t v ∷ xs) g = (g.0.label, label-places xs g.1)

  named-place : (n : Token) (xs : List Arg) → Each (HasArg Place) xs → HasDefault Place (named_value n xs)
  unfolding named_value
  named-place n [] g = tt
  named-place n (positional v ∷ xs) g = named-place n xs g.1
  named-place n (named t v ∷ xs) g = go (same_bytes n.bytes t.bytes) (named-place n xs g.1)
    where
      go : (b : Bool) → HasDefault Place (named_value n xs) → HasDefault Place (cond b (some v) (named_value n xs))
      go true r = g.0.value.first
      go false r = r

  slot-places : (ps : List Param) (vs : List Value) (xs : List Arg) → Each Valued vs → Each (HasArg Place) xs
      → Each (λ (s : Slot). HasDefault Place s.value) (slots_from ps vs xs)
  unfolding slots_from
  slot-places [] vs xs k g = tt
  slot-places (p ∷ ps) vs xs k g = (go vs k, slot-places ps (later vs) xs (rest vs k) g)
    where
      rest : (ws : List Value) → Each Valued ws → Each Valued (later ws)
      rest [] k = tt
      rest (w ∷ ws) k = k.1

      other : HasDefault Place (named_value p.name xs)
      other = named-place p.name xs g

      by : (b : Bool) (w : Value) → Valued w → HasDefault Place (or_else (cond b (some w) nothing) (named_value p.name xs))
      by true w k = k
      by false w k = other

      go : (ws : List Value) → Each Valued ws → HasDefault Place (or_else (value_at_place p ws) (named_value p.name xs))
      go [] k = other
      go (w ∷ ws) k = by (all_tensor p.ty) w k.0

  misplaced-lined : (b : Bool) (ps : List Param) (xs : List Arg) → Each (HasArg Place) xs → InDocument (misplaced_from b ps xs)
  unfolding misplaced_from
  misplaced-lined b ps [] g = tt
  misplaced-lined b ps (positional v ∷ xs) g =
      each_append (OnLine DocumentCode At) (unless (b && takes_place ps) (fault Code.misplaced (start_of v))) (misplaced_from b (later ps) xs)
      (unless-lined DocumentCode At (b && takes_place ps) Code.misplaced (start_of v) is-misplaced g.0.value.first) (misplaced-lined b (later ps) xs g.1)
  misplaced-lined b ps (named t v ∷ xs) g = misplaced-lined false (later ps) xs g.1

  misnamed-lined : (ps : List Param) (xs : List Arg) → Each (HasArg Place) xs → InDocument (misnamed ps xs)
  unfolding misnamed flatten
  misnamed-lined ps xs g =
      let ls = labels xs in
      let l = label-places xs g in
      let a = those (λ t. not (is_among (param_names ps) t)) ls in
      let b = those (is_among (taken ps (leading xs))) ls in
      starts-lined DocumentCode At Code.misnamed (a ++ (b ++ (repeats ls ++ []))) is-misnamed
      (each_append Place a (b ++ (repeats ls ++ [])) (each-those Place _ ls l)
      (each_append Place b (repeats ls ++ []) (each-those Place _ ls l) (each_append Place (repeats ls) [] (each-repeats Place [] ls l) tt)))

  misfits-lined : (ss : List Slot) → Each (λ (s : Slot). HasDefault Place s.value) ss → InDocument (misfits ss)
  unfolding misfits
  misfits-lined ss g =
      each-flat (λ (s : Slot). HasDefault Place s.value) (OnLine DocumentCode At) (λ (s : Slot). misfit s.param.ty s.value)
      (λ s k. one s.param.ty s.value k) ss g
    where
      one : (u : Ty) (o : Option Value) → HasDefault Place o → InDocument (misfit u o)
      one u nothing k = tt
      one u (some v) k = unless-lined DocumentCode At (fits v u) Code.misfit (start_of v) is-misfit k

  missing-lined : (place k : ℕ) (ss : List Slot) → At place → k + length ss ≤ max_parameters → InDocument (lacked place k (map is_missing ss))
  unfolding lacked
  missing-lined place k [] g l = tt
  missing-lined place k (s ∷ ss) g l = go (is_missing s) (missing-lined place (suc k) ss g (omega (arith, l)))
    where
      go : (b : Bool) → InDocument (lacked place (suc k) (map is_missing ss))
          → InDocument (cond b (record { at = place; code = Code.unbound; detail = k } ∷ []) (lacked place (suc k) (map is_missing ss)))
      go true r = (record { code = is-unbound {k = k} (omega (arith, l)); place = g }, tt)
      go false r = r

  slots-count : (ps : List Param) (vs : List Value) (xs : List Arg) → length (slots_from ps vs xs) ≡ length ps
  unfolding slots_from
  slots-count [] vs xs = refl
  slots-count (p ∷ ps) vs xs = ap suc (slots-count ps (later vs) xs)

  -- ---- the rules of a document

  module _ (hs : List Header) (few : Each FewParams hs) where
    undeclared-lined : (c : Call) → HasCall Place c → InDocument (undeclared hs c)
    unfolding undeclared
    undeclared-lined c g = go (find hs c.op)
      where
        go : (o : Option Header) → InDocument (by_operation o (λ h. []) (fault Code.undeclared c.op.start ∷ []))
        go nothing = (fault-lined DocumentCode At Code.undeclared c.op.start is-undeclared g.op, tt)
        go (some h) = tt

    arguments-lined : (c : Call) → HasCall Place c → InDocument (argument_faults hs c)
    unfolding argument_faults
    arguments-lined c g = go (find hs c.op) refl
      where
        bound : Header → List Fault
        bound h =
            flatten
            (misplaced h.params c.args ∷ misnamed h.params c.args ∷ misfits (slots h.params c.args)
            ∷ missing c.op.start (slots h.params c.args) ∷ [])

        go : (o : Option Header) → find hs c.op ≡ o → InDocument (by_operation o bound [])
        go nothing e = tt
        go (some h) e =
            let ss = slots h.params c.args in
            let l = slots-count h.params (leading c.args) c.args in
            let m = found-few hs c.op h few e in
            each-flatten (OnLine DocumentCode At)
            (misplaced h.params c.args ∷ misnamed h.params c.args ∷ misfits ss ∷ missing c.op.start ss ∷ []) (
              misplaced-lined true h.params c.args g.args,
              (
                misnamed-lined h.params c.args g.args,
                (
                  misfits-lined ss (slot-places h.params (leading c.args) c.args (leading-places c.args g.args) g.args),
                  (missing-lined c.op.start 0 ss g.op (omega (arith, l, m)), tt),
                ),
              ),
            )

    unmatched-lined : (c : Call) → HasCall Place c → InDocument (unmatched hs c)
    unfolding unmatched
    unmatched-lined c g = go (find hs c.op)
      where
        go : (o : Option Header)
            → InDocument (by_operation o (λ h. unless (fits c.left (result_type h.results)) (fault Code.unmatched (start_of c.left))) [])
        go nothing = tt
        go (some h) = unless-lined DocumentCode At (fits c.left (result_type h.results)) Code.unmatched (start_of c.left) is-unmatched g.left.first

    used-places : (c : Call) → HasCall Place c → Each Place (used c)
    unfolding used
    used-places c g = each-flat (HasArg Place) Place (λ (a : Arg). names_in (value_of a)) (λ a k. k.value.names) c.args g.args

    all-assigned : (cs : List Call) → Each (HasCall Place) cs → Each Place (all_assigned cs)
    unfolding all_assigned
    all-assigned cs g = each-flat (HasCall Place) Place assigned (λ c k. k.left.names) cs g

    all-used : (cs : List Call) → Each (HasCall Place) cs → Each Place (all_used cs)
    unfolding all_used
    all-used cs g = each-flat (HasCall Place) Place used used-places cs g

    unwired-lined : (known : List Token) (cs : List Call) → Each (HasCall Place) cs → InDocument (unwired_after known cs)
    unfolding unwired_after
    unwired-lined known [] g = tt
    unwired-lined known (c ∷ cs) g =
        each_append (OnLine DocumentCode At) (faults Code.unassigned_use (starts (strangers known (used c)))) (unwired_after (known ++ assigned c) cs)
        (starts-lined DocumentCode At Code.unassigned_use (strangers known (used c)) unassigned-use (each-those Place _ (used c) (used-places c g.0)))
        (unwired-lined (known ++ assigned c) cs g.1)

    fed-lined : (inputs : List Token) (c : Call) → HasCall Place c → InDocument (misfed_by inputs c)
    unfolding misfed_by
    fed-lined inputs c g =
        starts-lined DocumentCode At Code.misfed (cond (is_external c) (strangers inputs (assigned c)) (those (is_among inputs) (assigned c))) is-misfed
        (go (is_external c))
      where
        go : (b : Bool) → Each Place (cond b (strangers inputs (assigned c)) (those (is_among inputs) (assigned c)))
        go true = each-those Place _ (assigned c) g.left.names
        go false = each-those Place _ (assigned c) g.left.names

    -- places of left sides
    left-places : (cs : List Call) → Each (HasCall Place) cs → Each At (map (λ (c : Call). start_of c.left) cs)
    left-places [] g = tt
    left-places (c ∷ cs) g = (g.0.left.first, left-places cs g.1)

    counts-in : (d : Document) → HasDocument Place d → InDocument (document_counts d)
    unfolding document_counts
    counts-in d g =
        each-flatten (OnLine DocumentCode At)
        (over max_inputs (starts d.inputs)
        ∷ over max_outputs (starts d.outputs)
        ∷ over max_calls (map (λ (c : Call). start_of c.left) d.calls)
        ∷ over max_assigned (starts (all_assigned d.calls))
        ∷ over max_uses (starts (all_used d.calls))
        ∷ []) (
          names-over max_inputs d.inputs g.inputs,
          (
            names-over max_outputs d.outputs g.outputs,
            (
              over-lined DocumentCode At max_calls (map (λ (c : Call). start_of c.left) d.calls) over-size (left-places d.calls g.calls),
              (
                names-over max_assigned (all_assigned d.calls) (all-assigned d.calls g.calls),
                (names-over max_uses (all_used d.calls) (all-used d.calls g.calls), tt),
              ),
            ),
          ),
        )
      where
        names-over : (size : ℕ) (ts : List Token) → Each Place ts → InDocument (over size (starts ts))
        names-over size ts k = over-lined DocumentCode At size (starts ts) over-size (each_map At (λ (t : Token). t.start) ts k)

    misfed-lined : (d : Document) → HasDocument Place d → InDocument (misfed d)
    unfolding misfed
    misfed-lined d g =
        let a = strangers (all_assigned d.calls) d.inputs in
        each_append (OnLine DocumentCode At) (faults Code.misfed (starts a)) (flat_map (misfed_by d.inputs) d.calls)
        (starts-lined DocumentCode At Code.misfed a is-misfed (each-those Place _ d.inputs g.inputs))
        (each-flat (HasCall Place) (OnLine DocumentCode At) (misfed_by d.inputs) (fed-lined d.inputs) d.calls g.calls)

    -- the rules of names: 13, 21 and 24
    repeats-in : (d : Document) → HasDocument Place d → InDocument (graph_repeats d)
    unfolding graph_repeats
    repeats-in d g =
        starts-lined DocumentCode At Lists.repeated_name (repeats (d.inputs ++ d.outputs)) repeated-name
        (each-repeats Place [] (d.inputs ++ d.outputs) (each_append Place d.inputs d.outputs g.inputs g.outputs))

    again-lined : (d : Document) → HasDocument Place d → InDocument (again d)
    unfolding again
    again-lined d g =
        starts-lined DocumentCode At Code.assigned_again (repeats (all_assigned d.calls)) assigned-again
        (each-repeats Place [] (all_assigned d.calls) (all-assigned d.calls g.calls))

    unmade-lined : (d : Document) → HasDocument Place d → InDocument (unmade d)
    unfolding unmade
    unmade-lined d g =
        starts-lined DocumentCode At Code.unassigned_output (strangers (all_assigned d.calls) d.outputs) unassigned-output
        (each-those Place _ d.outputs g.outputs)

    version-lined : (d : Document) → HasDocument Place d → InDocument (bad_version d)
    unfolding bad_version
    version-lined d g =
        unless-lined DocumentCode At (same_bytes d.version.bytes (ascii "1.0")) Code.wrong_version d.version.start wrong-version g.version

    flat-lined : (f : Call → List Fault) → ((c : Call) → HasCall Place c → InDocument (f c)) → (d : Document) → HasDocument Place d
        → InDocument (flat_map f d.calls)
    flat-lined f h d g = each-flat (HasCall Place) (OnLine DocumentCode At) f h d.calls g.calls

    all-lined : (d : Document) → HasDocument Place d → InDocument (document_faults hs d)
    unfolding document_faults
    all-lined d g =
        each-flatten (OnLine DocumentCode At)
        (bad_version d
        ∷ document_counts d
        ∷ graph_repeats d
        ∷ flat_map (undeclared hs) d.calls
        ∷ flat_map (argument_faults hs) d.calls
        ∷ flat_map (unmatched hs) d.calls
        ∷ again d
        ∷ unwired_after [] d.calls
        ∷ misfed d
        ∷ unmade d
        ∷ []) (
          version-lined d g,
          (
            counts-in d g,
            (
              repeats-in d g,
              (
                flat-lined (undeclared hs) undeclared-lined d g,
                (
                  flat-lined (argument_faults hs) arguments-lined d g,
                  (
                    flat-lined (unmatched hs) unmatched-lined d g,
                    (
                      again-lined d g,
                      (
                        unwired-lined [] d.calls g.calls,
                        (
                          misfed-lined d g,
                          (unmade-lined d g, tt),
                        ),
                      ),
                    ),
                  ),
                ),
              ),
            ),
          ),
        )

  -- under a list without faults
  pub document-lined : (hs : List Header) → first (list_faults hs) ≡ nothing → (d : Document) → HasDocument (λ t. At t.start) d
      → Each (OnLine DocumentCode At) (document_faults hs d)
  document-lined hs e d g = all-lined hs (all-few hs e) d g
