-- The words of a directory: what a run of stores leaves, a parameter stored, and what stays where its words do.
use mathlib.Core.Path.{◌≡◌, refl, sym, ap, ◌∙◌}
use mathlib.Core.List.{List, [], ◌∷◌, map}
use Prim.Native.Nat.{ℕ, zero, suc, ◌+◌, ◌*◌, ◌<◌, ◌≤◌}
use native.Mathlib.Omega.{arith}
use lib.ListN.{length, get_or, set, length-set}
use lib.Seq.{sets, get_or-set_same, get_or-set_other}
use Rattle.lexis.specs.Sizes.{max_brackets, max_operations}
use Rattle.lexis.specs.Lexer.{Token}
use Rattle.syntax.specs.Tree.{Param, Header}
use Rattle.syntax.specs.Parser.{type}
use Rattle.syntax.specs.Parser.Parse.{ok}
use Rattle.syntax.specs.Table.{token_at, toks}
use Rattle.lists.specs.Masks.{mask_of, is_required}
use Rattle.lists.specs.Types.{type_code, result_code}
use Rattle.lists.specs.Directory.{first_parameter, operation_words, parameter_words, operation_word, parameter_word, DefaultAt, ParameterAt, ParametersAt}
use Rattle.lists.specs.Directory.{no-parameter, a-parameter, OperationAt}
use Rattle.lists.specs.Headers.{result_row, WordsKept}

-- ---- a run of stores

pub sets_below : (ws l : List ℕ) (i j : ℕ) → j < i → get_or (sets l i ws) j 0 ≡ get_or l j 0
sets_below [] l i j h = refl
sets_below (w ∷ ws) l i j h = sets_below ws (set l i w) (suc i) j (omega arith) ∙ get_or-set_other l i j w 0 (λ z. omega arith)

pub sets-above : (ws l : List ℕ) (i j : ℕ) → i + length ws ≤ j → get_or (sets l i ws) j 0 ≡ get_or l j 0
sets-above [] l i j h = refl
sets-above (w ∷ ws) l i j h = sets-above ws (set l i w) (suc i) j (omega arith) ∙ get_or-set_other l i j w 0 (λ z. omega arith)

pub sets-at : (ws l : List ℕ) (i f : ℕ) → f < length ws → i + length ws ≤ length l → get_or (sets l i ws) (i + f) 0 ≡ get_or ws f 0
sets-at [] l i f h m = absurd (omega arith)
sets-at (w ∷ ws) l i zero h m =
    let z : i + 0 ≡ i = omega arith in
    ap (λ (j : ℕ). get_or (sets (set l i w) (suc i) ws) j 0) z ∙ sets_below ws (set l i w) (suc i) i (omega arith) ∙ get_or-set_same l i w 0 (omega arith)
sets-at (w ∷ ws) l i (suc f) h m =
    let z : i + suc f ≡ suc i + f = omega arith in
    let e = length-set l i w in
    ap (λ (j : ℕ). get_or (sets (set l i w) (suc i) ws) j 0) z ∙ sets-at ws (set l i w) (suc i) f (omega arith) (omega arith)

-- ---- parameters

module _ (text table : List ℕ) (n : ℕ) where
  -- a parameter whose three words are stored
  pub parameter-stored : (words words' : List ℕ) (j at code d : ℕ) {p : Param} {us : List Token}
      → words' ≡ sets words (first_parameter + j * parameter_words) (at ∷ code ∷ d ∷ []) → first_parameter + j * parameter_words + 3 ≤ length words
      → at + 2 < n → token_at text table at ≡ p.name → type max_brackets (toks text table n (at + 2)) ≡ ok p.ty us → code ≡ type_code p.ty
      → DefaultAt text table n d p.default → ParameterAt text table words' n j p
  parameter-stored words words' j at code d {p} {us} stored room inside name typed coded default =
      let w : (f : ℕ) → f < 3 → parameter_word words' j f ≡ get_or (at ∷ code ∷ d ∷ []) f 0 =
      λ f l. ap (λ (x : List ℕ). parameter_word x j f) stored ∙ sets-at (at ∷ code ∷ d ∷ []) words (first_parameter + j * parameter_words) f l room in
      let e = w 0 (omega arith) in
      record {
        inside = omega arith;
        name = ap (token_at text table) e ∙ name;
        after = us;
        typed = ap (λ (x : ℕ). type max_brackets (toks text table n (x + 2))) e ∙ typed;
        code = w 1 (omega arith) ∙ coded;
        default = rw (w 2 (omega arith)) default;
      }

  pub parameter-same : {words words' : List ℕ} {j : ℕ} {p : Param} → ((f : ℕ) → f < 3 → parameter_word words' j f ≡ parameter_word words j f)
      → ParameterAt text table words n j p → ParameterAt text table words' n j p
  parameter-same w a =
      let e = w 0 (omega arith) in
      record {
        inside = let h = a.inside in omega arith;
        name = ap (token_at text table) e ∙ a.name;
        after = a.after;
        typed = ap (λ (x : ℕ). type max_brackets (toks text table n (x + 2))) e ∙ a.typed;
        code = w 1 (omega arith) ∙ a.code;
        default = rw (w 2 (omega arith)) a.default;
      }

  -- parameters whose words stay
  pub parameters-kept : {words words' : List ℕ} {j : ℕ} {ps : List Param}
      → ((i : ℕ) → first_parameter + j * parameter_words ≤ i → i < first_parameter + (j + length ps) * parameter_words → get_or words' i 0 ≡ get_or words i 0)
      → ParametersAt text table words n j ps → ParametersAt text table words' n j ps
  parameters-kept kept no-parameter = no-parameter
  parameters-kept kept (a-parameter a rest) =
      a-parameter (parameter-same (λ f l. kept _ (omega arith) (omega arith)) a) (parameters-kept (λ i l m. kept i (omega arith) (omega arith)) rest)

-- ---- operations

module _ (text table : List ℕ) (n : ℕ) where
  -- an operation whose six words are stored in front of its parameters
  pub operation-stored : (words words' : List ℕ) (k q first end required from code : ℕ) {h : Header} {us : List Token}
      → words' ≡ sets words (k * operation_words) (q ∷ first ∷ end ∷ required ∷ from ∷ code ∷ []) → k * operation_words + 6 ≤ length words
      → q < n → token_at text table q ≡ h.name → ParametersAt text table words' n first h.params → end ≡ first + length h.params → 4 * end ≤ n
      → required ≡ mask_of (map is_required h.params) → result_row (toks text table n from) ≡ ok h.results us → code ≡ result_code h.results
      → OperationAt text table words' n k h
  operation-stored words words' k q first end required from code {h} {us} stored room inside name params ends tokens flags results coded =
      let ws = q ∷ first ∷ end ∷ required ∷ from ∷ code ∷ [] in
      let w : (f : ℕ) → f < 6 → operation_word words' k f ≡ get_or (q ∷ first ∷ end ∷ required ∷ from ∷ code ∷ []) f 0 =
      λ f l. ap (λ (x : List ℕ). operation_word x k f) stored ∙ sets-at (q ∷ first ∷ end ∷ required ∷ from ∷ code ∷ []) words (k * operation_words) f l room in
      let e = w 0 (omega arith) in
      let f = w 1 (omega arith) in
      record {
        inside = omega arith;
        name = ap (token_at text table) e ∙ name;
        params = rw f params;
        ends = w 2 (omega arith) ∙ ends ∙ sym (ap (λ (x : ℕ). x + length h.params) f);
        tokens = let z : operation_word words' k 2 ≡ end = w 2 (omega arith) in omega (arith, z, tokens);
        required = w 3 (omega arith) ∙ flags;
        after = us;
        results = ap (λ (x : ℕ). result_row (toks text table n x)) (w 4 (omega arith)) ∙ results;
        code = w 5 (omega arith) ∙ coded;
      }

  pub operation-kept : {words words' : List ℕ} {k p : ℕ} {h : Header} → k < max_operations → operation_word words k 2 ≡ p → WordsKept words words' (suc k) p
      → OperationAt text table words n k h → OperationAt text table words' n k h
  operation-kept {words} {words'} {k} {p} {h} small last kept a =
      let w : (f : ℕ) → f < 6 → operation_word words' k f ≡ operation_word words k f = λ f l. kept.operations (k * operation_words + f) (omega arith)
      (omega arith) in
      let e = w 0 (omega arith) in
      let f = w 1 (omega arith) in
      let d = a.ends in
      record {
        inside = let i = a.inside in omega arith;
        name = ap (token_at text table) e ∙ a.name;
        params = rw f (parameters-kept text table n (λ i l m. kept.parameters i (omega arith) (omega arith)) a.params);
        ends = w 2 (omega arith) ∙ a.ends ∙ sym (ap (λ (x : ℕ). x + length h.params) f);
        tokens = let z = w 2 (omega arith) in let t = a.tokens in omega arith;
        required = w 3 (omega arith) ∙ a.required;
        after = a.after;
        results = ap (λ (x : ℕ). result_row (toks text table n x)) (w 4 (omega arith)) ∙ a.results;
        code = w 5 (omega arith) ∙ a.code;
      }
