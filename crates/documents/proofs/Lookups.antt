-- Names among others, and calls up to a place: there is one more as long as the place is not reached. Assumes nothing.
use mathlib.Core.Path.{◌≡◌, refl, sym, ap, ◌∙◌}
use mathlib.Core.Bool.{Bool, true, false, ◌||◌}
use mathlib.Core.List.{List, [], ◌∷◌, ◌++◌}
use Prim.Native.Nat.{ℕ, ◌≤◌, ◌<◌}
use native.Mathlib.Nat.{le_refl}
use native.Mathlib.Omega.{arith}
use lib.ListN.{length}
use Rattle.spellings.specs.Comparison.{same_bytes}
use Rattle.lexis.specs.Lexer.{Token}
use Rattle.syntax.specs.Tree.{Call}
use Rattle.syntax.specs.Parser.{call}
use Rattle.syntax.specs.Parser.Parse.{ok}
use Rattle.syntax.specs.Table.{toks}
use Rattle.syntax.proofs.Row.{Left}
use Rattle.syntax.proofs.Row.Left.{fewer}
use Rattle.syntax.proofs.Shrinks.{call-shrinks}
use Rattle.syntax.proofs.Table.{toks-length}
use Rattle.lists.specs.Names.{is_among}
use Rattle.documents.specs.Calls.{Calls}
use Rattle.documents.specs.Calls.Calls.{no_call, a_call}

pub among-append : (ss ts : List Token) (t : Token) → is_among (ss ++ ts) t ≡ (is_among ss t || is_among ts t)
unfolding is_among
among-append [] ts t = refl
among-append (s ∷ ss) ts t = go (same_bytes s.bytes t.bytes) (among-append ss ts t)
  where
    go : (b : Bool) → is_among (ss ++ ts) t ≡ (is_among ss t || is_among ts t) → (b || is_among (ss ++ ts) t) ≡ ((b || is_among ss t) || is_among ts t)
    go true e = refl
    go false e = e

-- ---- calls up to a place

call-fewer : (b : ℕ) (ts : List Token) (c : Call) (us : List Token) → call b ts ≡ ok c us → length us < length ts
call-fewer b ts c us e = go (rw e at (call-shrinks b ts))
  where
    go : Left (length ts) (ok c us) → length us < length ts
    go (fewer h) = h

calls-fewer : {b : ℕ} {ts us : List Token} {cs : List Call} → Calls b ts cs us → length us ≤ length ts
calls-fewer no_call = le_refl _
calls-fewer {b} {ts} {us} (a_call {us = ws} {c = c} h r) = let p = call-fewer b ts c ws h in let q = calls-fewer r in omega arith

module _ (text table : List ℕ) (n until : ℕ) where
  -- one more call at place i
  pub record More (b i : ℕ) (cs : List Call) : Type 0 where
    pub one : Call
    pub others : List Call
    pub after : List Token
    pub whole : cs ≡ one ∷ others
    pub is : call b (toks text table n i) ≡ ok one after
    pub on : Calls b after others (toks text table n until)

  pub calls-more : (b i : ℕ) (cs : List Call) → i < until → until ≤ n → Calls b (toks text table n i) cs (toks text table n until) → More b i cs
  calls-more b i cs h k w = go (toks text table n i) cs (toks text table n until) refl refl w
    where
      go : (ts : List Token) (cs : List Call) (us : List Token) → ts ≡ toks text table n i → us ≡ toks text table n until → Calls b ts cs us → More b i cs
      go ts cs us p q no_call =
          let l = ap (λ (x : List Token). length x) (sym p ∙ q) in
          let a = toks-length text table n i in
          let c = toks-length text table n until in
          absurd (omega arith)
      go ts cs us p q (a_call {us = ws} {c = c} {cs = ds} e r) = record { one = c; others = ds; after = ws; whole = refl; is = rw p at e; on = rw q at r }

  pub calls-none : (b i : ℕ) (cs : List Call) → until ≤ i → Calls b (toks text table n i) cs (toks text table n until) → cs ≡ []
  calls-none b i cs h w = go (toks text table n i) cs (toks text table n until) refl refl w
    where
      go : (ts : List Token) (cs : List Call) (us : List Token) → ts ≡ toks text table n i → us ≡ toks text table n until → Calls b ts cs us → cs ≡ []
      go ts cs us p q no_call = refl
      go ts cs us p q (a_call {us = ws} {c = c} e r) =
          let f = call-fewer b ts c ws e in
          let g = calls-fewer r in
          let a = toks-length text table n i in
          let d = toks-length text table n until in
          let x = ap (λ (x : List Token). length x) p in
          let y = ap (λ (x : List Token). length x) q in
          absurd (omega arith)
