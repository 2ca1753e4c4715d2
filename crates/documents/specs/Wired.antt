-- What a wire says: the call that it names.
use Rattle.std.specs.Prelude.{◌≡◌, true, List, ◌∷◌, ◌++◌, ℕ, ◌<◌, length}
use Rattle.lexis.specs.Lexer.{Token}
use Rattle.syntax.specs.Tree.{Call}
use Rattle.lists.specs.Names.{is_among, assigned}

-- the call of index k is one of these, comes before the call of index `below`, and assigns the identifier t
pub record AssignedBy (cs : List Call) (k below : ℕ) (t : Token) : Type 0 where
  pub earlier : List Call
  pub call : Call
  pub later : List Call
  pub stands : cs ≡ earlier ++ (call ∷ later)
  pub index : length earlier ≡ k
  pub before : k < below
  pub assigns : is_among (assigned call) t ≡ true
