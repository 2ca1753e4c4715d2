-- The parser and the grammar agree. Whoever reads the grammar (`specs/Grammar`) and what the place of a fault means (`specs/Fault`) need
-- not read the parser: these statements say what it answers. b is the bracket limit: 8 for whole texts, and any other here.
-- Assumes nothing.
use mathlib.Core.Path.{◌≡◌}
use mathlib.Core.List.{List, [], ◌∷◌}
use Prim.Native.Nat.{ℕ}
use Rattle.lexis.specs.Lexer.{Token}
use Rattle.syntax.specs.Tree.{Header, Document}
use Rattle.syntax.specs.Grammar.{IsList, IsDocument}
use Rattle.syntax.specs.Code as Code
use Rattle.syntax.specs.Fault.{FirstFault}
use Rattle.syntax.specs.Parser.{operations, document}
use Rattle.syntax.specs.Parser.Parse.{ok, bad}
use Rattle.syntax.proofs.Whole.{lists, documents, sound, all_read, one-tree, fault, at-token, exact}

-- ---- what is accepted is what the grammar derives, all of it

pub list-parsed : (b : ℕ) (ts : List Token) (hs : List Header) → (operations b ts ≡ ok hs [] → IsList b ts hs) × (IsList b ts hs → operations b ts ≡ ok hs [])
list-parsed b ts hs = (sound lists b ts hs, lists.complete b ts hs)

pub document-parsed : (b : ℕ) (ts : List Token) (d : Document) → (document b ts ≡ ok d [] → IsDocument b ts d) × (IsDocument b ts d → document b ts ≡ ok d [])
document-parsed b ts d = (sound documents b ts d, documents.complete b ts d)

pub list-all-read : (b : ℕ) (ts : List Token) (hs : List Header) (us : List Token) → operations b ts ≡ ok hs us → us ≡ []
list-all-read = all_read lists

pub document-all-read : (b : ℕ) (ts : List Token) (d : Document) (us : List Token) → document b ts ≡ ok d us → us ≡ []
document-all-read = all_read documents

-- ---- the grammar is unambiguous: the same tokens spell one tree, whatever the limits

pub one_list : (b b' : ℕ) (ts : List Token) (hs hs' : List Header) → IsList b ts hs → IsList b' ts hs' → hs ≡ hs'
one_list = one-tree lists

pub one-document : (b b' : ℕ) (ts : List Token) (d d' : Document) → IsDocument b ts d → IsDocument b' ts d' → d ≡ d'
one-document = one-tree documents

-- ---- what is refused has its first fault where the parser says, and the code says which kind it is

pub list-fault : (b c : ℕ) (ts us : List Token) → operations b ts ≡ bad c us → FirstFault (λ b ts. (hs : List Header) × IsList b ts hs) b c ts us
list-fault = fault lists

pub document-fault : (b c : ℕ) (ts us : List Token) → document b ts ≡ bad c us → FirstFault (λ b ts. (d : Document) × IsDocument b ts d) b c ts us
document-fault = fault documents

-- 10 stands at a token, and never at the end

pub list-bracket : (b c : ℕ) (ts us : List Token) → operations b ts ≡ bad c us → c ≡ Code.bracket → (t : Token) × ((ws : List Token) × (us ≡ t ∷ ws))
list-bracket = at-token lists

pub document-bracket : (b c : ℕ) (ts us : List Token) → document b ts ≡ bad c us → c ≡ Code.bracket → (t : Token) × ((ws : List Token) × (us ≡ t ∷ ws))
document-bracket = at-token documents

-- and nothing else is given: where a text has such a first fault, with either code, that is the answer

pub list-fault-given : (b c : ℕ) (ts us : List Token) → FirstFault (λ b ts. (hs : List Header) × IsList b ts hs) b c ts us → operations b ts ≡ bad c us
list-fault-given = exact lists

pub document-fault-given : (b c : ℕ) (ts us : List Token) → FirstFault (λ b ts. (d : Document) × IsDocument b ts d) b c ts us → document b ts ≡ bad c us
document-fault-given = exact documents
