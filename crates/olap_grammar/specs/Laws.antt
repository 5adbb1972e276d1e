-- The laws of lines and tokens: the readers find what the grammar says, and formulas are short.
--     FoundAsCut        the cutter finds the tokens of the grammar
--     FoundAsFormula    the reader finds the formula of the grammar
--     IsOneCut          a line has one list of tokens at most
--     IsOneTree         tokens have one formula at most
--     HasFewTokens      a formula of few nodes and brackets has few tokens
use Rattle.std.specs.Prelude.{◌≡◌, ◌≤◌, ◌↔◌, ℕ, List, Some, false, length}
use Rattle.olap_grammar.specs.Forms.{Form}
use Rattle.olap_grammar.specs.Brackets.{most_tokens, opens_over}
use Rattle.olap_grammar.specs.Grammar.{Atoms, IsFormula}
use Rattle.olap_grammar.specs.Cutting.{IsCut}
use Rattle.olap_grammar.specs.CuttingMachine.{tokens_of}
use Rattle.olap_grammar.specs.Machine.{the_formula}
use Rattle.olap_grammar.specs.Nodes.{nodes_of}
use Rattle.olap_grammar.specs.declared.tokens.Token.{Token}
use Rattle.olap_grammar.specs.declared.tokens.Version.{Version}

-- these tokens are found exactly if the line is cut into them
abbrev pub FoundAsCut : Type 0
FoundAsCut = (v : Version) (line : List ℕ) (ts : List Token) → (tokens_of v line ≡ Some ts) ↔ IsCut v line ts

-- this formula is found exactly if the tokens are a formula with this tree
abbrev pub FoundAsFormula : Type 0
FoundAsFormula = (a : Atoms Form) (ts : List Token) (f : Form) → (the_formula a ts ≡ Some f) ↔ IsFormula a 1 ts f

-- a line is cut in at most one way
abbrev pub IsOneCut : Type 0
IsOneCut = (v : Version) (line : List ℕ) (ts us : List Token) → IsCut v line ts → IsCut v line us → ts ≡ us

-- tokens are at most one formula
abbrev pub IsOneTree : Type 0
IsOneTree = (a : Atoms Form) (ts : List Token) (f g : Form) → IsFormula a 1 ts f → IsFormula a 1 ts g → f ≡ g

-- a formula in which too many brackets are never open has few tokens for its nodes
abbrev pub HasFewTokens : Type 0
HasFewTokens =
    (v : Version) (a : Atoms Form) (ts : List Token) (f : Form) → IsFormula a 1 ts f → opens_over 0 0 ts ≡ false
    → length ts ≤ most_tokens (nodes_of v ts)
