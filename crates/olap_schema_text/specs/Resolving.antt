-- The names of a formula, looked up in a graph from the left: the formula at a root, or its first fault.
--     given, goes_on    go on with a value that may be there, and with a result
--     known             goes on with the category of a name
--     atom_read         an atom
--     resolved          a formula
use Rattle.std.specs.Prelude.{◌==◌, ◌||◌, ℕ, Bool, false, not, List, [], ◌∷◌, Option, Some, None, Result, Ok, Err, is_some, option_and_then, if◌then◌else◌, codes}
use Rattle.std.specs.List.{list_any}
use Rattle.std.specs.Option.{option_map}
use Rattle.olap_ast.specs.Formula as Meaning
use Rattle.olap_ast.specs.Formula.{Formula, Terms}
use Rattle.olap_base.specs.Following.{given, goes_on}
use Rattle.olap_base.specs.Graph.{Graph, is_number}
use Rattle.olap_graph.specs.Lookups.{category_named, edge_between}
use Rattle.olap_numerals.specs.Numerals.{number_of}
use Rattle.olap_grammar.specs.Forms as words
use Rattle.olap_grammar.specs.Forms.{Atom, Form, Forms}
use Rattle.olap_grammar.specs.declared.tokens.Joint.{Joint}
use Rattle.olap_grammar.specs.declared.tokens.Joint.TheVariants as joint

-- ---- atoms

-- goes on with the category of this name; else `UnknownCategory`
abbrev pub known : {B : Type 0} → Graph → List ℕ → (ℕ → Result B (List ℕ)) → Result B (List ℕ)
known g name next = given (category_named g name) (codes "UnknownCategory") next

-- goes on if the first category that an atom names is the root; else `MixedRoot`
abbrev pub at_root : {B : Type 0} → ℕ → ℕ → Result B (List ℕ) → Result B (List ℕ)
at_root root c read = if c == root then read else Err (codes "MixedRoot")

-- goes on with the last of an atom's two categories, if the first is the root
abbrev pub ends_read : Graph → ℕ → List ℕ → List ℕ → (ℕ → Result Formula (List ℕ)) → Result Formula (List ℕ)
ends_read g root first last next = known g first (λ c. known g last (λ d. at_root root c (next d)))

-- the categories of these names, if each is one's
unfoldable pub categories_of : Graph → List (List ℕ) → Option (List ℕ)
categories_of g [] = Some []
categories_of g (n ∷ ns) =
    option_and_then (λ c. option_map (λ cs. c ∷ cs) (categories_of g ns)) (category_named g n)

-- some category stands in the list twice
unfoldable pub is_repeated : List ℕ → Bool
is_repeated [] = false
is_repeated (c ∷ cs) = list_any (λ d. d == c) cs || is_repeated cs

-- on the way from c through these categories, some step isn't an edge
unfoldable pub lacks_edge : Graph → ℕ → List ℕ → Bool
lacks_edge g c [] = false
lacks_edge g c (d ∷ ds) = not (is_some (edge_between g c d)) || lacks_edge g d ds

-- a path from the root through these categories
abbrev pub path_read : Graph → ℕ → List ℕ → Result Formula (List ℕ)
path_read g root cs =
    if is_repeated (root ∷ cs) then Err (codes "RepeatedCategory")
    else if lacks_edge g root cs then Err (codes "NotAnEdge")
    else Ok (Meaning.Formula.Path cs)

-- a text is compared with a category of texts, and a number with a category of numbers
abbrev pub atom_read : Graph → ℕ → Atom → Result Formula (List ℕ)
atom_read g root words.Atom.Truth = Ok Meaning.Formula.Truth
atom_read g root words.Atom.Falsity = Ok Meaning.Formula.Falsity
atom_read g root (words.Atom.Path first names) =
    known g first (λ c.
    given (categories_of g names) (codes "UnknownCategory") (λ cs. at_root root c (path_read g root cs)))
atom_read g root (words.Atom.Reach first last) = ends_read g root first last (λ d. Ok (Meaning.Formula.Reach d))
atom_read g root (words.Atom.Via first middle last) =
    known g first (λ c. known g middle (λ d. known g last (λ e. at_root root c (Ok (Meaning.Formula.Via d e)))))
atom_read g root (words.Atom.Equals first last text) =
    ends_read g root first last
    (λ d. if is_number g d then Err (codes "WrongNames") else Ok (Meaning.Formula.Equals d text))
atom_read g root (words.Atom.Compare first last op digits) =
    ends_read g root first last (λ d. if is_number g d
    then given (number_of digits) (codes "BadNumber") (λ n. Ok (Meaning.Formula.Compare d op n))
    else Err (codes "WrongNames"))

-- ---- formulas

-- the formula of two with a connective between them
abbrev pub join : Joint → Formula → Formula → Formula
join joint.Iff f g = Meaning.Formula.Iff f g
join joint.Implies f g = Meaning.Formula.Implies f g
join joint.Xor f g = Meaning.Formula.Xor f g
join joint.Or f g = Meaning.Formula.Or f g
join joint.And f g = Meaning.Formula.And f g

abbrev mutual
  -- the formula at the root, or the fault of its first atom that has one
  pub resolved : Graph → ℕ → Form → Result Formula (List ℕ)
  resolved g root (words.Form.Of a) = atom_read g root a
  resolved g root (words.Form.Not f) = goes_on (resolved g root f) (λ x. Ok (Meaning.Formula.Not x))
  resolved g root (words.Form.Joined j f h) =
      goes_on (resolved g root f) (λ x. goes_on (resolved g root h) (λ y. Ok (join j x y)))
  resolved g root (words.Form.One fs) = goes_on (all_resolved g root fs) (λ xs. Ok (Meaning.Formula.One xs))

  -- the parts of `one(..)`
  pub all_resolved : Graph → ℕ → Forms → Result Terms (List ℕ)
  all_resolved g root words.Forms.End = Ok Meaning.Terms.End
  all_resolved g root (words.Forms.More f fs) =
      goes_on (resolved g root f) (λ x. goes_on (all_resolved g root fs) (λ xs. Ok (Meaning.Terms.More x xs)))
