-- Parts put before others: how a list of parts is copied.
use Rattle.std.specs.Prelude.{List, [], ◌∷◌}
use Rattle.olap_ast.specs.Formula.{Formula, Terms, Terms.More}

-- the parts, and then these
abbrev pub parts_before : List Formula → Terms → Terms
parts_before [] terms = terms
parts_before (f ∷ fs) terms = More f (parts_before fs terms)
