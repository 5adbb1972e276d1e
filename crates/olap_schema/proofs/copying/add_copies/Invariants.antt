-- The constraints so far are added.
use Rattle.std.proofs.Common.{◌≡◌, ◌++◌, map, take}
use Rattle.olap_ast.specs.Trees.{constraint_of}
use Rattle.olap_schema.proofs.copying.add_copies.Given as goal

abbrev pub invariant-constraints : goal.invariant-constraints
invariant-constraints l =
    map constraint_of l.copied.items
    ≡ map constraint_of l.fn.copied.items ++ map constraint_of (take l.constraint-index l.constraints)
