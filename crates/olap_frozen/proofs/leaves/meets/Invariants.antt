use Rattle.std.{proofs.Common.{◌≡◌, true, map, take}, specs.Prelude.Contains}
use Rattle.olap_ast.specs.{Formula.Holds, Schema.Constraint, Trees.constraint_of}
use Rattle.olap_frozen.specs.Leaves.{leaf_instance, leaf_present, leaf_place}
use Rattle.olap_frozen.proofs.leaves.meets.Given as goal

abbrev pub invariant-constraints : goal.invariant-constraints
invariant-constraints l = (k : Constraint)
    → Contains (map constraint_of (take l.constraint-index l.constraints)) k
    → leaf_present l.leaf.graph.now l.leaf.root.0 l.leaf.edges.now k.root ≡ true
    → Holds (leaf_instance l.leaf.graph.now l.leaf.candidates.now l.leaf.root.0 l.leaf.edges.now l.leaf.names.now)
    (leaf_place l.leaf.graph.now l.leaf.root.0 l.leaf.edges.now k.root) k.formula
