use Rattle.std.{proofs.Common.{◌≡◌, take, map}, specs.Prelude.flat_map}
use Rattle.olap_ast.specs.{Atoms.{comparisons, numbers_on}, Trees.constraint_of}
use Rattle.olap_names.proofs.candidates.numbers_of.Given as goal

abbrev pub invariant-constraints : goal.invariant-constraints
invariant-constraints l = let before = map constraint_of (take l.constraint-index l.constraints) in
    l.numbers.items ≡ numbers_on l.c.0 (flat_map (λ c. comparisons c.formula) before)
