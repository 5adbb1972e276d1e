-- This many names are known.
use Rattle.olap_cube_summ.specs.Dimensions.{schemas_of}
use Rattle.olap_ast.specs.Trees.{numbers_of}
use Rattle.olap_cubes.proofs.NameLemmas.{AreNamedTo}
use Rattle.olap_cubes.proofs.naming.named.Given as goal

abbrev pub invariant-names : goal.invariant-names
invariant-names l = AreNamedTo (schemas_of l.cube) l.names l.k (numbers_of l.categories.items)
