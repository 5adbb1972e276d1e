use Rattle.std.proofs.Common.{map}
use Rattle.olap_ast.specs.Trees.{constraint_of, formula_of}
use Rattle.olap_names.{proofs.CandidateLemmas.AreListed, specs.Names.atoms}
use Rattle.olap_names.proofs.candidates.all_constants.Given as goal

abbrev pub invariant-categories : goal.invariant-categories
invariant-categories l = AreListed (atoms (map constraint_of l.constraints) (formula_of l.question)) l.c l.texts.items
