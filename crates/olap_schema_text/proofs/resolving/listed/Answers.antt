use Rattle.std.proofs.{Common.arith, lemmas.Grind.common_steps}
use Rattle.olap_ast.{proofs.ListingLemmas.parts_before-push, specs.Trees.terms_of}
use Rattle.olap_schema_text.proofs.resolving.listed.Goals as goal

pub parts-preserved : goal.parts-preserved
parts-preserved c = let pushed = parts_before-push c.pop.new.self.items c.in-Some.f (terms_of c.parts.terms) in
    grind (arith, common_steps, pushed)
