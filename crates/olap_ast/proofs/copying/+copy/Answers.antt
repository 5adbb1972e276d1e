use Rattle.std.proofs.{Common.arith, lemmas.Grind.common_steps}
use Rattle.olap_ast.{proofs.ListingLemmas.parts_before-push, specs.Trees.terms_of}
use Rattle.olap_ast.proofs.copying.+copy.Goals as goal

pub copy_terms-parts-preserved : goal.copy_terms-parts-preserved
copy_terms-parts-preserved t c = record {
  copied = let pushed =
      parts_before-push c.parts.parts.items c.in_ok-copy.field-0 (terms_of c.in-More.rest.value) in
      grind (arith, common_steps, pushed);
  smaller = grind (arith, common_steps);
}
