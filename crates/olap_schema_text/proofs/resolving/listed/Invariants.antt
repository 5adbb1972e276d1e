-- The parts that are left, before those taken so far, are the list.
use Rattle.std.{proofs.Common.{◌≡◌, map}, specs.Prelude.vec_len}
use Rattle.olap_ast.specs.{Listing.parts_before, Trees.{formula_of, terms_of}}
use Rattle.olap_ast.specs.Formula as Meaning
use Rattle.olap_schema_text.proofs.resolving.listed.Given as goal

abbrev pub invariant-parts : goal.invariant-parts
invariant-parts l =
    parts_before (map formula_of l.left.items) (terms_of l.terms)
    ≡ parts_before (map formula_of l.fn.parts.items) Meaning.Terms.End

abbrev pub decreases-parts : goal.decreases-parts
decreases-parts l = vec_len l.left
