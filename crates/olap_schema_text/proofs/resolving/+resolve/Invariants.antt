-- The formulas so far, before those of the parts that are left, are the list. The measure is the size of what is gone
-- through.
use Rattle.std.proofs.Common.{◌≡◌, ◌≤◌, ◌+◌, ◌*◌, Ok, map}
use Rattle.olap_ast.specs.{Listing.parts_before, Trees.formula_of}
use Rattle.olap_grammar.specs.Shown.{form_of, forms_of}
use Rattle.olap_schema_text.{proofs.ResolvedLemmas.{nodes_in, nodes_in_all}, specs.Known.graph_seen}
use Rattle.olap_schema_text.specs.Resolving.{all_resolved}
use Rattle.olap_base.specs.Following.{goes_on}
use Rattle.olap_schema_text.proofs.resolving.+resolve.Given as goal

abbrev pub decreases-resolve : goal.decreases-resolve
decreases-resolve l = 2 * nodes_in (form_of l.form.now)

abbrev pub decreases-resolve_part : goal.decreases-resolve_part
decreases-resolve_part l = 2 * nodes_in (form_of l.form.now) + 1

abbrev pub decreases-resolve_all : goal.decreases-resolve_all
decreases-resolve_all l = 2 * nodes_in_all (forms_of l.forms.now) + 1

abbrev pub invariant-resolve_all-parts : goal.invariant-resolve_all-parts
invariant-resolve_all-parts l = record {
  so_far :
      all_resolved (graph_seen l.known) l.root.0 (forms_of l.fn.forms)
      ≡ goes_on (all_resolved (graph_seen l.known) l.root.0 (forms_of l.left))
      (λ terms. Ok (parts_before (map formula_of l.parts.items) terms));
  smaller : nodes_in_all (forms_of l.left) ≤ nodes_in_all (forms_of l.fn.forms);
}
