-- A part more is resolved.
use Rattle.std.proofs.Common.{◌∙◌, ap, arith, sym}
use Rattle.olap_grammar.specs.{Shown.{form_of, forms_of}, declared.forms.Form.Form, declared.forms.Forms.Forms}
use Rattle.olap_schema_text.{proofs.ListingLemmas.part_on, proofs.ResolvedLemmas.nodes_in_all, specs.Known.graph_seen}
use Rattle.olap_schema_text.specs.Resolving.{all_resolved, resolved}
use Rattle.olap_schema_text.proofs.resolving.+resolve.Goals as goal

pub resolve_all-parts-preserved : goal.resolve_all-parts-preserved
resolve_all-parts-preserved t c =
    let g = graph_seen c.args.known.now in
    let size = ap (λ (z : Forms). nodes_in_all (forms_of z)) c.in-More.is in
    let rest = ap (λ (z : Forms). nodes_in_all (forms_of z)) c.deref-left.ensures in
    record {
      so_far = part_on _ _ _ _ _ c.parts.parts.items _ c.in_ok-resolve.field-0 c.parts.invariant.so_far
          (ap (λ (z : Forms). all_resolved g c.args.root.0 (forms_of z)) c.in-More.is)
          (ap (λ (z : Form). resolved g c.args.root.0 (form_of z)) (sym c.deref.ensures) ∙ c.in_ok-resolve.ensures)
          (ap (λ (z : Forms). all_resolved g c.args.root.0 (forms_of z)) c.deref-left.ensures)
          c.in_ok-push.ensures.items;
      smaller = omega (arith, c.parts.invariant.smaller, size, rest);
    }
