use Rattle.std.proofs.Common.{◌++◌, ◌+◌, ◌<◌, Bool, List, ℕ, [], false, arith, ap, slice_index_or, subst, sym, ◌∙◌}
use Rattle.std.specs.Prelude.{zip}
use Rattle.olap_base.specs.Graph.{is_number}
use Rattle.olap_schema_text.proofs.PrintLemmas.{declared_kind, declared_name, next_line, no_more, zip_at, zip_length}
use Rattle.olap_schema_text.specs.Printing.{category_text, ended_line}
use Rattle.olap_schema_text.proofs.printing.push_categories.Goals as goal

pub categories-preserved : goal.categories-preserved
categories-preserved c =
    let kinds = c.categories-count.ensures.hierarchy.kinds_known in
    let write : List ℕ × Bool → List ℕ = λ d. c.categories.out.items ++ ended_line (category_text d) in
    let written = c.in_ok-push_category.ensures
    ∙ ap (λ name. write (name, is_number g (k + 1))) (declared_name g k)
    ∙ ap (λ number. write (slice_index_or g.names k [], number)) (declared_kind g k)
    ∙ ap write (sym (zip_at g.names g.numbers k [] false kinds)) in
    record {
      written =
          next_line category_text (zip g.names g.numbers) k ([], false) _ _ _
          (subst (λ n. k < n) (sym (zip_length g.names g.numbers kinds)) (omega (arith, c.categories-test.true)))
          c.categories.invariant.written written;
      within = omega (arith, c.categories-test.true);
    }
  where
    open c use {args.graph.now as g, categories.done as k}

pub returns : goal.returns
returns c =
    let g = c.args.graph.now in
    let kinds = c.categories-count.ensures.hierarchy.kinds_known in
    no_more category_text (zip g.names g.numbers) c.categories.done _ _
    (rw (zip_length g.names g.numbers kinds) (omega (arith, c.categories-test.false))) c.categories.invariant.written
