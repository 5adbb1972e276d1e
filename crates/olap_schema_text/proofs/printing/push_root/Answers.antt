use Rattle.std.proofs.Common.{codes}
use Rattle.olap_graph.specs.Lookups.{name_of_category}
use Rattle.olap_schema_text.proofs.PrintLemmas.{three_texts}
use Rattle.olap_schema_text.proofs.printing.push_root.Goals as goal

pub returns : goal.returns
returns c =
    three_texts (codes "constraint ") (name_of_category c.args.graph.now c.args.root.0)
    (codes ": ") c.name.result.now _ _ _ _ c.extend_from_slice-3.result
    c.in_ok-extend_from_slice.ensures.items c.name.ensures c.in_ok-extend_from_slice-2.ensures.items
    c.extend_from_slice-3.ensures.items
