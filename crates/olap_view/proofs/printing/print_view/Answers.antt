-- The printed text reads back.
use Rattle.std.proofs.Common.{◌∙◌, ◌++◌, ℕ, List, ap}
use Rattle.olap_records.specs.Records.{records_of}
use Rattle.olap_view.{proofs.PrintingLemmas.view-reads, specs.Seen.view_of, specs.ViewText.view_text}
use Rattle.olap_view.proofs.printing.print_view.Goals as goal

pub returns-clause-reads : goal.returns-clause-reads
returns-clause-reads c =
    let text = view_text c.args.instance.now (view_of c.args.view.now) in
    ap records_of (c.from_vec.ensures ∙ c.in_ok-bytes.ensures ∙ ap (λ (t : List ℕ). t ++ text) c.new.ensures.items)
    ∙ view-reads c.args.instance.now (view_of c.args.view.now)
