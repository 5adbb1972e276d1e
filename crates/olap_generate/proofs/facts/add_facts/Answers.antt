use Rattle.std.proofs.Common.{◌+◌, arith, refl}
use Rattle.olap_generate.{proofs.TextLemmas.rows_more, specs.Members.fact_row}
use Rattle.olap_generate.proofs.facts.add_facts.Goals as goal

pub facts-preserved : goal.facts-preserved
facts-preserved c =
    let row = fact_row c.args.input.now.seed in
    let i = c.facts.k + 1 in
    record {
      text = rows_more row 1 c.facts.k i (omega arith) c.args.out.now.text c.facts.out.text c.add.new.out.text (row i)
          refl c.facts.invariant.text c.in_ok-add.ensures.text;
      width = c.in_ok-add.ensures.width;
    }
