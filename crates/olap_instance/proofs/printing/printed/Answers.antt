use Rattle.std.proofs.Common.{◌<◌, length, arith}
use Rattle.olap_instance.{proofs.PrintingLemmas.rows-more, specs.InstanceText.header, specs.Printing.member_fields}
use Rattle.olap_instance.proofs.printing.printed.Goals as goal

pub others-preserved : goal.others-preserved
others-preserved c =
    let i = c.args.instance.now in
    let count = c.members-m-end.ensures.count in
    let within : c.others.m < length i = let l = c.others-test.true in omega arith in
    record {
      text = rows-more header (member_fields c.args.graph.now i) i c.others.m c.others.out.text
          c.print_member.new.out.text within c.others.invariant.text c.in_ok-print_member.ensures.text;
      width = c.in_ok-print_member.ensures.width;
    }
