use Rattle.std.proofs.{Common.{sym, length}, lemmas.List.length-map}
use Rattle.olap_plain.{proofs.PlainLemmas.reaches_by_through, specs.Plain.{instance_of, member_of}}
use Rattle.olap_plain.proofs.viewing.reaches.Goals as goal

pub returns : goal.returns
returns c = reaches_by_through (instance_of c.args.members.now) (length c.args.members.now) c.args.x c.args.y
    c.through.result (sym (length-map c.args.members.now member_of)) c.through.ensures
