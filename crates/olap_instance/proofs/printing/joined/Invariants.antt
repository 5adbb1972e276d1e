use Rattle.std.{proofs.Common.{◌≡◌, map, take}, specs.List.join_with_byte}
use Rattle.olap_base.specs.{Bytes.semicolon, Instance.member_at}
use Rattle.olap_instance.proofs.printing.joined.Given as goal

abbrev pub invariant-members : goal.invariant-members
invariant-members l = l.text.items
    ≡ join_with_byte semicolon (take l.i (map (λ m. (member_at l.instance m.0).id) l.members))
