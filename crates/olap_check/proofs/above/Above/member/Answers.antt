-- The table has a place exactly for a member that is reached.
use Rattle.olap_check.proofs.AboveLemmas.{if_some_map, member_is, present_reaches}
use Rattle.olap_check.proofs.above.Above.member.Goals as goal

pub returns-then-c-self-clause-some : goal.returns-then-c-self-clause-some
returns-then-c-self-clause-some c =
    let s = c.args.self.now in
    if_some_map c.ancestor.result _ _ (member_is s.instance.now s.categories s.x c.args.c s.table.now s.sound)
    c.ancestor.ensures.some

pub returns-then-c-self-clause-none : goal.returns-then-c-self-clause-none
returns-then-c-self-clause-none c = λ e p.
    let s = c.args.self.now in
    c.ancestor.ensures.none e (present_reaches s.instance.now s.categories s.x c.args.c s.table.now s.sound p)
