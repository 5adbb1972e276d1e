-- One part more.
use Rattle.olap_encoding.proofs.Growing.{known_still, says_still, next_on}
use Rattle.olap_encoding.proofs.formulas.one_more.Goals as goal

pub any-requires-clause-first : goal.any-requires-clause-first
any-requires-clause-first c = known_still c.in_ok-again.ensures.next.later c.args.twice c.requires.twice

pub any-requires-2-clause-first : goal.any-requires-2-clause-first
any-requires-2-clause-first c =
    known_still (next_on c.in_ok-again.ensures.next c.in_ok-more.ensures.next).later c.args.once c.requires.once

pub any-requires-2-clause-second : goal.any-requires-2-clause-second
any-requires-2-clause-second c =
    known_still (next_on c.in_ok-again.ensures.next c.in_ok-more.ensures.next).later c.args.l c.requires.part

pub returns-clause-next : goal.returns-clause-next
returns-clause-next c =
    next_on c.in_ok-again.ensures.next (next_on c.in_ok-more.ensures.next c.in_ok-some.ensures.next)

pub returns-clause-twice : goal.returns-clause-twice
returns-clause-twice c =
    let some = c.in_ok-some.ensures.next in (
      c.in_ok-again.again,
      says_still (next_on c.in_ok-more.ensures.next some).later c.in_ok-again.ensures.says,
      says_still some.later c.in_ok-more.ensures.says,
    )
