use Rattle.olap_reading.proofs.TellingLemmas.{judged_is}
use Rattle.olap_reading.proofs.telling.check_laws.Goals as goal

pub returns-clause-judged : goal.returns-clause-judged
returns-clause-judged c =
    judged_is _ c.args.members c.members-count.ensures.sound c.requires c.check.result c.check.ensures.ok
    c.check.ensures.err
