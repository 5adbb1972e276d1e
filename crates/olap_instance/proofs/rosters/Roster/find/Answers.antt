use Rattle.std.proofs.Common.{◌∙◌, sym}
use Rattle.olap_instance.proofs.RosterLemmas.{place-is}
use Rattle.olap_instance.proofs.rosters.Roster.find.Goals as goal

pub returns-in-Some : goal.returns-in-Some
returns-in-Some c = rw (← c.self.view_is)
    (sym c.in-Some.is ∙ c.get_index_of.ensures.index ∙ place-is c.self.inside c.self.invariant c.args.id.now)

pub returns-in-None : goal.returns-in-None
returns-in-None c = rw (← c.self.view_is)
    (sym c.in-None.is ∙ c.get_index_of.ensures.index ∙ place-is c.self.inside c.self.invariant c.args.id.now)
