use Rattle.std.proofs.Common.{◌∙◌}
use Rattle.olap_instance.proofs.RosterLemmas.{kept-more, new-last, members-more}
use Rattle.olap_instance.specs.declared.rosters.Roster.TheInside.{Inside}
use Rattle.olap_instance.proofs.rosters.Roster.add.Goals as goal

pub invariant_of-self-2 : goal.invariant_of-self-2
invariant_of-self-2 c =
    let last = new-last a c.self.invariant key c.args.id.now c.in_ok-key.ensures
    (rw (← c.self.view_is) at c.requires.absent) in
    kept-more a c.self.invariant _ key c.args.category c.args.name.now (added.ids ∙ last) added.categories added.names
    (rw (← c.self.view_is) at c.requires.room)
  where
    open c use {self.inside as a, in_ok-key.key, in_ok-add_entry.ensures as added}

pub returns-clause-ok : goal.returns-clause-ok
returns-clause-ok c =
    let last = new-last a c.self.invariant key c.args.id.now c.in_ok-key.ensures
    (rw (← c.self.view_is) at c.requires.absent) in
    let now : Inside = record {
      ids = c.add_entry.new.ids;
      categories = c.add_entry.new.categories;
      names = c.add_entry.new.names;
      alloc = a.alloc;
    } in
    rw (← c.self.view_is, ← c.in_ok-key.ensures)
    (members-more a c.self.invariant now key c.args.category c.args.name.now (added.ids ∙ last) added.categories
    added.names)
  where
    open c use {self.inside as a, in_ok-key.key, in_ok-add_entry.ensures as added}
