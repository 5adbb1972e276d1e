-- One decision more, or none if there is no memory.
use Rattle.std.proofs.Common.{◌≡◌, List, None, ap, map, subst, sym}
use Rattle.olap_proof.{proofs.KeptWayLemmas.{absent_written, there_written}, specs.KeptTables.AreTables}
use Rattle.olap_proof.specs.{KeptWays.way_kept, Places.{Way, way_of}}
use Rattle.olap_proof.proofs.ways.Ways.push.Goals as goal

pub invariant_of-self : goal.invariant_of-self
invariant_of-self c =
    let a = c.self.inside in
    subst (λ (ws : List Way). AreTables a.there.items a.absent.items ws)
    (sym (ap (map way_kept) c.in_err-push.ensures.items)) c.self.invariant

pub invariant_of-self-then-way : goal.invariant_of-self-then-way
invariant_of-self-then-way c =
    let w = c.args.way in
    let none = subst (λ (ws : List Way). way_of ws w.child.0 w.parent.0 ≡ None) (sym c.self.view_is) c.requires.open in
    there_written c.self.inside.list.items w c.put.new.rows c.self.invariant c.in_ok-push.ensures.items
    c.requires.child c.requires.parent none c.if-way.true c.deref_mut.ensures.value c.deref_mut.ensures.len
    c.put.ensures.count c.put.ensures.put

pub invariant_of-self-else-way : goal.invariant_of-self-else-way
invariant_of-self-else-way c =
    let w = c.args.way in
    let none = subst (λ (ws : List Way). way_of ws w.child.0 w.parent.0 ≡ None) (sym c.self.view_is) c.requires.open in
    absent_written c.self.inside.list.items w c.put-else-way.new.rows c.self.invariant c.in_ok-push.ensures.items
    c.requires.child c.requires.parent none c.if-way.false c.deref_mut-else-way.ensures.value
    c.deref_mut-else-way.ensures.len c.put-else-way.ensures.count c.put-else-way.ensures.put
