-- Nobody is lost on the way.
use Rattle.olap_clauses.proofs.engine.Engine.make_ready.Goals as goal

pub returns-clause-admits : goal.returns-clause-admits
returns-clause-admits c = λ v a. let n = b.admits v (f.admits v a) in
    (w.admits v (s.admits v (m.admits v n.0)), n.1, n.2)
  where
    open c use {fill.ensures as f, bring.ensures as b, make_room.ensures as m, simplify.ensures as s, show.ensures as w}
