use Rattle.olap_frozen.specs.Rows.{ReachAll}
use Rattle.olap_frozen.proofs.sound.tops.Given as goal

abbrev pub invariant-categories : goal.invariant-categories
invariant-categories l = ReachAll l.rows l.root.0 l.c
