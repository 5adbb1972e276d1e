use Rattle.olap_plain.proofs.viewing.+through.Given as goal

abbrev pub decreases-through : goal.decreases-through
decreases-through l = l.k
