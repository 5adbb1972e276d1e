-- By the kind of formula.
use Rattle.std.proofs.Common.{true, false}
use Rattle.olap_encoding.proofs.SplittingLemmas.{conjuncts_of_and, conjuncts_of_or, conjuncts_of_implies, conjuncts_as}
use Rattle.olap_encoding.proofs.splitting.conjuncts_of.Goals.{in-And-true, in-Or-false, in-Implies-false}
use Rattle.olap_encoding.proofs.splitting.conjuncts_of.Goals as goal

pub returns : goal.returns
returns c = elim c.match-f.branch [
  | in-And-true w ↦ conjuncts_as c.args.holds true p.1 p.3 w.in-And-true.is-1 w.in-And-true.is-0 c.deref.ensures
      c.deref-2.ensures (rw w.first_holds-is (conjuncts_of_and _ _))
  | in-Or-false w ↦ conjuncts_as c.args.holds false p.1 p.3 w.in-Or-false.is-1 w.in-Or-false.is-0 c.deref.ensures
      c.deref-2.ensures (rw w.first_holds-is (conjuncts_of_or _ _))
  | in-Implies-false w ↦ conjuncts_as c.args.holds false p.1 p.3 w.in-Implies-false.is-1 w.in-Implies-false.is-0
      c.deref.ensures c.deref-2.ensures (rw w.first_holds-is (conjuncts_of_implies _ _))
]
  where
    open c use {match-f.first_holds as p}
