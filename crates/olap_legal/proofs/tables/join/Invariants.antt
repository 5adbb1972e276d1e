-- The places of the cells so far are joined, and the others as they were.
use Rattle.std.proofs.Common.{◌≡◌, ◌≢◌, ℕ, ◌<◌, get_or}
use Rattle.olap_legal.specs.Joining.{IsEither}
use Rattle.olap_legal.proofs.tables.join.Given as goal

abbrev pub invariant-places : goal.invariant-places
invariant-places l = record {
  joined : (j : ℕ) → j < l.k → IsEither (get_or l.fn.row (get_or l.reached j 0) 0) (get_or l.cells j 0)
      (get_or l.row (get_or l.reached j 0) 0);
  others : (d : ℕ) → ((j : ℕ) → j < l.k → get_or l.reached j 0 ≢ d) → get_or l.row d 0 ≡ get_or l.fn.row d 0;
}
