use Rattle.std.proofs.Common.{◌≡◌, ℕ, ◌<◌, ◌≤◌, false, get_or}
use Rattle.olap_plain.proofs.searching.clear.Given as goal

abbrev pub invariant-places : goal.invariant-places
invariant-places l = record {
  kept : (k : ℕ) → k < l.from → get_or l.edges k false ≡ get_or l.initial.edges k false;
  cleared : (k : ℕ) → l.from ≤ k → k < l.e → get_or l.edges k false ≡ false;
}
