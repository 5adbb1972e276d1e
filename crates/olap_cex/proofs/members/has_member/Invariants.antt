-- No edge before this one has the category as an end.
use Rattle.std.proofs.Common.{◌≡◌, ℕ, ◌<◌, true, false, get_or}
use Rattle.olap_cex.{proofs.PresentLemmas.nowhere, specs.Present.has_end}
use Rattle.olap_cex.proofs.members.has_member.Given as goal

abbrev pub invariant-edges : goal.invariant-edges
invariant-edges l =
    (i : ℕ) → i < l.e → get_or l.edges i false ≡ true → has_end l.c.0 (get_or l.graph.edges i nowhere) ≡ true → ⊥
