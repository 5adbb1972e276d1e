-- The rows add up to nothing where they did.
use Rattle.std.{proofs.Common.{ℕ, Bool}, specs.Prelude.All}
use Rattle.olap_parities.specs.Rows.{IsZero}
use Rattle.olap_parities.proofs.eliminating.eliminate.Given as goal

abbrev pub invariant-columns : goal.invariant-columns
invariant-columns g l = (w : ℕ → Bool) → All (IsZero w) l.fn.rows → All (IsZero w) l.rows
