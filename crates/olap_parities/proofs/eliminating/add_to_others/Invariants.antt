-- The rows so far add up to nothing where they did.
use Rattle.std.{proofs.Common.{ℕ, Bool}, specs.Prelude.All}
use Rattle.olap_parities.specs.Rows.{IsZero}
use Rattle.olap_parities.proofs.eliminating.add_to_others.Given as goal

abbrev pub invariant-rows : goal.invariant-rows
invariant-rows g l = (w : ℕ → Bool) → IsZero w l.row → All (IsZero w) l.fn.rows → All (IsZero w) l.rows
