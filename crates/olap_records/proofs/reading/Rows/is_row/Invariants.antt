use Rattle.std.proofs.Common.{◌≡◌, ℕ, ◌<◌, get_or, map, []}
use Rattle.olap_records.proofs.reading.Rows.is_row.Given as goal

abbrev pub invariant-fields : goal.invariant-fields
invariant-fields l = (k : ℕ) → k < l.i → get_or l.self.row k [] ≡ get_or (map (λ f. f.now) l.fields) k []
