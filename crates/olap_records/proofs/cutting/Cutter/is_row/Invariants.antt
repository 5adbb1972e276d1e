use Rattle.olap_records.specs.CutterInside.{row_of}
use Rattle.std.proofs.Common.{◌≡◌, ℕ, ◌<◌, get_or, map, []}
use Rattle.olap_records.proofs.cutting.Cutter.is_row.Given as goal

abbrev pub invariant-fields : goal.invariant-fields
invariant-fields l = (k : ℕ) → k < l.i → get_or (row_of l.self) k [] ≡ get_or (map (λ f. f.now) l.fields) k []
