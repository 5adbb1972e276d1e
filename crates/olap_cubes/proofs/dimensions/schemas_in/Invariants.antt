-- This many schemas are read.
use Rattle.std.proofs.Common.{◌≡◌, ◌+◌, [], drop, length}
use Rattle.olap_cube_summ.specs.Dimensions.{schemas_of}
use Rattle.olap_order.specs.Words.{texts}
use Rattle.olap_cubes.{proofs.FilesLemmas.AreReadTo, specs.Cut.schema_files_from}
use Rattle.olap_cubes.proofs.dimensions.schemas_in.Given as goal

abbrev pub invariant-files : goal.invariant-files
invariant-files g l = record {
  read : AreReadTo g.L.Library l.fn.lib (schema_files_from 1 [] (texts l.files))
      (λ k read. schema_files_from (k + 1) read (drop k (texts l.files))) l.k l.lib (schemas_of l.cube);
  each : length (schemas_of l.cube) ≡ l.k;
}
