-- This many instances are read, and legal.
use Rattle.std.proofs.Common.{◌≡◌, ◌+◌, [], drop, length, take}
use Rattle.olap_cube.specs.CubeSummarizable.{graphs_of}
use Rattle.olap_cube_views.specs.Dimensions.{AreMadeFor, categories_in, instances_in}
use Rattle.olap_cube_summ.specs.Dimensions.{schemas_of}
use Rattle.olap_order.specs.Words.{texts}
use Rattle.olap_view.specs.Seen.{ids}
use Rattle.olap_cubes.{proofs.FilesLemmas.AreReadTo, specs.Cut.legal_files_from}
use Rattle.olap_cubes.proofs.dimensions.add_columns.Given as goal

abbrev pub invariant-files : goal.invariant-files
invariant-files g l = record {
  read : AreReadTo g.L.Library l.fn.lib (legal_files_from 1 [] (schemas_of l.cube) (texts l.files))
      (λ k read. legal_files_from (k + 1) read (drop k (schemas_of l.cube)) (drop k (texts l.files))) l.k l.lib
      (instances_in l.columns);
  each : length l.columns ≡ l.k;
  made : AreMadeFor (take l.k (graphs_of (schemas_of l.cube))) (instances_in l.columns);
  categories : categories_in l.columns ≡ ids (take l.k l.target);
}
