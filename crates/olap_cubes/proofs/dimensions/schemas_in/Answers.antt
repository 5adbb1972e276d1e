use Rattle.std.proofs.{Common.{◌≡◌, ◌+◌, [], ◌∷◌, ◌++◌, Err, ap, arith, get_or, length, ◌∙◌}, lemmas.List.length_push}
use Rattle.olap_cube_summ.specs.Dimensions.{schemas_of}
use Rattle.olap_order.{proofs.SourceLemmas.word_is, specs.Words.texts}
use Rattle.olap_schema.specs.Schemas.{schema_of}
use Rattle.olap_cubes.proofs.DimensionLemmas.{schemas_end, schemas_from}
use Rattle.olap_cubes.proofs.FilesLemmas.{as_read, read_all, read_ends, read_more, read_wants}
use Rattle.olap_cubes.proofs.dimensions.schemas_in.Goals as goal

pub returns-in_err-schema-clause-step : goal.returns-in_err-schema-clause-step
returns-in_err-schema-clause-step g c =
    let file : c.as_str.result.now ≡ get_or (texts files) k [] = c.as_str.ensures.value
    ∙ word_is files k c.index-files-k.result c.files-test.true c.index-files-k.is in
    read_ends c.files.invariant.read c.from_residual.result c.in_err-schema.field-0.0 c.from_residual.ensures.1
    (schemas_from files k (schemas_of c.files.cube) c.files-test.true) (rw file at c.in_err-schema.ensures.step)
  where
    open c use {files.k, args.files.now as files}

pub returns-in-Err-clause-step : goal.returns-in-Err-clause-step
returns-in-Err-clause-step g c =
    read_wants c.files.invariant.read (Err c.from.result) c.in_ok-schema.ensures.step c.from.ensures

pub files-preserved : goal.files-preserved
files-preserved g c =
    let file : c.as_str.result.now ≡ get_or (texts files) k [] = c.as_str.ensures.value
    ∙ word_is files k c.index-files-k.result c.files-test.true c.index-files-k.is in
    let more : schemas_of c.push.new.self ≡ schemas_of c.files.cube ++ schema_of schema ∷ [] = c.in-Ok.ensures.ok in
    record {
      read = read_more c.files.invariant.read (schemas_from files k (schemas_of c.files.cube) c.files-test.true)
          (rw file at c.in_ok-schema.ensures.step) more;
      each = ap length more ∙ length_push (schemas_of c.files.cube) (schema_of schema)
          ∙ ap (λ n. n + 1) c.files.invariant.each;
    }
  where
    open c use {files.k, in_ok-schema.schema, args.files.now as files}

pub returns-clause-step : goal.returns-clause-step
returns-clause-step g c = as_read c.files.cube (read_all c.files.invariant.read
    (schemas_end c.args.files.now c.files.k (schemas_of c.files.cube) (omega arith)))
