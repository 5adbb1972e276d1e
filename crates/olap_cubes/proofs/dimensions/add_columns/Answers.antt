-- One dimension more, or the end that its file has.
use Rattle.std.proofs.Common.{◌≡◌, ◌+◌, ◌<◌, ℕ, List, [], ◌∷◌, ◌++◌, Result, Err, ap, arith, codes, get_or, length, refl, subst, ◌∙◌}
use Rattle.std.proofs.lemmas.List.{length_push, map-append}
use Rattle.olap_ast.specs.Schema.{Schema}
use Rattle.olap_base.specs.declared.ids.CatId.{CatId}
use Rattle.olap_cube_summ.specs.Dimensions.{schemas_of}
use Rattle.olap_instance.specs.Made.{IsMadeFor}
use Rattle.olap_order.{proofs.SourceLemmas.word_is, specs.Taken.FileStep, specs.Words.texts}
use Rattle.olap_order.specs.declared.replies.Stop.{Stop}
use Rattle.olap_outside.specs.declared.outside.Library.{Ghosts as Library}
use Rattle.olap_reading.specs.Steps.{legal_file}
use Rattle.olap_view.specs.Columns.{Ascent}
use Rattle.olap_cube_views.specs.Dimensions.{instances_in}
use Rattle.olap_cubes.proofs.DimensionLemmas.{columns_more, legals_end, legals_from, made_all, made_more}
use Rattle.olap_cubes.proofs.FilesLemmas.{as_read, read_all, read_ends, read_more, read_none, read_wants}
use Rattle.olap_cubes.specs.Steps.{numbered}
use Rattle.olap_cubes.proofs.dimensions.add_columns.Goals as goal

-- what a slice of categories has past its end
nobody : CatId
nobody = record { 0 = 0 }

-- a step on a file of a schema, told in other words
step_as : {D : Type 0} {L : Library D} {old new : D} {s t : Schema} {v w : List ℕ} {result : Result Ascent Stop} (k : ℕ)
    → s ≡ t → v ≡ w
    → FileStep L old new (legal_file s (numbered (codes "instance") (k + 1)) v) (λ (a : Ascent). a.instance) result
    → FileStep L old new (legal_file t (numbered (codes "instance") (k + 1)) w) (λ (a : Ascent). a.instance) result
step_as k p q h = rw (← p, ← q) h

pub files-init : goal.files-init
files-init g c =
    rw c.requires.none (record { read = read_none _ _ _ _ refl; each = refl; made = tt; categories = refl })

pub returns-in_err-column-clause-step : goal.returns-in_err-column-clause-step
returns-in_err-column-clause-step g c =
    let there : k < length files = omega (arith, c.requires.each, c.len-k-end.ensures.count) in
    let this : k < length (schemas_of c.args.cube.now) = omega (arith, c.len-k-end.ensures.count) in
    let file : c.as_str-file.result.now ≡ get_or (texts files) k [] = c.as_str-file.ensures.value
    ∙ word_is files k c.index-files-k.result there c.index-files-k.is in
    read_ends c.files.invariant.read c.from_residual.result c.in_err-column.field-0.0 c.from_residual.ensures.1
    (legals_from (schemas_of c.args.cube.now) files k (instances_in c.files.columns) this there)
    (step_as k c.schema-schema.ensures file c.in_err-column.ensures.step)
  where
    open c use {files.k, args.files.now as files}

pub files-preserved : goal.files-preserved
unfolding nobody
files-preserved g c =
    let schemas = schemas_of c.args.cube.now in
    let there : k < length files = omega (arith, c.requires.each, c.len-k-end.ensures.count) in
    let this : k < length schemas = omega (arith, c.len-k-end.ensures.count) in
    let inside : k < length target = omega (arith, c.requires.target, c.len-k-end.ensures.count) in
    let file : c.as_str-file.result.now ≡ get_or (texts files) k [] = c.as_str-file.ensures.value
    ∙ word_is files k c.index-files-k.result there c.index-files-k.is in
    let pushed : c.push.new.self ≡ old ++ column ∷ [] = c.in-Ok.ensures.ok in
    let more = ap instances_in pushed ∙ map-append (λ (a : Ascent). a.instance) old (column ∷ []) in
    record {
      read = read_more inv.read (legals_from schemas files k (instances_in old) this there)
          (step_as k c.schema-schema.ensures file c.in_ok-column.ensures.step) more;
      each = ap length pushed ∙ length_push old column ∙ ap (λ n. n + 1) inv.each;
      made = made_more schemas k (instances_in old) (instances_in c.push.new.self) column.instance this inv.made
          (subst (λ (s : Schema). IsMadeFor s.graph column.instance) c.schema-schema.ensures
          c.in_ok-column.ensures.made) more;
      categories = columns_more target k nobody old c.push.new.self column inside pushed inv.categories
          c.in_ok-column.ensures.category;
    }
  where
    open c use {args.target.now as target, args.files.now as files, files.k, files.columns as old}
    open c use {in_ok-column.column, files.invariant as inv}

pub returns-in-Err-clause-step : goal.returns-in-Err-clause-step
returns-in-Err-clause-step g c =
    read_wants c.files.invariant.read (Err c.from.result) c.in_ok-column.ensures.step c.from.ensures

pub returns-clause-step : goal.returns-clause-step
returns-clause-step g c =
    as_read tt (read_all c.files.invariant.read (legals_end (schemas_of c.args.cube.now) (texts c.args.files.now)
    c.files.k (instances_in c.files.columns) (omega (arith, c.len-k-end.ensures.count))))

pub returns-clause-made : goal.returns-clause-made
returns-clause-made g c =
    made_all (schemas_of c.args.cube.now) c.files.k (instances_in c.files.columns)
    (omega (arith, c.len-k-end.ensures.count)) c.files.invariant.made
