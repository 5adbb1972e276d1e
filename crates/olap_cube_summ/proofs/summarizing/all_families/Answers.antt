use Rattle.std.proofs.{Common.{◌<◌, length, arith}, lemmas.Grind.common_steps}
use Rattle.olap_cube_summ.{proofs.SettingLemmas.{all_valid, families_next, valid_next}, specs.Dimensions.schemas_of}
use Rattle.olap_cube_summ.proofs.summarizing.all_families.Goals as goal

pub dimensions-preserved : goal.dimensions-preserved
dimensions-preserved c =
    let inside : c.dimensions.i < length qs = omega (arith, c.len-i-end.ensures.count, c.requires.count) in record {
      count = grind (arith, common_steps);
      each = families_next _ _ _ _ _ _ _ _ inside c.schema-schema.ensures c.index-questions-i.is before.count
          c.in_ok-push.ensures.items c.in_ok-next.ensures before.each;
      valid = valid_next _ _ _ c.schema-schema.ensures c.constraints-valid.ensures.valid before.valid;
    }
  where
    open c use {args.questions.now as qs, dimensions.invariant as before}

pub returns-clause-valid : goal.returns-clause-valid
returns-clause-valid c =
    all_valid (schemas_of c.args.cube.now) c.dimensions.i (omega (arith, c.len-i-end.ensures.count))
    c.dimensions.invariant.valid
