use Rattle.std.proofs.Common.{◌∙◌, arith}
use Rattle.olap_cube_summ.proofs.LeastChoiceLemmas.{all_least, bad_here, first_bad, is_dimension, one_more}
use Rattle.olap_cube_summ.proofs.choosing.least_choice.Goals as goal

pub dimensions-init : goal.dimensions-init
dimensions-init c = record {
  least = λ xs a. rw c.new-founds.ensures.items (rw c.all-mask.ensures.value at a);
  bad = first_bad _ _ _ _ c.requires.questions c.requires.families _ c.all-mask.ensures.value c.requires.bad;
  small = c.all-mask.ensures.small;
}

pub take_least-requires-clause-dimension : goal.take_least-requires-clause-dimension
take_least-requires-clause-dimension c =
    is_dimension _ _ _ _ c.requires.questions c.requires.families c.requires.dimensions c.dimensions.i _ _ _
    (omega (arith, c.len-i-end.ensures.count)) c.schema-schema.ensures c.index-questions-i.is c.index-families-i.is

pub take_least-requires-clause-bad : goal.take_least-requires-clause-bad
take_least-requires-clause-bad c =
    bad_here _ _ _ _ c.requires.questions c.requires.families c.requires.dimensions c.dimensions.i _ _ _
    (omega (arith, c.len-i-end.ensures.count)) c.schema-schema.ensures c.index-questions-i.is c.index-families-i.is _
    (c.deref.ensures.value ∙ c.in_ok-sets.ensures) c.dimensions.mask c.dimensions.invariant.bad

pub dimensions-preserved : goal.dimensions-preserved
dimensions-preserved c =
    let t = one_more _ _ _ _ c.requires.questions c.requires.families c.requires.dimensions c.dimensions.i _ _ _
    (omega (arith, c.len-i-end.ensures.count)) c.schema-schema.ensures c.index-questions-i.is c.index-families-i.is _
    (c.deref.ensures.value ∙ c.in_ok-sets.ensures) _ _ c.dimensions.founds.items c.push.new.self.items _
    c.in_ok-push.ensures.items c.in_ok-taken.ensures.least c.dimensions.invariant.least in
    record { least = t.0; bad = t.1; small = c.in_ok-taken.ensures.small }

pub returns : goal.returns
returns c = rw c.from_vec.ensures
    (all_least _ _ _ _ c.requires.questions c.requires.families c.dimensions.i c.dimensions.mask
    c.dimensions.founds.items (omega (arith, c.len-i-end.ensures.count)) c.dimensions.invariant.bad
    c.dimensions.invariant.least)
