use Rattle.std.proofs.Common.{◌≡◌, ◌≤◌, ◌∙◌, false, true, ap, refl, sym, arith}
use Rattle.olap_base.specs.Graph.{category_count}
use Rattle.olap_schema.specs.Schemas.{schema_of}
use Rattle.olap_cube_summ.proofs.BottomLemmas.{all_there, category_passed, family_added}
use Rattle.olap_cube_summ.proofs.bottoms.families.Goals.{then-is_bottom+in_ok-patterns+in_ok-push, else-is_bottom}
use Rattle.olap_cube_summ.proofs.bottoms.families.Goals as goal

pub patterns_of-requires-clause-root : goal.patterns_of-requires-clause-root
patterns_of-requires-clause-root c = rw c.graph-in-categories.ensures at (c.is_bottom.ensures.0 c.if-is_bottom.true)

pub categories-preserved : goal.categories-preserved
categories-preserved c = elim c.if-is_bottom.branch [
  | then-is_bottom+in_ok-patterns+in_ok-push w ↦ record {
    families = family_added _ _ c.categories.b _ c.categories.invariant.families
        (record { bottom = record { 0 = c.categories.b }; patterns = w.in_ok-patterns.patterns }) refl
        w.in_ok-patterns.ensures.family _ (ap (λ v. v.items) w.families-is ∙ w.in_ok-push.ensures.items);
    room = rw w.room-is w.patterns_of.ensures.room;
  }
  | else-is_bottom w ↦ record {
    families = rw w.families-is (category_passed _ _ c.categories.b _ c.categories.invariant.families
        (λ bottom. let z : false ≡ true = sym w.if-is_bottom.false
        ∙ c.is_bottom.ensures.1 (rw c.graph-in-categories.ensures bottom) in cc));
    room = rw w.room-is c.categories.invariant.room;
  }
]

pub returns : goal.returns
returns c =
    let s = schema_of c.args.schema.now in
    let count = c.categories-b-end.ensures.count ∙ ap category_count c.graph-2.ensures in
    let past : category_count s.graph ≤ c.categories.b = omega arith in
    rw c.from_vec.ensures
    (all_there s c.args.question.now c.categories.b c.categories.families.items past c.categories.invariant.families)
