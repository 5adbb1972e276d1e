use Rattle.std.proofs.{Common.{◌∙◌, length, refl, sym}, lemmas.List.length-map}
use Rattle.olap_cube.specs.Told.{tuple_of, tuples_in}
use Rattle.olap_cube_summ.proofs.{AnswerLemmas.{dimensions, is_bad, is_counterexample}, DimensionLemmas.of_length}
use Rattle.olap_cube_summ.proofs.PlaceLemmas.{category_count}
use Rattle.olap_cube_summ.proofs.SettingLemmas.{all_ordered, are_questions_of, hierarchies, kinded, summarizable_is}
use Rattle.olap_cube_summ.specs.Dimensions.{schemas_of}
use Rattle.olap_cube_summ.proofs.summarizing.counterexample.Goals as goal

pub questions-requires-clause-target : goal.questions-requires-clause-target
questions-requires-clause-target c =
    category_count (schemas_of c.args.cube.now) (tuple_of c.args.target.now) c.requires.target ∙ sym c.len.ensures.count

pub questions-requires-clause-sources : goal.questions-requires-clause-sources
questions-requires-clause-sources c = λ k d l.
    category_count (schemas_of c.args.cube.now) _ (c.requires.sources k d l) ∙ sym c.len.ensures.count

pub all_families-requires : goal.all_families-requires
all_families-requires c = rw c.deref.ensures.value
    (are_questions_of (schemas_of c.args.cube.now) (tuple_of c.args.target.now) (tuples_in c.args.sources.now) _
    c.requires.target c.requires.sources (rw length-map c.requires.few) c.in_ok-questions.ensures)

pub returns-then-not-can_be_bad-clause-none : goal.returns-then-not-can_be_bad-clause-none
returns-then-not-can_be_bad-clause-none c =
    let ss = schemas_of c.args.cube.now in (
      λ e. summarizable_is c.cube_summarizable_exactly_if_none_bad.ensures ss _ _ qs
          c.in_ok-families.families.items asked
          (are_questions_of ss _ _ qs c.requires.target c.requires.sources (rw length-map c.requires.few) asked)
          (rw c.deref.ensures.value at c.in_ok-families.ensures.families) c.in_ok-families.ensures.valid
          (length c.args.sources.now) (length-map c.args.sources.now tuple_of) c.in_ok-sets.sets c.items.result.now
          (rw c.deref-2.ensures.value at c.in_ok-sets.ensures) c.items.ensures c.all.result c.all.ensures.value
          c.can_be_bad.result c.can_be_bad.ensures c.if-not-can_be_bad.true,
      λ z. refl,
    )
  where
    open c use {in_ok-questions.questions.items as qs, in_ok-questions.ensures as asked}

pub first_families-requires-clause-ordered : goal.first_families-requires-clause-ordered
first_families-requires-clause-ordered c = rw c.deref-3.ensures.value
    (all_ordered (schemas_of c.args.cube.now) c.deref.result.now _ c.in_ok-families.ensures.families)

pub least_choice-requires-clause-questions : goal.least_choice-requires-clause-questions
least_choice-requires-clause-questions c = rw c.deref-4.ensures.value
    (are_questions_of (schemas_of c.args.cube.now) (tuple_of c.args.target.now) (tuples_in c.args.sources.now) _
    c.requires.target c.requires.sources (rw length-map c.requires.few) c.in_ok-questions.ensures).count

pub least_choice-requires-clause-families : goal.least_choice-requires-clause-families
least_choice-requires-clause-families c =
    let first = rw c.deref-3.ensures.value at c.in_ok-first.ensures in
    rw c.items-3.ensures
    (of_length _ c.deref.result.now _ c.in_ok-first.first c.in_ok-families.ensures.families first.are_of)

pub least_choice-requires-clause-dimensions : goal.least_choice-requires-clause-dimensions
least_choice-requires-clause-dimensions c =
    let ss = schemas_of c.args.cube.now in
    let count = length-map c.args.sources.now tuple_of in
    let first = rw c.deref-3.ensures.value at c.in_ok-first.ensures in
    rw (sym count, c.deref-4.ensures.value, c.items-3.ensures)
    (dimensions ss _ _ qs c.in_ok-families.families.items asked
    (are_questions_of ss _ _ qs c.requires.target c.requires.sources (rw count c.requires.few) asked)
    (rw c.deref.ensures.value at c.in_ok-families.ensures.families) c.in_ok-first.first first.are_of)
  where
    open c use {in_ok-questions.questions.items as qs, in_ok-questions.ensures as asked}

pub returns-clause-none : goal.returns-clause-none
returns-clause-none c =
    let ss = schemas_of c.args.cube.now in
    let count = length-map c.args.sources.now tuple_of in (
      λ e. absurd (cc),
      λ z. absurd ((c.cube_summarizable_exactly_if_none_bad.ensures ss _ _
          (hierarchies ss c.in_ok-families.ensures.valid) (kinded ss c.in_ok-families.ensures.valid)).0 z _
          (is_bad ss _ _ qs _ asked
          (are_questions_of ss _ _ qs c.requires.target c.requires.sources (rw count c.requires.few) asked)
          (rw c.deref.ensures.value at c.in_ok-families.ensures.families) c.in_ok-first.first
          (rw (c.deref-3.ensures.value, sym count) at c.in_ok-first.ensures) c.in_ok-founds.founds
          (rw (c.deref-4.ensures.value, c.items-3.ensures, sym count) at c.in_ok-founds.ensures))),
    )
  where
    open c use {in_ok-questions.questions.items as qs, in_ok-questions.ensures as asked}

pub returns-clause-found : goal.returns-clause-found
returns-clause-found c =
    let ss = schemas_of c.args.cube.now in
    let count = length-map c.args.sources.now tuple_of in
    is_counterexample ss _ _ qs _ asked
    (are_questions_of ss _ _ qs c.requires.target c.requires.sources (rw count c.requires.few) asked)
    (rw c.deref.ensures.value at c.in_ok-families.ensures.families) c.in_ok-first.first
    (rw (c.deref-3.ensures.value, sym count) at c.in_ok-first.ensures) c.in_ok-founds.founds
    (rw (c.deref-4.ensures.value, c.items-3.ensures, sym count) at c.in_ok-founds.ensures)
  where
    open c use {in_ok-questions.questions.items as qs, in_ok-questions.ensures as asked}
