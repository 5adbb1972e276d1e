use Rattle.olap_cubes.proofs.OneAnswer.{answers_are_one}
use Rattle.olap_cubes.proofs.laws.answers_are_one.Goals as goal

pub returns : goal.returns
returns c = answers_are_one c.the_cube_counterexample_is_one.ensures c.one_choice_has_one_text.ensures
    c.bad_choices_have_two_sums.ensures
