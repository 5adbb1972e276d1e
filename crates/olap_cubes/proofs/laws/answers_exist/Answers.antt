use Rattle.olap_cubes.proofs.SomeAnswer.{answers_exist}
use Rattle.olap_cubes.proofs.laws.answers_exist.Goals as goal

pub returns : goal.returns
returns c = answers_exist c.frozen_are_listed.ensures c.candidates_exist.ensures
    c.cube_summarizable_exactly_if_none_bad.ensures
