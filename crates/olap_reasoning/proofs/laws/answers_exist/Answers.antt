use Rattle.olap_reasoning.proofs.SomeAnswer.{answers_exist}
use Rattle.olap_reasoning.proofs.laws.answers_exist.Goals as goal

pub returns : goal.returns
returns c = answers_exist c.least_frozen_exist.ensures c.frozen_are_listed.ensures c.counterexamples_exist.ensures
    c.findings_exist.ensures c.valid_schemas_have_candidates.ensures.formulas
    c.valid_schemas_have_candidates.ensures.sources c.unsatisfiable_exactly_if_none_frozen.ensures
    c.implied_exactly_if_none_frozen.ensures c.certificates_exist_exactly_where_summarizable.ensures
    c.needs_leave_members.ensures
