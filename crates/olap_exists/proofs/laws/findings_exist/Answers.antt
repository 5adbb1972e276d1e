use Rattle.olap_exists.proofs.FindingsListed as findings
use Rattle.olap_exists.proofs.laws.findings_exist.Goals as goal

pub returns : goal.returns
returns c = findings.findings_exist c.fresh_names_exist.ensures c.candidates_exist.ensures
    c.unsatisfiable_exactly_if_none_frozen.ensures c.redundant_exactly_if_none_frozen.ensures
    c.unused_exactly_if_none_frozen.ensures
