use Rattle.olap_summ.proofs.auditing.audit.Goals as goal

pub returns : goal.returns
returns c = record {
  findings = rw c.from_vec.ensures c.in_ok-add_unused.ensures.added;
}
