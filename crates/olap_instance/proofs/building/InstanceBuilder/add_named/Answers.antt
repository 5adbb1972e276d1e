use Rattle.olap_instance.proofs.building.InstanceBuilder.add_named.Goals as goal

pub returns-clause-err : goal.returns-clause-err
returns-clause-err c = rw (c.bytes.ensures, c.bytes-2.ensures) at c.put.ensures.err
