use Rattle.olap_instance.proofs.reading.enter_text.Goals as goal

pub returns-clause-members : goal.returns-clause-members
returns-clause-members c = rw c.new-rows.ensures at c.enter_table.ensures.members
