-- The first ones, and then those of names.
use Rattle.olap_names.specs.Questions.{question_of}
use Rattle.olap_encoding.proofs.StartingLemmas.{then_named}
use Rattle.olap_encoding.proofs.starting.variables.Goals as goal

pub returns : goal.returns
returns c =
    then_named (question_of c.args.q.now) c.first_variables.new.meanings.items c.names.new.meanings.items
    c.names.new.starts.items c.names.result c.in_ok-first_variables.ensures c.names.ensures
