use Rattle.olap_generate.proofs.{InputLemmas.input_is_made, Location.location_schema, Made.{made, made_facts}}
use Rattle.olap_generate.proofs.laws.an_input_is_made.Goals as goal

pub returns : goal.returns
returns c seed size one few = (location_schema, made seed size, made_facts seed size, input_is_made seed size few)
