use Rattle.olap_schema_text.proofs.BracketLemmas.{brackets_counted}
use Rattle.olap_schema_text.proofs.laws.open_brackets_are_counted.Goals as goal

pub returns : goal.returns
returns c = brackets_counted
