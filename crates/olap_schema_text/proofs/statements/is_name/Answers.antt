use Rattle.olap_base.specs.Reaching.{is_category_name_is}
use Rattle.olap_grammar.proofs.WordLemmas.{same_answer}
use Rattle.olap_schema_text.proofs.statements.is_name.Goals as goal

pub returns : goal.returns
returns c = same_answer _ _ c.category_name.ensures (is_category_name_is c.args.word.now)
