use Rattle.olap_base.specs.Reaching.{is_category_name_is}
use Rattle.olap_schema_text.proofs.reading.read_category.Goals as goal

pub add_category-requires-clause-name : goal.add_category-requires-clause-name
add_category-requires-clause-name c = (is_category_name_is c.args.name.now).0 c.requires.name
