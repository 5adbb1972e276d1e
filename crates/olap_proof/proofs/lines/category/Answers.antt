use Rattle.olap_proof.proofs.LineLemmas.{category_found, no_category}
use Rattle.olap_proof.proofs.lines.category.Goals as goal

pub returns-clause-some : goal.returns-clause-some
returns-clause-some c = category_found c.args.graph.now c.args.bytes.now c.category.result c.category.ensures.place
    c.category.ensures.category

pub returns-clause-none : goal.returns-clause-none
returns-clause-none c = no_category c.args.graph.now c.args.bytes.now c.category.result c.category.ensures.place
