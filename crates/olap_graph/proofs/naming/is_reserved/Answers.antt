use Rattle.std.proofs.Common.{rules}
use Rattle.olap_graph.proofs.NameLemmas.{reserved_is}
use Rattle.olap_graph.proofs.naming.is_reserved.Goals as goal

pub returns-then-is-3 : goal.returns-then-is-3
returns-then-is-3 c = reserved_is c.args.bytes.now _ (search rules)

pub returns-else-is-3 : goal.returns-else-is-3
returns-else-is-3 c = reserved_is c.args.bytes.now _ (search rules)
