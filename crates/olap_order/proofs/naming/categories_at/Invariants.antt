use Rattle.olap_schema.specs.Schemas.{schema_of}
use Rattle.olap_order.{proofs.SourceLemmas.IsReadTo, specs.Words.texts}
use Rattle.olap_ast.specs.Trees.{numbers_of}
use Rattle.olap_order.proofs.naming.categories_at.Given as goal

-- this many words are read
abbrev pub invariant-words : goal.invariant-words
invariant-words l = IsReadTo l.twice (schema_of l.schema).graph l.at (texts l.names) l.k (numbers_of l.categories.items)
