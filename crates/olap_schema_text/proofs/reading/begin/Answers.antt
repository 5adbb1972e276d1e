-- Nothing is known at first, and nothing is counted.
use Rattle.std.proofs.Common.{None, map, refl}
use Rattle.olap_ast.specs.Trees.{constraint_of}
use Rattle.olap_schema_text.proofs.reading.begin.Goals as goal

pub returns-clause-above : goal.returns-clause-above
returns-clause-above c = λ i. record {
  version = None;
  graph = c.in_ok-new.ensures i;
  category_lines = c.new-2.ensures.items i;
  constraints = map constraint_of (c.new-3.ensures.items i);
  nodes = 0;
}

pub returns-clause-counted : goal.returns-clause-counted
returns-clause-counted c =
    rw (c.new-3.ensures.items, c.new-4.ensures.items, c.new-5.ensures.items)
    (record { texts_are = refl; numbers_are = refl })
