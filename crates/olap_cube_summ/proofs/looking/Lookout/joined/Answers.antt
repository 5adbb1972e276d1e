-- One pattern more, or none.
use Rattle.std.proofs.Common.{arith}
use Rattle.olap_dimsat.specs.Searches.{root_of}
use Rattle.olap_schema.specs.Schemas.{schema_of}
use Rattle.olap_cube_summ.{proofs.BottomLemmas.each_with, specs.Patterns.IsPatternOf}
use Rattle.olap_cube_summ.proofs.looking.Lookout.joined.Goals as goal

pub with-requires : goal.with-requires
with-requires c = let new = rw c.in-Some.is at c.in_ok-new.ensures.pattern in (omega arith, new.0)

pub returns-in-Some-clause-found : goal.returns-in-Some-clause-found
returns-in-Some-clause-found c =
    let new = rw c.in-Some.is at c.in_ok-new.ensures.pattern in
    each_with c.args.patterns c.with.result c.in-Some.new new.0 c.with.ensures
    (IsPatternOf (schema_of c.args.schema.now) c.args.question.now (root_of c.args.self.now.search)) new.1
    c.requires.found
