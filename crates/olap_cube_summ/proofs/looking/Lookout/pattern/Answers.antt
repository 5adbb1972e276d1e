-- What is found reaches the target, by the names of the search.
use Rattle.std.proofs.Common.{◌∙◌}
use Rattle.olap_dimsat.specs.Searches.{named_in, root_of}
use Rattle.olap_schema.specs.Schemas.{schema_of}
use Rattle.olap_cube_summ.proofs.LookingLemmas.{found_for, pattern_of_found}
use Rattle.olap_cube_summ.proofs.looking.Lookout.pattern.Goals as goal

pub pattern-pattern-requires-clause-found : goal.pattern-pattern-requires-clause-found
pattern-pattern-requires-clause-found c =
    let search = c.args.self.now.search in
    found_for (schema_of c.args.schema.now) c.args.question.now (root_of search) c.requires.root
    c.candidates-candidates.result.now (named_in search)
    (c.candidates-candidates.ensures ∙ c.look.ensures.candidates) c.look.new.into
    (c.look.ensures.some c.if-not-look.false)

pub returns-clause-pattern : goal.returns-clause-pattern
returns-clause-pattern c =
    let search = c.args.self.now.search in (
      c.pattern-pattern.ensures.small,
      pattern_of_found (schema_of c.args.schema.now) c.args.question.now (root_of search) c.requires.root
          c.candidates-candidates.result.now (named_in search)
          (c.candidates-candidates.ensures ∙ c.look.ensures.candidates) c.look.new.into
          (c.look.ensures.some c.if-not-look.false) c.pattern-pattern.result c.pattern-pattern.ensures.pattern,
    )

pub returns-then-not-look-clause-lookout : goal.returns-then-not-look-clause-lookout
returns-then-not-look-clause-lookout c = record {
  made = c.look.ensures.made;
  root = c.look.ensures.root;
  room = c.requires.lookout.room;
}

pub returns-clause-lookout : goal.returns-clause-lookout
returns-clause-lookout c = record {
  made = c.look.ensures.made;
  root = c.look.ensures.root;
  room = c.pattern-pattern.ensures.room;
}
