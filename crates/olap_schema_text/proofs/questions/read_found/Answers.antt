-- Tokens of which not all are kept are refused by what was counted.
use Rattle.olap_grammar.specs.Cutter.{kept_of}
use Rattle.olap_schema.specs.Schemas.{schema_of}
use Rattle.olap_schema_text.proofs.LongLines.{no_question}
use Rattle.olap_grammar.specs.declared.tokens.Version.TheVariants as version
use Rattle.olap_schema_text.proofs.questions.read_found.Goals as goal

pub returns-then-found : goal.returns-then-found
returns-then-found c = λ ts begins.
    no_question (schema_of c.args.schema.now) c.args.root.0 (kept_of c.args.found.now) ts
    _ begins c.if-found.true c.requires.room
    (λ us behind long. c.long_form_fault.ensures version.Two us behind long)
