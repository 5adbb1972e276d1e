use Rattle.olap_grammar.{proofs.ReaderLemmas.fails, specs.Reader.leaves_of}
use Rattle.olap_grammar.proofs.reading.read_tokens.Goals as goal

pub returns-in-Err : goal.returns-in-Err
returns-in-Err c =
    rw (c.tokens.invariant, c.in-Some.ensures.cases.0)
    (fails (leaves_of c.args.version) c.in-Err.e _ c.in-Some.others.now c.in-Err.ensures)
