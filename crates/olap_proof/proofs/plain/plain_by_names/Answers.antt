use Rattle.std.proofs.Common.{map}
use Rattle.olap_ast.specs.Trees.{constraint_of, formula_of}
use Rattle.olap_names.specs.Names.{candidates_of, with_graph}
use Rattle.olap_proof.proofs.QuestionLemmas.{named}
use Rattle.olap_proof.proofs.plain.plain_by_names.Goals as goal

pub plain-requires : goal.plain-requires
plain-requires c =
    let hier = c.categories-count.ensures.hierarchy in
    let are = c.in_ok-candidates.ensures.candidates in
    record {
      asked = record { hierarchy = hier; named = c.in_ok-candidates.ensures.count; candidates = are };
      none = c.requires.none hier (candidates_of c.in_ok-candidates.candidates) are;
    }

pub returns-clause-certificate : goal.returns-clause-certificate
returns-clause-certificate c =
    let s = with_graph c.args.graph.now (map constraint_of c.args.constraints.now) in
    named c.args.form s (formula_of c.args.question.now) (candidates_of c.in_ok-candidates.candidates)
    c.in_ok-candidates.ensures.candidates c.plain.result c.plain.ensures.certificate
