use Rattle.std.proofs.Common.{◌∙◌, arith}
use Rattle.olap_dimsat.{proofs.ReadLemmas.is_choice, specs.Asking.task_of}
use Rattle.olap_dimsat.proofs.reading.read.Goals as goal

pub returns-clause-read : goal.returns-clause-read
returns-clause-read c =
    let es = c.read_edges.ensures.size ∙ c.requires.sizes.edges in
    let ns = c.read_names.ensures.size ∙ c.requires.sizes.names in record {
      sized = record {
        edge_count = es;
        text_count = c.requires.task.question.texts;
        name_count = ns;
        in_range = λ k h. c.in_ok-read_names.ensures.in_range k (omega arith);
      };
      only = λ f v one r a. is_choice (task_of c.args.a.now) f c.read_edges.new.edges c.read_names.new.names one es ns
          (λ e h. c.in_ok-read_edges.ensures.edges e h f v one r a)
          (λ k h. c.in_ok-read_names.ensures.names k h f v one r a);
    }
