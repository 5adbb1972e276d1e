-- The parts are of one task.
use Rattle.std.proofs.Common.{map}
use Rattle.olap_ast.specs.Trees.{constraint_of, formula_of}
use Rattle.olap_encoding.specs.EncoderInside.{encoding_of}
use Rattle.olap_names.{proofs.NameableLemmas.can_be_named, specs.Names.with_graph}
use Rattle.olap_dimsat.{proofs.EncodeLemmas.{encoded, spoken_for}, proofs.MadeLemmas.ready_first, specs.Asking.task_at}
use Rattle.olap_dimsat.proofs.posing.pose.Goals as goal

pub of-requires : goal.of-requires
of-requires c =
    let a = c.args in
    can_be_named a.graph.now (map constraint_of a.constraints.now) a.root.0 (formula_of a.formula.now)
    c.requires.valid.formulas c.requires.formula c.requires.few

pub encode-requires-clause-question : goal.encode-requires-clause-question
encode-requires-clause-question c = record {
  hierarchy = c.requires.valid.hierarchy;
  root = c.requires.root;
  candidates = c.in_ok-candidates.ensures.candidates;
  texts = c.in_ok-candidates.ensures.count;
}

pub encode-requires-clause-spoken : goal.encode-requires-clause-spoken
encode-requires-clause-spoken c =
    let a = c.args in
    spoken_for (record {
      schema = with_graph a.graph.now (map constraint_of a.constraints.now);
      formula = formula_of a.formula.now;
      root = a.root.0;
      candidates = c.in_ok-candidates.candidates;
    }) c.requires.valid c.requires.formula

pub into_parts-encoded-requires : goal.into_parts-encoded-requires
into_parts-encoded-requires c = c.in_ok-encoder.ensures.sound

pub returns : goal.returns
returns c =
    let s = with_graph a.graph.now (map constraint_of a.constraints.now) in
    let e = encoding_of c.in_ok-encoder.encoder in
    let t = task_at s (formula_of a.formula.now) a.root.0 c.in_ok-candidates.candidates layout in
    let i = encoded t e pool
    (record {
      hierarchy = c.requires.valid.hierarchy;
      root = c.requires.root;
      candidates = c.in_ok-candidates.ensures.candidates;
      texts = c.in_ok-candidates.ensures.count;
    })
    (rw (← c.in_ok-encoder.ensures.question) parts.laid)
    c.in_ok-encoder.ensures.sound.few parts.variables c.in_ok-encoder.ensures.met parts.pool in
    record {
      task = i.task;
      variables = c.in_ok-engine.ensures.variables;
      ready = ready_first t pool c.in_ok-engine.engine i (λ v h. c.in_ok-engine.ensures.admits v h);
      empty = c.in_ok-engine.ensures.empty;
    }
  where
    open c use {
      args as a,
      into_parts-encoded.result.layout,
      into_parts-encoded.result.pool,
      into_parts-encoded.ensures as parts,
    }
