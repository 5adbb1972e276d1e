-- Two counterexamples that a decision shows are one.
use Rattle.olap_ast.specs.Summarizable.{TheCounterexampleIsOne}
use Rattle.olap_frozen.specs.LeastFound.{frozen_of}
use Rattle.olap_names.specs.Names.{candidates_of}
use Rattle.olap_summ.specs.Decisions.{DecisionsAgree, candidates_at, sources_of, target_of}

-- as there is one counterexample at most, two answers are the same
pub decisions_agree_lem : TheCounterexampleIsOne → DecisionsAgree
decisions_agree_lem is_one s q d e f h v same one other =
    let t = is_one s (target_of q) (sources_of q) (candidates_of (candidates_at d f.root.0))
    (candidates_of (candidates_at e h.root.0)) f.root.0 h.root.0 (frozen_of f) (frozen_of h) one.is_one
    other.is_one in
    (t.root, t.value)
