use Rattle.std.proofs.{Common.{true, length, ◌∙◌}, lemmas.List.length-set}
use Rattle.olap_names.proofs.WalkLemmas.{step_next, full_last}
use Rattle.olap_plain.{proofs.SearchLemmas.{bits_step, code_assigned}, specs.Searching.code_of}
use Rattle.olap_plain.proofs.searching.next_edges.Goals as goal

pub returns-in-Some-clause-next : goal.returns-in-Some-clause-next
returns-in-Some-clause-next c = λ t.
    let old = c.args.edges.now in
    let new = c.clear.new.edges in
    let p = c.in-Some.e in
    let o = c.in-Some.ensures in
    step_next (λ c. 1) (length old) (code_of old) (code_of new) p (code_assigned old) o.0 o.1 o.2
    (bits_step old new p o.0 (c.clear.auto.edges ∙ length-set old p true) o.1 c.clear.ensures.kept
    c.clear.ensures.cleared)

pub returns-in-None-clause-last : goal.returns-in-None-clause-last
returns-in-None-clause-last c = λ t.
    full_last (λ c. 1) (length c.args.edges.now) (code_of c.args.edges.now)
    (code_assigned c.args.edges.now) c.in-None.ensures
