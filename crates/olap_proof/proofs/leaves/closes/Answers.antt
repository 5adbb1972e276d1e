use Rattle.std.proofs.Common.{◌≡◌, ◌∙◌, ◌<◌, arith, length, map, get_or, ap, sym}
use Rattle.std.proofs.lemmas.List.{get_or-map, length-map}
use Rattle.olap_ast.specs.Trees.{constraint_of}
use Rattle.olap_names.specs.Names.{candidates_of}
use Rattle.olap_proof.proofs.UnmetLemmas.{unmet_at}
use Rattle.olap_proof.proofs.leaves.closes.Goals as goal

pub returns-in-Constraint : goal.returns-in-Constraint
returns-in-Constraint c =
    let all = map constraint_of cs in
    let inside : n < length all = rw c.in-Constraint.is at c.requires in
    let same : get_or all n (constraint_of x) ≡ constraint_of x =
    get_or-map constraint_of cs n x (constraint_of x) (omega (arith, inside, length-map cs constraint_of))
    ∙ ap constraint_of (sym c.index-constraints-n.is) in
    let u = rw same at (unmet_at s.form (candidates_of s.candidates.now) s.place.now all n (constraint_of x) inside) in
    rw c.in-Constraint.is (λ t. u.0 (c.is_unmet.ensures.0 t), λ h. c.is_unmet.ensures.1 (u.1 h))
  where
    open c use {args.known.now as s, args.constraints.now as cs, in-Constraint.n, index-constraints-n.result as x}

pub returns-in-Dead : goal.returns-in-Dead
returns-in-Dead c = rw c.in-Dead.is c.is_dead.ensures

pub returns-in-Cycle : goal.returns-in-Cycle
returns-in-Cycle c = rw c.in-Cycle.is c.is_cyclic.ensures

pub returns-in-Shortcut : goal.returns-in-Shortcut
returns-in-Shortcut c = rw c.in-Shortcut.is c.is_shortened.ensures

pub returns-in-Question : goal.returns-in-Question
returns-in-Question c = rw c.in-Question.is c.is_asked.ensures
