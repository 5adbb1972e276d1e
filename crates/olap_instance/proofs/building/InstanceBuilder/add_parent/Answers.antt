use Rattle.std.proofs.{Common.{◌∙◌, refl, sym, length, subst, true≢false, rules, arith}, lemmas.Grind.common_steps}
use Rattle.olap_instance.proofs.{BuilderSteps.{has-list, kept, number-inside, pushed, so-far}, DraftLemmas.draft-parent}
use Rattle.olap_instance.specs.{DraftInside.{draft_of, number_of}, Drafts.{HasParent, IsDraft}}
use Rattle.olap_instance.proofs.building.InstanceBuilder.add_parent.Goals as goal

pub returns-then-is_among-clause-duplicate : goal.returns-then-is_among-clause-duplicate
returns-then-is_among-clause-duplicate c =
    let d = draft_of c.self.inside in
    let m = rw (← c.self.view_is) at c.requires.child in
    let l = has-list d lists x c.self.invariant refl m in
    let here = so-far d lists refl x c.index_mut-parents.result.now l c.index_mut-parents.ensures.value in
    rw (← c.self.view_is, here, ← c.deref.ensures.value) (c.is_among.ensures.0 c.if-is_among.true)
  where
    open c use {args.child.0 as x, self.inside.parents.items as lists}

pub invariant_of-self-in_err-push : goal.invariant_of-self-in_err-push
invariant_of-self-in_err-push c =
    let d = draft_of c.self.inside in
    let m = rw (← c.self.view_is) at c.requires.child in
    let l = has-list d lists x c.self.invariant refl m in
    subst IsDraft
    (sym (kept d lists refl x c.index_mut-parents.result.now l c.index_mut-parents.ensures.value c.push.new.self
    c.in_err-push.ensures.items)) c.self.invariant
  where
    open c use {args.child.0 as x, self.inside.parents.items as lists}

pub returns-in_err-push-clause-same : goal.returns-in_err-push-clause-same
returns-in_err-push-clause-same c =
    let d = draft_of c.self.inside in
    let m = rw (← c.self.view_is) at c.requires.child in
    let l = has-list d lists x c.self.invariant refl m in
    let same = kept d lists refl x c.index_mut-parents.result.now l c.index_mut-parents.ensures.value c.push.new.self
    c.in_err-push.ensures.items ∙ c.self.view_is in
    search rules
  where
    open c use {args.child.0 as x, self.inside.parents.items as lists}

pub invariant_of-self-2 : goal.invariant_of-self-2
invariant_of-self-2 c =
    let d = draft_of c.self.inside in
    let m = rw (← c.self.view_is) at c.requires.child in
    let l = has-list d lists x c.self.invariant refl m in
    let value = c.index_mut-parents.ensures.value in
    let inside = number-inside c.args.parent (length d.members) (rw (← c.self.view_is) at c.requires.parent) in
    let here = so-far d lists refl x v l value in
    let absent : HasParent d x (number_of c.args.parent) → ⊥ = λ has.
    let t = c.is_among.ensures.1 (rw c.deref.ensures.value (rw here at has)) in
    true≢false (sym t ∙ c.if-is_among.false) in
    let good = draft-parent d c.self.invariant x m (number_of c.args.parent) inside absent in
    subst IsDraft (sym (pushed d lists refl x v l value c.push.new.self c.args.parent c.in_ok-push.ensures.items)) good
  where
    open c use {args.child.0 as x, self.inside.parents.items as lists, index_mut-parents.result.now as v}

pub returns-clause-added : goal.returns-clause-added
returns-clause-added c = grind (arith, has-list, pushed)

pub returns-clause-ok : goal.returns-clause-ok
returns-clause-ok c = grind (arith, common_steps, has-list, so-far)
