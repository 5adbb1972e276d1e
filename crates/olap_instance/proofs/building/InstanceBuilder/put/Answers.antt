use Rattle.std.{proofs.Common.{◌≡◌, ◌∙◌, None, false, subst, sym, ap, refl}, specs.Prelude.slice_index_or}
use Rattle.olap_instance.proofs.{BuilderSteps.{member-absent, with-new}, DraftLemmas.draft-member}
use Rattle.olap_instance.specs.{DraftInside.{draft_of, parents_told}, Drafts.{IsDraft, named_refusal}}
use Rattle.olap_instance.proofs.building.InstanceBuilder.put.Goals as goal

pub add_parentless-requires-clause-absent : goal.add_parentless-requires-clause-absent
add_parentless-requires-clause-absent c =
    let d = draft_of c.self.inside in
    let kind = sym (c.has_kind-is_number.ensures
    ∙ ap (λ ks. slice_index_or ks c.args.category.0 false) c.deref.ensures.value) in
    let passes : named_refusal d c.args.id.now c.args.category.0 c.args.name.now ≡ None =
    sym (c.refusal.ensures d refl kind) ∙ c.in_default.is in
    member-absent d c.args.id.now c.args.category.0 c.args.name.now c.self.invariant passes

pub invariant_of-self-2 : goal.invariant_of-self-2
invariant_of-self-2 c =
    let d = draft_of c.self.inside in
    let kind = sym (c.has_kind-is_number.ensures
    ∙ ap (λ ks. slice_index_or ks c.args.category.0 false) c.deref.ensures.value) in
    let passes : named_refusal d c.args.id.now c.args.category.0 c.args.name.now ≡ None =
    sym (c.refusal.ensures d refl kind) ∙ c.in_default.is in
    let now = with-new d c.args.id.now c.args.category.0 c.args.name.now c.add_parentless.new.roster
    (parents_told c.add_parentless.new.parents.items)
    c.in_ok-add_parentless.ensures.members c.in_ok-add_parentless.ensures.parents in
    let category = rw (← c.self.view_is) at c.requires.category in
    subst IsDraft (sym now)
    (draft-member d c.self.invariant c.args.id.now c.args.category.0 c.args.name.now passes category c.requires.id
    c.requires.name)
