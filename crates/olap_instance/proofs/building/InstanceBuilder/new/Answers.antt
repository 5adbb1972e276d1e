-- No members keep what a draft keeps.
use Rattle.std.proofs.Common.{◌≡◌, rules, sym, subst}
use Rattle.olap_instance.{proofs.DraftLemmas.draft-none, specs.Drafts.{Draft, IsDraft, no_members}}
use Rattle.olap_instance.proofs.building.InstanceBuilder.new.Goals as goal

made : (d e : Draft) → d ≡ e → IsDraft e → IsDraft d
made d e q h = subst IsDraft (sym q) h

pub invariant_of-result : goal.invariant_of-result
invariant_of-result c = made _ (no_members c.args.graph.now) (search rules)
    (draft-none c.args.graph.now c.categories.ensures.hierarchy)
