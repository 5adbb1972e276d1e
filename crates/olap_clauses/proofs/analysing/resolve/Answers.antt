-- One resolution.
use Rattle.std.proofs.Common.{◌≡◌, refl, rules}
use Rattle.olap_clauses.{proofs.MarkLemmas.resolved, specs.Standing.value_of, specs.Trails.values_of}
use Rattle.olap_clauses.specs.declared.values.Value.TheVariants.{Yes}
use Rattle.olap_clauses.proofs.analysing.resolve.Goals as goal

pub returns : goal.returns
returns c = λ _ v t f a.
    let vs = values_of c.args.trail.now in
    let r = c.if-not-mark_reason.ensures in
    let yes : value_of vs c.args.step.lit ≡ Yes = search (rules, c.if-ne.ensures, c.value.ensures.value) in
    resolved v vs c.args.seen.now c.mark_reason.new.seen c.args.step.lit yes r.grows (r.right refl v t f) a
