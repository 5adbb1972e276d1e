use Rattle.std.{proofs.Common.{length, subst, sym}, specs.Prelude.{ℕ, All}}
use Rattle.olap_base.specs.{Graph.IsCategory, Views.{View, direct_views, members}}
use Rattle.olap_schema.specs.Schemas.{schema_of}
use Rattle.olap_view.specs.Seen.{ids}
use Rattle.olap_order.{proofs.Stepping.{answered, ended, followed}, specs.Judged.Replies}
use Rattle.olap_totals.{proofs.ViewLemmas.{direct_categories, members_seen}, specs.Commands.store_told}
use Rattle.olap_totals.specs.Questions.{IsAnswer}
use Rattle.olap_totals.proofs.storing.stored.Goals as goal

pub returns-in_err-views : goal.returns-in_err-views
returns-in_err-views g c =
    let i = c.args.legal.now in
    let graph = (schema_of c.args.schema.now).graph in
    record {
      judged = ended c.in_err-views.ensures.step
          (λ table. store_told graph i
          (direct_views (members i) table (ids c.args.categories.now))) c.from_residual.ensures.1;
    }

pub told-requires-clause-categories : goal.told-requires-clause-categories
told-requires-clause-categories g c =
    let read = c.in_ok-views.ensures.step in
    let graph = (schema_of c.args.schema.now).graph in
    subst (All (λ (v : View ℕ ℕ). IsCategory graph v.target)) (sym read.direct)
    (direct_categories graph c.args.legal.now read.facts (ids c.args.categories.now) c.requires.categories)

pub told-requires-clause-at_members : goal.told-requires-clause-at_members
told-requires-clause-at_members g c =
    members_seen (length c.args.legal.now) c.in_ok-views.views c.in_ok-views.ensures.members

pub returns : goal.returns
returns g c =
    let i = c.args.legal.now in
    let graph = (schema_of c.args.schema.now).graph in
    let read = c.in_ok-views.ensures.step in
    record {
      judged = followed read.step
          (λ table. store_told graph i (direct_views (members i) table (ids c.args.categories.now)))
          (answered c.told.result (subst (λ views. Replies IsAnswer (store_told graph i views) c.told.result)
          read.direct c.told.ensures.replies));
    }
