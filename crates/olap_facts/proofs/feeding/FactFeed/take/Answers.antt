-- What the front takes, told of the reader.
use Rattle.std.{proofs.Common.{◌++◌, ◌<◌, ℕ, List, length, map, subst}, specs.Prelude.{All, MatchResult, OnOk}}
use Rattle.olap_base.specs.{Refusing.IsRefusedBy, Views.{Fact, IsFactTable}}
use Rattle.olap_facts.{proofs.FeedLemmas.on-members, specs.Feeding.{Fed, Feeding, fed_read, feeding_in}}
use Rattle.olap_facts.specs.Seen.{fact_of}
use Rattle.olap_facts.proofs.feeding.FactFeed.take.Goals as goal

pub returns-clause-feeds : goal.returns-clause-feeds
returns-clause-feeds c =
    let new = feeding_in c.self.inside.setting front.splitter front.handed front.begun in
    subst (λ (q : Feeding). (fed : List ℕ) (facts : List (Fact ℕ)) → Fed q fed facts → MatchResult c.take.result
    (λ _. Fed new (fed ++ piece) (facts ++ map fact_of c.take.new.batch.items))
    (λ e. (more : List ℕ) → IsRefusedBy e (fed_read q ((fed ++ piece) ++ more))))
    c.self.view_is c.take.ensures.feeds
  where
    open c use {take.new.self as front, args.piece.now as piece}

pub returns-clause-table : goal.returns-clause-table
returns-clause-table c =
    subst (λ (q : Feeding). OnOk c.take.result (IsFactTable q.graph q.instance (map fact_of c.take.new.batch.items)))
    c.self.view_is c.take.ensures.table

pub returns-clause-members : goal.returns-clause-members
returns-clause-members c =
    subst (λ (q : Feeding). OnOk c.take.result (All (λ f. f.member.0 < length q.instance) items)) c.self.view_is
    (on-members setting.graph.now setting.instance.now items c.take.result c.take.ensures.table)
  where
    open c use {self.inside.setting, take.new.batch.items}
