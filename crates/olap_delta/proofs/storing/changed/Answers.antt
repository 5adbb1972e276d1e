-- One fact more, and all of them.
use Rattle.std.proofs.Common.{ℕ, List, sym, subst, ◌∙◌}
use Rattle.olap_base.specs.Views.{Fact}
use Rattle.olap_facts.specs.Seen.{facts_of}
use Rattle.olap_delta.proofs.ListedLemmas.{all_far, are_few, has_room, is_at_member, one_more, so_far}
use Rattle.olap_delta.specs.Lots.{StandFor}
use Rattle.olap_delta.proofs.storing.changed.Goals as goal

pub take-requires-clause-member : goal.take-requires-clause-member
take-requires-clause-member c = search is_at_member

pub take-requires-clause-room : goal.take-requires-clause-room
take-requires-clause-room c = search has_room

pub joined-requires-clause-few : goal.joined-requires-clause-few
joined-requires-clause-few c = search are_few

pub facts-preserved : goal.facts-preserved
facts-preserved c =
    record {
      places = e.places ∙ c.facts.invariant.places;
      lots = e.lots;
      stand = subst (λ (fs : List (Fact ℕ)). StandFor i fs c.take.new.self) (sym (one_more read k _ c.facts-test.true))
          (e.stand i (so_far read k) c.facts.invariant.stand);
    }
  where
    open c use {
      args.legal.now as i,
      items-fact-items.result.now as read,
      facts.fact-index as k,
      in_ok-take.ensures as e,
    }

pub returns-in-Some : goal.returns-in-Some
returns-in-Some c =
    let after = rw c.in-Some.is at c.in_ok-store.ensures in
    let all = all_far c.args.facts.now.rows c.items-fact-items.result.now c.facts.fact-index c.items-fact-items.ensures
    c.facts-test.false in
    after (facts_of c.args.facts.now)
    (subst (λ (fs : List (Fact ℕ)). StandFor c.args.legal.now fs c.facts.lots) all c.facts.invariant.stand)

pub returns-in-None : goal.returns-in-None
returns-in-None c = c.one_by_one.ensures
