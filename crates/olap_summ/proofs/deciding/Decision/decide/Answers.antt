use Rattle.std.proofs.Common.{List, ◌≤◌, ◌∙◌, ap, true≢false, get_or, length, refl, sym, arith}
use Rattle.olap_schema.specs.Schemas.{schema_of}
use Rattle.olap_summ.proofs.DecideLemmas.{IsKept, IsShown, IsTurn, kept, put_back, turn, with_searches}
use Rattle.olap_summ.proofs.DecisionLemmas.{all_asked, answer_is_yes, sized_for}
use Rattle.olap_summ.proofs.deciding.Decision.decide.Goals.{After-asked-item, After-first, At-searches, Then-first}
use Rattle.olap_summ.specs.{Decisions.{IsAskedOf, asked_by}, declared.deciding.Asked.Asked}
use Rattle.olap_summ.proofs.deciding.Decision.decide.Goals as goal

-- the next search is one for the schema and its question
asked : (c : After-asked-item) → IsAskedOf (schema_of c.args.schema.now) (asked_by c.args.questions.now)
    (get_or c.searches.asked-items c.searches.asked-index c.asked-item.result)
asked c = c.searches.invariant.those.asked c.searches.asked-index c.asked-item.result (omega arith)

pub first-requires-clause-made : goal.first-requires-clause-made
first-requires-clause-made c = (asked (goal.at.first-requires-clause-made c).After-asked-item).made

pub first-requires-clause-sizes : goal.first-requires-clause-sizes
first-requires-clause-sizes c =
    sized_for (schema_of c.args.schema.now) c.args.questions.now c.args.self.now _ c.searches.into c.requires.made
    (asked (goal.at.first-requires-clause-sizes c).After-asked-item)
    (rw c.searches.invariant.stays c.requires.sizes)

-- the searches as it comes back
abbrev after : After-first → List Asked
after c = put_back c.searches.asked-items c.searches.asked-index c.asked-item.result c.first.new.self

-- it stands in its place again
back : (c : After-first) → IsTurn (schema_of c.args.schema.now) c.args.questions.now c.args.self.now
    c.searches.asked-index (get_or c.searches.asked-items c.searches.asked-index c.asked-item.result).search (after c)
back c =
    turn (schema_of c.args.schema.now) c.args.questions.now c.args.self.now c.searches.asked-items
    c.searches.asked-index c.asked-item.result c.first.new.self c.requires.made c.searches.invariant.those
    c.searches.invariant.none (omega arith) (c.searches.auto.asked-items ∙ c.deref_mut-asked-items.ensures.len)
    c.first.ensures.made c.first.ensures.root c.first.ensures.candidates

pub searches-preserved : goal.searches-preserved
searches-preserved c =
    let b = back (goal.at.searches-preserved c).After-first in
    record {
      those = b.those;
      none = b.none (c.first.ensures.none c.if-first.false);
      stays = c.first.ensures.stays c.if-first.false ∙ c.searches.invariant.stays;
    }

-- it found something, and the decision shows that
found : (c : Then-first) → IsShown (schema_of c.args.schema.now) c.args.questions.now c.args.self.now
    (with_searches c.args.self.now (after (goal.at.Then-first c).After-first)) c.first.new.into
found c = (back (goal.at.Then-first c).After-first).some c.first.new.into (c.first.ensures.some c.if-first.true)

pub returns-then-first-clause-no : goal.returns-then-first-clause-no
returns-then-first-clause-no c = (
  λ e. absurd (true≢false e),
  λ z. absurd ((found (goal.at.returns-then-first-clause-no c).Then-first).isnt z),
)

pub returns-then-first-clause-yes : goal.returns-then-first-clause-yes
returns-then-first-clause-yes c = λ t. (found (goal.at.returns-then-first-clause-yes c).Then-first).counterexample

pub returns-then-first-clause-sizes : goal.returns-then-first-clause-sizes
returns-then-first-clause-sizes c = (found (goal.at.returns-then-first-clause-sizes c).Then-first).sizes

pub returns-then-first-clause-made : goal.returns-then-first-clause-made
returns-then-first-clause-made c = (found (goal.at.returns-then-first-clause-made c).Then-first).kept.made

pub returns-then-first-clause-candidates : goal.returns-then-first-clause-candidates
returns-then-first-clause-candidates c =
    (found (goal.at.returns-then-first-clause-candidates c).Then-first).kept.candidates

-- the decision with the searches that were asked so far
so_far : (c : At-searches) → IsKept (schema_of c.args.schema.now) c.args.questions.now c.args.self.now
    (with_searches c.args.self.now c.searches.asked-items)
so_far c =
    kept (schema_of c.args.schema.now) c.args.questions.now c.args.self.now c.searches.asked-items c.requires.made
    c.searches.invariant.those (c.searches.auto.asked-items ∙ c.deref_mut-asked-items.ensures.len)

pub returns-clause-no : goal.returns-clause-no
returns-clause-no c =
    let s = schema_of c.args.schema.now in
    let same = ap length c.deref_mut-asked-items.ensures.value in
    let many : length d.searches.items ≤ c.searches.asked-index = omega arith in (
      λ e. answer_is_yes s q d c.constraints-valid.ensures.valid c.candidates_exist.ensures c.requires.made
          (all_asked s q d c.searches.asked-index c.requires.made c.searches.invariant.none many),
      λ z. refl,
    )
  where
    open c use {args.questions.now as q, args.self.now as d}

pub returns-clause-yes : goal.returns-clause-yes
returns-clause-yes c = λ t. absurd (true≢false (sym t))

pub returns-clause-sizes : goal.returns-clause-sizes
returns-clause-sizes c =
    (so_far (goal.at.returns-clause-sizes c).At-searches).sizes c.searches.into
    (rw c.searches.invariant.stays c.requires.sizes)

pub returns-clause-made : goal.returns-clause-made
returns-clause-made c = (so_far (goal.at.returns-clause-made c).At-searches).made

pub returns-clause-candidates : goal.returns-clause-candidates
returns-clause-candidates c = (so_far (goal.at.returns-clause-candidates c).At-searches).candidates
