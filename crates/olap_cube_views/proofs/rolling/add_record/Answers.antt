-- The header, a fact or a fault.
use Rattle.std.proofs.Common.{◌≡◌, ℕ, ◌↔◌, ◌∷◌, ◌++◌, [], IsTrue, List, length, take, sym, ap, subst, ◌∙◌, rules, w64}
use Rattle.std.proofs.lemmas.{Int.to_z-of_z, List.length-map}
use Rattle.olap_base.specs.{Instance.Instance, Views.Fact}
use Rattle.olap_cube.specs.Tuples.{IsBottomTuple}
use Rattle.olap_view.specs.Columns.{Ascent}
use Rattle.olap_cube_views.proofs.CubeCountingLemmas.{counted-fact, counted-header, fact-fault, header-fault}
use Rattle.olap_cube_views.{proofs.CubeReadingLemmas.bottom_members, specs.CubeFactText.{cube_fact_read, header}}
use Rattle.olap_cube_views.specs.{CubeTallies.{AreMembers, CubeStandsFor}, Dimensions.{graphs_of, instances_in}}
use Rattle.olap_cube_views.specs.Seen.{fact_at, members_of}
use mir.Val.{SFits}
use Rattle.olap_cube_views.proofs.rolling.add_record.Goals as goal

pub returns-then-not-is_header-clause-counts : goal.returns-then-not-is_header-clause-counts
returns-then-not-is_header-clause-counts c = λ done facts h s left.
    let row = c.args.row.now.row in
    let size = c.len-dimensions.ensures.count ∙ sym (length-map c.args.columns.now (λ (a : Ascent). a.instance)) in
    header-fault (graphs_of c.args.graphs.now) (instances_in c.args.columns.now) done facts row
    (h.fresh c.if-not-begun.true) c.is_header.result
    (subst (λ n. IsTrue c.is_header.result ↔ (row ≡ header n)) size c.is_header.ensures) c.if-not-is_header.true left

pub returns-then-not-begun-clause-counts : goal.returns-then-not-begun-clause-counts
returns-then-not-begun-clause-counts c = λ done facts h s.
    let row = c.args.row.now.row in
    let size = c.len-dimensions.ensures.count ∙ sym (length-map c.args.columns.now (λ (a : Ascent). a.instance)) in
    record {
      facts = facts;
      counted = counted-header (graphs_of c.args.graphs.now) (instances_in c.args.columns.now) done facts row
          (h.fresh c.if-not-begun.true) c.is_header.result
          (subst (λ n. IsTrue c.is_header.result ↔ (row ≡ header n)) size c.is_header.ensures)
          c.if-not-is_header.false;
      stands_for = s;
    }

pub returns-in-Err-clause-counts : goal.returns-in-Err-clause-counts
returns-in-Err-clause-counts c = λ done facts h s left.
    let is = instances_in c.args.columns.now in
    let going = h.going c.if-not-begun.false in
    let size = sym (length-map going.rows (cube_fact_read is)) ∙ sym (ap length going.facts_are) ∙ sym s.added
    ∙ sym c.added-before.ensures.count in
    fact-fault (graphs_of c.args.graphs.now) is done facts c.args.row.now.row going c.added-before.result size
    c.in-Err.kind
    (c.in-Err.ensures.fact going.rows size) left

pub add-requires-clause-members : goal.add-requires-clause-members
add-requires-clause-members c =
    let gs = graphs_of c.args.graphs.now in
    let is = instances_in c.args.columns.now in
    let ms = c.in-Ok.fact.members in
    subst (λ (js : List Instance). AreMembers js (members_of (take c.len-dimensions.result ms)))
    (sym c.requires.instances)
    (bottom_members gs is (members_of (take c.len-dimensions.result ms))
    (subst (λ k. IsBottomTuple gs is (members_of (take k ms))) (sym c.len-dimensions.ensures.count)
    c.in-Ok.ensures.bottom))

pub returns-in_ok-add-in-Ok-clause-counts : goal.returns-in_ok-add-in-Ok-clause-counts
returns-in_ok-add-in-Ok-clause-counts c = λ done facts h s.
    let is = instances_in c.args.columns.now in
    let fits : SFits w64 c.in-Ok.fact.value = search rules in
    let going = h.going c.if-not-begun.false in
    let size = sym (length-map going.rows (cube_fact_read is)) ∙ sym (ap length going.facts_are) ∙ sym s.added
    ∙ sym c.added-before.ensures.count in
    let says = c.in-Ok.ensures.fact going.rows size in
    let fact = fact_at (take (length c.args.columns.now) ms) value in
    let same = ap (fact_at (take c.len-dimensions.result ms)) (to_z-of_z w64 value fits)
    ∙ ap (λ k. fact_at (take k ms) value) c.len-dimensions.ensures.count in
    record {
      facts = facts ++ fact ∷ [];
      counted = counted-fact (graphs_of c.args.graphs.now) is done facts c.args.row.now.row going fact says.0 says.1;
      stands_for = subst (λ (f : Fact (List ℕ)). CubeStandsFor c.add.new.self (facts ++ f ∷ [])) same
          (c.in_ok-add-in-Ok.ensures.stands facts s);
    }
  where
    open c use {in-Ok.fact.members as ms, in-Ok.fact.value}
