use Rattle.std.proofs.{Common.{◌≡◌, ◌<◌, ℕ, ◌∙◌, ap, false, true, length, sym, arith}, lemmas.List.length-map}
use Rattle.olap_base.specs.{Instance.IsMemberOf, declared.ids.CatId.CatId}
use Rattle.olap_cube_summ.proofs.WayLemmas.{bit_is, more_room, put_small, way_at, way_passed, way_put}
use Rattle.olap_cube_summ.{proofs.ways.pattern.Goals.{then-reaches_by, else-reaches_by}, specs.Questions.sources_in}
use Rattle.olap_cube_summ.proofs.ways.pattern.Goals as goal

pub sources-preserved : goal.sources-preserved
sources-preserved c =
    let inside : k < length c.args.question.now.sources = rw c.items-sources.ensures at c.sources-test.true in
    let bit = bit_is k (let few = c.requires.few in omega arith) in
    let at = λ (x : ℕ) (m : IsMemberOf _ c.args.frozen.now.root.0 x). way_at c.args.question.now.sources
    c.items-sources.result.now c.items-sources.ensures k _ inside c.reaches_by.result _ x _
    (c.reaches_by.ensures.way x m) in elim c.if-reaches_by.branch [
      | then-reaches_by w ↦ record {
        has = λ x m. rw w.pattern-is (way_put _ x _ _ k old before.small (before.has x m) _ bit
            ((at x m).0 w.if-reaches_by.true));
        small = rw w.pattern-is (put_small old k _ before.small bit);
        room = c.reaches_by.ensures.room;
      }
      | else-reaches_by w ↦ record {
        has = λ x m. rw w.pattern-is (way_passed _ x _ _ k old before.small (before.has x m)
            (λ v. absurd (let z : false ≡ true = sym w.if-reaches_by.false ∙ (at x m).1 v in cc)));
        small = rw w.pattern-is (more_room old k before.small);
        room = c.reaches_by.ensures.room;
      }
    ]
  where
    open c use {sources.k, sources.pattern as old, sources.invariant as before}

pub returns-clause-pattern : goal.returns-clause-pattern
returns-clause-pattern c = λ x m.
    let count = length-map c.args.question.now.sources (λ (y : CatId). y.0) in
    let same = ap length c.items-sources.ensures in
    let all : c.sources.k ≡ length (sources_in c.args.question.now) = omega (arith, c.sources.auto.k-end) in
    rw all at (c.sources.invariant.has x m)
