use Rattle.std.proofs.Common.{◌≡◌, ◌≢◌, ◌<◌, ◌^◌, ℕ, ap, sym, subst, ◌∙◌, true, false, refl, length, arith}
use Rattle.std.proofs.lemmas.List.{length-map}
use Rattle.olap_ast.specs.Summarizable.{IsSummarizable}
use Rattle.olap_nav.proofs.{ChoiceLemmas.{fewer, inside, none_left}, PatternLemmas.serves_by_one}
use Rattle.olap_nav.specs.{Choices.MayServe, Patterns.ways_in, Plans.{Serves, sources_in}}
use Rattle.olap_schema.specs.Schemas.{schema_of}
use Rattle.olap_view.specs.Seen.{view_of, views_of}
use Rattle.olap_nav.proofs.planning.cheapest_plan.Goals as goal

pub questions-preserved : goal.questions-preserved
questions-preserved c =
    let s = schema_of c.args.schema.now in
    let views = views_of c.args.store.now in
    let none = rw c.in-Some-refuted.is at c.in_ok-refuted.ensures.none in
    let some = rw c.in-Some-refuted.is at c.in_ok-refuted.ensures.some in
    let other : (m : ℕ) → Serves s views target m → m ≢ mask = λ m h e. absurd (let z : true ≡ false = none.1
    (subst (λ n. IsSummarizable s target (sources_in views n)) e h.summarizable) in cc) in
    let by_one : (m : ℕ) → Serves s views target m → ways_in c.deref.result.now m ≡ 1 = λ m h.
    subst (λ l. ways_in l m ≡ 1) (sym c.deref.ensures.value)
    (serves_by_one s views target c.in-Some-refuted.pattern.items m some h) in
    record {
      count = c.refute.ensures.count ∙ c.questions.invariant.count;
      few = let n = c.refute.ensures.count in let f = c.questions.invariant.few in omega arith;
      serving = λ m h. (c.refute.ensures.left m).1 (c.questions.invariant.serving m h, other m h, by_one m h);
      room = c.in_ok-refuted.ensures.room;
    }
  where
    open c use {args.target.0 as target, in-Some.plan.mask}

pub questions-smaller : goal.questions-smaller
questions-smaller c =
    let mask = c.in-Some.plan.mask in
    fewer c.refute.new.may_serve c.questions.may_serve mask c.refute.ensures.count
    (λ m h. ((c.refute.ensures.left m).0 h).0)
    (subst (λ l. MayServe l mask) c.items.ensures c.in-Some.ensures.may_serve)
    (λ h. ((c.refute.ensures.left mask).0 h).1 refl)

pub returns-in_default-refuted-clause-plan : goal.returns-in_default-refuted-clause-plan
returns-in_default-refuted-clause-plan c =
    let views = views_of c.args.store.now in
    let none = rw c.in_default-refuted.is at c.in_ok-refuted.ensures.none in
    let size : length c.items.result.now ≡ 2 ^ length views = ap length c.items.ensures ∙ c.questions.invariant.count
    ∙ ap (λ n. 2 ^ n) (sym (length-map c.args.store.now.views view_of)) in
    record {
      serves = record {
        within = subst (λ n. mask < n) size best.before;
        summarizable = none.0 refl;
      };
      cheapest = λ m h.
          let may = subst (λ l. MayServe l m) (sym c.items.ensures) (c.questions.invariant.serving m h) in
          best.cheapest m (inside c.items.result.now m may) may;
    }
  where
    open c use {in-Some.plan.mask, in-Some.ensures as best}

pub returns-clause-not_answerable : goal.returns-clause-not_answerable
returns-clause-not_answerable c = λ m h.
    let may = subst (λ l. MayServe l m) (sym c.items.ensures) (c.questions.invariant.serving m h) in
    none_left (views_of c.args.store.now) c.items.result.now (length c.items.result.now) c.cheapest.result
    c.cheapest.ensures c.in_default.not-Some m (inside c.items.result.now m may) may
