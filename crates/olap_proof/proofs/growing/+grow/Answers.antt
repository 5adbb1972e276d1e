-- Below each split the place is one of the schema's, with less to decide; the lines so far close what was split.
use Rattle.std.proofs.Common.{refl, ◌≡◌, ◌≢◌, ℕ, None, ◌<◌, ◌+◌, length, ap, subst, ◌∙◌, arith, true, false}
use Rattle.std.proofs.lemmas.Result.{on_ok_weaker}
use Rattle.olap_proof.proofs.TreeTextLemmas.{adds_leaf, adds_names, edge_below, edge_written, left, name_below, name_written, none_left}
use Rattle.olap_proof.specs.{Asking.{names_in, question_in, schema_in}, Certificates.{with_edge, with_name}}
use Rattle.olap_proof.specs.{Places.{Place, index_of}, Reading.meaning}
use Rattle.olap_base.specs.Graph.{IsDeclared}
use Rattle.olap_proof.proofs.growing.+grow.Goals as goal

pub returns-in-Some-clause-tree : goal.returns-in-Some-clause-tree
returns-in-Some-clause-tree t c =
    on_ok_weaker c.push_bounded.result (adds_leaf c.args.form (schema_in a) (question_in a) (names_in a) c.args.case.now
    (meaning c.in-Some.line) c.args.out.now.items c.push_bounded.new.out.items c.in-Some.ensures.some.0
    c.in-Some.ensures.some.1) c.push_bounded.ensures
  where
    open c use {args.asked.now as a}

pub returns-in-Some-clause-same : goal.returns-in-Some-clause-same
returns-in-Some-clause-same t c = on_ok_weaker c.push_bounded.result (λ e. refl) c.push_bounded.ensures

pub grow-requires : goal.grow-requires
grow-requires t c =
    let new = c.decide.ensures ∙ ap (λ x. with_edge x e false) c.next_edge.ensures.same in
    let below = edge_below (schema_in a) (question_in a) (names_in a) p c.decide.new.self e false
    c.requires.place c.requires.none c.in-Some-next_edge.ensures.some new in (
      subst (λ n. left c.decide.new.self < n) c.decreases below.less,
      (c.requires.asked, (below.place, below.none)),
    )
  where
    open c use {args.asked.now as a, args.case.now as p, in-Some-next_edge.edge.0 as e}

pub grow-grown-requires : goal.grow-grown-requires
grow-grown-requires t c =
    let first = c.decide.ensures ∙ ap (λ x. with_edge x e false) c.next_edge.ensures.same in
    let back = c.undecide.ensures p e false (c.in_ok-grow.ensures.same ∙ first) in
    let new = c.decide-in-Some-next_edge.ensures ∙ ap (λ x. with_edge x e true) back in
    let below = edge_below (schema_in a) (question_in a) (names_in a) p
    c.decide-in-Some-next_edge.new.self e true
    c.requires.place c.requires.none c.in-Some-next_edge.ensures.some new in (
      subst (λ n. left c.decide-in-Some-next_edge.new.self < n) c.decreases below.less,
      (c.requires.asked, (below.place, below.none)),
    )
  where
    open c use {args.asked.now as a, args.case.now as p, in-Some-next_edge.edge.0 as e}

pub returns-in-Some-next_edge-clause-tree : goal.returns-in-Some-next_edge-clause-tree
returns-in-Some-next_edge-clause-tree t c =
    let first = c.decide.ensures ∙ ap (λ x. with_edge x e false) c.next_edge.ensures.same in
    let back = c.undecide.ensures p e false (c.in_ok-grow.ensures.same ∙ first) in
    let second = c.decide-in-Some-next_edge.ensures ∙ ap (λ x. with_edge x e true) back in
    on_ok_weaker c.grow-grown.result (edge_written c.args.form (schema_in a) (question_in a) (names_in a) p
    c.decide.new.self c.decide-in-Some-next_edge.new.self e c.args.out.now.items
    c.push_bounded-in-Some-next_edge.new.out.items c.grow.new.out.items c.grow-grown.new.out.items
    c.in-Some-next_edge.ensures.some c.in_ok-push_bounded.ensures first second c.in_ok-grow.ensures.tree)
    c.grow-grown.ensures.tree
  where
    open c use {args.asked.now as a, args.case.now as p, in-Some-next_edge.edge.0 as e}

pub returns-in-Some-next_edge-clause-same : goal.returns-in-Some-next_edge-clause-same
returns-in-Some-next_edge-clause-same t c =
    let first = c.decide.ensures ∙ ap (λ x. with_edge x e false) c.next_edge.ensures.same in
    let back = c.undecide.ensures p e false (c.in_ok-grow.ensures.same ∙ first) in
    let second = c.decide-in-Some-next_edge.ensures ∙ ap (λ x. with_edge x e true) back in
    on_ok_weaker c.grow-grown.result (λ (same : c.grow-grown.new.case ≡ c.decide-in-Some-next_edge.new.self).
    c.undecide-in-Some-next_edge.ensures p e true (same ∙ second)) c.grow-grown.ensures.same
  where
    open c use {args.case.now as p, in-Some-next_edge.edge.0 as e}

pub grow-requires-in-names : goal.grow-requires-in-names
grow-requires-in-names t c =
    let same = c.names.invariant.same ∙ c.next_edge.ensures.same in
    let new = c.in_ok-name.ensures ∙ ap (λ x. with_name x d.0 c.names.index) same in
    let unnamed = rw c.next_edge.ensures.same at c.in-Some-next_name.ensures.some in
    let below = name_below (schema_in a) (question_in a) (names_in a) p c.name.new.self d.0
    c.names.index c.requires.place c.requires.none unnamed
    (omega (arith, ap length c.others.ensures.list, c.names-test.true)) new in (
      subst (λ n. left c.name.new.self < n) c.decreases below.less,
      (c.requires.asked, (below.place, below.none)),
    )
  where
    open c use {args.asked.now as a, args.case.now as p, in-Some-next_name.c as d}

pub names-preserved : goal.names-preserved
names-preserved t c =
    let back = c.unname.ensures c.names.case d.0 c.names.index
    (c.in_ok-grow-2.ensures.same ∙ c.in_ok-name.ensures) in
    let new = c.in_ok-name.ensures ∙ ap (λ x. with_name x d.0 c.names.index) c.names.invariant.same in
    record {
      same = back ∙ c.names.invariant.same;
      written = name_written c.args.form (schema_in a) (question_in a) (names_in a) c.next_edge.new.case
          c.name.new.self d.0 c.names.index c.push_bounded-in-Some-next_name.new.out.items
          c.names.out.items c.grow-in-names.new.out.items c.names.invariant.written new c.in_ok-grow-2.ensures.tree;
    }
  where
    open c use {args.asked.now as a, in-Some-next_name.c as d}

pub returns-after-names-clause-tree : goal.returns-after-names-clause-tree
returns-after-names-clause-tree t c =
    let s = schema_in a in
    let all : c.names.index ≡ length ((names_in a).texts d.0) + 1 =
    omega (arith, ap length c.others.ensures.list, c.names-test.false, c.names.auto.index-end) in
    rw (← c.next_edge.ensures.same) (adds_names c.args.form s (question_in a) (names_in a) p d.0 c.args.out.now.items
    c.push_bounded-in-Some-next_name.new.out.items c.names.out.items c.in-Some-next_name.ensures.some.0
    c.in-Some-next_name.ensures.some.1 c.in_ok-push_bounded-2.ensures (rw all at c.names.invariant.written))
  where
    open c use {args.asked.now as a, in-Some-next_name.c as d, next_edge.new.case as p}

pub returns-in_default-next_name-clause-tree : goal.returns-in_default-next_name-clause-tree
returns-in_default-next_name-clause-tree t c =
    let a = c.args.asked.now in
    absurd (none_left c.args.form (schema_in a) (question_in a) (names_in a) c.args.case.now
    c.requires.asked.hierarchy c.requires.asked.candidates c.requires.place c.requires.none
    (c.in_default.ensures.none refl) (c.in_default-next_edge.ensures.none refl)
    (subst (λ (y : Place). (x : ℕ) → IsDeclared a.graph.now x → index_of y.namings x ≢ None) c.next_edge.ensures.same
    (c.in_default-next_name.ensures.none refl)))

pub push_bounded-requires : goal.push_bounded-requires
push_bounded-requires t c = c.in-Some.ensures.some.0

pub push_bounded-requires-in-Some-next_edge : goal.push_bounded-requires-in-Some-next_edge
push_bounded-requires-in-Some-next_edge t c = c.in-Some-next_edge.ensures.some.0
