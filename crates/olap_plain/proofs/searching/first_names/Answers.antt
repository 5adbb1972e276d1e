use Rattle.std.proofs.Common.{length, map, ap, ◌∙◌, arith}
use Rattle.olap_ast.specs.Trees.{constraint_of, formula_of}
use Rattle.olap_base.proofs.GeneralLemmas.{refuted}
use Rattle.olap_names.specs.Walks.{marks_of}
use Rattle.olap_graph.{proofs.RowLemmas.row_at, specs.Rows.row}
use Rattle.olap_frozen.proofs.SoundLemmas.{present_is}
use Rattle.olap_plain.proofs.SearchLemmas.{frozen_sound, walking_absent, walking_ended, walking_falls, walking_found, walking_next, walking_start, walking_zero}
use Rattle.olap_plain.proofs.searching.first_names.Goals as goal

pub returns-then-not-is_sound-clause-none : goal.returns-then-not-is_sound-clause-none
returns-then-not-is_sound-clause-none c = λ t h e f.
    refuted c.is_sound.result c.if-not-is_sound.true c.is_sound.ensures
    (frozen_sound q.graph.now (map constraint_of q.constraints.now) (formula_of q.formula.now) q.candidates.now q.root.0
    c.args.edges.now c.close.new.rows c.close.ensures.hierarchy c.requires.root h e f)
  where
    open c use {args.question.now as q}

pub names-init : goal.names-init
names-init c =
    let e = row_at rows c.from.result c.index-rows-from.result
    (omega (arith, c.close.auto.rows, c.requires.rows, c.requires.root)) ∙ ap (row rows) c.from.ensures in
    walking_start _ _ _ _ _ _ _ c.start.new.self (length a.walk.now.indexes)
    (present_is q.graph.now q.root.0 a.edges.now rows c.close.ensures.hierarchy c.requires.root
    c.close.ensures.rows (c.is_sound.ensures.0 c.if-not-is_sound.false))
    c.requires.walk (c.start.ensures.present ∙ ap (λ s. marks_of s (length a.walk.now.indexes)) e)
    c.start.ensures.indexes
  where
    open c use {args as a, args.question.now as q, close.new.rows}

pub named-requires-clause-absent : goal.named-requires-clause-absent
named-requires-clause-absent c =
    rw c.indexes-names.ensures (walking_absent _ _ _ _ _ _ _ c.names.walk c.names.invariant)

pub returns-then-named-clause-some : goal.returns-then-named-clause-some
returns-then-named-clause-some c = λ t.
    walking_found _ _ _ _ _ _ _ c.names.walk c.names.invariant
    (rw c.indexes-names.ensures at (c.named.ensures.0 c.if-named.true))

pub returns-then-named-clause-zero : goal.returns-then-named-clause-zero
returns-then-named-clause-zero c = λ t. walking_zero _ _ _ _ _ _ _ c.names.walk c.names.invariant

pub returns-then-not-next-clause-none : goal.returns-then-not-next-clause-none
returns-then-not-next-clause-none c = λ t.
    walking_ended _ _ _ _ _ _ _ c.names.walk c.names.invariant
    (λ f. refuted c.named.result c.if-named.false c.named.ensures (rw c.indexes-names.ensures f))
    (c.next.ensures.last c.if-not-next.true)

pub names-smaller : goal.names-smaller
names-smaller c = walking_falls _ _ _ _ _ _ _ c.names.walk c.next.new.self c.names.invariant c.next.ensures.present
    (c.next.ensures.next c.if-not-next.false)

pub names-preserved : goal.names-preserved
names-preserved c =
    walking_next _ _ _ _ _ _ _ c.names.walk c.next.new.self c.names.invariant c.next.ensures.present
    (c.next.ensures.next c.if-not-next.false)
    (λ f. refuted c.named.result c.if-named.false c.named.ensures (rw c.indexes-names.ensures f))
