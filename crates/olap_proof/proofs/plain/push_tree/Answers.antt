-- The tree stands below the line above it.
use Rattle.std.proofs.Common.{subst, sym}
use Rattle.olap_ast.specs.Frozen.{Frozen, IsFrozen}
use Rattle.olap_proof.{proofs.TreeTextLemmas.adds_below, specs.Asking.{names_in, question_in, schema_in}}
use Rattle.olap_proof.specs.Places.{Place}
use Rattle.olap_proof.proofs.plain.push_tree.Goals as goal

pub grow-requires-clause-none : goal.grow-requires-clause-none
grow-requires-clause-none c =
    let a = c.args.asked.now in
    subst (λ (x : Place). (f : Frozen) → IsFrozen (schema_in a) (question_in a) x.decided.root (names_in a) f → ⊥)
    (sym c.in_ok-case.ensures) c.requires.none

pub returns : goal.returns
returns c =
    let a = c.args.asked.now in
    adds_below c.args.form (schema_in a) (question_in a) (names_in a) c.args.root.0 c.in_ok-case.case
    c.args.out.now.items c.push_bottom.new.out.items c.grow.new.out.items c.in_ok-push_bottom.ensures
    c.in_ok-case.ensures c.grow.result c.grow.ensures.tree
