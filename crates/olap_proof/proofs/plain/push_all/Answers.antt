use Rattle.std.proofs.Common.{◌≡◌, ◌-◌, ◌≤◌, ◌++◌, ◌∷◌, ◌∙◌, [], arith, ap, length}
use Rattle.olap_proof.proofs.BottomLemmas.{certified, next_same, next_written}
use Rattle.olap_proof.proofs.plain.push_all.Goals.{then-is_bottom+in_ok-push_tree, else-is_bottom}
use Rattle.olap_proof.specs.{Asking.{names_in, question_in, schema_in}, Certificates.head_text}
use Rattle.olap_proof.proofs.plain.push_all.Goals as goal

pub push_tree-requires-clause-none : goal.push_tree-requires-clause-none
push_tree-requires-clause-none c = c.requires.none c.categories.b (c.is_bottom.ensures.0 c.if-is_bottom.true)

pub categories-preserved : goal.categories-preserved
categories-preserved c =
    let low : 1 ≤ b = omega (arith, c.categories.auto.b) in
    elim c.if-is_bottom.branch [
      | then-is_bottom+in_ok-push_tree w ↦
          rw w.out-is (next_written f (schema_in a) (question_in a) (names_in a) b from there _ low
          (c.is_bottom.ensures.0 w.if-is_bottom.true) c.categories.invariant w.in_ok-push_tree.ensures)
      | else-is_bottom w ↦
          rw w.out-is (next_same f (schema_in a) (question_in a) (names_in a) b from there low
          (omega (arith, c.categories-test.true, c.categories-b-end.ensures.count))
          (λ h. let z = c.is_bottom.ensures.1 h in let n = w.if-is_bottom.false in cc) c.categories.invariant)
    ]
  where
    open c use {
      args.asked.now as a,
      args.form as f,
      categories.b,
      categories.out.items as there,
      push_head.new.out.items as from,
    }

pub returns : goal.returns
returns c =
    let all : c.categories.b - 1 ≡ length a.graph.now.names =
    omega (arith, c.categories.auto.b, c.categories.auto.b-end, test, c.categories-b-end.ensures.count) in
    let head = c.in_ok-push_head.ensures ∙ ap (λ xs. xs ++ (head_text c.args.form ++ 10 ∷ [])) c.requires.empty in
    certified c.args.form (schema_in a) (question_in a) (names_in a) (c.categories.b - 1) c.push_head.new.out.items
    c.categories.out.items all head c.categories.invariant
  where
    open c use {args.asked.now as a, categories-test.false as test}
