-- Each kind of formula that has parts.
use Rattle.std.proofs.Common.{◌≡◌, ◌+◌, ◌∙◌, codes, refl, ap, sym, arith}
use Rattle.olap_ast.specs.{Trees.{formula_of, terms_of}, Valid.{node_count, node_count_of_terms}}
use Rattle.olap_ast.specs.declared.formulas.Formula.{Formula}
use Rattle.olap_schema_text.proofs.JointLemmas.{counted, joined_by, joint_nodes, joint_text}
use Rattle.olap_schema_text.proofs.PrintLemmas.{joined_line, same_text, text_behind, three_texts}
use Rattle.olap_schema_text.specs.Printing.{formula_text, joined_text, list_text}
use Rattle.olap_ast.specs.Formula as Meaning
use Rattle.olap_schema_text.proofs.printing.+push_formula.Goals as goal

pub push_formula-push_formula-requires : goal.push_formula-push_formula-requires
push_formula-push_formula-requires t c =
    let n : node_count (formula_of c.args.f.now) ≡ 1 + node_count (formula_of c.in-Not.g.value) = counted c.in-Not.is in
    (omega (arith, c.decreases, n, counted (sym c.deref.ensures)), tt)

pub push_formula-returns-in_ok-extend_from_slice-in-Not : goal.push_formula-returns-in_ok-extend_from_slice-in-Not
push_formula-returns-in_ok-extend_from_slice-in-Not t c =
    text_behind c.push_formula.result (codes "!") (formula_text g root (formula_of c.deref.result.now)) _ _ _ _
    (ap (λ (z : Formula). formula_text g root (Meaning.Formula.Not (formula_of z))) c.deref.ensures
    ∙ ap (λ (z : Formula). formula_text g root (formula_of z)) (sym c.in-Not.is))
    c.in_ok-extend_from_slice-in-Not.ensures.items c.push_formula.ensures
  where
    open c use {args.graph.now as g, args.root.0 as root}

pub push_formula-push_joined-requires : goal.push_formula-push_joined-requires
push_formula-push_joined-requires t c =
    let x = formula_of c.in-And.g.value in
    let y = formula_of c.in-And.h.value in
    let j = joined_by c.args.f.now x y refl refl refl refl refl c.in-And.is in
    let n : node_count (formula_of c.args.f.now) ≡ 1 + node_count x + node_count y =
    ap node_count j.1 ∙ joint_nodes j.0 x y in
    (omega (arith, c.decreases, n, counted (sym c.deref-in-And.ensures), counted (sym c.deref-in-And-2.ensures)), tt)

pub push_formula-returns-in-And : goal.push_formula-returns-in-And
push_formula-returns-in-And t c =
    let x = formula_of c.in-And.g.value in
    let y = formula_of c.in-And.h.value in
    let j = joined_by c.args.f.now x y refl refl refl refl refl c.in-And.is in
    same_text c.push_joined.result _ _
    (sym (ap (formula_text g root) j.1 ∙ joint_text g root j.0 x y
    ∙ (λ i. joined_text (c.joint_of.ensures j.0 x y j.1 i)
    (formula_text g root (formula_of (sym c.deref-in-And.ensures i)))
    (formula_text g root (formula_of (sym c.deref-in-And-2.ensures i))))))
    c.push_joined.ensures
  where
    open c use {args.graph.now as g, args.root.0 as root}

pub push_formula-push_one-requires : goal.push_formula-push_one-requires
push_formula-push_one-requires t c =
    let n : node_count (formula_of c.args.f.now) ≡ 1 + node_count_of_terms (terms_of c.in-One.terms) =
    counted c.in-One.is in
    (omega (arith, c.decreases, n), tt)

pub push_formula-returns-in-One : goal.push_formula-returns-in-One
push_formula-returns-in-One t c =
    same_text c.push_one.result _ _
    (ap (λ (z : Formula). formula_text c.args.graph.now c.args.root.0 (formula_of z)) (sym c.in-One.is))
    c.push_one.ensures

pub push_joined-push_formula-requires : goal.push_joined-push_formula-requires
push_joined-push_formula-requires t c = (omega (arith, c.decreases), tt)

pub push_joined-push_formula-requires-2 : goal.push_joined-push_formula-requires-2
push_joined-push_formula-requires-2 t c = (omega (arith, c.decreases), tt)

pub push_joined-returns : goal.push_joined-returns
push_joined-returns t c =
    joined_line c.args.joint _ _ _ _ _ _ _ _ c.extend_from_slice-2.result c.in_ok-extend_from_slice.ensures.items
    c.in_ok-push_formula.ensures c.in_ok-push_joint.ensures c.in_ok-push_formula-2.ensures
    c.extend_from_slice-2.ensures.items

pub push_one-push_list-requires : goal.push_one-push_list-requires
push_one-push_list-requires t c = (omega (arith, c.decreases), tt)

pub push_one-returns : goal.push_one-returns
push_one-returns t c =
    let list = list_text c.args.graph.now c.args.root.0 (terms_of c.args.terms.now) in
    three_texts (codes "one(") list (codes ")") list _ _ _ _ c.extend_from_slice-2.result
    c.in_ok-extend_from_slice.ensures.items refl c.in_ok-push_list.ensures c.extend_from_slice-2.ensures.items
