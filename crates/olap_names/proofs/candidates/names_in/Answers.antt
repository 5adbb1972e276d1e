use Rattle.std.{proofs.Common.{◌∙◌, map, sym, subst, arith}, proofs.lemmas.Result.IfOk-weaker, specs.Prelude.IfOk}
use Rattle.olap_ast.proofs.ComparedLemmas.{atom_on_numbers, constants_in_order, number_of_atom, numbers_are}
use Rattle.olap_ast.specs.{Constants.IsFreshName, Frozen.AreNamesOf, Trees.{constraint_of, formula_of}}
use Rattle.olap_numerals.specs.Representatives.{AreNumberNames}
use Rattle.olap_names.{proofs.CandidateLemmas.few_constants, specs.Names.{atoms, number_atoms, with_graph}}
use Rattle.olap_base.proofs.GeneralLemmas.{both_ok}
use Rattle.olap_names.proofs.candidates.names_in.Goals as goal

pub number_names-requires : goal.number_names-requires
number_names-requires c = λ n h.
    let cs = map constraint_of c.args.constraints.now in
    let q = formula_of c.args.question.now in
    let s = with_graph c.args.graph.now cs in
    (c.requires.named.kinds.numbers c.args.c.0 n
    (number_of_atom s q c.args.c.0 n (atom_on_numbers c.args.c.0 (number_atoms cs q) n h))).1

pub returns-then-is_number-clause-names : goal.returns-then-is_number-clause-names
returns-then-is_number-clause-names c =
    let s = with_graph c.args.graph.now (map constraint_of c.args.constraints.now) in
    let q = formula_of c.args.question.now in
    subst (λ b. IfOk c.number_names.result (λ p. AreNamesOf b s q c.args.c.0 p.0 p.1))
    (sym c.if-is_number.true ∙ c.is_number.ensures)
    (subst (λ ns. IfOk c.number_names.result (λ p. AreNumberNames ns p.0 p.1)) (sym (numbers_are s q c.args.c.0))
    c.number_names.ensures.names)

pub returns-else-is_number-clause-names : goal.returns-else-is_number-clause-names
returns-else-is_number-clause-names c =
    let cs = map constraint_of c.args.constraints.now in
    let q = formula_of c.args.question.now in
    let s = with_graph c.args.graph.now cs in
    subst (λ b. IfOk c.text_names.result (λ p. AreNamesOf b s q c.args.c.0 p.0 p.1))
    (sym c.if-is_number.false ∙ c.is_number.ensures)
    (both_ok c.text_names.result _ _ _
    (λ p e o. (subst (IsFreshName s q) (sym e) c.requires.fresh, constants_in_order s q c.args.c.0 p.1 o))
    c.text_names.ensures.fresh c.text_names.ensures.constants)

pub returns-else-is_number-clause-few : goal.returns-else-is_number-clause-few
returns-else-is_number-clause-few c =
    let cs = map constraint_of c.args.constraints.now in
    let q = formula_of c.args.question.now in
    let few = c.requires.named.few in
    IfOk-weaker c.text_names.result _ _
    (λ p o. let l = few_constants c.args.c.0 (atoms cs q) p.1 o in omega arith) c.text_names.ensures.constants
