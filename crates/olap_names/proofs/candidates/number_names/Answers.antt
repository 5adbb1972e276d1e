use Rattle.std.proofs.{Common.{◌∙◌, ◌<◌, length, map, ap, sym, subst}, lemmas.Result.IfOk-weaker}
use Rattle.std.specs.Prelude.{Contains}
use Rattle.olap_ast.specs.Trees.{constraint_of, formula_of}
use Rattle.olap_numerals.specs.{Numerals.canonical, Representatives.{AreRepresentatives, AreSmall}}
use Rattle.olap_names.{proofs.NumberLemmas.{few_names, names_are, some_representative}, specs.Names.number_atoms}
use Rattle.olap_names.proofs.candidates.number_names.Goals as goal

pub spelled-requires : goal.spelled-requires
spelled-requires c =
    let small : AreSmall c.deref.result.now = λ n h.
    c.requires n (c.in_ok-constants.ensures.sound n (subst (λ l. Contains l n) c.deref.ensures.value h)) in
    subst (λ ns. 0 < length ns) (sym c.deref-2.ensures.value)
    (some_representative c.deref.result.now c.in_ok-numbers.numbers.items small c.in_ok-numbers.ensures)

pub returns-clause-names : goal.returns-clause-names
returns-clause-names c =
    let all = number_atoms (map constraint_of c.args.constraints.now) (formula_of c.args.question.now) in
    let are = subst (λ l. AreRepresentatives l reps) c.deref.ensures.value c.in_ok-numbers.ensures in
    IfOk-weaker c.spelled.result _ _
    (λ p e. names_are c.args.c.0 all constants reps p.0 p.1 c.in_ok-constants.ensures are
    (e ∙ ap (map canonical) c.deref-2.ensures.value)) c.spelled.ensures
  where
    open c use {in_ok-constants.constants.items as constants, in_ok-numbers.numbers.items as reps}

pub returns-clause-few : goal.returns-clause-few
returns-clause-few c =
    let all = number_atoms (map constraint_of c.args.constraints.now) (formula_of c.args.question.now) in
    let are = subst (λ l. AreRepresentatives l reps) c.deref.ensures.value c.in_ok-numbers.ensures in
    IfOk-weaker c.spelled.result _ _
    (λ p e. few_names c.args.c.0 all constants reps p.0 p.1 c.in_ok-constants.ensures are
    (e ∙ ap (map canonical) c.deref-2.ensures.value)) c.spelled.ensures
  where
    open c use {in_ok-constants.constants.items as constants, in_ok-numbers.numbers.items as reps}
