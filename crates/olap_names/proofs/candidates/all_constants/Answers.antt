use Rattle.std.proofs.Common.{◌≡◌, map, arith, subst}
use Rattle.olap_ast.specs.Trees.{constraint_of, formula_of}
use Rattle.olap_names.{proofs.CandidateLemmas.{AreListed, listed_everywhere, listed_more}, specs.Names.atoms}
use Rattle.olap_names.proofs.candidates.all_constants.Goals as goal

pub categories-preserved : goal.categories-preserved
categories-preserved c = listed_more (atoms (map constraint_of c.args.constraints.now) (formula_of c.args.question.now))
    c.categories.c c.categories.texts.items c.push.new.self.items c.in_ok-constants_of.field-0 c.categories.invariant
    c.in_ok-constants_of.ensures c.in_ok-push.ensures.items

pub returns : goal.returns
returns c = λ d.
    let all = atoms (map constraint_of c.args.constraints.now) (formula_of c.args.question.now) in
    let e : c.categories.c ≡ c.args.categories = omega arith in
    let l = subst (λ n. AreListed all n c.categories.texts.items) e c.categories.invariant in
    listed_everywhere all c.args.categories c.categories.texts.items c.requires l d
