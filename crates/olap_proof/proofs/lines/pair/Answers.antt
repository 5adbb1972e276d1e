use Rattle.std.proofs.Common.{◌≡◌, ◌++◌, ◌∷◌, List, ℕ, Bor, subst, refl}
use Rattle.std.specs.Prelude.{Contains, IfSome, IsNone, Option}
use Rattle.olap_graph.specs.Lookups.{name_of_category}
use Rattle.olap_proof.proofs.LineLemmas.{pair_cut, unparted}
use Rattle.olap_proof.proofs.lines.pair.Goals as goal

pub returns-in_err-child-in-Some-clause-none : goal.returns-in_err-child-in-Some-clause-none
returns-in_err-child-in-Some-clause-none c = λ u a b i j e.
    let w = c.cut.result.0.now in
    let P : Option (Bor (List ℕ)) → Type 0 = λ o. IfSome o (λ r. c.args.bytes.now ≡ w ++ 32 ∷ r.now) in
    let split = subst P c.in-Some.is c.cut.ensures.some in
    let names = pair_cut c.args.graph.now c.categories-graph.ensures.hierarchy a b i c.args.bytes.now w
    c.in-Some.rest.now c.cut.ensures.first split e in
    c.in_err-child-in-Some.ensures.none refl a i names.0

pub returns-in_err-parent-in-Some-clause-none : goal.returns-in_err-parent-in-Some-clause-none
returns-in_err-parent-in-Some-clause-none c = λ u a b i j e.
    let w = c.cut.result.0.now in
    let P : Option (Bor (List ℕ)) → Type 0 = λ o. IfSome o (λ r. c.args.bytes.now ≡ w ++ 32 ∷ r.now) in
    let split = subst P c.in-Some.is c.cut.ensures.some in
    let names = pair_cut c.args.graph.now c.categories-graph.ensures.hierarchy a b i c.args.bytes.now w
    c.in-Some.rest.now c.cut.ensures.first split e in
    c.in_err-parent-in-Some.ensures.none refl b j names.1

pub returns-in-None-clause-none : goal.returns-in-None-clause-none
returns-in-None-clause-none c = λ u a b i j e.
    let P : Option (Bor (List ℕ)) → Type 0 = λ o. IsNone o → c.cut.result.0.now ≡ c.args.bytes.now in
    let whole = subst P c.in-None.is c.cut.ensures.none refl in
    unparted 32 c.args.bytes.now (name_of_category c.args.graph.now a) (name_of_category c.args.graph.now b)
    (subst (λ (z : List ℕ). Contains z 32 → ⊥) whole c.cut.ensures.first) e
