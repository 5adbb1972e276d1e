-- From the reader to formulas.
use Rattle.std.{proofs.Common.{◌≡◌, List, [], ◌∷◌, refl, Some}, specs.List.fold}
use Rattle.olap_grammar.{proofs.Complete.formula_is_read, proofs.Sound.read_is_formula, specs.Clip.clipped}
use Rattle.olap_grammar.specs.{Forms.Form, Grammar.{Atoms, IsFormula}, Machine.{State, Bad, step, ended, the_formula}}
use Rattle.olap_grammar.specs.{Reader.{Built, ReadsNone}, declared.refusals.NoFormula.NoFormula}
use Rattle.olap_grammar.specs.declared.tokens.Token.{Token}
use Rattle.olap_base.specs.{Refusing.IsFor, declared.refusals.Refusal.Refusal}
use Rattle.olap_base.specs.declared.refusals.Refusal.TheVariants as refusal

-- a formula is found
pub formula_is_found : (a : Atoms Form) (ts : List Token) (f : Form) → IsFormula a 1 ts f
    → the_formula a ts ≡ Some f
unfolding the_formula
formula_is_found a ts f d = formula_is_read a ts f d

-- what is found is a formula
pub found_is_formula : (a : Atoms Form) (ts : List Token) (f : Form) → the_formula a ts ≡ Some f
    → IsFormula a 1 ts f
unfolding the_formula
found_is_formula a ts f e = read_is_formula a ts f e

-- tokens are at most one formula
pub one_tree : (a : Atoms Form) (ts : List Token) (f g : Form) → IsFormula a 1 ts f
    → IsFormula a 1 ts g → f ≡ g
one_tree a ts f g d e =
    let p : the_formula a ts ≡ Some f = formula_is_found a ts f d in
    let q : the_formula a ts ≡ Some g = formula_is_found a ts g e in
    cc

-- a machine that failed stays so
pub stays_bad : (a : Atoms Built) (ts : List Token) → fold (step clipped a) Bad ts ≡ Bad
stays_bad a [] = refl
stays_bad a (t ∷ ts) = stays_bad a ts

-- where a step fails, there is no formula
pub fails : (a : Atoms Built) (e : Refusal NoFormula) (next : State Built) (ts : List Token)
    → IsFor (λ _. next ≡ Bad) e → ReadsNone e (ended clipped a (fold (step clipped a) next ts))
fails a (refusal.Kind r) next ts h = rw (h, stays_bad a ts) refl
fails a (refusal.Memory m) next ts h = tt
