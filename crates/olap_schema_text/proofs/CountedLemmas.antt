-- The distinct constants of the constraints so far, as the reader keeps them.
use Rattle.std.proofs.Common.{◌≡◌, ◌∙◌, ◌+◌, ℕ, Bool, true, false, List, [], ◌∷◌, ◌++◌, Option, Some, None, Result, Ok, Err, append-nil, length, fold, refl, ap, sym}
use Rattle.std.proofs.lemmas.List.{Concat.flat_map-append, Sums.fold-append}
use Rattle.std.specs.Prelude.{codes, flat_map, if◌then◌else◌, nat_lt}
use Rattle.olap_ast.proofs.ComparedLemmas.{constants_counted}
use Rattle.olap_ast.specs.{Atoms.{Comparison, Equality, comparisons, equalities}, Constants.all_compared}
use Rattle.olap_ast.specs.{Formula.Formula, Pairs.{with_number, with_pair}, Schema.Constraint, Valid.constant_count}
use Rattle.olap_base.specs.{Limits.most_constants, Refusing.IsFor, declared.refusals.Refusal.Refusal}
use Rattle.olap_base.specs.declared.refusals.Refusal.TheVariants.{Kind, Memory}
use Rattle.olap_grammar.specs.{Nodes.nodes_of, declared.tokens.Token.Token, declared.tokens.Version.Version}
use Rattle.olap_schema_text.specs.Judging.{Above, constraint_added, has_too_many_constants}
use Rattle.olap_schema_text.specs.{Kinds.{IsRefusedAs, name_of_kind}, Reading.AreCounted}
use Rattle.olap_schema_text.specs.declared.kinds.SchemaKind.{SchemaKind}

-- the atoms of one constraint more
pub one_behind : {A : Type 0} (atoms : Formula → List A) (cs : List Constraint) (c : Constraint)
    → flat_map (λ k. atoms k.formula) (cs ++ c ∷ []) ≡ flat_map (λ k. atoms k.formula) cs ++ atoms c.formula
one_behind atoms cs c =
    flat_map-append (λ k. atoms k.formula) cs (c ∷ [])
    ∙ ap (λ xs. flat_map (λ k. atoms k.formula) cs ++ xs) (append-nil (atoms c.formula))

-- what is folded over them
folded_on : {A : Type 0} (add : List A → A → List A) (atoms : Formula → List A) (cs : List Constraint) (f : Formula)
    (before : List A) → before ≡ fold add [] (flat_map (λ k. atoms k.formula) cs)
    → fold add [] (flat_map (λ k. atoms k.formula) cs ++ atoms f) ≡ fold add before (atoms f)
folded_on add atoms cs f before e =
    fold-append add [] (flat_map (λ k. atoms k.formula) cs) (atoms f)
    ∙ ap (λ xs. fold add xs (atoms f)) (sym e)

-- with one constraint more the pairs are still those of the constraints
pub counted_more : (cs more : List Constraint) (c : Constraint) (pairs now : List Equality)
    (numbers numbers_now : List Comparison) → AreCounted cs pairs numbers → more ≡ cs ++ c ∷ []
    → now ≡ fold with_pair pairs (equalities c.formula)
    → numbers_now ≡ fold with_number numbers (comparisons c.formula) → AreCounted more now numbers_now
counted_more cs more c pairs now numbers numbers_now k e p q = record {
  texts_are = p ∙ sym (ap (fold with_pair []) (ap (flat_map (λ (x : Constraint). equalities x.formula)) e
      ∙ one_behind equalities cs c) ∙ folded_on with_pair equalities cs c.formula pairs k.texts_are);
  numbers_are = q ∙ sym (ap (fold with_number []) (ap (flat_map (λ (x : Constraint). comparisons x.formula)) e
      ∙ one_behind comparisons cs c) ∙ folded_on with_number comparisons cs c.formula numbers k.numbers_are);
}

-- with a formula more there are as many constants as pairs
pub counted_is : (cs : List Constraint) (pairs : List Equality) (numbers : List Comparison) (f : Formula)
    → AreCounted cs pairs numbers → constant_count (all_compared cs f)
    ≡ length (fold with_pair pairs (equalities f)) + length (fold with_number numbers (comparisons f))
counted_is cs pairs numbers f k =
    constants_counted cs f
    ∙ (λ i. length (folded_on with_pair equalities cs f pairs k.texts_are i)
    + length (folded_on with_number comparisons cs f numbers k.numbers_are i))

-- what is found in the pairs
abbrev pub found_in : List Equality → List Comparison → Formula → Option (List ℕ)
found_in pairs numbers f =
    if nat_lt most_constants
    (length (fold with_pair pairs (equalities f)) + length (fold with_number numbers (comparisons f)))
    then Some (codes "TooManyConstants") else None

-- where there are too many pairs, there are too many constants
found_is : (cs : List Constraint) (pairs : List Equality) (numbers : List Comparison) (f : Formula)
    → AreCounted cs pairs numbers → found_in pairs numbers f
    ≡ (if has_too_many_constants cs f then Some (codes "TooManyConstants") else None)
found_is cs pairs numbers f k =
    ap (λ n. if nat_lt most_constants n then Some (codes "TooManyConstants") else None)
    (sym (counted_is cs pairs numbers f k))

-- the same of any test: what is found is the fault
is_fault : {A : Type 0} (b : Bool) (a : A) (k : List ℕ)
    → (if b then Some (codes "TooManyConstants") else None) ≡ Some k
    → ◌≡◌ {A = Result A (List ℕ)} (if b then Err (codes "TooManyConstants") else Ok a) (Err k)
is_fault true a k e = cc
is_fault false a k e = absurd (cc)

-- and where nothing is found there is none
no_fault : {A : Type 0} (b : Bool) (a : A) → (if b then Some (codes "TooManyConstants") else None) ≡ None
    → ◌≡◌ {A = Result A (List ℕ)} (if b then Err (codes "TooManyConstants") else Ok a) (Ok a)
no_fault true a e = absurd (cc)
no_fault false a e = refl

-- the constraint is added where nothing is found
pub added : (a : Above) (v : Version) (root : ℕ) (ts : List Token) (f : Formula) (pairs : List Equality)
    (numbers : List Comparison) → AreCounted a.constraints pairs numbers → found_in pairs numbers f ≡ None
    → constraint_added a v root ts f ≡ Ok (record a {
      constraints = a.constraints ++ record { root = root; formula = f } ∷ [];
      nodes = a.nodes + nodes_of v ts;
    })
added a v root ts f pairs numbers k e =
    no_fault (has_too_many_constants a.constraints f) _ (sym (found_is a.constraints pairs numbers f k) ∙ e)

-- and refused where a fault is
pub not_added : (a : Above) (v : Version) (root : ℕ) (ts : List Token) (f : Formula) (pairs : List Equality)
    (numbers : List Comparison) → AreCounted a.constraints pairs numbers → (r : Refusal SchemaKind)
    → IsFor (λ k. found_in pairs numbers f ≡ Some (name_of_kind k)) r
    → IsRefusedAs r (constraint_added a v root ts f)
not_added a v root ts f pairs numbers k (Kind x) e =
    is_fault (has_too_many_constants a.constraints f) _ _ (sym (found_is a.constraints pairs numbers f k) ∙ e)
not_added a v root ts f pairs numbers k (Memory m) e = e
