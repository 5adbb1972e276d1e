-- What a search found, or didn't, once its names are there.
use Rattle.std.proofs.Common.{◌≡◌, ℕ, refl, subst, sym, ◌∙◌}
use Rattle.std.specs.Prelude.{Option, Some, None, Result, Ok, Err, IfOk, IfSome, IsNone}
use Rattle.olap_ast.specs.{Formula.Formula, Questions.NoneFrozen, Schema.Schema}
use Rattle.olap_dimsat.specs.{Finding.HasNone, Searches.{IsMadeWith, candidates_in, found_in, named_in, root_of}}
use Rattle.olap_dimsat.specs.declared.searching.Search.{Search}
use Rattle.olap_frozen.specs.declared.{founding.Found.Found, frozen.Frozen.Frozen}
use Rattle.olap_names.specs.Names.{Named}

-- what a search at r found is found at r, once it has the search's names
pub some_named : {E : Type 0} (P : ℕ → Found → Type 0) (search : Search) (r : ℕ) (n : Named)
    (frozen : Result (Option Frozen) E) (result : Result (Option Found) E) → root_of search ≡ r → n ≡ named_in search
    → IfOk frozen (λ o. IfSome o (λ f. P (root_of search) (found_in search f)))
    → IfOk result (λ o. IfSome o (λ found. frozen ≡ Ok (Some found.frozen)))
    → IfOk result (λ o. IfSome o (λ found. found.candidates ≡ n)) → IfOk result (λ o. IfSome o (P r))
some_named {E = E} P search r n frozen (Ok (Some found)) at e some is names =
    subst (λ x. P x found) at
    (subst (λ (m : Named). P (root_of search) (record { frozen = found.frozen; candidates = m })) (sym (names ∙ e))
    (subst (λ (o : Result (Option Frozen) E). IfOk o (λ w. IfSome w (λ f. P (root_of search) (found_in search f))))
    is some))
some_named {E = E} P search r n frozen (Ok None) at e some is names = tt
some_named {E = E} P search r n frozen (Err f) at e some is names = tt

-- where it found none there is none
pub none_named : {E : Type 0} (s : Schema) (q : Formula) (search : Search) (r : ℕ)
    (frozen : Result (Option Frozen) E) (result : Result (Option Found) E) → IsMadeWith s q search → root_of search ≡ r
    → IfOk frozen (λ o. IsNone o → NoneFrozen s q (root_of search) (candidates_in search))
    → IfOk result (λ o. IsNone o → frozen ≡ Ok None) → IfOk result (λ o. IsNone o → HasNone s q r)
none_named {E = E} s q search r frozen (Ok o) made at none is = λ e. (
  candidates_in search,
  made.task.question.candidates,
  rw (← at) (subst (λ (w : Result (Option Frozen) E). IfOk w (λ v. IsNone v
      → NoneFrozen s q (root_of search) (candidates_in search))) (is e) none refl),
)
none_named s q search r frozen (Err f) made at none is = tt
