-- The candidates are those of the search, and its root is the root.
use Rattle.std.{proofs.Common.{◌≡◌, map, refl, sym, subst, ◌∙◌}, specs.Prelude.{All, IfErr, IfOk}}
use Rattle.olap_ast.{proofs.SourceLemmas.no_more_constants, specs.Formula.Formula.Truth}
use Rattle.olap_base.specs.{Limits.most_frozen, Refusing.IsFor}
use Rattle.olap_dimsat.specs.{Listed.{AreAllFrozen, AreMoreThan}, Searches.candidates_in}
use Rattle.olap_frozen.specs.{LeastFound.frozen_of, Leaves.IsSized}
use Rattle.olap_names.specs.Names.{Named, candidates_of}
use Rattle.olap_schema.specs.Schemas.{schema_of}
use Rattle.olap_reasoning.proofs.listing.answered.Goals as goal

pub new-requires-clause-few : goal.new-requires-clause-few
new-requires-clause-few c =
    no_more_constants (schema_of c.args.schema.now) Truth c.constraints-constraints.ensures.valid refl refl

pub told-requires-clause-all : goal.told-requires-clause-all
told-requires-clause-all c =
    let s = schema_of c.args.schema.now in
    let o = c.all-all.result in
    subst (λ (k : Named). IfOk o (λ fs. AreAllFrozen s Truth c.args.root.0 (candidates_of k) (map frozen_of fs)))
    (sym (c.into_candidates-candidates.ensures ∙ c.all-all.ensures.candidates))
    (subst (λ q. IfOk o (λ fs. AreAllFrozen s Truth q (candidates_in c.in_ok-search.search) (map frozen_of fs)))
    c.in_ok-search.ensures.root c.all-all.ensures.all)

pub told-requires-clause-roots : goal.told-requires-clause-roots
told-requires-clause-roots c =
    subst (λ q. IfOk c.all-all.result (λ fs. All (λ f. f.root.0 ≡ q) fs)) c.in_ok-search.ensures.root
    c.all-all.ensures.roots

pub told-requires-clause-sized : goal.told-requires-clause-sized
told-requires-clause-sized c =
    let s = schema_of c.args.schema.now in
    subst (λ (k : Named). IfOk c.all-all.result (λ fs. All (λ f. IsSized s.graph k f.edges f.names) fs))
    (sym (c.into_candidates-candidates.ensures ∙ c.all-all.ensures.candidates)) c.all-all.ensures.sized

pub told-requires-clause-too_many : goal.told-requires-clause-too_many
told-requires-clause-too_many c =
    let s = schema_of c.args.schema.now in
    let o = c.all-all.result in
    subst (λ (k : Named). IfErr o (IsFor (λ e. AreMoreThan most_frozen s Truth c.args.root.0 (candidates_of k))))
    (sym (c.into_candidates-candidates.ensures ∙ c.all-all.ensures.candidates))
    (subst (λ q. IfErr o (IsFor (λ e. AreMoreThan most_frozen s Truth q (candidates_in c.in_ok-search.search))))
    c.in_ok-search.ensures.root c.all-all.ensures.too_many)
