-- Each question that an order of this family comes to is about valid schemas.
use Rattle.std.proofs.Common.{ℕ, suc, List, [], ◌∷◌, ◌++◌, Option, None, Some}
use Rattle.std.proofs.lemmas.List.Elements.{All-nil, All-push}
use Rattle.std.specs.{Prelude.{◌+◌, ◌*◌, All, codes, drop, option_and_then, take, if◌then◌else◌}, Str.bytes_eq}
use Rattle.olap_base.specs.{Limits.most_views, Views.direct_view}
use Rattle.olap_ast.specs.{Schema.Schema, Valid.IsValidSchema}
use Rattle.olap_cubes.specs.Commands.{by_dimensions, cube_order, cubeview_order, dimensions_said, order_named}
use Rattle.olap_cubes.specs.{Cut.schema_files_from, Existing.IsAsked, Questions.{ByCube, Question}}
use Rattle.olap_cubes.specs.Steps.{cube_facts_file, different_tuples, legal_files, numbered, schema_files, tuple_word}
use Rattle.olap_cube.specs.CubeViews.{tuples}
use Rattle.olap_cube_views.specs.CubeViewText.{cube_view_text}
use Rattle.olap_order.proofs.Coming.{Comes, MayCome, asked, may_between, may_either, may_exactly, no_order, pass, then_comes, told}
use Rattle.olap_order.{proofs.ComingSteps.under_schema, specs.Arguments.{between, exactly, word}}
use Rattle.olap_order.specs.{Order.{Done, Order, Told}, declared.status.Status.TheVariants.Yes}
use Rattle.olap_schema_text.specs.Laws.{ReadSchemasAreReadable}

-- the schemas are valid
abbrev AreValid : List Schema → Type 0
AreValid schemas = All IsValidSchema schemas

-- the view of a cube leaves no question
of_cubeview : (k : ℕ) (words : List (List ℕ)) → Comes IsAsked (cubeview_order k words)
of_cubeview k words =
    let schemas = take k (drop 1 words) in
    let instances = take k (drop (k + 1) words) in
    let facts = word (2 * k + 3) words in
    let target = word (2 * k + 4) words in
    pass IsAsked (schema_files schemas) _ (λ ss.
    pass IsAsked (tuple_word ss (2 * k + 4) target) _ (λ c.
    pass IsAsked (legal_files ss instances) _ (λ is.
    pass IsAsked (cube_facts_file ss is facts) (λ table.
    Told Yes (cube_view_text is (direct_view (tuples is) table c)))
    (λ table. told IsAsked Yes (cube_view_text is (direct_view (tuples is) table c))))))

-- by this many dimensions
dimensions_come : (order : ℕ → List (List ℕ) → Option (Order Question)) (words : List (List ℕ))
    → ((k : ℕ) → MayCome IsAsked (order k words)) → MayCome IsAsked (by_dimensions order words)
dimensions_come order words f = go (dimensions_said (word 2 words))
  where
    go : (o : Option ℕ) → MayCome IsAsked (option_and_then (λ k. order k words) o)
    go None = no_order IsAsked
    go (Some k) = f k

module _ (readable : ReadSchemasAreReadable) where
  -- the schemas that are read are valid
  schemas_come : (dimension : ℕ) (earlier : List Schema) (files : List (List ℕ)) → AreValid earlier
      → Comes AreValid (schema_files_from dimension earlier files)
  schemas_come dimension earlier [] v = asked AreValid earlier v
  schemas_come dimension earlier (file ∷ files) v =
      under_schema readable AreValid (numbered (codes "schema") dimension) file
      (λ s. schema_files_from (suc dimension) (earlier ++ s ∷ []) files)
      (λ s r. schemas_come (suc dimension) (earlier ++ s ∷ []) files (All-push IsValidSchema earlier s v r.valid))

  of_cube : (k : ℕ) (words : List (List ℕ)) → Comes IsAsked (cube_order k words)
  of_cube k words =
      let schemas = take k (drop 1 words) in
      let target = word (k + 3) words in
      then_comes AreValid IsAsked (schema_files schemas) _ (schemas_come 1 [] schemas (All-nil IsValidSchema)) (λ ss v.
      pass IsAsked (tuple_word ss (k + 3) target) _ (λ c.
      pass IsAsked (different_tuples ss (k + 4) words) (λ cs.
      Done (ByCube ss c cs)) (λ cs. asked IsAsked (ByCube ss c cs) v)))

  -- so it is of whatever words
  pub asked_named : (name : List ℕ) (words : List (List ℕ)) → MayCome IsAsked (order_named name words)
  asked_named name words =
      let cubes : ℕ → List (List ℕ) → Option (Order Question) =
      λ k. between (k + 2) (k + most_views + 2) (cube_order k) in
      let views : ℕ → List (List ℕ) → Option (Order Question) = λ k. exactly (2 * k + 3) (cubeview_order k) in
      may_either IsAsked (bytes_eq name (codes "cube")) (by_dimensions cubes words)
      (if bytes_eq name (codes "cubeview") then by_dimensions views words else None)
      (dimensions_come cubes words
      (λ k. may_between IsAsked (k + 2) (k + most_views + 2) (cube_order k) words (of_cube k words)))
      (may_either IsAsked (bytes_eq name (codes "cubeview")) (by_dimensions views words) None
      (dimensions_come views words
      (λ k. may_exactly IsAsked (2 * k + 3) (cubeview_order k) words (of_cubeview k words)))
      (no_order IsAsked))
