-- The totals by region can be taken from the view of the cities.
use Rattle.std.proofs.Common.{◌≡◌, ℕ, [], ◌∷◌, sym, subst, ◌∙◌, inl, arith}
use Rattle.olap_base.{proofs.ViewLemmas.agree_exactly, specs.Graph.HasEdge}
use Rattle.olap_base.specs.Instance.{Instance, IsBelow, IsMemberOf, ReachesVia, category_of}
use Rattle.olap_base.specs.Steps.{Steps, Steps.here, Steps.step, Steps-from_reaches, reaches_from_Steps}
use Rattle.olap_ast.specs.{Schema.IsLegal, Summarizable.IsSummarizable}
use Rattle.olap_generate.proofs.Location.{bottom_is_store, location_graph, location_schema, store_city}
use Rattle.olap_generate.specs.Location.{city, region, store}

-- a store's way up begins with a city
by_city : (i : Instance) → IsLegal location_schema i → (x y : ℕ) → category_of i x ≡ store → IsMemberOf i region y
    → Steps (IsBelow i) x y → ReachesVia i x city region
by_city i l x y e m here = absurd (let q : store ≡ region = sym e ∙ m.1 in omega arith)
by_city i l x y e m (step {y = z} b s) =
    let from_store = subst (λ c. HasEdge location_graph c (category_of i z)) e (l.lawful.connectivity x z b) in
    let in_city : IsMemberOf i city z =
    (l.is_instance.parents_are_members x z b, store_city (category_of i z) from_store) in
    (z, in_city, reaches_from_Steps (step b here), (y, m, reaches_from_Steps s))

-- the regions are summarizable from the cities
pub cities_serve_regions : IsSummarizable location_schema region (city ∷ [])
cities_serve_regions i l = (agree_exactly location_graph i region (city ∷ []) l.is_instance l.lawful).1
    (λ x m b r. inl (by_city i l x r.0 ((bottom_is_store (category_of i x)).0 b) r.1 (Steps-from_reaches r.2), tt))
