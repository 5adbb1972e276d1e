-- The view of the cities alone serves the regions, of whatever is made.
use Rattle.std.{proofs.Common.{◌≡◌, [], ◌∷◌, Ok, lit<, sym, subst, ◌∙◌}, specs.Prelude.Result}
use Rattle.olap_ast.specs.{Schema.Schema, Summarizable.IsSummarizable}
use Rattle.olap_generate.proofs.{Location.location_schema, LocationText.location_is_read, Serving.cities_serve_regions}
use Rattle.olap_generate.specs.{Location.{city, region}, Served.RegionsAreServed}

-- a result is of one value
only : {T E : Type 0} (x y : T) → ◌≡◌ {A = Result T E} (Ok x) (Ok y) → x ≡ y
only x y e = cc

-- the third view is that of the cities
pub regions_are_served : RegionsAreServed
regions_are_served seed size s i facts m =
    let is : s ≡ location_schema = only s location_schema (sym m.schema_text ∙ location_is_read) in (
      4,
      record {
        within = lit< tt;
        summarizable = subst (λ (t : Schema). IsSummarizable t region (city ∷ [])) (sym is) cities_serve_regions;
      },
    )
