-- What a counterexample says of a frozen dimension.
--     IsWay       a source is on the way from the root to the target
--     IsCexFor    the instance, the fact and the two sums
--     cex_text    its lines
use Rattle.std.specs.Prelude.{◌≡◌, ◌++◌, ℕ, List, Some, pos}
use Rattle.std.specs.Option.{option_map}
use Rattle.olap_base.specs.Graph.{Graph}
use Rattle.olap_base.specs.Instance.{category_of}
use Rattle.olap_bits.specs.declared.sets.CatSet.{CatSet}
use Rattle.olap_graph.specs.Rows.{Has}
use Rattle.olap_frozen.specs.declared.founding.Found.{Found}
use Rattle.olap_instance.specs.Made.{IsMadeFor}
use Rattle.olap_instance.specs.Printing.{text_of_instance}
use Rattle.olap_cex.specs.CexText.{direct_sum, sums_text, views_sum}
use Rattle.olap_cex.specs.FoundFor.{found_instance, found_place}
use Rattle.olap_cex.specs.declared.counterexamples.Cex.{Cex}

-- the root reaches the source, and the source the target
abbrev pub IsWay : {W : ℕ} → List (CatSet W) → ℕ → ℕ → ℕ → Type 0
IsWay rows root target source = Has rows root source × Has rows source target

-- the instance, the fact at its root, and its total at c, directly and from the sources
pub record IsCexFor (g : Graph) (found : Found) (c : ℕ) (sources : List ℕ) (cex : Cex) : Type 0 where
  pub instance : cex.instance ≡ found_instance g found
  pub made : IsMadeFor g cex.instance
  pub fact : cex.fact.0 ≡ found_place g found
  pub target : cex.target.0 ≡ c
  pub direct : direct_sum (found_instance g found) (found_place g found) c ≡ Some (pos cex.direct)
  pub views : views_sum (found_instance g found) (found_place g found) c sources ≡ option_map pos cex.views

-- the text of the instance, the fact's category, and the sums
abbrev pub cex_text : Graph → Cex → List ℕ
cex_text g cex = text_of_instance g cex.instance
    ++ sums_text g (category_of cex.instance cex.fact.0) cex.target.0 (Some (pos cex.direct)) (option_map pos cex.views)
