-- What holds of the definition of a text of facts.
--     BottomIsDecided   its test of a bottom category holds of exactly those
--     ReadFactsFit      the values of the facts that are read have 64 bits
--     FactsAreMeant     what is read of a text is what it means
use Rattle.std.specs.Prelude.{◌≡◌, ◌↔◌, ℕ, List, All, FitsSigned, IsTrue, Ok}
use Rattle.std.specs.Int.{w64}
use Rattle.olap_base.specs.Graph.{Graph, IsBottom}
use Rattle.olap_base.specs.Instance.{Instance}
use Rattle.olap_base.specs.Views.{Fact}
use Rattle.olap_records.specs.Tables.{named}
use Rattle.olap_facts.specs.FactMeaning.{facts_meant}
use Rattle.olap_facts.specs.FactText.{facts_read_within, is_bottom}
use Rattle.olap_facts.specs.Kinds.{name_of_kind}

-- a category passes the test exactly if it is a bottom category
abbrev pub BottomIsDecided : Type 0
BottomIsDecided = (g : Graph) (c : ℕ) → IsTrue (is_bottom g c) ↔ IsBottom g c

-- the values of the facts that are read have 64 bits
abbrev pub ReadFactsFit : Type 0
ReadFactsFit = (most : ℕ) (g : Graph) (i : Instance) (records : List (List (List ℕ))) (facts : List (Fact ℕ))
    → facts_read_within most g i records ≡ Ok facts → All (λ f. FitsSigned w64 f.value) facts

-- what is read of a text is what it means, with a fault's name in place of its kind
abbrev pub FactsAreMeant : Type 0
FactsAreMeant = (most : ℕ) (g : Graph) (i : Instance) (records : List (List (List ℕ)))
    → facts_meant most g i records ≡ named name_of_kind (facts_read_within most g i records)
