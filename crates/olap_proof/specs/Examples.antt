-- Lines that are a certificate, and lines that aren't.
--     chain                      Store, City and `All`, one above the other
--     ChainIsCertified           City's totals can be taken from Store's: five lines say why
--     ChainIsShortlyCertified    and so do seven of the short form
--     EdgesAreDecidedOnce        no certificate decides an edge where it is decided
--     NamesAreDecidedOnce        nor a name
--     TheRootIsNotLoose          nor calls the bottom category of a tree loose
--     LinesAreSpelledExactly     nor has two spaces between words
use Rattle.std.specs.Prelude.{[], ◌∷◌, List, ℕ, codes, false}
use Rattle.olap_ast.specs.Formula.{Formula}
use Rattle.olap_ast.specs.Frozen.{Candidates}
use Rattle.olap_ast.specs.Schema.{Schema}
use Rattle.olap_ast.specs.Summarizable.{not_by_one}
use Rattle.olap_proof.specs.declared.forms.Form.{Form}
use Rattle.olap_proof.specs.declared.forms.Form.TheVariants.{Long, Short}
use Rattle.olap_proof.specs.Certificates.{IsCertificate, head_text}

-- Store, City and `All`, one above the other
abbrev pub chain : Schema
chain = record {
  graph = record {
    names = codes "Store" ∷ codes "City" ∷ [];
    numbers = false ∷ false ∷ [];
    edges = (record { child = 1; parent = 2 }) ∷ (record { child = 2; parent = 0 }) ∷ [];
  };
  constraints = [];
}

-- the question of a counterexample to City from Store
abbrev pub city_not_by_store : Formula
city_not_by_store = not_by_one 2 (1 ∷ [])

-- five lines are a certificate for City from Store
abbrev pub ChainIsCertified : Type 0
ChainIsCertified = (k : Candidates) → IsCertificate Long chain city_not_by_store k
    (codes "certificate 1" ∷ codes "bottom Store"
    ∷ codes "edge Store City" ∷ codes "dead Store" ∷ codes "question" ∷ [])

-- seven lines of the short form are one too
abbrev pub ChainIsShortlyCertified : Type 0
ChainIsShortlyCertified = (k : Candidates) → IsCertificate Short chain city_not_by_store k
    (codes "short certificate 1" ∷ codes "bottom Store" ∷ codes "reach Store City" ∷ codes "edge Store City"
    ∷ codes "dead Store" ∷ codes "steps Store City" ∷ codes "question" ∷ [])

-- no certificate decides an edge where it is decided, whatever its other lines are
abbrev pub EdgesAreDecidedOnce : Type 0
EdgesAreDecidedOnce = (f : Form) (k : Candidates) (others : List (List ℕ)) → IsCertificate f chain city_not_by_store k
    (head_text f ∷ codes "bottom Store" ∷ codes "edge Store City" ∷ codes "edge Store City" ∷ others) → ⊥

-- nor a name
abbrev pub NamesAreDecidedOnce : Type 0
NamesAreDecidedOnce = (f : Form) (k : Candidates) (others : List (List ℕ)) → IsCertificate f chain city_not_by_store k
    (head_text f ∷ codes "bottom Store" ∷ codes "name Store" ∷ codes "name Store" ∷ others) → ⊥

-- nor calls the bottom category of a tree loose
abbrev pub TheRootIsNotLoose : Type 0
TheRootIsNotLoose = (k : Candidates) (others : List (List ℕ)) → IsCertificate Long chain city_not_by_store k
    (head_text Long ∷ codes "bottom Store" ∷ codes "edge Store City" ∷ codes "dead Store" ∷ codes "loose Store City"
    ∷ others) → ⊥

-- nor has two spaces between words
abbrev pub LinesAreSpelledExactly : Type 0
LinesAreSpelledExactly = (f : Form) (k : Candidates) (others : List (List ℕ))
    → IsCertificate f chain city_not_by_store k (head_text f ∷ codes "bottom  Store" ∷ others) → ⊥
