-- Frozen dimensions that can't be told apart have one line.
use Rattle.std.{proofs.Common.{◌≡◌, ℕ, [], ◌∷◌, ◌++◌, length}, specs.Prelude.{codes, flat_map}}
use Rattle.olap_base.specs.Graph.{Graph}
use Rattle.olap_ast.specs.Frozen.{Candidates, Frozen, chosen, name_in}
use Rattle.olap_cex.specs.{FrozenText.{edge_bits, frozen_text}, Present.first_present}
use Rattle.olap_grammar.specs.Quoting.{quoted}
use Rattle.olap_graph.specs.Lookups.{name_of_category}

-- frozen dimensions that can't be told apart have one line
pub same_line : (g : Graph) (k h : Candidates) (r d : ℕ) (f w : Frozen) → r ≡ d → f ≡ w
    → ((c : ℕ) → name_in k f c ≡ name_in h w c) → frozen_text g k r f ≡ frozen_text g h d w
same_line g k h r d f w q p n = λ i.
    codes "frozen " ++ (edge_bits (p i).edges ++ (flat_map
    (λ c. 32 ∷ (name_of_category g c ++ 61 ∷ quoted (n c i)))
    (first_present (q i) (chosen g.edges (p i).edges) (length g.names)) ++ 10 ∷ []))
