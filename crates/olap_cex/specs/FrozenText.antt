-- The line of a frozen dimension.
--     edge_bits      its edges, one digit an edge
--     frozen_text    the line
use Rattle.std.specs.Prelude.{ℕ, List, [], ◌∷◌, ◌++◌, Bool, codes, filter, flat_map, length, map, if◌then◌else◌}
use Rattle.std.specs.List.{range_with_len}
use Rattle.olap_ast.specs.Frozen.{Candidates, Frozen, chosen, is_present, name_in}
use Rattle.olap_base.specs.Bytes.{digit_one, digit_zero, equals_sign, line_feed, space}
use Rattle.olap_base.specs.Graph.{Graph}
use Rattle.olap_grammar.specs.Quoting.{quoted}
use Rattle.olap_graph.specs.Lookups.{name_of_category}

-- `1` for a present edge and `0` for an absent one, or `-` if there are no edges
abbrev pub edge_bits : List Bool → List ℕ
edge_bits [] = codes "-"
edge_bits (b ∷ bits) = map (λ bit. if bit then digit_one else digit_zero) (b ∷ bits)

-- a space, the category's name, `=`, and the name of its member as a string
abbrev pub member_text : Graph → Candidates → Frozen → ℕ → List ℕ
member_text g k f c = space ∷ (name_of_category g c ++ equals_sign ∷ quoted (name_in k f c))

-- `frozen`, the edges, and the members of the present categories
abbrev pub frozen_text : Graph → Candidates → ℕ → Frozen → List ℕ
frozen_text g k root f =
    let present = filter (is_present root (chosen g.edges f.edges)) (range_with_len 1 (length g.names)) in
    codes "frozen " ++ (edge_bits f.edges ++ (flat_map (member_text g k f) present ++ line_feed ∷ []))
