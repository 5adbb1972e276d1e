-- The present categories of a choice of edges, and an instance in the making with a member for each.
--     has_end          whether a category is an end of an edge
--     first_present    the present ones of the first n declared categories
--     place_or_all     where the member of a category stands
--     drafted          the draft with these members
use Rattle.std.specs.Prelude.{ℕ, zero, suc, ◌==◌, ◌||◌, Bool, List, Option, Some, None, filter, if◌then◌else◌, length, map}
use Rattle.std.specs.List.{range_with_len}
use Rattle.olap_ast.specs.Frozen.{id_of, is_present}
use Rattle.olap_base.specs.Graph.{Edge, Graph, category_count}
use Rattle.olap_instance.specs.Drafts.{Draft, numbers_in}
use Rattle.olap_instance.specs.Members.{childless}

-- whether c is an end of the edge
abbrev pub has_end : ℕ → Edge → Bool
has_end c e = (e.child == c) || (e.parent == c)

-- the present ones of the first n declared categories
abbrev pub first_present : ℕ → List Edge → ℕ → List ℕ
first_present root edges n = filter (is_present root edges) (range_with_len 1 n)

-- the place of a present declared category's member; none for `All` and for absent ones
abbrev pub place_or_all : ℕ → List Edge → ℕ → Option ℕ
place_or_all root edges zero = None
place_or_all root edges (suc c) =
    if is_present root edges (suc c) then Some (length (first_present root edges c)) else None

-- members for the present ones of the first n declared categories, each below its parents by these edges
abbrev pub drafted : Graph → ℕ → List Edge → (ℕ → List ℕ) → ℕ → List Edge → Draft
drafted g root edges name n linked = record {
  categories = category_count g;
  numbers = numbers_in g;
  members = map (λ c. childless (id_of g c) c (name c)) (first_present root edges n);
  parents = map
      (λ c. map (λ e. place_or_all root edges e.parent) (filter (λ e. e.child == c) linked))
      (first_present root edges n);
}
