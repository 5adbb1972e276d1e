-- The variables of edges, of categories and of names.
--     on_variable        the variable of an edge
--     present_variable   that of a category's presence
--     name_variable      that of a name beside the first
use Rattle.std.specs.Prelude.{ℕ, ◌+◌, slice_index}
use Rattle.olap_encoding.specs.declared.layout.Layout.{Layout}

-- the variable of an edge
abbrev pub on_variable : ℕ → ℕ
on_variable e = 1 + e

-- the variable of a category's presence
abbrev pub present_variable : Layout → ℕ → ℕ
present_variable l c = 1 + l.edges + c

-- the variable that a category's name is the one at the place j beside the first
abbrev pub name_variable : Layout → ℕ → ℕ → ℕ
name_variable l c j = slice_index l.starts.items c + j
