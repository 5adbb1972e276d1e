-- Tests that return true exactly if what they ask holds. How they decide is hidden.
--     reaches             whether a member reaches another
--     category_reaches    whether a category reaches another
--     is_category_name    whether a text is a category name
--     .._is               the law of each: what its answer says
use Rattle.std.specs.Prelude.{ℕ, List, Bool, IsTrue, ◌↔◌}
use Rattle.olap_base.specs.Graph.{Graph, CategoryReaches, IsCategoryName}
use Rattle.olap_base.specs.Instance.{Instance, Reaches}
use Rattle.olap_base.specs.Deciding.{is_yes, is_yes_is, decide_reaches, decide_category_reaches, decide_category_name}

-- whether x reaches y, as a test; how it decides is hidden, and `reaches_is` says what it gives
pub reaches : Instance → ℕ → ℕ → Bool
reaches i x y = is_yes (decide_reaches i x y)

-- it is true exactly if x reaches y
pub reaches_is : (i : Instance) (x y : ℕ) → IsTrue (reaches i x y) ↔ Reaches i x y
unfolding reaches
reaches_is i x y = is_yes_is (decide_reaches i x y)

-- whether c reaches d, as a test; how it decides is hidden, and `category_reaches_is` says what it gives
pub category_reaches : Graph → ℕ → ℕ → Bool
category_reaches g c d = is_yes (decide_category_reaches g c d)

-- it is true exactly if c reaches d
pub category_reaches_is : (g : Graph) (c d : ℕ) → IsTrue (category_reaches g c d) ↔ CategoryReaches g c d
unfolding category_reaches
category_reaches_is g c d = is_yes_is (decide_category_reaches g c d)

-- whether the text is a category name, as a test; `is_category_name_is` says what it gives
pub is_category_name : List ℕ → Bool
is_category_name name = is_yes (decide_category_name name)

-- it is true exactly if the text is a category name
pub is_category_name_is : (name : List ℕ) → IsTrue (is_category_name name) ↔ IsCategoryName name
unfolding is_category_name
is_category_name_is name = is_yes_is (decide_category_name name)
