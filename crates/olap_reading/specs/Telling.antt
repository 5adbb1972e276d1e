-- The words that report a violation of the program.
--     law_text      which law is broken, or that it is a constraint
--     named_text    what a violation names
--     told_text     the one, and the other
--     IsTellable    the members and the category of a violation are there
use Rattle.std.specs.Prelude.{ℕ, List, ◌++◌, codes}
use Rattle.std.specs.Fmt.{decimal}
use Rattle.olap_base.specs.Graph.{Graph, IsCategory}
use Rattle.olap_base.specs.Instance.{Instance, IsMember}
use Rattle.olap_graph.specs.Lookups.{name_of_category}
use Rattle.olap_check.specs.declared.violations.Violation.{Violation}
use Rattle.olap_check.specs.declared.violations.Violation.TheVariants as law
use Rattle.olap_reading.specs.Violations.{id_text}

-- two members
abbrev pub pair_text : Instance → ℕ → ℕ → List ℕ
pair_text i x y = id_text i x ++ (codes " " ++ id_text i y)

-- which law is broken, or that it is a constraint
abbrev pub law_text : Violation → List ℕ
law_text (law.Connectivity x y) = codes "Connectivity "
law_text (law.NoParent x) = codes "NoParent "
law_text (law.Stratification x) = codes "Stratification "
law_text (law.Partitioning x c) = codes "Partitioning "
law_text (law.Shortcut x y) = codes "Shortcut "
law_text (law.Constraint n x) = codes "Constraint "

-- what a violation names: its members, and a category or the constraint's number
abbrev pub named_text : Graph → Instance → Violation → List ℕ
named_text g i (law.Connectivity x y) = pair_text i x.0 y.0
named_text g i (law.NoParent x) = id_text i x.0
named_text g i (law.Stratification x) = id_text i x.0
named_text g i (law.Partitioning x c) = id_text i x.0 ++ (codes " " ++ name_of_category g c.0)
named_text g i (law.Shortcut x y) = pair_text i x.0 y.0
named_text g i (law.Constraint n x) = decimal n ++ (codes " " ++ id_text i x.0)

-- which law or constraint is broken, and by which members
abbrev pub told_text : Graph → Instance → Violation → List ℕ
told_text g i v = law_text v ++ named_text g i v

-- the members that a violation names are of the instance, and its category is one of the graph
abbrev pub IsTellable : Graph → Instance → Violation → Type 0
IsTellable g i (law.Connectivity x y) = IsMember i x.0 × IsMember i y.0
IsTellable g i (law.NoParent x) = IsMember i x.0
IsTellable g i (law.Stratification x) = IsMember i x.0
IsTellable g i (law.Partitioning x c) = IsMember i x.0 × IsCategory g c.0
IsTellable g i (law.Shortcut x y) = IsMember i x.0 × IsMember i y.0
IsTellable g i (law.Constraint n x) = IsMember i x.0
