-- The names so far stand after the earlier bytes.
use Rattle.std.proofs.Common.{◌≡◌, ◌++◌, length, map}
use Rattle.olap_schema_text.specs.Printing.{names_after}
use Rattle.olap_schema_text.proofs.printing.push_names.Given as goal

abbrev pub invariant-categories : goal.invariant-categories
invariant-categories l =
    l.out.items ++ names_after l.graph l.mark (map (λ c. c.0) l.left)
    ≡ l.initial.out.items ++ names_after l.graph l.mark (map (λ c. c.0) l.fn.categories)

abbrev pub decreases-categories : goal.decreases-categories
decreases-categories l = length l.left
