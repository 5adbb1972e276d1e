use Rattle.olap_names.specs.Walks.{IsLastOpen}
use Rattle.olap_plain.specs.Searching.{code_of}
use Rattle.olap_plain.proofs.searching.last_absent.Given as goal

abbrev pub invariant-edges : goal.invariant-edges
invariant-edges l = IsLastOpen (λ c. 1) (code_of l.edges) l.e l.last
