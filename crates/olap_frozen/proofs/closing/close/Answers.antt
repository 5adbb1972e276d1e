use Rattle.std.proofs.Common.{inl, refl, arith}
use Rattle.olap_frozen.proofs.RowLemmas.{closed_rows}
use Rattle.olap_frozen.proofs.closing.close.Goals as goal

pub pass_all-requires-clause-own : goal.pass_all-requires-clause-own
pass_all-requires-clause-own c = λ x h. (c.draw.ensures.drawn x x h).1 (inl refl)

pub returns-clause-rows : goal.returns-clause-rows
returns-clause-rows c = grind (arith, closed_rows)
