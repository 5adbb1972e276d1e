use Rattle.std.proofs.Common.{refl, arith}
use Rattle.olap_dimsat.proofs.fitting.suits.Goals as goal

pub returns-then-lit-end-clause-yes : goal.returns-then-lit-end-clause-yes
returns-then-lit-end-clause-yes c = λ e. record {
  on = c.if-not-suits_edge.ensures.yes refl;
  named = λ k j h n t q.
      let before = c.requires.end k j h t in
      let behind = c.if-lit-end.true in
      absurd (omega (arith, before, behind, q));
}
