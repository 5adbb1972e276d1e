use Rattle.std.proofs.Common.{length, inl, refl, subst, sym, ◌∙◌}
use Rattle.olap_graph.{proofs.RowLemmas.reached_by_closure, specs.Tables.{LiesWithin, drawn}}
use Rattle.olap_graph.proofs.reaching.reach.Goals as goal

pub draw-requires-clause-within : goal.draw-requires-clause-within
draw-requires-clause-within c =
    subst (λ n. LiesWithin (drawn c.args.edges.now) n) (sym c.isolate.ensures.count) c.requires.within

pub close-requires-clause-own : goal.close-requires-clause-own
close-requires-clause-own c = λ x h. (c.draw.ensures.drawn x x h).1 (inl refl)

pub returns : goal.returns
returns c =
    reached_by_closure c.args.edges.now (length c.args.rows.now) c.draw.new.rows c.close.new.rows c.requires.within
    (c.draw.ensures.count ∙ c.isolate.ensures.count) c.draw.ensures.drawn c.close.ensures
