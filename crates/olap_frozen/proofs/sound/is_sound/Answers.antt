use Rattle.std.proofs.Common.{false, subst, arith}
use Rattle.olap_frozen.{proofs.SoundLemmas.{reach_all_of_sound, fits_of_sound, sound_of_fits}, specs.Rows.ReachAll}
use Rattle.olap_frozen.proofs.sound.is_sound.Goals as goal

pub returns-then-not-tops : goal.returns-then-not-tops
returns-then-not-tops c = grind (arith, reach_all_of_sound)

pub returns-then-not-fits : goal.returns-then-not-fits
returns-then-not-fits c = grind (arith, fits_of_sound)

pub returns : goal.returns
returns c = (
  λ e. sound_of_fits c.args.graph.now c.args.root.0 c.args.edges.now c.args.rows.now
      c.categories-count.ensures.hierarchy c.requires.root c.requires.rows
      (λ i h b. c.edges.invariant i (let k = c.edges-e-end.ensures.count in omega arith) b)
      (subst (λ n. ReachAll c.args.rows.now c.args.root.0 n) c.categories-count.ensures.count
      (c.tops.ensures.0 c.if-not-tops.false)),
  λ s. cc,
)
