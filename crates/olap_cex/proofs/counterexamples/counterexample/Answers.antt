-- The sums are those of one fact, and the text is the counterexample's.
use Rattle.std.proofs.Common.{ℕ, List, map, ◌∙◌, refl}
use Rattle.olap_cex.proofs.{CexLemmas.{cex_text_is, direct_is, no_ones, some_ones, views_are}, DraftLemmas.root_at}
use Rattle.olap_cex.proofs.counterexamples.counterexample.Goals.{then-ways-eq0, else-ways-eq0}
use Rattle.olap_cex.proofs.counterexamples.counterexample.Goals as goal

pub returns-clause-cex : goal.returns-clause-cex
returns-clause-cex c =
    let hier = w.ensures.hierarchy in
    let sources : List ℕ = map (λ s. s.0) c.args.sources.now in
    record {
      instance = c.in_ok-instance.ensures.instance;
      made = c.in_ok-instance.ensures.made;
      fact = c.place_of.ensures ∙ root_at g f r.found hier r.declared.0;
      target = refl;
      direct = direct_is g f r.found hier c.args.target.0 sources r.reaches w.ways w.ensures.count;
      views = views_are g f r.found hier c.args.target.0 sources r.reaches w.ways w.ensures.count
          ∙ elim c.if-ways-eq0.branch [
            | then-ways-eq0 b ↦ rw b.result-is (no_ones r.reaches.0 w.ways b.if-ways-eq0.true)
            | else-ways-eq0 b ↦ rw b.result-is (some_ones r.reaches.0 w.ways b.if-ways-eq0.false)
          ];
    }
  where
    open c use {args.graph.now as g, args.found.now as f, requires as r, in_ok-ways as w}

pub returns-clause-text : goal.returns-clause-text
returns-clause-text c =
    cex_text_is c.args.graph.now c.args.found.now c.requires.found c.in_ok-ways.ensures.hierarchy c.args.target.0
    (map (λ s. s.0) c.args.sources.now) _ (returns-clause-cex c)
