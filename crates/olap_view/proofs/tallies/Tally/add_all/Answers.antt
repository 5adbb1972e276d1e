-- One fact more.
use Rattle.std.proofs.Common.{ℕ, ◌∷◌, ◌++◌, ◌∙◌, [], List, append_assoc, get_or, map, take, ap, sym, subst, pos, arith}
use Rattle.std.proofs.lemmas.List.{map-append, take_more}
use Rattle.olap_base.specs.Views.{Fact}
use Rattle.olap_facts.specs.Seen.{fact_of}
use Rattle.olap_view.specs.Tallies.{StandsFor}
use Rattle.olap_facts.specs.declared.tables.Fact as told
use Rattle.olap_view.proofs.tallies.Tally.add_all.Goals as goal

nothing : told.Fact
nothing = record { member = record { 0 = 0 }; value = pos 0 }

pub facts-preserved : goal.facts-preserved
unfolding nothing
facts-preserved c =
    let f = fact_of (get_or xs k nothing) in
    let more = ap (map fact_of) (take_more xs k nothing c.facts-test.true)
    ∙ map-append fact_of (take k xs) (get_or xs k nothing ∷ []) in
    record {
      instance = c.add.ensures.instance ∙ inv.instance;
      categories = c.add.ensures.categories ∙ inv.categories;
      added = omega (arith, c.add.ensures.added, inv.added);
      stands = λ before s.
          let whole = append_assoc before (map fact_of (take k xs)) (f ∷ [])
          ∙ ap (λ (t : List (Fact ℕ)). before ++ t) (sym more) in
          subst (λ (fs : List (Fact ℕ)). StandsFor c.add.new.self fs) whole
          (c.add.ensures.stands (before ++ map fact_of (take k xs)) (inv.stands before s));
    }
  where
    open c use {args.facts.now as xs, facts.fact-index as k, facts.invariant as inv}
