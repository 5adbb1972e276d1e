-- The views of a text of facts.
--     AreRolledUp   views are the direct ones of the facts that a text stands for
--     Rolling       what a roller is
--     HasTaken      it has taken some bytes of a text, and has their facts added up
use Rattle.std.specs.Prelude.{◌≡◌, ◌≤◌, ℕ, List, map, Ok}
use Rattle.olap_base.specs.Graph.{Graph}
use Rattle.olap_base.specs.Instance.{Instance}
use Rattle.olap_base.specs.Limits.{most_facts}
use Rattle.olap_base.specs.Views.{Fact, View, direct_view, members}
use Rattle.olap_facts.specs.FactText.{facts_read_within}
use Rattle.olap_facts.specs.Feeding.{Fed, Feeding}
use Rattle.olap_view.specs.Tallies.{StandsFor, Tallied}

-- the records stand for facts, and the views are the direct ones of these categories, in order
pub record AreRolledUp (g : Graph) (i : Instance) (records : List (List (List ℕ))) (categories : List ℕ)
    (views : List (View ℕ ℕ)) : Type 0 where
  pub facts : List (Fact ℕ)
  pub read : facts_read_within most_facts g i records ≡ Ok facts
  pub direct : views ≡ map (direct_view (members i) facts) categories

-- a reader of the facts of a text that comes in pieces, and the totals of the facts so far
pub record Rolling : Type 0 where
  pub feed : Feeding
  pub tally : Tallied

-- on this instance, for these categories, these bytes of a text were taken, and the tally stands for their facts
pub record HasTaken (g : Graph) (i : Instance) (categories fed : List ℕ) (r : Rolling) : Type 0 where
  pub graph : r.feed.graph ≡ g
  pub instance : r.feed.instance ≡ i
  pub categories_are : r.tally.categories ≡ categories
  pub facts : List (Fact ℕ)
  pub reads : Fed r.feed fed facts
  pub stands : StandsFor r.tally facts

-- ---- within

-- the roller of these parts
abbrev pub rolling : Feeding → Tallied → Rolling
rolling feed tally = record { feed = feed; tally = tally }

-- what is true of every roller: no fact is in the tally that wasn't read
pub record IsRoller (r : Rolling) : Type 0 where
  pub instance : r.tally.instance ≡ r.feed.instance
  pub most : r.feed.most ≡ most_facts
  pub few : r.tally.added ≤ r.feed.handed
