-- What one counterexample says of all choices of stored views.
--     IsSomeCounterexample    a counterexample to summarizability from some sources, the least or not
--     AreWays                 for each view whether a member reaches a category by way of the view's
--     IsPattern               that of a member at the bottom of some legal instance
--     ways_in                 how many of a mask's views are ways
use Rattle.std.specs.Prelude.{ℕ, suc, ◌+◌, ◌==◌, ◌↔◌, List, [], ◌∷◌, Bool, ◌&&◌, IsTrue, if◌then◌else◌}
use Rattle.std.specs.Int.{bit_at}
use Rattle.olap_ast.specs.Frozen.{root_place, thawed}
use Rattle.olap_ast.specs.Schema.{IsLegal, Schema}
use Rattle.olap_base.specs.Graph.{IsBottom}
use Rattle.olap_base.specs.Instance.{Instance, IsMember, ReachesCategory, ReachesVia, category_of}
use Rattle.olap_base.specs.Views.{View}
use Rattle.olap_frozen.specs.declared.founding.Found.{Found}
use Rattle.olap_frozen.specs.LeastFound.{frozen_of}
use Rattle.olap_names.specs.Names.{candidates_of}
use Rattle.olap_summ.specs.Counterexamples.{IsOneCounterexampleFound}

-- a counterexample to the summarizability of c from some sources
abbrev pub IsSomeCounterexample : Schema → ℕ → Found → Type 0
IsSomeCounterexample s c found = (sources : List ℕ) × IsOneCounterexampleFound s c sources found

-- the instance that it stands for
abbrev pub found_instance : Schema → Found → Instance
found_instance s found = thawed s (candidates_of found.candidates) found.frozen.root.0 (frozen_of found.frozen)

-- the place of its root's member
abbrev pub found_root : Schema → Found → ℕ
found_root s found = root_place s found.frozen.root.0 (frozen_of found.frozen)

-- for each view whether the member x reaches c by way of the view's category
abbrev pub AreWays : Instance → ℕ → ℕ → List (View ℕ ℕ) → List Bool → Type 0
AreWays i x c [] [] = Unit {0}
AreWays i x c [] (b ∷ ways) = ⊥
AreWays i x c (v ∷ views) [] = ⊥
AreWays i x c (v ∷ views) (b ∷ ways) = (IsTrue b ↔ ReachesVia i x v.target c) × AreWays i x c views ways

-- in some legal instance a member of a bottom category reaches c, by way of these views and of no others
pub record IsPattern (s : Schema) (views : List (View ℕ ℕ)) (c : ℕ) (ways : List Bool) : Type 0 where
  pub instance : Instance
  pub legal : IsLegal s instance
  pub member : ℕ
  pub is_member : IsMember instance member
  pub bottom : IsBottom s.graph (category_of instance member)
  pub reaches : ReachesCategory instance member c
  pub ways_are : AreWays instance member c views ways

-- how many views are ways whose bits are in the mask, where the first view's bit is the k-th
abbrev pub ways_from : ℕ → List Bool → ℕ → ℕ
ways_from k [] mask = 0
ways_from k (b ∷ ways) mask =
    if b && (bit_at mask k == 1) then suc (ways_from (k + 1) ways mask) else ways_from (k + 1) ways mask

-- how many views are ways whose bits are in the mask
abbrev pub ways_in : List Bool → ℕ → ℕ
ways_in ways mask = ways_from 0 ways mask
