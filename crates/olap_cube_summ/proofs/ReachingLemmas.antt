-- The roots reach the target by a source exactly if they do in every dimension, by the rows of what categories reach.
use Rattle.std.proofs.Common.{◌≡◌, ℕ, zero, suc, ◌<◌, ◌↔◌, List, [], ◌∷◌, length, get_or, ◌∙◌, subst, arith}
use Rattle.olap_ast.specs.Schema.{Schema}
use Rattle.olap_cex.{proofs.CountLemmas.way_is, specs.CexFor.IsWay}
use Rattle.olap_cube_summ.proofs.PlaceLemmas.{category_at, drawn_at, drawn_count}
use Rattle.olap_cube_summ.specs.{Dimensions.{AreCategoriesOf, no_schema}, Drawn.{AreDrawn, IsDrawn}}
use Rattle.olap_cube_summ.specs.Reaching.{ReachBy, ReachesAt, ReachesBy}
use Rattle.olap_frozen.specs.declared.{founding.Found.Found, frozen.Room.Room}
use Rattle.olap_base.proofs.ListLemmas.{get_or_inside}

-- ---- the i-th dimension

-- the root and the source have rows, and a way in the rows is one in the instance
pub record IsWayAt (ss : List Schema) (fs : List Found) (f : Found) (room : Room) (t c : List ℕ) (i : ℕ) : Type 0 where
  pub root : f.frozen.root.0 < length room.rows.items
  pub source : get_or t i 0 < length room.rows.items
  pub ways : (d : Found) → IsWay room.rows.items f.frozen.root.0 (get_or c i 0) (get_or t i 0)
      ↔ ReachesBy (get_or ss i no_schema) (get_or fs i d) (get_or t i 0) (get_or c i 0)

-- by the rows of one dimension, whether its category of the source is a way
pub way_at : (ss : List Schema) (fs : List Found) (rooms : List Room) (t c : List ℕ) (i : ℕ) (f : Found) (room : Room)
    → AreDrawn ss fs rooms → AreCategoriesOf ss t → i < length ss → f ≡ get_or fs i f → room ≡ get_or rooms i room
    → IsWayAt ss fs f room t c i
way_at ss fs rooms t c i f room a source l found_is room_is =
    let s = get_or ss i no_schema in
    let drawn : IsDrawn s f room = rw (← found_is, ← room_is) at (drawn_at ss fs rooms i f room a l) in
    let category = category_at ss t i source l in
    let count = drawn.count in
    let root = drawn.root in
    let fits : i < length fs = omega (arith, (drawn_count ss fs rooms a).0) in
    record {
      root = omega arith;
      source = omega arith;
      ways = λ d. subst (λ (g : Found). IsWay room.rows.items f.frozen.root.0 (get_or c i 0) (get_or t i 0)
          ↔ ReachesBy s g (get_or t i 0) (get_or c i 0)) (found_is ∙ get_or_inside fs i f d fits)
          (way_is s.graph f drawn.root drawn.hierarchy room.rows.items drawn.rows (get_or c i 0) (get_or t i 0)
          category);
    }

-- ---- all dimensions

-- what the roots do in every dimension they do in each
pub each_reaches : (ss : List Schema) (fs : List Found) (ts cs : List ℕ) (k : ℕ) → k < length ss → k < length fs
    → ReachBy ss fs ts cs → ReachesAt ss fs ts cs k
each_reaches (s ∷ ss) (f ∷ fs) [] cs k l m v d = absurd v
each_reaches (s ∷ ss) (f ∷ fs) (t ∷ ts) [] k l m v d = absurd v
each_reaches (s ∷ ss) (f ∷ fs) (t ∷ ts) (c ∷ cs) zero l m v d = v.0
each_reaches (s ∷ ss) (f ∷ fs) (t ∷ ts) (c ∷ cs) (suc k) l m v d =
    each_reaches ss fs ts cs k (omega arith) (omega arith) v.1 d
each_reaches ss fs ts cs k l m v d = absurd (omega arith)

-- and the other way round
pub all_reach : (ss : List Schema) (fs : List Found) (ts cs : List ℕ) → length fs ≡ length ss → length ts ≡ length ss
    → length cs ≡ length ss → ((k : ℕ) → k < length ss → ReachesAt ss fs ts cs k) → ReachBy ss fs ts cs
all_reach [] [] [] [] a b e h = tt
all_reach (s ∷ ss) (f ∷ fs) (t ∷ ts) (c ∷ cs) a b e h = (
  h 0 (omega arith) f,
  all_reach ss fs ts cs (omega arith) (omega arith) (omega arith) (λ k l d. h (suc k) (omega arith) d),
)
all_reach ss fs ts cs a b e h = absurd (omega arith)
