-- The tables of no decision.
use Rattle.std.proofs.Common.{List, map, subst, sym, ap}
use Rattle.olap_proof.{proofs.KeptWayLemmas.tables_none, specs.KeptTables.AreTables, specs.KeptWays.way_kept}
use Rattle.olap_proof.specs.Places.{Way}
use Rattle.olap_proof.proofs.ways.Ways.new.Goals as goal

pub invariant_of-result : goal.invariant_of-result
invariant_of-result c =
    subst (λ (ws : List Way). AreTables there absent ws) (sym (ap (map way_kept) c.new.ensures.items))
    (tables_none c.empty-nothing.result there absent c.empty-nothing.ensures
    (c.in_ok-vec.ensures.items_if_clones_equal (λ y e. e)) (c.in_ok-vec-2.ensures.items_if_clones_equal (λ y e. e)))
  where
    open c use {in_ok-vec.field-0.items as there, in_ok-vec-2.field-0.items as absent}
