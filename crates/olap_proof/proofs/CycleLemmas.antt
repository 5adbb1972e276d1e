-- Cycles and shortcuts as chains of edges and as steps.
use Rattle.std.proofs.Common.{◌↔◌}
use Rattle.olap_base.specs.{Graph.Graph, Steps.{Climb-from_leads, leads_from_Climb}}
use Rattle.olap_trail.specs.Decisions.{HoldsCycle, HoldsShortcut}
use Rattle.olap_proof.specs.Closing.{IsCyclic, IsShortened}

-- a cycle
pub cyclic_is : (g : Graph) → HoldsCycle g ↔ IsCyclic g
cyclic_is g = (λ h. (h.0, leads_from_Climb h.1), λ h. (h.0, Climb-from_leads h.1))

-- a shortcut
pub shortened_is : (g : Graph) → HoldsShortcut g ↔ IsShortened g
shortened_is g = (
  λ h. (h.child, h.parent, h.through, h.edge, h.first, leads_from_Climb h.rest),
  λ h. record {
    child = h.0;
    parent = h.1;
    through = h.2;
    edge = h.3;
    first = h.4;
    rest = Climb-from_leads h.5;
  },
)
