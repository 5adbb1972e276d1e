use Rattle.std.{proofs.Common.{◌≡◌, ◌-◌, ◌≤◌, map, vec_len}, specs.Prelude.{All, IfSome, None}}
use Rattle.olap_clauses.specs.Engines.{trail_of, variables_of}
use Rattle.olap_frozen.specs.LeastFound.{frozen_of}
use Rattle.olap_dimsat.{proofs.ListedLemmas.{HasAll, IsAhead, IsFront}, specs.Asking.{IsFor, IsSuited, task_of}}
use Rattle.olap_dimsat.specs.{Branches.IsOpen, Following.IsHanded, Pinned.IsReady}
use Rattle.olap_dimsat.proofs.listing.list.Given as goal

abbrev pub invariant-listed : goal.invariant-listed
invariant-listed l = record {
  few : vec_len l.list ≤ l.limit;
  handed : All (IsHanded (task_of l.a)) l.list.items;
  front : IsFront (task_of l.a) l.apart (map frozen_of l.list.items);
  ahead : IfSome l.place (λ p. IsAhead (task_of l.a) l.apart (map frozen_of l.list.items) (frozen_of l.best));
  branches : IfSome l.place (λ p.
      IsOpen (task_of l.a) p l.apart (frozen_of l.best) (trail_of l.engine) l.branches.items);
  whole : l.place ≡ None → HasAll (task_of l.a) l.apart (map frozen_of l.list.items);
  best : IsFor (task_of l.a) l.best;
  suited : IsSuited (task_of l.a) l.leaf (variables_of l.engine);
  ready : IsReady (task_of l.a) l.engine;
}

abbrev pub decreases-listed : goal.decreases-listed
decreases-listed l = l.limit - vec_len l.list
