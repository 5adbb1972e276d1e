-- What a search keeps from call to call.
use Rattle.std.proofs.Common.{◌≡◌, ℕ, zero, suc, ◌<◌, ◌≤◌, Bool, List, [], ◌∷◌, length, set, take, refl, ap, sym, subst, ◌∙◌, arith}
use Rattle.std.{proofs.lemmas.List.length-set, specs.Prelude.slice_index}
use Rattle.olap_ast.specs.{Formula.Formula, Frozen.Frozen, Schema.Schema, Valid.IsValidSchema}
use Rattle.olap_base.specs.{Graph.{Graph, category_count}, declared.ids.CatId.CatId}
use Rattle.olap_clauses.specs.{Engines.{admits, trail_of, variables_of}, Standing.AgreesDecisions}
use Rattle.olap_clauses.specs.declared.{engine.Engine.Engine, trails.Step.Step}
use Rattle.olap_pool.specs.{Pools.AreTrue, declared.pools.Pool.Pool}
use Rattle.olap_dimsat.{proofs.WitnessLemmas.ready_still, specs.Asking.{IsFor, IsSuited}, specs.OneFound.IsOneFound}
use Rattle.olap_dimsat.specs.{Pinned.{AreShaped, IsEncoded, IsLeast, IsReady}, Posed.IsPosed, Reads.Reads}
use Rattle.olap_dimsat.specs.Searches.{IsMadeWith, IsSizedFor, found_in, root_of, task_in}
use Rattle.olap_dimsat.specs.{Tasks.{IsOne, IsTask, Task, graph_of}, declared.asker.Leaf.Leaf}
use Rattle.olap_dimsat.specs.declared.searching.Search.{Search}
use Rattle.olap_frozen.specs.LeastFound.{IsLeastFound, frozen_of}
use Rattle.olap_frozen.specs.Leaves.{IsSized, IsZeroAtAll, chosen_of, of_declared}
use Rattle.olap_names.specs.Names.{others_of}
use Rattle.olap_trail.specs.Decisions.{Decided}
use Rattle.olap_frozen.specs.declared.frozen.Frozen as kept

-- the first none are none
take_none : (ss : List Step) → take 0 ss ≡ []
take_none [] = refl
take_none (s ∷ ss) = refl

-- an engine that was taken back to nothing has nothing
pub undone : (e : Engine) (ss : List Step) → trail_of e ≡ take 0 ss → trail_of e ≡ []
undone e ss q = q ∙ take_none ss

-- the state is fit for an engine of as many variables
pub suited_still : (t : Task) (leaf : Leaf) (m n : ℕ) → IsSuited t leaf m → n ≡ m → IsSuited t leaf n
suited_still t leaf m n s q = rw q s

-- an engine that admits what satisfies the pool admits all frozen dimensions
pub ready_first : (t : Task) (pool : Pool) (e : Engine) → IsEncoded t pool
    → ((v : ℕ → Bool) → AreTrue v pool → admits v e) → IsReady t e
ready_first t pool e i a f one = let w = i.each f one in (w.0, w.1, a w.0 w.2)

-- ---- how it begins

-- a value with nothing present, for the graph that is the schema's
pub blank_for : (g : Graph) (t : Task) (f : kept.Frozen) (r : CatId) → g ≡ graph_of t → r.0 ≡ t.question.root
    → f.root ≡ r
    → length f.edges ≡ length g.edges → length f.names ≡ category_count g → IsFor t f
blank_for g t f r same root a b c = record {
  root = ap (λ (x : CatId). x.0) a ∙ root;
  edges = b ∙ ap (λ (h : Graph). length h.edges) same;
  names = c ∙ ap category_count same;
}

-- the parts of a search, put together
pub made_first : (s : Schema) (q : Formula) (g : Graph) (search : Search) → g ≡ s.graph → IsValidSchema s
    → IsPosed s q search.root.0
    (record { candidates = search.candidates; layout = search.layout; engine = search.engine })
    → search.leaf.decided ≡ record { graph = g; root = search.root.0; decisions = [] }
    → IsFor (task_in s q search) search.leaf.frozen → length search.leaf.room.rows.items ≡ category_count g
    → IsFor (task_in s q search) search.best → IsMadeWith s q search
made_first s q g search same valid posed decided frozen room best = record {
  valid = valid;
  task = posed.task;
  suited = record {
    task = posed.task;
    frozen = frozen;
    decided = record {
      graph = ap (λ (d : Decided). d.graph) decided ∙ same;
      root = ap (λ (d : Decided). d.root) decided;
    };
    room = room ∙ ap category_count same;
    variables = posed.variables;
  };
  best = best;
  ready = posed.ready;
  empty = posed.empty;
}

-- ---- what it keeps, of the task that an asker asks

-- the engine, the leaf and the best one are right for the task
pub record Keeps (t : Task) (engine : Engine) (leaf : Leaf) (value : kept.Frozen) : Type 0 where
  pub suited : IsSuited t leaf (variables_of engine)
  pub best : IsFor t value
  pub ready : IsReady t engine

-- what is asked is the search's task
pub keeps : (s : Schema) (q : Formula) (search : Search) (t : Task) → t ≡ task_in s q search → IsMadeWith s q search
    → Keeps t search.engine search.leaf search.best
keeps s q search t same made = rw same (record { suited = made.suited; best = made.best; ready = made.ready })

-- and so it is still, after all was taken off the engine's trail
pub made_still : (s : Schema) (q : Formula) (old new : Search) (t : Task) (e : Engine) → t ≡ task_in s q old
    → task_in s q new ≡ task_in s q old → IsMadeWith s q old → IsSuited t new.leaf (variables_of e) → IsReady t e
    → IsFor t new.best → variables_of new.engine ≡ variables_of e
    → ((v : ℕ → Bool) → admits v e → admits v new.engine) → trail_of new.engine ≡ take 0 (trail_of e)
    → IsMadeWith s q new
made_still s q old new t e same still made suited ready best variables a empty =
    let k : Keeps t new.engine new.leaf new.best = record {
      suited = suited_still t new.leaf (variables_of e) (variables_of new.engine) suited variables;
      best = best;
      ready = ready_still t e new.engine ready (λ v m h. a v h);
    } in
    let n = rw (same ∙ sym still) at k in record {
      valid = made.valid;
      task = subst IsTask (sym still) made.task;
      suited = n.suited;
      best = n.best;
      ready = n.ready;
      empty = undone new.engine (trail_of e) empty;
    }

-- none of no literals is of another kind
pub none_shaped : (t : Task) (ss : List Step) → ss ≡ [] → AreShaped t ss
none_shaped t ss e = rw e (λ i s h. absurd (omega (arith, h)))

-- where none agrees with no literals, there is none
pub none_found : (t : Task) (e : Engine) → IsReady t e → trail_of e ≡ []
    → ((f : Frozen) (v : ℕ → Bool) → IsOne t f → Reads t f v → AgreesDecisions v (trail_of e) → ⊥)
    → (f : Frozen) → IsOne t f → ⊥
none_found t e ready empty none f one =
    let w = ready f one in
    none f w.0 one w.1 (rw empty tt)

-- what was brought to be handed out has the search's sizes, and gets its root
pub left_for : (t : Task) (search : Search) (into left : kept.Frozen) → IsFor t search.best → IsSizedFor search into
    → left.root ≡ search.root → left.edges ≡ into.edges → left.names ≡ into.names → search.root.0 ≡ t.question.root
    → IsFor t left
left_for t search into left for sized root edges names same = record {
  root = ap (λ (c : CatId). c.0) root ∙ same;
  edges = ap length edges ∙ sized.edges ∙ for.edges;
  names = ap length names ∙ sized.names ∙ for.names;
}

-- another value in the leaf
pub suited_with : (t : Task) (leaf : Leaf) (left : kept.Frozen) (n : ℕ) → IsSuited t leaf n → IsFor t left
    → IsSuited t (record leaf { frozen = left }) n
suited_with t leaf left n suited for = record {
  task = suited.task;
  frozen = for;
  decided = suited.decided;
  room = suited.room;
  variables = suited.variables;
}

-- ---- what is handed out: `All` has the index 0

-- the index of `All` doesn't count among those of declared categories
declared_same : (names : List ℕ) → of_declared (set names 0 0) ≡ of_declared names
declared_same [] = refl
declared_same (x ∷ xs) = refl

-- and can be set to 0
pub all_zero : (names : List ℕ) → IsZeroAtAll (set names 0 0)
all_zero [] = refl
all_zero (x ∷ xs) = refl

-- a declared category's index stands one place earlier without it
at_declared : (names : List ℕ) (c : ℕ) → slice_index (of_declared names) c ≡ slice_index (set names 0 0) (suc c)
at_declared [] c = refl
at_declared (x ∷ xs) c = refl

module _ (t : Task) (edges : List Bool) (names : List ℕ) where
  cleared : (P : Frozen → Type 0) → P (chosen_of edges names) → P (chosen_of edges (set names 0 0))
  cleared P h = subst (λ (xs : List ℕ). P (record { edges = edges; names = xs })) (sym (declared_same names)) h

  handed_sized : IsTask t → IsOne t (chosen_of edges names) → length names ≡ category_count (graph_of t)
      → IsSized (graph_of t) t.question.candidates edges (set names 0 0)
  handed_sized task one n = record {
    edge_count = one.edge_count;
    text_count = task.question.texts;
    name_count = length-set names 0 0 ∙ n;
    in_range = within;
  }
    where
      within : (c : ℕ) → c < category_count (graph_of t)
          → slice_index (set names 0 0) c ≤ length (others_of t.question.candidates c)
      within zero h = let z = all_zero names in omega arith
      within (suc c) h =
          subst (λ i. i ≤ length (others_of t.question.candidates (suc c))) (at_declared names c)
          (one.in_range c (let m = one.name_count in omega arith))

-- what is handed out is what was found for the search's task, but for the index of `All`
module _ (s : Schema) (q : Formula) (search : Search) (t : Task) (same : t ≡ task_in s q search)
    (made : IsMadeWith s q search) (best into : kept.Frozen) (its : IsFor t best) (same_root : into.root ≡ best.root)
    (same_edges : into.edges ≡ best.edges) (set_names : into.names ≡ set best.names 0 0) where
  abbrev u : Task
  u = task_in s q search

  for : IsFor u best
  for = subst (λ (v : Task). IsFor v best) same its

  as_found : (P : Frozen → Type 0) → P (chosen_of best.edges best.names) → P (frozen_of into)
  as_found P h =
      subst (λ (es : List Bool). P (chosen_of es into.names)) (sym same_edges)
      (subst (λ (ns : List ℕ). P (chosen_of best.edges ns)) (sym set_names)
      (cleared u best.edges best.names P h))

  one_in : IsOne u (chosen_of best.edges best.names) → IsOneFound s q (root_of search) (found_in search into)
  one_in one = record {
    root = ap (λ (c : CatId). c.0) same_root ∙ for.root;
    sized = subst (λ (es : List Bool). IsSized s.graph search.candidates es into.names) (sym same_edges)
        (subst (λ (ns : List ℕ). IsSized s.graph search.candidates best.edges ns) (sym set_names)
        (handed_sized u best.edges best.names made.task one for.names));
    zero = subst IsZeroAtAll (sym set_names) (all_zero best.names);
    candidates = made.task.question.candidates;
    is_one = as_found (IsOne u) one;
  }

  pub handed_one : IsOne t (chosen_of best.edges best.names) → IsOneFound s q (root_of search) (found_in search into)
  handed_one one = one_in (subst (λ (v : Task). IsOne v (chosen_of best.edges best.names)) same one)

  pub handed : IsLeast t (chosen_of best.edges best.names) → IsLeastFound s q (root_of search) (found_in search into)
  handed found =
      let l = subst (λ (v : Task). IsLeast v (chosen_of best.edges best.names)) same found in
      let one = one_in l.is_one in record {
        root = one.root;
        sized = one.sized;
        zero = one.zero;
        least = as_found (IsLeast u) l;
      }
