-- Whether a line closes a place can be decided; where nothing is left to decide, one does, or there
-- is a frozen dimension.
use Rattle.std.proofs.Common.{cond, ◌≡◌, ℕ, zero, suc, ◌<◌, List, [], ◌∷◌, length, Bool, true, false, Option, Some, refl, sym, subst, ◌⊎◌, inl, inr}
use Rattle.std.proofs.lemmas.{Bool.ne_eqb, List.Elements.{All-cons, All-head, All-nil, All-tail}}
use Rattle.std.specs.{List.range_with_len, Prelude.{◌==◌, ◌&&◌, ◌||◌, ◌≢◌, All, Contains, IsTrue}}
use Rattle.olap_base.proofs.{DecisionLemmas.dec_not, ListLemmas.{Contains-from_range, Contains-range}, StepLemmas.wider}
use Rattle.olap_base.specs.Deciding.{dec_and, dec_iff, decide_category_reaches}
use Rattle.olap_base.specs.Graph.{CategoryReaches, Edge, Graph, HasEdge, IsHierarchy, category_count}
use Rattle.olap_base.specs.Reaching.{category_reaches, category_reaches_is}
use Rattle.olap_base.specs.Steps.{Climb, Climb.climb, Steps-from_reaches, reaches_from_Steps}
use Rattle.olap_ast.{proofs.Decided.dec_some, specs.Formula.Formula}
use Rattle.olap_ast.specs.{Frozen.{AreCandidates, Candidates, Frozen, IsFrozen}, Schema.{Constraint, Schema}}
use Rattle.olap_ast.specs.declared.three_values.Truth3.{Truth3, TheVariants.{No, Yes, Unknown}}
use Rattle.olap_eval.specs.Partial.{value_at}
use Rattle.olap_graph.{proofs.TableLemmas.has_edge_at, specs.Lookups.{edge_at, edges_from}}
use Rattle.olap_trail.specs.Decisions.{Decision, HoldsCycle, HoldsShortcut, present_graph, status_of}
use Rattle.olap_proof.proofs.ChosenEdgeLemmas.{child_known, joins_possible, leading_joins, reaches_all, sound}
use Rattle.olap_proof.proofs.{CycleLemmas.{cyclic_is, shortened_is}, FullPlaceLemmas.{frozen_there, value_of_place}}
use Rattle.olap_proof.proofs.ReasonLemmas.{unmet_inside}
use Rattle.olap_proof.specs.Closing.{Closes, IsAbout, IsDead, IsLoose, IsUnmet, IsUnmetAt}
use Rattle.olap_proof.specs.FullPlaces.{FullPlacesClose, IsFull}
use Rattle.olap_proof.specs.Lines.{Line, Line.Asked, Line.Cycle, Line.Dead, Line.Loose, Line.Shortcut, Line.Unmet, Line.Unreached}
use Rattle.olap_proof.specs.Places.{Naming, Place, is_known, knowledge, leading_graph, possible_graph, truth_of_reach}
use Rattle.olap_proof.specs.declared.forms.Form.{Form, TheVariants.{Long, Short}}
use native.Mathlib.Decide.{ℕ_discrete}

-- ---- decisions

-- whether three hold
dec_three : {A B C : Type 0} → Dec A → Dec B → Dec C → Dec (A × B × C)
dec_three a b c = dec_iff (λ t. (t.0, t.1.0, t.1.1)) (λ t. (t.0, (t.1, t.2))) (dec_and a (dec_and b c))

-- whether a test is true can be decided
dec_true : (b : Bool) → Dec (IsTrue b)
dec_true true = yes refl
dec_true false = no (λ e. cc)

-- and what was decided of an edge
pub dec_status : (o : Option Bool) (b : Bool) → Dec (o ≡ Some b)
dec_status (Some true) true = yes refl
dec_status (Some false) false = yes refl
dec_status o b = no (λ e. cc)

-- and whether a value is known to be false
pub dec_false : (v : Truth3) → Dec (v ≡ No)
dec_false No = yes refl
dec_false v = no (λ e. cc)

-- and whether all of it have
pub dec_all : {A : Type 0} (P : A → Type 0) → ((x : A) → Dec (P x)) → (xs : List A) → Dec (All P xs)
dec_all P d [] = yes (All-nil P)
dec_all P d (x ∷ xs) =
    dec_iff (λ t. All-cons P x xs t.0 t.1) (λ a. (All-head P x xs a, All-tail P x xs a))
    (dec_and (d x) (dec_all P d xs))

-- ---- cycles and shortcuts

-- whether a walk of at least one edge leads from c to d
pub dec_climb : (g : Graph) (c d : ℕ) → Dec (Climb (HasEdge g) c d)
dec_climb g c d = dec_iff to from (dec_some (λ (e : Edge). (e.child ≡ c) × CategoryReaches g e.parent d)
    (λ (e : Edge). dec_and (ℕ_discrete e.child c) (decide_category_reaches g e.parent d)) g.edges)
  where
    to : (e : Edge) × Contains g.edges e × ((e.child ≡ c) × CategoryReaches g e.parent d) → Climb (HasEdge g) c d
    to w = climb (subst (λ x. HasEdge g x w.0.parent) w.2.0 w.1) (Steps-from_reaches w.2.1)

    from : Climb (HasEdge g) c d → (e : Edge) × Contains g.edges e × ((e.child ≡ c) × CategoryReaches g e.parent d)
    from (climb {z = z} h w) = (record { child = c; parent = z }, h, (refl, reaches_from_Steps w))

-- whether a graph holds a cycle can be decided
pub dec_cycle : (g : Graph) → Dec (HoldsCycle g)
dec_cycle g = dec_iff (λ w. (w.0.child, w.2)) (λ h. from h.0 h.1)
    (dec_some (λ (e : Edge). Climb (HasEdge g) e.child e.child) (λ (e : Edge). dec_climb g e.child e.child) g.edges)
  where
    from : (c : ℕ) → Climb (HasEdge g) c c → (e : Edge) × Contains g.edges e × Climb (HasEdge g) e.child e.child
    from c (climb {z = z} h w) = (record { child = c; parent = z }, h, climb h w)

-- an edge f from the child of e, and a walk from its parent to that of e
abbrev Passes : Graph → Edge → Edge → Type 0
Passes g e f = (f.child ≡ e.child) × Climb (HasEdge g) f.parent e.parent

-- there is such an edge
abbrev IsPassed : Graph → Edge → Type 0
IsPassed g e = (f : Edge) × Contains g.edges f × Passes g e f

-- and whether it holds a shortcut
pub dec_shortcut : (g : Graph) → Dec (HoldsShortcut g)
dec_shortcut g = dec_iff to from (dec_some (IsPassed g) (λ (e : Edge). dec_some (Passes g e)
    (λ (f : Edge). dec_and (ℕ_discrete f.child e.child) (dec_climb g f.parent e.parent)) g.edges) g.edges)
  where
    to : (e : Edge) × Contains g.edges e × IsPassed g e → HoldsShortcut g
    to w =
        let passes = w.2 in
        let step = passes.0 in
        let leads = passes.2 in
        record {
          child = w.0.child;
          parent = w.0.parent;
          through = step.parent;
          edge = w.1;
          first = subst (λ x. HasEdge g x step.parent) leads.0 passes.1;
          rest = leads.1;
        }

    from : HoldsShortcut g → (e : Edge) × Contains g.edges e × IsPassed g e
    from h = (
      record { child = h.child; parent = h.parent },
      h.edge,
      (record { child = h.child; parent = h.through }, h.first, (refl, h.rest)),
    )

-- ---- lines

-- whether `dead` closes a place can be decided
pub dec_dead : (g : Graph) (p : Place) (c : ℕ) → Dec (IsDead g p c)
dec_dead g p c = dec_three (dec_not (ℕ_discrete c 0)) (dec_true (is_known p c))
    (dec_all (λ e. status_of p.decided e ≡ Some false) (λ e. dec_status (status_of p.decided e) false) (edges_from g c))

-- and whether `loose` does
pub dec_loose : (g : Graph) (p : Place) (e : ℕ) → Dec (IsLoose g p e)
dec_loose g p e = dec_three (dec_not (ℕ_discrete (edge_at g e).child p.decided.root))
    (dec_status (status_of p.decided e) true)
    (dec_not (decide_category_reaches (possible_graph p.decided) p.decided.root (edge_at g e).child))

-- whether some constraint of these is unmet
pub some_unmet : (m : Form) (k : Candidates) (p : Place) (cs : List Constraint) → Dec ((n : ℕ) × IsUnmetAt m cs n k p)
some_unmet m k p [] = no (λ w. w.1)
some_unmet m k p (c ∷ cs) = go (dec_and (dec_true (is_known p c.root))
    (dec_false (value_at (knowledge m k p) c.root c.formula))) (some_unmet m k p cs)
  where
    neither : (IsUnmet m k p c → ⊥) → ((n : ℕ) × IsUnmetAt m cs n k p → ⊥) → (n : ℕ)
        → IsUnmetAt m (c ∷ cs) n k p → ⊥
    neither a b zero h = a h
    neither a b (suc n) h = b (n, h)

    go : Dec (IsUnmet m k p c) → Dec ((n : ℕ) × IsUnmetAt m cs n k p)
        → Dec ((n : ℕ) × IsUnmetAt m (c ∷ cs) n k p)
    go (yes h) d = yes (0, h)
    go (no a) (yes w) = yes (suc w.0, w.1)
    go (no a) (no b) = no (λ w. neither a b w.0 w.1)

-- ---- where nothing is left to decide

module _ (m : Form) (s : Schema) (q : Formula) (k : Candidates) (hier : IsHierarchy s.graph)
    (are : AreCandidates s q k) (r : ℕ) (ds : List Decision) (ns : List Naming)
    (full : IsFull s.graph k (record {
      decided = record { graph = s.graph; root = r; decisions = ds };
      namings = ns;
      ways = [];
    })) where
  abbrev p : Place
  p = record { decided = record { graph = s.graph; root = r; decisions = ds }; namings = ns; ways = [] }

  abbrev pub Answer : Type 0
  Answer = ((l : Line) × IsAbout s l × Closes m s q k p l) ⊎ ((f : Frozen) × IsFrozen s q r k f)

  -- an edge that is loose is so in the words of either form
  by_loose : (f : Form) (e : ℕ) → e < length s.graph.edges → IsLoose s.graph p e
      → (l : Line) × IsAbout s l × Closes f s q k p l
  by_loose Long e h w = (Loose e, h, (refl, w))
  by_loose Short e h w =
      let x = edge_at s.graph e in
      let i : Contains s.graph.edges x = has_edge_at s.graph e h in (
        Unreached x.child,
        (hier.categories x.child x.parent i).0,
        (
          refl,
          (
            w.0,
            child_known s k hier r ds ns full e h w.1,
            cut_off x.child
                (λ z. hier.none_from_all x.parent (subst (λ c. HasEdge s.graph c x.parent) z i)) w.2,
          ),
        ),
      )
    where
      -- what the root can't reach by possible edges isn't reached
      cut_off : (c : ℕ) → c ≢ 0 → (CategoryReaches (possible_graph p.decided) r c → ⊥) → truth_of_reach Short p r c ≡ No
      cut_off c n u =
          go (is_known p r) (c == 0) (ne_eqb c 0 n) (category_reaches (leading_graph p) r c) refl
          (category_reaches (possible_graph p.decided) r c) refl
        where
          go : (a b : Bool) → b ≡ false → (d : Bool) → category_reaches (leading_graph p) r c ≡ d
              → (w : Bool) → category_reaches (possible_graph p.decided) r c ≡ w
              → cond (a && (b || d)) Yes (cond w Unknown No) ≡ No
          go a true z d y w v = absurd (cc)
          go a false z d y true v = absurd (u ((category_reaches_is (possible_graph p.decided) r c).0 v))
          go false false z d y false v = refl
          go true false z true y false v = absurd (u (reaches_from_Steps
              (wider (λ i j o. joins_possible s k hier r ds ns full i j (leading_joins s k hier r ds ns full i j o))
              (Steps-from_reaches ((category_reaches_is (leading_graph p) r c).0 y)))))
          go true false z false y false v = refl

  -- if no line on the laws closes the place
  by_formulas : (HoldsCycle (present_graph p.decided) → ⊥) → (HoldsShortcut (present_graph p.decided) → ⊥)
      → ((c : ℕ) → c < category_count s.graph → IsDead s.graph p c → ⊥)
      → ((e : ℕ) → e < length s.graph.edges → IsLoose s.graph p e → ⊥) → Answer
  by_formulas no_cycle no_shortcut no_dead no_loose = go (some_unmet m k p s.constraints)
      (dec_false (value_at (knowledge m k p) r q))
    where
      go : Dec ((n : ℕ) × IsUnmetAt m s.constraints n k p) → Dec (value_at (knowledge m k p) r q ≡ No) → Answer
      go (yes w) d = inl (Unmet w.0, unmet_inside m k p s.constraints w.0 w.1, w.1)
      go (no a) (yes h) = inl (Asked, tt, h)
      go (no a) (no b) = inr (
        value_of_place s.graph r ds ns,
        frozen_there s k hier r ds ns full m
            (reaches_all s k hier r ds ns full no_cycle no_shortcut no_dead no_loose) q are
            (sound s k hier r ds ns full no_cycle no_shortcut no_dead no_loose) (λ n h. a (n, h)) b,
      )

  closes_or_frozen : Answer
  closes_or_frozen = go (dec_cycle (present_graph p.decided)) (dec_shortcut (present_graph p.decided))
      (dec_some (IsDead s.graph p) (dec_dead s.graph p) (range_with_len 0 (category_count s.graph)))
      (dec_some (IsLoose s.graph p) (dec_loose s.graph p) (range_with_len 0 (length s.graph.edges)))
    where
      go : Dec (HoldsCycle (present_graph p.decided)) → Dec (HoldsShortcut (present_graph p.decided))
          → Dec ((c : ℕ) × Contains (range_with_len 0 (category_count s.graph)) c × IsDead s.graph p c)
          → Dec ((e : ℕ) × Contains (range_with_len 0 (length s.graph.edges)) e × IsLoose s.graph p e) → Answer
      go (yes h) b c d = inl (Cycle, tt, (cyclic_is (present_graph p.decided)).0 h)
      go (no a) (yes h) c d = inl (Shortcut, tt, (shortened_is (present_graph p.decided)).0 h)
      go (no a) (no b) (yes w) d = inl (Dead w.0, Contains-from_range (category_count s.graph) w.0 w.1, w.2)
      go (no a) (no b) (no c) (yes w) =
          inl (by_loose m w.0 (Contains-from_range (length s.graph.edges) w.0 w.1) w.2)
      go (no a) (no b) (no c) (no d) = by_formulas a b
          (λ x h i. c (x, Contains-range (category_count s.graph) x h, i))
          (λ e h i. d (e, Contains-range (length s.graph.edges) e h, i))

-- the theorem: each reason can be tried in turn
pub full_places_close : FullPlacesClose
full_places_close m s q k p hier are full =
    subst (λ (x : Place). IsFull s.graph k x → ((l : Line) × IsAbout s l × Closes m s q k x l)
    ⊎ ((f : Frozen) × IsFrozen s q x.decided.root k f)) same
    (λ h. closes_or_frozen m s q k hier are p.decided.root p.decided.decisions p.namings h) full
  where
    same : record {
      decided = record { graph = s.graph; root = p.decided.root; decisions = p.decided.decisions };
      namings = p.namings;
      ways = [];
    } ≡ p
    same = λ i. record {
      decided = record {
        graph = sym full.graph i;
        root = p.decided.root;
        decisions = p.decided.decisions;
      };
      namings = p.namings;
      ways = sym full.no_ways i;
    }
