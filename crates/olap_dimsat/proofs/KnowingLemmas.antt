-- What a trail tells is so in each frozen dimension that agrees with it.
--     completes      the frozen dimension has all that is known
--     false_at       so a formula that is known to be false is
--     broken_none    none agrees where a constraint is broken
--     false_none     nor where the question is false at the root
use Rattle.std.proofs.Common.{◌≡◌, ℕ, zero, suc, ◌<◌, ◌≤◌, List, [], ◌∷◌, length, get_or, Bool, true, false, cond, Option, Some, None, refl, ap, sym, subst, ◌∙◌, ◌↔◌, inl, inr, arith}
use Rattle.std.proofs.lemmas.Bool.{cases_Bool, ltb-true, eqb-true, eq-eqb, Decides.nat_tests}
use Rattle.std.proofs.lemmas.{List.Elements.Contains-get_or, Slice.Eq.bytes_eq-Decides}
use Rattle.std.specs.{Prelude.{Contains, IfSome, IsTrue, nat_lt}, Str.bytes_eq}
use Rattle.olap_base.proofs.{ListLemmas.same_truth, StepLemmas.wider}
use Rattle.olap_base.specs.Graph.{CategoryReaches, Edge, Graph, HasEdge, IsCategory, IsHierarchy, category_count}
use Rattle.olap_base.specs.{Instance.Instance, Naming.place_of, Reaching.{category_reaches, category_reaches_is}}
use Rattle.olap_base.specs.Steps.{Steps, Steps-from_reaches, reaches_from_Steps}
use Rattle.olap_ast.specs.{Formula.Formula, Frozen.{Frozen, chosen, instance_of, is_present, name_in}}
use Rattle.olap_ast.specs.{Schema.Constraint, declared.three_values.Truth3.Truth3}
use Rattle.olap_ast.specs.declared.three_values.Truth3.TheVariants.{No, Yes, Unknown}
use Rattle.olap_pool.specs.declared.literals.Lit.{Lit}
use Rattle.olap_clauses.{proofs.StandingLemmas.{no_fails, yes_holds}, specs.Standing.{Agrees, value_of}}
use Rattle.olap_clauses.specs.{Trails.{steps_of, values_of}, declared.trails.Trail.Trail, declared.values.Value.Value}
use Rattle.olap_clauses.specs.declared.values.Value.TheVariants.{Unknown as Untold, Yes as Stands, No as Fails}
use Rattle.olap_encoding.proofs.TruthLemmas.{name_is_constant}
use Rattle.olap_encoding.specs.Layouts.{on_variable, present_variable, name_variable}
use Rattle.olap_eval.{proofs.PartialLemmas.values_are_truths, specs.Partial.{Agrees as Tells, Completes, value_at}}
use Rattle.olap_eval.specs.Shapes.{HasEdgeThere, HasNameThere, ReachesThere}
use Rattle.olap_frozen.proofs.ChosenLemmas.{bit_joins, choice_of, edge_inside, no_edge_joins}
use Rattle.olap_frozen.specs.Chosen.{IsChoice, IsMet, Joins, place_of as place_in_choice}
use Rattle.olap_graph.{proofs.PlaceLemmas.{found, joins-Decides}, specs.Lookups.{edge_between, joins}}
use Rattle.olap_trail.specs.Decisions.{Decided, present_graph}
use Rattle.olap_names.specs.Names.{candidates_of, others_of}
use Rattle.olap_dimsat.proofs.{EncodeLemmas.index_same, ReadLemmas.index_absent, TrackingLemmas.present_joins}
use Rattle.olap_dimsat.specs.Knowing.{HasMember, HoldsAt, IsBroken, IsFalseAt, both, knowledge, naming, presence, told, told_of_edge, told_of_name, truth_of, way}
use Rattle.olap_dimsat.specs.{Reads.{NoneAgrees, Reads, index_in}, Tasks.{IsOne, IsTask, Task, schema_of, graph_of}}
use Rattle.olap_dimsat.specs.Tracking.{IsTracked}
use Rattle.olap_frozen.proofs.ChosenInstance as made

-- ---- values of facts

-- what is known of one fact is known of another that holds exactly if it does
known_same : (x : Truth3) (P Q : Type 0) → Tells x P → (P → Q) → (Q → P) → Tells x Q
known_same No P Q t f g = λ q. t (g q)
known_same Yes P Q t f g = f t
known_same Unknown P Q t f g = tt

-- what is known of two is known of both
known_both : (x y : Truth3) (P Q : Type 0) → Tells x P → Tells y Q → Tells (both x y) (P × Q)
known_both No No P Q a b = λ t. a t.0
known_both No Yes P Q a b = λ t. a t.0
known_both No Unknown P Q a b = λ t. a t.0
known_both Yes No P Q a b = λ t. b t.1
known_both Yes Yes P Q a b = (a, b)
known_both Yes Unknown P Q a b = tt
known_both Unknown No P Q a b = λ t. b t.1
known_both Unknown Yes P Q a b = tt
known_both Unknown Unknown P Q a b = tt

-- ---- lists and tests

-- a list that has something is one of the lists
has_some : (xs : List (List (List ℕ))) (c k : ℕ) → k < length (get_or xs c []) → c < length xs
has_some [] c k h = absurd (omega arith)
has_some (x ∷ xs) zero k h = omega arith
has_some (x ∷ xs) (suc c) k h = let r = has_some xs c k h in omega arith

-- what isn't below by the test isn't
test_false : (c n : ℕ) → nat_lt c n ≡ false → c < n → ⊥
test_false c n e h = grind (arith, nat_tests)

-- no edge leaves what is no category
pub no_edge_past : (g : Graph) (trail : Trail) → IsHierarchy g → (c d : ℕ) → category_count g ≤ c
    → No ≡ told_of_edge trail (edge_between g c d)
no_edge_past g trail hier c d h = go (edge_between g c d) refl
  where
    go : (o : Option ℕ) → edge_between g c d ≡ o → No ≡ told_of_edge trail o
    go None e = refl
    go (Some i) e =
        let f = found (joins c d) (λ x. x ≡ record { child = c; parent = d }) (joins-Decides c d) g.edges 0 i e in
        let z : Edge = record { child = 0; parent = 0 } in
        let k = (hier.categories c d (rw (← (f.3 z)) (Contains-get_or g.edges f.0 z f.2))).0 in
        absurd (omega arith)

-- the test of a graph has the value of another that asks the same
pub reach_test : (g : Graph) (c d : ℕ) (r b : Bool) → IsTrue r ↔ CategoryReaches g c d → r ≡ b
    → category_reaches g c d ≡ b
reach_test g c d r b i e = let is = category_reaches_is g c d in
    same_truth (category_reaches g c d) r (λ y. i.1 (is.0 y)) (λ y. is.1 (i.0 y)) ∙ e

-- what is known of a way, by what present edges and all edges lead to
pub way_by : (t : Task) (d : Decided) (c e : ℕ) (b w : Bool) → category_reaches (present_graph d) c e ≡ b
    → category_reaches (graph_of t) c e ≡ w → cond b Yes (cond w Unknown No) ≡ way t d c e
way_by t d c e b w p q = sym (ap (λ x. cond x Yes (cond (category_reaches (graph_of t) c e) Unknown No)) p
    ∙ ap (λ x. cond b Yes (cond x Unknown No)) q)

-- the place that was found is one of the list
pub place_inside : (text : List ℕ) (texts : List (List ℕ)) (o : Option ℕ) → o ≡ place_of text texts
    → IfSome o (λ j. j < length texts)
place_inside text texts None e = tt
place_inside text texts (Some j) e =
    let at = found (bytes_eq text) (λ x. text ≡ x) (bytes_eq-Decides text) texts 0 j (sym e) in
    omega (arith, at.1, at.2)

module _ (t : Task) (trail : Trail) (d : Decided) (k : IsTracked t trail d) (f : Frozen) (v : ℕ → Bool)
    (one : IsOne t f)
    (r : Reads t f v) (a : Agrees v (steps_of trail)) where
  abbrev es : List Edge
  es = chosen (graph_of t).edges f.edges

  ch : IsChoice (graph_of t) t.question.root es
  ch = choice_of (graph_of t) t.question.root f.edges k.task.question.hierarchy k.task.question.root

  abbrev name : ℕ → List ℕ
  name = name_in (candidates_of t.question.candidates) f

  abbrev inst : Instance
  inst = instance_of (graph_of t) t.question.root es name

  abbrev present : ℕ → Bool
  present = is_present t.question.root es

  abbrev place : ℕ → ℕ
  place = place_in_choice (graph_of t) t.question.root es

  told_is : (x : ℕ) → Tells (told trail x) (v x ≡ true)
  told_is x = go (value_of (values_of trail) l) refl
    where
      l : Lit
      l = record { variable = x; positive = true }

      go : (w : Value) → value_of (values_of trail) (record { variable = x; positive = true }) ≡ w
          → Tells (truth_of w) (v x ≡ true)
      go Untold e = tt
      go Stands e = yes_holds v (steps_of trail) (values_of trail) (record { variable = x; positive = true })
          trail.shown e a
      go Fails e = no_fails v (steps_of trail) (values_of trail) (record { variable = x; positive = true })
          trail.shown e a

  presence_is : (c : ℕ) → Tells (presence t trail c) (present c ≡ true)
  presence_is c = go (nat_lt c (category_count (graph_of t))) refl
    where
      go : (b : Bool) → nat_lt c (category_count (graph_of t)) ≡ b
          → Tells (cond b (told trail (present_variable t.layout c)) No) (present c ≡ true)
      go true e = let p = r.present c (ltb-true c (category_count (graph_of t)) e) in
          known_same (told trail (present_variable t.layout c)) (v (present_variable t.layout c) ≡ true)
          (present c ≡ true)
          (told_is (present_variable t.layout c)) (λ h. sym p ∙ h) (λ h. p ∙ h)
      go false e = λ p. test_false c (category_count (graph_of t)) e
          (made.present_category (graph_of t) t.question.root es ch c p)

  edge_is : (c d : ℕ) → Tells (told_of_edge trail (edge_between (graph_of t) c d)) (HasEdgeThere inst present place c d)
  edge_is c d = go (edge_between (graph_of t) c d) refl
    where
      go : (o : Option ℕ) → edge_between (graph_of t) c d ≡ o
          → Tells (told_of_edge trail o) (HasEdgeThere inst present place c d)
      go None e = λ h. no_edge_joins (graph_of t) f.edges c d e
          ((made.below_joins (graph_of t) t.question.root es ch name c d h.0 h.1).0 h.2)
      go (Some i) e =
          let b = bit_joins (graph_of t) f.edges c d i k.task.question.hierarchy e in
          let n = r.on i (edge_inside (graph_of t) c d i e) in
          known_same (told trail (on_variable i)) (v (on_variable i) ≡ true) (HasEdgeThere inst present place c d)
          (told_is (on_variable i))
          (λ h. let j = b.0 (sym n ∙ h) in (
            made.child_present (graph_of t) t.question.root es ch c d j,
            made.parent_present (graph_of t) t.question.root es ch c d j,
            made.edge_below (graph_of t) t.question.root es ch name c d j,
          ))
          (λ h. n ∙ b.1 ((made.below_joins (graph_of t) t.question.root es ch name c d h.0 h.1).0 h.2))

  in_graph : (x y : ℕ) → Joins es x y → HasEdge (graph_of t) x y
  in_graph x y j = ch.within (record { child = x; parent = y }) j

  way_is : (c e : ℕ) → Tells (way t d c e) (Steps (Joins es) c e)
  way_is c e = go (category_reaches (present_graph d) c e) refl (category_reaches (graph_of t) c e) refl
    where
      go : (b : Bool) → category_reaches (present_graph d) c e ≡ b → (w : Bool) → category_reaches (graph_of t) c e ≡ w
          → Tells (cond b Yes (cond w Unknown No)) (Steps (Joins es) c e)
      go true p w q = wider (present_joins t trail f v one r a d k.of k.read)
          (Steps-from_reaches ((category_reaches_is (present_graph d) c e).0 p))
      go false p true q = tt
      go false p false q = λ s.
          let y = (category_reaches_is (graph_of t) c e).1 (reaches_from_Steps (wider in_graph s)) in
          let z : true ≡ false = sym y ∙ q in cc

  reach_is : (c e : ℕ)
      → Tells (both (both (presence t trail c) (presence t trail e)) (way t d c e))
      (ReachesThere inst present place c e)
  reach_is c e = known_same (both (both (presence t trail c) (presence t trail e)) (way t d c e))
      (((present c ≡ true) × (present e ≡ true)) × Steps (Joins es) c e) (ReachesThere inst present place c e)
      (known_both (both (presence t trail c) (presence t trail e)) (way t d c e)
      ((present c ≡ true) × (present e ≡ true)) (Steps (Joins es) c e)
      (known_both (presence t trail c) (presence t trail e) (present c ≡ true) (present e ≡ true) (presence_is c)
      (presence_is e))
      (way_is c e))
      (λ h. (h.0.0, h.0.1, (made.reaches_walk (graph_of t) t.question.root es ch name c e h.0.0 h.0.1).1 h.1))
      (λ h. ((h.0, h.1), (made.reaches_walk (graph_of t) t.question.root es ch name c e h.0 h.1).0 h.2))

  -- a category with an index has a member
  indexed_present : (c n : ℕ) → IsCategory (graph_of t) c → index_in f c ≡ suc n → present c ≡ true
  indexed_present c n h e = elim (cases_Bool (present c)) [
    | inl p ↦ p
    | inr q ↦ absurd (let z = index_absent t f c one h q in omega arith)
  ]

  name_is : (c : ℕ) (text : List ℕ) → Tells (naming t trail c text) (HasNameThere inst present place c text)
  name_is zero text = tt
  name_is (suc c) text = go (place_of text (others_of t.question.candidates (suc c))) refl
    where
      go : (o : Option ℕ) → place_of text (others_of t.question.candidates (suc c)) ≡ o
          → Tells (told_of_name t trail (suc c) o) (HasNameThere inst present place (suc c) text)
      go None e = tt
      go (Some j) e =
          let at = found (bytes_eq text) (λ x. text ≡ x) (bytes_eq-Decides text)
          (others_of t.question.candidates (suc c)) 0 j e in
          let same : at.0 ≡ j = omega (arith, at.1) in
          let few : j < length (others_of t.question.candidates (suc c)) = omega (arith, at.2) in
          let inside : suc c < category_count (graph_of t) =
          let l = has_some t.question.candidates.texts (suc c) j few in let n = k.task.question.texts in omega arith in
          let it : get_or (others_of t.question.candidates (suc c)) j text ≡ text =
          ap (λ m. get_or (others_of t.question.candidates (suc c)) m text) (sym same) ∙ sym (at.3 text) in
          let n = name_is_constant (schema_of t) t.question.formula t.question.root
          (candidates_of t.question.candidates) k.task.question.candidates f one c j
          text
          inside few it in
          let x = r.named (suc c) j inside few in
          known_same (told trail (name_variable t.layout (suc c) j)) (v (name_variable t.layout (suc c) j) ≡ true)
          (HasNameThere inst present place (suc c) text) (told_is (name_variable t.layout (suc c) j))
          (λ h.
          let i = eqb-true (index_in f (suc c)) (suc j) (sym x ∙ h) in
          let p = indexed_present (suc c) j inside i in
          (p, made.name_there (graph_of t) t.question.root es ch name (suc c) p ∙ n.1 (index_same f (suc c) ∙ i)))
          (λ h. x ∙ eq-eqb (index_in f (suc c)) (suc j)
          (sym (index_same f (suc c))
          ∙ n.0 (sym (made.name_there (graph_of t) t.question.root es ch name (suc c) h.0) ∙ h.1)))

  pub completes : Completes (knowledge t trail d) inst present place
  completes = record { edges = edge_is; reaching = reach_is; names = name_is; numbers = λ c op n. tt }

  known_truth : (c : ℕ) (q : Formula) → present c ≡ true → Tells (value_at (knowledge t trail d) c q) (HoldsAt t f c q)
  known_truth c q p = values_are_truths (knowledge t trail d) inst present place
      (made.chosen_shape (graph_of t) t.question.root es ch name) completes c p q

module _ (t : Task) (trail : Trail) (d : Decided) (k : IsTracked t trail d) where
  pub false_at : (c : ℕ) (q : Formula) → value_at (knowledge t trail d) c q ≡ No → IsFalseAt t trail c q
  false_at c q e f v one r a p = subst (λ x. Tells x (HoldsAt t f c q)) e (known_truth t trail d k f v one r a c q p)

  pub broken : (j : Constraint) → presence t trail j.root ≡ Yes → IsFalseAt t trail j.root j.formula
      → IsBroken t trail j
  broken j e n f v one r a =
      let p = subst (λ x. Tells x (HasMember t f j.root)) e (presence_is t trail d k f v one r a j.root) in
      (p, n f v one r a p)

module _ (t : Task) (trail : Trail) (task : IsTask t) where
  -- constraints and question hold at the members of their roots
  met : (f : Frozen) → IsOne t f → IsMet (schema_of t) t.question.formula t.question.root
      (chosen (graph_of t).edges f.edges)
      (name_in (candidates_of t.question.candidates) f)
  met f one = made.met_of_frozen (schema_of t) t.question.formula t.question.root (chosen (graph_of t).edges f.edges)
      (choice_of (graph_of t) t.question.root f.edges task.question.hierarchy task.question.root)
      (name_in (candidates_of t.question.candidates) f) one.stands_for

  pub broken_none : (k : Constraint) → Contains t.question.schema.constraints k → IsBroken t trail k
      → NoneAgrees t trail
  broken_none k c b f v one r a = let w = b f v one r a in w.1 ((met f one).meets k c w.0)

  pub false_none : IsFalseAt t trail t.question.root t.question.formula → NoneAgrees t trail
  false_none n f v one r a = n f v one r a
      (made.root_present (graph_of t) t.question.root (chosen (graph_of t).edges f.edges)
      (choice_of (graph_of t) t.question.root f.edges task.question.hierarchy task.question.root))
      (met f one).question
