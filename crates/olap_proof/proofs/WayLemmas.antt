-- A frozen dimension that has what was decided has all that is known, and where a line closes there is none.
--     known_there    what is known to have a member has one
--     reached_is     so what is known of reaching is so
--     name_is        and what is known of names
--     number_is      and of comparisons
--     completes      all that is known is so
--     closed_none    none agrees where a line closes
use Rattle.std.proofs.Common.{◌≡◌, ◌≢◌, ℕ, ℤ, zero, suc, ◌<◌, ◌⊎◌, List, [], ◌∷◌, length, get_or, map, Bool, true, false, cond, Option, Some, None, refl, sym, subst, ◌∙◌, inl, inr, arith}
use Rattle.std.proofs.lemmas.{Bool.{or_cases, eqb-true}, List.Elements.Contains-append_cases, Slice.Eq.bytes_eq-Decides}
use Rattle.std.specs.{List.list_any, Prelude.{Contains, ◌==◌, ◌&&◌, ◌||◌, All, filter, if◌then◌else◌}, Str.bytes_eq}
use Rattle.olap_base.proofs.AboveLemmas.{reaches_all}
use Rattle.olap_base.proofs.ListLemmas.{Contains-from_filter, Contains-from_map, contains_head, list_any_is}
use Rattle.olap_base.{proofs.StepLemmas.wider, specs.Deciding.contains_cons}
use Rattle.olap_base.specs.{Graph.{Edge, HasEdge, IsCategory, IsHierarchy}, Instance.{Instance, IsBelow}}
use Rattle.olap_base.specs.Reaching.{category_reaches, category_reaches_is}
use Rattle.olap_base.specs.Steps.{Steps, Steps.here, Steps.step, Steps-append, Steps-from_reaches, reaches_from_Steps}
use Rattle.olap_ast.specs.Formula.{Formula, Holds, IsNumbered}
use Rattle.olap_ast.specs.Frozen.{Candidates, Frozen, IsFrozen, instance_of, is_present, name_in}
use Rattle.olap_ast.specs.{Schema.{Constraint, Schema}, ThreeValues.known}
use Rattle.olap_ast.specs.declared.three_values.Truth3.TheVariants.{No, Yes, Unknown}
use Rattle.olap_eval.{proofs.PartialLemmas.values_are_truths, specs.Partial.{Agrees as Tells, Completes, value_at}}
use Rattle.olap_eval.specs.Shapes.{HasNameThere, HasNumberThere, ReachesThere}
use Rattle.olap_frozen.proofs.ChosenLemmas.{choice_of, place_chosen}
use Rattle.olap_frozen.specs.Chosen.{IsChoice, IsMet, IsSound, Joins, place_of}
use Rattle.olap_graph.specs.Lookups.{edge_at, edges_from}
use Rattle.olap_numerals.specs.Comparing.{Op, is_numbered}
use Rattle.olap_trail.specs.Decisions.{Decided, Decision, HoldsCycle, HoldsShortcut, present_edges, present_graph, status_of}
use Rattle.olap_proof.proofs.{AgreeingLemmas.{Like, edge_from, edges_in}, CycleLemmas.{cyclic_is, shortened_is}}
use Rattle.olap_proof.specs.Closing.{Closes, IsClash, IsDead, IsLoose, IsUnmet, IsUnmetAt, IsUnreached}
use Rattle.olap_proof.specs.Lines.{Line, Line.Asked, Line.Clash, Line.Cycle, Line.Dead, Line.EdgeOrNot, Line.Loose, Line.NameOf, Line.Shortcut, Line.Unmet, Line.Unreached, Line.WayOrNot}
use Rattle.olap_proof.specs.Places.{Naming, Place, Way, edge_of_way, is_known, is_top, knowledge, leading_edges, leading_graph, leads, name_of, possible_graph, truth_of_name, truth_of_reach, way_of}
use Rattle.olap_proof.specs.declared.forms.Form.{Form, TheVariants.{Long, Short}}
use Rattle.olap_frozen.proofs.ChosenInstance as made
use Rattle.olap_proof.proofs.AgreeingLemmas as agreeing

-- the decision that tells of a way
pub way_some : (ws : List Way) (a b : ℕ) (t : Bool) → way_of ws a b ≡ Some t
    → (w : Way) × Contains ws w × (w.child ≡ a) × (w.parent ≡ b) × (w.there ≡ t)
way_some [] a b t h = absurd (cc)
way_some (w ∷ ws) a b t h = go (w.child == a) refl (w.parent == b) refl h (way_some ws a b t)
  where
    go : (x : Bool) → w.child == a ≡ x → (y : Bool) → w.parent == b ≡ y
        → cond (x && y) (Some w.there) (way_of ws a b) ≡ Some t
        → (way_of ws a b ≡ Some t
        → (v : Way) × Contains ws v × (v.child ≡ a) × (v.parent ≡ b) × (v.there ≡ t))
        → (v : Way) × Contains (w ∷ ws) v × (v.child ≡ a) × (v.parent ≡ b) × (v.there ≡ t)
    go true x true y q rest =
        let same : w.there ≡ t = cc in (w, contains_head w ws, eqb-true w.child a x, eqb-true w.parent b y, same)
    go true x false y q rest = let r = rest q in (r.0, contains_cons r.0 ws w r.1, r.2, r.3, r.4)
    go false x true y q rest = let r = rest q in (r.0, contains_cons r.0 ws w r.1, r.2, r.3, r.4)
    go false x false y q rest = let r = rest q in (r.0, contains_cons r.0 ws w r.1, r.2, r.3, r.4)

-- a walk whose steps are walks is a walk
pub joined : {R S : ℕ → ℕ → Type 0} → ((x y : ℕ) → R x y → Steps S x y) → {c d : ℕ} → Steps R c d → Steps S c d
joined f here = here
joined f (step {x = c} {y = z} r s) = Steps-append (f c z r) (joined f s)

-- the first category has a member that reaches one of the second
abbrev pub Leads : Schema → ℕ → Frozen → ℕ → ℕ → Type 0
Leads s r f a b = (agreeing.is_there s r f a ≡ true) × Steps (Joins (edges_in s f)) a b

-- the way is as it was decided
abbrev pub IsSo : Schema → ℕ → Frozen → Bool → ℕ → ℕ → Type 0
IsSo s r f true a b = Leads s r f a b
IsSo s r f false a b = Leads s r f a b → ⊥

-- the frozen dimension has the edges, the names and the ways that were decided
pub record LikeToo (s : Schema) (r : ℕ) (k : Candidates) (f : Frozen) (ds : List Decision) (ns : List Naming)
    (ws : List Way) : Type 0 where
  pub rest : Like s k f ds ns
  pub ways : (w : Way) → Contains ws w → IsSo s r f w.there w.child w.parent

module _ (form : Form) (s : Schema) (q : Formula) (r : ℕ) (k : Candidates) (f : Frozen) (hier : IsHierarchy s.graph)
    (root : IsCategory s.graph r) (one : IsFrozen s q r k f)
    (ds : List Decision) (ns : List Naming) (ws : List Way) (like : LikeToo s r k f ds ns ws) where
  abbrev p : Place
  p = record { decided = record { graph = s.graph; root = r; decisions = ds }; namings = ns; ways = ws }

  abbrev t : Decided
  t = record { graph = s.graph; root = r; decisions = ds }

  abbrev es : List Edge
  es = edges_in s f

  ch : IsChoice s.graph r es
  ch = choice_of s.graph r f.edges hier root

  abbrev name : ℕ → List ℕ
  name = name_in k f

  abbrev inst : Instance
  inst = instance_of s.graph r es name

  abbrev present : ℕ → Bool
  present = is_present r es

  abbrev place : ℕ → ℕ
  place = place_of s.graph r es

  sound : IsSound r es
  sound = agreeing.sound s q r k f hier root one ds ns like.rest

  met : IsMet s q r es name
  met = agreeing.met s q r k f hier root one ds ns like.rest

  parent_present : (c d : ℕ) → Joins es c d → present d ≡ true
  parent_present c d j = made.parent_present s.graph r es ch c d j

  steps_present : {c d : ℕ} → present c ≡ true → Steps (Joins es) c d → present d ≡ true
  steps_present h w = agreeing.steps_present s q r k f hier root one ds ns like.rest h w

  chosen_possible : (x y : ℕ) → Joins es x y → HasEdge (possible_graph t) x y
  chosen_possible x y j = agreeing.chosen_possible s q r k f hier root one ds ns like.rest x y j

  status_absent : (e : ℕ) → status_of t e ≡ Some false → get_or f.edges e false ≡ true → ⊥
  status_absent e h b =
      let z : true ≡ false = sym b ∙ (agreeing.status_bit s q r k f hier root one ds ns like.rest e false h).1 in cc

  -- ---- ways

  way_there : (a b : ℕ) → way_of ws a b ≡ Some true → Leads s r f a b
  way_there a b h =
      let w = way_some ws a b true h in
      let i = like.ways w.0 w.1 in
      let j : IsSo s r f true w.0.child w.0.parent = subst (λ x. IsSo s r f x w.0.child w.0.parent) w.4 i in
      subst (λ x. Leads s r f a x) w.3 (subst (λ x. Leads s r f x w.0.parent) w.2 j)

  way_absent : (a b : ℕ) → way_of ws a b ≡ Some false → Leads s r f a b → ⊥
  way_absent a b h l =
      let w = way_some ws a b false h in
      let i = like.ways w.0 w.1 in
      let j : IsSo s r f false w.0.child w.0.parent = subst (λ x. IsSo s r f x w.0.child w.0.parent) w.4 i in
      j (subst (λ x. Leads s r f w.0.child x) (sym w.3) (subst (λ x. Leads s r f x b) (sym w.2) l))

  -- present edges and ways that are there lead on, from members
  leading_on : (x : Edge) → Contains (leading_edges p) x → Leads s r f x.child x.parent
  leading_on x c = elim (Contains-append_cases (present_edges t)
      (map edge_of_way (filter (λ (w : Way). w.there) ws)) x c) [
        | inl h ↦
            let j = agreeing.present_contained s q r k f hier root one ds ns like.rest x h in
            (made.child_present s.graph r es ch x.child x.parent j, step j here)
        | inr h ↦
            let m = Contains-from_map edge_of_way
            (filter (λ (w : Way). w.there) ws) x h in
            let u = Contains-from_filter (λ (w : Way). w.there) ws m.0 m.1 in
            let i = like.ways m.0 u.0 in
            let j : IsSo s r f true m.0.child m.0.parent = subst (λ b. IsSo s r f b m.0.child m.0.parent) u.1 i in
            subst (λ (e : Edge). Leads s r f e.child e.parent) m.2 j
      ]

  known_there : (c : ℕ) → is_known p c ≡ true → present c ≡ true
  known_there c h = elim (or_cases (c == r)
      (list_any (λ (e : Edge). (e.child == c) || (e.parent == c)) (leading_edges p)) h) [
        | inl a ↦ subst (λ x. present x ≡ true) (sym (eqb-true c r a)) (made.root_present s.graph r es ch)
        | inr a ↦
            let w = (list_any_is (λ (e : Edge). (e.child == c) || (e.parent == c)) (leading_edges p)).0 a in
            let j = leading_on w.0 w.1 in
            elim (or_cases (w.0.child == c) (w.0.parent == c) w.2) [
              | inl b ↦ subst (λ x. present x ≡ true) (eqb-true w.0.child c b) j.0
              | inr b ↦ subst (λ x. present x ≡ true) (eqb-true w.0.parent c b) (steps_present j.0 j.1)
            ]
      ]

  -- each member reaches `all`
  top_reached : (c : ℕ) → present c ≡ true → Steps (Joins es) c 0
  top_reached c h =
      let legal = one.stands_for.legal in
      let a = reaches_all s.graph inst legal.is_instance legal.lawful (place c)
      (made.member_is s.graph r es ch name c h).0 in
      let l : a.0 < length inst = let n = a.1 in omega arith in
      let o = made.only_member s.graph r es ch name 0 a.0 (l, (legal.is_instance.all_is_last a.0 l).1 a.1) in
      (made.reaches_walk s.graph r es ch name c 0 h o.0).0
      (reaches_from_Steps (subst (λ x. Steps (IsBelow inst) (place c) x) (sym o.1) a.2))

  -- what leads on leads on
  leads_is : (a b : ℕ) → leads form p a b ≡ true → Leads s r f a b
  leads_is a b h = go (is_known p a) refl (is_top form b) refl (category_reaches (leading_graph p) a b) refl h
    where
      top_is : (o : Form) → is_top o b ≡ true → b ≡ 0
      top_is Long e = absurd (cc)
      top_is Short e = eqb-true b 0 e

      go : (x : Bool) → is_known p a ≡ x → (y : Bool) → is_top form b ≡ y
          → (z : Bool) → category_reaches (leading_graph p) a b ≡ z → x && (y || z) ≡ true → Leads s r f a b
      go false u y e z w v = absurd (cc)
      go true u true e z w v =
          let i = known_there a u in
          (i, subst (λ x. Steps (Joins es) a x) (sym (top_is form e)) (top_reached a i))
      go true u false e true w v = (
        known_there a u,
        joined (λ x y j. (leading_on (record { child = x; parent = y }) j).1)
            (Steps-from_reaches ((category_reaches_is (leading_graph p) a b).0 w)),
      )
      go true u false e false w v = absurd (cc)

  -- ---- what is known is so

  there_from : (c e : ℕ) → Leads s r f c e → ReachesThere inst present place c e
  there_from c e l =
      let i = steps_present l.0 l.1 in (l.0, i, (made.reaches_walk s.graph r es ch name c e l.0 i).1 l.1)

  leads_from : (c e : ℕ) → ReachesThere inst present place c e → Leads s r f c e
  leads_from c e h = (h.0, (made.reaches_walk s.graph r es ch name c e h.0 h.1).0 h.2)

  pub reached_is : (c e : ℕ) → Tells (truth_of_reach form p c e) (ReachesThere inst present place c e)
  reached_is c e = go (way_of ws c e) refl
    where
      free : (a : Bool) → leads form p c e ≡ a → (w : Bool) → category_reaches (possible_graph t) c e ≡ w
          → Tells (cond a Yes (cond w Unknown No)) (ReachesThere inst present place c e)
      free true y w x = there_from c e (leads_is c e y)
      free false y true x = tt
      free false y false x = λ h.
          let v = (category_reaches_is (possible_graph t) c e).1
          (reaches_from_Steps (wider chosen_possible (leads_from c e h).1)) in
          let z : true ≡ false = sym v ∙ x in cc

      go : (o : Option Bool) → way_of ws c e ≡ o → Tells (elim o [
        | Some there ↦ known there
        | None ↦ if leads form p c e then Yes else (if category_reaches (possible_graph t) c e then Unknown else No)
      ]) (ReachesThere inst present place c e)
      go (Some true) h = there_from c e (way_there c e h)
      go (Some false) h = λ w. way_absent c e h (leads_from c e w)
      go None h = free (leads form p c e) refl (category_reaches (possible_graph t) c e) refl

  pub name_is : (c : ℕ) (text : List ℕ)
      → Tells (truth_of_name p c (λ w. bytes_eq w text) (name_of k ns c)) (HasNameThere inst present place c text)
  name_is c text = go (name_of k ns c) refl
    where
      of_test : (w : List ℕ) → name c ≡ w → (a : Bool) → bytes_eq w text ≡ a → (b : Bool) → is_known p c ≡ b
          → Tells (cond a (cond b Yes Unknown) No) (HasNameThere inst present place c text)
      of_test w n true x true y =
          let h = known_there c y in
          (h, made.name_there s.graph r es ch name c h ∙ n ∙ (bytes_eq-Decides w text).0 x)
      of_test w n true x false y = tt
      of_test w n false x b y = λ h.
          let v = (bytes_eq-Decides w text).1 (sym n ∙ sym (made.name_there s.graph r es ch name c h.0) ∙ h.1) in
          let z : true ≡ false = sym v ∙ x in cc

      go : (o : Option (List ℕ)) → name_of k ns c ≡ o
          → Tells (truth_of_name p c (λ w. bytes_eq w text) o) (HasNameThere inst present place c text)
      go None e = tt
      go (Some w) e =
          of_test w (agreeing.name_told s q r k f hier root one ds ns like.rest c w e) (bytes_eq w text) refl
          (is_known p c) refl

  pub number_is : (c : ℕ) (op : Op) (n : ℤ)
      → Tells (truth_of_name p c (λ w. is_numbered w op n) (name_of k ns c)) (HasNumberThere inst present place c op n)
  number_is c op n = go (name_of k ns c) refl
    where
      of_test : (w : List ℕ) → name c ≡ w → (a : Bool) → is_numbered w op n ≡ a → (b : Bool) → is_known p c ≡ b
          → Tells (cond a (cond b Yes Unknown) No) (HasNumberThere inst present place c op n)
      of_test w e true x true y =
          let h = known_there c y in
          let q = made.name_there s.graph r es ch name c h ∙ e in
          (h, subst (λ t. IsNumbered t op n) (sym q) x)
      of_test w e true x false y = tt
      of_test w e false x b y = λ h.
          let q = made.name_there s.graph r es ch name c h.0 ∙ e in
          let v = subst (λ t. IsNumbered t op n) q h.1 in
          let z : true ≡ false = sym v ∙ x in cc

      go : (o : Option (List ℕ)) → name_of k ns c ≡ o
          → Tells (truth_of_name p c (λ w. is_numbered w op n) o) (HasNumberThere inst present place c op n)
      go None e = tt
      go (Some w) e = of_test w (agreeing.name_told s q r k f hier root one ds ns like.rest c w e)
          (is_numbered w op n) refl (is_known p c) refl

  pub completes : Completes (knowledge form k p) inst present place
  completes = record {
    edges = agreeing.edge_is s q r k f hier root one ds ns like.rest;
    reaching = reached_is;
    names = name_is;
    numbers = number_is;
  }

  known_false : (c : ℕ) (w : Formula) → present c ≡ true → value_at (knowledge form k p) c w ≡ No
      → Holds inst (place c) w → ⊥
  known_false c w h e = subst (λ x. Tells x (Holds inst (place c) w)) e
      (values_are_truths (knowledge form k p) inst present place (made.chosen_shape s.graph r es ch name) completes
      c h w)

  -- ---- where a line closes

  dead_none : (c : ℕ) → IsDead s.graph p c → ⊥
  dead_none c h =
      let j = sound.upward c (known_there c h.1) h.0 in
      let w = edge_from s f c j.0 j.1 in
      status_absent w.0 (subst (λ e. status_of t e ≡ Some false) w.1.2 (h.2 w.1.0 w.0 w.1.1)) w.2

  cycle_none : HoldsCycle (present_graph t) → ⊥
  cycle_none h = agreeing.cycle_none s q r k f hier root one ds ns like.rest h

  shortcut_none : HoldsShortcut (present_graph t) → ⊥
  shortcut_none h = agreeing.shortcut_none s q r k f hier root one ds ns like.rest h

  told_no : (c e : ℕ) → truth_of_reach form p c e ≡ No → ReachesThere inst present place c e → ⊥
  told_no c e n = subst (λ x. Tells x (ReachesThere inst present place c e)) n (reached_is c e)

  loose_none : (e : ℕ) → IsLoose s.graph p e → ⊥
  loose_none e h =
      let b = agreeing.status_bit s q r k f hier root one ds ns like.rest e true h.1 in
      let x = edge_at s.graph e in
      let c = place_chosen s.graph.edges f.edges x (record { child = 0; parent = 0 }) e b.0 b.1 refl in
      let w = sound.reached x.child (made.child_present s.graph r es ch x.child x.parent c) in
      h.2 (reaches_from_Steps (wider chosen_possible w))

  unreached_none : (c : ℕ) → IsUnreached form p c → ⊥
  unreached_none c h = told_no r c h.2
      (there_from r c (made.root_present s.graph r es ch, sound.reached c (known_there c h.1)))

  unmet_at : (cs : List Constraint) (n : ℕ) → IsUnmetAt form cs n k p
      → (c : Constraint) × Contains cs c × IsUnmet form k p c
  unmet_at [] n h = absurd h
  unmet_at (c ∷ cs) zero h = (c, contains_head c cs, h)
  unmet_at (c ∷ cs) (suc n) h = let w = unmet_at cs n h in (w.0, contains_cons w.0 cs c w.1, w.2)

  unmet_none : (n : ℕ) → IsUnmetAt form s.constraints n k p → ⊥
  unmet_none n h =
      let w = unmet_at s.constraints n h in
      let i = known_there w.0.root w.2.0 in
      known_false w.0.root w.0.formula i w.2.1 (met.meets w.0 w.1 i)

  asked_none : value_at (knowledge form k p) r q ≡ No → ⊥
  asked_none h = known_false r q (made.root_present s.graph r es ch) h met.question

  -- a way that is there has a first step
  steps_none : (a b : ℕ) → a ≢ b
      → All (λ e. (status_of t e ≡ Some false) ⊎ (truth_of_reach form p (edge_at s.graph e).parent b ≡ No))
      (edges_from s.graph a)
      → Leads s r f a b → ⊥
  steps_none a b n all l = go l.1 refl refl
    where
      go : {x y : ℕ} → Steps (Joins es) x y → x ≡ a → y ≡ b → ⊥
      go here u w = n (sym u ∙ w)
      go (step {x = c} {y = z} {z = d} j rest) u w =
          let i = edge_from s f a z (subst (λ m. Joins es m z) u j) in
          let m = i.1 in
          let rest' : Steps (Joins es) z b = subst (λ m. Steps (Joins es) z m) w rest in
          let reason =
          subst (λ e. (status_of t e ≡ Some false) ⊎ (truth_of_reach form p (edge_at s.graph e).parent b ≡ No)) m.2
          (all m.0 i.0 m.1) in
          elim reason [
            | inl h ↦ status_absent i.0 h i.2
            | inr h ↦ told_no z b (subst (λ v. truth_of_reach form p v b ≡ No) i.3 h)
                (there_from z b (parent_present c z j, rest'))
          ]

  clash_none : (a b : ℕ) → IsClash form s.graph p a b → ⊥
  clash_none a b (inl h) = steps_none a b h.1 h.2 (way_there a b h.0)
  clash_none a b (inr h) = way_absent a b h.0 (leads_is a b h.1)

  pub closed_none : (l : Line) → Closes form s q k p l → ⊥
  closed_none (EdgeOrNot e) h = h
  closed_none (NameOf c) h = h
  closed_none (WayOrNot a b) h = h
  closed_none (Dead c) h = dead_none c h
  closed_none Cycle h = cycle_none ((cyclic_is (present_graph t)).1 h)
  closed_none Shortcut h = shortcut_none ((shortened_is (present_graph t)).1 h)
  closed_none (Loose e) h = loose_none e h.1
  closed_none (Unreached c) h = unreached_none c h.1
  closed_none (Clash a b) h = clash_none a b h.1
  closed_none (Unmet n) h = unmet_none n h
  closed_none Asked h = asked_none h
