-- A plain tree, which decides each edge and then each name, closes if there is no frozen dimension.
--     edge_tree         two trees are one below the line of an edge
--     name_tree         and trees for each name below the line of a category
--     certificates_exist_exactly_where_summarizable
use Rattle.std.proofs.Common.{◌≡◌, ℕ, zero, suc, ◌+◌, ◌<◌, ◌≤◌, List, [], ◌∷◌, ◌++◌, length, map, Bool, true, false, cond, Some, None, refl, ap, sym, subst, ◌∙◌, inl, inr, arith}
use Rattle.std.proofs.lemmas.{Bool.{ne_eqb, eq-eqb}, List.map_push, List.Elements.{All-nil, All-push, Contains-get_or}}
use Rattle.std.{proofs.lemmas.List.Quantifiers.all_pairs_push, specs.List.{list_any, range_with_len}}
use Rattle.std.specs.Prelude.{AllPairs, Contains, ◌==◌, ◌≢◌, not}
use Rattle.olap_base.proofs.ListLemmas.{Contains-from_filter, Contains-from_range, Contains-from_range_at, Contains-nil, contains_head, list_any_is}
use Rattle.olap_base.specs.Deciding.{contains_cases, contains_cons}
use Rattle.olap_base.specs.Graph.{Edge, Graph, HasEdge, IsBottom, IsCategory, IsDeclared, IsHierarchy}
use Rattle.olap_ast.{proofs.Summing.summarizable_exactly, specs.Formula.Formula}
use Rattle.olap_ast.specs.{Frozen.{AreCandidates, Candidates, Frozen, IsFrozen}, Schema.Schema, Summarizable.not_by_one}
use Rattle.olap_trail.specs.Decisions.{AreDecisions, Decision, status_in}
use Rattle.olap_proof.proofs.{CertificateLemmas.certificates_are_right, ClosingLemmas.full_places_close}
use Rattle.olap_proof.proofs.ReasonLemmas.{closing}
use Rattle.olap_proof.specs.Certificates.{IsCertificate, Open, Open.At, Open.Bottom, Runs, Runs.more, Runs.none, Steps.begins, Steps.edges, Steps.names, Steps.roots, bottom_text, bottoms_of, head_text, indexes_of, start, with_edge, with_name}
use Rattle.olap_proof.specs.{Closing.{Closes, IsAbout}, Existing.CertificatesExistExactlyWhereSummarizable}
use Rattle.olap_proof.specs.{FullPlaces.IsFull, Lines.{Line, Line.EdgeOrNot, Line.NameOf, line_text}}
use Rattle.olap_proof.specs.{Places.{Naming, Place, index_of}, declared.forms.Form.Form}
use native.Mathlib.Decide.{ℕ_discrete}

-- ---- decisions on edges

-- the new one is told, where there was none
pub status_new : (ds : List Decision) (e : ℕ) (b : Bool) → status_in ds e ≡ None
    → status_in (ds ++ (record { edge = e; present = b }) ∷ []) e ≡ Some b
status_new [] e b h = ap (λ t. cond t (Some b) None) (eq-eqb e e refl)
status_new (d ∷ ds) e b h = go (d.edge == e) refl h (status_new ds e b)
  where
    go : (t : Bool) → d.edge == e ≡ t → cond t (Some d.present) (status_in ds e) ≡ None
        → (status_in ds e ≡ None → status_in (ds ++ (record { edge = e; present = b }) ∷ []) e ≡ Some b)
        → cond (d.edge == e) (Some d.present) (status_in (ds ++ (record { edge = e; present = b }) ∷ []) e) ≡ Some b
    go true p q rest = absurd (cc)
    go false p q rest =
        ap (λ t. cond t (Some d.present) (status_in (ds ++ (record { edge = e; present = b }) ∷ []) e)) p ∙ rest q

-- the others are told as before
pub status_other : (ds : List Decision) (e : ℕ) (b : Bool) (x : ℕ) → x ≢ e
    → status_in (ds ++ (record { edge = e; present = b }) ∷ []) x ≡ status_in ds x
status_other [] e b x n = ap (λ t. cond t (Some b) None) (ne_eqb e x (λ q. n (sym q)))
status_other (d ∷ ds) e b x n = ap (λ o. cond (d.edge == x) (Some d.present) o) (status_other ds e b x n)

-- an edge of which nothing is told isn't among those that were decided
undecided_new : (ds : List Decision) (e : ℕ) → status_in ds e ≡ None
    → Contains (map (λ (d : Decision). d.edge) ds) e → ⊥
undecided_new [] e h c = Contains-nil e c
undecided_new (d ∷ ds) e h c = elim (contains_cases e d.edge (map (λ (d : Decision). d.edge) ds) c) [
  | inl q ↦
      let z : cond true (Some d.present) (status_in ds e) ≡ None =
      ap (λ t. cond t (Some d.present) (status_in ds e)) (sym (eq-eqb d.edge e q)) ∙ h in cc
  | inr m ↦ undecided_new ds e (go (d.edge == e) h) m
]
  where
    go : (t : Bool) → cond t (Some d.present) (status_in ds e) ≡ None → status_in ds e ≡ None
    go true q = absurd (cc)
    go false q = q

-- one decision more, on an edge that was undecided
pub decisions_push : (g : Graph) (r : ℕ) (ds : List Decision) (e : ℕ) (b : Bool)
    → AreDecisions (record { graph = g; root = r; decisions = ds }) → e < length g.edges → status_in ds e ≡ None
    → AreDecisions (record { graph = g; root = r; decisions = ds ++ (record { edge = e; present = b }) ∷ [] })
decisions_push g r ds e b a h u = record {
  root = a.root;
  edges = All-push (λ (d : Decision). d.edge < length g.edges) ds (record { edge = e; present = b }) a.edges h;
  edges_differ =
      subst (λ es. AllPairs ◌≢◌ es) (sym (map_push (λ (d : Decision). d.edge) ds (record { edge = e; present = b })))
      (all_pairs_push ◌≢◌ (map (λ (d : Decision). d.edge) ds) e a.edges_differ
      (λ k x l q. undecided_new ds e u (subst (λ y. Contains (map (λ (d : Decision). d.edge) ds) y) q
      (Contains-get_or (map (λ (d : Decision). d.edge) ds) k x l))));
}

-- ---- decisions on names

-- the new one is told, where there was none
pub index_new : (ns : List Naming) (c i : ℕ) → index_of ns c ≡ None
    → index_of (ns ++ (record { category = c; index = i }) ∷ []) c ≡ Some i
index_new [] c i h = ap (λ b. cond b (Some i) None) (eq-eqb c c refl)
index_new (n ∷ ns) c i h = go (n.category == c) refl h (index_new ns c i)
  where
    go : (b : Bool) → n.category == c ≡ b → cond b (Some n.index) (index_of ns c) ≡ None
        → (index_of ns c ≡ None → index_of (ns ++ (record { category = c; index = i }) ∷ []) c ≡ Some i)
        → cond (n.category == c) (Some n.index) (index_of (ns ++ (record { category = c; index = i }) ∷ []) c) ≡ Some i
    go true e q rest = absurd (cc)
    go false e q rest =
        ap (λ b. cond b (Some n.index) (index_of (ns ++ (record { category = c; index = i }) ∷ []) c)) e ∙ rest q

-- the others are told as before
pub index_other : (ns : List Naming) (c i d : ℕ) → d ≢ c
    → index_of (ns ++ (record { category = c; index = i }) ∷ []) d ≡ index_of ns d
index_other [] c i d n = ap (λ b. cond b (Some i) None) (ne_eqb c d (λ e. n (sym e)))
index_other (x ∷ ns) c i d n = ap (λ o. cond (x.category == d) (Some x.index) o) (index_other ns c i d n)

-- ---- trees

module _ (m : Form) (s : Schema) (q : Formula) (k : Candidates) where
  -- some lines close all that is open
  abbrev pub Ends : List Open → Type 0
  Ends os = (lines : List (List ℕ)) × Runs m s q k lines os []

  -- some lines close the place, whatever else is open
  abbrev pub HasTree : Place → Type 0
  HasTree p = (rest : List Open) → Ends rest → Ends (At p ∷ rest)

  pub leaf_tree : (p : Place) (l : Line) → IsAbout s l → Closes m s q k p l → HasTree p
  leaf_tree p l a h rest e = (line_text s.graph l ∷ e.0, more (closing l a h) e.1)

  pub edge_tree : (p : Place) (e : ℕ) → e < length s.graph.edges → status_in p.decided.decisions e ≡ None
      → HasTree (with_edge p e false) → HasTree (with_edge p e true) → HasTree p
  edge_tree p e h u absent there rest r =
      let a = there rest r in
      let b = absent (At (with_edge p e true) ∷ rest) a in
      (line_text s.graph (EdgeOrNot e) ∷ b.0, more (edges h u) b.1)

  -- the trees of these names, one after another
  all_trees : (p : Place) (c : ℕ) (is : List ℕ) → ((i : ℕ) → Contains is i → HasTree (with_name p c i))
      → (rest : List Open) → Ends rest → Ends (map (λ i. At (with_name p c i)) is ++ rest)
  all_trees p c [] f rest r = r
  all_trees p c (i ∷ is) f rest r =
      f i (contains_head i is) (map (λ i. At (with_name p c i)) is ++ rest)
      (all_trees p c is (λ j m. f j (contains_cons j is i m)) rest r)

  pub name_tree : (p : Place) (c : ℕ) → IsDeclared s.graph c → index_of p.namings c ≡ None
      → ((i : ℕ) → i < length (k.texts c) + 1 → HasTree (with_name p c i)) → HasTree p
  name_tree p c d u f rest r =
      let a = all_trees p c (indexes_of k c) (λ i m. f i (Contains-from_range (length (k.texts c) + 1) i m)) rest r in
      (line_text s.graph (NameOf c) ∷ a.0, more (names d u) a.1)

-- ---- what is left to decide, in order

module _ (t : Form) (s : Schema) (q : Formula) (k : Candidates) (hier : IsHierarchy s.graph)
    (are : AreCandidates s q k) (r : ℕ) (root : IsCategory s.graph r)
    (nothing : (f : Frozen) → IsFrozen s q r k f → ⊥) where
  abbrev at : List Decision → List Naming → Place
  at ds ns = record { decided = record { graph = s.graph; root = r; decisions = ds }; namings = ns; ways = [] }

  -- the edges below e are decided, once, and no others
  record AreDecidedBelow (e : ℕ) (ds : List Decision) : Type 0 where
    decisions : AreDecisions (record { graph = s.graph; root = r; decisions = ds })
    below : (x : ℕ) → x < e → status_in ds x ≢ None
    above : (x : ℕ) → e ≤ x → status_in ds x ≡ None

  -- the names of declared categories below c are decided, and no others
  record AreNamedBelow (c : ℕ) (ns : List Naming) : Type 0 where
    below : (x : ℕ) → x < c → x ≢ 0 → index_of ns x ≢ None
    above : (x : ℕ) → c ≤ x → index_of ns x ≡ None
    in_range : (x i : ℕ) → index_of ns x ≡ Some i → i ≤ length (k.texts x)

  full_tree : (ds : List Decision) (ns : List Naming) → IsFull s.graph k (at ds ns) → HasTree t s q k (at ds ns)
  full_tree ds ns full = elim (full_places_close t s q k (at ds ns) hier are full) [
    | inl w ↦ leaf_tree t s q k (at ds ns) w.0 w.1 w.2
    | inr w ↦ absurd (nothing w.0 w.1)
  ]

  named_one_more : (ns : List Naming) (c i : ℕ) → AreNamedBelow c ns → i < length (k.texts c) + 1
      → AreNamedBelow (suc c) (ns ++ (record { category = c; index = i }) ∷ [])
  named_one_more ns c i a h = record {
    below = λ x l n. elim (ℕ_discrete x c) [
      | yes e ↦ λ z. let w : Some i ≡ None = sym new ∙ subst (λ y. index_of later y ≡ None) e z in cc
      | no m ↦ λ z. a.below x (omega arith) n (sym (index_other ns c i x m) ∙ z)
    ];
    above = λ x l. index_other ns c i x (λ e. absurd (omega arith)) ∙ a.above x (omega arith);
    in_range = λ x j z. elim (ℕ_discrete x c) [
      | yes e ↦ small x j e (sym new ∙ subst (λ y. index_of later y ≡ Some j) e z)
      | no m ↦ a.in_range x j (sym (index_other ns c i x m) ∙ z)
    ];
  }
    where
      later : List Naming
      later = ns ++ (record { category = c; index = i }) ∷ []

      new : index_of (ns ++ (record { category = c; index = i }) ∷ []) c ≡ Some i
      new = index_new ns c i (a.above c (omega arith))

      small : (x j : ℕ) → x ≡ c → Some i ≡ Some j → j ≤ length (k.texts x)
      small x j e z =
          let y : i ≡ j = cc in
          subst (λ w. j ≤ length (k.texts w)) (sym e) (omega arith)

  names_tree : (m c : ℕ) → suc c + m ≡ length s.graph.names + 1 → (ds : List Decision) (ns : List Naming)
      → AreDecidedBelow (length s.graph.edges) ds → AreNamedBelow (suc c) ns → HasTree t s q k (at ds ns)
  names_tree zero c e ds ns d a = full_tree ds ns (record {
    graph = refl;
    decisions = d.decisions;
    edges = d.below;
    names = λ x i. a.below x (let j = i.1 in omega arith) i.0;
    in_range = a.in_range;
    no_ways = refl;
  })
  names_tree (suc m) c e ds ns d a =
      name_tree t s q k (at ds ns) (suc c) ((λ z. absurd (omega arith)), omega arith) (a.above (suc c) (omega arith))
      (λ i h. names_tree m (suc c) (omega arith) ds (ns ++ (record { category = suc c; index = i }) ∷ []) d
      (named_one_more ns (suc c) i a h))

  decided_one_more : (ds : List Decision) (e : ℕ) (b : Bool) → AreDecidedBelow e ds → e < length s.graph.edges
      → AreDecidedBelow (suc e) (ds ++ (record { edge = e; present = b }) ∷ [])
  decided_one_more ds e b a h = record {
    decisions = decisions_push s.graph r ds e b a.decisions h (a.above e (omega arith));
    below = λ x l. elim (ℕ_discrete x e) [
      | yes q ↦ λ z. let w : Some b ≡ None = sym (status_new ds e b (a.above e (omega arith)))
          ∙ subst (λ y. status_in (ds ++ (record { edge = e; present = b }) ∷ []) y ≡ None) q z in cc
      | no n ↦ λ z. a.below x (omega arith) (sym (status_other ds e b x n) ∙ z)
    ];
    above = λ x l. status_other ds e b x (λ q. absurd (omega arith)) ∙ a.above x (omega arith);
  }

  edges_tree : (m e : ℕ) → e + m ≡ length s.graph.edges → (ds : List Decision) → AreDecidedBelow e ds
      → HasTree t s q k (at ds [])
  edges_tree zero e l ds a =
      names_tree (length s.graph.names) 0 (omega arith) ds []
      (subst (λ x. AreDecidedBelow x ds) (let z : e ≡ length s.graph.edges = omega arith in z) a)
      (record {
        below = λ x i n. absurd (n (omega arith));
        above = λ x i. refl;
        in_range = λ x i z. absurd (cc);
      })
  edges_tree (suc m) e l ds a =
      edge_tree t s q k (at ds []) e (omega arith) (a.above e (omega arith))
      (edges_tree m (suc e) (omega arith) (ds ++ (record { edge = e; present = false }) ∷ [])
      (decided_one_more ds e false a (omega arith)))
      (edges_tree m (suc e) (omega arith) (ds ++ (record { edge = e; present = true }) ∷ [])
      (decided_one_more ds e true a (omega arith)))

  -- from the place at which nothing is decided
  pub tree_by_edges : HasTree t s q k (start s.graph r)
  tree_by_edges = edges_tree (length s.graph.edges) 0 (omega arith) [] (record {
    decisions = record {
      root = root;
      edges = All-nil (λ (d : Decision). d.edge < length s.graph.edges);
      edges_differ = λ i j x l h. absurd (omega arith);
    };
    below = λ x l. absurd (omega arith);
    above = λ x l. refl;
  })

-- ---- all bottom categories

-- what is listed is a bottom category
pub listed_bottom : (g : Graph) (b : ℕ) → Contains (bottoms_of g) b → IsBottom g b
listed_bottom g b c =
    let u = Contains-from_filter (λ c. not (list_any (λ (e : Edge). e.parent == c) g.edges))
    (range_with_len 1 (length g.names)) b c in
    let l = Contains-from_range_at 1 (length g.names) b u.0 in
    (((λ e. let h = l.0 in absurd (omega arith)), (let h = l.1 in omega arith)), λ d h. none d h u.1)
  where
    none : (d : ℕ) → HasEdge g d b → not (list_any (λ (e : Edge). e.parent == b) g.edges) ≡ true → ⊥
    none d h t =
        let w : list_any (λ (e : Edge). e.parent == b) g.edges ≡ true =
        (list_any_is (λ (e : Edge). e.parent == b) g.edges).1 (record { child = d; parent = b }, h, eq-eqb b b refl) in
        let z : not true ≡ true = ap not (sym w) ∙ t in cc

module _ (t : Form) (s : Schema) (q : Formula) (k : Candidates) (hier : IsHierarchy s.graph) (are : AreCandidates s q k)
    (nothing : (b : ℕ) → IsBottom s.graph b → (f : Frozen) → IsFrozen s q b k f → ⊥) where
  bottoms_end : (bs : List ℕ) → ((b : ℕ) → Contains bs b → IsBottom s.graph b) → Ends t s q k (map Bottom bs ++ [])
  bottoms_end [] f = ([], none)
  bottoms_end (b ∷ bs) f =
      let i = f b (contains_head b bs) in
      let r = tree_by_edges t s q k hier are b i.0.1 (nothing b i) (map Bottom bs ++ [])
      (bottoms_end bs (λ x c. f x (contains_cons x bs b c))) in
      (bottom_text s.graph b ∷ r.0, more roots r.1)

  pub certificate_of_none : (lines : List (List ℕ)) × IsCertificate t s q k lines
  certificate_of_none =
      let r = bottoms_end (bottoms_of s.graph) (listed_bottom s.graph) in
      (head_text t ∷ r.0, more begins r.1)

-- the theorem: a plain tree for each bottom category
pub certificates_exist_exactly_where_summarizable : CertificatesExistExactlyWhereSummarizable
certificates_exist_exactly_where_summarizable t s c sources k hier are = (
  λ h. certificate_of_none t s (not_by_one c sources) k hier are ((summarizable_exactly s c sources k hier are).0 h),
  λ w. certificates_are_right t s c sources k w.0 hier are w.1,
)
