-- Words, names and edges in the bytes of a line.
--     pair_..              two names with a space between them
--     edge_..              the edge between two categories
use Rattle.std.proofs.Common.{◌≡◌, ℕ, zero, suc, ◌<◌, ◌≤◌, ◌++◌, List, [], ◌∷◌, length, get_or, Option, Some, None, refl, ap, sym, subst, ◌∙◌, ◌↔◌, inl, inr, codes, arith}
use Rattle.std.proofs.lemmas.{List.Elements.{Contains-append_right, Contains-get_or}, Slice.Eq.bytes_eq-Decides}
use Rattle.std.specs.{Option.option_map, Prelude.{Contains, IfSome, IsNone, IsSome}, Str.bytes_eq}
use Rattle.olap_base.{proofs.ListLemmas.{Contains-nil, contains_head}, specs.Deciding.{contains_cases, contains_cons}}
use Rattle.olap_base.specs.Graph.{Edge, Graph, HasEdge, IsCategory, IsCategoryName, IsHierarchy, IsLetterOrDigit}
use Rattle.olap_base.specs.declared.ids.{CatId.CatId, EdgeId.EdgeId}
use Rattle.olap_graph.proofs.{NamesApart.names_differ, PlaceLemmas.{found, joins-Decides, missing}}
use Rattle.olap_graph.proofs.TableLemmas.{has_edge_at}
use Rattle.olap_graph.specs.Lookups.{category_named, edge_at, edge_between, joins, name_of_category, names_of}
use Rattle.olap_proof.specs.Lines.{edge_words, way_words}

-- ---- marks

-- what stands before the first mark is one text, and what stands after it
pub parted : (d : ℕ) (w v x y : List ℕ) → (Contains w d → ⊥) → (Contains x d → ⊥) → w ++ d ∷ v ≡ x ++ d ∷ y
    → (w ≡ x) × (v ≡ y)
parted d [] v [] y n m e = (refl, cc)
parted d [] v (b ∷ x) y n m e =
    let h : b ≡ d = cc in absurd (m (subst (λ z. Contains (z ∷ x) d) (sym h) (contains_head d x)))
parted d (a ∷ w) v [] y n m e =
    let h : a ≡ d = cc in absurd (n (subst (λ z. Contains (z ∷ w) d) (sym h) (contains_head d w)))
parted d (a ∷ w) v (b ∷ x) y n m e =
    let h : a ≡ b = cc in
    let t : w ++ d ∷ v ≡ x ++ d ∷ y = cc in
    let r = parted d w v x y (λ c. n (contains_cons d w a c)) (λ c. m (contains_cons d x b c)) t in
    (ap (λ z. z ∷ w) h ∙ ap (λ z. b ∷ z) r.0, r.1)

-- a text with a mark isn't one without
pub unparted : (d : ℕ) (bytes w v : List ℕ) → (Contains bytes d → ⊥) → w ++ d ∷ v ≡ bytes → ⊥
unparted d bytes w v n e =
    n (subst (λ z. Contains z d) e (Contains-append_right w (d ∷ v) d (contains_head d v)))

-- ---- names

-- letters and digits come after the mark
small : (b d : ℕ) → d ≤ 47 → IsLetterOrDigit b → b ≡ d → ⊥
small b d l h e = grind arith

-- what is a category's name has letters and digits alone
pub plain : (name : List ℕ) → IsCategoryName name → (d : ℕ) → d ≤ 47 → Contains name d → ⊥
plain [] n d l c = absurd n
plain (b ∷ rest) n d l c = elim (contains_cases d b rest c) [
  | inl same ↦ small b d l (inl n.0) same
  | inr m ↦ small (get_or rest m.0 d) d l (n.1 m.0 d m.1) m.2
]

-- `All` has no byte so small
plain_all : (d : ℕ) → d ≤ 47 → Contains (codes "All") d → ⊥
plain_all d l c = elim (contains_cases d 65 (108 ∷ 108 ∷ []) c) [
  | inl same ↦ omega (arith, same)
  | inr m ↦ elim (contains_cases d 108 (108 ∷ []) m) [
    | inl same ↦ omega (arith, same)
    | inr k ↦ elim (contains_cases d 108 [] k) [
      | inl same ↦ omega (arith, same)
      | inr z ↦ Contains-nil d z
    ]
  ]
]

-- nor has any category's name
pub name_plain : (g : Graph) → IsHierarchy g → (c : ℕ) → IsCategory g c → (d : ℕ) → d ≤ 47
    → Contains (name_of_category g c) d → ⊥
name_plain g h zero i d l = plain_all d l
name_plain g h (suc c) i d l =
    plain (get_or g.names c []) (h.names (get_or g.names c []) (Contains-get_or g.names c [] (omega arith))).0 d l

-- a category that was found has the name
pub category_found : (g : Graph) (name : List ℕ) (r : Option CatId) → option_map (λ c. c.0) r ≡ category_named g name
    → IfSome r (λ c. IsCategory g c.0) → IfSome r (λ c. IsCategory g c.0 × (name_of_category g c.0 ≡ name))
category_found g name None e h = tt
category_found g name (Some c) e h =
    let f = found (bytes_eq name) (λ x. name ≡ x) (bytes_eq-Decides name) (names_of g) 0 c.0 (sym e) in
    let same : f.0 ≡ c.0 = omega (arith, f.1) in
    (h, sym (subst (λ k. name ≡ get_or (names_of g) k []) same (f.3 [])))

-- where none was found no category has it
pub no_category : (g : Graph) (name : List ℕ) (r : Option CatId) → option_map (λ c. c.0) r ≡ category_named g name
    → IsNone r → (c : ℕ) → IsCategory g c → name_of_category g c ≡ name → ⊥
no_category g name None e n c l same =
    missing (bytes_eq name) (λ x. name ≡ x) (bytes_eq-Decides name) (names_of g) 0 (sym e) (name_of_category g c)
    (Contains-get_or (names_of g) c [] (omega arith)) (sym same)
no_category g name (Some x) e n c l same = absurd (cc)

-- ---- two names, and edges

-- two names with a space between them are of one pair of categories
pub pair_once : (g : Graph) → IsHierarchy g → (a b c d : ℕ) → IsCategory g a → IsCategory g b → IsCategory g c
    → IsCategory g d → way_words g a b ≡ way_words g c d → (a ≡ c) × (b ≡ d)
pair_once g h a b c d i j k l e =
    let p = parted 32 (name_of_category g a) (name_of_category g b) (name_of_category g c) (name_of_category g d)
    (name_plain g h a i 32 (omega arith)) (name_plain g h c k 32 (omega arith)) e in
    (names_differ g h a c i k p.0, names_differ g h b d j l p.1)

-- the names after a cut are these
pub pair_cut : (g : Graph) → IsHierarchy g → (a b : ℕ) → IsCategory g a → (bytes w v : List ℕ) → (Contains w 32 → ⊥)
    → bytes ≡ w ++ 32 ∷ v → way_words g a b ≡ bytes → (name_of_category g a ≡ w) × (name_of_category g b ≡ v)
pair_cut g h a b i bytes w v n p e =
    parted 32 (name_of_category g a) (name_of_category g b) w v (name_plain g h a i 32 (omega arith)) n (e ∙ p)

-- an edge that was found is between these categories
pub edge_is : (g : Graph) (c d : ℕ) (r : Option EdgeId) → option_map (λ e. e.0) r ≡ edge_between g c d
    → IfSome r (λ e. (e.0 < length g.edges) × (edge_at g e.0 ≡ record { child = c; parent = d }))
edge_is g c d None q = tt
edge_is g c d (Some e) q =
    let t = found (joins c d) (λ x. x ≡ record { child = c; parent = d }) (joins-Decides c d) g.edges 0 e.0 (sym q) in
    let k : e.0 ≡ t.0 = omega (arith, t.1) in
    (subst (λ n. n < length g.edges) (sym k) t.2, ap (edge_at g) k ∙ t.3 (record { child = 0; parent = 0 }))

-- and has these words
pub edge_spelled : (g : Graph) (c d : ℕ) (bytes : List ℕ) (r : Option EdgeId)
    → option_map (λ e. e.0) r ≡ edge_between g c d → way_words g c d ≡ bytes
    → IfSome r (λ e. (e.0 < length g.edges) × (edge_words g e.0 ≡ bytes))
edge_spelled g c d bytes None q w = tt
edge_spelled g c d bytes (Some e) q w =
    let t = edge_is g c d (Some e) q in (t.0, ap (λ (x : Edge). way_words g x.child x.parent) t.1 ∙ w)

-- where none was found no edge has these words
pub edge_unspelled : (g : Graph) → IsHierarchy g → (c d : ℕ) (bytes : List ℕ) (r : Option EdgeId)
    → IsSome r ↔ HasEdge g c d → IsCategory g c → IsCategory g d → way_words g c d ≡ bytes → IsNone r
    → (e : ℕ) → e < length g.edges → edge_words g e ≡ bytes → ⊥
edge_unspelled g h c d bytes None q i j w n e l same =
    let x = edge_at g e in
    let there = has_edge_at g e l in
    let p = pair_once g h x.child x.parent c d (h.categories x.child x.parent there).0
    (h.categories x.child x.parent there).1 i j (same ∙ sym w) in
    let z = q.1 (subst (λ b. HasEdge g c b) p.1 (subst (λ a. HasEdge g a x.parent) p.0 there)) in cc
edge_unspelled g h c d bytes (Some x) q i j w n e l same = absurd (cc)
