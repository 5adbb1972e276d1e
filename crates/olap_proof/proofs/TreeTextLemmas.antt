-- Trees, line by line, as the bytes that are appended.
--     adds_none, adds_more    nothing, and some after others
--     adds_leaf               a line that closes a place
--     adds_edge               an edge's line, with the trees below it
--     adds_names              a category's line, with those below it
use Rattle.std.proofs.Common.{◌≡◌, ℕ, ◌+◌, ◌<◌, ◌≤◌, List, [], ◌∷◌, ◌++◌, length, map, Bool, true, false, None, inl, inr, refl, ap, sym, subst, ◌∙◌, arith}
use Rattle.std.proofs.lemmas.List.{append_assoc, append-nil, Concat.flat_map-append, Elements.Contains-push_cases}
use Rattle.std.{proofs.lemmas.List.FromFn.map-range_with_len_more, specs.List.range_with_len}
use Rattle.std.specs.Prelude.{◌≢◌, All, Contains, Err, Ok, OnOk, Result, is_none}
use Rattle.olap_ast.specs.{Formula.Formula, Frozen.{AreCandidates, Candidates, Frozen, IsFrozen}, Schema.Schema}
use Rattle.olap_base.proofs.{AboveLemmas.tally-lt, ListLemmas.{Contains-nil, Contains-range}}
use Rattle.olap_base.specs.Graph.{Graph, IsCategory, IsDeclared, IsHierarchy, category_count}
use Rattle.olap_names.specs.Names.{Named, candidates_of}
use Rattle.olap_trail.specs.Decisions.{Decision, status_of}
use Rattle.olap_proof.proofs.{AgreeingLemmas.index_some, ClosingLemmas.full_places_close}
use Rattle.olap_proof.proofs.PlainTreeLemmas.{decisions_push, index_new, index_other, status_new, status_other}
use Rattle.olap_proof.proofs.{ReasonLemmas.closing, TallyLemmas.tally}
use Rattle.olap_proof.specs.Certificates.{Open, Open.At, Open.Bottom, Runs, Runs.more, Steps.edges, Steps.names, Steps.roots, bottom_text, indexes_of, lines_text, start, with_edge, with_name}
use Rattle.olap_proof.specs.{Closing.{Closes, IsAbout}, Lines.{Line, Line.EdgeOrNot, Line.NameOf, line_text}}
use Rattle.olap_proof.specs.{Places.{Naming, Place, index_of}, Trees.{Adds, Close, IsPlaceOf}, Within.IsWithin}
use Rattle.olap_proof.specs.declared.forms.Form.{Form}
use native.Mathlib.Decide.{ℕ_discrete}

-- ---- lines

module _ (m : Form) (s : Schema) (q : Formula) (k : Candidates) where
  close_more : (os us : List Open) (ls ms : List (List ℕ)) → Close m s q k os ls → Close m s q k us ms
      → Close m s q k (os ++ us) (ls ++ ms)
  close_more os us ls ms f g after rest end r =
      subst (λ x. Runs m s q k x ((os ++ us) ++ rest) end) (sym (append_assoc ls ms after))
      (subst (λ x. Runs m s q k (ls ++ (ms ++ after)) x end) (sym (append_assoc os us rest))
      (f (ms ++ after) (us ++ rest) end (g after rest end r)))

  -- a line, and those that close what it leaves
  close_edge : (p : Place) (e : ℕ) → e < length s.graph.edges → status_of p.decided e ≡ None
      → (ls : List (List ℕ)) → Close m s q k (At (with_edge p e false) ∷ At (with_edge p e true) ∷ []) ls
      → Close m s q k (At p ∷ []) (line_text s.graph (EdgeOrNot e) ∷ ls)
  close_edge p e h u ls f after rest end r = more (edges h u) (f after rest end r)

  close_names : (p : Place) (c : ℕ) → IsDeclared s.graph c → index_of p.namings c ≡ None
      → (ls : List (List ℕ)) → Close m s q k (map (λ i. At (with_name p c i)) (indexes_of k c)) ls
      → Close m s q k (At p ∷ []) (line_text s.graph (NameOf c) ∷ ls)
  close_names p c d u ls f after rest end r = more (names d u) (f after rest end r)

  -- ---- bytes

  pub adds_more : (os us : List Open) (a b c : List ℕ) → Adds m s q k os a b → Adds m s q k us b c
      → Adds m s q k (os ++ us) a c
  adds_more os us a b c f g = (
    f.0 ++ g.0,
    g.1 ∙ ap (λ x. x ++ lines_text g.0) f.1 ∙ append_assoc a (lines_text f.0) (lines_text g.0)
        ∙ ap (λ x. a ++ x) (sym (flat_map-append (λ (line : List ℕ). line ++ 10 ∷ []) f.0 g.0)),
    close_more os us f.0 g.0 f.2 g.2,
  )

  -- a line in front
  in_front : (line : List ℕ) (ls : List (List ℕ)) (a b c : List ℕ) → b ≡ a ++ (line ++ 10 ∷ [])
      → c ≡ b ++ lines_text ls → c ≡ a ++ lines_text (line ∷ ls)
  in_front line ls a b c e f = f ∙ ap (λ x. x ++ lines_text ls) e ∙ append_assoc a (line ++ 10 ∷ []) (lines_text ls)

  pub adds_leaf : (p : Place) (l : Line) (a b : List ℕ) → IsAbout s l → Closes m s q k p l
      → b ≡ a ++ (line_text s.graph l ++ 10 ∷ []) → Adds m s q k (At p ∷ []) a b
  adds_leaf p l a b i h e = (
    line_text s.graph l ∷ [],
    in_front (line_text s.graph l) [] a b b e (sym (append-nil b)),
    λ after rest end r. more (closing l i h) r,
  )

  pub adds_edge : (p : Place) (e : ℕ) (a b c d : List ℕ) → e < length s.graph.edges → status_of p.decided e ≡ None
      → b ≡ a ++ (line_text s.graph (EdgeOrNot e) ++ 10 ∷ []) → Adds m s q k (At (with_edge p e false) ∷ []) b c
      → Adds m s q k (At (with_edge p e true) ∷ []) c d → Adds m s q k (At p ∷ []) a d
  adds_edge p e a b c d h u w f g =
      let t = adds_more (At (with_edge p e false) ∷ []) (At (with_edge p e true) ∷ []) b c d f g in (
        line_text s.graph (EdgeOrNot e) ∷ t.0,
        in_front (line_text s.graph (EdgeOrNot e)) t.0 a b d w t.1,
        close_edge p e h u t.0 t.2,
      )

  pub adds_names : (p : Place) (c : ℕ) (a b d : List ℕ) → IsDeclared s.graph c → index_of p.namings c ≡ None
      → b ≡ a ++ (line_text s.graph (NameOf c) ++ 10 ∷ [])
      → Adds m s q k (map (λ i. At (with_name p c i)) (indexes_of k c)) b d → Adds m s q k (At p ∷ []) a d
  adds_names p c a b d i u w f = (
    line_text s.graph (NameOf c) ∷ f.0,
    in_front (line_text s.graph (NameOf c)) f.0 a b d w f.1,
    close_names p c i u f.0 f.2,
  )

-- ---- places

-- a place with one edge more that is decided is one of the graph
pub place_edge : (g : Graph) (k : Candidates) (p : Place) (e : ℕ) (b : Bool) → IsPlaceOf g k p → e < length g.edges
    → status_of p.decided e ≡ None → IsPlaceOf g k (with_edge p e b)
place_edge g k p e b i h u = record {
  graph = i.graph;
  decisions = decisions_push p.decided.graph p.decided.root p.decided.decisions e b i.decisions
      (subst (λ (x : Graph). e < length x.edges) (sym i.graph) h) u;
  indexes = i.indexes;
  no_ways = i.no_ways;
}

-- and with one name more
pub place_name : (g : Graph) (k : Candidates) (p : Place) (c i : ℕ) → IsPlaceOf g k p → IsCategory g c
    → i ≤ length (k.texts c) → IsPlaceOf g k (with_name p c i)
place_name g k p c i a d h = record {
  graph = a.graph;
  decisions = a.decisions;
  indexes = λ n m. elim (Contains-push_cases p.namings (record { category = c; index = i }) n m) [
    | inl e ↦ a.indexes n e
    | inr e ↦ subst (λ (x : Naming). IsCategory g x.category × (x.index ≤ length (k.texts x.category))) e (d, h)
  ];
  no_ways = a.no_ways;
}

-- its decisions are about what is in the schema
pub place_within : (g : Graph) (k : Named) (p : Place) → length k.texts ≡ category_count g
    → IsPlaceOf g (candidates_of k) p → IsWithin g k p
place_within g k p t i = record {
  graph = i.graph;
  root = subst (λ (x : Graph). IsCategory x p.decided.root) i.graph i.decisions.root;
  edges = subst (λ (x : Graph). All (λ (d : Decision). d.edge < length x.edges) p.decided.decisions) i.graph
      i.decisions.edges;
  ways = λ w c. absurd (Contains-nil w (subst (λ ws. Contains ws w) i.no_ways c));
  texts = t;
  indexes = i.indexes;
}

-- where nothing is left to decide and no line closes, there is a frozen dimension
pub none_left : (m : Form) (s : Schema) (q : Formula) (k : Candidates) (p : Place) → IsHierarchy s.graph
    → AreCandidates s q k → IsPlaceOf s.graph k p → ((f : Frozen) → IsFrozen s q p.decided.root k f → ⊥)
    → ((l : Line) → IsAbout s l → Closes m s q k p l → ⊥)
    → ((e : ℕ) → e < length s.graph.edges → status_of p.decided e ≢ None)
    → ((c : ℕ) → IsDeclared s.graph c → index_of p.namings c ≢ None) → ⊥
none_left m s q k p hier are i nothing open_there told named = elim (full_places_close m s q k p hier are (record {
  graph = i.graph;
  decisions = i.decisions;
  edges = told;
  names = named;
  in_range = λ c j z.
      let n = index_some p.namings c j z in
      subst (λ x. x ≤ length (k.texts c)) n.3
      (subst (λ x. n.0.index ≤ length (k.texts x)) n.2 (i.indexes n.0 n.1).1);
  no_ways = i.no_ways;
})) [
  | inl w ↦ open_there w.0 w.1 w.2
  | inr w ↦ nothing w.0 w.1
]

-- ---- what is left to decide

-- how many edges aren't decided
abbrev pub open_edges : Place → ℕ
open_edges p = tally (λ e. is_none (status_of p.decided e)) (range_with_len 0 (length p.decided.graph.edges))

-- and how many names
abbrev pub open_names : Place → ℕ
open_names p = tally (λ c. is_none (index_of p.namings c)) (range_with_len 0 (category_count p.decided.graph))

-- there are fewer, once an edge is decided
pub fewer_edges : (p : Place) (e : ℕ) (b : Bool) → e < length p.decided.graph.edges → status_of p.decided e ≡ None
    → open_edges (with_edge p e b) < open_edges p
fewer_edges p e b h u =
    tally-lt (λ x. is_none (status_of (with_edge p e b).decided x)) (λ x. is_none (status_of p.decided x))
    (range_with_len 0 (length p.decided.graph.edges)) kept e (Contains-range (length p.decided.graph.edges) e h)
    (ap is_none (status_new p.decided.decisions e b u)) (ap is_none u)
  where
    kept : (x : ℕ) → is_none (status_of (with_edge p e b).decided x) ≡ true → is_none (status_of p.decided x) ≡ true
    kept x t = elim (ℕ_discrete x e) [
      | yes q ↦ ap (λ y. is_none (status_of p.decided y)) q ∙ ap is_none u
      | no n ↦ ap is_none (sym (status_other p.decided.decisions e b x n)) ∙ t
    ]

-- or a name
pub fewer_names : (p : Place) (c i : ℕ) → IsCategory p.decided.graph c → index_of p.namings c ≡ None
    → open_names (with_name p c i) < open_names p
fewer_names p c i h u =
    tally-lt (λ x. is_none (index_of (with_name p c i).namings x)) (λ x. is_none (index_of p.namings x))
    (range_with_len 0 (category_count p.decided.graph)) kept c (Contains-range (category_count p.decided.graph) c h)
    (ap is_none (index_new p.namings c i u)) (ap is_none u)
  where
    kept : (x : ℕ) → is_none (index_of (with_name p c i).namings x) ≡ true → is_none (index_of p.namings x) ≡ true
    kept x t = elim (ℕ_discrete x c) [
      | yes q ↦ ap (λ y. is_none (index_of p.namings y)) q ∙ ap is_none u
      | no n ↦ ap is_none (sym (index_other p.namings c i x n)) ∙ t
    ]

-- how much is left to decide
abbrev pub left : Place → ℕ
left p = open_edges p + open_names p

-- a sum with a lesser part is less
sum_less : (a b c d : ℕ) → a < c → b ≡ d → a + b < c + d
sum_less a b c d h e = omega arith

-- whichever part it is
sum_less_right : (a b c d : ℕ) → a ≡ c → b < d → a + b < c + d
sum_less_right a b c d e h = omega arith

-- a place below another: what is asked of places is so there, and there is less to decide
pub record IsBelow (s : Schema) (q : Formula) (k : Candidates) (p x : Place) : Type 0 where
  pub place : IsPlaceOf s.graph k x
  pub none : (f : Frozen) → IsFrozen s q x.decided.root k f → ⊥
  pub less : left x < left p

-- below a place without a frozen dimension there is none, with one edge more decided
pub edge_below : (s : Schema) (q : Formula) (k : Candidates) (p x : Place) (e : ℕ) (b : Bool) → IsPlaceOf s.graph k p
    → ((f : Frozen) → IsFrozen s q p.decided.root k f → ⊥)
    → (e < length s.graph.edges) × (status_of p.decided e ≡ None) → x ≡ with_edge p e b → IsBelow s q k p x
edge_below s q k p x e b i n u new = subst (λ y. IsBelow s q k p y) (sym new) (record {
  place = place_edge s.graph k p e b i u.0 u.1;
  none = n;
  less = sum_less (open_edges (with_edge p e b)) (open_names (with_edge p e b)) (open_edges p) (open_names p)
      (fewer_edges p e b (subst (λ (g : Graph). e < length g.edges) (sym i.graph) u.0) u.1) refl;
})

-- and with one name more
pub name_below : (s : Schema) (q : Formula) (k : Candidates) (p x : Place) (c j : ℕ) → IsPlaceOf s.graph k p
    → ((f : Frozen) → IsFrozen s q p.decided.root k f → ⊥)
    → IsDeclared s.graph c × (index_of p.namings c ≡ None) → j ≤ length (k.texts c) → x ≡ with_name p c j
    → IsBelow s q k p x
name_below s q k p x c j i n u h new = subst (λ y. IsBelow s q k p y) (sym new) (record {
  place = place_name s.graph k p c j i u.0.1 h;
  none = n;
  less = sum_less_right (open_edges (with_name p c j)) (open_names (with_name p c j)) (open_edges p) (open_names p)
      refl (fewer_names p c j (subst (λ (g : Graph). IsCategory g c) (sym i.graph) u.0.1) u.1);
})

-- ---- steps of the program

-- the trees of an edge that the program has written, one after another
pub edge_written : (m : Form) (s : Schema) (q : Formula) (k : Candidates) (p x y : Place) (e : ℕ) (a b c d : List ℕ)
    → (e < length s.graph.edges) × (status_of p.decided e ≡ None)
    → b ≡ a ++ (line_text s.graph (EdgeOrNot e) ++ 10 ∷ []) → x ≡ with_edge p e false → y ≡ with_edge p e true
    → Adds m s q k (At x ∷ []) b c → Adds m s q k (At y ∷ []) c d → Adds m s q k (At p ∷ []) a d
edge_written m s q k p x y e a b c d u w f g i j =
    adds_edge m s q k p e a b c d u.0 u.1 w (subst (λ z. Adds m s q k (At z ∷ []) b c) f i)
    (subst (λ z. Adds m s q k (At z ∷ []) c d) g j)

-- one name's tree more
pub name_written : (m : Form) (s : Schema) (q : Formula) (k : Candidates) (p x : Place) (c j : ℕ) (a b d : List ℕ)
    → Adds m s q k (map (λ i. At (with_name p c i)) (range_with_len 0 j)) a b → x ≡ with_name p c j
    → Adds m s q k (At x ∷ []) b d → Adds m s q k (map (λ i. At (with_name p c i)) (range_with_len 0 (j + 1))) a d
name_written m s q k p x c j a b d i e f =
    subst (λ os. Adds m s q k os a d) (sym (map-range_with_len_more (λ i. At (with_name p c i)) 0 j j (omega arith)))
    (adds_more m s q k (map (λ i. At (with_name p c i)) (range_with_len 0 j)) (At (with_name p c j) ∷ []) a b d i
    (subst (λ z. Adds m s q k (At z ∷ []) b d) e f))

-- ---- bottom categories

-- a bottom category's line, with its tree
pub adds_below : {A E : Type 0} (m : Form) (s : Schema) (q : Formula) (k : Candidates) (b : ℕ) (x : Place)
    (a c d : List ℕ) → c ≡ a ++ (bottom_text s.graph b ++ 10 ∷ []) → x ≡ start s.graph b → (r : Result A E)
    → OnOk r (Adds m s q k (At x ∷ []) c d) → OnOk r (Adds m s q k (Bottom b ∷ []) a d)
adds_below m s q k b x a c d w e (Ok u) f =
    let h = subst (λ y. Adds m s q k (At y ∷ []) c d) e f in (
      bottom_text s.graph b ∷ h.0,
      in_front m s q k (bottom_text s.graph b) h.0 a c d w h.1,
      λ after rest end r. more roots (h.2 after rest end r),
    )
adds_below m s q k b x a c d w e (Err u) f = f
