-- A certificate exists only where the target is summarizable.
--     edge_split, name_split, way_split        one of the children of a split agrees with it
--     step_refuted                             none is where a line has been, if none is in what it leaves open
--     runs_refuted                             nor where lines have been that leave nothing open
use Rattle.std.proofs.Common.{◌≡◌, ℕ, zero, suc, ◌+◌, ◌<◌, List, [], ◌∷◌, ◌++◌, length, get_or, Bool, true, false, not, refl, sym, subst, ◌∙◌, inl, inr, arith}
use Rattle.std.proofs.lemmas.Bool.{eqb-true}
use Rattle.std.proofs.lemmas.List.Elements.{Contains-append_cases, Contains-append_left, Contains-append_right}
use Rattle.std.specs.{List.{list_any, range_with_len}, Prelude.{Contains, ◌==◌}}
use Rattle.olap_base.proofs.ListLemmas.{Contains-filter, Contains-map, Contains-nil, Contains-range, Contains-range_at, contains_head, list_any_is}
use Rattle.olap_base.specs.Deciding.{contains_cases, decide_reaches}
use Rattle.olap_base.specs.Graph.{Edge, Graph, IsBottom, IsCategory, IsDeclared, IsHierarchy}
use Rattle.olap_ast.{proofs.Summing.summarizable_exactly, specs.Formula.Formula}
use Rattle.olap_ast.specs.{Frozen.{Candidates, Frozen, IsFrozen, instance_of, name_in}, Schema.Schema}
use Rattle.olap_ast.specs.Summarizable.{not_by_one}
use Rattle.olap_frozen.{proofs.ChosenLemmas.choice_of, specs.Chosen.{IsChoice, place_of}}
use Rattle.olap_names.specs.Names.{name_at}
use Rattle.olap_trail.specs.Decisions.{Decision}
use Rattle.olap_proof.proofs.{AgreeingLemmas.{Like, edges_in, is_there, walk_present}, ReasonLemmas.closes_of}
use Rattle.olap_proof.proofs.WayLemmas.{IsSo, LikeToo, closed_none}
use Rattle.olap_proof.specs.Certificates.{CertificatesAreRight, Open, Open.At, Open.Bottom, Open.Head, Runs, Runs.more, Runs.none, Steps, Steps.begins, Steps.closes, Steps.edges, Steps.names, Steps.roots, Steps.ways, bottoms_of, indexes_of, start, with_edge, with_name, with_way}
use Rattle.olap_proof.specs.{Closing.Closes, Lines.Line, Places.{Naming, Place, Way}, declared.forms.Form.Form}
use Rattle.olap_frozen.proofs.ChosenInstance as made

-- the bottom category has no frozen dimension
abbrev pub HasNone : Schema → Formula → Candidates → ℕ → Type 0
HasNone s q k b = IsCategory s.graph b → (f : Frozen) → IsFrozen s q b k f → ⊥

-- no frozen dimension agrees with these decisions
abbrev pub NoneLike : Schema → Formula → Candidates → ℕ → List Decision → List Naming → List Way → Type 0
NoneLike s q k b ds ns ws = (f : Frozen) → IsFrozen s q b k f → LikeToo s b k f ds ns ws → ⊥

-- no frozen dimension is where this is open
abbrev pub IsRefuted : Schema → Formula → Candidates → Open → Type 0
IsRefuted s q k Head = (b : ℕ) → Contains (bottoms_of s.graph) b → HasNone s q k b
IsRefuted s q k (Bottom b) = HasNone s q k b
IsRefuted s q k (At p) = p.decided.graph ≡ s.graph → IsCategory s.graph p.decided.root
    → NoneLike s q k p.decided.root p.decided.decisions p.namings p.ways

-- ---- one decision more

-- any frozen dimension agrees with no decision
pub like_none : (s : Schema) (k : Candidates) (f : Frozen) → Like s k f [] []
like_none s k f = record { edges = λ d c. absurd (Contains-nil d c); names = λ n c. absurd (Contains-nil n c) }

-- and with one more on an edge, which it has or hasn't so
pub like_edge : (s : Schema) (k : Candidates) (f : Frozen) (ds : List Decision) (ns : List Naming) (e : ℕ) (b : Bool)
    → e < length s.graph.edges → get_or f.edges e false ≡ b → Like s k f ds ns
    → Like s k f (ds ++ (record { edge = e; present = b }) ∷ []) ns
like_edge s k f ds ns e b h i l =
    let x : Decision = record { edge = e; present = b } in
    record {
      edges = λ d c. elim (Contains-append_cases ds (x ∷ []) d c) [
        | inl a ↦ l.edges d a
        | inr a ↦ elim (contains_cases d x [] a) [
          | inl r ↦
              subst (λ (w : Decision). (w.edge < length s.graph.edges) × (get_or f.edges w.edge false ≡ w.present))
              r (h, i)
          | inr z ↦ absurd (Contains-nil d z)
        ]
      ];
      names = l.names;
    }

-- and with one more on a name
pub like_name : (s : Schema) (k : Candidates) (f : Frozen) (ds : List Decision) (ns : List Naming) (c i : ℕ)
    → name_in k f c ≡ name_at k c i → Like s k f ds ns
    → Like s k f ds (ns ++ (record { category = c; index = i }) ∷ [])
like_name s k f ds ns c i h l =
    let x : Naming = record { category = c; index = i } in
    record {
      edges = l.edges;
      names = λ n m. elim (Contains-append_cases ns (x ∷ []) n m) [
        | inl a ↦ l.names n a
        | inr a ↦ elim (contains_cases n x [] a) [
          | inl r ↦ subst (λ (w : Naming). name_in k f w.category ≡ name_at k w.category w.index) r h
          | inr z ↦ absurd (Contains-nil n z)
        ]
      ];
    }

-- and with one more on a way
pub like_way : (s : Schema) (k : Candidates) (f : Frozen) (r : ℕ) (ds : List Decision) (ns : List Naming)
    (ws : List Way) (a b : ℕ) (t : Bool) → IsSo s r f t a b → LikeToo s r k f ds ns ws
    → LikeToo s r k f ds ns (ws ++ (record { child = a; parent = b; there = t }) ∷ [])
like_way s k f r ds ns ws a b t h l =
    let x : Way = record { child = a; parent = b; there = t } in
    record {
      rest = l.rest;
      ways = λ w c. elim (Contains-append_cases ws (x ∷ []) w c) [
        | inl m ↦ l.ways w m
        | inr m ↦ elim (contains_cases w x [] m) [
          | inl e ↦ subst (λ (v : Way). IsSo s r f v.there v.child v.parent) e h
          | inr z ↦ absurd (Contains-nil w z)
        ]
      ];
    }

-- a member of a leads to one of b, or it doesn't
pub leads_or_not : (s : Schema) (k : Candidates) (f : Frozen) (r : ℕ) → IsHierarchy s.graph → IsCategory s.graph r
    → (a b : ℕ) → ((t : Bool) → IsSo s r f t a b → ⊥) → ⊥
leads_or_not s k f r hier root a b neither = go (is_there s r f a) refl (is_there s r f b) refl
  where
    ch : IsChoice s.graph r (edges_in s f)
    ch = choice_of s.graph r f.edges hier root

    go : (x : Bool) → is_there s r f a ≡ x → (y : Bool) → is_there s r f b ≡ y → ⊥
    go false p y w = neither false (λ l. let z : true ≡ false = sym l.0 ∙ p in cc)
    go true p true w = elim (decide_reaches (instance_of s.graph r (edges_in s f) (name_in k f))
        (place_of s.graph r (edges_in s f) a) (place_of s.graph r (edges_in s f) b)) [
          | yes h ↦ neither true (p, (made.reaches_walk s.graph r (edges_in s f) ch (name_in k f) a b p w).0 h)
          | no n ↦ neither false (λ l. n ((made.reaches_walk s.graph r (edges_in s f) ch (name_in k f) a b p w).1 l.1))
        ]
    go true p false w = neither false (λ l.
        let z : true ≡ false = sym (walk_present s.graph r (edges_in s f) ch l.0 l.1) ∙ w in cc)

module _ (form : Form) (s : Schema) (q : Formula) (k : Candidates) (hier : IsHierarchy s.graph) where
  abbrev Refuted : Open → Type 0
  Refuted = IsRefuted s q k

  -- ---- one of the children of a split agrees

  edge_split : (p : Place) (e : ℕ) → e < length s.graph.edges → Refuted (At (with_edge p e false))
      → Refuted (At (with_edge p e true)) → Refuted (At p)
  edge_split p e h absent there g r f one l = go (get_or f.edges e false) refl
    where
      pushed : (b : Bool) → get_or f.edges e false ≡ b
          → LikeToo s p.decided.root k f (p.decided.decisions ++ (record { edge = e; present = b }) ∷ []) p.namings
          p.ways
      pushed b i = record {
        rest = like_edge s k f p.decided.decisions p.namings e b h i l.rest;
        ways = l.ways;
      }

      go : (b : Bool) → get_or f.edges e false ≡ b → ⊥
      go false i = absent g r f one (pushed false i)
      go true i = there g r f one (pushed true i)

  name_split : (p : Place) (c : ℕ) → IsDeclared s.graph c
      → ((i : ℕ) → i < length (k.texts c) + 1 → Refuted (At (with_name p c i))) → Refuted (At p)
  name_split p zero d all g r f one l = d.0 refl
  name_split p (suc c) d all g r f one l =
      let i = get_or f.names c 0 in
      let h = one.in_range c (let m = one.name_count in let n = d.1 in omega arith) in
      all i (omega arith) g r f one (record {
        rest = like_name s k f p.decided.decisions p.namings (suc c) i refl l.rest;
        ways = l.ways;
      })

  way_split : (p : Place) (a b : ℕ) → Refuted (At (with_way p a b false)) → Refuted (At (with_way p a b true))
      → Refuted (At p)
  way_split p a b absent there g r f one l = leads_or_not s k f p.decided.root hier r a b (λ t. go t)
    where
      go : (t : Bool) → IsSo s p.decided.root f t a b → ⊥
      go false h = absent g r f one
          (like_way s k f p.decided.root p.decided.decisions p.namings p.ways a b false h l)
      go true h = there g r f one
          (like_way s k f p.decided.root p.decided.decisions p.namings p.ways a b true h l)

  -- ---- lines

  at_closed : (p : Place) (l : Line) → Closes form s q k p l → Refuted (At p)
  at_closed p l h g r f one like =
      let d = p.decided in
      closed_none form s q d.root k f hier r one d.decisions p.namings p.ways like l
      (subst (λ w. Closes form s q k (record {
        decided = record { graph = w; root = d.root; decisions = d.decisions };
        namings = p.namings;
        ways = p.ways;
      }) l) g h)

  step_refuted : {line : List ℕ} {o : Open} {new : List Open} → Steps form s q k line o new
      → ((x : Open) → Contains new x → Refuted x) → Refuted o
  step_refuted begins all = λ b c. all (Bottom b) (Contains-map Bottom (bottoms_of s.graph) b c)
  step_refuted (roots {b = b}) all = λ h f one.
      all (At (start s.graph b)) (contains_head (At (start s.graph b)) []) refl h f one
      (record { rest = like_none s k f; ways = λ w c. absurd (Contains-nil w c) })
  step_refuted (edges {p = p} {e = e} h u) all =
      edge_split p e h
      (all (At (with_edge p e false)) (contains_head (At (with_edge p e false)) (At (with_edge p e true) ∷ [])))
      (all (At (with_edge p e true)) (1, omega arith, refl))
  step_refuted (names {p = p} {c = c} d u) all =
      name_split p c d (λ i h. all (At (with_name p c i))
      (Contains-map (λ i. At (with_name p c i)) (indexes_of k c) i (Contains-range (length (k.texts c) + 1) i h)))
  step_refuted (ways {p = p} {a = a} {b = b} o h i u) all =
      way_split p a b
      (all (At (with_way p a b false)) (contains_head (At (with_way p a b false)) (At (with_way p a b true) ∷ [])))
      (all (At (with_way p a b true)) (1, omega arith, refl))
  step_refuted (closes {p = p} l h) all = at_closed p l (closes_of form s q k p l h)

  runs_refuted : {lines : List (List ℕ)} {os end : List Open} → Runs form s q k lines os end → end ≡ []
      → (x : Open) → Contains os x → Refuted x
  runs_refuted none e x c = absurd (Contains-nil x (subst (λ os. Contains os x) e c))
  runs_refuted (more {o = o} {new = new} {rest = rest} step run) e x c =
      let ih = runs_refuted run e in
      elim (contains_cases x o rest c) [
        | inl same ↦ subst (λ w. Refuted w) same
            (step_refuted step (λ y m. ih y (Contains-append_left new rest y m)))
        | inr m ↦ ih x (Contains-append_right new rest x m)
      ]

-- a bottom category is one of the list
pub bottom_listed : (g : Graph) (b : ℕ) → IsBottom g b → Contains (bottoms_of g) b
bottom_listed g b h =
    Contains-filter (λ c. not (list_any (λ (e : Edge). e.parent == c) g.edges)) (range_with_len 1 (length g.names)) b
    (go (list_any (λ (e : Edge). e.parent == b) g.edges) refl)
    (Contains-range_at 1 (length g.names) b (let n = h.0.0 in omega arith) (let n = h.0.1 in omega arith))
  where
    go : (t : Bool) → list_any (λ (e : Edge). e.parent == b) g.edges ≡ t → not t ≡ true
    go false e = refl
    go true e =
        let w = (list_any_is (λ (e : Edge). e.parent == b) g.edges).0 e in
        absurd (h.1 w.0.child (subst (λ d. Contains g.edges (record { child = w.0.child; parent = d }))
        (eqb-true w.0.parent b w.2) w.1))

-- the theorem: what is open at the start is refuted
pub certificates_are_right : CertificatesAreRight
certificates_are_right form s c sources k lines hier are run =
    (summarizable_exactly s c sources k hier are).1
    (λ b h f one. runs_refuted form s (not_by_one c sources) k hier run refl Head (contains_head Head [])
    b (bottom_listed s.graph b h) h.0.1 f one)
