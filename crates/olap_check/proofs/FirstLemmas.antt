-- The first violation, from the first breach of each law.
use Rattle.std.proofs.Common.{◌≡◌, ◌≢◌, ℕ, ◌<◌, ◌⊎◌, List, [], ◌∷◌, length, Bool, refl, sym, subst, ◌∙◌, inl, inr, arith, ap}
use Rattle.std.proofs.lemmas.{List.get_or_default, Option.{slice_get-get_or, get_or_from_slice_get}}
use Rattle.std.specs.Prelude.{Contains, slice_index}
use Rattle.olap_base.{proofs.ListLemmas.Contains-nil, specs.Deciding.below_is_member, specs.Graph.{Graph, HasEdge}}
use Rattle.olap_base.specs.Instance.{Instance, IsMemberOf, IsLawful, IsBelow, IsFarBelow, category_of, parents_of}
use Rattle.olap_base.specs.{Ranks.IsNotAfter, declared.ids.MemberId.MemberId}
use Rattle.olap_ast.{proofs.Violated.far_below_start, specs.Formula.Holds, specs.Schema.Schema}
use Rattle.olap_ast.specs.Violation.{Violation, Violation.NoEdge, Violation.NoParent, Violation.SameCategory, Violation.TwoAncestors, Violation.Shortcut, Violation.Unmet, IsViolation, rank, IsFirstViolation}
use Rattle.olap_check.proofs.SplitLemmas.{splits_of}
use Rattle.olap_check.specs.Linking.{IsLinked, IsTableOf, IsFirstUnlinked, IsLinkedAt, IsFirstOrphan, IsOrphan}
use Rattle.olap_check.specs.Meeting.{IsFirstViolated, constraint_at, no_constraint}
use Rattle.olap_check.specs.Passing.{IsStratified, IsFirstShortcut, HasNoShortcut}
use Rattle.olap_check.specs.{Reports.{IsFirstBreach, category, member}, Splitting.{IsLeastSplit, SplitsAt}}
use Rattle.olap_check.specs.Strata.{Repeats, IsFirstRepeat}
use Rattle.olap_check.specs.declared.violations.Violation.TheVariants.{Connectivity, NoParent as Orphan, Partitioning, Shortcut as Bypass, Stratification}
use Rattle.olap_legal.{proofs.TableLemmas.row_is_whole, specs.Rows.{IsBounded, AreLinked}}
use Rattle.olap_legal.specs.{Tables.{IsTable, IsFirstSplit}, declared.tables.Table.Table}
use native.Mathlib.Decide.{ℕ_discrete}

-- less or equal, where not greater
not_less : (a b : ℕ) → (b < a → ⊥) → (a < b) ⊎ (a ≡ b)
not_less a b f =
    elim (ℕ_discrete a b) [
      | yes e ↦ inr e
      | no n ↦ let ne : a ≢ b = n in
          elim (below a b ne) [ inl h ↦ inl h | inr h ↦ absurd (f h) ]
    ]
  where
    below : (a b : ℕ) → a ≢ b → (a < b) ⊎ (b < a)
    below a b n = grind arith

-- in one law, where no violation stands at a lesser pair
same_law : (n a b x y : ℕ) → (x < a → ⊥) → (a ≡ x → y < b → ⊥) → IsNotAfter (n ∷ a ∷ b ∷ []) (n ∷ x ∷ y ∷ [])
same_law n a b x y f g =
    inr (
      refl,
      elim (not_less a x f) [
        | inl h ↦ inl h
        | inr e ↦
            inr (e, elim (not_less b y (g e)) [ inl h ↦ inl h | inr q ↦ inr (q, tt) ])
      ],
    )

-- the parent at a place is a parent
pub parent_at : (i : Instance) (x k : ℕ) → k < length (parents_of i x) → IsBelow i x (slice_index (parents_of i x) k)
parent_at i x k h = (k, h, get_or_default (parents_of i x) k (slice_index (parents_of i x) k) 0 h)

-- ---- what holds after each law

module _ (i : Instance) (n : ℕ) (edges : List Bool) (bounded : IsBounded i n) where
  edge_of : (s : Schema) → IsTableOf s.graph n edges → (x k : ℕ) → k < length (parents_of i x)
      → IsLinked edges n (category_of i x) (category_of i (slice_index (parents_of i x) k))
      → HasEdge s.graph (category_of i x) (category_of i (slice_index (parents_of i x) k))
  edge_of s t x k h l =
      let b = parent_at i x k h in
      (t.exact (category_of i x) (category_of i (slice_index (parents_of i x) k))
      (bounded.categories x (below_is_member i x _ b))
      (bounded.categories (slice_index (parents_of i x) k)
      (bounded.places x (slice_index (parents_of i x) k) b))).0 l

  -- every parent is linked by an edge
  abbrev pub Law1 : Type 0
  Law1 = (x : ℕ) → x < length i → IsLinkedAt i n edges x

  -- every member but `all` has a parent
  abbrev pub Law2 : Type 0
  Law2 = (x : ℕ) → x < length i → IsOrphan i x → ⊥

  -- no member is far below one of its category
  abbrev pub Law3 : Type 0
  Law3 = (x : ℕ) → Repeats i x → ⊥

  -- the first law in the words of the search for the third
  pub links : Law1 → (g : Graph) → IsTableOf g n edges → AreLinked g i
  links l1 g t x y b =
      let e = get_or_default (parents_of i x) b.0 0 y b.1 ∙ b.2 in
      subst (λ z. HasEdge g (category_of i x) (category_of i z)) e
      (edge_of (record { graph = g; constraints = [] }) t x b.0 b.1 (l1 x (below_is_member i x y b) b.0 b.1))

  -- where the first law holds, nothing violates it
  no1 : Law1 → (s : Schema) → IsTableOf s.graph n edges → (x k : ℕ) → IsViolation s i (NoEdge x k) → ⊥
  no1 l s t x k v = v.1 (edge_of s t x k v.0 (l x (below_is_member i x _ (parent_at i x k v.0)) k v.0))

  -- where the second law holds, nothing violates it
  no2 : Law2 → (s : Schema) (x : ℕ) → IsViolation s i (NoParent x) → ⊥
  no2 l s x v = l x v.0 (v.1, v.2)

  -- where the third law holds, nothing violates it
  no3 : Law3 → (s : Schema) (x : ℕ) → IsViolation s i (SameCategory x) → ⊥
  no3 l s x v = l x (v.0, v.1, v.2)

  -- where the table is whole, nothing violates the fourth law
  no4 : (table : Table) → IsTable i n (length i) table → (s : Schema) (x c : ℕ) → IsViolation s i (TwoAncestors x c)
      → ⊥
  no4 table t s x c v = let h = far_below_start i x v.0 v.2 in
      row_is_whole i n (length i) table bounded t x h h (splits_of i x c v)

  -- the third law in the words of the fifth
  pub strata_of : Law3 → IsStratified i
  strata_of l x y f e = l x (y, f, e)

  -- ---- the first breach of each law

  -- the first parent without an edge is the first violation
  pub first1 : (x k : ℕ) → IsFirstUnlinked i n edges x k → (s : Schema) → IsTableOf s.graph n edges
      → IsFirstViolation s i (NoEdge x k)
  first1 x k f s t = record { is_one = one; least = least }
    where
      one : IsViolation s i (NoEdge x k)
      one =
          let b = parent_at i x k f.here.inside in (
            f.here.inside,
            λ e. f.here.unlinked
                ((t.exact (category_of i x) (category_of i (slice_index (parents_of i x) k))
                (bounded.categories x f.inside)
                (bounded.categories (slice_index (parents_of i x) k)
                (bounded.places x (slice_index (parents_of i x) k) b))).1 e),
          )

      least : (w : Violation) → IsViolation s i w → IsNotAfter (rank (NoEdge x k)) (rank w)
      least (NoEdge y j) v = same_law 1 x k y j
          (λ h. v.1 (edge_of s t y j v.0 (f.before y h j v.0)))
          (λ e h. v.1
          (edge_of s t y j v.0
          (subst (λ z. IsLinked edges n (category_of i z) (category_of i (slice_index (parents_of i z) j))) e
          (f.here.before j h))))
      least (NoParent y) v = inl (omega arith)
      least (SameCategory y) v = inl (omega arith)
      least (TwoAncestors y c) v = inl (omega arith)
      least (Shortcut y j) v = inl (omega arith)
      least (Unmet j y) v = inl (omega arith)

  -- the first member without a parent is, where the first law holds
  pub first2 : Law1 → (x : ℕ) → IsFirstOrphan i x → (s : Schema) → IsTableOf s.graph n edges
      → IsFirstViolation s i (NoParent x)
  first2 l1 x f s t = record { is_one = (f.inside, f.orphan.0, f.orphan.1); least = least }
    where
      least : (w : Violation) → IsViolation s i w → IsNotAfter (rank (NoParent x)) (rank w)
      least (NoEdge y j) v = absurd (no1 l1 s t y j v)
      least (NoParent y) v = same_law 2 x 0 y 0 (λ h. f.before y h (v.1, v.2)) (λ e h. absurd (omega (arith, h)))
      least (SameCategory y) v = inl (omega arith)
      least (TwoAncestors y c) v = inl (omega arith)
      least (Shortcut y j) v = inl (omega arith)
      least (Unmet j y) v = inl (omega arith)

  -- the first member far below its own category is, where two laws hold
  pub first3 : Law1 → Law2 → (x : ℕ) → IsFirstRepeat i x → (s : Schema) → IsTableOf s.graph n edges
      → IsFirstViolation s i (SameCategory x)
  first3 l1 l2 x f s t = record { is_one = (f.repeats.0, f.repeats.1, f.repeats.2); least = least }
    where
      least : (w : Violation) → IsViolation s i w → IsNotAfter (rank (SameCategory x)) (rank w)
      least (NoEdge y j) v = absurd (no1 l1 s t y j v)
      least (NoParent y) v = absurd (no2 l2 s y v)
      least (SameCategory y) v = same_law 3 x 0 y 0 (λ h. f.before y h (v.0, v.1, v.2))
          (λ e h. absurd (omega (arith, h)))
      least (TwoAncestors y c) v = inl (omega arith)
      least (Shortcut y j) v = inl (omega arith)
      least (Unmet j y) v = inl (omega arith)

  -- the first member that reaches two of a category, with the least such, is, where three laws hold
  pub first4 : Law1 → Law2 → Law3 → (x c : ℕ) → IsFirstSplit i n x → IsLeastSplit i x c → (s : Schema)
      → IsTableOf s.graph n edges → IsFirstViolation s i (TwoAncestors x c)
  first4 l1 l2 l3 x c f q s t = record { is_one = q.splits; least = least }
    where
      least : (w : Violation) → IsViolation s i w → IsNotAfter (rank (TwoAncestors x c)) (rank w)
      least (NoEdge y j) v = absurd (no1 l1 s t y j v)
      least (NoParent y) v = absurd (no2 l2 s y v)
      least (SameCategory y) v = absurd (no3 l3 s y v)
      least (TwoAncestors y d) v = same_law 4 x c y d (λ h. f.before y h (splits_of i y d v))
          (λ e h. q.before d h (subst (λ z. SplitsAt i z d) (sym e) v))
      least (Shortcut y j) v = inl (omega arith)
      least (Unmet j y) v = inl (omega arith)

  -- the first shortcut is, where four laws hold
  pub first5 : Law1 → Law2 → Law3 → (table : Table) → IsTable i n (length i) table → (x k : ℕ)
      → IsFirstShortcut i x k → (s : Schema) → IsTableOf s.graph n edges → IsFirstViolation s i (Shortcut x k)
  first5 l1 l2 l3 table r x k f s t =
      record { is_one = (f.here.passed.0, f.here.inside, f.here.passed.1, f.here.passed.2); least = least }
    where
      least : (w : Violation) → IsViolation s i w → IsNotAfter (rank (Shortcut x k)) (rank w)
      least (NoEdge y j) v = absurd (no1 l1 s t y j v)
      least (NoParent y) v = absurd (no2 l2 s y v)
      least (SameCategory y) v = absurd (no3 l3 s y v)
      least (TwoAncestors y d) v = absurd (no4 table r s y d v)
      least (Shortcut y j) v = same_law 5 x k y j
          (λ h. f.before y h j v.1 (v.0, v.2, v.3))
          (λ e h. f.here.before j h
          (subst (λ z. (u : ℕ) × IsBelow i z u × IsFarBelow i u (slice_index (parents_of i z) j)) (sym e)
          (v.0, v.2, v.3)))
      least (Unmet j y) v = inl (omega arith)

  -- where all five hold the instance is lawful
  pub all_five : Law1 → Law2 → Law3 → (table : Table) → IsTable i n (length i) table → HasNoShortcut i → (g : Graph)
      → IsTableOf g n edges → IsLawful g i
  all_five l1 l2 l3 table r l5 g t = record {
    connectivity = links l1 g t;
    up_connectivity = λ x h m. some_parent (parents_of i x) (λ e. l2 x h (m, e));
    stratification = strata_of l3;
    partitioning = λ x y z f h e. elim (ℕ_discrete y z) [
      | yes q ↦ q
      | no d ↦ let m = far_below_start i x y f in
          absurd (row_is_whole i n (length i) table bounded r x m m
          (record { one = y; other = z; reaches_one = inr f; reaches_other = inr h; same_category = e; apart = d }))
    ];
    shortcuts = λ x y z b c f. let e = get_or_default (parents_of i x) b.0 0 y b.1 ∙ b.2 in
        l5 x (below_is_member i x y b) b.0 b.1 (z, c, subst (λ u. IsFarBelow i z u) (sym e) f);
  }
    where
      some_parent : (xs : List ℕ) → (xs ≡ [] → ⊥) → (y : ℕ) × Contains xs y
      some_parent [] n = absurd (n refl)
      some_parent (x ∷ xs) n = (x, (0, omega arith, refl))

-- ---- reports, whatever the constraints are

module _ (i : Instance) (n : ℕ) (edges : List Bool) (bounded : IsBounded i n) (g : Graph)
    (t : IsTableOf g n edges) where
  -- of the first parent without an edge
  pub report1 : (x k : ℕ) (y : MemberId) → IsFirstUnlinked i n edges x k → y.0 ≡ slice_index (parents_of i x) k
      → IsFirstBreach g i (Connectivity (member x) y)
  report1 x k y f e = λ constraints. record {
    violation = NoEdge x k;
    is_first = first1 i n edges bounded x k f (record { graph = g; constraints = constraints }) t;
    is_told = ap (λ z. Connectivity (member x) (member z)) e;
  }

  -- of the first member without a parent
  pub report2 : Law1 i n edges bounded → (x : ℕ) → IsFirstOrphan i x → IsFirstBreach g i (Orphan (member x))
  report2 l1 x f = λ constraints. record {
    violation = NoParent x;
    is_first = first2 i n edges bounded l1 x f (record { graph = g; constraints = constraints }) t;
    is_told = refl;
  }

  -- of the first member far below its own category
  pub report3 : Law1 i n edges bounded → Law2 i n edges bounded → (x : ℕ) → IsFirstRepeat i x
      → IsFirstBreach g i (Stratification (member x))
  report3 l1 l2 x f = λ constraints. record {
    violation = SameCategory x;
    is_first = first3 i n edges bounded l1 l2 x f (record { graph = g; constraints = constraints }) t;
    is_told = refl;
  }

  -- of the first member that reaches two of a category
  pub report4 : Law1 i n edges bounded → Law2 i n edges bounded → Law3 i n edges bounded → (x c : ℕ)
      → IsFirstSplit i n x → IsLeastSplit i x c → IsFirstBreach g i (Partitioning (member x) (category c))
  report4 l1 l2 l3 x c f q = λ constraints. record {
    violation = TwoAncestors x c;
    is_first = first4 i n edges bounded l1 l2 l3 x c f q (record { graph = g; constraints = constraints }) t;
    is_told = refl;
  }

  -- of the first shortcut
  pub report5 : Law1 i n edges bounded → Law2 i n edges bounded → Law3 i n edges bounded → (table : Table)
      → IsTable i n (length i) table → (x k : ℕ) (y : MemberId) → IsFirstShortcut i x k
      → y.0 ≡ slice_index (parents_of i x) k → IsFirstBreach g i (Bypass (member x) y)
  report5 l1 l2 l3 table r x k y f e = λ constraints. record {
    violation = Shortcut x k;
    is_first = first5 i n edges bounded l1 l2 l3 table r x k f (record { graph = g; constraints = constraints }) t;
    is_told = ap (λ z. Bypass (member x) (member z)) e;
  }

-- ---- after the laws

module _ (s : Schema) (i : Instance) (l : IsLawful s.graph i) where
  -- of a lawful instance the first violation is of the first constraint that isn't met
  pub first6 : (k x : ℕ) → IsFirstViolated i s.constraints k x → IsFirstViolation s i (Unmet k x)
  first6 k x f = record { is_one = one; least = least }
    where
      one : IsViolation s i (Unmet k x)
      one = (
        constraint_at s.constraints k,
        slice_get-get_or s.constraints k no_constraint f.inside,
        f.here.is_member,
        f.here.unmet,
      )

      none : (xs : List ℕ) (y : ℕ) → xs ≡ [] → Contains xs y → ⊥
      none xs y e c = Contains-nil y (subst (λ l. Contains l y) e c)

      least : (w : Violation) → IsViolation s i w → IsNotAfter (rank (Unmet k x)) (rank w)
      least (NoEdge y j) v = absurd (v.1 (l.connectivity y _ (parent_at i y j v.0)))
      least (NoParent y) v = let p = l.up_connectivity y v.0 v.1 in absurd (none (parents_of i y) p.0 v.2 p.1)
      least (SameCategory y) v = absurd (l.stratification y v.0 v.1 v.2)
      least (TwoAncestors y c) v = absurd (v.6 (l.partitioning y v.0 v.1 v.2 v.3 (v.4 ∙ sym v.5)))
      least (Shortcut y j) v = absurd (l.shortcuts y _ v.0 (parent_at i y j v.1) v.2 v.3)
      least (Unmet j y) v =
          let e : constraint_at s.constraints j ≡ v.0 = get_or_from_slice_get s.constraints j v.0 no_constraint v.1 in
          let member = subst (λ c. IsMemberOf i c.root y) (sym e) v.2 in
          let unmet = subst (λ c. Holds i y c.formula → ⊥) (sym e) v.3 in
          same_law 6 k x j y (λ h. unmet (f.before j h y member))
          (λ q h. v.3 (subst (λ c. Holds i y c.formula) (ap (constraint_at s.constraints) q ∙ e)
          (f.here.before y h (subst (λ c. IsMemberOf i c.root y) (ap (constraint_at s.constraints) (sym q)) member))))
