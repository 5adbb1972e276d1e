-- The findings of a valid schema are listed: whether something is a finding can be decided, and their ranks are lists
-- of two numbers below a bound.
use Rattle.std.proofs.Common.{◌≡◌, ℕ, zero, suc, ◌+◌, ◌<◌, List, [], ◌∷◌, length, map, take, drop, Option, Some, None, refl, ap, sym, subst, ◌∙◌, inl, inr, arith}
use Rattle.std.specs.Prelude.{Contains, remove, slice_get}
use Rattle.olap_base.proofs.DecisionLemmas.{dec_not}
use Rattle.olap_base.proofs.ListLemmas.{Contains-from_map, Contains-map, Contains-nil, contains_head, Contains-slice_get}
use Rattle.olap_base.specs.{Deciding.{contains_cases, contains_cons, dec_and, dec_iff}, Graph.Edge}
use Rattle.olap_base.specs.Ranks.{AreExactly, IsNotAfter}
use Rattle.olap_ast.proofs.{AtomLemmas.has_kinds, Least.Fits, SameAtoms.kinds_too}
use Rattle.olap_ast.specs.Constants.{FreshNamesExist, HasKinds}
use Rattle.olap_ast.specs.Findings.{Finding, Finding.Redundant, Finding.Unsatisfiable, Finding.Unused, IsFinding, IsRedundant, IsUnsatisfiable, IsUnused, finding_rank, without}
use Rattle.olap_ast.specs.{Formula.{Formula.Not, Formula.Path, Formula.Truth}, Frozen.CandidatesExist}
use Rattle.olap_ast.specs.Questions.{RedundantExactlyIfNoneFrozen, UnsatisfiableExactlyIfNoneFrozen, UnusedExactlyIfNoneFrozen}
use Rattle.olap_ast.specs.{Schema.{Constraint, Schema}, Valid.IsValidSchema}
use Rattle.olap_exists.proofs.Counterexamples.{dec_none}
use Rattle.olap_exists.proofs.Listed.{AllLists, IsAhead, all_lists, all_pairs, from_either, ordered_map}
use Rattle.olap_exists.specs.Existing.{FindingsExist}
use native.Mathlib.Decide.{ℕ_discrete, dec_lt}
use mathlib.Core.List.{List-discrete}

-- ---- kinds

-- each category of a valid schema is asked what it may be asked
pub truth_kinds : (s : Schema) → IsValidSchema s → HasKinds s Truth
truth_kinds s v = has_kinds s 0 Truth v.formulas tt

-- also where an edge is asked for
path_kinds : (s : Schema) (cs : List ℕ) → IsValidSchema s → HasKinds s (Path cs)
path_kinds s cs v = kinds_too s Truth (Path cs) refl refl (truth_kinds s v)

-- what is left without one was there
kept : (cs : List Constraint) (k : ℕ) (c : Constraint) → Contains (remove cs k) c → Contains cs c
kept cs k c m = elim (from_either (take k cs) (drop (suc k) cs) c m) [
  | inl h ↦ of_take cs k c h
  | inr h ↦ of_drop cs (suc k) c h
]
  where
    of_take : (cs : List Constraint) (k : ℕ) (c : Constraint) → Contains (take k cs) c → Contains cs c
    of_take [] zero c h = h
    of_take [] (suc k) c h = h
    of_take (d ∷ ds) zero c h = absurd (Contains-nil c h)
    of_take (d ∷ ds) (suc k) c h = elim (contains_cases c d (take k ds) h) [
      | inl e ↦ subst (λ (x : Constraint). Contains (d ∷ ds) x) e (contains_head d ds)
      | inr m ↦ contains_cons c ds d (of_take ds k c m)
    ]

    of_drop : (cs : List Constraint) (k : ℕ) (c : Constraint) → Contains (drop k cs) c → Contains cs c
    of_drop [] zero c h = h
    of_drop [] (suc k) c h = h
    of_drop (d ∷ ds) zero c h = h
    of_drop (d ∷ ds) (suc k) c h = contains_cons c ds d (of_drop ds k c h)

-- and the place is one of the list
place_below : {A : Type 0} (xs : List A) (k : ℕ) (x : A) → slice_get xs k ≡ Some x → k < length xs
place_below [] k x e = absurd (cc)
place_below (y ∷ ys) zero x e = omega arith
place_below (y ∷ ys) (suc k) x e = let l = place_below ys k x e in omega arith

-- so it is without one of the constraints
without_kinds : (s : Schema) (j : ℕ) (c : Constraint) → IsValidSchema s → slice_get s.constraints j ≡ Some c
    → HasKinds (without s j) (Not c.formula)
without_kinds s j c v e =
    has_kinds (without s j) c.root (Not c.formula) (λ d h. v.formulas d (kept s.constraints j d h))
    (v.formulas c (Contains-slice_get s.constraints j c e))

-- ---- ranks

-- the finding of the numbers of its rank
of_numbers : ℕ → ℕ → Finding
of_numbers (suc zero) n = Unsatisfiable n
of_numbers (suc (suc zero)) n = Redundant n
of_numbers m n = Unused n

-- the finding of a rank
of_rank : List ℕ → Finding
of_rank (m ∷ n ∷ xs) = of_numbers m n
of_rank xs = Unused 0

-- it has that rank
of_rank-rank : (f : Finding) → of_rank (finding_rank f) ≡ f
unfolding of_rank of_numbers
of_rank-rank (Unsatisfiable c) = refl
of_rank-rank (Redundant n) = refl
of_rank-rank (Unused j) = refl

module _ (fresh : FreshNamesExist) (exist : CandidatesExist) (unsatisfiable : UnsatisfiableExactlyIfNoneFrozen)
    (redundant : RedundantExactlyIfNoneFrozen) (unused : UnusedExactlyIfNoneFrozen) (s : Schema)
    (v : IsValidSchema s) where
  -- whether a category is unsatisfiable
  dec_unsatisfiable : (c : ℕ) → Dec (IsUnsatisfiable s c)
  dec_unsatisfiable c =
      let k = exist s Truth (truth_kinds s v) in
      let x = unsatisfiable s c k.0 v.hierarchy k.1 in
      dec_iff x.1 x.0 (dec_none fresh s Truth c k.0 k.1)

  -- whether a constraint is redundant
  dec_redundant : (j : ℕ) → Dec (IsRedundant s j)
  dec_redundant j = go (slice_get s.constraints j) refl
    where
      go : (o : Option Constraint) → slice_get s.constraints j ≡ o → Dec (IsRedundant s j)
      go None e = no (λ t. let z : None ≡ Some t.0 = sym e ∙ t.1 in cc)
      go (Some c) e =
          let k = exist (without s j) (Not c.formula) (without_kinds s j c v e) in
          let x = redundant s j c k.0 v.hierarchy e k.1 in
          dec_iff x.1 x.0 (dec_none fresh (without s j) (Not c.formula) c.root k.0 k.1)

  -- whether an edge is unused
  dec_unused : (e : Edge) → Dec (IsUnused s e)
  dec_unused e =
      let k = exist s (Path (e.parent ∷ [])) (path_kinds s (e.parent ∷ []) v) in
      let x = unused s e k.0 v.hierarchy k.1 in
      dec_iff x.1 x.0 (dec_none fresh s (Path (e.parent ∷ [])) e.child k.0 k.1)

  -- the same of the edge at a place
  dec_unused_at : (j : ℕ) → Dec (IsFinding s (Unused j))
  dec_unused_at j = go (slice_get s.graph.edges j) refl
    where
      go : (o : Option Edge) → slice_get s.graph.edges j ≡ o → Dec (IsFinding s (Unused j))
      go None e = no (λ t. let z : None ≡ Some t.0 = sym e ∙ t.1 in cc)
      go (Some x) e = dec_iff (λ u. (x, e, u))
          (λ t. let z : t.0 ≡ x = same t.0 (sym t.1 ∙ e) in subst (λ (y : Edge). IsUnused s y) z t.2) (dec_unused x)
        where
          same : (y : Edge) → ◌≡◌ {A = Option Edge} (Some y) (Some x) → y ≡ x
          same y e = cc

  -- whether something is a finding
  dec_finding : (f : Finding) → Dec (IsFinding s f)
  dec_finding (Unsatisfiable c) =
      dec_and (dec_and (dec_not (ℕ_discrete c 0)) (dec_lt c (length s.graph.names + 1))) (dec_unsatisfiable c)
  dec_finding (Redundant zero) = no (λ h. h)
  dec_finding (Redundant (suc j)) = dec_redundant j
  dec_finding (Unused j) = dec_unused_at j

  -- the rank of a finding
  abbrev IsRank : List ℕ → Type 0
  IsRank xs = (finding_rank (of_rank xs) ≡ xs) × IsFinding s (of_rank xs)

  bound : ℕ
  bound = 5 + length s.graph.names + length s.constraints + length s.graph.edges

  -- it is two numbers below the bound
  rank_fits : (f : Finding) → IsFinding s f → Fits 2 bound (finding_rank f)
  unfolding bound
  rank_fits (Unsatisfiable c) h = (omega arith, ((let l = h.0.1 in omega arith), tt))
  rank_fits (Redundant zero) h = absurd h
  rank_fits (Redundant (suc j)) h =
      (omega arith, ((let l = place_below s.constraints j h.0 h.1 in omega (arith, l)), tt))
  rank_fits (Unused j) h = (omega arith, ((let l = place_below s.graph.edges j h.0 h.1 in omega (arith, l)), tt))

  ranks_listed : AllLists IsRank
  ranks_listed = all_lists 2 bound IsRank
      (λ xs. dec_and (List-discrete ℕ_discrete (finding_rank (of_rank xs)) xs) (dec_finding (of_rank xs)))
      (λ xs p. subst (λ ys. Fits 2 bound ys) p.0 (rank_fits (of_rank xs) p.1))

  rank_is : (f : Finding) → IsFinding s f → IsRank (finding_rank f)
  rank_is f h =
      let e = of_rank-rank f in (ap finding_rank e, subst (λ (g : Finding). IsFinding s g) (sym e) h)

  -- the first finding comes before the second
  abbrev IsEarlier : Finding → Finding → Type 0
  IsEarlier f g = IsNotAfter (finding_rank f) (finding_rank g) × (f ≡ g → ⊥)

  findings_listed : (findings : List Finding) × AreExactly finding_rank (IsFinding s) findings
  findings_listed = let t = ranks_listed in (
    map of_rank t.0,
    record {
      ordered = all_pairs IsEarlier (map of_rank t.0) (ordered_map IsAhead IsEarlier of_rank t.0
          (λ x y c d h. ahead x y (t.1.sound x c) (t.1.sound y d) h) t.1.ordered);
      sound = λ f c. let u = Contains-from_map of_rank t.0 f c in
          subst (λ (g : Finding). IsFinding s g) u.2 (t.1.sound u.0 u.1).1;
      complete = λ f h. subst (λ (g : Finding). Contains (map of_rank t.0) g) (of_rank-rank f)
          (Contains-map of_rank t.0 (finding_rank f) (t.1.complete (finding_rank f) (rank_is f h)));
    },
  )
    where
      ahead : (x y : List ℕ) → IsRank x → IsRank y → IsAhead x y → IsEarlier (of_rank x) (of_rank y)
      ahead x y p q h = (
        subst (λ a. IsNotAfter a (finding_rank (of_rank y))) (sym p.0)
            (subst (λ b. IsNotAfter x b) (sym q.0) h.0),
        λ e. h.1 (sym p.0 ∙ ap finding_rank e ∙ q.0),
      )

-- a valid schema has a list of exactly its findings
pub findings_exist : FreshNamesExist → CandidatesExist → UnsatisfiableExactlyIfNoneFrozen
    → RedundantExactlyIfNoneFrozen → UnusedExactlyIfNoneFrozen → FindingsExist
findings_exist fresh exist unsatisfiable redundant unused s v =
    findings_listed fresh exist unsatisfiable redundant unused s v
