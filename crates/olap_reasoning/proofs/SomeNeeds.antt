-- Of a valid schema there is what a target needs: the categories whose members needn't reach it by one source, and
-- those of them that are left without members.
use Rattle.std.proofs.Common.{ℕ, zero, suc, ◌+◌, ◌<◌, ◌≤◌, List, [], ◌∷◌, ◌++◌, length, refl, subst, sym, inl, inr, arith}
use Rattle.std.{proofs.Math.Decide.dec_le, specs.Prelude.{Contains, codes, flat_map, sum_by}}
use Rattle.olap_base.proofs.{DecisionLemmas.dec_not, GeneralLemmas.equal_or_less}
use Rattle.olap_base.proofs.ListLemmas.{Contains-nil, contains_head}
use Rattle.olap_base.specs.Deciding.{contains_cases, contains_cons, dec_and, dec_iff}
use Rattle.olap_base.specs.Limits.{most_constraints, most_nodes, most_schema_nodes}
use Rattle.olap_ast.{proofs.SameAtoms.candidates_too, specs.Findings.{Finding.Unsatisfiable, IsUnsatisfiable}}
use Rattle.olap_ast.specs.{Formula.{Formula, Formula.Not}, Frozen.{AreCandidates, Candidates}}
use Rattle.olap_ast.specs.Questions.{ImpliedExactlyIfNoneFrozen, IsImplied, SourcesHaveCandidates}
use Rattle.olap_ast.specs.{Schema.{Constraint, Schema}, Summarizable.not_by_one, Valid.{IsValidSchema, node_count}}
use Rattle.olap_exists.proofs.{Counterexamples.dec_bottom, Finite.dec_each, Listed.{AreListed, all_pairs}}
use Rattle.olap_exists.specs.Existing.{LeastFrozenExist}
use Rattle.olap_needs.specs.Laws.{NeedsLeaveMembers}
use Rattle.olap_needs.specs.Needs.{AreAscending, AreEmptied, AreNeeded, HasRoom, IsNeeded, by_one, needs_text, with_needs}
use Rattle.olap_order.specs.{Outputs.{line, refusal}, declared.status.Status.Status}
use Rattle.olap_order.specs.declared.status.Status.TheVariants.{Yes, No, Refused}
use Rattle.olap_reasoning.specs.{Listings.finding_text, Questions.{ByNeeds, IsAnswer}}
use native.Mathlib.Decide.{ℕ_discrete}

-- ---- numbers with a property that can be decided

-- a number from j on is j, or is from j + 1 on
module _ (P : ℕ → Type 0) (d : (b : ℕ) → Dec (P b)) where
  -- those of n numbers from j on
  abbrev From : ℕ → ℕ → ℕ → Type 0
  From n j b = (j ≤ b) × (b < j + n) × P b

  -- they are listed, ascending
  from_on : (n j : ℕ) → (bs : List ℕ) × AreListed (λ a b. a < b) (From n j) bs
  from_on zero j = (
    [],
    record {
      ordered = tt;
      sound = λ b c. absurd (Contains-nil b c);
      complete = λ b t. absurd (let l = t.0 in let m = t.1 in omega arith);
    },
  )
  from_on (suc n) j = go (from_on n (suc j)) (d j)
    where
      go : (bs : List ℕ) × AreListed (λ a b. a < b) (From n (suc j)) bs → Dec (P j)
          → (bs : List ℕ) × AreListed (λ a b. a < b) (From (suc n) j) bs
      go t (yes p) = (
        j ∷ t.0,
        record {
          ordered = (λ b c. let l = (t.1.sound b c).0 in omega (arith, l), t.1.ordered);
          sound = λ b c. elim (contains_cases b j t.0 c) [
            | inl e ↦ subst (λ x. From (suc n) j x) e (omega arith, omega arith, p)
            | inr h ↦ let s = t.1.sound b h in
                ((let l = s.0 in omega (arith, l)), (let l = s.1 in omega (arith, l)), s.2)
          ];
          complete = λ b s. elim (equal_or_less j b s.0) [
            | inl e ↦ subst (λ x. Contains (j ∷ t.0) x) e (contains_head j t.0)
            | inr l ↦ contains_cons b t.0 j (t.1.complete b (l, (let m = s.1 in omega (arith, m)), s.2))
          ];
        },
      )
      go t (no m) = (
        t.0,
        record {
          ordered = t.1.ordered;
          sound = λ b c. let s = t.1.sound b c in
              ((let l = s.0 in omega (arith, l)), (let l = s.1 in omega (arith, l)), s.2);
          complete = λ b s. elim (equal_or_less j b s.0) [
            | inl e ↦ absurd (m (subst P (sym e) s.2))
            | inr l ↦ t.1.complete b (l, (let k = s.1 in omega (arith, k)), s.2)
          ];
        },
      )

  -- and so are all, where they are below a bound
  ascending : (n : ℕ) → ((b : ℕ) → P b → b < n) → (bs : List ℕ) × AreAscending P bs
  ascending n below = let t = from_on n 0 in (
    t.0,
    record {
      ordered = all_pairs (λ a b. a < b) t.0 t.1.ordered;
      sound = λ b c. (t.1.sound b c).2;
      complete = λ b p. t.1.complete b (omega arith, (let l = below b p in omega (arith, l)), p);
    },
  )

-- whether a number is in a list
dec_contains : (bs : List ℕ) (b : ℕ) → Dec (Contains bs b)
dec_contains [] b = no (λ c. Contains-nil b c)
dec_contains (x ∷ xs) b = elim (ℕ_discrete x b) [
  | yes e ↦ yes (subst (λ w. Contains (x ∷ xs) w) e (contains_head x xs))
  | no n ↦ elim (dec_contains xs b) [
    | yes c ↦ yes (contains_cons b xs x c)
    | no m ↦ no (λ c. elim (contains_cases b x xs c) [ inl e ↦ n e | inr h ↦ m h ])
  ]
]

-- ---- what is needed

module _ (least : LeastFrozenExist) (implied : ImpliedExactlyIfNoneFrozen) (leave : NeedsLeaveMembers) (s : Schema)
    (c : ℕ) (sources : List ℕ) (v : IsValidSchema s) (k : Candidates)
    (are : AreCandidates s (not_by_one c sources) k) where
  -- whether a question with the atoms of summarizability's is implied
  dec_implied : (b : ℕ) (q : Formula) → AreCandidates s (Not q) k → Dec (IsImplied s b q)
  dec_implied b q too = let x = implied s b q k v.hierarchy too in dec_iff x.1 x.0 (elim (least s (Not q) b k too) [
    | inl t ↦ no (λ n. n t.0 t.1.is_one)
    | inr n ↦ yes n
  ])

  -- whether a category needs a constraint
  dec_needed : (b : ℕ) → Dec (IsNeeded s c sources b)
  dec_needed b = dec_and (dec_bottom s.graph b) (dec_not (dec_implied b (by_one c sources)
      (candidates_too s (not_by_one c sources) (Not (by_one c sources)) refl refl k are)))

  needed : (bs : List ℕ) × AreNeeded s c sources bs
  needed = ascending (IsNeeded s c sources) dec_needed (length s.graph.names + 1) (λ b n. n.0.0.1)

  -- whether it is left without members
  dec_emptied : (bs : List ℕ) → AreNeeded s c sources bs → (b : ℕ)
      → Dec (Contains bs b × IsUnsatisfiable (with_needs s c sources bs) b)
  dec_emptied bs n b = elim (dec_contains bs b) [
    | yes h ↦
        let x = leave s c sources bs n b (n.sound b h).0 in
        dec_iff (λ i. (h, x.1 i)) (λ t. x.0 t.1) (dec_implied b (Not (by_one c sources))
        (candidates_too s (not_by_one c sources) (Not (Not (by_one c sources))) refl refl k are))
    | no m ↦ no (λ t. m t.0)
  ]

  emptied : (bs : List ℕ) → AreNeeded s c sources bs → (es : List ℕ) × AreEmptied s c sources bs es
  emptied bs n = ascending (λ b. Contains bs b × IsUnsatisfiable (with_needs s c sources bs) b) (dec_emptied bs n)
      (length s.graph.names + 1) (λ b t. (n.sound b t.0).0.0.1)

-- whether there is room for the constraints of a schema
dec_room : (s : Schema) → Dec (HasRoom s)
dec_room s =
    dec_iff (λ t. record { constraints = t.0; each = t.1.0; nodes = t.1.1 })
    (λ r. (r.constraints, (r.each, r.nodes)))
    (dec_and (dec_le (length s.constraints) most_constraints)
    (dec_and (dec_each (λ (c : Constraint). node_count c.formula ≤ most_nodes)
    (λ c. dec_le (node_count c.formula) most_nodes) s.constraints)
    (dec_le (sum_by (λ c. node_count c.formula) s.constraints) most_schema_nodes)))

-- the answer of `needs`
abbrev NeedsAnswered : Schema → ℕ → List ℕ → Type 0
NeedsAnswered s c sources = (status : Status) × (bytes : List ℕ)
    × IsAnswer (ByNeeds s c sources) status bytes

-- the constraints are told, or whom they empty, or that they are too many
pub needs_exist : LeastFrozenExist → ImpliedExactlyIfNoneFrozen → NeedsLeaveMembers → SourcesHaveCandidates
    → (s : Schema) (c : ℕ) (sources : List ℕ) → IsValidSchema s → NeedsAnswered s c sources
needs_exist least implied leave candidates s c sources v =
    let k = candidates s c sources v in
    let n = needed least implied leave s c sources v k.0 k.1 in
    let e = emptied least implied leave s c sources v k.0 k.1 n.0 n.1 in
    go n.0 n.1 e.0 e.1 (dec_room (with_needs s c sources n.0))
  where
    go : (bs : List ℕ) → AreNeeded s c sources bs → (es : List ℕ) → AreEmptied s c sources bs es
        → Dec (HasRoom (with_needs s c sources bs)) → NeedsAnswered s c sources
    go bs n es e (no m) = (Refused, refusal (codes "needs TooMany"), ((bs, n, m), refl))
    go bs n [] e (yes r) = (
      Yes,
      needs_text s.graph c sources bs,
      record { bottoms = bs; are_needed = n; room = r; none_emptied = e; text = refl },
    )
    go bs n (x ∷ xs) e (yes r) = (
      No,
      line (codes "no") ++ flat_map (λ b. finding_text s.graph (Unsatisfiable b)) (x ∷ xs),
      record {
        bottoms = bs;
        emptied = x ∷ xs;
        are_needed = n;
        room = r;
        are_emptied = e;
        some = λ q. absurd (cc);
        text = refl;
      },
    )
