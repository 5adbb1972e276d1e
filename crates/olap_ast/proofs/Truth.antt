-- A formula has one truth in an instance and in a part of it that is closed under parents.
use Rattle.std.proofs.Common.{◌≡◌, ℕ, ℤ, ◌<◌, ◌↔◌, List, [], ◌∷◌, ◌++◌, length, get_or, map, refl, sym, ap, subst, ◌∙◌, ◌⊎◌}
use Rattle.std.proofs.{Math.Logic.⊎_map, lemmas.List.Elements.{Contains-append_left, Contains-append_right}}
use Rattle.std.specs.Prelude.{Contains, IsTrue}
use Rattle.olap_base.proofs.AboveLemmas.{above_is_part, above_instance, above_lawful, one_member_each, self_is, name_above}
use Rattle.olap_base.proofs.{ListLemmas.contains_head, Part.{IsPart, part_steps, part_lift, part_inside}}
use Rattle.olap_base.specs.{Above.{above, self_above, members_above}, Chains.IsChain, Graph.is_number}
use Rattle.olap_base.specs.Instance.{Instance, IsInstance, IsBelow, Reaches, ReachesCategory, ReachesVia, category_of, name_of}
use Rattle.olap_base.specs.Steps.{Steps-from_reaches, reaches_from_Steps}
use Rattle.olap_ast.specs.Atoms.{Comparison, Equality, comparisons, comparisons_of_terms, equalities, equalities_of_terms}
use Rattle.olap_ast.specs.Formula.{Formula, Terms, Formula.Path, Formula.Reach, Formula.Via, Formula.Equals, Formula.Compare, Formula.Not, Formula.And, Formula.Or, Formula.Implies, Formula.Iff, Formula.Xor, Formula.One, Terms.End, Terms.More, Holds, ExactlyOneHolds, NoneHolds, HasPath, IsNumbered, ReachesNamed, ReachesNumbered}
use Rattle.olap_ast.specs.Schema.{AboveIsLegal}
use Rattle.olap_numerals.specs.Comparing.{Op}

-- the texts of Q are the only ones that names are compared with: the names agree as far as these tell
abbrev pub NamesAgree : Instance → Instance → (ℕ → ℕ) → (ℕ → List ℕ → Type 0) → Type 0
NamesAgree i j e Q = (k : ℕ) (text : List ℕ) → k < length j → Q (category_of j k) text →
    (name_of j k ≡ text) ↔ (name_of i (e k) ≡ text)

-- the same of the numbers of N
abbrev pub NumbersAgree : Instance → Instance → (ℕ → ℕ) → (ℕ → ℤ → Type 0) → Type 0
NumbersAgree i j e N = (k : ℕ) (op : Op) (n : ℤ) → k < length j → N (category_of j k) n →
    IsNumbered (name_of j k) op n ↔ IsNumbered (name_of i (e k)) op n

-- a formula's texts are of Q, and its numbers of N
abbrev pub AsksOnly : (ℕ → List ℕ → Type 0) → (ℕ → ℤ → Type 0) → List Equality → List Comparison → Type 0
AsksOnly Q N texts numbers =
    ((d : ℕ) (text : List ℕ) → Contains texts (record { category = d; text = text }) → Q d text)
    × ((d : ℕ) (n : ℤ) → Contains numbers (record { category = d; number = n }) → N d n)

-- ---- connectives of what is equivalent

-- neither holds where the other doesn't
not_same : {A B : Type 0} → A ↔ B → (A → ⊥) ↔ (B → ⊥)
not_same s = (λ n b. n (s.1 b), λ n a. n (s.0 a))

-- both
both_same : {A B C D : Type 0} → A ↔ B → C ↔ D → (A × C) ↔ (B × D)
both_same s t = (λ a. (s.0 a.0, t.0 a.1), λ a. (s.1 a.0, t.1 a.1))

-- one of the two
either_same : {A B C D : Type 0} → A ↔ B → C ↔ D → (A ⊎ C) ↔ (B ⊎ D)
either_same s t = (⊎_map s.0 t.0, ⊎_map s.1 t.1)

-- the second, if the first
implies_same : {A B C D : Type 0} → A ↔ B → C ↔ D → (A → C) ↔ (B → D)
implies_same s t = (λ a b. t.0 (a (s.1 b)), λ a b. t.1 (a (s.0 b)))

-- ---- an instance and a part of it

module _ (i j : Instance) (e : ℕ → ℕ) (p : IsPart i j e) (Q : ℕ → List ℕ → Type 0) (N : ℕ → ℤ → Type 0)
    (names : NamesAgree i j e Q) (numbers : NumbersAgree i j e N) where
  -- what is reached in the part is reached in the whole
  down : {k l : ℕ} → Reaches j k l → Reaches i (e k) (e l)
  down r = reaches_from_Steps (part_steps i j e p (Steps-from_reaches r))

  -- what a member of the part reaches is in the part
  inside : {k l : ℕ} → k < length j → Reaches j k l → l < length j
  inside h r = part_inside i j e p h (Steps-from_reaches r)

  -- what it reaches in the whole it reaches in the part
  lift : (k y : ℕ) → k < length j → Reaches i (e k) y → (l : ℕ) × (l < length j) × Reaches j k l × (e l ≡ y)
  lift k y h r = let t = part_lift i j e p (Steps-from_reaches r) k h refl in
      (t.0, part_inside i j e p h t.1, reaches_from_Steps t.1, t.2)

  -- ---- atoms

  -- a category that is reached in the part is reached in the whole
  reach_down : (k d : ℕ) → k < length j → ReachesCategory j k d → ReachesCategory i (e k) d
  reach_down k d h (l, m, r) = (e l, (p.member l m.0, sym (p.category l m.0) ∙ m.1), down r)

  -- and the other way round
  reach_up : (k d : ℕ) → k < length j → ReachesCategory i (e k) d → ReachesCategory j k d
  reach_up k d h (y, m, r) = let t = lift k y h r in
      (t.0, (t.1, p.category t.0 t.1 ∙ ap (category_of i) t.3 ∙ m.1), t.2)

  -- so is one by way of another
  via_down : (k d c : ℕ) → k < length j → ReachesVia j k d c → ReachesVia i (e k) d c
  via_down k d c h (l, m, r, q) =
      (e l, (p.member l m.0, sym (p.category l m.0) ∙ m.1), down r, reach_down l c m.0 q)

  -- and the other way round
  via_up : (k d c : ℕ) → k < length j → ReachesVia i (e k) d c → ReachesVia j k d c
  via_up k d c h (y, m, r, q) = let t = lift k y h r in (
    t.0,
    (t.1, p.category t.0 t.1 ∙ ap (category_of i) t.3 ∙ m.1),
    t.2,
    reach_up t.0 c t.1 (subst (λ z. ReachesCategory i z c) (sym t.3) q),
  )

  -- so is a member with a name that is asked for
  named_down : (k d : ℕ) (text : List ℕ) → k < length j → Q d text → ReachesNamed j k d text →
      ReachesNamed i (e k) d text
  named_down k d text h u (l, m, r, q) = (
    e l,
    (p.member l m.0, sym (p.category l m.0) ∙ m.1),
    down r,
    (names l text m.0 (subst (λ c. Q c text) (sym m.1) u)).0 q,
  )

  -- and the other way round
  named_up : (k d : ℕ) (text : List ℕ) → k < length j → Q d text → ReachesNamed i (e k) d text →
      ReachesNamed j k d text
  named_up k d text h u (y, m, r, q) = let t = lift k y h r in let c =
      p.category t.0 t.1 ∙ ap (category_of i) t.3 ∙ m.1 in
      (t.0, (t.1, c), t.2, (names t.0 text t.1 (subst (λ d. Q d text) (sym c) u)).1 (ap (name_of i) t.3 ∙ q))

  -- so is a member with a number that compares as is asked
  numbered_down : (k d : ℕ) (op : Op) (n : ℤ) → k < length j → N d n → ReachesNumbered j k d op n →
      ReachesNumbered i (e k) d op n
  numbered_down k d op n h u (l, m, r, q) = (
    e l,
    (p.member l m.0, sym (p.category l m.0) ∙ m.1),
    down r,
    (numbers l op n m.0 (subst (λ c. N c n) (sym m.1) u)).0 q,
  )

  -- and the other way round
  numbered_up : (k d : ℕ) (op : Op) (n : ℤ) → k < length j → N d n → ReachesNumbered i (e k) d op n →
      ReachesNumbered j k d op n
  numbered_up k d op n h u (y, m, r, q) = let t = lift k y h r in let c =
      p.category t.0 t.1 ∙ ap (category_of i) t.3 ∙ m.1 in (
        t.0,
        (t.1, c),
        t.2,
        (numbers t.0 op n t.1 (subst (λ d. N d n) (sym c) u)).1
            (subst (λ z. IsNumbered (name_of i z) op n) (sym t.3) q),
      )

  -- a chain in the part is one in the whole, of the same categories
  chain_down : (k : ℕ) (ls : List ℕ) → IsChain (IsBelow j) (k ∷ ls) →
      IsChain (IsBelow i) (e k ∷ map e ls) × (map (category_of i) (map e ls) ≡ map (category_of j) ls)
  chain_down k [] c = (tt, refl)
  chain_down k (l ∷ ls) c = let t = chain_down l ls c.1 in
      ((p.below k l c.0, t.0), cc (p.category l (p.inside k l c.0), t.1))

  -- a chain in the whole that begins in the part is one in the part
  chain_up : (k : ℕ) → k < length j → (x : ℕ) → e k ≡ x → (ys : List ℕ) → IsChain (IsBelow i) (x ∷ ys) →
      (ls : List ℕ) × IsChain (IsBelow j) (k ∷ ls) × (map (category_of j) ls ≡ map (category_of i) ys)
  chain_up k h x q [] c = ([], tt, refl)
  chain_up k h x q (y ∷ ys) c =
      let t = p.above k y h (subst (λ w. IsBelow i w y) (sym q) c.0) in
      let u = chain_up t.0 (p.inside k t.0 t.1) y t.2 ys c.1 in
      (t.0 ∷ u.0, (t.1, u.1), cc (p.category t.0 (p.inside k t.0 t.1), ap (category_of i) t.2, u.2))

  -- a path in the part is one in the whole
  path_down : (k : ℕ) (cs : List ℕ) → HasPath j k cs → HasPath i (e k) cs
  path_down k cs (ls, c, q) = let t = chain_down k ls c in (map e ls, t.0, t.1 ∙ q)

  -- and the other way round
  path_up : (k : ℕ) (cs : List ℕ) → k < length j → HasPath i (e k) cs → HasPath j k cs
  path_up k cs h (ys, c, q) = let t = chain_up k h (e k) refl ys c in (t.0, t.1, t.2 ∙ q)

  -- ---- formulas

  -- the texts are of Q, the numbers of N
  abbrev Within : List Equality → List Comparison → Type 0
  Within texts numbers = AsksOnly Q N texts numbers

  -- those of both of two parts
  parts : (xs ys : List Equality) (ns ms : List Comparison) → Within (xs ++ ys) (ns ++ ms) → Within xs ns × Within ys ms
  parts xs ys ns ms w = (
    (λ d k c. w.0 d k (Contains-append_left xs ys _ c), λ d n c. w.1 d n (Contains-append_left ns ms _ c)),
    (λ d k c. w.0 d k (Contains-append_right xs ys _ c), λ d n c. w.1 d n (Contains-append_right ns ms _ c)),
  )

  -- those of two formulas
  halves : (f g : Formula) → Within (equalities f ++ equalities g) (comparisons f ++ comparisons g)
      → Within (equalities f) (comparisons f) × Within (equalities g) (comparisons g)
  halves f g = parts (equalities f) (equalities g) (comparisons f) (comparisons g)

  mutual
    -- a formula has one truth in both
    pub same : (k : ℕ) → k < length j → (f : Formula) → Within (equalities f) (comparisons f)
        → Holds j k f ↔ Holds i (e k) f
    same k h (Path cs) w = (path_down k cs, path_up k cs h)
    same k h (Reach d) w = (reach_down k d h, reach_up k d h)
    same k h (Via d c) w = (via_down k d c h, via_up k d c h)
    same k h (Equals d text) w = let u = w.0 d text (contains_head (record { category = d; text = text }) []) in
        (named_down k d text h u, named_up k d text h u)
    same k h (Compare d op n) w = let u = w.1 d n (contains_head (record { category = d; number = n }) []) in
        (numbered_down k d op n h u, numbered_up k d op n h u)
    same k h (Not f) w = not_same (same k h f w)
    same k h (And f g) w = let p = halves f g w in both_same (same k h f p.0) (same k h g p.1)
    same k h (Or f g) w = let p = halves f g w in either_same (same k h f p.0) (same k h g p.1)
    same k h (Implies f g) w = let p = halves f g w in implies_same (same k h f p.0) (same k h g p.1)
    same k h (Iff f g) w = let p = halves f g w in
        both_same (implies_same (same k h f p.0) (same k h g p.1)) (implies_same (same k h g p.1) (same k h f p.0))
    same k h (Xor f g) w = let p = halves f g w in either_same
        (both_same (same k h f p.0) (not_same (same k h g p.1)))
        (both_same (not_same (same k h f p.0)) (same k h g p.1))
    same k h (One ts) w = same_one k h ts w
    same k h f w = (λ t. t, λ t. t)

    -- exactly one of the terms holds in both
    same_one : (k : ℕ) → k < length j → (ts : Terms) → Within (equalities_of_terms ts) (comparisons_of_terms ts) →
        ExactlyOneHolds j k ts ↔ ExactlyOneHolds i (e k) ts
    same_one k h End w = (λ t. t, λ t. t)
    same_one k h (More f ts) w =
        let p = parts (equalities f) (equalities_of_terms ts) (comparisons f) (comparisons_of_terms ts) w in
        let s = same k h f p.0 in
        either_same (both_same s (same_none k h ts p.1)) (both_same (not_same s) (same_one k h ts p.1))

    -- none of the terms holds in both
    same_none : (k : ℕ) → k < length j → (ts : Terms) → Within (equalities_of_terms ts) (comparisons_of_terms ts) →
        NoneHolds j k ts ↔ NoneHolds i (e k) ts
    same_none k h End w = (λ t. t, λ t. t)
    same_none k h (More f ts) w =
        let p = parts (equalities f) (equalities_of_terms ts) (comparisons f) (comparisons_of_terms ts) w in
        both_same (not_same (same k h f p.0)) (same_none k h ts p.1)

-- ---- above one member

-- all texts
abbrev pub Any_text : ℕ → List ℕ → Type 0
Any_text d text = Unit {0}

-- all numbers
abbrev pub Any_number : ℕ → ℤ → Type 0
Any_number d n = Unit {0}

-- above one member the names are those of the whole
names_above : (i : Instance) (x : ℕ) (v : IsInstance i) →
    NamesAgree i (above i x) (λ k. get_or (members_above i x) k 0) Any_text
names_above i x v k text h u = (λ q. sym (name_above i x v k h) ∙ q, λ q. name_above i x v k h ∙ q)

-- and so are the numbers
numbers_above : (i : Instance) (x : ℕ) (v : IsInstance i) →
    NumbersAgree i (above i x) (λ k. get_or (members_above i x) k 0) Any_number
numbers_above i x v k op n h u = (
  λ q. subst (λ t. IsNumbered t op n) (name_above i x v k h) q,
  λ q. subst (λ t. IsNumbered t op n) (sym (name_above i x v k h)) q,
)

-- what is above a member of a legal instance is legal, and has the same truths
pub above_is_legal_lem : AboveIsLegal
above_is_legal_lem s i x v h =
    let e = λ (m : ℕ). get_or (members_above i x) m 0 in
    let p = above_is_part i x v.is_instance in
    let t = self_is i x v.is_instance h in
    record {
      legal = record {
        is_instance = above_instance i x v.is_instance s.graph v.lawful h;
        numerals = λ m k a. let b = subst (λ c. IsTrue (is_number s.graph c)) (p.category m k) a in
            rw (name_above i x v.is_instance m k) (v.numerals (e m) (p.member m k) b);
        lawful = above_lawful i x v.is_instance s.graph v.lawful;
        meets = λ c d k m. (same i (above i x) e p Any_text Any_number (names_above i x v.is_instance)
            (numbers_above i x v.is_instance) k m.0 c.formula (λ a b r. tt, λ a b r. tt)).1
            (v.meets c d (e k) (p.member k m.0, sym (p.category k m.0) ∙ m.1));
      };
      one_each = one_member_each i x v.is_instance s.graph v.lawful;
      same_truth = λ f. let u = same i (above i x) e p Any_text Any_number (names_above i x v.is_instance)
          (numbers_above i x v.is_instance) (self_above i x) t.0 f (λ a b r. tt, λ a b r. tt) in
          (λ a. subst (λ y. Holds i y f) t.1 (u.0 a), λ a. u.1 (subst (λ y. Holds i y f) (sym t.1) a));
    }
