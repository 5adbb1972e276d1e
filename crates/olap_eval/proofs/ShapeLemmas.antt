-- What a shape's answers say of the members.
use Rattle.std.proofs.Common.{◌≡◌, ℕ, ℤ, zero, suc, ◌+◌, ◌<◌, ◌≤◌, List, [], ◌∷◌, length, map, get_or, drop, Bool, true, false, refl, ap, sym, subst, ◌∙◌, ◌↔◌, arith, add-one, drop-cons}
use Rattle.std.specs.Prelude.{IsTrue}
use Rattle.olap_base.{proofs.GeneralLemmas.iff_trans, specs.Chains.IsChain}
use Rattle.olap_base.specs.Instance.{Instance, IsBelow, Reaches, ReachesCategory, ReachesVia, category_of, name_of}
use Rattle.olap_base.specs.Steps.{Steps.here, Steps.step, Steps-append, Steps-from_reaches, reaches_from_Steps}
use Rattle.olap_base.specs.declared.ids.CatId.{CatId}
use Rattle.olap_ast.specs.Formula.{HasPath, Holds, IsNumbered, ReachesNamed, ReachesNumbered}
use Rattle.olap_ast.specs.{Trees.{formula_of, op_of}, declared.formulas.Formula.Formula}
use Rattle.olap_ast.specs.declared.formulas.Formula.TheVariants.{Reach, Via, Equals, Compare}
use Rattle.olap_numerals.specs.Comparing.{Op}
use Rattle.olap_eval.specs.Shapes.{IsShape, HasEdgeThere, ReachesThere, HasNameThere, HasNumberThere}
use Rattle.olap_ast.specs.declared.formulas.Op as declared

module _ (i : Instance) (present : ℕ → Bool) (place : ℕ → ℕ) (s : IsShape i present place) (root : ℕ)
    (p : IsTrue (present root)) where
  -- a member that is reached is that of its category
  at : (d y : ℕ) → category_of i y ≡ d → Reaches i (place root) y → IsTrue (present d) × (place d ≡ y)
  at d y e r = subst (λ c. IsTrue (present c) × (place c ≡ y)) e (s.closed root y p r)

  pub reach_is : (d : ℕ) → ReachesThere i present place root d ↔ ReachesCategory i (place root) d
  reach_is d = (
    λ t. (place d, s.members d t.1, t.2),
    λ r. let a = at d r.0 r.1.1 r.2 in (p, a.0, subst (λ y. Reaches i (place root) y) (sym a.1) r.2),
  )

  pub via_is : (d e : ℕ)
      → (ReachesThere i present place root d × ReachesThere i present place d e) ↔ ReachesVia i (place root) d e
  via_is d e = (
    λ t. (place d, s.members d t.0.1, t.0.2, (place e, s.members e t.1.1, t.1.2)),
    λ r.
        let a = at d r.0 r.1.1 r.2 in
        let on = Steps-append (Steps-from_reaches r.2) (Steps-from_reaches r.3.2) in
        let b = at e r.3.0 r.3.1.1 (reaches_from_Steps on) in
        let first = subst (λ y. Reaches i (place root) y) (sym a.1) r.2 in
        let then = subst (λ x. Reaches i x r.3.0) (sym a.1) r.3.2 in
        ((p, a.0, first), (a.0, b.0, subst (λ y. Reaches i (place d) y) (sym b.1) then)),
  )

  pub named_is : (d : ℕ) (text : List ℕ)
      → (ReachesThere i present place root d × HasNameThere i present place d text) ↔ ReachesNamed i (place root) d text
  named_is d text = (
    λ t. (place d, s.members d t.0.1, t.0.2, t.1.1),
    λ r.
        let a = at d r.0 r.1.1 r.2 in
        ((p, a.0, subst (λ y. Reaches i (place root) y) (sym a.1) r.2), (a.0, ap (name_of i) a.1 ∙ r.3)),
  )

  pub numbered_is : (d : ℕ) (op : Op) (n : ℤ)
      → (ReachesThere i present place root d × HasNumberThere i present place d op n)
      ↔ ReachesNumbered i (place root) d op n
  numbered_is d op n = (
    λ t. (place d, s.members d t.0.1, t.0.2, t.1.1),
    λ r.
        let a = at d r.0 r.1.1 r.2 in (
          (p, a.0, subst (λ y. Reaches i (place root) y) (sym a.1) r.2),
          (a.0, subst (λ y. IsNumbered (name_of i y) op n) (sym a.1) r.3),
        ),
  )

  -- ---- paths
  pub path_from : (c : ℕ) (rest : List ℕ) → HasEdgeThere i present place root c → HasPath i (place c) rest
      → HasPath i (place root) (c ∷ rest)
  path_from c rest e h =
      let m : category_of i (place c) ≡ c = (s.members c e.1).1 in (place c ∷ h.0, (e.2, h.1), cc (m, h.2))

  pub path_to : (c : ℕ) (rest : List ℕ) → HasPath i (place root) (c ∷ rest)
      → HasEdgeThere i present place root c × HasPath i (place c) rest
  path_to c rest h = go h.0 h.1 h.2
    where
      go : (chain : List ℕ) → IsChain (IsBelow i) (place root ∷ chain) → map (category_of i) chain ≡ c ∷ rest
          → HasEdgeThere i present place root c × HasPath i (place c) rest
      go [] k e = absurd (cc)
      go (y ∷ ys) k e =
          let cat : category_of i y ≡ c = cc in
          let others : map (category_of i) ys ≡ rest = cc in
          let a = at c y cat (reaches_from_Steps (step k.0 here)) in
          let edge = subst (λ z. IsBelow i (place root) z) (sym a.1) k.0 in
          ((p, a.0, edge), (ys, subst (λ z. IsChain (IsBelow i) (z ∷ ys)) (sym a.1) k.1, others))

-- a path of no edges is there
pub path_none : (i : Instance) (x : ℕ) → HasPath i x []
path_none i x = ([], tt, refl)

-- ---- along a list of categories

-- what stands past the end of a list of categories
abbrev pub nowhere : CatId
nowhere = record { 0 = 0 }

-- the categories, as numbers
abbrev pub numbers : List CatId → List ℕ
numbers cs = map (λ (c : CatId). c.0) cs

-- the categories from a place on: the one there, and the rest
pub rest_is : (cs : List CatId) (k : ℕ) → k < length cs
    → numbers (drop k cs) ≡ (get_or cs k nowhere).0 ∷ numbers (drop (k + 1) cs)
rest_is cs k h = ap numbers e
  where
    e : drop k cs ≡ get_or cs k nowhere ∷ drop (k + 1) cs
    e = rw (add-one, drop-cons cs k nowhere) refl

-- from the end on there are none
pub rest_none : (cs : List CatId) (k : ℕ) → length cs ≤ k → numbers (drop k cs) ≡ []
rest_none [] k h = go k
  where
    go : (k : ℕ) → numbers (drop k []) ≡ []
    go zero = refl
    go (suc k) = refl
rest_none (c ∷ cs) zero h = absurd (omega arith)
rest_none (c ∷ cs) (suc k) h = rest_none cs k (omega arith)

-- the path P goes on from `at` along the rest
pub record IsFollowed (i : Instance) (present : ℕ → Bool) (place : ℕ → ℕ) (P : Type 0) (at : ℕ) (rest : List ℕ)
    : Type 0 where
  pub here : IsTrue (present at)
  pub to : P → HasPath i (place at) rest
  pub from : HasPath i (place at) rest → P

-- one more category of the list
pub next_category : {i : Instance} {present : ℕ → Bool} {place : ℕ → ℕ} {P : Type 0} {at : ℕ} (cs : List CatId) (k : ℕ)
    → k < length cs → IsFollowed i present place P at (numbers (drop k cs))
    → IsFollowed i present place P at ((get_or cs k nowhere).0 ∷ numbers (drop (k + 1) cs))
next_category {i} {present} {place} {P} {at} cs k h f =
    subst (λ l. IsFollowed i present place P at l) (rest_is cs k h) f

module _ {i : Instance} {present : ℕ → Bool} {place : ℕ → ℕ} (s : IsShape i present place) {P : Type 0} {at c : ℕ}
    {rest : List ℕ} (f : IsFollowed i present place P at (c ∷ rest)) where
  pub follow_step : HasEdgeThere i present place at c → IsFollowed i present place P c rest
  follow_step e = record {
    here = e.1;
    to = λ q. (path_to i present place s at f.here c rest (f.to q)).1;
    from = λ h. f.from (path_from i present place s at f.here c rest e h);
  }

  pub follow_stop : (HasEdgeThere i present place at c → ⊥) → IsTrue false ↔ P
  follow_stop n = (λ t. absurd (cc), λ q. absurd (n (path_to i present place s at f.here c rest (f.to q)).0))

-- where no category is left the path is there
pub follow_done : {i : Instance} {present : ℕ → Bool} {place : ℕ → ℕ} {P : Type 0} {at : ℕ} {rest : List ℕ}
    → IsFollowed i present place P at rest → rest ≡ [] → IsTrue true ↔ P
follow_done {i} {present} {place} {P} {at} f e =
    (λ t. f.from (subst (λ l. HasPath i (place at) l) (sym e) (path_none i (place at))), λ q. refl)

-- ---- answers one after another

-- where the first test is true the second tells of both
pub iff_both : {A B : Type 0} (r q : Bool) → r ≡ true → IsTrue r ↔ A → IsTrue q ↔ B → IsTrue q ↔ (A × B)
iff_both r q e f g = (λ t. (f.0 e, g.0 t), λ p. g.1 p.1)

-- where the first is false both can't be
pub iff_not_first : {A B : Type 0} (r : Bool) → r ≡ false → IsTrue r ↔ A → IsTrue r ↔ (A × B)
iff_not_first r e f = (λ t. absurd (let z : false ≡ true = sym e ∙ t in cc), λ p. f.1 p.0)

-- ---- the atoms of a formula

module _ {i : Instance} {present : ℕ → Bool} {place : ℕ → ℕ} (s : IsShape i present place) (root : ℕ)
    (p : IsTrue (present root)) where
  abbrev IsTruth : Formula → Bool → Type 0
  IsTruth f r = IsTrue r ↔ Holds i (place root) (formula_of f)

  pub reach_truth : {f : Formula} {d : CatId} (r : Bool) → f ≡ Reach d
      → IsTrue r ↔ ReachesThere i present place root d.0 → IsTruth f r
  reach_truth {d = d} r is a =
      subst (λ g. IsTruth g r) (sym is) (iff_trans a (reach_is i present place s root p d.0))

  module _ {f : Formula} {d e : CatId} (r : Bool) (is : f ≡ Via d e)
      (a : IsTrue r ↔ ReachesThere i present place root d.0) where
    via : (b : Bool)
        → IsTrue b ↔ (ReachesThere i present place root d.0 × ReachesThere i present place d.0 e.0) → IsTruth f b
    via b t = subst (λ g. IsTruth g b) (sym is) (iff_trans t (via_is i present place s root p d.0 e.0))

    pub via_truth : (q : Bool) → r ≡ true → IsTrue q ↔ ReachesThere i present place d.0 e.0 → IsTruth f q
    via_truth q t b = via q (iff_both r q t a b)

    pub via_stops : r ≡ false → IsTruth f r
    via_stops n = via r (iff_not_first r n a)

  module _ {f : Formula} {d : CatId} {text : List ℕ} (r : Bool) (is : f ≡ Equals d text)
      (a : IsTrue r ↔ ReachesThere i present place root d.0) where
    named : (b : Bool)
        → IsTrue b ↔ (ReachesThere i present place root d.0 × HasNameThere i present place d.0 text) → IsTruth f b
    named b t = subst (λ g. IsTruth g b) (sym is) (iff_trans t (named_is i present place s root p d.0 text))

    pub named_truth : (q : Bool) → r ≡ true → IsTrue q ↔ HasNameThere i present place d.0 text → IsTruth f q
    named_truth q t b = named q (iff_both r q t a b)

    pub named_stops : r ≡ false → IsTruth f r
    named_stops n = named r (iff_not_first r n a)

  module _ {f : Formula} {d : CatId} {op : declared.Op} {n : ℤ} (r : Bool) (is : f ≡ Compare d op n)
      (a : IsTrue r ↔ ReachesThere i present place root d.0) where
    numbered : (b : Bool)
        → IsTrue b ↔ (ReachesThere i present place root d.0 × HasNumberThere i present place d.0 (op_of op) n)
        → IsTruth f b
    numbered b t =
        subst (λ g. IsTruth g b) (sym is) (iff_trans t (numbered_is i present place s root p d.0 (op_of op) n))

    pub numbered_truth : (q : Bool) → r ≡ true → IsTrue q ↔ HasNumberThere i present place d.0 (op_of op) n
        → IsTruth f q
    numbered_truth q t b = numbered q (iff_both r q t a b)

    pub numbered_stops : r ≡ false → IsTruth f r
    numbered_stops m = numbered r (iff_not_first r m a)
