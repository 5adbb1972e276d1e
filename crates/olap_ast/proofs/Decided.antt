-- The truth of a formula at a member of an instance can be decided.
use Rattle.std.proofs.Common.{◌≡◌, ℕ, ℤ, List, [], ◌∷◌, length, true, refl, sym, subst, inl, inr}
use Rattle.std.{proofs.Math.Bool.Bool-discrete, specs.List.range_with_len, specs.Prelude.Contains}
use Rattle.olap_numerals.specs.Comparing.{Op, is_numbered}
use Rattle.olap_base.proofs.DecisionLemmas.{dec_not, dec_implies}
use Rattle.olap_base.proofs.ListLemmas.{contains_head, Contains-nil, Contains-range, Contains-from_range}
use Rattle.olap_base.specs.Deciding.{dec_or, dec_and, dec_iff, decide_reaches, contains_cons, contains_cases}
use Rattle.olap_base.specs.Instance.{Instance, IsMemberOf, Reaches, ReachesCategory, ReachesVia, category_of, name_of, parents_of}
use Rattle.olap_ast.specs.Formula.{Formula, Terms, Formula.Truth, Formula.Falsity, Formula.Path, Formula.Reach, Formula.Via, Formula.Equals, Formula.Compare, Formula.Not, Formula.And, Formula.Or, Formula.Implies, Formula.Iff, Formula.Xor, Formula.One, Terms.End, Terms.More, Holds, ExactlyOneHolds, NoneHolds, HasPath, IsNumbered, ReachesNamed, ReachesNumbered}
use native.Mathlib.Decide.{ℕ_discrete}
use mathlib.Core.List.{List-discrete}

-- whether P holds of one in the list
pub dec_some : {A : Type 0} (P : A → Type 0) → ((x : A) → Dec (P x)) → (xs : List A) →
    Dec ((x : A) × Contains xs x × P x)
dec_some P d [] = no (λ t. Contains-nil t.0 t.1)
dec_some P d (x ∷ xs) = elim (d x) [
  | yes p ↦ yes (x, contains_head x xs, p)
  | no n ↦ elim (dec_some P d xs) [
    | yes t ↦ yes (t.0, contains_cons t.0 xs x t.1, t.2)
    | no m ↦
        no (λ t. elim (contains_cases t.0 x xs t.1) [ inl e ↦ n (subst P (sym e) t.2) | inr c ↦ m (t.0, c, t.2) ])
  ]
]

-- some member of the category
dec_member : (i : Instance) (d : ℕ) (P : ℕ → Type 0) → ((y : ℕ) → Dec (P y)) →
    Dec ((y : ℕ) × IsMemberOf i d y × P y)
dec_member i d P e = dec_iff (λ t. (t.0, (Contains-from_range (length i) t.0 t.1, t.2.0), t.2.1))
    (λ t. (t.0, Contains-range (length i) t.0 t.1.0, (t.1.1, t.2)))
    (dec_some (λ y. (category_of i y ≡ d) × P y) (λ y. dec_and (ℕ_discrete (category_of i y) d) (e y))
    (range_with_len 0 (length i)))

-- whether x reaches the category
dec_reach : (i : Instance) (x d : ℕ) → Dec (ReachesCategory i x d)
dec_reach i x d = dec_member i d (λ y. Reaches i x y) (λ y. decide_reaches i x y)

-- whether x reaches e by way of d
pub dec_via : (i : Instance) (x d e : ℕ) → Dec (ReachesVia i x d e)
dec_via i x d e = dec_iff (λ t. (t.0, t.1, t.2.0, t.2.1)) (λ t. (t.0, t.1, (t.2, t.3)))
    (dec_member i d (λ y. Reaches i x y × ReachesCategory i y e)
    (λ y. dec_and (decide_reaches i x y) (dec_reach i y e)))

-- whether x reaches a member of that name
dec_named : (i : Instance) (x d : ℕ) (text : List ℕ) → Dec (ReachesNamed i x d text)
dec_named i x d text = dec_iff (λ t. (t.0, t.1, t.2.0, t.2.1)) (λ t. (t.0, t.1, (t.2, t.3)))
    (dec_member i d (λ y. Reaches i x y × (name_of i y ≡ text))
    (λ y. dec_and (decide_reaches i x y) (List-discrete ℕ_discrete (name_of i y) text)))

-- whether the name is a numeral that compares so with n
pub dec_number : (name : List ℕ) (op : Op) (n : ℤ) → Dec (IsNumbered name op n)
dec_number name op n = Bool-discrete (is_numbered name op n) true

-- whether x reaches a member of which that is so
dec_numbered : (i : Instance) (x d : ℕ) (op : Op) (n : ℤ) → Dec (ReachesNumbered i x d op n)
dec_numbered i x d op n = dec_iff (λ t. (t.0, t.1, t.2.0, t.2.1)) (λ t. (t.0, t.1, (t.2, t.3)))
    (dec_member i d (λ y. Reaches i x y × IsNumbered (name_of i y) op n)
    (λ y. dec_and (decide_reaches i x y) (dec_number (name_of i y) op n)))

-- a path goes by a parent of its first category, and on from there
path_from : (i : Instance) (x c : ℕ) (cs : List ℕ) → HasPath i x (c ∷ cs) →
    (y : ℕ) × Contains (parents_of i x) y × ((category_of i y ≡ c) × HasPath i y cs)
path_from i x c cs ([], h, q) = absurd (cc)
path_from i x c cs (y ∷ ys, h, q) = (y, h.0, (cc, (ys, h.1, cc)))

-- whether a path of these categories begins at x
dec_path : (i : Instance) (cs : List ℕ) (x : ℕ) → Dec (HasPath i x cs)
dec_path i [] x = yes ([], tt, refl)
dec_path i (c ∷ cs) x = dec_iff (λ t. (t.0 ∷ t.2.1.0, (t.1, t.2.1.1), cc (t.2.0, t.2.1.2))) (path_from i x c cs)
    (dec_some (λ y. (category_of i y ≡ c) × HasPath i y cs)
    (λ y. dec_and (ℕ_discrete (category_of i y) c) (dec_path i cs y)) (parents_of i x))

mutual
  -- whether a formula holds at x
  pub decide_holds : (i : Instance) (x : ℕ) (f : Formula) → Dec (Holds i x f)
  decide_holds i x Truth = yes tt
  decide_holds i x Falsity = no (λ h. h)
  decide_holds i x (Path cs) = dec_path i cs x
  decide_holds i x (Reach d) = dec_reach i x d
  decide_holds i x (Via d e) = dec_via i x d e
  decide_holds i x (Equals d k) = dec_named i x d k
  decide_holds i x (Compare d op n) = dec_numbered i x d op n
  decide_holds i x (Not f) = dec_not (decide_holds i x f)
  decide_holds i x (And f g) = dec_and (decide_holds i x f) (decide_holds i x g)
  decide_holds i x (Or f g) = dec_or (decide_holds i x f) (decide_holds i x g)
  decide_holds i x (Implies f g) = dec_implies (decide_holds i x f) (decide_holds i x g)
  decide_holds i x (Iff f g) = dec_and (dec_implies (decide_holds i x f) (decide_holds i x g))
      (dec_implies (decide_holds i x g) (decide_holds i x f))
  decide_holds i x (Xor f g) = dec_or (dec_and (decide_holds i x f) (dec_not (decide_holds i x g)))
      (dec_and (dec_not (decide_holds i x f)) (decide_holds i x g))
  decide_holds i x (One ts) = decide_one i x ts

  -- whether exactly one of the terms does
  decide_one : (i : Instance) (x : ℕ) (ts : Terms) → Dec (ExactlyOneHolds i x ts)
  decide_one i x End = no (λ h. h)
  decide_one i x (More f ts) = dec_or (dec_and (decide_holds i x f) (decide_none i x ts))
      (dec_and (dec_not (decide_holds i x f)) (decide_one i x ts))

  -- whether none does
  decide_none : (i : Instance) (x : ℕ) (ts : Terms) → Dec (NoneHolds i x ts)
  decide_none i x End = yes tt
  decide_none i x (More f ts) = dec_and (dec_not (decide_holds i x f)) (decide_none i x ts)
