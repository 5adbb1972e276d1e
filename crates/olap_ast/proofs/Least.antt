-- The least number and the first list with a property, where it can be decided and holds below a bound only.
use Rattle.std.proofs.Common.{◌≡◌, ℕ, zero, suc, ◌<◌, List, [], ◌∷◌, sym, subst, inl, inr, arith}
use Rattle.std.specs.Prelude.{◌≤◌, ◌⊎◌}
use Rattle.olap_base.{proofs.GeneralLemmas.less_or_equal, specs.Ranks.IsNotAfter}

-- k has the property, and no number with it is below k
pub record IsLeast (P : ℕ → Type 0) (k : ℕ) : Type 0 where
  pub has : P k
  pub least : (j : ℕ) → P j → k ≤ j

-- past n, where n lacks the property
past : (P : ℕ → Type 0) (n j : ℕ) → (P n → ⊥) → P j → n ≤ j → suc n ≤ j
past P n j m p l = elim (same_or_past n j l) [ inl e ↦ absurd (m (subst P (sym e) p)) | inr h ↦ h ]
  where
    same_or_past : (n j : ℕ) → n ≤ j → (n ≡ j) ⊎ (suc n ≤ j)
    same_or_past n j l = grind arith

-- below n: the least number, or none
least_below : (P : ℕ → Type 0) → ((k : ℕ) → Dec (P k)) → (n : ℕ) →
    ((k : ℕ) × IsLeast P k) ⊎ ((j : ℕ) → P j → n ≤ j)
least_below P d zero = inr (λ j p. omega arith)
least_below P d (suc n) = elim (least_below P d n) [
  | inl t ↦ inl t
  | inr f ↦ elim (d n) [
    | yes p ↦ inl (n, record { has = p; least = f })
    | no m ↦ inr (λ j p. past P n j m p (f j p))
  ]
]

-- the least number, or none
pub least : (P : ℕ → Type 0) → ((k : ℕ) → Dec (P k)) → (n : ℕ) → ((k : ℕ) → P k → k < n) →
    ((k : ℕ) × IsLeast P k) ⊎ ((k : ℕ) → P k → ⊥)
least P d n b = elim (least_below P d n) [
  | inl t ↦ inl t
  | inr f ↦ inr (λ k p. let l = b k p in let m = f k p in omega arith)
]

-- whether some number has the property
pub dec_number : (P : ℕ → Type 0) → ((k : ℕ) → Dec (P k)) → (n : ℕ) → ((k : ℕ) → P k → k < n) →
    Dec ((k : ℕ) × P k)
dec_number P d n b = elim (least P d n b) [ inl t ↦ yes (t.0, t.1.has) | inr f ↦ no (λ t. f t.0 t.1) ]

-- ---- lists

-- m numbers, each below n
abbrev pub Fits : ℕ → ℕ → List ℕ → Type 0
Fits zero n [] = Unit {0}
Fits zero n (x ∷ xs) = ⊥
Fits (suc m) n [] = ⊥
Fits (suc m) n (x ∷ xs) = (x < n) × Fits m n xs

-- the list has the property, and comes before each other that has it
pub record IsFirst (P : List ℕ → Type 0) (xs : List ℕ) : Type 0 where
  pub has : P xs
  pub least : (ys : List ℕ) → P ys → IsNotAfter xs ys

-- the first list with the property, or none has it
abbrev pub FirstOrNone : (List ℕ → Type 0) → Type 0
FirstOrNone P = ((xs : List ℕ) × IsFirst P xs) ⊎ ((xs : List ℕ) → P xs → ⊥)

-- x begins a list that has the property
abbrev Begins : (List ℕ → Type 0) → ℕ → Type 0
Begins P x = (xs : List ℕ) × P (x ∷ xs)

-- whether some list with the property begins with x
decide_begins : (P : List ℕ → Type 0) (x : ℕ) → FirstOrNone (λ xs. P (x ∷ xs)) → Dec (Begins P x)
decide_begins P x (inl t) = yes (t.0, t.1.has)
decide_begins P x (inr f) = no (λ t. f t.0 t.1)

-- the least head, and the first rest after it
joined : (P : List ℕ → Type 0) (x : ℕ) (xs : List ℕ) → (P [] → ⊥) → IsLeast (Begins P) x →
    IsFirst (λ ys. P (x ∷ ys)) xs → IsFirst P (x ∷ xs)
joined P x xs e h r = record { has = r.has; least = first }
  where
    first : (ys : List ℕ) → P ys → IsNotAfter (x ∷ xs) ys
    first [] q = absurd (e q)
    first (y ∷ ys) q = elim (less_or_equal x y (h.least y (ys, q))) [
      | inl l ↦ inl l
      | inr s ↦ inr (s, r.least ys (subst (λ z. P (z ∷ ys)) (sym s) q))
    ]

-- the first list, from the first rest after each head
by_heads : (P : List ℕ → Type 0) (n : ℕ) → (P [] → ⊥) → ((x : ℕ) (xs : List ℕ) → P (x ∷ xs) → x < n) →
    ((x : ℕ) → FirstOrNone (λ xs. P (x ∷ xs))) → FirstOrNone P
by_heads P n e b r = elim (least (Begins P) (λ x. decide_begins P x (r x)) n (λ x t. b x t.0 t.1)) [
  | inl t ↦ elim (r t.0) [
    | inl u ↦ inl (t.0 ∷ u.0, joined P t.0 u.0 e t.1 u.1)
    | inr f ↦ absurd (f t.1.has.0 t.1.has.1)
  ]
  | inr f ↦ inr (none f)
]
  where
    none : ((x : ℕ) → Begins P x → ⊥) → (ys : List ℕ) → P ys → ⊥
    none f [] q = e q
    none f (y ∷ ys) q = f y (ys, q)

-- the first list, or none
pub first_list : (m n : ℕ) (P : List ℕ → Type 0) → ((xs : List ℕ) → Dec (P xs)) →
    ((xs : List ℕ) → P xs → Fits m n xs) → FirstOrNone P
first_list zero n P d f = elim (d []) [
  | yes p ↦ inl ([], record { has = p; least = λ ys q. tt })
  | no m ↦ inr (none m)
]
  where
    none : (P [] → ⊥) → (ys : List ℕ) → P ys → ⊥
    none m [] q = m q
    none m (y ∷ ys) q = f (y ∷ ys) q
first_list (suc m) n P d f = by_heads P n (f []) (λ x xs p. (f (x ∷ xs) p).0)
    (λ x. first_list m n (λ xs. P (x ∷ xs)) (λ xs. d (x ∷ xs)) (λ xs p. (f (x ∷ xs) p).1))
