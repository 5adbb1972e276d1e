-- What is decided, counted and told of the numbers below a bound.
use Rattle.std.proofs.Common.{◌≡◌, ℕ, zero, suc, ◌+◌, ◌<◌, ◌≤◌, ◌↔◌, List, [], ◌∷◌, Bool, true, false, cond, length, refl, ap, sym, subst, ◌∙◌, inl, inr, arith}
use Rattle.std.{proofs.Math.Decide.dec_le, specs.List.range_with_len, specs.Prelude.{Contains, slice_index_or}}
use Rattle.olap_base.specs.{Deciding.{contains_cases, dec_iff}, Views.{ExactlyOne, NoneOf}}

-- ---- decisions

-- whether a number is less can be decided
pub dec_less : (m n : ℕ) → Dec (m < n)
dec_less m n = dec_iff (λ l. omega arith) (λ l. omega arith) (dec_le (suc m) n)

-- whether a test is true can be decided
pub dec_true : (b : Bool) → Dec (b ≡ true)
dec_true true = yes refl
dec_true false = no (λ e. let z : false ≡ true = e in cc)

-- ---- counts

-- of how many in the list f is true
abbrev pub count : {A : Type 0} → (A → Bool) → List A → ℕ
count f [] = 0
count f (x ∷ xs) = cond (f x) 1 0 + count f xs

-- where f holds only if g does, and g also of something else in the list, more are counted by g
module _ {A : Type 0} (f g : A → Bool) (less : (x : A) → f x ≡ true → g x ≡ true) where
  at_most : (xs : List A) → count f xs ≤ count g xs
  at_most [] = omega arith
  at_most (x ∷ xs) = go (f x) (g x) refl refl (at_most xs)
    where
      go : (a b : Bool) → f x ≡ a → g x ≡ b → count f xs ≤ count g xs
          → count f (x ∷ xs) ≤ count g (x ∷ xs)
      go true false d e h = absurd (let z : true ≡ false = sym (less x d) ∙ e in cc)
      go a b d e h = rw (d, e) (omega arith)

  pub fewer : (xs : List A) (x : A) → Contains xs x → f x ≡ false → g x ≡ true → count f xs < count g xs
  fewer [] x c d e = absurd (omega (arith, c.1))
  fewer (y ∷ ys) x c d e = elim (contains_cases x y ys c) [
    | inl q ↦ let d' : f y ≡ false = ap f q ∙ d in let e' : g y ≡ true = ap g q ∙ e in
        let h = at_most ys in rw (d', e') (omega arith)
    | inr m ↦ more (f y) (g y) refl refl (fewer ys x m d e)
  ]
    where
      more : (a b : Bool) → f y ≡ a → g y ≡ b → count f ys < count g ys
          → count f (y ∷ ys) < count g (y ∷ ys)
      more true false p q h = absurd (let z : true ≡ false = sym (less y p) ∙ q in cc)
      more a b p q h = rw (p, q) (omega arith)

-- ---- exactly one

-- none of the items, so none of their places
none_over : {A : Type 0} (P : A → Type 0) (Q : ℕ → Type 0) (d : A) (ts : List A) (a : ℕ)
    → ((k : ℕ) → k < length ts → Q (a + k) → P (slice_index_or ts k d)) → NoneOf P ts
    → NoneOf Q (range_with_len a (length ts))
none_over P Q d [] a h o = tt
none_over P Q d (t ∷ ts) a h o = (
  λ q. o.0 (h 0 (omega arith) (subst Q (let z : a ≡ a + 0 = omega arith in z) q)),
  none_over P Q d ts (a + 1)
      (λ k l q. h (suc k) (omega arith) (subst Q (let z : a + 1 + k ≡ a + suc k = omega arith in z) q)) o.1,
)

-- none of the places, so none of the items
none_back : {A : Type 0} (P : A → Type 0) (Q : ℕ → Type 0) (d : A) (ts : List A) (a : ℕ)
    → ((k : ℕ) → k < length ts → P (slice_index_or ts k d) → Q (a + k)) → NoneOf Q (range_with_len a (length ts))
    → NoneOf P ts
none_back P Q d [] a h o = tt
none_back P Q d (t ∷ ts) a h o = (
  λ p. o.0 (subst Q (let z : a + 0 ≡ a = omega arith in z) (h 0 (omega arith) p)),
  none_back P Q d ts (a + 1)
      (λ k l p. subst Q (let z : a + suc k ≡ a + 1 + k = omega arith in z) (h (suc k) (omega arith) p)) o.1,
)

-- exactly one thing of a list, if exactly one of its places
pub one_at_places : {A : Type 0} (P : A → Type 0) (Q : ℕ → Type 0) (d : A) (ts : List A) (a : ℕ)
    → ((k : ℕ) → k < length ts → P (slice_index_or ts k d) ↔ Q (a + k))
    → ExactlyOne P ts ↔ ExactlyOne Q (range_with_len a (length ts))
one_at_places P Q d [] a h = (λ o. absurd o, λ o. absurd o)
one_at_places P Q d (t ∷ ts) a h = go (one_at_places P Q d ts (a + 1) next)
  where
    h0 : P t ↔ Q (a + 0)
    h0 = h 0 (omega arith)

    here : Q (a + 0) → Q a
    here q = subst Q (let z : a + 0 ≡ a = omega arith in z) q

    there : Q a → Q (a + 0)
    there q = subst Q (let z : a ≡ a + 0 = omega arith in z) q

    next : (k : ℕ) → k < length ts → P (slice_index_or ts k d) ↔ Q (a + 1 + k)
    next k l = let e : a + suc k ≡ a + 1 + k = omega arith in
        subst (λ w. P (slice_index_or ts k d) ↔ Q w) e (h (suc k) (omega arith))

    go : ExactlyOne P ts ↔ ExactlyOne Q (range_with_len (a + 1) (length ts))
        → ExactlyOne P (t ∷ ts) ↔ ExactlyOne Q (range_with_len a (length (t ∷ ts)))
    go rest = (
      λ o. elim o [
        | inl u ↦ inl (here (h0.0 u.0), none_over P Q d ts (a + 1) (λ k l q. (next k l).1 q) u.1)
        | inr u ↦ inr (λ q. u.0 (h0.1 (there q)), rest.0 u.1)
      ],
      λ o. elim o [
        | inl u ↦ inl (h0.1 (there u.0), none_back P Q d ts (a + 1) (λ k l p. (next k l).0 p) u.1)
        | inr u ↦ inr (λ p. u.0 (here (h0.0 p)), rest.1 u.1)
      ],
    )

-- of numbers below n the same hold
pub one_below : (P Q : ℕ → Type 0) (n : ℕ) → ((k : ℕ) → k < n → P k ↔ Q k)
    → ExactlyOne P (range_with_len 0 n) → ExactlyOne Q (range_with_len 0 n)
one_below P Q n h o = go 0 n (λ k l m. h k (omega arith)) o
  where
    none : (a m : ℕ) → ((k : ℕ) → a ≤ k → k < a + m → Q k → P k) → NoneOf P (range_with_len a m)
        → NoneOf Q (range_with_len a m)
    none a zero f u = tt
    none a (suc m) f u = (
      λ q. u.0 (f a (omega arith) (omega arith) q),
      none (a + 1) m (λ k l i. f k (omega arith) (omega arith)) u.1,
    )

    go : (a m : ℕ) → ((k : ℕ) → a ≤ k → k < a + m → P k ↔ Q k) → ExactlyOne P (range_with_len a m)
        → ExactlyOne Q (range_with_len a m)
    go a zero f u = absurd u
    go a (suc m) f (inl u) = inl (
      (f a (omega arith) (omega arith)).0 u.0,
      none (a + 1) m (λ k l i. (f k (omega arith) (omega arith)).1) u.1,
    )
    go a (suc m) f (inr u) = inr (
      λ q. u.0 ((f a (omega arith) (omega arith)).1 q),
      go (a + 1) m (λ k l i. f k (omega arith) (omega arith)) u.1,
    )
