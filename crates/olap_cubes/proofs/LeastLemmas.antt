-- The least of the elements of a list that have a property, in a total cases_order; and that lists of numbers have one.
--     not_after_itself, total, not_after_again   of lists of numbers
--     least_of                  the least of a list, or none has the property
use Rattle.std.proofs.{Common.{◌≡◌, ℕ, ◌<◌, List, [], ◌∷◌, sym, subst, ◌∙◌, inl, inr}, lemmas.Bool.cases_order}
use Rattle.std.specs.Prelude.{◌⊎◌, Contains}
use Rattle.olap_base.proofs.ListLemmas.{Contains-nil, contains_head}
use Rattle.olap_base.proofs.RankLemmas.{not_after_itself, not_after_both, not_after_again}
use Rattle.olap_base.specs.{Deciding.{contains_cases, contains_cons}, Ranks.IsNotAfter}
use Rattle.olap_cube.specs.Codes.{AreNotAfter}
use native.Mathlib.Decide.{ℕ_discrete}
use mathlib.Core.List.{List-discrete}

-- ---- lists of numbers

-- of two lists one comes not not_after_again the other
pub total : (xs ys : List ℕ) → IsNotAfter xs ys ⊎ IsNotAfter ys xs
total [] ys = inl tt
total (x ∷ xs) [] = inr tt
total (x ∷ xs) (y ∷ ys) = go (cases_order x y) (total xs ys)
  where
    go : (x ≡ y) ⊎ ((x < y) ⊎ (y < x)) → IsNotAfter xs ys ⊎ IsNotAfter ys xs
        → IsNotAfter (x ∷ xs) (y ∷ ys) ⊎ IsNotAfter (y ∷ ys) (x ∷ xs)
    go (inl e) (inl a) = inl (inr (e, a))
    go (inl e) (inr b) = inr (inr (sym e, b))
    go (inr (inl l)) r = inl (inl l)
    go (inr (inr l)) r = inr (inl l)

-- ---- lists of codes

-- of two lists of lists one comes not not_after_again the other
pub all_total : (xs ys : List (List ℕ)) → AreNotAfter xs ys ⊎ AreNotAfter ys xs
all_total [] ys = inl tt
all_total (x ∷ xs) [] = inr tt
all_total (x ∷ xs) (y ∷ ys) = go (List-discrete ℕ_discrete x y) (total x y) (all_total xs ys)
  where
    go : Dec (x ≡ y) → IsNotAfter x y ⊎ IsNotAfter y x → AreNotAfter xs ys ⊎ AreNotAfter ys xs
        → AreNotAfter (x ∷ xs) (y ∷ ys) ⊎ AreNotAfter (y ∷ ys) (x ∷ xs)
    go (yes e) t (inl a) = inl (subst (λ w. IsNotAfter x w) e (not_after_itself x), λ q. a)
    go (yes e) t (inr b) = inr (subst (λ w. IsNotAfter w x) e (not_after_itself x), λ q. b)
    go (no n) (inl a) r = inl (a, λ e. absurd (n e))
    go (no n) (inr b) r = inr (b, λ e. absurd (n (sym e)))

-- nor not_after_again what comes not_after_again that
pub all_after : (xs ys zs : List (List ℕ)) → AreNotAfter xs ys → AreNotAfter ys zs → AreNotAfter xs zs
all_after [] ys zs a b = tt
all_after (x ∷ xs) [] zs a b = absurd a
all_after (x ∷ xs) (y ∷ ys) [] a b = absurd b
all_after (x ∷ xs) (y ∷ ys) (z ∷ zs) a b = (not_after_again x y z a.0 b.0, rest (all_after xs ys zs))
  where
    rest : (AreNotAfter xs ys → AreNotAfter ys zs → AreNotAfter xs zs) → x ≡ z → AreNotAfter xs zs
    rest again e =
        let q : x ≡ y = not_after_both x y a.0 (subst (λ w. IsNotAfter y w) (sym e) b.0) in
        again (a.1 q) (b.1 (sym q ∙ e))

-- ---- the least of a list

module _ {X : Type 0} (R : X → X → Type 0) (tot : (x y : X) → R x y ⊎ R y x)
    (tra : (x y z : X) → R x y → R y z → R x z) (P : X → Type 0) where
  -- the least, or none has the property
  abbrev pub LeastOf : List X → Type 0
  LeastOf xs = ((x : X) × P x × ((y : X) → Contains xs y → P y → R x y)) ⊎ ((y : X) → Contains xs y → P y → ⊥)

  -- each comes not not_after_again itself
  itself : (x : X) → R x x
  itself x = elim (tot x x) [ inl a ↦ a | inr b ↦ b ]

  pub least_of : (xs : List X) → ((x : X) → Contains xs x → Dec (P x)) → LeastOf xs
  least_of [] d = inr (λ y c p. Contains-nil y c)
  least_of (x ∷ xs) d = go (d x (contains_head x xs)) (least_of xs (λ y c. d y (contains_cons y xs x c)))
    where
      each : (Q : X → Type 0) → Q x → ((y : X) → Contains xs y → Q y) → (y : X) → Contains (x ∷ xs) y → Q y
      each Q q f y c = elim (contains_cases y x xs c) [ inl e ↦ subst Q e q | inr h ↦ f y h ]

      here : P x → ((y : X) → Contains xs y → P y → R x y) → LeastOf (x ∷ xs)
      here p f = inl (x, p, each (λ y. P y → R x y) (λ q. itself x) f)

      go : Dec (P x) → LeastOf xs → LeastOf (x ∷ xs)
      go (yes p) (inr f) = here p (λ y c q. absurd (f y c q))
      go (no n) (inr f) = inr (each (λ y. P y → ⊥) n f)
      go (no n) (inl t) = inl (t.0, t.1, each (λ y. P y → R t.0 y) (λ q. absurd (n q)) t.2)
      go (yes p) (inl t) = elim (tot x t.0) [
        | inl a ↦ here p (λ y c q. tra x t.0 y a (t.2 y c q))
        | inr b ↦ inl (t.0, t.1, each (λ y. P y → R t.0 y) (λ q. b) t.2)
      ]
