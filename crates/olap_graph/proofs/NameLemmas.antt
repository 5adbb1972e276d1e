-- The reserved words, one test after another.
use Rattle.std.proofs.Common.{◌≡◌, ℕ, Bool, true, false, List, [], ◌∷◌, sym, refl, inl, inr, arith}
use Rattle.std.{proofs.lemmas.Slice.Eq.bytes_eq-Decides, specs.Prelude.{◌↔◌, ◌||◌, Contains, IsTrue, codes}}
use Rattle.std.specs.Str.{bytes_eq}
use Rattle.olap_base.{proofs.ListLemmas.Contains-nil, specs.Deciding.{contains_cases, contains_cons}}
use Rattle.olap_base.specs.Graph.{reserved}

-- a word is among some and one more if it is that one, or among them
one_more : (x w : List ℕ) (xs : List (List ℕ)) (b r : Bool) → b ≡ bytes_eq w x → IsTrue r ↔ Contains xs w
    → IsTrue (b || r) ↔ Contains (x ∷ xs) w
one_more x w xs true r e i = (λ h. (0, omega arith, sym ((bytes_eq-Decides w x).0 (sym e))), λ c. refl)
one_more x w xs false r e i = (
  λ h. contains_cons w xs x (i.0 h),
  λ c. elim (contains_cases w x xs c) [
    | inl q ↦ absurd (let t = (bytes_eq-Decides w x).1 (sym q) in cc)
    | inr k ↦ i.1 k
  ],
)

-- it is among one if it is that one
last : (x w : List ℕ) (b : Bool) → b ≡ bytes_eq w x → IsTrue b ↔ Contains (x ∷ []) w
last x w true e = (λ h. (0, omega arith, sym ((bytes_eq-Decides w x).0 (sym e))), λ c. refl)
last x w false e = (
  λ h. absurd (cc),
  λ c. elim (contains_cases w x [] c) [
    | inl q ↦ absurd (let t = (bytes_eq-Decides w x).1 (sym q) in cc)
    | inr k ↦ absurd (Contains-nil w k)
  ],
)

-- tests one after another, from the left and from the right
regroup : (a b c d : Bool) → (a || b || c || d) ≡ (a || (b || (c || d)))
regroup true b c d = refl
regroup false true c d = refl
regroup false false true d = refl
regroup false false false d = refl

-- it is reserved if it is one of the four
by_tests : (w : List ℕ) (t f o a : Bool) → t ≡ bytes_eq w (codes "true") → f ≡ bytes_eq w (codes "false")
    → o ≡ bytes_eq w (codes "one") → a ≡ bytes_eq w (codes "all") → IsTrue (t || f || o || a) ↔ Contains reserved w
by_tests w t f o a p q r s =
    rw (regroup t f o a)
    (one_more (codes "true") w (codes "false" ∷ codes "one" ∷ codes "all" ∷ []) t _ p
    (one_more (codes "false") w (codes "one" ∷ codes "all" ∷ []) f _ q
    (one_more (codes "one") w (codes "all" ∷ []) o _ r (last (codes "all") w a s))))

-- so is what a test finds that asks for each of them
pub reserved_is : (w : List ℕ) (b : Bool)
    → b ≡ (bytes_eq w (codes "true") || bytes_eq w (codes "false")
    || bytes_eq w (codes "one") || bytes_eq w (codes "all"))
    → IsTrue b ↔ Contains reserved w
reserved_is w b e = rw e (by_tests w _ _ _ _ refl refl refl refl)
