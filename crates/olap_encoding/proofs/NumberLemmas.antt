-- A comparison with the name of an index, by the names of all indexes.
use Rattle.std.proofs.Common.{◌≡◌, ◌↔◌, ◌⊎◌, ◌∙◌, ℕ, ℤ, zero, suc, ◌+◌, ◌<◌, ◌≤◌, List, [], Bool, true, false, cond, not, length, get_or, refl, sym, ap, subst, inl, inr, arith}
use Rattle.std.{proofs.lemmas.List.get_or_default, specs.Prelude.IsTrue}
use Rattle.olap_numerals.specs.Comparing.{Op}
use Rattle.olap_ast.{proofs.Decided.dec_number, specs.Formula.IsNumbered, specs.Frozen.text_of_index}
use Rattle.olap_pool.specs.{Literals.{Holds, negation}, declared.literals.Lit.Lit}
use Rattle.olap_names.specs.Names.{others_of}
use Rattle.olap_encoding.proofs.{GivenLemmas.{known_negated, says_as}, LiteralLemmas.negated_is, TruthLemmas.any_iff}
use Rattle.olap_encoding.specs.{Encoding.{Encoding, IsKnown, NameIs, Says}, Formulas.{AmongIs, AnyIs, IsLeading, Wants}}
use Rattle.olap_encoding.specs.{Literals.{Valuation, never}, Meanings.index_of}
use Rattle.olap_base.proofs.GeneralLemmas.{below_or_same, iff_trans}
use mathlib.Core.Bool.{beq}

-- the index is that of one of the first k constants, which compares as it should
abbrev pub AmongAt : List (List ℕ) → ℕ → ℕ → Op → ℤ → Bool → Type 0
AmongAt texts i k op n want = (j : ℕ) × (j < k) × (i ≡ suc j) × Wants op n want (get_or texts j [])

-- what the literal is to say, by whether the first name compares so
abbrev pub Turned : Bool → Type 0 → Type 0
Turned true A = A → ⊥
Turned false A = A

module _ (first : List ℕ) (texts : List (List ℕ)) (op : Op) (n : ℤ) where
  other : (j : ℕ) → suc j ≤ length texts → text_of_index first texts (suc j) ≡ get_or texts j []
  other j h = get_or_default texts j first [] (omega arith)

  suc_is : (j k : ℕ) → suc j ≡ suc k → j ≡ k
  suc_is j k e = omega arith

  at_other : (i j : ℕ) → i ≤ length texts → i ≡ suc j → text_of_index first texts i ≡ get_or texts j []
  at_other zero j h e = absurd (omega arith)
  at_other (suc i) j h e = other i h ∙ ap (λ k. get_or texts k []) (suc_is i j e)

  -- the first name compares so: the name does, unless it is another that doesn't
  from_first : (i : ℕ) → i ≤ length texts → IsNumbered first op n
      → (AmongAt texts i (length texts) op n false → ⊥) ↔ IsNumbered (text_of_index first texts i) op n
  from_first zero h p = (λ m. p, λ p t. let e = t.2 in absurd (omega arith))
  from_first (suc i) h p = (
    λ m. go (dec_number (get_or texts i []) op n) m,
    λ q t. t.3 (subst (λ w. IsNumbered w op n) (at_other (suc i) t.0 h t.2) q),
  )
    where
      go : Dec (IsNumbered (get_or texts i []) op n) → (AmongAt texts (suc i) (length texts) op n false → ⊥)
          → IsNumbered (text_of_index first texts (suc i)) op n
      go (yes q) m = subst (λ w. IsNumbered w op n) (sym (other i h)) q
      go (no q) m = absurd (m (i, omega arith, refl, q))

  -- it doesn't: the name does where it is another that does
  from_others : (i : ℕ) → i ≤ length texts → (IsNumbered first op n → ⊥)
      → AmongAt texts i (length texts) op n true ↔ IsNumbered (text_of_index first texts i) op n
  from_others zero h f = (λ t. let e = t.2 in absurd (omega arith), λ q. absurd (f q))
  from_others (suc i) h f = (
    λ t. subst (λ w. IsNumbered w op n) (sym (at_other (suc i) t.0 h t.2)) t.3,
    λ q. (i, omega arith, refl, subst (λ w. IsNumbered w op n) (other i h) q),
  )

  -- the first does, and the first m others, and no more: the name does where its index is at most m
  pub number_leading : (m : ℕ) → IsNumbered first op n → IsLeading texts op n (length texts) m → (i : ℕ)
      → i ≤ length texts → (i ≤ m) ↔ IsNumbered (text_of_index first texts i) op n
  number_leading m p a zero h = (λ l. p, λ q. omega arith)
  number_leading m p a (suc i) h =
      let r = a i (omega arith) in (
        λ l. subst (λ w. IsNumbered w op n) (sym (other i h)) (r.1 (omega arith)),
        λ q. let l : i < m = r.0 (subst (λ w. IsNumbered w op n) (other i h) q) in omega arith,
      )

-- the index tells how the name compares: as the first, or as one of these
pub number_told : (first : List ℕ) (texts : List (List ℕ)) (i : ℕ) → i ≤ length texts → (op : Op) (n : ℤ) (b : Bool)
    → IsTrue b ↔ IsNumbered first op n → (P : Type 0) → P ↔ AmongAt texts i (length texts) op n (not b)
    → Turned b P ↔ IsNumbered (text_of_index first texts i) op n
number_told first texts i h op n true t P s = let r = from_first first texts op n i h (t.0 refl) in
    (λ m. r.0 (λ a. m (s.1 a)), λ q p. r.1 q (s.0 p))
number_told first texts i h op n false t P s =
    let r = from_others first texts op n i h (λ q. let z : false ≡ true = t.1 q in cc) in
    (λ p. r.0 (s.0 p), λ q. s.1 (r.1 q))

-- a literal that is turned says the same of what is turned
pub turned_is : (v : Valuation) (l : Lit) (b : Bool) (Q : Type 0) → Turned b (Holds v l) ↔ Q
    → Holds v (cond b (negation l) l) ↔ Q
turned_is v l true Q t = let m = negated_is v l in (λ i. t.0 (m.0 i), λ q. m.1 (t.1 q))
turned_is v l false Q t = t

-- ---- one place more

-- none of the first 0
pub among_none : (texts : List (List ℕ)) (i : ℕ) (op : Op) (n : ℤ) (want : Bool) → AmongAt texts i 0 op n want → ⊥
among_none texts i op n want t = let l = t.1 in absurd (omega arith)

-- one constant more that doesn't compare so
pub among_other : (texts : List (List ℕ)) (i k : ℕ) (op : Op) (n : ℤ) (want : Bool)
    → (Wants op n want (get_or texts k []) → ⊥)
    → AmongAt texts i k op n want ↔ AmongAt texts i (k + 1) op n want
among_other texts i k op n want f = (
  λ t. (t.0, (let l = t.1 in omega arith), t.2, t.3),
  λ t. elim (below_or_same t.0 k t.1) [
    | inl l ↦ (t.0, l, t.2, t.3)
    | inr e ↦ absurd (f (subst (λ j. Wants op n want (get_or texts j [])) e t.3))
  ],
)

-- one more that does
pub among_more : (texts : List (List ℕ)) (i k : ℕ) (op : Op) (n : ℤ) (want : Bool)
    → Wants op n want (get_or texts k [])
    → (AmongAt texts i k op n want ⊎ (i ≡ k + 1)) ↔ AmongAt texts i (k + 1) op n want
among_more texts i k op n want w = (
  λ t. elim t [
    | inl a ↦ (a.0, (let l = a.1 in omega arith), a.2, a.3)
    | inr e ↦ (k, omega arith, omega arith, w)
  ],
  λ t. elim (below_or_same t.0 k t.1) [
    | inl l ↦ inl (t.0, l, t.2, t.3)
    | inr e ↦ inr (let q = t.2 in omega arith)
  ],
)

-- ---- the first names

module _ (names : List (List ℕ)) (op : Op) (n : ℤ) where
  pub leading_none : IsLeading names op n 0 0
  leading_none j h = absurd (omega arith)

  pub leading_here : (k m : ℕ) → IsLeading names op n k m → k ≤ m → m ≤ k → IsNumbered (get_or names k []) op n
      → IsLeading names op n (k + 1) (m + 1)
  leading_here k m a l o p j h = elim (below_or_same j k h) [
    | inl i ↦ (λ q. omega arith, λ q. (a j i).1 (omega arith))
    | inr e ↦ (λ q. omega arith, λ q. subst (λ i. IsNumbered (get_or names i []) op n) (sym e) p)
  ]

  pub leading_other : (k m : ℕ) → IsLeading names op n k m → m ≤ k → (IsNumbered (get_or names k []) op n → ⊥)
      → IsLeading names op n (k + 1) m
  leading_other k m a l f j h = elim (below_or_same j k h) [
    | inl i ↦ a j i
    | inr e ↦ (
      λ q. absurd (f (subst (λ i. IsNumbered (get_or names i []) op n) e q)),
      λ q. absurd (omega arith),
    )
  ]

-- ---- the tests of names

-- the test of a name says whether it compares as it should
pub wanted_is : (name : List ℕ) (op : Op) (n : ℤ) (r want : Bool) → IsTrue r ↔ IsNumbered name op n
    → IsTrue (beq r want) ↔ Wants op n want name
wanted_is name op n true true t = (λ z. t.0 refl, λ p. refl)
wanted_is name op n true false t = (λ z. let y : false ≡ true = z in cc, λ f. absurd (f (t.0 refl)))
wanted_is name op n false true t = (λ z. let y : false ≡ true = z in cc, λ p. let y : false ≡ true = t.1 p in cc)
wanted_is name op n false false t = (λ z p. let y : false ≡ true = t.1 p in cc, λ f. refl)

-- ---- what the literals say

module _ (e : Encoding) (d j : ℕ) (op : Op) (n : ℤ) (want : Bool) where
  pub says_none : Says e never (λ p f v. ⊥) → Says e never (AmongIs d 0 op n want)
  says_none x = says_as e never x (λ f v h. (
    λ k. absurd k,
    λ a. absurd (among_none (others_of e.question.candidates d) (index_of f d) op n want a),
  ))

  pub says_other : (l : Lit) → Says e l (AmongIs d j op n want)
      → (Wants op n want (get_or (others_of e.question.candidates d) j []) → ⊥) → Says e l (AmongIs d (j + 1) op n want)
  says_other l x w = says_as e l x
      (λ f v h. among_other (others_of e.question.candidates d) (index_of f d) j op n want w)

  pub says_more : (l b o : Lit) → Says e l (AmongIs d j op n want) → Says e b (NameIs d (j + 1)) → Says e o (AnyIs l b)
      → Wants op n want (get_or (others_of e.question.candidates d) j []) → Says e o (AmongIs d (j + 1) op n want)
  says_more l b o x y z w = says_as e o z (λ f v h. iff_trans (any_iff (x.exactly f v h) (y.exactly f v h))
      (among_more (others_of e.question.candidates d) (index_of f d) j op n want w))

-- a literal that is turned is known
pub known_turned : (e : Encoding) (l k : Lit) (b : Bool) → k ≡ cond b (negation l) l → IsKnown e l → IsKnown e k
known_turned e l k true q h = known_negated e l k q h
known_turned e l k false q h = subst (λ i. IsKnown e i) (sym q) h
