-- The new name of a member answers each atom of the constraints and of the question as its name does.
use Rattle.std.proofs.Common.{◌≡◌, ◌∙◌, ◌↔◌, ℕ, ℤ, pos, List, Bool, true, false, cond, ◌||◌, Option, Some, None, refl, ap, sym, subst, inl, inr, arith}
use Rattle.std.{proofs.lemmas.Bool.Decides.nat_tests, specs.Prelude.{◌==◌, ◌≢◌, IsSome, IsTrue, unwrap_or}}
use Rattle.olap_base.specs.Graph.{is_number}
use Rattle.olap_numerals.proofs.{ComparingLemmas.of_number, NumeralLemmas.{numbers_read_back, spelled_small}}
use Rattle.olap_numerals.{proofs.RepresentativeLemmas.representatives_answer_alike, specs.Comparing.Op}
use Rattle.olap_numerals.specs.Numerals.{canonical, number_of}
use Rattle.olap_numerals.specs.Representatives.{AreSmall, IsNumberName, representative}
use Rattle.olap_ast.proofs.ComparedLemmas.{constant_number, constant_text, number_constant, text_constant}
use Rattle.olap_ast.specs.Atoms.{is_constant, is_constant_is}
use Rattle.olap_ast.specs.Constants.{HasKinds, IsConstant, IsFreshName, IsNameOf, new_name, new_numeral, numbers}
use Rattle.olap_ast.specs.{Formula.{Constant.ANumber, Constant.AText, Formula, IsNumbered}, Schema.Schema}

-- a text that spells a number, and which
pub spelled : (name : List ℕ) → IsSome (number_of name) → (a : ℤ) × (number_of name ≡ Some a)
spelled name h = go (number_of name) refl h
  where
    go : (o : Option ℤ) → number_of name ≡ o → IsSome o → (a : ℤ) × (number_of name ≡ Some a)
    go None e h = absurd (cc)
    go (Some a) e h = (a, e)

-- whether a text is a constant
is_constant_of : (s : Schema) (q : Formula) (d : ℕ) (text : List ℕ) →
    IsTrue (is_constant s q d text) ↔ IsConstant s q d (AText text)
is_constant_of s q d text =
    let t = is_constant_is s q d text in
    (λ b. text_constant s q d text (t.0 b), λ c. t.1 (constant_text s q d text c))

module _ (s : Schema) (q : Formula) (fresh : List ℕ) (kinds : HasKinds s q) (free : (d : ℕ)
    → IsConstant s q d (AText fresh) → ⊥) (d : ℕ) where
  -- the numbers of the category are within the bounds
  small : AreSmall (numbers s q d)
  small n c = (kinds.numbers d n (number_constant s q d n c)).1

  -- ---- a number category's member

  -- the number whose numeral is the new name
  new_number : ℤ → ℤ
  new_number a = representative (numbers s q d) a

  -- the new name is its numeral
  numeral_is : (name : List ℕ) (a : ℤ) → number_of name ≡ Some a → new_numeral s q d name ≡ canonical (new_number a)
  unfolding new_number
  numeral_is name a e = ap (λ o. canonical (representative (numbers s q d) (unwrap_or o (pos 0)))) e

  -- and that number is one of those that names are made of
  stands : (name : List ℕ) (a : ℤ) → number_of name ≡ Some a → IsNumberName (numbers s q d) (new_number a)
  unfolding new_number
  stands name a e = (representatives_answer_alike (numbers s q d) a small (spelled_small name a e)).0

  -- the new name spells the new number
  numeral_spells : (name : List ℕ) (a : ℤ) → number_of name ≡ Some a
      → number_of (new_numeral s q d name) ≡ Some (new_number a)
  numeral_spells name a e =
      ap number_of (numeral_is name a e) ∙ numbers_read_back (new_number a) (stands name a e).0

  -- and answers each comparison that is asked for as the old one does
  numeral_answers : (name : List ℕ) (a : ℤ) → number_of name ≡ Some a → (op : Op) (n : ℤ)
      → IsConstant s q d (ANumber n) → IsNumbered (new_numeral s q d name) op n ↔ IsNumbered name op n
  unfolding new_number
  numeral_answers name a e op n c =
      let alike = (representatives_answer_alike (numbers s q d) a small (spelled_small name a e)).1 op n
      (constant_number s q d n c) in
      let same = of_number (new_numeral s q d name) op n (new_number a) (numeral_spells name a e) ∙ alike
      ∙ sym (of_number name op n a e) in
      (λ t. sym same ∙ t, λ t. same ∙ t)

  -- ---- the new name

  -- the new name answers each text that is asked for as the name does
  pub new_text : (name text : List ℕ) → IsConstant s q d (AText text) →
      (new_name s q fresh d name ≡ text) ↔ (name ≡ text)
  new_text name text t = go (is_number s.graph d) (kinds.texts d text t) (d == 0) (is_constant s q d name)
      (is_constant_of s q d name)
    where
      go : (m : Bool) → m ≡ false → (a b : Bool) → IsTrue b ↔ IsConstant s q d (AText name)
          → (cond m (new_numeral s q d name) (cond (a || b) name fresh) ≡ text) ↔ (name ≡ text)
      go true e a b t' = absurd (cc)
      go false e false false t' = (
        λ e. absurd (free d (subst (λ w. IsConstant s q d (AText w)) (sym e) t)),
        λ e. absurd (let z : false ≡ true = t'.1 (subst (λ w. IsConstant s q d (AText w)) (sym e) t) in cc),
      )
      go m e a b t' = (λ e. e, λ e. e)

  -- and each comparison that is asked for
  pub new_numbered : (name : List ℕ) (op : Op) (n : ℤ) → IsConstant s q d (ANumber n)
      → (IsTrue (is_number s.graph d) → IsSome (number_of name))
      → IsNumbered (new_name s q fresh d name) op n ↔ IsNumbered name op n
  new_numbered name op n c h = go (is_number s.graph d) (kinds.numbers d n c).0 h
    where
      go : (m : Bool) → m ≡ true → (IsTrue m → IsSome (number_of name))
          → IsNumbered (cond m (new_numeral s q d name) (cond ((d == 0) || is_constant s q d name) name fresh)) op n
          ↔ IsNumbered name op n
      go false e h = absurd (cc)
      go true e h = let t = spelled name (h refl) in numeral_answers name t.0 t.1 op n c

  -- a number category's new name is a numeral
  pub new_spells : (name : List ℕ) → IsTrue (is_number s.graph d) → IsSome (number_of name)
      → IsSome (number_of (new_name s q fresh d name))
  new_spells name m h = go (is_number s.graph d) m
    where
      go : (m : Bool) → IsTrue m
          → IsSome (number_of (cond m (new_numeral s q d name) (cond ((d == 0) || is_constant s q d name) name fresh)))
      go false e = absurd (cc)
      go true e = let t = spelled name h in subst (λ o. IsSome o) (sym (numeral_spells name t.0 t.1)) refl

  -- a declared category's new name is a name of its own
  pub new_known : IsFreshName s q fresh → d ≢ 0 → (name : List ℕ)
      → (IsTrue (is_number s.graph d) → IsSome (number_of name))
      → IsNameOf (is_number s.graph d) s q d (new_name s q fresh d name)
  new_known f z name h = go (is_number s.graph d) h (d == 0) (zero_is (d == 0) refl) (is_constant s q d name)
      (is_constant_of s q d name)
    where
      zero_is : (a : Bool) → d == 0 ≡ a → a ≡ false
      zero_is false e = refl
      zero_is true e = absurd (z (same d e))
        where
          same : (d : ℕ) → d == 0 ≡ true → d ≡ 0
          same d e = grind (arith, nat_tests)

      go : (m : Bool) → (IsTrue m → IsSome (number_of name)) → (a : Bool) → a ≡ false → (b : Bool)
          → IsTrue b ↔ IsConstant s q d (AText name)
          → IsNameOf m s q d (cond m (new_numeral s q d name) (cond (a || b) name fresh))
      go true h a e b t = let u = spelled name (h refl) in
          (new_number u.0, stands name u.0 u.1, numeral_is name u.0 u.1)
      go false h true e b t = absurd (cc)
      go false h false e true t = inl (t.0 refl)
      go false h false e false t = inr f

  -- the name of `all` stays
  pub new_all : d ≡ 0 → (name : List ℕ) → new_name s q fresh d name ≡ name
  new_all z name = go (is_number s.graph d) (ap (is_number s.graph) z) (d == 0) (test d z)
    where
      test : (n : ℕ) → n ≡ 0 → (n == 0) ≡ true
      test n e = grind (arith, nat_tests)

      go : (m : Bool) → m ≡ false → (b : Bool) → b ≡ true
          → cond m (new_numeral s q d name) (cond (b || is_constant s q d name) name fresh) ≡ name
      go false e true t = refl
      go m e b t = absurd (cc)
