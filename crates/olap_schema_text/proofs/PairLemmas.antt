-- Tests over what the stored pairs stand for.
use Rattle.std.proofs.Common.{◌≡◌, ℕ, ℤ, ◌||◌, Bool, true, false, List, [], ◌∷◌, ◌++◌, map, refl, ap, subst, ◌∙◌, sym}
use Rattle.std.{proofs.lemmas.List.map-append, proofs.lemmas.List.Sums.fold-append, specs.List.{fold, list_any}}
use Rattle.std.specs.Prelude.{Result, Ok, Err, OnOk}
use Rattle.olap_ast.specs.{Atoms.{Comparison, Equality}, Pairs.{is_same_number, is_same_pair, with_number, with_pair}}
use Rattle.olap_ast.specs.Valid.{with_new}
use Rattle.olap_schema_text.specs.{Reading.{number_pair_of, pair_of}, declared.pairing.NumberPair.NumberPair}
use Rattle.olap_schema_text.specs.declared.pairing.Pair.{Pair}

module _ (P A : Type 0) (view : P → A) (same : A → A → Bool) where
  list_any-map : (t : A → Bool) (ps : List P) → list_any t (map view ps) ≡ list_any (λ p. t (view p)) ps
  list_any-map t [] = refl
  list_any-map t (p ∷ ps) = ap (λ b. t (view p) || b) (list_any-map t ps)

  -- a pair that is there adds nothing
  has_it : (ps : List P) (a : A) → list_any (λ p. same a (view p)) ps ≡ true
      → map view ps ≡ with_new same (map view ps) a
  has_it ps a h = rw (list_any-map (same a) ps, h) refl

  -- another one stands at the end
  lacks_it : (ps : List P) (p : P) (a : A) → view p ≡ a → list_any (λ p. same a (view p)) ps ≡ false
      → map view (ps ++ p ∷ []) ≡ with_new same (map view ps) a
  lacks_it ps p a e h = rw (list_any-map (same a) ps, h, map-append view ps (p ∷ []))
      (ap (λ x. map view ps ++ x ∷ []) e)

-- ---- the same, in the words of the code

-- a pair of a category and a text
abbrev pub atom : ℕ → List ℕ → Equality
atom d text = record { category = d; text = text }

-- a pair that was found stays the one that it is
pub found_pair : (ps qs : List Pair) (d : ℕ) (t u : List ℕ) (r : Bool) → qs ≡ ps → u ≡ t →
    r ≡ list_any (λ p. is_same_pair (atom d u) (pair_of p)) qs → r ≡ true →
    map pair_of ps ≡ with_pair (map pair_of ps) (atom d t)
found_pair ps qs d t u r e f h k = has_it Pair Equality pair_of is_same_pair ps (atom d t) (sym (rw (e, f) at h) ∙ k)

-- one that wasn't is put after the others
pub new_pair : (ps qs vs : List Pair) (d : ℕ) (t u : List ℕ) (r : Bool) (p : Pair) → qs ≡ ps → u ≡ t →
    r ≡ list_any (λ p. is_same_pair (atom d u) (pair_of p)) qs → r ≡ false → pair_of p ≡ atom d t → vs ≡ ps ++ p ∷ [] →
    map pair_of vs ≡ with_pair (map pair_of ps) (atom d t)
new_pair ps qs vs d t u r p e f h k l m =
    rw m (lacks_it Pair Equality pair_of is_same_pair ps p (atom d t) l (sym (rw (e, f) at h) ∙ k))

-- a pair of a category and a number
abbrev pub number_atom : ℕ → ℤ → Comparison
number_atom d n = record { category = d; number = n }

-- the same of numbers
pub found_number : (ps qs : List NumberPair) (d : ℕ) (m n : ℤ) (r : Bool) → qs ≡ ps → m ≡ n →
    r ≡ list_any (λ p. is_same_number (number_atom d m) (number_pair_of p)) qs → r ≡ true →
    map number_pair_of ps ≡ with_number (map number_pair_of ps) (number_atom d n)
found_number ps qs d m n r e f h k =
    has_it NumberPair Comparison number_pair_of is_same_number ps (number_atom d n) (sym (rw (e, f) at h) ∙ k)

-- the same of numbers
pub new_number : (ps qs vs : List NumberPair) (d : ℕ) (m n : ℤ) (r : Bool) (p : NumberPair) → qs ≡ ps → m ≡ n →
    r ≡ list_any (λ p. is_same_number (number_atom d m) (number_pair_of p)) qs → r ≡ false →
    number_pair_of p ≡ number_atom d n → vs ≡ ps ++ p ∷ [] →
    map number_pair_of vs ≡ with_number (map number_pair_of ps) (number_atom d n)
new_number ps qs vs d m n r p e f h k l t =
    rw t (lacks_it NumberPair Comparison number_pair_of is_same_number ps p (number_atom d n) l
    (sym (rw (e, f) at h) ∙ k))

-- ---- the atoms of a formula

-- what is added of some atoms is added of the same atoms
pub same_atoms : {X A E : Type 0} (r : Result (Unit {0}) E) (f : List A → X → List A) (old new : List A)
    {us vs : List X} → us ≡ vs → OnOk r (new ≡ fold f old us) → OnOk r (new ≡ fold f old vs)
same_atoms r f old new e p = subst (λ ws. OnOk r (new ≡ fold f old ws)) e p

-- the atoms of two parts are added one after the other
pub both_added : {X A E : Type 0} (r : Result (Unit {0}) E) (f : List A → X → List A) (old mid new : List A)
    (us vs all : List X) → us ++ vs ≡ all → mid ≡ fold f old us → OnOk r (new ≡ fold f mid vs)
    → OnOk r (new ≡ fold f old all)
both_added (Err e) f old mid new us vs all p q s = tt
both_added (Ok u) f old mid new us vs all p q s =
    s ∙ ap (λ m. fold f m vs) q ∙ sym (fold-append f old us vs) ∙ ap (fold f old) p

-- where some atoms of a list are added, the others are still to be
pub rest_added : {X A : Type 0} (f : List A → X → List A) (old new all : List A) (us vs : List X)
    → fold f old (us ++ vs) ≡ all → new ≡ fold f old us → fold f new vs ≡ all
rest_added f old new all us vs e n = ap (λ m. fold f m vs) n ∙ sym (fold-append f old us vs) ∙ e
