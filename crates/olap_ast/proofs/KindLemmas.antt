-- What is alike for the atoms on names and the atoms on numbers: those of one kind among all.
--     Kind             the atoms of a kind
--     kept, back       an atom among all is among those of its kind, and back
--     kind_folded      the distinct ones of a kind are those among the distinct ones
--     from_on, to_on   what those on a category hold
use Rattle.std.proofs.Common.{◌≡◌, ◌∙◌, ℕ, List, [], ◌∷◌, ◌++◌, Bool, true, false, cond, ◌||◌, Option, Some, None, append-nil, map, fold, refl, ap, subst, inl, inr}
use Rattle.std.proofs.lemmas.{Bool.{eq-eqb, eqb-true}, List.Elements.filter_map-append}
use Rattle.std.specs.{List.{cons_option, list_any}, Prelude.{◌==◌, Contains, filter, filter_map}}
use Rattle.olap_base.proofs.ListLemmas.{Contains-filter, Contains-from_filter, Contains-from_map, Contains-map, Contains-nil, contains_head}
use Rattle.olap_base.specs.Deciding.{contains_cases, contains_cons}
use Rattle.olap_ast.specs.{Formula.Compared, Valid.{is_same_atom, with_new}}

-- whether the atom is there, and the test passes it
abbrev pub passes : {A : Type 0} → (A → Bool) → Option A → Bool
passes test None = false
passes test (Some a) = test a

-- the atoms of a kind, as they stand among all, and when two of them are the same
pub record Kind (A : Type 0) : Type 0 where
  pub of : Compared → Option A
  pub atom : A → Compared
  pub same : A → A → Bool
  pub of_atom : (a : A) → of (atom a) ≡ Some a
  pub only : (u : Compared) (a : A) → of u ≡ Some a → u ≡ atom a
  pub alike : (a : A) (u : Compared) → is_same_atom (atom a) u ≡ passes (same a) (of u)

module _ {A : Type 0} (k : Kind A) where
  -- those of the kind among the atoms
  abbrev pub of_kind : List Compared → List A
  of_kind us = filter_map k.of us

  -- an atom of the kind among all is among those of the kind
  pub kept : (us : List Compared) (a : A) → Contains us (k.atom a) → Contains (of_kind us) a
  kept [] a c = absurd (Contains-nil (k.atom a) c)
  kept (u ∷ us) a c = elim (contains_cases (k.atom a) u us c) [
    | inl e ↦ rw (ap k.of e ∙ k.of_atom a) (contains_head a (of_kind us))
    | inr h ↦ later (k.of u) (kept us a h)
  ]
    where
      later : (o : Option A) → Contains (of_kind us) a → Contains (cons_option o (of_kind us)) a
      later None h = h
      later (Some b) h = contains_cons a (of_kind us) b h

  -- and back
  pub back : (us : List Compared) (a : A) → Contains (of_kind us) a → Contains us (k.atom a)
  back [] a c = absurd (Contains-nil a c)
  back (u ∷ us) a c = go (k.of u) refl c (back us a)
    where
      go : (o : Option A) → k.of u ≡ o → Contains (cons_option o (of_kind us)) a
          → (Contains (of_kind us) a → Contains us (k.atom a)) → Contains (u ∷ us) (k.atom a)
      go None e c rest = contains_cons (k.atom a) us u (rest c)
      go (Some b) e c rest = elim (contains_cases a b (of_kind us) c) [
        | inl q ↦ subst (Contains (u ∷ us)) (k.only u a (e ∙ ap (λ x. Some x) q)) (contains_head u us)
        | inr h ↦ contains_cons (k.atom a) us u (rest h)
      ]

  -- ---- counting

  -- an atom of the kind is new among all exactly if it is among those of the kind
  is_new : (a : A) (us : List Compared)
      → list_any (is_same_atom (k.atom a)) us ≡ list_any (k.same a) (of_kind us)
  is_new a [] = refl
  is_new a (u ∷ us) = (λ i. k.alike a u i || is_new a us i) ∙ go (k.of u)
    where
      go : (o : Option A) → passes (k.same a) o || list_any (k.same a) (of_kind us)
          ≡ list_any (k.same a) (cons_option o (of_kind us))
      go None = refl
      go o = refl

  -- one atom more
  pushed : (b : Bool) (xs : List Compared) (u : Compared)
      → of_kind (cond b xs (xs ++ u ∷ [])) ≡ cond b (of_kind xs) (of_kind xs ++ cons_option (k.of u) [])
  pushed true xs u = refl
  pushed false xs u = filter_map-append k.of xs (u ∷ [])

  -- an atom is added to those of the kind, if it is of the kind
  added : (xs : List Compared) (u : Compared) (o : Option A) → k.of u ≡ o
      → of_kind (with_new is_same_atom xs u) ≡ fold (with_new k.same) (of_kind xs) (cons_option o [])
  added xs u None e = pushed (list_any (is_same_atom u) xs) xs u
      ∙ ap (λ o. cond (list_any (is_same_atom u) xs) (of_kind xs) (of_kind xs ++ cons_option o [])) e
      ∙ none (list_any (is_same_atom u) xs)
    where
      none : (b : Bool) → cond b (of_kind xs) (of_kind xs ++ []) ≡ of_kind xs
      none true = refl
      none false = append-nil (of_kind xs)
  added xs u (Some a) e = pushed (list_any (is_same_atom u) xs) xs u
      ∙ (λ i. cond (new i) (of_kind xs) (of_kind xs ++ cons_option (e i) []))
    where
      new : list_any (is_same_atom u) xs ≡ list_any (k.same a) (of_kind xs)
      new = ap (λ v. list_any (is_same_atom v) xs) (k.only u a e) ∙ is_new a xs

  -- the distinct ones of the kind are those among the distinct ones
  pub kind_folded : (us xs : List Compared)
      → of_kind (fold (with_new is_same_atom) xs us) ≡ fold (with_new k.same) (of_kind xs) (of_kind us)
  kind_folded [] xs = refl
  kind_folded (u ∷ us) xs = kind_folded us (with_new is_same_atom xs u)
      ∙ ap (λ bs. fold (with_new k.same) bs (of_kind us)) (added xs u (k.of u) refl) ∙ go (k.of u)
    where
      go : (o : Option A) → fold (with_new k.same) (fold (with_new k.same) (of_kind xs) (cons_option o [])) (of_kind us)
          ≡ fold (with_new k.same) (of_kind xs) (cons_option o (of_kind us))
      go None = refl
      go o = refl

-- ---- atoms on a category

module _ {A B : Type 0} (category : A → ℕ) (part : A → B) where
  -- a part of one of those on a category comes from one of which it is
  pub from_on : (make : ℕ → B → A) → ((a : A) → a ≡ make (category a) (part a)) → (d : ℕ) (xs : List A) (b : B)
      → Contains (map part (filter (λ a. category a == d) xs)) b → Contains xs (make d b)
  from_on make whole d xs b c =
      let t = Contains-from_map part (filter (λ a. category a == d) xs) b c in
      let u = Contains-from_filter (λ a. category a == d) xs t.0 t.1 in
      subst (Contains xs) (whole t.0 ∙ (λ i. make (eqb-true (category t.0) d u.1 i) (t.2 i))) u.0

  -- and back
  pub to_on : (xs : List A) (a : A) → Contains xs a
      → Contains (map part (filter (λ b. category b == category a) xs)) (part a)
  to_on xs a c = Contains-map part (filter (λ b. category b == category a) xs) a
      (Contains-filter (λ b. category b == category a) xs a (eq-eqb (category a) (category a) refl) c)
