-- What stands in a list after a number, and one more or one less, was entered.
use Rattle.std.proofs.Common.{◌≡◌, ◌∙◌, ◌↔◌, ◌⊎◌, ◌++◌, ℤ, pos, negsuc, neg_ℤ, List, [], ◌∷◌, refl, sym, ap, subst, inl, inr, arith, ◌<ℤ◌, ◌+ℤ◌}
use Rattle.std.proofs.lemmas.Int.{ints}
use Rattle.std.proofs.lemmas.List.Elements.{Contains-append_left, Contains-append_right, Contains-append_cases}
use Rattle.std.specs.{Int.int_min, Prelude.{Contains, Some, fold}}
use Rattle.olap_base.{proofs.ListLemmas.{contains_head, Contains-nil}, specs.Deciding.contains_cases}
use Rattle.olap_numerals.proofs.RepresentativeLemmas.{both_ways, least_is, zero_small}
use Rattle.olap_numerals.specs.Numerals.{IsSmall, most_number}
use Rattle.olap_numerals.specs.Representatives.{AreSmall, IsLastNear, IsNumberName, IsUpTo, least}

-- a constant stands for itself
up_to_self : (n : ℤ) → IsSmall n → IsUpTo (n ∷ []) n
up_to_self n s = (s, inl (contains_head n []))

-- and the number after it for those up to the next constant
up_to_next : (n : ℤ) → IsSmall (n +ℤ pos 1) → IsUpTo (n ∷ []) (n +ℤ pos 1)
up_to_next n s = (s, inr (n, contains_head n [], refl))

-- there are no others
up_to_cases : (n a : ℤ) → IsUpTo (n ∷ []) a → (n ≡ a) ⊎ (a ≡ n +ℤ pos 1)
up_to_cases n a (s, inl c) = elim (contains_cases a n [] c) [ inl e ↦ inl e | inr d ↦ absurd (Contains-nil a d) ]
up_to_cases n a (s, inr (m, c, e)) = elim (contains_cases m n [] c) [
  | inl q ↦ inr (e ∙ ap (λ z. z +ℤ pos 1) (sym q))
  | inr d ↦ absurd (Contains-nil m d)
]

-- what was pushed is in the list
one_in : (xs : List ℤ) (n a : ℤ) → n ≡ a → Contains (xs ++ n ∷ []) a
one_in xs n a e = subst (λ z. Contains (xs ++ n ∷ []) z) e (Contains-append_right xs (n ∷ []) n (contains_head n []))

-- what is in the list was there, or was pushed
one_cases : (xs : List ℤ) (n a : ℤ) → Contains (xs ++ n ∷ []) a → Contains xs a ⊎ (n ≡ a)
one_cases xs n a c = elim (Contains-append_cases xs (n ∷ []) a c) [
  | inl d ↦ inl d
  | inr d ↦ elim (contains_cases a n [] d) [ inl e ↦ inr e | inr k ↦ absurd (Contains-nil a k) ]
]

-- a constant and the number after it were entered
pub entered_two : (xs : List ℤ) (n : ℤ) → IsSmall n → n <ℤ pos most_number → (a : ℤ) →
    Contains ((xs ++ n ∷ []) ++ (n +ℤ pos 1) ∷ []) a ↔ (Contains xs a ⊎ IsUpTo (n ∷ []) a)
entered_two xs n s m a =
    let t : IsSmall (n +ℤ pos 1) = (omega (arith, ints, s.0), omega (arith, ints, m)) in (
      λ c. elim (one_cases (xs ++ n ∷ []) (n +ℤ pos 1) a c) [
        | inl d ↦ elim (one_cases xs n a d) [ inl k ↦ inl k | inr e ↦ inr (subst (IsUpTo (n ∷ [])) e (up_to_self n s)) ]
        | inr e ↦ inr (subst (IsUpTo (n ∷ [])) e (up_to_next n t))
      ],
      λ h. elim h [
        | inl d ↦ Contains-append_left (xs ++ n ∷ []) ((n +ℤ pos 1) ∷ []) a (Contains-append_left xs (n ∷ []) a d)
        | inr u ↦ elim (up_to_cases n a u) [
          | inl e ↦ Contains-append_left (xs ++ n ∷ []) ((n +ℤ pos 1) ∷ []) a (one_in xs n a e)
          | inr e ↦ one_in (xs ++ n ∷ []) (n +ℤ pos 1) a (sym e)
        ]
      ],
    )

-- the number below the least was entered
pub entered_less : (xs : List ℤ) (n : ℤ) → IsSmall n → neg_ℤ (pos most_number) <ℤ n → (a : ℤ) →
    Contains (xs ++ (n +ℤ negsuc 0) ∷ []) a ↔ (Contains xs a ⊎ IsLastNear (Some n) a)
entered_less xs n s m a =
    let t : IsSmall (n +ℤ negsuc 0) = (omega (arith, ints, m), omega (arith, ints, s.1)) in (
      λ c. elim (one_cases xs (n +ℤ negsuc 0) a c) [ inl d ↦ inl d | inr e ↦ inr (subst IsSmall e t, sym e) ],
      λ h. elim h [
        | inl d ↦ Contains-append_left xs ((n +ℤ negsuc 0) ∷ []) a d
        | inr u ↦ one_in xs (n +ℤ negsuc 0) a (sym u.1)
      ],
    )

-- ---- over the constants

-- the least constant is within the bounds
pub least_small : (ns : List ℤ) → AreSmall ns → (n : ℤ) → least ns ≡ Some n → IsSmall n
least_small [] h n e = absurd (cc)
least_small (m ∷ ns) h n e = let t = least_is m ns in
    let q : fold int_min m ns ≡ n = cc in subst IsSmall q (h (fold int_min m ns) t.is_one)

-- what was there, told in other words, or came: one more
pub one_more : {A B C D E : Type 0} → A ↔ (B ⊎ C) → B ↔ D → (D ⊎ C) ↔ E → A ↔ E
one_more entered before both = (
  λ x. both.0 (elim (entered.0 x) [ inl y ↦ inl (before.0 y) | inr y ↦ inr y ]),
  λ u. entered.1 (elim (both.1 u) [ inl y ↦ inl (before.1 y) | inr y ↦ inr y ]),
)

-- of more constants it is so too
up_to_wider : (ns ms : List ℤ) (a : ℤ) → ((n : ℤ) → Contains ns n → Contains ms n) → IsUpTo ns a → IsUpTo ms a
up_to_wider ns ms a f (s, inl c) = (s, inl (f a c))
up_to_wider ns ms a f (s, inr (n, c, e)) = (s, inr (n, f n c, e))

-- one constant more
pub up_to_push : (ns : List ℤ) (n a : ℤ) → (IsUpTo ns a ⊎ IsUpTo (n ∷ []) a) ↔ IsUpTo (ns ++ n ∷ []) a
up_to_push ns n a = (
  λ h. elim h [
    | inl u ↦ up_to_wider ns (ns ++ n ∷ []) a (Contains-append_left ns (n ∷ [])) u
    | inr u ↦ up_to_wider (n ∷ []) (ns ++ n ∷ []) a (Contains-append_right ns (n ∷ [])) u
  ],
  λ u. elim u.1 [
    | inl c ↦ elim (Contains-append_cases ns (n ∷ []) a c) [ inl d ↦ inl (u.0, inl d) | inr d ↦ inr (u.0, inl d) ]
    | inr t ↦ elim (Contains-append_cases ns (n ∷ []) t.0 t.1) [
      | inl d ↦ inl (u.0, inr (t.0, d, t.2))
      | inr d ↦ inr (u.0, inr (t.0, d, t.2))
    ]
  ],
)

-- what was entered names are made of
name_from : (ns : List ℤ) (a : ℤ) → IsUpTo ns a ⊎ IsLastNear (least ns) a → IsNumberName ns a
name_from ns a (inl (s, inl c)) = (s, inl c)
name_from ns a (inl (s, inr t)) = (s, inr (inl t))
name_from [] a (inr e) = (subst IsSmall (sym e) zero_small, inr (inr (inr (refl, e))))
name_from (n ∷ ns) a (inr (s, e)) = (s, inr (inr (inl (fold int_min n ns, least_is n ns, e))))

-- what names are made of was entered
name_to : (ns : List ℤ) (a : ℤ) → IsNumberName ns a → IsUpTo ns a ⊎ IsLastNear (least ns) a
name_to ns a (s, inl c) = inl (s, inl c)
name_to ns a (s, inr (inl t)) = inl (s, inr t)
name_to [] a (s, inr (inr (inl (m, l, e)))) = absurd (Contains-nil m l.is_one)
name_to (n ∷ ns) a (s, inr (inr (inl (m, l, e)))) =
    let t = least_is n ns in
    let q : m ≡ fold int_min n ns =
    both_ways m (fold int_min n ns) (l.least (fold int_min n ns) t.is_one) (t.least m l.is_one) in
    inr (s, e ∙ ap (λ z. z +ℤ negsuc 0) q)
name_to [] a (s, inr (inr (inr (q, e)))) = inr e
name_to (n ∷ ns) a (s, inr (inr (inr (q, e)))) = absurd (cc)

-- both ways
pub name_cases : (ns : List ℤ) (a : ℤ) → (IsUpTo ns a ⊎ IsLastNear (least ns) a) ↔ IsNumberName ns a
name_cases ns a = (name_from ns a, name_to ns a)
