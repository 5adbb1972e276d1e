-- The pairs that have yet to be defined: one more, and one fewer.
use Rattle.std.proofs.Common.{◌≡◌, ℕ, Bool, true, false, List, [], ◌∷◌, ◌++◌, refl, sym, subst, ◌⊎◌, inl, inr}
use Rattle.std.{proofs.lemmas.List.Elements.Contains-push_cases, specs.Prelude.{Contains, if◌then◌else◌}}
use Rattle.olap_encoding.proofs.Growing.{grown_same, stands_before}
use Rattle.olap_encoding.specs.Encoding.{Encoding, IsPair, IsSound, IsLater, IsNext}

-- other pairs have yet to be defined
other_pairs : (e : Encoding) (pairs : List (ℕ × ℕ)) → IsSound e
    → ((x : ℕ × ℕ) → Contains pairs x → IsPair e x.0 x.1) → IsNext e (record e { todo = pairs })
other_pairs e pairs t f =
    let n : IsLater e (record e { todo = pairs }) =
    record { question = refl; grown = grown_same e.meanings } in record {
      sound = record {
        question = t.question;
        few = t.few;
        ordered = t.ordered;
        laid = t.laid;
        given = λ f v h. t.given f v (stands_before n h);
        asked = f;
      };
      later = n;
    }

-- one pair more that has yet to be defined
pub next_entered : (e : Encoding) (c d : ℕ) → IsSound e → IsPair e c d
    → IsNext e (record e { todo = e.todo ++ (c, d) ∷ [] })
next_entered e c d t p = other_pairs e (e.todo ++ (c, d) ∷ []) t (λ x g. pair x (Contains-push_cases e.todo (c, d) x g))
  where
    pair : (x : ℕ × ℕ) → Contains e.todo x ⊎ ((c, d) ≡ x) → IsPair e x.0 x.1
    pair x (inl g) = t.asked x g
    pair x (inr q) = subst (λ (y : ℕ × ℕ). IsPair e y.0 y.1) q p

-- with one pair more, or none, if there is no memory
pub next_pushed : (e : Encoding) (c d : ℕ) (b : Bool) (pairs : List (ℕ × ℕ))
    → pairs ≡ (if b then e.todo ++ (c, d) ∷ [] else e.todo) → IsSound e → IsPair e c d
    → IsNext e (record e { todo = pairs })
next_pushed e c d true pairs q t p =
    subst (λ (td : List (ℕ × ℕ)). IsNext e (record e { todo = td })) (sym q) (next_entered e c d t p)
next_pushed e c d false pairs q t p =
    subst (λ (td : List (ℕ × ℕ)). IsNext e (record e { todo = td })) (sym q)
    (other_pairs e e.todo t (λ x g. t.asked x g))

-- some fewer
pub next_popped : (e : Encoding) (rest : List (ℕ × ℕ)) → IsSound e
    → ((x : ℕ × ℕ) → Contains rest x → Contains e.todo x) → IsNext e (record e { todo = rest })
next_popped e rest t f = other_pairs e rest t (λ x g. t.asked x (f x g))
