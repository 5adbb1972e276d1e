-- Records that pass each check, and lists of records that are members' own.
use Rattle.std.proofs.Common.{◌≡◌, ◌≢◌, ◌+◌, ◌<◌, ◌≤◌, ◌==◌, ◌||◌, ◌∷◌, inl, inr, not, Bool, true, false, ℕ, zero, suc, List, [], length, map, get_or, None, refl, ap, arith}
use Rattle.std.{proofs.lemmas.Bool.Decides.eqb_tells, proofs.lemmas.List.Elements.All-map, specs.List.list_any}
use Rattle.std.specs.Prelude.{All, is_none, nat_le, nat_lt}
use Rattle.olap_base.specs.{Graph.{Graph, is_number}, Instance.{Instance, Member, member_at}}
use Rattle.olap_base.specs.Limits.{most_members, most_text_bytes}
use Rattle.olap_graph.specs.Lookups.{category_named}
use Rattle.olap_instance.specs.InstanceText.{id_field, category_field, category_number, is_bad_id, is_bad_number, is_known, is_no_text, is_too_long, name_field, member_fault}
use Rattle.olap_instance.specs.{Passes.ids_in, Printing.member_fields}

-- ---- lists

-- where each isn't, none is
pub any-none : (f : List ℕ → Bool) (xs : List (List ℕ)) → ((j : ℕ) → j < length xs → f (get_or xs j []) ≡ false)
    → list_any f xs ≡ false
any-none f [] h = refl
any-none f (x ∷ xs) h = rw (h 0 (omega arith)) (any-none f xs (λ j l. h (suc j) (omega arith)))

-- what is made of each member gives it back, so of all
pub round : (f : List (List ℕ) → Member) (h : Member → List (List ℕ)) (ms : Instance)
    → ((j : ℕ) → j < length ms → f (h (member_at ms j)) ≡ member_at ms j) → map f (map h ms) ≡ ms
round f h [] e = refl
round f h (m ∷ ms) e =
    cons (f (h m)) m (map f (map h ms)) ms (e 0 (omega arith)) (round f h ms (λ j l. e (suc j) (omega arith)))
  where
    cons : (x y : Member) (xs ys : Instance) → x ≡ y → xs ≡ ys → x ∷ xs ≡ y ∷ ys
    cons x y xs ys a b = rw (a, b) refl

-- the records of members have their ids
pub ids-kept : (g : Graph) (i ms : Instance) → map id_field (map (member_fields g i) ms) ≡ ids_in ms
ids-kept g i [] = refl
ids-kept g i (m ∷ ms) = ap (λ (t : List (List ℕ)). m.id ∷ t) (ids-kept g i ms)

-- and none is empty
pub rows-full : (g : Graph) (i ms : Instance) → All (λ r. 0 < length r) (map (member_fields g i) ms)
rows-full g i ms = All-map (λ r. 0 < length r) (member_fields g i) ms (λ k d l. omega arith)

-- nor with the header in front
pub all-full : (top : List (List ℕ)) (rows : List (List (List ℕ))) → 0 < length top → All (λ r. 0 < length r) rows
    → All (λ r. 0 < length r) (top ∷ rows)
all-full top rows h t zero d l = h
all-full top rows h t (suc k) d l = t k d (omega arith)

-- a record that passes each check has no fault
pub unrefused : (g : Graph) (before : List (List (List ℕ))) (r : List (List ℕ)) → (length r == 4) ≡ true
    → is_no_text r ≡ false
    → is_bad_id (id_field r) ≡ false → (is_too_long (id_field r) || is_too_long (name_field r)) ≡ false
    → is_none (category_named g (category_field r)) ≡ false → (category_number g r == 0) ≡ false
    → is_bad_number (is_number g (category_number g r)) (name_field r) ≡ false
    → is_known before (id_field r) ≡ false
    → nat_le most_members (length before + 1) ≡ false → member_fault g before r ≡ None
unrefused g before r a b c d e f n h k = rw (a, b, c, d, e, f, n, h, k) refl

-- a length within the limit passes the test
pub short : (n : ℕ) → n ≤ most_text_bytes → nat_lt most_text_bytes n ≡ false
short n h = grind arith

-- a number that isn't 0 passes the test
pub differ-zero : (n : ℕ) → n ≢ 0 → (n == 0) ≡ false
differ-zero n h = elim (eqb_tells n 0) [ inl t ↦ absurd (h t.1) | inr f ↦ f.0 ]

-- four tests that pass
pub four-texts : (a b c d : Bool) → a ≡ true → b ≡ true → c ≡ true → d ≡ true
    → (not a || not b || not c || not d) ≡ false
four-texts a b c d ea eb ec ed = rw (ea, eb, ec, ed) refl
