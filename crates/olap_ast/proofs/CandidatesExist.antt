-- The fresh name and the candidates exist, whatever the schema and the question, and there is one fresh name.
use Rattle.std.proofs.Common.{◌≡◌, ℕ, zero, suc, ◌+◌, ◌<◌, ◌≤◌, List, [], ◌∷◌, length, map, replicate, Bool, true, false, refl, ap, sym, subst, ◌∙◌, ◌⊎◌, inl, inr, arith, Ordering, Less, Equal, Greater, nat_cmp}
use Rattle.std.proofs.lemmas.List.{length-append, length-replicate, Elements.All-cons, Kept.AllPairs-cons}
use Rattle.std.specs.{Cmp.Lexicographic.{slice_cmp, texts_ties, nat_list_cmp_total}, Ordering.{ordering_reverse, is_eq}}
use Rattle.std.specs.Prelude.{Contains, codes, All, AllPairs}
use Rattle.olap_base.proofs.{DecisionLemmas.stable, GeneralLemmas.same_or_below_suc}
use Rattle.olap_base.proofs.ListLemmas.{contains_head, Contains-nil, Contains-map, Contains-from_map}
use Rattle.olap_base.specs.{Deciding.{decide_contains, contains_cases, contains_cons}, Graph.is_number}
use Rattle.olap_ast.proofs.ComparedLemmas.{atom_of_text, constants_in_order, number_constant, text_of_atom}
use Rattle.olap_ast.{proofs.TextLemmas.same_text, specs.Atoms.{Equality, all_equalities, texts_on}}
use Rattle.olap_ast.specs.Constants.{IsConstant, IsFreshName, IsBefore, AreInByteOrder, FreshNamesExist, HasKinds, fresh_candidate, numbers}
use Rattle.olap_ast.specs.{Formula.{Constant.AText, Formula}, Frozen.{AreNamesOf, CandidatesExist}, Schema.Schema}
use Rattle.olap_numerals.{proofs.NameLemmas.number_names_exist, specs.Representatives.AreSmall}
use native.Mathlib.Decide.{ℕ_discrete}
use mathlib.Core.List.{List-discrete}

-- ---- the fresh name

-- the texts that the constraints and the question ask for
abbrev texts : Schema → Formula → List (List ℕ)
texts s q = map (λ (a : Equality). a.text) (all_equalities s q)

-- a constant is one of the texts
known : (s : Schema) (q : Formula) (d : ℕ) (t : List ℕ) → IsConstant s q d (AText t) → Contains (texts s q) t
known s q d t c =
    Contains-map (λ (a : Equality). a.text) (all_equalities s q) (record { category = d; text = t })
    (atom_of_text s q d t c)

-- and each text is a constant of some category
at : (s : Schema) (q : Formula) (t : List ℕ) → Contains (texts s q) t → (d : ℕ) × IsConstant s q d (AText t)
at s q t c =
    let m = Contains-from_map (λ (a : Equality). a.text) (all_equalities s q) t c in (
      m.0.category,
      subst (λ w. IsConstant s q m.0.category (AText w)) m.2 (text_of_atom s q m.0.category m.0.text m.1),
    )

-- how long the texts are together
abbrev size : List (List ℕ) → ℕ
size [] = 0
size (t ∷ ts) = length t + size ts

-- no text is longer than all together
short : (ts : List (List ℕ)) (t : List ℕ) → Contains ts t → length t ≤ size ts
short [] t c = absurd (Contains-nil t c)
short (u ∷ ts) t c = elim (contains_cases t u ts c) [
  | inl e ↦ let l : length u ≡ length t = ap (λ (x : List ℕ). length x) e in omega arith
  | inr h ↦ let l = short ts t h in omega arith
]

-- the candidate with n underscores has n + 2 bytes
long : (n : ℕ) → length (fresh_candidate n) ≡ 2 + n
long n = let a = length-append (codes "nk") (replicate n 95) in let b =
    length-replicate {A = ℕ} n 95 in omega (arith, a, b)

-- so the candidate with as many underscores as the texts are long is none of them
unknown : (s : Schema) (q : Formula) → Contains (texts s q) (fresh_candidate (size (texts s q))) → ⊥
unknown s q c = let l = short (texts s q) (fresh_candidate (size (texts s q))) c in
    let m = long (size (texts s q)) in omega arith

-- a number with the property, and none below it has it
record IsLeastOf (P : ℕ → Type 0) : Type 0 where
  n : ℕ
  has : P n
  none : (m : ℕ) → m < n → P m → ⊥

-- from j upward, where none below j has the property, and one that is so far above has it
up : (P : ℕ → Type 0) → ((n : ℕ) → Dec (P n)) → (left j : ℕ) → P (j + left) → ((m : ℕ) → m < j → P m → ⊥) →
    IsLeastOf P
up P d zero j p none = record { n = j; has = let e : j + 0 ≡ j = omega arith in subst P e p; none = none }
up P d (suc left) j p none = elim (d j) [
  | yes h ↦ record { n = j; has = h; none = none }
  | no n ↦ up P d left (suc j) (let e : j + suc left ≡ suc j + left = omega arith in subst P e p)
      (λ m l h. elim (same_or_below_suc m j l) [ inl e ↦ n (subst P e h) | inr k ↦ none m k h ])
]

-- whether that candidate is no text
dec_free : (s : Schema) (q : Formula) (n : ℕ) → Dec (Contains (texts s q) (fresh_candidate n) → ⊥)
dec_free s q n = elim (decide_contains (List-discrete ℕ_discrete) (texts s q) (fresh_candidate n)) [
  | yes c ↦ no (λ f. f c)
  | no m ↦ yes m
]

-- there is a fresh name
fresh_exists : (s : Schema) (q : Formula) → (name : List ℕ) × IsFreshName s q name
fresh_exists s q =
    let t = up (λ n. Contains (texts s q) (fresh_candidate n) → ⊥) (dec_free s q) (size (texts s q)) 0
    (let e : 0 + size (texts s q) ≡ size (texts s q) = omega arith in
    subst (λ n. Contains (texts s q) (fresh_candidate n) → ⊥) (sym e) (unknown s q))
    (λ m l. absurd (omega arith)) in (
      fresh_candidate t.n,
      record {
        underscores = t.n;
        spelled = refl;
        free = λ d c. t.has (known s q d (fresh_candidate t.n) c);
        first = λ m l. at s q (fresh_candidate m)
            (stable (decide_contains (List-discrete ℕ_discrete) (texts s q) (fresh_candidate m)) (t.none m l));
      },
    )

-- and it is one
pub fresh_is_one : (s : Schema) (q : Formula) (a b : List ℕ) → IsFreshName s q a → IsFreshName s q b → a ≡ b
fresh_is_one s q a b f g = go (order f.underscores g.underscores)
  where
    order : (m n : ℕ) → (m ≡ n) ⊎ ((m < n) ⊎ (n < m))
    order m n = grind arith

    go : (f.underscores ≡ g.underscores) ⊎ ((f.underscores < g.underscores) ⊎ (g.underscores < f.underscores)) →
        a ≡ b
    go (inl e) = f.spelled ∙ ap fresh_candidate e ∙ sym g.spelled
    go (inr (inl l)) = let t =
        g.first f.underscores l in absurd (f.free t.0 (subst (λ w. IsConstant s q t.0 (AText w)) (sym f.spelled) t.1))
    go (inr (inr l)) = let t =
        f.first g.underscores l in absurd (g.free t.0 (subst (λ w. IsConstant s q t.0 (AText w)) (sym g.spelled) t.1))

-- ---- the constants in byte order

-- x comes before each of the texts
abbrev Below : List ℕ → List (List ℕ) → Type 0
Below x [] = Unit {0}
Below x (y ∷ ys) = IsBefore x y × Below x ys

-- each text comes before all later ones
abbrev Ascending : List (List ℕ) → Type 0
Ascending [] = Unit {0}
Ascending (x ∷ xs) = Below x xs × Ascending xs

-- by places
below_all : (x : List ℕ) (ys : List (List ℕ)) → Below x ys → All (IsBefore x) ys
below_all x [] h = λ k d l. absurd (omega arith)
below_all x (y ∷ ys) h = All-cons (IsBefore x) y ys h.0 (below_all x ys h.1)

-- by places
ascending : (xs : List (List ℕ)) → Ascending xs → AllPairs IsBefore xs
ascending [] h = λ i j d l m. absurd (omega arith)
ascending (x ∷ xs) h = AllPairs-cons IsBefore x xs (below_all x xs h.0) (ascending xs h.1)

-- what comes before y comes before all that y comes before
below_trans : (x y : List ℕ) (zs : List (List ℕ)) → IsBefore x y → Below y zs → Below x zs
below_trans x y [] b h = tt
below_trans x y (z ∷ zs) b h = (nat_list_cmp_total.trans x y z b h.0, below_trans x y zs b h.1)

-- the texts with x among them, in byte order
record Inserted (x : List ℕ) (ys : List (List ℕ)) : Type 0 where
  out : List (List ℕ)
  up : Ascending out
  sound : (w : List ℕ) → Contains out w → (x ≡ w) ⊎ Contains ys w
  complete : (w : List ℕ) → (x ≡ w) ⊎ Contains ys w → Contains out w
  after : (u : List ℕ) → IsBefore u x → Below u ys → Below u out

-- what is equal to the first is in the list
head_is : (x w : List ℕ) (ys : List (List ℕ)) → x ≡ w → Contains (x ∷ ys) w
head_is x w ys e = subst (λ v. Contains (x ∷ ys) v) e (contains_head x ys)

-- where the texts are in byte order x can be put among them
insert : (x : List ℕ) (ys : List (List ℕ)) → Ascending ys → Inserted x ys
insert x [] a = record {
  out = x ∷ [];
  up = (tt, tt);
  sound = λ w c. contains_cases w x [] c;
  complete = λ w t. elim t [ inl e ↦ head_is x w [] e | inr c ↦ absurd (Contains-nil w c) ];
  after = λ u b l. (b, tt);
}
insert x (y ∷ ys) a = go (slice_cmp nat_cmp x y) refl (insert x ys a.1)
  where
    go : (o : Ordering) → slice_cmp nat_cmp x y ≡ o → Inserted x ys → Inserted x (y ∷ ys)
    go Less e r = record {
      out = x ∷ y ∷ ys;
      up = ((e, below_trans x y ys e a.0), a);
      sound = λ w c. contains_cases w x (y ∷ ys) c;
      complete = λ w t. elim t [ inl q ↦ head_is x w (y ∷ ys) q | inr c ↦ contains_cons w (y ∷ ys) x c ];
      after = λ u b l. (b, l);
    }
    go Equal e r = record {
      out = y ∷ ys;
      up = a;
      sound = λ w c. inr c;
      complete = λ w t. elim t [
        | inl q ↦ head_is y w ys (sym (same_text x y (texts_ties x y ∙ ap is_eq e)) ∙ q)
        | inr c ↦ c
      ];
      after = λ u b l. l;
    }
    go Greater e r = record {
      out = y ∷ r.out;
      up = (r.after y (nat_list_cmp_total.antisymm y x ∙ ap ordering_reverse e) a.0, r.up);
      sound = λ w c. elim (contains_cases w y r.out c) [
        | inl q ↦ inr (head_is y w ys q)
        | inr h ↦ elim (r.sound w h) [ inl q ↦ inl q | inr d ↦ inr (contains_cons w ys y d) ]
      ];
      complete = λ w t. elim t [
        | inl q ↦ contains_cons w r.out y (r.complete w (inl q))
        | inr c ↦
            elim (contains_cases w y ys c) [
              | inl q ↦ head_is y w r.out q
              | inr d ↦
                  contains_cons w r.out y (r.complete w (inr d))
            ]
      ];
      after = λ u b l. (l.0, r.after u b l.1);
    }

-- the texts in byte order, each once
record Ordered (xs : List (List ℕ)) : Type 0 where
  out : List (List ℕ)
  up : Ascending out
  sound : (w : List ℕ) → Contains out w → Contains xs w
  complete : (w : List ℕ) → Contains xs w → Contains out w

-- every list can be so ordered
sorted : (xs : List (List ℕ)) → Ordered xs
sorted [] = record { out = []; up = tt; sound = λ w c. c; complete = λ w c. c }
sorted (x ∷ xs) =
    let r = sorted xs in let t = insert x r.out r.up in record {
      out = t.out;
      up = t.up;
      sound = λ w c. elim (t.sound w c) [ inl e ↦ head_is x w xs e | inr d ↦ contains_cons w xs x (r.sound w d) ];
      complete =
          λ w c. t.complete w (elim (contains_cases w x xs c) [ inl e ↦ inl e | inr d ↦ inr (r.complete w d) ]);
    }

-- so there is a list of the texts in byte order
in_order_exist : (xs : List (List ℕ)) → (ts : List (List ℕ)) × AreInByteOrder (Contains xs) ts
in_order_exist xs = let r = sorted xs in
    (r.out, record { ordered = ascending r.out r.up; sound = r.sound; complete = r.complete })

-- each category has names
names_exist : (s : Schema) (q : Formula) → HasKinds s q → (d : ℕ) →
    (first : List ℕ) × (others : List (List ℕ)) × AreNamesOf (is_number s.graph d) s q d first others
names_exist s q h d = go (is_number s.graph d) (λ n c. (h.numbers d n (number_constant s q d n c)).1)
  where
    go : (m : Bool) → AreSmall (numbers s q d)
        → (first : List ℕ) × (others : List (List ℕ)) × AreNamesOf m s q d first others
    go false small =
        let f = fresh_exists s q in
        let t = in_order_exist (texts_on d (all_equalities s q)) in
        (f.0, t.0, (f.1, constants_in_order s q d t.0 t.1))
    go true small = number_names_exist (numbers s q d) small

-- there are candidates
pub candidates_exist : CandidatesExist
candidates_exist s q h = (
  record { first = λ d. (names_exist s q h d).0; texts = λ d. (names_exist s q h d).1 },
  record { kinds = h; names = λ c. (names_exist s q h (suc c)).2 },
)

-- there is one fresh name
pub fresh_names_exist : FreshNamesExist
fresh_names_exist s q = let t = fresh_exists s q in (t.0, t.1, λ other f. fresh_is_one s q other t.0 f t.1)
