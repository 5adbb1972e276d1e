-- The families of the first bottom categories, dimension by dimension.
use Rattle.std.proofs.Common.{◌≡◌, ℕ, zero, suc, ◌+◌, ◌<◌, ◌≤◌, ◌⊎◌, ◌↔◌, ◌++◌, List, [], ◌∷◌, length, get_or, take, drop, refl, ap, sym, subst, ◌∙◌, append_assoc, append-nil, inl, inr, arith}
use Rattle.std.proofs.lemmas.List.{drop-drop, drop_all, drop_more, Elements.{All-head, All-tail}}
use Rattle.std.specs.{Int.Bits.bit_and, Prelude.{All, Contains}}
use Rattle.olap_base.{proofs.GeneralLemmas.below_or_same, proofs.ListLemmas.get_or_inside, specs.Ranks.IsNotAfter}
use Rattle.olap_bits.specs.declared.sets.CatSet.{CatSet}
use Rattle.olap_cube_summ.proofs.AnswerLemmas.{by_unions}
use Rattle.olap_cube_summ.proofs.LeastLemmas.{CanEnd, Ends, Greedy, NotAfter, greedy_ends, greedy_least}
use Rattle.olap_cube_summ.specs.Families.{AreFirst, AreOf, AreUnions, IsOrdered, IsUnion, bottoms_of, patterns_of}
use Rattle.olap_cube_summ.specs.{Masks.{CanBeBad, IsIn, all_of}, declared.families.Family.Family}

-- ---- sets in the place of others

-- where each pattern of a set is one of another
wider : (n : ℕ) (s t : CatSet 4) → ((p : ℕ) → IsIn s p → IsIn t p) → (rest : List (CatSet 4)) (m : ℕ)
    → CanBeBad n (s ∷ rest) m → CanBeBad n (t ∷ rest) m
wider n s t h rest m b = (b.0, h b.0 b.1, b.2)

-- if sets are bad wherever others are, they are so after the same sets
under : (n : ℕ) (done a b : List (CatSet 4)) → ((m : ℕ) → CanBeBad n a m → CanBeBad n b m) → (m : ℕ)
    → CanBeBad n (done ++ a) m → CanBeBad n (done ++ b) m
under n [] a b h m t = h m t
under n (d ∷ done) a b h m t = (t.0, t.1, under n done a b h (bit_and m t.0) t.2)

-- by the union of some families, then by one of them
pub one_of_union : (n : ℕ) (families : List Family) (u : CatSet 4) → IsUnion families u → (done rest : List (CatSet 4))
    (m : ℕ) → CanBeBad n (done ++ u ∷ rest) m
    → (f : Family) × Contains families f × CanBeBad n (done ++ f.patterns ∷ rest) m
one_of_union n families u is [] rest m b = let t = (is b.0).0 b.1 in (t.0, t.1, (b.0, t.2, b.2))
one_of_union n families u is (d ∷ done) rest m b =
    let t = one_of_union n families u is done rest (bit_and m b.0) b.2 in (t.0, t.1, (b.0, b.1, t.2))

-- of ordered families one has a bottom category
same_by_bottom : (d : List Family) (x y : Family) → IsOrdered d → Contains d x → Contains d y
    → x.bottom.0 ≡ y.bottom.0 → x ≡ y
same_by_bottom d x y ordered c e q = go (which c.0 e.0)
  where
    which : (j k : ℕ) → (j < k) ⊎ ((j ≡ k) ⊎ (k < j))
    which j k = grind arith

    before : (a b : Family) (j k : ℕ) → j < k → k < length d → get_or d j a ≡ a → get_or d k b ≡ b → j < length d
        → a.bottom.0 < b.bottom.0
    before a b j k l m f g o = subst (λ (w : Family). w.bottom.0 < b.bottom.0) (get_or_inside d j b a o ∙ f)
        (subst (λ (w : Family). (get_or d j b).bottom.0 < w.bottom.0) g (ordered j k b l m))

    go : (c.0 < e.0) ⊎ ((c.0 ≡ e.0) ⊎ (e.0 < c.0)) → x ≡ y
    go (inl l) = let o = before x y c.0 e.0 l e.1 c.2 e.2 c.1 in absurd (omega arith)
    go (inr (inl l)) = sym c.2 ∙ ap (λ w. get_or d w x) l ∙ get_or_inside d e.0 x y e.1 ∙ e.2
    go (inr (inr l)) = let o = before y x e.0 c.0 l c.1 e.2 c.2 e.1 in absurd (omega arith)

-- the first k families have the patterns of a set
abbrev pub HasOf : List Family → ℕ → CatSet 4 → Type 0
HasOf families k all = (p : ℕ) → IsIn all p
    ↔ ((f : Family) × (j : ℕ) × (j < k) × (get_or families j f ≡ f) × IsIn f.patterns p)

-- ---- the greedy choice

module _ (n : ℕ) where
  abbrev In : List Family → Family → Type 0
  In d x = IsOrdered d × Contains d x

  abbrev bottom : Family → ℕ
  bottom x = x.bottom.0

  abbrev after : ℕ → ℕ → Type 0
  after a b = b < a

  abbrev left : List (CatSet 4) → Family → List (CatSet 4)
  left m x = m ++ x.patterns ∷ []

  abbrev IsBadBy : List (CatSet 4) → Type 0
  IsBadBy m = CanBeBad n m (all_of n)

  abbrev pub GreedyOf : List (List Family) → List (CatSet 4) → List Family → Type 0
  GreedyOf ds m xs = Greedy In bottom after left IsBadBy ds m xs

  ends_of : (ds : List (List Family)) → All IsOrdered ds → (m : List (CatSet 4)) (xs : List Family) → AreOf ds xs
      → IsBadBy (m ++ patterns_of xs) → Ends In bottom after left IsBadBy ds m xs
  ends_of [] o m [] a b = rw append-nil at b
  ends_of (d ∷ ds) o m (x ∷ xs) a b = (
    (All-head IsOrdered d ds o, a.0),
    ends_of ds (All-tail IsOrdered d ds o) (left m x) xs a.1 (rw append_assoc b),
  )
  ends_of ds o m xs a b = absurd a

  of_ends : (ds : List (List Family)) (m : List (CatSet 4)) (xs : List Family)
      → Ends In bottom after left IsBadBy ds m xs → AreOf ds xs × IsBadBy (m ++ patterns_of xs)
  of_ends [] m [] e = (tt, rw append-nil e)
  of_ends (d ∷ ds) m (x ∷ xs) e = let t = of_ends ds (left m x) xs e.1 in ((e.0.1, t.0), rw append_assoc at t.1)
  of_ends ds m xs e = absurd e

  not_after : (xs ys : List Family) → NotAfter In bottom after left IsBadBy xs ys
      → IsNotAfter (bottoms_of xs) (bottoms_of ys)
  not_after [] ys t = tt
  not_after (x ∷ xs) [] t = absurd t
  not_after (x ∷ xs) (y ∷ ys) (inl l) = inl l
  not_after (x ∷ xs) (y ∷ ys) (inr e) = inr (e.0, not_after xs ys e.1)

  order : (a b : ℕ) → after a b ⊎ ((a ≡ b) ⊎ after b a)
  order a b = grind arith

  -- one dimension more
  pub greedy_next : (all : List (List Family)) (i : ℕ) (done : List (CatSet 4)) (first : List Family) (d : List Family)
      (us : List (CatSet 4)) (x : Family) → i < length all → get_or all i d ≡ d → IsOrdered d
      → AreUnions (drop (i + 1) all) us → Contains d x
      → ((y : Family) → Contains d y → CanBeBad n (done ++ y.patterns ∷ us) (all_of n) → x.bottom.0 ≤ y.bottom.0)
      → ((xs : List Family) → GreedyOf (drop i all) done xs → GreedyOf all [] (first ++ xs))
      → (xs : List Family) → GreedyOf (drop (i + 1) all) (done ++ x.patterns ∷ []) xs
      → GreedyOf all [] ((first ++ x ∷ []) ++ xs)
  greedy_next all i done first d us x l e o u c least h xs g =
      rw (append_assoc first (x ∷ []) xs) (h (x ∷ xs) (rw (rw e at (drop_more all i d l)) ((o, c), before, g)))
    where
      before : (y : Family) → In d y → CanEnd In bottom after left IsBadBy (drop (i + 1) all) (left done y)
          → after (bottom x) (bottom y) → ⊥
      before y k end a =
          let t = of_ends (drop (i + 1) all) (left done y) end.0 end.1 in
          let b = rw append_assoc at t.1 in
          let m = least y k.1 (under n done (y.patterns ∷ patterns_of end.0) (y.patterns ∷ us)
          (λ m v. (v.0, v.1, by_unions n (drop (i + 1) all) us u end.0 t.0 (bit_and m v.0) v.2)) (all_of n) b) in
          omega arith

  -- after the last dimension these are the first families
  pub are_first : (all : List (List Family)) → All IsOrdered all → (i : ℕ) (done us : List (CatSet 4))
      (first : List Family) → length all ≤ i → AreUnions (drop i all) us → CanBeBad n (done ++ us) (all_of n)
      → ((xs : List Family) → GreedyOf (drop i all) done xs → GreedyOf all [] (first ++ xs)) → AreFirst n all first
  are_first all o i done us first l u b h =
      let none = drop_all i all l in
      let g = rw (append-nil first) at (h [] (rw none (rw (no_sets us (rw none at u), append-nil) at b))) in
      let e = of_ends all [] first (greedy_ends In bottom after left IsBadBy all [] first g) in record {
        are_of = e.0;
        are_bad = e.1;
        least = λ other a c. not_after first other (greedy_least In bottom after left IsBadBy (λ d x y i j k m.
            ap (left m) (same_by_bottom d x y i.0 i.1 j.1 k)) order all [] first other g (ends_of all o [] other a c));
      }
    where
      no_sets : (us : List (CatSet 4)) → AreUnions [] us → us ≡ []
      no_sets [] u = refl
      no_sets (s ∷ us) u = absurd u

-- ---- steps of loops

-- of ordered families none from this place on has a bottom category before this one's
pub first_by_order : (P : Family → Type 0) (families : List Family) (k : ℕ) (x : Family) → IsOrdered families
    → k < length families → x ≡ get_or families k x
    → ((j : ℕ) (f : Family) → j < k → get_or families j f ≡ f → P f → ⊥)
    → (f : Family) → Contains families f → P f → x.bottom.0 ≤ f.bottom.0
first_by_order P families k x ordered l e none f c p = go (which c.0 k)
  where
    which : (j k : ℕ) → (j < k) ⊎ ((j ≡ k) ⊎ (k < j))
    which j k = grind arith

    at_k : get_or families k f ≡ x
    at_k = get_or_inside families k f x l ∙ sym e

    go : (c.0 < k) ⊎ ((c.0 ≡ k) ⊎ (k < c.0)) → x.bottom.0 ≤ f.bottom.0
    go (inl a) = absurd (none c.0 f a c.2 p)
    go (inr (inl a)) = let q : x ≡ f = sym at_k ∙ ap (λ w. get_or families w f) (sym a) ∙ c.2 in
        let r = ap (λ (w : Family). w.bottom.0) q in omega arith
    go (inr (inr a)) = let o = ordered k c.0 f a c.1 in
        let r = rw (at_k, c.2) at o in omega arith

-- one family more joins the patterns so far
pub union_next : (families : List Family) (k : ℕ) (all next : CatSet 4) (x : Family) → k < length families
    → x ≡ get_or families k x → ((m : ℕ) → IsIn next m ↔ (IsIn all m ⊎ IsIn x.patterns m))
    → HasOf families k all → HasOf families (k + 1) next
union_next families k all next x l e u h p = (
  λ i. elim ((u p).0 i) [
    | inl a ↦ let t = (h p).0 a in (t.0, t.1, (let m = t.2 in omega arith), t.3, t.4)
    | inr a ↦ (x, k, omega arith, sym e, a)
  ],
  λ t. (u p).1 (elim (below_or_same t.1 k t.2) [
    | inl m ↦ inl ((h p).1 (t.0, t.1, m, t.3, t.4))
    | inr q ↦ inr (subst (λ (w : Family). IsIn w.patterns p)
        (sym t.3 ∙ ap (λ w. get_or families w t.0) q ∙ get_or_inside families k t.0 x l ∙ sym e) t.4)
  ]),
)

-- one dimension more has its union after the others
pub unions_next : (ds : List (List Family)) (k : ℕ) (ss : List (CatSet 4)) (d : List Family) (s : CatSet 4)
    → k < length ds → get_or ds k d ≡ d → AreUnions (take k ds) ss → IsUnion d s
    → AreUnions (take (suc k) ds) (ss ++ s ∷ [])
unions_next [] k ss d s l e u i = absurd (omega arith)
unions_next (x ∷ ds) zero [] d s l e u i = (subst (λ w. IsUnion w s) (sym e) i, tt)
unions_next (x ∷ ds) (suc k) (t ∷ ss) d s l e u i =
    (u.0, unions_next ds k ss d s (let z : suc k < suc (length ds) = l in omega arith) e u.1 i)
unions_next ds k ss d s l e u i = absurd u

-- ---- what is left of the sets

-- the sets from the i-th on
pub record SetsFrom (all : List (List Family)) (sets : List (CatSet 4)) (i : ℕ) (d : List Family) : Type 0 where
  pub set : CatSet 4
  pub is : drop i sets ≡ set ∷ drop (i + 1) sets
  pub union : IsUnion d set
  pub rest : AreUnions (drop (i + 1) all) (drop (i + 1) sets)

-- the sets from a dimension on: the union of its families, and the others
pub sets_from : (all : List (List Family)) (sets : List (CatSet 4)) (i : ℕ) (d : List Family) → i < length all
    → get_or all i d ≡ d → AreUnions (drop i all) (drop i sets) → SetsFrom all sets i d
sets_from all sets i d l e u = let q = rw e at (drop_more all i d l) in go (drop i sets) refl (rw q at u)
  where
    go : (us : List (CatSet 4)) → drop i sets ≡ us → AreUnions (d ∷ drop (i + 1) all) us → SetsFrom all sets i d
    go [] q v = absurd v
    go (s ∷ ss) q v =
        let r : ss ≡ drop (i + 1) sets = rw q at (drop-drop 1 i sets) in
        record { set = s; is = rw r at q; union = v.0; rest = rw r at v.1 }

-- where the sets can be bad, some family of this dimension keeps them so
pub some_family : (n : ℕ) (all : List (List Family)) (sets : List (CatSet 4)) (i : ℕ) (d items : List Family)
    (done from to : List (CatSet 4)) → i < length all → get_or all i d ≡ d → items ≡ d
    → AreUnions (drop i all) (drop i sets) → from ≡ done → to ≡ drop (i + 1) sets
    → CanBeBad n (done ++ drop i sets) (all_of n)
    → (f : Family) × Contains items f × CanBeBad n (from ++ f.patterns ∷ to) (all_of n)
some_family n all sets i d items done from to l e q u a b c =
    let s = sets_from all sets i d l e u in
    let t = one_of_union n d s.set s.union done (drop (i + 1) sets) (all_of n) (rw s.is at c) in
    (t.0, rw q t.1, rw (a, b) t.2)

-- one set more is done
pub by_one_more : (n : ℕ) (from done to rest next : List (CatSet 4)) → from ≡ done → to ≡ rest → (p : CatSet 4)
    → next ≡ done ++ p ∷ [] → (m : ℕ) → CanBeBad n (from ++ p ∷ to) m → CanBeBad n (next ++ rest) m
by_one_more n from done to rest next a b p e m h = rw (e, append_assoc done (p ∷ []) rest) (rw (a, b) at h)
