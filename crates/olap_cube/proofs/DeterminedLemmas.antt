-- There is one counterexample at most, whichever candidates are taken.
use Rattle.std.proofs.Common.{◌≡◌, ℕ, List, [], ◌∷◌, ◌++◌, Bool, cond, length, map, refl, sym, ap, ◌∙◌, arith}
use Rattle.olap_ast.proofs.{Determined.{same_name, same_thawed}, Uniqueness.same_bit}
use Rattle.olap_ast.specs.{Formula.Formula.Reach, Frozen.{AreOneFrozenDimension, code, name_in, root_place, thawed}}
use Rattle.olap_ast.specs.Schema.{Schema}
use Rattle.olap_cube.{proofs.RankLemmas.to_least, specs.Codes.{AreNotAfter, codes_of}}
use Rattle.olap_cube.specs.CubeSummarizable.{AreOneChoice, Chosen, IsChosen, TheCubeCounterexampleIsOne, bottoms_of}
use Rattle.olap_cube.specs.Tuples.{AllZip3}
use Rattle.olap_base.proofs.RankLemmas.{not_after_both}

-- codes that are not after each other are the same
are_not_after_both : (xs ys : List (List ℕ)) → AreNotAfter xs ys → AreNotAfter ys xs → xs ≡ ys
are_not_after_both [] [] a b = refl
are_not_after_both [] (y ∷ ys) a b = absurd b
are_not_after_both (x ∷ xs) [] a b = absurd a
are_not_after_both (x ∷ xs) (y ∷ ys) a b = let e = not_after_both x y a.0 b.0 in
    let rest = are_not_after_both xs ys (a.1 e) (b.1 (sym e)) in λ i. e i ∷ rest i

-- the first of a list, or another
head_or : {A : Type 0} → A → List A → A
head_or d [] = d
head_or d (x ∷ xs) = x

-- what follows the first
tail_of : {A : Type 0} → List A → List A
tail_of [] = []
tail_of (x ∷ xs) = xs

-- ---- values by their codes

-- the edges as a code
abbrev bits : List Bool → List ℕ
bits bs = map (λ b. cond b 1 0) bs

-- equal codes have equal bits and equal indexes
pub same_parts : (a b : List Bool) (m n : List ℕ) → length a ≡ length b → bits a ++ m ≡ bits b ++ n → (a ≡ b) × (m ≡ n)
unfolding head_or tail_of
same_parts [] [] m n h e = (refl, e)
same_parts [] (y ∷ b) m n h e = absurd (omega arith)
same_parts (x ∷ a) [] m n h e = absurd (omega arith)
same_parts (x ∷ a) (y ∷ b) m n h e =
    let p = same_bit x y (ap (head_or 0) e) in
    let r = same_parts a b m n (omega arith) (ap tail_of e) in
    (λ i. p i ∷ r.0 i, r.1)

-- two with one code are one frozen dimension, whichever candidates they have
one_frozen : (s : Schema) (c : ℕ) (p q : Chosen) → IsChosen s c p → IsChosen s c q → p.bottom ≡ q.bottom
    → code p.frozen ≡ code q.frozen
    → AreOneFrozenDimension s p.candidates q.candidates p.bottom q.bottom p.frozen q.frozen
one_frozen s c p q a b r e =
    let parts = same_parts p.frozen.edges q.frozen.edges p.frozen.names q.frozen.names
    (a.is_one.edge_count ∙ sym b.is_one.edge_count) e in
    let f : p.frozen ≡ q.frozen = λ i. record { edges = parts.0 i; names = parts.1 i } in record {
      root = r;
      value = f;
      names = λ d. same_name s (Reach c) p.candidates q.candidates a.candidates b.candidates p.frozen d
          ∙ ap (λ w. name_in q.candidates w d) f;
      instance = same_thawed s (Reach c) p.candidates q.candidates a.candidates b.candidates p.bottom p.frozen
          ∙ (λ i. thawed s q.candidates (r i) (f i));
      place = λ i. root_place s (r i) (f i);
    }

-- two choices with the same bottom categories and codes are one
one_choice : (ss : List Schema) (cs : List ℕ) (ps qs : List Chosen) → AllZip3 IsChosen ss cs ps
    → AllZip3 IsChosen ss cs qs → bottoms_of ps ≡ bottoms_of qs → codes_of ps ≡ codes_of qs → AreOneChoice ss ps qs
unfolding head_or tail_of
one_choice [] [] [] [] a b r e = tt
one_choice [] [] [] (q ∷ qs) a b r e = absurd b
one_choice [] [] (p ∷ ps) qs a b r e = absurd a
one_choice [] (c ∷ cs) ps qs a b r e = absurd a
one_choice (s ∷ ss) [] ps qs a b r e = absurd a
one_choice (s ∷ ss) (c ∷ cs) [] qs a b r e = absurd a
one_choice (s ∷ ss) (c ∷ cs) (p ∷ ps) [] a b r e = absurd b
one_choice (s ∷ ss) (c ∷ cs) (p ∷ ps) (q ∷ qs) a b r e = (
  one_frozen s c p q a.0 b.0 (ap (head_or 0) r) (ap (head_or []) e),
  one_choice ss cs ps qs a.1 b.1 (ap tail_of r) (ap tail_of e),
)

-- the theorem: two that come no later than each other have the same codes
pub the_cube_counterexample_is_one : TheCubeCounterexampleIsOne
the_cube_counterexample_is_one ss cs sources one other x y =
    let a = to_least ss cs sources one x in
    let b = to_least ss cs sources other y in
    let r : bottoms_of one ≡ bottoms_of other = not_after_both (bottoms_of one) (bottoms_of other)
    (a.first other b.is_bad) (b.first one a.is_bad) in
    one_choice ss cs one other a.is_bad.chosen b.is_bad.chosen r
    (are_not_after_both (codes_of one) (codes_of other)
    (a.least other b.is_bad (sym r)) (b.least one a.is_bad r))
