-- Masks that have the same sources, and the patterns of one frozen dimension.
use Rattle.std.proofs.{Common.{◌≡◌, ℕ, ◌<◌, ◌↔◌, List, [], ◌∷◌, length, sym, subst, ◌∙◌, arith}, lemmas.List.length-map}
use Rattle.std.{proofs.lemmas.Nat.Bits.{bit_at-lt, bit_at_and, bit_at_ones}, specs.Int.Bits.bit_and}
use Rattle.olap_ast.{proofs.Determined.same_thawed, specs.Formula.Formula.Reach, specs.Frozen.code, specs.Schema.Schema}
use Rattle.olap_base.specs.{Instance.IsMemberOf, declared.ids.CatId.CatId}
use Rattle.olap_bits.specs.declared.sets.CatSet.{CatSet}
use Rattle.olap_cube.{proofs.DeterminedLemmas.same_parts, specs.CubeSummarizable.{Chosen, IsChosen}}
use Rattle.olap_cube_summ.{proofs.BelowLemmas.one_below, specs.Masks.{CanBeBad, Has, all_of}}
use Rattle.olap_cube_summ.specs.{Patterns.{HasPattern, shape_of}, Questions.{sources_in, target_in}, Ways.HasWays}
use Rattle.olap_cube_summ.specs.declared.questions.Question.{Question}

-- ---- masks

-- of the first n sources they have the same
abbrev pub AreSame : ℕ → ℕ → ℕ → Type 0
AreSame n m w = (k : ℕ) → k < n → Has m k ↔ Has w k

-- a mask has the sources that it has
pub same_itself : (n m : ℕ) → AreSame n m m
same_itself n m k l = (λ h. h, λ h. h)

-- what two masks share they share either way
pub same_back : (n m w : ℕ) → AreSame n m w → AreSame n w m
same_back n m w s k l = ((s k l).1, (s k l).0)

-- what two masks have in common
pub has_both : (m p k : ℕ) → Has (bit_and m p) k ↔ (Has m k × Has p k)
has_both m p k = let e = bit_at_and m p k in let a = bit_at-lt m k in let b = bit_at-lt p k in
    (λ h. (omega arith, omega arith), λ t. let u = t.0 in let v = t.1 in omega arith)

-- masks with the same sources, met with patterns with the same, have the same
pub same_met : (n m w p r : ℕ) → AreSame n m w → AreSame n p r → AreSame n (bit_and m p) (bit_and w r)
same_met n m w p r s t k l = (
  λ h. let u = (has_both m p k).0 h in (has_both w r k).1 ((s k l).0 u.0, (t k l).0 u.1),
  λ h. let u = (has_both w r k).0 h in (has_both m p k).1 ((s k l).1 u.0, (t k l).1 u.1),
)

-- a mask with the same sources can be bad too
pub bad_too : (n : ℕ) (sets : List (CatSet 4)) (m w : ℕ) → AreSame n m w → CanBeBad n sets m → CanBeBad n sets w
bad_too n [] m w s b = λ o. b (one_below (Has w) (Has m) n (same_back n m w s) o)
bad_too n (t ∷ sets) m w s b =
    (b.0, b.1, bad_too n sets (bit_and m b.0) (bit_and w b.0) (same_met n m w b.0 b.0 s (same_itself n b.0)) b.2)

-- the mask of all sources has each
pub has_all : (n k : ℕ) → k < n → Has (all_of n) k
has_all n k l = bit_at_ones n k l

-- ---- patterns

-- a question has as many sources by number
pub width : (q : Question) (n : ℕ) → length q.sources ≡ n → length (sources_in q) ≡ n
width q n e = length-map q.sources (λ (x : CatId). x.0) ∙ e

-- a frozen dimension's patterns are the same
pub same_patterns : (s : Schema) (q : Question) (n : ℕ) → length q.sources ≡ n → (h : Chosen)
    → IsChosen s (target_in q) h → (p r : ℕ) → HasPattern s q h p → HasPattern s q h r → AreSame n p r
same_patterns s q n e h a p r hp hr k l =
    let x = a.is_one.stands_for.root in let m = a.is_one.stands_for.root_is in
    let w : k < length (sources_in q) = subst (λ w. k < w) (sym (width q n e)) l in
    (λ y. (hr x m k w).1 ((hp x m k w).0 y), λ y. (hp x m k w).1 ((hr x m k w).0 y))

-- ---- one code

-- choices of one code and one root have the same patterns
pub pattern_too : (s : Schema) (q : Question) (x y : Chosen) → IsChosen s (target_in q) x → IsChosen s (target_in q) y
    → x.bottom ≡ y.bottom → code x.frozen ≡ code y.frozen → (p : ℕ) → HasPattern s q x p → HasPattern s q y p
pattern_too s q x y a b r e p h z m = subst (λ i. HasWays i z (target_in q) (sources_in q) p) shape
    (h z (subst (λ i. IsMemberOf i x.bottom z) (sym shape) (subst (λ d. IsMemberOf (shape_of s y) d z) (sym r) m)))
  where
    parts : (x.frozen.edges ≡ y.frozen.edges) × (x.frozen.names ≡ y.frozen.names)
    parts = same_parts x.frozen.edges y.frozen.edges x.frozen.names y.frozen.names
        (a.is_one.edge_count ∙ sym b.is_one.edge_count) e

    value : x.frozen ≡ y.frozen
    value i = record { edges = parts.0 i; names = parts.1 i }

    shape : shape_of s x ≡ shape_of s y
    shape = same_thawed s (Reach (target_in q)) x.candidates y.candidates a.candidates b.candidates x.bottom x.frozen
        ∙ (λ i. shape_of s (record { bottom = r i; candidates = y.candidates; frozen = value i }))
