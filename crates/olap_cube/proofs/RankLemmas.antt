-- The first bad choice by its rank is the least one by its codes, since of one dimension all codes are equally long.
use Rattle.std.proofs.Common.{◌≡◌, ◌+◌, ℕ, suc, List, [], ◌∷◌, ◌++◌, length, refl, sym, ap, inl, inr, arith, ◌∙◌}
use Rattle.std.{proofs.lemmas.List.{length-append, length-map}, specs.Prelude.flat_map}
use Rattle.olap_ast.specs.{Frozen.code, Schema.Schema}
use Rattle.olap_base.specs.Ranks.{IsNotAfter}
use Rattle.olap_cube.specs.Codes.{AreNotAfter, IsLeastChoice, codes_of}
use Rattle.olap_cube.specs.CubeSummarizable.{Chosen, IsBadChoice, IsChosen, IsCubeCounterexample, bottoms_of}
use Rattle.olap_cube.specs.Tuples.{AllZip3}

-- ---- two parts of a rank, the first of which are equally long

-- the order of the wholes is that of the first parts, and if these are equal, of the second
split : (a b m n : List ℕ) → length a ≡ length b → IsNotAfter (a ++ m) (b ++ n)
    → IsNotAfter a b × (a ≡ b → IsNotAfter m n)
split [] [] m n l h = (tt, λ e. h)
split [] (y ∷ b) m n l h = absurd (omega arith)
split (x ∷ a) [] m n l h = absurd (omega arith)
split (x ∷ a) (y ∷ b) m n l (inl h) = (inl h, λ e. absurd (differ e))
  where
    differ : x ∷ a ≡ y ∷ b → ⊥
    differ e = let q : x ≡ y = cc in omega (arith, q, h)
split (x ∷ a) (y ∷ b) m n l (inr h) =
    let r = split a b m n (omega arith) h.1 in (inr (h.0, r.0), λ e. r.1 (cc))

-- and the other way round
joined : (a b m n : List ℕ) → length a ≡ length b → IsNotAfter a b → (a ≡ b → IsNotAfter m n)
    → IsNotAfter (a ++ m) (b ++ n)
joined [] [] m n l h f = f refl
joined [] (y ∷ b) m n l h f = absurd (omega arith)
joined (x ∷ a) [] m n l h f = absurd (omega arith)
joined (x ∷ a) (y ∷ b) m n l (inl h) f = inl h
joined (x ∷ a) (y ∷ b) m n l (inr h) f =
    inr (h.0, joined a b m n (omega arith) h.1 (λ e. f (λ i. h.0 i ∷ e i)))

-- ---- choices

-- of one dimension all codes are equally long
code_lengths : (s : Schema) (c : ℕ) (p q : Chosen) → IsChosen s c p → IsChosen s c q
    → length (code p.frozen) ≡ length (code q.frozen)
code_lengths s c p q a b = of_code p a ∙ sym (of_code q b)
  where
    of_code : (o : Chosen) → IsChosen s c o
        → length (code o.frozen) ≡ length s.graph.edges + length s.graph.names
    of_code o h = length-append _ o.frozen.names
        ∙ ap (λ n. n + length o.frozen.names) (length-map o.frozen.edges _ ∙ h.is_one.edge_count)
        ∙ ap (λ n. length s.graph.edges + n) h.is_one.name_count

-- two choices have as many roots
bottom_lengths : (ss : List Schema) (cs : List ℕ) (ps qs : List Chosen) → AllZip3 IsChosen ss cs ps
    → AllZip3 IsChosen ss cs qs → length (bottoms_of ps) ≡ length (bottoms_of qs)
bottom_lengths [] [] [] [] a b = refl
bottom_lengths [] [] [] (q ∷ qs) a b = absurd b
bottom_lengths [] [] (p ∷ ps) qs a b = absurd a
bottom_lengths [] (c ∷ cs) ps qs a b = absurd a
bottom_lengths (s ∷ ss) [] ps qs a b = absurd a
bottom_lengths (s ∷ ss) (c ∷ cs) [] qs a b = absurd a
bottom_lengths (s ∷ ss) (c ∷ cs) (p ∷ ps) [] a b = absurd b
bottom_lengths (s ∷ ss) (c ∷ cs) (p ∷ ps) (q ∷ qs) a b = ap suc (bottom_lengths ss cs ps qs a.1 b.1)

-- their codes, one after the other, are in the order of the lists of codes
to_codes : (ss : List Schema) (cs : List ℕ) (ps qs : List Chosen) → AllZip3 IsChosen ss cs ps
    → AllZip3 IsChosen ss cs qs
    → IsNotAfter (flat_map (λ p. code p.frozen) ps) (flat_map (λ p. code p.frozen) qs)
    → AreNotAfter (codes_of ps) (codes_of qs)
to_codes [] [] [] [] a b h = tt
to_codes [] [] [] (q ∷ qs) a b h = absurd b
to_codes [] [] (p ∷ ps) qs a b h = absurd a
to_codes [] (c ∷ cs) ps qs a b h = absurd a
to_codes (s ∷ ss) [] ps qs a b h = absurd a
to_codes (s ∷ ss) (c ∷ cs) [] qs a b h = absurd a
to_codes (s ∷ ss) (c ∷ cs) (p ∷ ps) [] a b h = absurd b
to_codes (s ∷ ss) (c ∷ cs) (p ∷ ps) (q ∷ qs) a b h =
    let r = split (code p.frozen) (code q.frozen) (flat_map (λ p. code p.frozen) ps)
    (flat_map (λ p. code p.frozen) qs) (code_lengths s c p q a.0 b.0) h in
    (r.0, λ e. to_codes ss cs ps qs a.1 b.1 (r.1 e))

-- and the other way round
from_codes : (ss : List Schema) (cs : List ℕ) (ps qs : List Chosen) → AllZip3 IsChosen ss cs ps
    → AllZip3 IsChosen ss cs qs → AreNotAfter (codes_of ps) (codes_of qs)
    → IsNotAfter (flat_map (λ p. code p.frozen) ps) (flat_map (λ p. code p.frozen) qs)
from_codes [] [] [] [] a b h = tt
from_codes [] [] [] (q ∷ qs) a b h = absurd b
from_codes [] [] (p ∷ ps) qs a b h = absurd a
from_codes [] (c ∷ cs) ps qs a b h = absurd a
from_codes (s ∷ ss) [] ps qs a b h = absurd a
from_codes (s ∷ ss) (c ∷ cs) [] qs a b h = absurd a
from_codes (s ∷ ss) (c ∷ cs) (p ∷ ps) [] a b h = absurd b
from_codes (s ∷ ss) (c ∷ cs) (p ∷ ps) (q ∷ qs) a b h =
    joined (code p.frozen) (code q.frozen) (flat_map (λ p. code p.frozen) ps) (flat_map (λ p. code p.frozen) qs)
    (code_lengths s c p q a.0 b.0) h.0 (λ e. from_codes ss cs ps qs a.1 b.1 (h.1 e))

module _ (ss : List Schema) (cs : List ℕ) (sources : List (List ℕ)) (choice : List Chosen) where
  -- the first bad choice is the least one
  pub to_least : IsCubeCounterexample ss cs sources choice → IsLeastChoice ss cs sources choice
  to_least x = record {
    is_bad = x.is_one;
    first = λ other b. (parts other b).0;
    least = λ other b e. to_codes ss cs choice other x.is_one.chosen b.chosen ((parts other b).1 (sym e));
  }
    where
      parts : (other : List Chosen) → IsBadChoice ss cs sources other
          → IsNotAfter (bottoms_of choice) (bottoms_of other)
          × (bottoms_of choice ≡ bottoms_of other
          → IsNotAfter (flat_map (λ p. code p.frozen) choice) (flat_map (λ p. code p.frozen) other))
      parts other b = split (bottoms_of choice) (bottoms_of other) (flat_map (λ p. code p.frozen) choice)
          (flat_map (λ p. code p.frozen) other)
          (bottom_lengths ss cs choice other x.is_one.chosen b.chosen) (x.least other b)

  -- and the least one the first
  pub from_least : IsLeastChoice ss cs sources choice → IsCubeCounterexample ss cs sources choice
  from_least x = record {
    is_one = x.is_bad;
    least = λ other b. joined (bottoms_of choice) (bottoms_of other) (flat_map (λ p. code p.frozen) choice)
        (flat_map (λ p. code p.frozen) other)
        (bottom_lengths ss cs choice other x.is_bad.chosen b.chosen) (x.first other b)
        (λ e. from_codes ss cs choice other x.is_bad.chosen b.chosen (x.least other b (sym e)));
  }
