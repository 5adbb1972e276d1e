-- All frozen dimensions are listed, and there is a least one or none.
use Rattle.std.proofs.Common.{◌≡◌, ℕ, zero, suc, ◌+◌, ◌<◌, List, [], ◌∷◌, ◌++◌, length, map, Bool, true, false, cond, refl, ap, sym, subst, ◌∙◌, inl, inr, arith}
use Rattle.std.specs.Prelude.{◌⊎◌, ◌≢◌, Contains, slice_index}
use Rattle.olap_base.proofs.ListLemmas.{Contains-from_map, Contains-map, Contains-nil, contains_head}
use Rattle.olap_base.{proofs.RankLemmas.not_after_itself, specs.Deciding.{dec_and, contains_cases}}
use Rattle.olap_base.specs.Ranks.{IsNotAfter}
use Rattle.olap_ast.{proofs.Least.Fits, specs.Constants.FreshNamesExist, specs.Formula.Formula}
use Rattle.olap_ast.specs.{Frozen.{AreCandidates, Candidates, Frozen, IsFrozen, IsLeastFrozen, code}, Schema.Schema}
use Rattle.olap_exists.proofs.DecidingFrozen.{dec_frozen}
use Rattle.olap_exists.proofs.Listed.{AllLists, AreListed, IsAhead, all_lists, all_pairs, ordered_map}
use Rattle.olap_exists.specs.Existing.{FrozenAreListed, LeastFrozenExist}
use native.Mathlib.Decide.{ℕ_discrete}
use mathlib.Core.List.{List-discrete}

-- ---- codes

-- 0 for absent and 1 for present
abbrev bits : List Bool → List ℕ
bits bs = map (λ b. cond b 1 0) bs

-- the first e numbers are edges, and the others are indexes
edges_in : ℕ → List ℕ → List Bool
edges_in zero xs = []
edges_in (suc e) [] = []
edges_in (suc e) (zero ∷ xs) = false ∷ edges_in e xs
edges_in (suc e) (suc x ∷ xs) = true ∷ edges_in e xs

-- the indexes of names in a code, after its edges
names_in : ℕ → List ℕ → List ℕ
names_in zero xs = xs
names_in (suc e) [] = []
names_in (suc e) (x ∷ xs) = names_in e xs

-- the choice of a code
decode : ℕ → List ℕ → Frozen
decode e xs = record { edges = edges_in e xs; names = names_in e xs }

-- the edges are read back from a code
edges_back : (bs : List Bool) (ns : List ℕ) → edges_in (length bs) (bits bs ++ ns) ≡ bs
unfolding edges_in
edges_back [] ns = refl
edges_back (true ∷ bs) ns = ap (λ l. true ∷ l) (edges_back bs ns)
edges_back (false ∷ bs) ns = ap (λ l. false ∷ l) (edges_back bs ns)

-- and so are the indexes of names
names_back : (bs : List Bool) (ns : List ℕ) → names_in (length bs) (bits bs ++ ns) ≡ ns
unfolding names_in
names_back [] ns = refl
names_back (b ∷ bs) ns = names_back bs ns

-- so a choice is read back from its code
decode_code : (e : ℕ) (f : Frozen) → length f.edges ≡ e → decode e (code f) ≡ f
unfolding decode
decode_code e f h = subst (λ n. decode n (code f) ≡ f) h
    (λ i. record { edges = edges_back f.edges f.names i; names = names_back f.edges f.names i })

-- ---- the codes of frozen dimensions are small

-- a number above how many names each of the first n declared categories has
above_names : (ℕ → ℕ) → ℕ → ℕ
above_names t zero = 2
above_names t (suc n) = suc (t n) + above_names t n

-- each category has fewer names than that
names_below : (t : ℕ → ℕ) (n c : ℕ) → c < n → t c < above_names t n
unfolding above_names
names_below t zero c h = absurd (omega arith)
names_below t (suc n) c h = go (split c n h) (names_below t n c)
  where
    split : (c n : ℕ) → c < suc n → (c ≡ n) ⊎ (c < n)
    split c n h = grind arith

    go : (c ≡ n) ⊎ (c < n) → (c < n → t c < above_names t n) → t c < suc (t n) + above_names t n
    go (inl e) rest = subst (λ m. t m < suc (t n) + above_names t n) (sym e) (omega arith)
    go (inr l) rest = let i = rest l in omega (arith, i)

-- and that number is above 1, so the bits of edges are below it too
two_below : (t : ℕ → ℕ) (n : ℕ) → 1 < above_names t n
unfolding above_names
two_below t zero = omega arith
two_below t (suc n) = let i = two_below t n in omega (arith, i)

-- indexes below a bound fit it
fits_names : (n : ℕ) (ns : List ℕ) → ((c : ℕ) → c < length ns → slice_index ns c < n) → Fits (length ns) n ns
fits_names n [] f = tt
fits_names n (x ∷ ns) f = (f 0 (omega arith), fits_names n ns (λ c l. f (suc c) (omega arith)))

-- and so does a code, if the bound is above 1
fits_code : (m n : ℕ) (bs : List Bool) (ns : List ℕ) → length bs + length ns ≡ m → 1 < n → Fits (length ns) n ns
    → Fits m n (bits bs ++ ns)
fits_code m n [] ns e l h = subst (λ x. Fits x n ns) (let z : length ns ≡ m = omega arith in z) h
fits_code zero n (b ∷ bs) ns e l h = absurd (omega arith)
fits_code (suc m) n (b ∷ bs) ns e l h = (bit b, fits_code m n bs ns (omega arith) l h)
  where
    bit : (b : Bool) → cond b 1 0 < n
    bit true = l
    bit false = omega arith

-- ---- all of them

-- the code of f comes before that of h
abbrev IsBefore : Frozen → Frozen → Type 0
IsBefore f h = IsNotAfter (code f) (code h) × (f ≢ h)

module _ (exist : FreshNamesExist) (s : Schema) (q : Formula) (r : ℕ) (k : Candidates) (are : AreCandidates s q k) where
  edge_count : ℕ
  edge_count = length s.graph.edges

  -- the code of a frozen dimension
  abbrev IsCode : List ℕ → Type 0
  IsCode xs = (code (decode (length s.graph.edges) xs) ≡ xs) × IsFrozen s q r k (decode (length s.graph.edges) xs)

  code_is : (f : Frozen) → IsFrozen s q r k f → IsCode (code f)
  code_is f h =
      let e = decode_code (length s.graph.edges) f h.edge_count in
      (ap code e, subst (λ (g : Frozen). IsFrozen s q r k g) (sym e) h)

  bound : ℕ
  bound = above_names (λ c. length (k.texts (suc c))) (length s.graph.names)

  code_fits : (f : Frozen) → IsFrozen s q r k f
      → Fits (length s.graph.edges + length s.graph.names) bound (code f)
  unfolding bound
  code_fits f h =
      let m : length f.edges + length f.names ≡ length s.graph.edges + length s.graph.names =
      (let a = h.edge_count in let b = h.name_count in omega arith) in
      fits_code (length s.graph.edges + length s.graph.names) bound f.edges f.names m
      (two_below (λ c. length (k.texts (suc c))) (length s.graph.names))
      (fits_names bound f.names (λ c l.
      let i = h.in_range c l in
      let b = names_below (λ c. length (k.texts (suc c))) (length s.graph.names) c
      (let n = h.name_count in omega arith) in
      omega (arith, i, b)))

  codes_listed : AllLists IsCode
  codes_listed = all_lists (length s.graph.edges + length s.graph.names) bound IsCode
      (λ xs. dec_and (List-discrete ℕ_discrete (code (decode (length s.graph.edges) xs)) xs)
      (dec_frozen exist s q k are r (decode (length s.graph.edges) xs)))
      (λ xs p. subst (λ ys. Fits (length s.graph.edges + length s.graph.names) bound ys) p.0
      (code_fits (decode (length s.graph.edges) xs) p.1))

  pub frozen_listed : (all : List Frozen) × AreListed IsBefore (IsFrozen s q r k) all
  frozen_listed = let t = codes_listed in (
    map (decode (length s.graph.edges)) t.0,
    record {
      ordered = ordered_map IsAhead IsBefore (decode (length s.graph.edges)) t.0
          (λ x y c d h. ahead x y (t.1.sound x c) (t.1.sound y d) h) t.1.ordered;
      sound = λ f c. let u = Contains-from_map (decode (length s.graph.edges)) t.0 f c in
          subst (λ (g : Frozen). IsFrozen s q r k g) u.2 (t.1.sound u.0 u.1).1;
      complete = λ f h. subst (λ (g : Frozen). Contains (map (decode (length s.graph.edges)) t.0) g)
          (decode_code (length s.graph.edges) f h.edge_count)
          (Contains-map (decode (length s.graph.edges)) t.0 (code f) (t.1.complete (code f) (code_is f h)));
    },
  )
    where
      ahead : (x y : List ℕ) → IsCode x → IsCode y → IsAhead x y
          → IsBefore (decode (length s.graph.edges) x) (decode (length s.graph.edges) y)
      ahead x y p q h = (
        subst (λ a. IsNotAfter a (code (decode (length s.graph.edges) y))) (sym p.0)
            (subst (λ b. IsNotAfter x b) (sym q.0) h.0),
        λ e. h.1 (sym p.0 ∙ ap code e ∙ q.0),
      )

-- there is a least frozen dimension, or none at all
pub least_frozen_exist : FreshNamesExist → LeastFrozenExist
least_frozen_exist exist s q r k are = go (frozen_listed exist s q r k are)
  where
    go : (all : List Frozen) × AreListed IsBefore (IsFrozen s q r k) all
        → ((f : Frozen) × IsLeastFrozen s q r k f) ⊎ ((f : Frozen) → IsFrozen s q r k f → ⊥)
    go ([], l) = inr (λ f h. Contains-nil f (l.complete f h))
    go (f ∷ fs, l) = inl (
      f,
      record {
        candidates = are;
        is_one = l.sound f (contains_head f fs);
        least = λ h z. elim (contains_cases h f fs (l.complete h z)) [
          | inl e ↦ subst (λ (x : Frozen). IsNotAfter (code f) (code x)) e (not_after_itself (code f))
          | inr c ↦ (l.ordered.0 h c).0
        ];
      },
    )

-- as a list by their codes
pub frozen_are_listed : FreshNamesExist → FrozenAreListed
frozen_are_listed exist s q r k are = let t = frozen_listed exist s q r k are in (
  t.0,
  record { ordered = all_pairs IsBefore t.0 t.1.ordered; sound = t.1.sound; complete = t.1.complete },
)
