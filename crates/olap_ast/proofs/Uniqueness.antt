-- For given candidates there is one least frozen dimension at most, and one counterexample.
use Rattle.std.proofs.Common.{◌≡◌, ℕ, ◌<◌, List, [], ◌∷◌, ◌++◌, length, map, Bool, true, false, cond, refl, sym, subst, ◌∙◌, ◌⊎◌, inl, inr, arith}
use Rattle.std.proofs.lemmas.Bool.{cases_order}
use Rattle.olap_base.{proofs.RankLemmas.not_after_both, specs.Ranks.IsNotAfter}
use Rattle.olap_ast.specs.{Formula.Formula, Frozen.{Candidates, Frozen, IsLeastFrozen, code}, Schema.Schema}
use Rattle.olap_ast.specs.Summarizable.{IsCounterexample, not_by_one}

-- ---- the least is one

-- 0 for absent and 1 for present
abbrev bits : List Bool → List ℕ
bits bs = map (λ b. cond b 1 0) bs

-- a bit is told by its number
pub same_bit : (a b : Bool) → ◌≡◌ {A = ℕ} (cond a 1 0) (cond b 1 0) → a ≡ b
same_bit true true e = refl
same_bit false false e = refl
same_bit a b e = absurd (omega arith)

-- equal codes have equal bits and equal indexes
parts : (a b : List Bool) (m n : List ℕ) → length a ≡ length b → bits a ++ m ≡ bits b ++ n → (a ≡ b) × (m ≡ n)
parts [] [] m n h e = (refl, e)
parts (x ∷ a) (y ∷ b) m n h e = let p : ◌≡◌ {A = ℕ} (cond x 1 0) (cond y 1 0) =
    cc e in let q : bits a ++ m ≡ bits b ++ n = cc e in
    let r = parts a b m n (omega arith) q in let z = same_bit x y p in let w = r.0 in (cc, r.1)
parts a b m n h e = absurd (omega arith)

-- a value is its bits and its indexes
same_frozen : (f h : Frozen) → f.edges ≡ h.edges → f.names ≡ h.names → f ≡ h
same_frozen f h p q = λ i. record { edges = p i; names = q i }

-- two values of as many edges, neither after the other by their codes, are equal
pub code_is_one : (f h : Frozen) → length f.edges ≡ length h.edges → IsNotAfter (code f) (code h)
    → IsNotAfter (code h) (code f) → f ≡ h
code_is_one f h l a b =
    let t = parts f.edges h.edges f.names h.names l (not_after_both (code f) (code h) a b) in
    same_frozen f h t.0 t.1

-- the least is one
pub least_is_one : (s : Schema) (q : Formula) (r : ℕ) (k : Candidates) (f h : Frozen) →
    IsLeastFrozen s q r k f → IsLeastFrozen s q r k h → f ≡ h
least_is_one s q r k f h a b =
    code_is_one f h (a.is_one.edge_count ∙ sym b.is_one.edge_count) (a.least h b.is_one) (b.least f a.is_one)

-- a counterexample is one
pub counterexample_is_one : (s : Schema) (c : ℕ) (sources : List ℕ) (k : Candidates) (b d : ℕ) (f h : Frozen) →
    IsCounterexample s c sources k b f → IsCounterexample s c sources k d h → (b ≡ d) × (f ≡ h)
counterexample_is_one s c sources k b d f h x y =
    let e = go (cases_order b d) in (
      e,
      least_is_one s (not_by_one c sources) d k f h
          (subst (λ r. IsLeastFrozen s (not_by_one c sources) r k f) e x.least) y.least,
    )
  where
    go : (b ≡ d) ⊎ ((b < d) ⊎ (d < b)) → b ≡ d
    go (inl e) = e
    go (inr (inl l)) = absurd (y.first b l x.bottom f x.least.is_one)
    go (inr (inr l)) = absurd (x.first d l y.bottom h y.least.is_one)
