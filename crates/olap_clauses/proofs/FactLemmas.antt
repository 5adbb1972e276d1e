-- Clauses without literals that are known false, and literals that stand as clauses.
--     agrees_at, one_literal     a literal that stands is true, and so is a clause of it
use Rattle.std.proofs.Common.{◌≡◌, ℕ, suc, zero, ◌+◌, ◌<◌, ◌≤◌, Bool, List, [], ◌∷◌, length, slice_index_or, sym, ◌∙◌, subst, arith, below_more}
use Rattle.std.{proofs.lemmas.List.get_or_default, specs.Prelude.Contains}
use Rattle.olap_pool.specs.{Literals.{Holds, Satisfies}, declared.literals.Lit.Lit}
use Rattle.olap_clauses.{proofs.StandsLemmas.{lit_at, no_lit}, specs.Standing.Agrees, specs.declared.trails.Step.Step}

-- who agrees with the trail makes the literal at each place true
pub agrees_at : (v : ℕ → Bool) (ss : List Step) (p : ℕ) (s : Step) → p < length ss
    → s ≡ slice_index_or ss p s → Agrees v ss → Holds v s.lit
agrees_at v [] p s inside e a = absurd (omega arith)
agrees_at v (t ∷ ss) zero s inside e a = subst (λ (t : Step). Holds v t.lit) (sym e) a.0
agrees_at v (t ∷ ss) (suc p) s inside e a = agrees_at v ss p s (omega arith) e a.1

-- of the first literals of a clause, who agrees with the trail makes only those true that are written
abbrev pub AreKept : List Step → List Lit → ℕ → List Lit → Type 0
AreKept ss clause i work =
    (v : ℕ → Bool) → Agrees v ss → (k : ℕ) → k < i → Holds v (lit_at clause k)
    → Contains work (lit_at clause k)

-- one literal more
pub kept_more : (ss : List Step) (clause : List Lit) (i : ℕ) (old new : List Lit)
    → ((m : Lit) → Contains old m → Contains new m) → AreKept ss clause i old
    → ((v : ℕ → Bool) → Agrees v ss → Holds v (lit_at clause i) → Contains new (lit_at clause i))
    → AreKept ss clause (i + 1) new
kept_more ss clause i old new kept t here v a =
    below_more (λ k. Holds v (lit_at clause k) → Contains new (lit_at clause k)) i
    (λ k h holds. kept (lit_at clause k) (t v a k h holds)) (here v a)

-- a clause that is true is so by what is written
pub kept_all : (ss : List Step) (clause : List Lit) (i : ℕ) (work : List Lit) → length clause ≤ i
    → AreKept ss clause i work → (v : ℕ → Bool) → Agrees v ss → Satisfies v clause
    → Satisfies v work
kept_all ss clause i work all t v a sat =
    let k = sat.1.0 in
    let inside = sat.1.1 in
    let same : lit_at clause k ≡ sat.0 = get_or_default clause k no_lit sat.0 inside ∙ sat.1.2 in
    let holds : Holds v (lit_at clause k) = subst (λ (l : Lit). Holds v l) (sym same) sat.2 in
    let below : k < i = omega (arith, inside) in
    (lit_at clause k, t v a k below holds, holds)
