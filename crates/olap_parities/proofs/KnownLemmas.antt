-- What is known of variables, and of the literals of a clause.
use Rattle.std.proofs.Common.{◌≡◌, ℕ, ◌<◌, ◌≤◌, ◌⊎◌, inl, inr, Bool, List, length, get_or, take, sym, subst, arith, Option, None}
use Rattle.std.proofs.lemmas.{Bool.cases_lt, List.{get_or_past, take_all}, List.Elements.All-contains}
use Rattle.std.specs.Prelude.{All}
use Rattle.olap_pool.specs.{Literals.{Holds, Satisfies}, declared.literals.Lit.Lit}
use Rattle.olap_parities.specs.Known.{Fits, Knows}

-- who is as the table says makes the literal false
abbrev pub IsFalse : List (Option Bool) → Lit → Type 0
IsFalse values l = (v : ℕ → Bool) → Knows values v → Holds v l → ⊥

-- it is this literal, or it is known false
abbrev pub IsFalseBut : List (Option Bool) → Lit → Lit → Type 0
IsFalseBut values lit l = (l ≡ lit) ⊎ IsFalse values l

-- a table that says nothing
pub forgotten : (values : List (Option Bool)) (k : ℕ) → length values ≤ k
    → ((j : ℕ) → j < k → get_or values j None ≡ None) → (v : ℕ → Bool) → Knows values v
forgotten values k h none v x = elim (cases_lt x k) [
  | inl less ↦ subst (λ (o : Option Bool). Fits o (v x)) (sym (none x less)) tt
  | inr past ↦ subst (λ (o : Option Bool). Fits o (v x)) (sym (get_or_past values x None (omega arith))) tt
]

-- a clause of which each literal is known false
pub none_true : (values : List (Option Bool)) (clause : List Lit) (k : ℕ) → length clause ≤ k
    → All (IsFalse values) (take k clause) → (v : ℕ → Bool) → Knows values v → Satisfies v clause → ⊥
none_true values clause k h all v knows sat =
    let each : All (IsFalse values) clause =
    subst (λ (c : List Lit). All (IsFalse values) c) (take_all k clause h) all in
    All-contains (IsFalse values) clause sat.0 each sat.1 v knows sat.2

-- a clause of which each literal but this one is known false
pub one_true : (values : List (Option Bool)) (clause : List Lit) (lit : Lit) (k : ℕ) → length clause ≤ k
    → All (IsFalseBut values lit) (take k clause) → (v : ℕ → Bool) → Knows values v → Satisfies v clause → Holds v lit
one_true values clause lit k h all v knows sat =
    let each : All (IsFalseBut values lit) clause =
    subst (λ (c : List Lit). All (IsFalseBut values lit) c) (take_all k clause h) all in
    elim (All-contains (IsFalseBut values lit) clause sat.0 each sat.1) [
      | inl e ↦ subst (λ (l : Lit). Holds v l) e sat.2
      | inr isnt ↦ absurd (isnt v knows sat.2)
    ]
