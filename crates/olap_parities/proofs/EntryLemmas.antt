-- Literals of clauses in sets: where the clauses are more than the sets, one of them isn't true.
use Rattle.std.proofs.Common.{◌≡◌, ℕ, zero, suc, ◌<◌, ◌≤◌, Bool, inl, inr, eqb, List, [], ◌∷◌, ◌++◌, length, get_or, take, refl, ap, sym, ◌∙◌, subst, arith, length-append, Option}
use Rattle.std.proofs.{Math.Seq.get_or-append_seam, lemmas.Bool.{cases_eq, eqb-true, ne_eqb}}
use Rattle.std.proofs.lemmas.List.{get_or_append_left, get_or_default, take_all, Elements.{All-contains, All-weaker}}
use Rattle.std.proofs.lemmas.Map.{Keys.IsDistinct-from_apart, Steps.length-le_from_distinct_below}
use Rattle.std.{proofs.lemmas.Map.Views.Contains-from_any, specs.List.IsDistinct, specs.Prelude.{All, Contains}}
use Rattle.olap_pool.specs.{Literals.{Holds, Satisfies}, declared.literals.Lit.Lit}
use Rattle.olap_parities.specs.{Entries.{Covers, IsApart, IsAlone, AreAlone}, Known.Knows, declared.entries.Entry.Entry}

-- a literal that is true covers its row
abbrev pub IsEntered : List (Option Bool) → List Entry → ℕ → Lit → Type 0
IsEntered values entries row l = (v : ℕ → Bool) → Knows values v → Holds v l → Covers v entries row

-- what covers a row covers it when entries come
pub covers_more : (v : ℕ → Bool) (old new : List Entry) (row : ℕ)
    → ((e : Entry) → Contains old e → Contains new e) → Covers v old row → Covers v new row
covers_more v old new row kept c = (c.0, kept c.0 c.1, c.2, c.3)

-- what is entered stays so when entries come
pub entered_more : (values : List (Option Bool)) (old new : List Entry) (row : ℕ) (lits : List Lit)
    → ((e : Entry) → Contains old e → Contains new e) → All (IsEntered values old row) lits
    → All (IsEntered values new row) lits
entered_more values old new row lits kept all =
    All-weaker (IsEntered values old row) (IsEntered values new row)
    (λ l is v knows holds. covers_more v old new row kept (is v knows holds)) lits all

-- a clause whose literals are all entered covers its row
pub entered_all : (values : List (Option Bool)) (entries : List Entry) (row : ℕ) (clause : List Lit) (k : ℕ)
    → length clause ≤ k → All (IsEntered values entries row) (take k clause) → (v : ℕ → Bool) → Knows values v
    → Satisfies v clause → Covers v entries row
entered_all values entries row clause k h all v knows sat =
    let each : All (IsEntered values entries row) clause =
    subst (λ (c : List Lit). All (IsEntered values entries row) c) (take_all k clause h) all in
    All-contains (IsEntered values entries row) clause sat.0 each sat.1 v knows sat.2

-- a literal of this row is true, and in this set
abbrev Stands : (ℕ → Bool) → List Entry → ℕ → ℕ → Type 0
Stands v entries row place =
    (e : Entry) × Contains entries e × (e.row ≡ row) × (e.set ≡ place) × Holds v e.lit

-- the sets of true literals, one of each of the first rows
record Chosen (v : ℕ → Bool) (entries : List Entry) (n : ℕ) : Type 0 where
  sets : List ℕ
  count : length sets ≡ n
  stands : (k : ℕ) → k < n → Stands v entries k (get_or sets k 0)

-- one true literal of each row is chosen
chosen : (v : ℕ → Bool) (entries : List Entry) (n : ℕ) → ((row : ℕ) → row < n → Covers v entries row)
    → Chosen v entries n
chosen v entries zero covers = record { sets = []; count = refl; stands = λ k h. absurd (omega arith) }
chosen v entries (suc n) covers =
    let before = chosen v entries n (λ row h. covers row (omega arith)) in
    let last = covers n (omega arith) in
    let more : List ℕ = before.sets ++ last.0.set ∷ [] in
    record {
      sets = more;
      count = let c = before.count in let l = length-append before.sets (last.0.set ∷ []) in omega arith;
      stands = λ k h. elim (cases_eq k n) [
        | inl e ↦
            let here : get_or more k 0 ≡ last.0.set =
            ap (λ i. get_or more i 0) (e ∙ sym before.count) ∙ get_or-append_seam before.sets last.0.set [] 0 in
            (last.0, last.1, last.2 ∙ sym e, sym here, last.3)
        | inr ne ↦
            let c = before.count in
            let within : k < length before.sets = omega arith in
            let same : get_or more k 0 ≡ get_or before.sets k 0 =
            get_or_append_left before.sets (last.0.set ∷ []) 0 k within in
            subst (λ s. Stands v entries k s) (sym same) (before.stands k (omega arith))
      ];
    }

-- two rows whose true literals are in one set
clash : (v : ℕ → Bool) (sets : ℕ) (entries : List Entry) (i j a b : ℕ) → i < j → a ≡ b → AreAlone v sets entries
    → Stands v entries i a → Stands v entries j b → ⊥
clash v sets entries i j a b less same alone first second =
    let is : IsAlone v sets entries first.0 = All-contains (IsAlone v sets entries) entries first.0 alone first.1 in
    let apart : IsApart v first.0 second.0 =
    All-contains (IsApart v first.0) entries second.0 (is.apart first.4) second.1 in
    apart (λ e. let x = first.2 in let y = second.2 in omega arith) (second.3 ∙ sym same ∙ sym first.3) second.4

-- more rows than sets
pub crowded : (v : ℕ → Bool) (rows sets : ℕ) (entries : List Entry) → sets < rows
    → ((row : ℕ) → row < rows → Covers v entries row) → AreAlone v sets entries → ⊥
crowded v rows sets entries few covers alone =
    let le = length-le_from_distinct_below c.sets sets apart (λ q h. below q (Contains-from_any eqb-true q c.sets h)) in
    let count = c.count in
    absurd (omega arith)
  where
    c : Chosen v entries rows
    c = chosen v entries rows covers

    inside : (k : ℕ) → k < length c.sets → Stands v entries k (get_or c.sets k 0)
    inside k h = let count = c.count in c.stands k (omega arith)

    apart : IsDistinct eqb c.sets
    apart = IsDistinct-from_apart eqb c.sets (λ i j d less h.
        ne_eqb (get_or c.sets i d) (get_or c.sets j d) (λ same.
        let within : i < length c.sets = omega arith in
        let equal : get_or c.sets i 0 ≡ get_or c.sets j 0 =
        get_or_default c.sets i 0 d within ∙ same ∙ get_or_default c.sets j d 0 h in
        clash v sets entries i j _ _ less equal alone (inside i within) (inside j h)))

    below : (q : ℕ) → Contains c.sets q → q < sets
    below q in_ =
        let k = in_.0 in
        let s = inside k in_.1 in
        let is : IsAlone v sets entries s.0 = All-contains (IsAlone v sets entries) entries s.0 alone s.1 in
        let e : s.0.set ≡ q = s.3 ∙ get_or_default c.sets k 0 q in_.1 ∙ in_.2 in
        let w = is.within in
        omega arith
