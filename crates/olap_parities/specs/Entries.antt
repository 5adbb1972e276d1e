-- Literals of some clauses, put into sets of which at most one literal is to be true.
--     Covers     a literal of this row is true
--     IsAlone    no true literal of another row is in the literal's set
--     AreAlone   that is so of each, and each set is one of this many
use Rattle.std.specs.Prelude.{◌≡◌, ◌≢◌, ℕ, ◌<◌, Bool, List, All, Contains}
use Rattle.olap_parities.specs.declared.entries.Entry.{Entry}
use Rattle.olap_pool.specs.Literals.{Holds}

-- a literal of this row is true
abbrev pub Covers : (ℕ → Bool) → List Entry → ℕ → Type 0
Covers v entries row = (e : Entry) × Contains entries e × (e.row ≡ row) × Holds v e.lit

-- the other literal isn't true, if it is of the same set and of another row
abbrev pub IsApart : (ℕ → Bool) → Entry → Entry → Type 0
IsApart v e f = f.row ≢ e.row → f.set ≡ e.set → Holds v f.lit → ⊥

-- the literal is of one of this many sets, and if it is true, no literal of another row in its set is
pub record IsAlone (v : ℕ → Bool) (sets : ℕ) (entries : List Entry) (e : Entry) : Type 0 where
  pub within : e.set < sets
  pub apart : Holds v e.lit → All (IsApart v e) entries

-- each is alone in its set
abbrev pub AreAlone : (ℕ → Bool) → ℕ → List Entry → Type 0
AreAlone v sets entries = All (IsAlone v sets entries) entries
