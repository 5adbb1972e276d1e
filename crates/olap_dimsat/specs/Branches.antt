-- The places of a code at which there may be more, with what is decided before them.
--     IsRefuted     none that agrees with a trail has a number at a place
--     IsTopped      none that agrees has more there
--     IsBranch      what a branch says
--     IsBehind      one branch comes after another
--     AreBranches   each place at which there may be more is a branch
--     IsOpen        the places before one are decided, and have their branches
use Rattle.std.specs.Prelude.{◌≡◌, ℕ, ◌<◌, ◌≤◌, List, All, AllPairs, Contains, length, slice_index, take}
use Rattle.olap_ast.specs.Frozen.{Frozen, code}
use Rattle.olap_clauses.specs.declared.trails.Step.{Step}
use Rattle.olap_clauses.specs.declared.trails.Trail.{Trail}
use Rattle.olap_dimsat.specs.declared.branching.Branch.{Branch}
use Rattle.olap_dimsat.specs.Following.{NoneMore}
use Rattle.olap_dimsat.specs.Pinned.{IsPinned}
use Rattle.olap_dimsat.specs.Reads.{OfAgreeing}
use Rattle.olap_dimsat.specs.Tasks.{Task}

-- no frozen dimension that agrees with the trail has x at the place p
abbrev pub IsRefuted : Task → Trail → ℕ → ℕ → Type 0
IsRefuted t trail p x = OfAgreeing t trail (λ f. slice_index (code f) p ≡ x → ⊥)

-- no frozen dimension that agrees with the trail has more at the place p than w
abbrev pub IsTopped : Task → Trail → ℕ → Frozen → Type 0
IsTopped t trail p w = OfAgreeing t trail (λ f. slice_index (code f) p ≤ slice_index (code w) p)

-- the branch is at one of the first p places, and the first literals, up to its mark, say that those before it are w's
pub record IsBranch (t : Task) (p : ℕ) (w : Frozen) (steps : List Step) (b : Branch) : Type 0 where
  pub place : b.place < p
  pub mark : b.mark ≤ length steps
  pub pinned : IsPinned t b.place w (take b.mark steps)

-- branch b is at a later place than a, and has no fewer literals
abbrev pub IsBehind : Branch → Branch → Type 0
IsBehind a b = (a.place < b.place) × (a.mark ≤ b.mark)

-- of the first p places each at which some frozen dimension with the same places before has more than w is a branch
pub record AreBranches (t : Task) (p : ℕ) (w : Frozen) (steps : List Step) (branches : List Branch) : Type 0 where
  pub ordered : AllPairs IsBehind branches
  pub each : All (IsBranch t p w steps) branches
  pub rest : (q : ℕ) → q < p → ((b : Branch) → Contains branches b → b.place ≡ q → ⊥) → NoneMore t q w

-- the literals say that the places before p, of the first n, are w's, and have their branches
pub record IsOpen (t : Task) (p n : ℕ) (w : Frozen) (steps : List Step) (branches : List Branch) : Type 0 where
  pub first : p ≤ n
  pub pinned : IsPinned t p w steps
  pub branched : AreBranches t p w steps branches
