-- The least frozen dimension, as far as it is known.
--     IsEncoded               a pool has the clauses of a task
--     IsReady                 an engine admits all its frozen dimensions
--     IsSame                  two codes begin alike
--     IsPinned                the trail says what stands at the first places of a code
--     NoneLess                at one place none with the same beginning has less
--     SayAt, SaysAt           decisions, or a literal, say what stands at a place
--     IsSettled, NoneAt       what a trail leaves at a place
--     IsPlace, InRange        places of codes, and the numbers that may stand there
--     IsProbed, IsReplaced    another one, with a smaller number at a place
use Rattle.std.specs.Prelude.{◌≡◌, ◌↔◌, ◌+◌, ◌-◌, ℕ, ◌<◌, ◌≤◌, List, ◌++◌, Bool, All, length, slice_index, true}
use Rattle.olap_ast.specs.Frozen.{Frozen, IsLeastFrozen, code}
use Rattle.olap_names.specs.Names.{candidates_of}
use Rattle.olap_pool.specs.declared.literals.Lit.{Lit}
use Rattle.olap_clauses.specs.declared.trails.Step.{Step}
use Rattle.olap_clauses.specs.declared.trails.Trail.{Trail}
use Rattle.olap_clauses.specs.declared.engine.Engine.{Engine}
use Rattle.olap_pool.specs.Literals.{Holds}
use Rattle.olap_clauses.specs.Standing.{AgreesDecisions, is_decision}
use Rattle.olap_clauses.specs.Engines.{admits}
use Rattle.olap_dimsat.specs.Tasks.{Task, IsOne, IsTask, constant_count, schema_of, graph_of}
use Rattle.olap_pool.specs.declared.pools.Pool.{Pool}
use Rattle.olap_pool.specs.Pools.{AreTrue}
use Rattle.olap_dimsat.specs.Reads.{OfAgreeing, Reads, IsShaped}

-- the task is laid out, and each frozen dimension of it has a valuation that makes the clauses true
pub record IsEncoded (t : Task) (pool : Pool) : Type 0 where
  pub task : IsTask t
  pub each : (f : Frozen) → IsOne t f → (v : ℕ → Bool) × Reads t f v × AreTrue v pool

-- each frozen dimension of the task has a valuation that the engine admits
abbrev pub IsReady : Task → Engine → Type 0
IsReady t e = (f : Frozen) → IsOne t f → (v : ℕ → Bool) × Reads t f v × admits v e

-- each decision is of a literal of an edge or a name
abbrev pub AreShaped : Task → List Step → Type 0
AreShaped t steps = All (λ s. is_decision s.reason ≡ true → IsShaped t s.lit) steps

-- the codes are the same at the first p places
abbrev pub IsSame : ℕ → Frozen → Frozen → Type 0
IsSame p f w = (q : ℕ) → q < p → slice_index (code f) q ≡ slice_index (code w) q

-- w is a frozen dimension, and the decisions say that its first p places are as they are
pub record IsPinned (t : Task) (p : ℕ) (w : Frozen) (steps : List Step) : Type 0 where
  pub one : IsOne t w
  pub shaped : AreShaped t steps
  pub exactly : (f : Frozen) (v : ℕ → Bool) → IsOne t f → Reads t f v → AgreesDecisions v steps ↔ IsSame p f w

-- no frozen dimension that is as w before the place p has less there
abbrev pub NoneLess : Task → ℕ → Frozen → Type 0
NoneLess t p w = (f : Frozen) → IsOne t f → IsSame p f w → slice_index (code w) p ≤ slice_index (code f) p

-- the decisions say that the frozen dimension has x at the place p
abbrev pub SayAt : Task → ℕ → ℕ → List Step → List Step → Type 0
SayAt t p x old new = (f : Frozen) (v : ℕ → Bool) → IsOne t f → Reads t f v
    → AgreesDecisions v new ↔ (AgreesDecisions v old × (slice_index (code f) p ≡ x))

-- the literal is true of exactly the frozen dimensions that have x at the place p
abbrev pub SaysAt : Task → ℕ → ℕ → Lit → Type 0
SaysAt t p x l = (f : Frozen) (v : ℕ → Bool) → IsOne t f → Reads t f v → Holds v l ↔ (slice_index (code f) p ≡ x)

-- no frozen dimension that agrees with the trail has less at the place p than w
abbrev pub IsSettled : Task → Trail → ℕ → Frozen → Type 0
IsSettled t trail p w = OfAgreeing t trail (λ f. slice_index (code w) p ≤ slice_index (code f) p)

-- none that agrees with the decisions has x at the place p
abbrev pub NoneAt : Task → ℕ → ℕ → List Step → Type 0
NoneAt t p x old = (f : Frozen) (v : ℕ → Bool) → IsOne t f → Reads t f v → AgreesDecisions v old
    → slice_index (code f) p ≡ x → ⊥

-- literals came to the trail
abbrev pub IsLonger : List Step → List Step → Type 0
IsLonger old new = (more : List Step) × (new ≡ old ++ more)

-- it is the least frozen dimension of the task
abbrev pub IsLeast : Task → Frozen → Type 0
IsLeast t f = IsLeastFrozen (schema_of t) t.question.formula t.question.root (candidates_of t.question.candidates) f

-- a place of codes: one of an edge, or one of a declared category
abbrev pub IsPlace : Task → ℕ → Type 0
IsPlace t p = p < length (graph_of t).edges + length (graph_of t).names

-- the number may stand there
pub record InRange (t : Task) (p x : ℕ) : Type 0 where
  pub edge : p < length (graph_of t).edges → x ≤ 1
  pub name : length (graph_of t).edges ≤ p → x ≤ constant_count t (p - length (graph_of t).edges + 1)

-- w agrees with decisions to which some came that say that x is at p
pub record IsProbed (t : Task) (p x : ℕ) (w : Frozen) (old new : List Step) : Type 0 where
  pub say : SayAt t p x old new
  pub one : IsOne t w
  pub agrees : (v : ℕ → Bool) → Reads t w v → AgreesDecisions v new

-- y is as w before the place p and has x there, and the decisions say so
pub record IsReplaced (t : Task) (p x : ℕ) (w y : Frozen) (steps : List Step) : Type 0 where
  pub pinned : IsPinned t (p + 1) y steps
  pub same : IsSame p y w
  pub number : slice_index (code y) p ≡ x
