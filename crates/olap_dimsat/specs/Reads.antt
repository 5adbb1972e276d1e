-- Valuations of frozen dimensions, and what is read off a trail.
--     Reads       the variables of edges, categories and names have the frozen dimension's values
--     NoneAgrees  no frozen dimension agrees with a trail
--     EdgeReads   in each frozen dimension that agrees with a trail the edge is present, or is absent
--     NameReads   and the category has this index
--     IsRead      each frozen dimension that agrees with the trail is this choice
--     Suits       a choice agrees with a literal, if this is one of an edge or a name
--     IsShaped    the literal is one of an edge or a name
--     IsTaken     the choice is a frozen dimension, and agrees with the literals
use Rattle.std.specs.Prelude.{◌≡◌, ◌≢◌, ◌⊎◌, ℕ, zero, suc, ◌<◌, List, Bool, false, All, ◌==◌, length, slice_index, slice_index_or}
use Rattle.olap_base.specs.Graph.{category_count}
use Rattle.olap_ast.specs.Frozen.{Frozen, chosen, is_present}
use Rattle.olap_pool.specs.declared.literals.Lit.{Lit}
use Rattle.olap_clauses.specs.declared.trails.Step.{Step}
use Rattle.olap_clauses.specs.declared.trails.Trail.{Trail}
use Rattle.olap_clauses.specs.Standing.{Agrees}
use Rattle.olap_clauses.specs.Trails.{steps_of}
use Rattle.olap_frozen.specs.Leaves.{IsSized, chosen_of}
use Rattle.olap_encoding.specs.Layouts.{on_variable, present_variable, name_variable}
use Rattle.olap_dimsat.specs.Tasks.{Task, IsOne, constant_count, graph_of}

-- the index of a category's name; `All` has none
abbrev pub index_in : Frozen → ℕ → ℕ
index_in f zero = 0
index_in f (suc c) = slice_index f.names c

-- the valuation gives edges, categories and names the values of the frozen dimension
pub record Reads (t : Task) (f : Frozen) (v : ℕ → Bool) : Type 0 where
  pub on : (e : ℕ) → e < length (graph_of t).edges → v (on_variable e) ≡ slice_index_or f.edges e false
  pub present : (c : ℕ) → c < category_count (graph_of t)
      → v (present_variable t.layout c) ≡ is_present t.question.root (chosen (graph_of t).edges f.edges) c
  pub named : (c j : ℕ) → c < category_count (graph_of t) → j < constant_count t c
      → v (name_variable t.layout c j) ≡ (index_in f c == suc j)

-- a valuation of a frozen dimension of the task
abbrev pub IsMeant : Task → (ℕ → Bool) → Type 0
IsMeant t v = (f : Frozen) × IsOne t f × Reads t f v

-- P holds of each frozen dimension that agrees with the trail
abbrev pub OfAgreeing : Task → Trail → (Frozen → Type 0) → Type 0
OfAgreeing t trail P = (f : Frozen) (v : ℕ → Bool) → IsOne t f → Reads t f v → Agrees v (steps_of trail) → P f

-- no frozen dimension agrees with the trail
abbrev pub NoneAgrees : Task → Trail → Type 0
NoneAgrees t trail = OfAgreeing t trail (λ f. ⊥)

abbrev pub EdgeReads : Task → Trail → ℕ → Bool → Type 0
EdgeReads t trail e b = OfAgreeing t trail (λ f. slice_index_or f.edges e false ≡ b)

abbrev pub NameReads : Task → Trail → ℕ → ℕ → Type 0
NameReads t trail c i = OfAgreeing t trail (λ f. index_in f c ≡ i)

-- whether the category's name is the one at this place beside the first
abbrev pub ConstantReads : Task → Trail → ℕ → ℕ → Bool → Type 0
ConstantReads t trail c j b = OfAgreeing t trail (λ f. (index_in f c == suc j) ≡ b)

-- no frozen dimension that agrees with the trail has a member of the category
abbrev pub IsAbsent : Task → Trail → ℕ → Type 0
IsAbsent t trail c = OfAgreeing t trail (λ f. is_present t.question.root (chosen (graph_of t).edges f.edges) c ≡ false)

pub record IsRead (t : Task) (trail : Trail) (edges : List Bool) (names : List ℕ) : Type 0 where
  pub sized : IsSized (graph_of t) t.question.candidates edges names
  pub only : OfAgreeing t trail (λ f. f ≡ chosen_of edges names)

-- the choice agrees with the literal, if this is one of an edge or a name
pub record Suits (t : Task) (edges : List Bool) (names : List ℕ) (l : Lit) : Type 0 where
  pub on : (e : ℕ) → e < length (graph_of t).edges → l.variable ≡ on_variable e
      → slice_index_or edges e false ≡ l.positive
  pub named : (c j : ℕ) → c < category_count (graph_of t) → c ≢ 0 → j < constant_count t c
      → l.variable ≡ name_variable t.layout c j → (slice_index names c == suc j) ≡ l.positive

-- the variable is that of a declared category's name beside the first
pub record IsNameVariable (t : Task) (x : ℕ) : Type 0 where
  pub category : ℕ
  pub place : ℕ
  pub inside : category < category_count (graph_of t)
  pub declared : category ≢ 0
  pub count : place < constant_count t category
  pub is : x ≡ name_variable t.layout category place

-- the literal is one of an edge or a name
abbrev pub IsShaped : Task → Lit → Type 0
IsShaped t l = ((e : ℕ) × (e < length (graph_of t).edges) × (l.variable ≡ on_variable e)) ⊎ IsNameVariable t l.variable

-- the choice agrees with each literal that is one of an edge or a name
abbrev pub AllSuit : Task → List Bool → List ℕ → List Step → Type 0
AllSuit t edges names steps = All (λ s. Suits t edges names s.lit) steps

pub record IsTaken (t : Task) (edges : List Bool) (names : List ℕ) (steps : List Step) : Type 0 where
  pub one : IsOne t (chosen_of edges names)
  pub suits : AllSuit t edges names steps
