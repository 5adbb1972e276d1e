-- The branch of a tree that leads to a place: the choices, one of the cases of each line that split a place.
--     with_choice   the place with one choice more
--     with_choices  with several, outermost first
--     siblings      the cases that are open after one
--     left_open     what is open, of the tree, after the place that the choices lead to
--     IsNamed       its category has names
--     IsLegal       the choice decides what isn't decided
--     AreLegal      and so does each of several
--     IsBranch      the place is where the choices lead
--     GoesOn        it is where what is open goes on, or nothing is open
use Rattle.std.specs.Prelude.{◌≡◌, ◌≤◌, ◌<◌, ◌+◌, ◌-◌, ◌++◌, List, [], ◌∷◌, Bool, true, false, None, length, map, slice_index_or}
use Rattle.std.specs.List.{range_with_len}
use Rattle.olap_base.specs.Graph.{Graph, IsCategory, IsDeclared, category_count}
use Rattle.olap_names.specs.Names.{Named}
use Rattle.olap_trail.specs.Decisions.{status_of}
use Rattle.olap_proof.specs.declared.branches.Choice.{Choice}
use Rattle.olap_proof.specs.declared.branches.Choice.TheVariants.{Edge, Name, Way}
use Rattle.olap_proof.specs.Certificates.{Open, Open.At, start, with_edge, with_name, with_way}
use Rattle.olap_proof.specs.Places.{Place, way_of}

-- the place with one choice more
abbrev pub with_choice : Place → Choice → Place
with_choice p (Edge e b) = with_edge p e.0 b
with_choice p (Name c i) = with_name p c.0 i
with_choice p (Way a b t) = with_way p a.0 b.0 t

-- with several, outermost first
abbrev pub with_choices : Place → List Choice → Place
with_choices p [] = p
with_choices p (x ∷ xs) = with_choices (with_choice p x) xs

-- the other case, if this is the first one
abbrev pub unless : Bool → Open → List Open
unless true o = []
unless false o = o ∷ []

-- the cases that are open after one
abbrev pub siblings : Named → Place → Choice → List Open
siblings k p (Edge e b) = unless b (At (with_edge p e.0 true))
siblings k p (Name c i) =
    map (λ j. At (with_name p c.0 j)) (range_with_len (i + 1) (length (slice_index_or k.texts c.0 []) - i))
siblings k p (Way a b t) = unless t (At (with_way p a.0 b.0 true))

-- what is open, of the tree, after the place that the choices lead to
abbrev pub left_open : Named → Place → List Choice → List Open → List Open
left_open k p [] acc = acc
left_open k p (x ∷ xs) acc = left_open k (with_choice p x) xs (siblings k p x ++ acc)

-- the category is one of those that have names
abbrev pub IsNamed : Named → Choice → Type 0
IsNamed k (Edge e b) = Unit {0}
IsNamed k (Name c i) = c.0 < length k.texts
IsNamed k (Way a b t) = Unit {0}

-- the choice decides what isn't decided
abbrev pub IsLegal : Graph → Named → Place → Choice → Type 0
IsLegal g k p (Edge e b) = (e.0 < length g.edges) × (status_of p.decided e.0 ≡ None)
IsLegal g k p (Name c i) = IsDeclared g c.0 × (i ≤ length (slice_index_or k.texts c.0 []))
IsLegal g k p (Way a b t) = IsCategory g a.0 × IsCategory g b.0 × (way_of p.ways a.0 b.0 ≡ None)

-- and so does each of several
abbrev pub AreLegal : Graph → Named → Place → List Choice → Type 0
AreLegal g k p [] = Unit {0}
AreLegal g k p (x ∷ xs) = IsLegal g k p x × AreLegal g k (with_choice p x) xs

-- where nothing is decided
abbrev pub first_of : Place → Place
first_of p = start p.decided.graph p.decided.root

-- the place is where the choices lead
pub record IsBranch (g : Graph) (k : Named) (p : Place) (xs : List Choice) : Type 0 where
  pub graph : p.decided.graph ≡ g
  pub root : IsCategory g p.decided.root
  pub texts : length k.texts ≡ category_count g
  pub led_there : p ≡ with_choices (first_of p) xs
  pub legal : AreLegal g k (first_of p) xs

-- what was open, of the tree, after the place is what is open from another place on; or nothing was
abbrev pub GoesOn : Graph → Named → Place → List Choice → Place → List Choice → Bool → Type 0
GoesOn g k p xs r ys false = (acc : List Open) → left_open k (first_of p) xs acc ≡ acc
GoesOn g k p xs r ys true = IsBranch g k r ys × (first_of r ≡ first_of p)
    × ((acc : List Open) → left_open k (first_of p) xs acc ≡ At r ∷ left_open k (first_of r) ys acc)
