-- Where choices lead, decisions are about what is in the schema.
use Rattle.std.proofs.Common.{◌≡◌, ◌++◌, ◌<◌, ◌≤◌, ℕ, List, [], ◌∷◌, length, get_or, inl, inr, refl, sym, subst, arith}
use Rattle.std.{proofs.lemmas.List.Elements.{Contains-append_cases, Contains-get_or}, specs.Prelude.All}
use Rattle.olap_base.{proofs.ListLemmas.{Contains-nil, Contains-only}, specs.Graph.{Graph, IsCategory, category_count}}
use Rattle.olap_names.specs.Names.{Named}
use Rattle.olap_trail.specs.Decisions.{Decision}
use Rattle.olap_proof.specs.Branches.{AreLegal, IsBranch, IsLegal, first_of, with_choice, with_choices}
use Rattle.olap_proof.specs.{Certificates.start, Places.{Naming, Place, Way as WayHere}, Within.IsWithin}
use Rattle.olap_proof.specs.declared.branches.Choice.{Choice, TheVariants.{Edge, Name, Way}}

-- what holds of a list's elements holds of those of a longer one
all_more : {A : Type 0} (P : A → Type 0) (xs : List A) (y : A) → All P xs → P y → All P (xs ++ y ∷ [])
all_more P xs y all last = λ i d l.
    elim (Contains-append_cases xs (y ∷ []) (get_or (xs ++ y ∷ []) i d) (Contains-get_or (xs ++ y ∷ []) i d l)) [
      | inl a ↦ subst P a.2 (all a.0 (get_or (xs ++ y ∷ []) i d) a.1)
      | inr b ↦ subst P (Contains-only y (get_or (xs ++ y ∷ []) i d) b) last
    ]

-- nothing is decided
pub within_start : (g : Graph) (k : Named) (b : ℕ) → IsCategory g b → length k.texts ≡ category_count g
    → IsWithin g k (start g b)
within_start g k b i t = record {
  graph = refl;
  root = i;
  edges = λ j d l. absurd (omega (arith, l));
  ways = λ w c. absurd (Contains-nil w c);
  texts = t;
  indexes = λ n c. absurd (Contains-nil n c);
}

-- one legal choice more
pub within_more : (g : Graph) (k : Named) (p : Place) (x : Choice) → IsWithin g k p → IsLegal g k p x
    → IsWithin g k (with_choice p x)
within_more g k p (Edge e b) w l = record {
  graph = w.graph;
  root = w.root;
  edges = all_more (λ (d : Decision). d.edge < length g.edges) p.decided.decisions
      (record { edge = e.0; present = b }) w.edges l.0;
  ways = w.ways;
  texts = w.texts;
  indexes = w.indexes;
}
within_more g k p (Name c i) w l =
    let y : Naming = record { category = c.0; index = i } in
    record {
      graph = w.graph;
      root = w.root;
      edges = w.edges;
      ways = w.ways;
      texts = w.texts;
      indexes = λ n m. elim (Contains-append_cases p.namings (y ∷ []) n m) [
        | inl a ↦ w.indexes n a
        | inr b ↦ subst (λ (z : Naming). IsCategory g z.category × (z.index ≤ length (get_or k.texts z.category [])))
            (Contains-only y n b) (l.0.1, l.1)
      ];
    }
within_more g k p (Way a b t) w l =
    let y : WayHere = record { child = a.0; parent = b.0; there = t } in
    record {
      graph = w.graph;
      root = w.root;
      edges = w.edges;
      ways = λ v m. elim (Contains-append_cases p.ways (y ∷ []) v m) [
        | inl h ↦ w.ways v h
        | inr h ↦ subst (λ (z : WayHere). IsCategory g z.child × IsCategory g z.parent) (Contains-only y v h) (l.0, l.1)
      ];
      texts = w.texts;
      indexes = w.indexes;
    }

-- several
within_choices : (g : Graph) (k : Named) (p : Place) (xs : List Choice) → IsWithin g k p → AreLegal g k p xs
    → IsWithin g k (with_choices p xs)
within_choices g k p [] w l = w
within_choices g k p (x ∷ xs) w l = within_choices g k (with_choice p x) xs (within_more g k p x w l.0) l.1

-- so it is along a branch
pub branch_within : (g : Graph) (k : Named) (p : Place) (xs : List Choice) → IsBranch g k p xs → IsWithin g k p
branch_within g k p xs h =
    let first : IsWithin g k (first_of p) =
    subst (λ (j : Graph). IsWithin g k (start j p.decided.root)) (sym h.graph)
    (within_start g k p.decided.root
    (h.root) h.texts) in
    subst (λ (y : Place). IsWithin g k y) (sym h.led_there) (within_choices g k (first_of p) xs first h.legal)
