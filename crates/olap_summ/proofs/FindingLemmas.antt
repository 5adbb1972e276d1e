-- The findings so far, and one more.
use Rattle.std.proofs.Common.{◌≡◌, ℕ, zero, suc, ◌+◌, ◌<◌, ◌≤◌, List, [], ◌∷◌, ◌++◌, length, get_or, map, refl, ap, sym, subst, ◌∙◌, ◌⊎◌, inl, inr, arith}
use Rattle.std.proofs.lemmas.List.{map-append}
use Rattle.std.proofs.lemmas.List.Elements.{Contains-append_left, Contains-get_or, Contains-push, Contains-push_cases}
use Rattle.std.proofs.lemmas.List.Quantifiers.{all_pairs_push}
use Rattle.std.proofs.lemmas.Option.{get_or_from_slice_get, slice_get-get_or, slice_get_within}
use Rattle.olap_ast.specs.Findings.{AreFindings, Finding, Finding.Unsatisfiable, Finding.Redundant, Finding.Unused, IsFinding, IsRedundant, IsUnsatisfiable, IsUnused, finding_rank}
use Rattle.olap_ast.specs.Schema.{Schema}
use Rattle.olap_base.specs.Ranks.{IsNotAfter}
use Rattle.olap_graph.specs.Lookups.{edge_at}
use Rattle.olap_summ.specs.Audits.{AreFindingsBefore, IsBefore, IsEarlier, finding_of, kind_of, place_of, redundant, unused}
use Rattle.olap_summ.specs.declared.auditing.Finding.{Finding as Told}

-- ---- kinds and places

-- findings of one kind at one place are one
same_finding : (f g : Finding) → kind_of f ≡ kind_of g → place_of f ≡ place_of g → f ≡ g
same_finding (Unsatisfiable c) (Unsatisfiable d) k p = ap Unsatisfiable p
same_finding (Redundant n) (Redundant m) k p = ap Redundant p
same_finding (Unused e) (Unused x) k p = ap Unused p
same_finding f g k p = absurd (omega (arith, k))

-- the rank of a finding is its kind and its place
rank_is : (f : Finding) → finding_rank f ≡ kind_of f ∷ place_of f ∷ []
rank_is (Unsatisfiable c) = refl
rank_is f = refl

-- a finding before another's kind and place is earlier
earlier : (f g : Finding) → IsBefore (kind_of g) (place_of g) f → IsEarlier f g
earlier f g b = (
  rw (rank_is f, rank_is g) (not_after b),
  λ e. differ b (ap kind_of e) (ap place_of e),
)
  where
    not_after : IsBefore (kind_of g) (place_of g) f
        → IsNotAfter (kind_of f ∷ place_of f ∷ []) (kind_of g ∷ place_of g ∷ [])
    not_after (inl l) = inl l
    not_after (inr h) = inr (h.0, inl h.1)

    differ : IsBefore (kind_of g) (place_of g) f → kind_of f ≡ kind_of g → place_of f ≡ place_of g → ⊥
    differ (inl l) k p = omega (arith, l, k)
    differ (inr h) k p = let l = h.1 in omega (arith, l, p)

-- ---- one place on

-- what comes before the next place comes before this one, or stands here
which : (kind place n k p : ℕ) → n ≡ place + 1 → (k < kind) ⊎ ((k ≡ kind) × (p < n))
    → ((k < kind) ⊎ ((k ≡ kind) × (p < place))) ⊎ ((k ≡ kind) × (p ≡ place))
which kind place n k p e h = grind arith

-- what comes before this place comes before the next
wider : (kind place n k p : ℕ) → n ≡ place + 1 → (k < kind) ⊎ ((k ≡ kind) × (p < place))
    → (k < kind) ⊎ ((k ≡ kind) × (p < n))
wider kind place n k p e h = grind arith

-- a finding at this place is put after the others
pub one_more : (s : Schema) (kind place n : ℕ) (list : List Finding) (f : Finding)
    → AreFindingsBefore s kind place list → kind_of f ≡ kind → place_of f ≡ place → n ≡ place + 1 → IsFinding s f
    → AreFindingsBefore s kind n (list ++ f ∷ [])
one_more s kind place n list f b k p e is = record {
  ordered = all_pairs_push IsEarlier list f b.ordered (λ i d h.
      let g = get_or list i d in
      earlier g f (rw (k, p) ((b.sound g (Contains-get_or list i d h)).1)));
  sound = λ g c. elim (Contains-push_cases list f g c) [
    | inl h ↦ let t = b.sound g h in (t.0, wider kind place n (kind_of g) (place_of g) e t.1)
    | inr q ↦ rw (← q) (is, inr (k, omega (arith, p, e)))
  ];
  complete = λ g g_is before. elim (which kind place n (kind_of g) (place_of g) e before) [
    | inl h ↦ Contains-append_left list (f ∷ []) g (b.complete g g_is h)
    | inr h ↦ rw (same_finding g f (h.0 ∙ sym k) (h.1 ∙ sym p)) (Contains-push list f)
  ];
}

-- if there is none at this place the list stays
pub no_more : (s : Schema) (kind place n : ℕ) (list : List Finding) → AreFindingsBefore s kind place list
    → n ≡ place + 1 → ((f : Finding) → kind_of f ≡ kind → place_of f ≡ place → IsFinding s f → ⊥)
    → AreFindingsBefore s kind n list
no_more s kind place n list b e none = record {
  ordered = b.ordered;
  sound = λ g c. let t = b.sound g c in (t.0, wider kind place n (kind_of g) (place_of g) e t.1);
  complete = λ g g_is before. elim (which kind place n (kind_of g) (place_of g) e before) [
    | inl h ↦ b.complete g g_is h
    | inr h ↦ absurd (none g h.0 h.1 g_is)
  ];
}

-- ---- in the words of the code

-- a finding is added
pub added : (s : Schema) (old new : List Told) (x : Told)
    → AreFindingsBefore s (kind_of (finding_of x)) (place_of (finding_of x)) (map finding_of old)
    → IsFinding s (finding_of x) → new ≡ old ++ x ∷ []
    → AreFindingsBefore s (kind_of (finding_of x)) (place_of (finding_of x) + 1) (map finding_of new)
added s old new x b is q = rw (q, map-append)
    (one_more s _ _ _ (map finding_of old) (finding_of x) b refl refl refl is)

-- and none is
pub none_added : (s : Schema) (kind place : ℕ) {old new : List Told}
    → AreFindingsBefore s kind place (map finding_of old)
    → ((f : Finding) → kind_of f ≡ kind → place_of f ≡ place → IsFinding s f → ⊥) → new ≡ old
    → AreFindingsBefore s kind (place + 1) (map finding_of new)
none_added s kind place {old = old} b none q = rw q (no_more s kind place _ (map finding_of old) b refl none)

-- a category that can have a member is no finding
pub not_unsatisfiable : (s : Schema) (c : ℕ) → (IsUnsatisfiable s c → ⊥) → (f : Finding) → kind_of f ≡ 1
    → place_of f ≡ c → IsFinding s f → ⊥
not_unsatisfiable s c n (Unsatisfiable d) k p is = n (rw p at is.1)
not_unsatisfiable s c n f k p is = omega (arith, k)

-- nor is a constraint that the others don't imply
pub not_redundant : (s : Schema) (j : ℕ) → (IsRedundant s j → ⊥) → (f : Finding) → kind_of f ≡ 2
    → place_of f ≡ j + 1 → IsFinding s f → ⊥
not_redundant s j n (Redundant zero) k p is = is
not_redundant s j n (Redundant (suc m)) k p is = let q : m ≡ j = omega (arith, p) in n (rw q at is)
not_redundant s j n f k p is = omega (arith, k)

-- nor is an edge that some legal instance uses
pub not_unused : (s : Schema) (j : ℕ) → (IsUnused s (edge_at s.graph j) → ⊥) → (f : Finding) → kind_of f ≡ 3
    → place_of f ≡ j → IsFinding s f → ⊥
not_unused s j n (Unused x) k p is =
    let at = get_or_from_slice_get s.graph.edges x is.0 (record { child = 0; parent = 0 }) is.1 in
    n (subst (λ y. IsUnused s (edge_at s.graph y)) p (subst (IsUnused s) (sym at) is.2))
not_unused s j n f k p is = omega (arith, k)

-- a redundant constraint is a finding, counted from 1
pub redundant_found : (s : Schema) (j n : ℕ) → n ≡ j + 1 → IsRedundant s j → IsFinding s (Redundant n)
redundant_found s j n e r = let q : n ≡ suc j = omega (arith, e) in rw q r

-- an unused edge is a finding
pub unused_found : (s : Schema) (j : ℕ) → j < length s.graph.edges → IsUnused s (edge_at s.graph j)
    → IsFinding s (Unused j)
unused_found s j h u = (edge_at s.graph j, slice_get-get_or s.graph.edges j (record { child = 0; parent = 0 }) h, u)

-- ---- the kinds

-- after the last place of a kind come the places of the next
next_kind : (s : Schema) (kind place next first : ℕ) (list : List Finding) → AreFindingsBefore s kind place list
    → next ≡ kind + 1 → ((f : Finding) → kind_of f ≡ kind → IsFinding s f → place_of f < place)
    → ((f : Finding) → kind_of f ≡ next → IsFinding s f → first ≤ place_of f)
    → AreFindingsBefore s next first list
next_kind s kind place next first list b e within from = record {
  ordered = b.ordered;
  sound = λ g c. let t = b.sound g c in (t.0, inl (below (kind_of g) (place_of g) t.1));
  complete = λ g g_is before. b.complete g g_is (back g g_is before);
}
  where
    below : (k p : ℕ) → (k < kind) ⊎ ((k ≡ kind) × (p < place)) → k < next
    below k p h = grind (arith, e)

    split : (k : ℕ) → k < next → (k < kind) ⊎ (k ≡ kind)
    split k l = grind (arith, e)

    back : (g : Finding) → IsFinding s g → IsBefore next first g → IsBefore kind place g
    back g is (inl l) = elim (split (kind_of g) l) [ inl h ↦ inl h | inr q ↦ inr (q, within g q is) ]
    back g is (inr h) = let l = h.1 in let m = from g h.0 is in absurd (omega (arith, l, m))

-- after the constraints come the edges
pub to_edges : (s : Schema) (n : ℕ) (list : List Finding) → n ≡ length s.constraints + 1
    → AreFindingsBefore s redundant n list
    → AreFindingsBefore s unused 0 list
to_edges s n list e b = next_kind s 2 n 3 0 list b refl within (λ f k is. omega arith)
  where
    within : (f : Finding) → kind_of f ≡ 2 → IsFinding s f → place_of f < n
    within (Redundant zero) k is = absurd is
    within (Redundant (suc m)) k is = let l = slice_get_within s.constraints m is.0 is.1 in omega (arith, l, e)
    within f k is = absurd (omega (arith, k))

-- after the edges there is nothing
pub all_found : (s : Schema) (n : ℕ) (list : List Finding) → n ≡ length s.graph.edges
    → AreFindingsBefore s unused n list
    → AreFindings s list
all_found s n list e b = record {
  ordered = b.ordered;
  sound = λ f c. (b.sound f c).0;
  complete = λ f is. b.complete f is (before f is);
}
  where
    before : (f : Finding) → IsFinding s f → IsBefore 3 n f
    before (Unused k) is = inr (refl, let l = slice_get_within s.graph.edges k is.0 is.1 in omega (arith, l, e))
    before f is = inl (omega arith)
