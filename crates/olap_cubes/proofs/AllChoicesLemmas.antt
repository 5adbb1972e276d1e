-- All choices of a frozen dimension for each dimension of a cube are listed, with one set of candidates; whatever the
-- candidates, a choice can't be told from one of them.
use Rattle.std.proofs.Common.{◌≡◌, ℕ, zero, suc, ◌+◌, ◌<◌, List, [], ◌∷◌, ◌++◌, length, map, refl, ap, sym, subst, ◌∙◌, inl, inr, arith}
use Rattle.std.{proofs.lemmas.List.Elements.{All-head, All-tail}, specs.Prelude.{All, Contains}}
use Rattle.olap_base.proofs.GeneralLemmas.{same_or_below_suc}
use Rattle.olap_base.proofs.ListLemmas.{Contains-from_map, Contains-map, Contains-nil, contains_head}
use Rattle.olap_base.specs.{Deciding.{contains_cases, contains_cons}, Graph.IsBottom}
use Rattle.olap_ast.proofs.{Determined.{same_thawed, still_frozen}, SameAtoms.kinds_too}
use Rattle.olap_ast.specs.Formula.{Formula.Reach, Formula.Truth}
use Rattle.olap_ast.specs.Frozen.{AreCandidates, Candidates, CandidatesExist, Frozen, IsFrozen, code, thawed}
use Rattle.olap_ast.specs.{Schema.Schema, Valid.IsValidSchema}
use Rattle.olap_cube.specs.{Codes.codes_of, CubeSummarizable.{Chosen, IsChosen, bottoms_of, instances_of}}
use Rattle.olap_cube.specs.Tuples.{AllZip3}
use Rattle.olap_exists.proofs.{Counterexamples.dec_bottom, FindingsListed.truth_kinds}
use Rattle.olap_exists.{proofs.Listed.{from_either, in_left, in_right}, specs.Existing.FrozenAreListed}

-- ---- the same frozen dimension, whichever candidates it has

-- of one dimension
pub record SameAs (s : Schema) (p q : Chosen) : Type 0 where
  pub bottom : p.bottom ≡ q.bottom
  pub codes : code p.frozen ≡ code q.frozen
  pub instance : thawed s p.candidates p.bottom p.frozen ≡ thawed s q.candidates q.bottom q.frozen

-- of all dimensions
abbrev pub AreSame : List Schema → List Chosen → List Chosen → Type 0
AreSame [] [] [] = Unit {0}
AreSame (s ∷ ss) (p ∷ ps) (q ∷ qs) = SameAs s p q × AreSame ss ps qs
AreSame _ _ _ = ⊥

-- so the bottom categories, the codes and the instances are the same
pub all_same : (ss : List Schema) (ps qs : List Chosen) → AreSame ss ps qs
    → (bottoms_of ps ≡ bottoms_of qs) × (codes_of ps ≡ codes_of qs) × (instances_of ss ps ≡ instances_of ss qs)
all_same [] [] [] a = (refl, refl, refl)
all_same [] [] (q ∷ qs) a = absurd a
all_same [] (p ∷ ps) qs a = absurd a
all_same (s ∷ ss) [] qs a = absurd a
all_same (s ∷ ss) (p ∷ ps) [] a = absurd a
all_same (s ∷ ss) (p ∷ ps) (q ∷ qs) a =
    let r = all_same ss ps qs a.1 in
    (λ i. a.0.bottom i ∷ r.0 i, λ i. a.0.codes i ∷ r.1 i, λ i. a.0.instance i ∷ r.2 i)

-- ---- one element of each list

-- an element, and then a list of the rest
product : {X : Type 0} → List X → List (List X) → List (List X)
product [] rest = []
product (x ∷ xs) rest = map (λ ys. x ∷ ys) rest ++ product xs rest

-- it has one list for each element and each list of the rest
in_product : {X : Type 0} (xs : List X) (rest : List (List X)) (x : X) (ys : List X) → Contains xs x → Contains rest ys
    → Contains (product xs rest) (x ∷ ys)
unfolding product
in_product [] rest x ys c d = absurd (Contains-nil x c)
in_product (z ∷ xs) rest x ys c d = elim (contains_cases x z xs c) [
  | inl e ↦ in_left (map (λ ws. z ∷ ws) rest) (product xs rest) (x ∷ ys)
      (subst (λ w. Contains (map (λ ws. z ∷ ws) rest) (w ∷ ys)) e (Contains-map (λ ws. z ∷ ws) rest ys d))
  | inr h ↦ in_right (map (λ ws. z ∷ ws) rest) (product xs rest) (x ∷ ys) (in_product xs rest x ys h d)
]

-- and no others
from_product : {X : Type 0} (xs : List X) (rest : List (List X)) (zs : List X) → Contains (product xs rest) zs
    → (x : X) × (ys : List X) × Contains xs x × Contains rest ys × (x ∷ ys ≡ zs)
unfolding product
from_product [] rest zs c = absurd (Contains-nil zs c)
from_product (x ∷ xs) rest zs c = elim (from_either (map (λ ys. x ∷ ys) rest) (product xs rest) zs c) [
  | inl h ↦ let t = Contains-from_map (λ ys. x ∷ ys) rest zs h in (x, t.0, contains_head x xs, t.1, t.2)
  | inr h ↦ let t = from_product xs rest zs h in (t.0, t.1, contains_cons t.0 xs x t.2, t.3, t.4)
]

-- all that may be chosen in a dimension, with a bottom category below n, but for the candidates
record AreHere (s : Schema) (c n : ℕ) (ps : List Chosen) : Type 0 where
  sound : (p : Chosen) → Contains ps p → IsChosen s c p
  complete : (q : Chosen) → q.bottom < n → IsChosen s c q → (p : Chosen) × Contains ps p × SameAs s p q

-- all choices, but for the candidates
pub record AreAll (ss : List Schema) (cs : List ℕ) (all : List (List Chosen)) : Type 0 where
  pub sound : (ps : List Chosen) → Contains all ps → AllZip3 IsChosen ss cs ps
  pub complete : (qs : List Chosen) → AllZip3 IsChosen ss cs qs
      → (ps : List Chosen) × Contains all ps × AreSame ss ps qs

-- if there is none
no_choice : (ss : List Schema) (cs : List ℕ) → ((qs : List Chosen) → AllZip3 IsChosen ss cs qs → ⊥)
    → (all : List (List Chosen)) × AreAll ss cs all
no_choice ss cs f = (
  [],
  record {
    sound = λ ps m. absurd (Contains-nil ps m);
    complete = λ qs a. absurd (f qs a);
  },
)

module _ (lists : FrozenAreListed) (exist : CandidatesExist) where
  -- ---- one dimension

  -- there is a list of them
  chosen_below : (s : Schema) (c : ℕ) (k : Candidates) → AreCandidates s (Reach c) k → (n : ℕ)
      → (ps : List Chosen) × AreHere s c n ps
  chosen_below s c k are zero = (
    [],
    record {
      sound = λ p m. absurd (Contains-nil p m);
      complete = λ q l m. absurd (omega arith);
    },
  )
  chosen_below s c k are (suc n) = go (dec_bottom s.graph n) (chosen_below s c k are n)
    where
      this : Frozen → Chosen
      this f = record { bottom = n; candidates = k; frozen = f }

      go : Dec (IsBottom s.graph n) → (ps : List Chosen) × AreHere s c n ps → (ps : List Chosen)
          × AreHere s c (suc n) ps
      go (no m) t = (
        t.0,
        record {
          sound = t.1.sound;
          complete = λ q l h. elim (same_or_below_suc q.bottom n l) [
            | inl e ↦ absurd (m (subst (λ b. IsBottom s.graph b) e h.bottom))
            | inr less ↦ t.1.complete q less h
          ];
        },
      )
      go (yes b) t = let u = lists s (Reach c) n k are in (
        map (λ f. record { bottom = n; candidates = k; frozen = f }) u.0 ++ t.0,
        record {
          sound = λ p m. elim (from_either (map (λ f. record { bottom = n; candidates = k; frozen = f }) u.0) t.0 p m) [
            | inl h ↦ let w = Contains-from_map (λ f. record { bottom = n; candidates = k; frozen = f }) u.0 p h in
                subst (λ (x : Chosen). IsChosen s c x) w.2
                (record { bottom = b; candidates = are; is_one = u.1.sound w.0 w.1 })
            | inr h ↦ t.1.sound p h
          ];
          complete = λ q l h. elim (same_or_below_suc q.bottom n l) [
            | inl e ↦ (
              record { bottom = n; candidates = k; frozen = q.frozen },
              in_left (map (λ f. record { bottom = n; candidates = k; frozen = f }) u.0) t.0
                  (record { bottom = n; candidates = k; frozen = q.frozen })
                  (Contains-map (λ f. record { bottom = n; candidates = k; frozen = f }) u.0 q.frozen
                  (u.1.complete q.frozen (subst (λ r. IsFrozen s (Reach c) r k q.frozen) e
                  (still_frozen s (Reach c) q.bottom q.candidates k h.candidates are q.frozen h.is_one)))),
              record {
                bottom = sym e;
                codes = refl;
                instance = same_thawed s (Reach c) k q.candidates are h.candidates n q.frozen
                    ∙ ap (λ r. thawed s q.candidates r q.frozen) (sym e);
              },
            )
            | inr less ↦ let w = t.1.complete q less h in
                (w.0, in_right (map (λ f. record { bottom = n; candidates = k; frozen = f }) u.0) t.0 w.0 w.1, w.2)
          ];
        },
      )

  -- ---- all dimensions

  -- there is a list of them
  pub all_choices : (ss : List Schema) (cs : List ℕ) → All IsValidSchema ss → (all : List (List Chosen))
      × AreAll ss cs all
  all_choices [] [] v = (
    [] ∷ [],
    record {
      sound = λ ps m. elim (contains_cases ps [] [] m) [
        | inl e ↦ subst (λ xs. AllZip3 IsChosen [] [] xs) e tt
        | inr h ↦ absurd (Contains-nil ps h)
      ];
      complete = one;
    },
  )
    where
      one : (qs : List Chosen) → AllZip3 IsChosen [] [] qs
          → (ps : List Chosen) × Contains ([] ∷ []) ps × AreSame [] ps qs
      one [] a = ([], contains_head [] [], tt)
      one (q ∷ qs) a = absurd a
  all_choices [] (c ∷ cs) v = no_choice [] (c ∷ cs) (λ qs a. a)
  all_choices (s ∷ ss) [] v = no_choice (s ∷ ss) [] (λ qs a. a)
  all_choices (s ∷ ss) (c ∷ cs) v =
      let valid : IsValidSchema s = All-head IsValidSchema s ss v in
      let k = exist s (Reach c) (kinds_too s Truth (Reach c) refl refl (truth_kinds s valid)) in
      go (chosen_below s c k.0 k.1 (length s.graph.names + 1)) (all_choices ss cs (All-tail IsValidSchema s ss v))
    where
      go : (ps : List Chosen) × AreHere s c (length s.graph.names + 1) ps
          → (all : List (List Chosen)) × AreAll ss cs all → (all : List (List Chosen)) × AreAll (s ∷ ss) (c ∷ cs) all
      go h r = (product h.0 r.0, record { sound = sound; complete = complete })
        where
          sound : (ps : List Chosen) → Contains (product h.0 r.0) ps → AllZip3 IsChosen (s ∷ ss) (c ∷ cs) ps
          sound ps m = let t = from_product h.0 r.0 ps m in
              subst (λ xs. AllZip3 IsChosen (s ∷ ss) (c ∷ cs) xs) t.4 (h.1.sound t.0 t.2, r.1.sound t.1 t.3)

          complete : (qs : List Chosen) → AllZip3 IsChosen (s ∷ ss) (c ∷ cs) qs
              → (ps : List Chosen) × Contains (product h.0 r.0) ps × AreSame (s ∷ ss) ps qs
          complete [] a = absurd a
          complete (q ∷ qs) a =
              let x = h.1.complete q a.0.bottom.0.1 a.0 in
              let y = r.1.complete qs a.1 in
              (x.0 ∷ y.0, in_product h.0 r.0 x.0 y.0 x.1 y.1, (x.2, y.2))
