-- Of a valid schema there is a list of the shapes of each root, or it has more than may be listed.
use Rattle.std.proofs.Common.{◌≡◌, ℕ, List, [], ◌∷◌, ◌++◌, length, refl, ap, subst, sym, ◌∙◌, inl, inr}
use Rattle.std.{proofs.lemmas.List.Elements.All-contains, specs.Fmt.decimal}
use Rattle.std.specs.Prelude.{◌≢◌, AllPairs, Contains, codes, flat_map}
use Rattle.olap_base.proofs.{DecisionLemmas.dec_bit, GeneralLemmas.at_most_or_greater}
use Rattle.olap_base.proofs.{ListLemmas.{Contains-nil, contains_head}, RankLemmas.not_after_itself}
use Rattle.olap_base.specs.{Deciding.{contains_cases, contains_cons}, Limits.most_frozen, Ranks.IsNotAfter}
use Rattle.olap_ast.{proofs.OrderedLists.{head_before, tail_ordered}, specs.Formula.{Formula, Formula.Truth}}
use Rattle.olap_ast.specs.{Frozen.{AreCandidates, Candidates, Frozen, code}, Questions.ValidSchemasHaveCandidates}
use Rattle.olap_ast.specs.{Schema.Schema, Valid.IsValidSchema}
use Rattle.olap_cex.specs.FrozenText.{frozen_text}
use Rattle.olap_dimsat.specs.{Listed.IsBefore, Shapes.AreShapes}
use Rattle.olap_exists.{proofs.Listed.{Ordered, all_pairs}, specs.Existing.FrozenAreListed}
use Rattle.olap_order.specs.{Outputs.{line, refusal}, declared.status.Status.Status}
use Rattle.olap_order.specs.declared.status.Status.TheVariants.{Yes, Refused}
use Rattle.olap_reasoning.{proofs.ShapeLemmas.no_two, specs.Questions.{ByShapes, IsAnswer}}
use mathlib.Core.List.{List-discrete}

-- whether two have the same edges
dec_edges : (f h : Frozen) → Dec (f.edges ≡ h.edges)
dec_edges f h = List-discrete dec_bit f.edges h.edges

-- f is one of the list, and none with its edges that is has a smaller code
record IsLeastLike (all : List Frozen) (f : Frozen) : Type 0 where
  here : Contains all f
  least : (h : Frozen) → Contains all h → h.edges ≡ f.edges → IsNotAfter (code f) (code h)

-- the ones that are least, of a list in order: by their codes, and with the edges of each
record AreLeastOnes (all firsts : List Frozen) : Type 0 where
  ordered : Ordered IsBefore firsts
  sound : (f : Frozen) → Contains firsts f → IsLeastLike all f
  complete : (f : Frozen) → Contains all f → (h : Frozen) × Contains firsts h × (h.edges ≡ f.edges)

-- those of a list that haven't the edges of x
record AreApart (x : Frozen) (hs ks : List Frozen) : Type 0 where
  ordered : Ordered IsBefore ks
  sound : (f : Frozen) → Contains ks f → Contains hs f × (f.edges ≢ x.edges)
  complete : (f : Frozen) → Contains hs f → f.edges ≢ x.edges → Contains ks f

-- there is a list of them
apart : (x : Frozen) (hs : List Frozen) → Ordered IsBefore hs → (ks : List Frozen) × AreApart x hs ks
apart x [] o = (
  [],
  record { ordered = tt; sound = λ f c. absurd (Contains-nil f c); complete = λ f c n. absurd (Contains-nil f c) },
)
apart x (y ∷ hs) o = go (apart x hs o.1) (dec_edges y x)
  where
    go : (ks : List Frozen) × AreApart x hs ks → Dec (y.edges ≡ x.edges) → (ks : List Frozen) × AreApart x (y ∷ hs) ks
    go t (yes e) = (
      t.0,
      record {
        ordered = t.1.ordered;
        sound = λ f c. let s = t.1.sound f c in (contains_cons f hs y s.0, s.1);
        complete = λ f c n. elim (contains_cases f y hs c) [
          | inl q ↦ absurd (n (subst (λ (z : Frozen). z.edges ≡ x.edges) q e))
          | inr h ↦ t.1.complete f h n
        ];
      },
    )
    go t (no m) = (
      y ∷ t.0,
      record {
        ordered = (λ f c. o.0 f (t.1.sound f c).0, t.1.ordered);
        sound = λ f c. elim (contains_cases f y t.0 c) [
          | inl q ↦ subst (λ (z : Frozen). Contains (y ∷ hs) z × (z.edges ≢ x.edges)) q (contains_head y hs, m)
          | inr h ↦ let s = t.1.sound f h in (contains_cons f hs y s.0, s.1)
        ];
        complete = λ f c n. elim (contains_cases f y hs c) [
          | inl q ↦ subst (λ (z : Frozen). Contains (y ∷ t.0) z) q (contains_head y t.0)
          | inr h ↦ contains_cons f t.0 y (t.1.complete f h n)
        ];
      },
    )

-- a list in order has such ones
least_ones : (all : List Frozen) → Ordered IsBefore all → (firsts : List Frozen) × AreLeastOnes all firsts
least_ones [] o = (
  [],
  record { ordered = tt; sound = λ f c. absurd (Contains-nil f c); complete = λ f c. absurd (Contains-nil f c) },
)
least_ones (x ∷ all) o = go (least_ones all o.1)
  where
    go : (hs : List Frozen) × AreLeastOnes all hs → (firsts : List Frozen) × AreLeastOnes (x ∷ all) firsts
    go t = with_head (apart x t.0 t.1.ordered)
      where
        first : IsLeastLike (x ∷ all) x
        first = record {
          here = contains_head x all;
          least = λ h c e. elim (contains_cases h x all c) [
            | inl q ↦ subst (λ (z : Frozen). IsNotAfter (code x) (code z)) q (not_after_itself (code x))
            | inr l ↦ (o.0 h l).0
          ];
        }

        later : (f : Frozen) → Contains t.0 f → f.edges ≢ x.edges → IsLeastLike (x ∷ all) f
        later f c n = let l = t.1.sound f c in record {
          here = contains_cons f all x l.here;
          least = λ h d e. elim (contains_cases h x all d) [
            | inl q ↦ absurd (n (sym (subst (λ (z : Frozen). z.edges ≡ f.edges) (sym q) e)))
            | inr m ↦ l.least h m e
          ];
        }

        with_head : (ks : List Frozen) × AreApart x t.0 ks → (firsts : List Frozen) × AreLeastOnes (x ∷ all) firsts
        with_head a = (
          x ∷ a.0,
          record {
            ordered = (λ f c. o.0 f (t.1.sound f (a.1.sound f c).0).here, a.1.ordered);
            sound = λ f c. elim (contains_cases f x a.0 c) [
              | inl q ↦ subst (λ (z : Frozen). IsLeastLike (x ∷ all) z) q first
              | inr h ↦ let s = a.1.sound f h in later f s.0 s.1
            ];
            complete = λ f c. elim (contains_cases f x all c) [
              | inl q ↦ (x, contains_head x a.0, ap (λ (z : Frozen). z.edges) q)
              | inr h ↦ let w = t.1.complete f h in kept w.0 w.1 f w.2 (dec_edges w.0 x)
            ];
          },
        )
          where
            kept : (h : Frozen) → Contains t.0 h → (f : Frozen) → h.edges ≡ f.edges → Dec (h.edges ≡ x.edges)
                → (g : Frozen) × Contains (x ∷ a.0) g × (g.edges ≡ f.edges)
            kept h c f e (yes q) = (x, contains_head x a.0, sym q ∙ e)
            kept h c f e (no n) = (h, contains_cons h a.0 x (a.1.complete h c n), e)

-- where elements at two places are in order, each is before those after it
to_ordered : {X : Type 0} (R : X → X → Type 0) (xs : List X) → AllPairs R xs → Ordered R xs
to_ordered R [] h = tt
to_ordered R (x ∷ xs) h =
    (λ y c. All-contains (R x) xs y (head_before R x xs h) c, to_ordered R xs (tail_ordered R x xs h))

-- the shapes of a root are listed
shapes_listed : FrozenAreListed → (s : Schema) (q : Formula) (r : ℕ) (k : Candidates) → AreCandidates s q k
    → (shapes : List Frozen) × AreShapes s q r k shapes
shapes_listed lists s q r k are =
    let t = lists s q r k are in
    let u = least_ones t.0 (to_ordered IsBefore t.0 t.1.ordered) in (
      u.0,
      record {
        candidates = are;
        ordered = all_pairs IsBefore u.0 u.1.ordered;
        sound = λ f c. let l = u.1.sound f c in record {
          is_one = t.1.sound f l.here;
          least = λ h z e. l.least h (t.1.complete h z) e;
        };
        complete = λ f z. u.1.complete f (t.1.complete f z);
      },
    )

-- the answer of `shapes`
abbrev ShapesAnswered : Schema → ℕ → Type 0
ShapesAnswered s c = (status : Status) × (bytes : List ℕ) × IsAnswer (ByShapes s c) status bytes

-- they are told, or that they are too many
pub shapes_exist : FrozenAreListed → ValidSchemasHaveCandidates → (s : Schema) (c : ℕ) → IsValidSchema s
    → ShapesAnswered s c
shapes_exist lists candidates s c v =
    let k = candidates s 0 Truth v tt in go k.0 k.1 (shapes_listed lists s Truth c k.0 k.1)
  where
    go : (k : Candidates) → AreCandidates s Truth k → (shapes : List Frozen) × AreShapes s Truth c k shapes
        → ShapesAnswered s c
    go k are t = elim (at_most_or_greater (length t.0) most_frozen) [
      | inl l ↦ (
        Yes,
        flat_map (frozen_text s.graph k c) t.0 ++ line (codes "count " ++ decimal (length t.0)),
        record { candidates = k; frozen = t.0; all = t.1; few = l; text = refl },
      )
      | inr m ↦ (
        Refused,
        refusal (codes "shapes TooMany"),
        (
          (
            k,
            record {
              candidates = are;
              some = t.0;
              many = m;
              differ = no_two s Truth c k t.0 t.1;
              sound = λ f h. (t.1.sound f h).is_one;
            },
          ),
          refl,
        ),
      )
    ]
