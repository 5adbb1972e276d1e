-- The dimensions of a cube one by one.
use Rattle.std.proofs.Common.{◌≡◌, ℕ, zero, suc, ◌+◌, ◌<◌, List, [], ◌∷◌, length, map, drop, get_or, refl, sym, ◌∙◌, arith}
use Rattle.std.{proofs.lemmas.List.Elements.All-cons, specs.Prelude.{All, Contains, slice_index_or}}
use Rattle.olap_ast.specs.Schema.{Schema}
use Rattle.olap_base.specs.Graph.{IsBottom}
use Rattle.olap_cube.specs.{CubeSummarizable.{Chosen, IsChosen, bottoms_of}, Tuples.AllZip3}
use Rattle.olap_cube_summ.proofs.ChoiceLemmas.{schemas_in}
use Rattle.olap_cube_summ.specs.{Choices.{AreFamiliesOf, Dimension, IsDimension, dimensions_of}, Dimensions.no_schema}
use Rattle.olap_cube_summ.specs.{Families.AreOf, Patterns.AreFamilies}
use Rattle.olap_cube_summ.specs.{Questions.{AreQuestionsOf, IsQuestionOf, no_question}, declared.families.Family.Family}
use Rattle.olap_cube_summ.specs.declared.questions.Question.{Question}
use Rattle.olap_cube_summ.specs.Families as families

-- ---- what the lists have in common

-- dimensions have the schemas of which they were made
pub schemas_are : (ss : List Schema) (qs : List Question) (fs : List Family) → length qs ≡ length ss
    → length fs ≡ length ss → schemas_in (dimensions_of ss qs fs) ≡ ss
schemas_are [] qs fs a b = refl
schemas_are (s ∷ ss) (q ∷ qs) (f ∷ fs) a b = let e = schemas_are ss qs fs (omega arith) (omega arith) in λ i. s ∷ e i
schemas_are ss qs fs a b = absurd (omega arith)

-- and the questions
pub questions_are : {A : Type 0} (g : Question → A) (ss : List Schema) (qs : List Question) (fs : List Family)
    → length qs ≡ length ss → length fs ≡ length ss
    → map (λ (d : Dimension). g d.question) (dimensions_of ss qs fs) ≡ map g qs
questions_are g [] [] fs a b = refl
questions_are g (s ∷ ss) (q ∷ qs) (f ∷ fs) a b =
    let e = questions_are g ss qs fs (omega arith) (omega arith) in λ i. g q ∷ e i
questions_are g ss qs fs a b = absurd (omega arith)

-- and the families
pub families_are : {A : Type 0} (g : Family → A) (ss : List Schema) (qs : List Question) (fs : List Family)
    → length qs ≡ length ss → length fs ≡ length ss
    → map (λ (d : Dimension). g d.family) (dimensions_of ss qs fs) ≡ map g fs
families_are g [] qs [] a b = refl
families_are g (s ∷ ss) (q ∷ qs) (f ∷ fs) a b =
    let e = families_are g ss qs fs (omega arith) (omega arith) in λ i. g f ∷ e i
families_are g ss qs fs a b = absurd (omega arith)

-- the dimension at a place comes before the rest
pub dimension_taken : (ss : List Schema) (qs : List Question) (fs : List Family) (i : ℕ) (s : Schema) (q : Question)
    (f : Family) → length qs ≡ length ss → length fs ≡ length ss → i < length ss → s ≡ slice_index_or ss i no_schema
    → q ≡ get_or qs i q → f ≡ get_or fs i f
    → drop i (dimensions_of ss qs fs)
    ≡ record { schema = s; question = q; family = f } ∷ drop (i + 1) (dimensions_of ss qs fs)
dimension_taken ss qs fs i s q f a b l x y z = at ss qs fs i a b l x y z
    ∙ (let e : suc i ≡ i + 1 = omega arith in
    λ j. record { schema = s; question = q; family = f } ∷ drop (e j) (dimensions_of ss qs fs))
  where
    at : (ss : List Schema) (qs : List Question) (fs : List Family) (i : ℕ) → length qs ≡ length ss
        → length fs ≡ length ss → i < length ss → s ≡ slice_index_or ss i no_schema → q ≡ get_or qs i q
        → f ≡ get_or fs i f
        → drop i (dimensions_of ss qs fs)
        ≡ record { schema = s; question = q; family = f } ∷ drop (suc i) (dimensions_of ss qs fs)
    at (t ∷ ss) (r ∷ qs) (g ∷ fs) zero a b l x y z =
        λ j. record { schema = sym x j; question = sym y j; family = sym z j } ∷ dimensions_of ss qs fs
    at (t ∷ ss) (r ∷ qs) (g ∷ fs) (suc i) a b l x y z =
        at ss qs fs i (omega arith) (omega arith) (let m : suc i < suc (length ss) = l in omega arith) x y z
    at ss qs fs i a b l x y z = absurd (omega arith)

-- ---- families of all dimensions

-- there is a family for each dimension
of_count : (fss : List (List Family)) (fs : List Family) → AreOf fss fs → length fs ≡ length fss
of_count [] [] o = refl
of_count (d ∷ ds) (f ∷ fs) o = let e = of_count ds fs o.1 in omega arith
of_count ds fs o = absurd o

-- one of each
pub are_dimensions : (n : ℕ) (ss : List Schema) (qs : List Question) (fss : List (List Family)) (fs : List Family)
    → AreQuestionsOf ss qs → All (λ q. length q.sources ≡ n) qs → AreFamiliesOf ss qs fss → AreOf fss fs
    → All (IsDimension n) (dimensions_of ss qs fs)
are_dimensions n ss qs fss fs q c f o =
    go ss qs fss fs q.count f.count o q.each (λ i l. c i no_question l) f.each
  where
    go : (ss : List Schema) (qs : List Question) (fss : List (List Family)) (fs : List Family) → length qs ≡ length ss
        → length fss ≡ length ss → AreOf fss fs
        → ((i : ℕ) → i < length ss → IsQuestionOf (slice_index_or ss i no_schema) (slice_index_or qs i no_question))
        → ((i : ℕ) → i < length qs → length (slice_index_or qs i no_question).sources ≡ n)
        → ((i : ℕ) → i < length ss
        → AreFamilies (slice_index_or ss i no_schema) (slice_index_or qs i no_question) (slice_index_or fss i []))
        → All (IsDimension n) (dimensions_of ss qs fs)
    go [] qs fss fs a b o q c f = λ i d l. absurd (omega arith)
    go (s ∷ ss) (t ∷ qs) (d ∷ fss) [] a b o q c f = absurd o
    go (s ∷ ss) (t ∷ qs) (d ∷ fss) (g ∷ fs) a b o q c f =
        All-cons (IsDimension n) (record { schema = s; question = t; family = g }) (dimensions_of ss qs fs)
        (record {
          question = q 0 (omega arith);
          count = c 0 (omega arith);
          family = (f 0 (omega arith)).each g o.0;
        })
        (go ss qs fss fs (omega arith) (omega arith) o.1 (λ i l. q (suc i) (omega arith))
        (λ i l. c (suc i) (omega arith)) (λ i l. f (suc i) (omega arith)))
    go ss qs fss fs a b o q c f = absurd (omega arith)

-- the same, by the schemas
pub of_length : (ss : List Schema) (qs : List Question) (fss : List (List Family)) (fs : List Family)
    → AreFamiliesOf ss qs fss → AreOf fss fs → length fs ≡ length ss
of_length ss qs fss fs f o = of_count fss fs o ∙ f.count

-- a choice has its bottom categories' families
pub families_of : (ss : List Schema) (qs : List Question) (fss : List (List Family)) (cs : List ℕ) (ys : List Chosen)
    → AreFamiliesOf ss qs fss → AllZip3 IsChosen ss cs ys
    → (fs : List Family) × AreOf fss fs × (bottoms_of ys ≡ families.bottoms_of fs)
families_of ss qs fss cs ys f a = go ss fss cs ys f.count (λ i l. (f.each i l).all) a
  where
    go : (ss : List Schema) (fss : List (List Family)) (cs : List ℕ) (ys : List Chosen) → length fss ≡ length ss
        → ((i : ℕ) → i < length ss → (b : ℕ) → IsBottom (slice_index_or ss i no_schema).graph b
        → (f : Family) × Contains (slice_index_or fss i []) f × (f.bottom.0 ≡ b)) → AllZip3 IsChosen ss cs ys
        → (fs : List Family) × AreOf fss fs × (bottoms_of ys ≡ families.bottoms_of fs)
    go [] [] [] [] n f a = ([], tt, refl)
    go [] (d ∷ fss) cs ys n f a = absurd (omega arith)
    go (s ∷ ss) [] cs ys n f a = absurd (omega arith)
    go (s ∷ ss) (d ∷ fss) (c ∷ cs) (y ∷ ys) n f a =
        let t = f 0 (omega arith) y.bottom a.0.bottom in
        let r = go ss fss cs ys (omega arith) (λ i l. f (suc i) (omega arith)) a.1 in
        (t.0 ∷ r.0, (t.1, r.1), λ i. sym t.2 i ∷ r.2 i)
    go ss fss cs ys n f a = absurd a
