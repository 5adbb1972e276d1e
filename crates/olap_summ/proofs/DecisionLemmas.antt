-- The searches of a decision: as they are made, asked and given up.
-- `all_made`
use Rattle.std.proofs.Common.{◌≡◌, ◌==◌, ◌<◌, ◌≤◌, ◌+◌, ◌↔◌, ◌⊎◌, ◌∷◌, ◌++◌, ◌∙◌, ℕ, zero, suc, List, [], length, get_or, take, drop, if◌then◌else◌, inl, inr, refl, ap, sym, subst, eq-eqb, arith}
use Rattle.std.proofs.{Math.Seq.{map-set_same, take-append_seam}, lemmas.Bool.ne_eqb}
use Rattle.std.proofs.lemmas.List.{get_or-map, get_or_default, length-map, map-append}
use Rattle.std.proofs.lemmas.List.Elements.{All-push, All-set, Contains-append_left, Contains-get_or, Contains-push, Contains-push_cases}
use Rattle.std.proofs.lemmas.List.Quantifiers.{all_pairs_push}
use Rattle.std.specs.Prelude.{All, AllPairs, Contains, slice_index, slice_set}
use Rattle.olap_base.{proofs.GeneralLemmas.less_equal_greater, specs.Graph.{IsBottom, category_count}}
use Rattle.olap_base.specs.Limits.{most_constants}
use Rattle.olap_ast.proofs.SourceLemmas.{question_at, question_few, question_kinds, until}
use Rattle.olap_ast.specs.{Atoms.{all_comparisons, all_equalities}, Formula.Formula, Frozen.CandidatesExist}
use Rattle.olap_ast.specs.{Pairs.pair_count, Questions.NoneFrozen, Schema.Schema, Summarizable.IsSummarizable}
use Rattle.olap_ast.specs.Valid.{IsFormulaAt, IsValidSchema}
use Rattle.olap_dimsat.specs.Searches.{IsMadeWith, IsSizedFor, candidates_in, found_in, named_in, root_of}
use Rattle.olap_dimsat.specs.declared.searching.Search.{Search}
use Rattle.olap_frozen.specs.{LeastFound.IsLeastFound, declared.founding.Found.Found, declared.frozen.Frozen.Frozen}
use Rattle.olap_summ.proofs.CounterexampleLemmas.{counterexample_is, summarizable_is, summarizable_isnt}
use Rattle.olap_summ.{proofs.NowhereLemmas.nowhere, specs.Answers.IsNowhere, specs.Asking.IsFirstFound}
use Rattle.olap_summ.specs.Counterexamples.{IsCounterexampleFound}
use Rattle.olap_summ.specs.Decisions.{AreQuestionsFor, HasSizesOf, IsAskedOf, IsDecisionOf, asked_by, names_among, roots_in, roots_of, sources_of, target_of}
use Rattle.olap_summ.specs.declared.{deciding.Asked.Asked, deciding.Decision.Decision, questioning.Questions.Questions}
use Rattle.olap_dimsat.specs.declared.finding.Wanted.TheVariants as wanted

-- ---- roots and names

-- the root at a place
pub root_at : (xs : List Asked) (k : ℕ) (d : Asked) → k < length xs
    → slice_index (roots_of xs) k ≡ (get_or xs k d).root.0
root_at xs k d h = get_or-map (λ (a : Asked). a.root.0) xs k d 0 h

-- the names are those of the first search with this root
pub first_names : (xs : List Asked) (k r : ℕ) (d : Asked) → k < length xs
    → ((j : ℕ) → j < k → slice_index (roots_of xs) j ≡ r → ⊥) → (get_or xs k d).root.0 ≡ r
    → names_among xs r ≡ named_in (get_or xs k d).search
first_names [] k r d h n e = absurd (omega arith)
first_names (a ∷ xs) zero r d h n e =
    ap (λ b. if b then named_in a.search else names_among xs r) (eq-eqb a.root.0 r e)
first_names (a ∷ xs) (suc k) r d h n e =
    ap (λ b. if b then named_in a.search else names_among xs r) (ne_eqb a.root.0 r (n 0 (omega arith)))
    ∙ first_names xs k r d (omega arith) (λ j l. n (suc j) (omega arith)) e

-- where the roots ascend, each search has its own
pub own_names : (xs : List Asked) (k : ℕ) (d : Asked) → k < length xs → AllPairs ◌<◌ (roots_of xs)
    → names_among xs (get_or xs k d).root.0 ≡ named_in (get_or xs k d).search
own_names xs k d h o =
    first_names xs k (get_or xs k d).root.0 d h
    (λ j l q.
    let m = length-map xs (λ (a : Asked). a.root.0) in
    omega (arith, o j k 0 l (omega arith), root_at xs k d h, q))
    refl

-- a search of this root stands at the place or after it
pub place_within : (xs : List Asked) (r place : ℕ) → Contains (roots_of xs) r
    → ((j : ℕ) → j < place → slice_index (roots_of xs) j ≡ r → ⊥) → place < length xs
place_within xs r place t none = elim (which t.0 place) [
  | inl l ↦ absurd (none t.0 l (get_or_default (roots_of xs) t.0 0 r t.1 ∙ t.2))
  | inr l ↦
      let inside : t.0 < length (roots_of xs) = t.1 in
      let m = length-map xs (λ (a : Asked). a.root.0) in omega (arith, l, inside, m)
]
  where
    which : (i j : ℕ) → (i < j) ⊎ (j ≤ i)
    which i j = grind arith

-- ---- searches that are made

-- the searches of the bottom categories before the n-th
pub record AreMadeBefore (s : Schema) (q : Formula) (n : ℕ) (xs : List Asked) : Type 0 where
  pub asked : All (IsAskedOf s q) xs
  pub ordered : AllPairs ◌<◌ (roots_of xs)
  pub bottoms : (b : ℕ) → Contains (roots_of xs) b ↔ (IsBottom s.graph b × (b < n))

-- a category that isn't a bottom one
pub none_to_make : (s : Schema) (q : Formula) (n : ℕ) (xs : List Asked) → AreMadeBefore s q n xs
    → (IsBottom s.graph n → ⊥) → AreMadeBefore s q (n + 1) xs
none_to_make s q n xs m off = record {
  asked = m.asked;
  ordered = m.ordered;
  bottoms = λ b. (
    λ h. let t = (m.bottoms b).0 h in (t.0, (let l : b < n = t.1 in omega arith)),
    λ t. (m.bottoms b).1 (t.0, before b t.0 t.1),
  );
}
  where
    before : (b : ℕ) → IsBottom s.graph b → b < n + 1 → b < n
    before b bottom l = until (λ d. IsBottom s.graph d → d < n) n (λ d h t. h) (λ t. absurd (off t)) b l bottom

-- a bottom category's search
pub one_made : (s : Schema) (q : Formula) (n : ℕ) (xs : List Asked) (a : Asked) → AreMadeBefore s q n xs
    → IsBottom s.graph n → a.root.0 ≡ n → IsAskedOf s q a → AreMadeBefore s q (n + 1) (xs ++ a ∷ [])
one_made s q n xs a m bottom e is = record {
  asked = All-push (IsAskedOf s q) xs a m.asked is;
  ordered = subst (AllPairs ◌<◌) (sym roots) (all_pairs_push ◌<◌ (roots_of xs) a.root.0 m.ordered (
      λ k d h. let t : get_or (roots_of xs) k d < n =
      ((m.bottoms (get_or (roots_of xs) k d)).0 (Contains-get_or (roots_of xs) k d h)).1 in
      omega (arith, t, e)
      ));
  bottoms = λ b. (
    λ h. elim (Contains-push_cases (roots_of xs) a.root.0 b (subst (λ l. Contains l b) roots h)) [
      | inl t ↦ let w = (m.bottoms b).0 t in (w.0, (let l : b < n = w.1 in omega arith))
      | inr p ↦ (subst (IsBottom s.graph) (sym e ∙ p) bottom, omega arith)
    ],
    λ t. subst (λ l. Contains l b) (sym roots) (
        until (λ d. IsBottom s.graph d → Contains (roots_of xs ++ a.root.0 ∷ []) d) n
        (λ d l w. Contains-append_left (roots_of xs) (a.root.0 ∷ []) d ((m.bottoms d).1 (w, l)))
        (λ w. subst (Contains (roots_of xs ++ a.root.0 ∷ [])) e (Contains-push (roots_of xs) a.root.0))
        b t.1 t.0
        ),
  );
}
  where
    roots : roots_of (xs ++ a ∷ []) ≡ roots_of xs ++ a.root.0 ∷ []
    roots = map-append (λ (x : Asked). x.root.0) xs (a ∷ [])

-- after the last category
pub all_made : (s : Schema) (q : Formula) (n : ℕ) (xs : List Asked) → AreMadeBefore s q n xs
    → category_count s.graph ≤ n → (b : ℕ) → Contains (roots_of xs) b ↔ IsBottom s.graph b
all_made s q n xs m e b = (
  λ h. ((m.bottoms b).0 h).0,
  λ t. (m.bottoms b).1 (t, (let l : b < category_count s.graph = t.0.1 in omega arith)),
)

-- ---- what is asked

-- the question is a formula of the graph at each bottom category
pub asked_at : (s : Schema) (q : Questions) (b : ℕ) → AreQuestionsFor s q → IsFormulaAt s.graph b (asked_by q)
asked_at s q b is = rw is.asked (question_at s.graph b (target_of q) (sources_of q) is.target is.sources)

-- it has no constants of its own, so the schema's limit is kept
pub asked_few : (s : Schema) (q : Questions) → IsValidSchema s → AreQuestionsFor s q
    → pair_count (all_equalities s (asked_by q)) (all_comparisons s (asked_by q)) ≤ most_constants
asked_few s q v is = question_few s (asked_by q) (target_of q) (sources_of q) is.asked v

-- ---- searches that are asked

-- the same searches, after some were asked
pub record AreThose (s : Schema) (q : Formula) (old new : List Asked) : Type 0 where
  pub asked : All (IsAskedOf s q) new
  pub roots : roots_of new ≡ roots_of old
  pub names : (r : ℕ) → names_among new r ≡ names_among old r

-- a search that was asked has the names that it had
names_kept : (xs : List Asked) (k : ℕ) (a d : Asked) → a.root.0 ≡ (get_or xs k d).root.0
    → named_in a.search ≡ named_in (get_or xs k d).search → (r : ℕ)
    → names_among (slice_set xs k a) r ≡ names_among xs r
names_kept [] k a d e n r = refl
names_kept (x ∷ xs) zero a d e n r =
    ap (λ c. if (c == r) then named_in a.search else names_among xs r) e
    ∙ ap (λ m. if (x.root.0 == r) then m else names_among xs r) n
names_kept (x ∷ xs) (suc k) a d e n r =
    ap (λ m. if (x.root.0 == r) then named_in x.search else m) (names_kept xs k a d e n r)

-- a search was asked and stands in its place again
pub one_asked : (s : Schema) (q : Formula) (old xs : List Asked) (k : ℕ) (d : Asked) (search : Search)
    → AreThose s q old xs → k < length xs → IsMadeWith s q search → root_of search ≡ root_of (get_or xs k d).search
    → named_in search ≡ named_in (get_or xs k d).search
    → AreThose s q old (slice_set xs k (record { root = (get_or xs k d).root; search = search }))
one_asked s q old xs k d search t h made root names = record {
  asked = All-set (IsAskedOf s q) xs k a (record { made = made; root = root ∙ (t.asked k d h).root }) t.asked;
  roots = map-set_same (λ (x : Asked). x.root.0) xs k a d refl ∙ t.roots;
  names = λ r. names_kept xs k a d refl names r ∙ t.names r;
}
  where
    a : Asked
    a = record { root = (get_or xs k d).root; search = search }

-- the searches after a loop over them
pub those_back : (s : Schema) (q : Formula) (old xs : List Asked) (n : ℕ) → length xs ≡ n → AreThose s q old xs
    → AreThose s q old (take n (xs ++ drop (length xs) old))
those_back s q old xs n e t =
    rw (ap (λ m. take m (xs ++ drop (length xs) old)) (sym e) ∙ take-append_seam xs (drop (length xs) old)) t

-- the decision with these searches
pub decision_kept : (s : Schema) (q : Questions) (old new : Decision) → IsDecisionOf s q old
    → AreThose s (asked_by q) old.searches.items new.searches.items → new.edges ≡ old.edges
    → new.categories ≡ old.categories → IsDecisionOf s q new
decision_kept s q old new is t e c = record {
  questions = is.questions;
  asked = t.asked;
  ordered = subst (AllPairs ◌<◌) (sym t.roots) is.ordered;
  bottoms = λ b. subst (λ l. Contains l b ↔ IsBottom s.graph b) (sym t.roots) (is.bottoms b);
  edges = e ∙ is.edges;
  categories = c ∙ is.categories;
}

-- the sizes of a decision are those of its searches
pub sized_for : (s : Schema) (q : Questions) (d : Decision) (a : Asked) (f : Frozen) → IsDecisionOf s q d
    → IsAskedOf s (asked_by q) a → HasSizesOf d f → IsSizedFor a.search f
sized_for s q d a f is asked h = record {
  edges = h.edges ∙ is.edges ∙ sym asked.made.best.edges;
  names = h.names ∙ is.categories ∙ sym asked.made.best.names;
}

-- ---- what they answer

-- the first n searches found nothing
abbrev pub NoneAmong : Schema → Formula → ℕ → List Asked → Type 0
NoneAmong s q n xs = (j : ℕ) → j < n → IsNowhere s q (slice_index (roots_of xs) j)

-- one more
pub none_more : (s : Schema) (q : Formula) (old xs : List Asked) (k : ℕ) (d : Asked) → AreThose s q old xs
    → k < length xs → NoneFrozen s q (root_of (get_or xs k d).search) (candidates_in (get_or xs k d).search)
    → NoneAmong s q k old → NoneAmong s q (k + 1) old
none_more s q old xs k d t h none before =
    let is = t.asked k d h in
    let here = nowhere s q (root_of (get_or xs k d).search) (candidates_in (get_or xs k d).search)
    is.made.valid.hierarchy is.made.task.question.candidates none in
    until (λ j. IsNowhere s q (slice_index (roots_of old) j)) k before
    (subst (IsNowhere s q) (is.root ∙ sym (root_at xs k d h) ∙ ap (λ l. slice_index l k) t.roots) here)

-- the root at a place is a bottom category, and each bottom category has a place
place_has_bottom : (s : Schema) (q : Questions) (d : Decision) (k : ℕ) → IsDecisionOf s q d → k < length (roots_in d)
    → IsBottom s.graph (slice_index (roots_in d) k)
place_has_bottom s q d k is h = (is.bottoms (slice_index (roots_in d) k)).0 (Contains-get_or (roots_in d) k 0 h)

-- each bottom category has a search
bottom_has_place : (s : Schema) (q : Questions) (d : Decision) (b : ℕ) → IsDecisionOf s q d → IsBottom s.graph b
    → (j : ℕ) × (j < length (roots_in d)) × (slice_index (roots_in d) j ≡ b)
bottom_has_place s q d b is bottom =
    let t = (is.bottoms b).1 bottom in (t.0, t.1, get_or_default (roots_in d) t.0 0 b t.1 ∙ t.2)

-- where none found anything
pub all_asked : (s : Schema) (q : Questions) (d : Decision) (n : ℕ) → IsDecisionOf s q d
    → NoneAmong s (asked_by q) n d.searches.items → length d.searches.items ≤ n
    → (b : ℕ) → IsBottom s.graph b → IsNowhere s (asked_by q) b
all_asked s q d n is none e b bottom =
    let t = bottom_has_place s q d b is bottom in
    let m = length-map d.searches.items (λ (a : Asked). a.root.0) in
    subst (IsNowhere s (asked_by q)) t.2 (none t.0 (let l : t.0 < length (roots_in d) = t.1 in omega (arith, l, m, e)))

-- no bottom category before the k-th has one
before_place : (s : Schema) (q : Questions) (d : Decision) (k : ℕ) → IsDecisionOf s q d → k < length (roots_in d)
    → NoneAmong s (asked_by q) k d.searches.items
    → (b : ℕ) → b < slice_index (roots_in d) k → IsBottom s.graph b → IsNowhere s (asked_by q) b
before_place s q d k is h none b l bottom =
    let t = bottom_has_place s q d b is bottom in
    subst (IsNowhere s (asked_by q)) t.2 (none t.0 (earlier t.0 t.1 t.2))
  where
    earlier : (j : ℕ) → j < length (roots_in d) → slice_index (roots_in d) j ≡ b → j < k
    earlier j inside e = elim (less_equal_greater j k) [
      | inl t ↦ t
      | inr t ↦ elim t [
        | inl same ↦ absurd (let p = ap (slice_index (roots_in d)) same in omega (arith, p, e, l))
        | inr later ↦ absurd (let p = is.ordered k j 0 later inside in omega (arith, p, e, l))
      ]
    ]

-- what the k-th search found is the first one, where those before found nothing
pub found_here : (s : Schema) (q : Questions) (old : Decision) (xs new : List Asked) (k : ℕ) (d : Asked) (f : Frozen)
    → IsDecisionOf s q old → AreThose s (asked_by q) old.searches.items xs → k < length xs
    → NoneAmong s (asked_by q) k old.searches.items
    → IsLeastFound s (asked_by q) (root_of (get_or xs k d).search) (found_in (get_or xs k d).search f)
    → AreThose s (asked_by q) old.searches.items new
    → IsFirstFound wanted.Least s (asked_by q) (record { frozen = f; candidates = names_among new f.root.0 })
found_here s q old xs new k d f is t h none l u = record {
  bottom = subst (IsBottom s.graph) (sym root) (place_has_bottom s q old k is inside);
  found_as = rw named (subst (λ r. IsLeastFound s (asked_by q) r (found_in (get_or xs k d).search f)) (sym l.root) l);
  first = λ b less. before_place s q old k is inside none b (subst (λ r. b < r) root less);
}
  where
    inside : k < length (roots_in old)
    inside = let m = length-map xs (λ (a : Asked). a.root.0) in let e = ap length t.roots in omega (arith, h, m, e)

    root : f.root.0 ≡ slice_index (roots_in old) k
    root = l.root ∙ (t.asked k d h).root ∙ sym (root_at xs k d h) ∙ ap (λ r. slice_index r k) t.roots

    named : names_among new f.root.0 ≡ named_in (get_or xs k d).search
    named = u.names f.root.0 ∙ sym (t.names f.root.0)
        ∙ ap (names_among xs) (l.root ∙ (t.asked k d h).root)
        ∙ own_names xs k d h (subst (AllPairs ◌<◌) (sym t.roots) is.ordered)

-- ---- the answer

-- where no bottom category has a counterexample the target is summarizable
pub answer_is_yes : (s : Schema) (q : Questions) (d : Decision) → IsValidSchema s → CandidatesExist → IsDecisionOf s q d
    → ((b : ℕ) → IsBottom s.graph b → IsNowhere s (asked_by q) b) → IsSummarizable s (target_of q) (sources_of q)
answer_is_yes s q d v e is none =
    summarizable_is s (target_of q) (sources_of q) v.hierarchy e (question_kinds s (target_of q) (sources_of q) v)
    (subst (λ (f : Formula). (b : ℕ) → IsBottom s.graph b → IsNowhere s f b) is.questions.asked none)

-- where one was found it isn't
pub answer_is_no : (s : Schema) (q : Questions) (d : Decision) (found : Found) → IsValidSchema s → IsDecisionOf s q d
    → IsFirstFound wanted.Least s (asked_by q) found → IsSummarizable s (target_of q) (sources_of q) → ⊥
answer_is_no s q d found v is f =
    summarizable_isnt s (target_of q) (sources_of q) v.hierarchy wanted.Least found
    (subst (λ (p : Formula). IsFirstFound wanted.Least s p found) is.questions.asked f)

-- the first that was found is the counterexample
pub shows_no : (s : Schema) (q : Questions) (d : Decision) (found : Found) → IsValidSchema s → IsDecisionOf s q d
    → IsFirstFound wanted.Least s (asked_by q) found → IsCounterexampleFound s (target_of q) (sources_of q) found
shows_no s q d found v is f =
    counterexample_is s (target_of q) (sources_of q) v.hierarchy found
    (subst (λ (p : Formula). IsFirstFound wanted.Least s p found) is.questions.asked f)
