-- What the definitions leave no choice in, whichever candidates are taken.
use Rattle.std.proofs.Common.{◌≡◌, ℕ, zero, suc, ◌≤◌, ◌<ℤ◌, List, [], ◌∷◌, map, length, Bool, true, false, refl, ap, sym, subst, ◌∙◌, arith, Ordering, Less, Greater, nat_cmp}
use Rattle.std.proofs.lemmas.{Int.ints, List.Elements.All-contains_itself}
use Rattle.std.specs.{Cmp.Lexicographic.{slice_cmp, nat_list_cmp_total}, Ordering.ordering_reverse}
use Rattle.std.specs.Prelude.{◌≢◌, Contains, AllPairs, slice_index}
use Rattle.olap_base.proofs.{RankLemmas.not_after_both, ViewLemmas.agree_exactly}
use Rattle.olap_base.specs.{Graph.{IsBottom, is_number}, Instance.category_of, Ranks.IsNotAfter}
use Rattle.olap_numerals.specs.Numerals.{canonical}
use Rattle.olap_ast.proofs.{CandidatesExist.fresh_names_exist, OrderedLists.{Apart, no_longer, same_list}}
use Rattle.olap_ast.proofs.{Summing.one_of, Uniqueness.{code_is_one, counterexample_is_one, least_is_one}}
use Rattle.olap_ast.specs.Constants.{AreInByteOrder, IsBefore, IsConstant}
use Rattle.olap_ast.specs.Findings.{Finding, Finding.Unsatisfiable, Finding.Redundant, Finding.Unused, TheFindingsAreOne, finding_rank}
use Rattle.olap_ast.specs.Formula.{Constant.AText, Formula}
use Rattle.olap_ast.specs.Frozen.{AreCandidates, AreNamesOf, Candidates, Frozen, IsFrozen, IsFrozenInstance, IsLeastFrozen, TheLeastIsOne, chosen, code, instance_of, name_in, root_place, text_of_index, thawed}
use Rattle.olap_ast.specs.Schema.{Schema}
use Rattle.olap_ast.specs.Summarizable.{IsCounterexample, IsSummarizable, TheCounterexampleIsOne, not_by_one}

-- ---- candidates

-- so that `Less` differs from the other orderings
abbrev less_or : Ordering → Type 0
less_or Less = Unit {0}
less_or o = ⊥

-- of two texts only one comes before the other
apart_texts : Apart IsBefore
apart_texts x y l m =
    let e : slice_cmp nat_cmp x y ≡ ordering_reverse (slice_cmp nat_cmp y x) = nat_list_cmp_total.antisymm x y in
    let q : Less ≡ Greater = sym l ∙ e ∙ ap ordering_reverse m in
    absurd (subst less_or q tt)

-- the texts in byte order are one list
same_order : (P : List ℕ → Type 0) (xs ys : List (List ℕ)) → AreInByteOrder P xs → AreInByteOrder P ys → xs ≡ ys
same_order P xs ys a b = same_list IsBefore apart_texts xs ys a.ordered b.ordered
    (λ t c. b.complete t (a.sound t c)) (λ t c. a.complete t (b.sound t c))

-- no two numbers are each less than the other
apart_numbers : Apart ◌<ℤ◌
apart_numbers a b l m = absurd (omega (arith, ints))

-- the names of a category are one list, of either kind
same_names_of : (numeric : Bool) (s : Schema) (q : Formula) (d : ℕ) (x y : List ℕ) (xs ys : List (List ℕ))
    → AreNamesOf numeric s q d x xs → AreNamesOf numeric s q d y ys → x ∷ xs ≡ y ∷ ys
same_names_of false s q d x y xs ys a b =
    let u = (fresh_names_exist s q).2 in
    let e : x ≡ y = u x a.0 ∙ sym (u y b.0) in
    let t : xs ≡ ys = same_order (λ text. IsConstant s q d (AText text)) xs ys a.1 b.1 in λ i. e i ∷ t i
same_names_of true s q d x y xs ys a b = a.spelled ∙ ap (λ ns. map canonical ns)
    (same_list ◌<ℤ◌ apart_numbers a.numbers b.numbers a.ascending b.ascending
    (λ n c. b.complete n (a.sound n c)) (λ n c. a.complete n (b.sound n c))) ∙ sym b.spelled

-- so are those of a declared category
same_names : (s : Schema) (q : Formula) (k h : Candidates) → AreCandidates s q k → AreCandidates s q h → (c : ℕ)
    → k.first (suc c) ∷ k.texts (suc c) ≡ h.first (suc c) ∷ h.texts (suc c)
same_names s q k h a b c = same_names_of (is_number s.graph (suc c)) s q (suc c) (k.first (suc c)) (h.first (suc c))
    (k.texts (suc c)) (h.texts (suc c)) (a.names c) (b.names c)

-- what is in front of a list, and what follows it
front : List (List ℕ) → List ℕ
front [] = []
front (x ∷ xs) = x

-- what follows it
rest : List (List ℕ) → List (List ℕ)
rest [] = []
rest (x ∷ xs) = xs

-- the first name is one
pub same_first : (s : Schema) (q : Formula) (k h : Candidates) → AreCandidates s q k → AreCandidates s q h → (c : ℕ)
    → k.first (suc c) ≡ h.first (suc c)
unfolding front
same_first s q k h a b c = ap (λ xs. front xs) (same_names s q k h a b c)

-- so are the others
pub same_texts : (s : Schema) (q : Formula) (k h : Candidates) → AreCandidates s q k → AreCandidates s q h → (c : ℕ)
    → k.texts (suc c) ≡ h.texts (suc c)
unfolding rest
same_texts s q k h a b c = ap (λ xs. rest xs) (same_names s q k h a b c)

-- the name of a category's member is one
pub same_name : (s : Schema) (q : Formula) (k h : Candidates) → AreCandidates s q k → AreCandidates s q h
    → (f : Frozen) (c : ℕ) → name_in k f c ≡ name_in h f c
same_name s q k h a b f zero = refl
same_name s q k h a b f (suc c) = let u = same_first s q k h a b c in let t = same_texts s q k h a b c in
    λ i. text_of_index (u i) (t i) (slice_index f.names c)

-- so is the instance
pub same_thawed : (s : Schema) (q : Formula) (k h : Candidates) → AreCandidates s q k → AreCandidates s q h → (r : ℕ)
    → (f : Frozen) → thawed s k r f ≡ thawed s h r f
same_thawed s q k h a b r f = λ i. instance_of s.graph r (chosen s.graph.edges f.edges)
    (λ c. same_name s q k h a b f c i)

-- ---- the least

-- a frozen dimension is one for all candidates
pub still_frozen : (s : Schema) (q : Formula) (r : ℕ) (k h : Candidates) → AreCandidates s q k → AreCandidates s q h
    → (f : Frozen) → IsFrozen s q r k f → IsFrozen s q r h f
still_frozen s q r k h a b f z = record {
  edge_count = z.edge_count;
  name_count = z.name_count;
  in_range = λ c l. rw (same_texts s q k h a b c) at (z.in_range c l);
  absent = z.absent;
  stands_for = subst (λ i. IsFrozenInstance s q r i) (same_thawed s q k h a b r f) z.stands_for;
}

-- the least is one, and stands for one instance, whichever candidates are taken
pub the_least_is_one : (s : Schema) (q : Formula) (r : ℕ) (k h : Candidates) (f g : Frozen) → IsLeastFrozen s q r k f
    → IsLeastFrozen s q r h g → (f ≡ g) × ((c : ℕ) → name_in k f c ≡ name_in h g c)
    × (thawed s k r f ≡ thawed s h r g)
the_least_is_one s q r k h f g x y =
    let e : f ≡ g = least_is_one s q r k f g x (record {
      candidates = x.candidates;
      is_one = still_frozen s q r h k y.candidates x.candidates g y.is_one;
      least = λ w z. y.least w (still_frozen s q r k h x.candidates y.candidates w z);
    }) in (
      e,
      λ c. same_name s q k h x.candidates y.candidates f c ∙ ap (λ w. name_in h w c) e,
      same_thawed s q k h x.candidates y.candidates r f ∙ ap (λ w. thawed s h r w) e,
    )

-- the law
pub the_least_is_one_law : TheLeastIsOne
the_least_is_one_law s q r k h f g x y =
    let t = the_least_is_one s q r k h f g x y in record {
      root = refl;
      value = t.0;
      names = t.1;
      instance = t.2;
      place = ap (λ w. root_place s r w) t.0;
    }

-- ---- findings

-- the first finding comes before the second
abbrev Earlier : Finding → Finding → Type 0
Earlier f g = IsNotAfter (finding_rank f) (finding_rank g) × (f ≢ g)

-- of two findings only one comes before the other
apart_findings : Apart Earlier
apart_findings f g a b = a.1 (same_rank f g (not_after_both (finding_rank f) (finding_rank g) a.0 b.0))
  where
    of_rank : List ℕ → Finding
    of_rank (suc zero ∷ c ∷ xs) = Unsatisfiable c
    of_rank (suc (suc zero) ∷ c ∷ xs) = Redundant c
    of_rank (n ∷ c ∷ xs) = Unused c
    of_rank xs = Unused 0

    back : (f : Finding) → of_rank (finding_rank f) ≡ f
    back (Unsatisfiable c) = refl
    back f = refl

    same_rank : (f g : Finding) → finding_rank f ≡ finding_rank g → f ≡ g
    same_rank f g e = sym (back f) ∙ ap of_rank e ∙ back g

-- the findings are one list
pub findings_are_one : TheFindingsAreOne
findings_are_one s xs ys a b = same_list Earlier apart_findings xs ys a.ordered b.ordered
    (λ f c. b.complete f (a.sound f c)) (λ f c. a.complete f (b.sound f c))

-- ---- all frozen dimensions

-- before, by their codes, of values with this many edges
abbrev Before : ℕ → Frozen → Frozen → Type 0
Before n f h = IsNotAfter (code f) (code h) × (f ≢ h) × (length f.edges ≡ n) × (length h.edges ≡ n)

-- so it is of two frozen dimensions
apart_frozen : (n : ℕ) → Apart (Before n)
apart_frozen n f h a b = a.1 (code_is_one f h (a.2 ∙ sym a.3) a.0 b.0)

-- exactly all of them, in order, are one list, whichever candidates are taken
pub one_list : (s : Schema) (q : Formula) (r : ℕ) (k h : Candidates) → AreCandidates s q k → AreCandidates s q h
    → (xs ys : List Frozen) → AllPairs (λ f g. IsNotAfter (code f) (code g) × (f ≢ g)) xs
    → AllPairs (λ f g. IsNotAfter (code f) (code g) × (f ≢ g)) ys
    → ((f : Frozen) → Contains xs f → IsFrozen s q r k f) → ((f : Frozen) → Contains ys f → IsFrozen s q r h f)
    → ((f : Frozen) → IsFrozen s q r k f → Contains xs f) → ((f : Frozen) → IsFrozen s q r h f → Contains ys f)
    → xs ≡ ys
one_list s q r k h a b xs ys ox oy sx sy cx cy =
    same_list (Before n) (apart_frozen n) xs ys
    (λ i j d lt w. let p = ox i j d lt w in (
      p.0,
      p.1,
      (sx _ (All-contains_itself xs i d (omega arith))).edge_count,
      (sx _ (All-contains_itself xs j d w)).edge_count,
    ))
    (λ i j d lt w. let p = oy i j d lt w in (
      p.0,
      p.1,
      (sy _ (All-contains_itself ys i d (omega arith))).edge_count,
      (sy _ (All-contains_itself ys j d w)).edge_count,
    ))
    (λ f c. cy f (still_frozen s q r k h a b f (sx f c)))
    (λ f c. cx f (still_frozen s q r h k b a f (sy f c)))
  where
    n : ℕ
    n = length s.graph.edges

-- if all of them are in a list, there aren't more different ones than it has, whichever candidates are taken
pub not_more : (s : Schema) (q : Formula) (r : ℕ) (k h : Candidates) → AreCandidates s q k → AreCandidates s q h
    → (all some : List Frozen) → ((f : Frozen) → IsFrozen s q r k f → Contains all f) → AllPairs ◌≢◌ some
    → ((f : Frozen) → Contains some f → IsFrozen s q r h f) → length some ≤ length all
not_more s q r k h a b all some complete differ sound = no_longer some all differ
    (λ f c. complete f (still_frozen s q r h k b a f (sound f c)))

-- ---- counterexamples

-- the counterexample is one, and stands for one instance, whichever candidates are taken
pub the_counterexample_is_one : (s : Schema) (c : ℕ) (sources : List ℕ) (k h : Candidates) (b d : ℕ) (f g : Frozen)
    → IsCounterexample s c sources k b f → IsCounterexample s c sources h d g
    → (b ≡ d) × (f ≡ g) × ((e : ℕ) → name_in k f e ≡ name_in h g e) × (thawed s k b f ≡ thawed s h d g)
the_counterexample_is_one s c sources k h b d f g x y =
    let q = not_by_one c sources in
    let u = x.least.candidates in let v = y.least.candidates in
    let z : IsCounterexample s c sources k d g = record {
      bottom = y.bottom;
      least = record {
        candidates = u;
        is_one = still_frozen s q d h k v u g y.least.is_one;
        least = λ w t. y.least.least w (still_frozen s q d k h u v w t);
      };
      first = λ e l bottom w t. y.first e l bottom w (still_frozen s q e k h u v w t);
    } in
    let r = counterexample_is_one s c sources k b d f g x z in (
      r.0,
      r.1,
      λ e. ap (λ w. name_in k w e) r.1 ∙ same_name s q k h u v g e,
      (λ i. thawed s k (r.0 i) (r.1 i)) ∙ same_thawed s q k h u v d g,
    )

-- the law
pub the_counterexample_is_one_law : TheCounterexampleIsOne
the_counterexample_is_one_law s c sources k h b d f g x y =
    let t = the_counterexample_is_one s c sources k h b d f g x y in record {
      root = t.0;
      value = t.1;
      names = t.2;
      instance = t.3;
      place = λ i. root_place s (t.0 i) (t.1 i);
    }

-- a yes and a no exclude each other, of any graph
pub not_both_answers : (s : Schema) (c : ℕ) (sources : List ℕ) (k : Candidates) (b : ℕ) (f : Frozen)
    → IsSummarizable s c sources → IsCounterexample s c sources k b f → ⊥
not_both_answers s c sources k b f all x =
    let z = x.least.is_one.stands_for in
    let i = thawed s k b f in
    let bottom : IsBottom s.graph (category_of i z.root) =
    subst (λ d. IsBottom s.graph d) (sym z.root_is.1) x.bottom in
    let exactly = agree_exactly s.graph i c sources z.legal.is_instance z.legal.lawful in
    let one = exactly.0 (all i z.legal) z.root z.root_is.0 bottom z.true_at_root.0 in
    z.true_at_root.1 ((one_of i z.root c sources).1 one)
