-- What holds of every frozen dimension and of every counterexample.
use Rattle.std.proofs.Common.{◌≡◌, ◌≢◌, ℕ, suc, List, [], ◌∷◌, pos, Some, None, refl, sym, ◌∙◌, ap, subst, inl, inr}
use Rattle.std.specs.List.{cons_option}
use Rattle.olap_base.proofs.{ListLemmas.Contains-nil, OneFactLemmas.one_facts_views}
use Rattle.olap_base.specs.{Deciding.contains_cases, Graph.{IsBottom, IsHierarchy}}
use Rattle.olap_base.specs.Instance.{Instance, IsMember, IsMemberOf, ReachesVia, category_of}
use Rattle.olap_base.specs.{OneFact.{HoldsTimes, ones}, Views.{Fact, IsFactTable, one_fact, only_sum, row_at}}
use Rattle.olap_ast.{proofs.Decided.decide_holds, specs.Formula.{Formula.Via, Holds, ExactlyOneHolds, NoneHolds}}
use Rattle.olap_ast.specs.{Frozen.{Candidates, Frozen, chosen, name_in, root_place, thawed}, Schema.Schema}
use Rattle.olap_ast.specs.Summarizable.{IsCounterexample, not_by_one, vias}
use Rattle.olap_frozen.proofs.ChosenLemmas.{choice_of}
use Rattle.olap_cex.{proofs.CexLemmas.{no_ones, some_ones}, specs.CexText.views_sum}
use Rattle.olap_cex.specs.Laws.{CounterexampleSums, FrozenIsLegal, HasTwoSums, QuestionIsTrue, RootIsMember}
use native.Mathlib.Decide.{ℕ_discrete}
use Rattle.olap_frozen.proofs.ChosenInstance as made

-- the instance of a frozen dimension is legal
pub frozen_is_legal : FrozenIsLegal
frozen_is_legal s q r k f t = t.stands_for.legal

-- the root's place is the place of the root's member
pub root_is_member : RootIsMember
root_is_member s q r k f hier root t =
    let ch = choice_of s.graph r f.edges hier root in
    made.member_is s.graph r (chosen s.graph.edges f.edges) ch (name_in k f) r
    (made.root_present s.graph r (chosen s.graph.edges f.edges) ch)

-- the question is true at the root's member
pub question_is_true : QuestionIsTrue
question_is_true s q r k f hier root t =
    let ch = choice_of s.graph r f.edges hier root in
    let o = made.only_member s.graph r (chosen s.graph.edges f.edges) ch (name_in k f) r t.stands_for.root
    t.stands_for.root_is in
    subst (λ x. Holds (thawed s k r f) x q) (sym o.1) t.stands_for.true_at_root

-- ---- counting

-- what can be decided of each item holds of this many
counted : (P : ℕ → Type 0) → ((x : ℕ) → Dec (P x)) → (xs : List ℕ) → (n : ℕ) × HoldsTimes P xs n
counted P d [] = (0, refl)
counted P d (x ∷ xs) = let t = counted P d xs in elim (d x) [
  | yes p ↦ (suc t.0, inl (p, t.0, refl, t.1))
  | no p ↦ (t.0, inr (p, t.1))
]

module _ (i : Instance) (x c : ℕ) where
  none_holds : (sources : List ℕ) (n : ℕ) → n ≡ 0 → HoldsTimes (λ s. ReachesVia i x s c) sources n
      → NoneHolds i x (vias c sources)
  none_holds [] n e h = tt
  none_holds (s ∷ ss) n e (inl t) = let z : suc t.1 ≡ 0 = sym t.2 ∙ e in absurd (cc)
  none_holds (s ∷ ss) n e (inr t) = (t.0, none_holds ss n e t.1)

  one_holds : (sources : List ℕ) (n : ℕ) → n ≡ 1 → HoldsTimes (λ s. ReachesVia i x s c) sources n
      → ExactlyOneHolds i x (vias c sources)
  one_holds [] n e h = let z : 0 ≡ 1 = sym h ∙ e in absurd (cc)
  one_holds (s ∷ ss) n e (inl t) = let z : suc t.1 ≡ suc 0 = sym t.2 ∙ e in
      let m : t.1 ≡ 0 = cc in inl (t.0, none_holds ss t.1 m t.3)
  one_holds (s ∷ ss) n e (inr t) = inr (t.0, one_holds ss n e t.1)

-- ---- the sums

module _ (s : Schema) (c : ℕ) (sources : List ℕ) (k : Candidates) (b : ℕ) (f : Frozen) (hier : IsHierarchy s.graph)
    (t : IsCounterexample s c sources k b f) where
  abbrev i : Instance
  i = thawed s k b f

  abbrev x : ℕ
  x = root_place s b f

  root : IsMemberOf i b x
  root = root_is_member s (not_by_one c sources) b k f hier t.bottom.0.1 t.least.is_one

  asked : Holds i x (not_by_one c sources)
  asked = question_is_true s (not_by_one c sources) b k f hier t.bottom.0.1 t.least.is_one

  facts : IsFactTable s.graph i (one_fact x)
  facts fact h = elim (contains_cases fact (record { at = x; value = pos 1 }) [] h) [
    | inl e ↦ subst (λ (y : Fact ℕ). IsMember i y.at × IsBottom s.graph (category_of i y.at)) e
        (root.0, subst (λ d. IsBottom s.graph d) (sym root.1) t.bottom)
    | inr n ↦ absurd (Contains-nil fact n)
  ]

  -- how many sources the root reaches the target by
  ways : (n : ℕ) × HoldsTimes (λ d. ReachesVia i x d c) sources n
  ways = counted (λ d. ReachesVia i x d c) (λ d. decide_holds i x (Via d c)) sources

  not_one : ways.0 ≢ 1
  not_one e = asked.1 (one_holds i x c sources ways.0 e ways.1)

  views : views_sum i x c sources ≡ Some (pos 1) → ⊥
  views e = elim (ℕ_discrete ways.0 0) [
    | yes z ↦ let q : None ≡ Some (pos 1) = sym (told ∙ no_ones asked.0.0 ways.0 z) ∙ e in cc
    | no z ↦ not_one (let q : Some (pos ways.0) ≡ Some (pos 1) = sym (told ∙ some_ones asked.0.0 ways.0 z) ∙ e in cc)
  ]
    where
      told : views_sum i x c sources ≡ only_sum (cons_option (row_at asked.0.0 (ones ways.0)) [])
      told = ap only_sum (one_facts_views s.graph i t.least.is_one.stands_for.legal.lawful c x
          asked.0.0 asked.0.1 asked.0.2 sources ways.0 ways.1).1

  two_sums : HasTwoSums s c sources k b f
  two_sums = record {
    facts = facts;
    direct = ap only_sum (one_facts_views s.graph i t.least.is_one.stands_for.legal.lawful c x
        asked.0.0 asked.0.1 asked.0.2 sources ways.0 ways.1).0;
    views = views;
  }

-- one fact at the root of a counterexample has two sums that differ
pub counterexample_sums : CounterexampleSums
counterexample_sums s c sources k b f hier t = two_sums s c sources k b f hier t
