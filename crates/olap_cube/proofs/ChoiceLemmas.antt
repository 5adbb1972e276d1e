-- A cube's target is summarizable exactly if no choice of frozen dimensions is bad.
use Rattle.std.proofs.{Common.{ℕ, ◌↔◌, List, [], ◌∷◌, refl, sym, subst, ◌∙◌}, lemmas.List.Elements.{All-head, All-tail}}
use Rattle.std.specs.{List.AllZip, Prelude.All}
use Rattle.olap_base.{proofs.DecisionLemmas.dec_not, proofs.RollingLemmas.one_same, specs.Deciding.{dec_and, dec_or}}
use Rattle.olap_base.specs.Graph.{IsBottom, IsHierarchy}
use Rattle.olap_base.specs.Instance.{Instance, IsMemberOf, ReachesCategory, ReachesVia, category_of}
use Rattle.olap_base.specs.Views.{ExactlyOne, NoneOf}
use Rattle.olap_ast.proofs.{Decided.dec_via, SameAtoms.kinds_too, SmallModel.frozen_alike}
use Rattle.olap_ast.specs.{Formula.{Formula.Reach, Formula.Truth, Formula.Via}, Frozen.{CandidatesExist, thawed}}
use Rattle.olap_ast.specs.Schema.{Schema, IsLegal}
use Rattle.olap_cube.proofs.CubeLemmas.{cubes_agree_exactly}
use Rattle.olap_cube.specs.CubeSummarizable.{Chosen, CubeSummarizableExactlyIfNoneBad, IsBadChoice, IsChosen, IsCubeSummarizable, IsKinded, bottoms_of, graphs_of, instances_of}
use Rattle.olap_cube.specs.Tuples.{AllZip3, AreLawful, IsBottomTuple, IsTupleOf, TupleReaches, TupleReachesVia}

-- legal instances are lawful
pub lawful_from_legal : (ss : List Schema) (is : List Instance) → AllZip IsLegal ss is → AreLawful (graphs_of ss) is
lawful_from_legal [] [] l = tt
lawful_from_legal [] (i ∷ is) l = absurd l
lawful_from_legal (s ∷ ss) [] l = absurd l
lawful_from_legal (s ∷ ss) (i ∷ is) l = (l.0.lawful, lawful_from_legal ss is l.1)

-- ---- a choice stands for legal instances, with its roots at the bottom, and they reach the target

-- the instances of a choice are legal
pub chosen_legal : (ss : List Schema) (cs : List ℕ) (ps : List Chosen) → AllZip3 IsChosen ss cs ps
    → AllZip IsLegal ss (instances_of ss ps)
chosen_legal [] [] [] a = tt
chosen_legal [] [] (p ∷ ps) a = absurd a
chosen_legal [] (c ∷ cs) ps a = absurd a
chosen_legal (s ∷ ss) [] ps a = absurd a
chosen_legal (s ∷ ss) (c ∷ cs) [] a = absurd a
chosen_legal (s ∷ ss) (c ∷ cs) (p ∷ ps) a = (a.0.is_one.stands_for.legal, chosen_legal ss cs ps a.1)

-- its roots are a tuple of bottom members
pub chosen_bottom : (ss : List Schema) (cs : List ℕ) (ps : List Chosen) → AllZip3 IsChosen ss cs ps → (roots : List ℕ)
    → IsTupleOf (instances_of ss ps) (bottoms_of ps) roots
    → IsBottomTuple (graphs_of ss) (instances_of ss ps) roots
chosen_bottom [] [] [] a [] m = tt
chosen_bottom [] [] [] a (x ∷ xs) m = absurd m
chosen_bottom [] [] (p ∷ ps) a xs m = absurd a
chosen_bottom [] (c ∷ cs) ps a xs m = absurd a
chosen_bottom (s ∷ ss) [] ps a xs m = absurd a
chosen_bottom (s ∷ ss) (c ∷ cs) [] a xs m = absurd a
chosen_bottom (s ∷ ss) (c ∷ cs) (p ∷ ps) a [] m = absurd m
chosen_bottom (s ∷ ss) (c ∷ cs) (p ∷ ps) a (x ∷ xs) m = (
  (m.0.0, subst (λ d. IsBottom s.graph d) (sym m.0.1) a.0.bottom),
  chosen_bottom ss cs ps a.1 xs m.1,
)

-- the root of a chosen frozen dimension reaches the target
pub reaches_target : (s : Schema) (c : ℕ) (p : Chosen) → IsChosen s c p → (x : ℕ)
    → IsMemberOf (thawed s p.candidates p.bottom p.frozen) p.bottom x
    → ReachesCategory (thawed s p.candidates p.bottom p.frozen) x c
reaches_target s c p a x m = let f = a.is_one.stands_for in
    subst (λ y. ReachesCategory (thawed s p.candidates p.bottom p.frozen) y c)
    (f.one_each f.root x f.root_is.0 m.0 (f.root_is.1 ∙ sym m.1)) f.true_at_root

-- so the roots of a choice reach a tuple of the target
pub chosen_up : (ss : List Schema) (cs : List ℕ) (ps : List Chosen) → AllZip3 IsChosen ss cs ps → (roots : List ℕ)
    → IsTupleOf (instances_of ss ps) (bottoms_of ps) roots
    → (y : List ℕ) × IsTupleOf (instances_of ss ps) cs y × TupleReaches (instances_of ss ps) roots y
chosen_up [] [] [] a [] m = ([], tt, tt)
chosen_up [] [] [] a (x ∷ xs) m = absurd m
chosen_up [] [] (p ∷ ps) a xs m = absurd a
chosen_up [] (c ∷ cs) ps a xs m = absurd a
chosen_up (s ∷ ss) [] ps a xs m = absurd a
chosen_up (s ∷ ss) (c ∷ cs) [] a xs m = absurd a
chosen_up (s ∷ ss) (c ∷ cs) (p ∷ ps) a [] m = absurd m
chosen_up (s ∷ ss) (c ∷ cs) (p ∷ ps) a (x ∷ xs) m =
    let r = reaches_target s c p a.0 x m.0 in let rest = chosen_up ss cs ps a.1 xs m.1 in
    (r.0 ∷ rest.0, (r.1, rest.1), (r.2, rest.2))

-- where the target is summarizable they reach it by exactly one source
by_one : (ss : List Schema) (cs : List ℕ) (sources : List (List ℕ)) (ps : List Chosen) → AllZip3 IsChosen ss cs ps
    → (roots : List ℕ) → IsTupleOf (instances_of ss ps) (bottoms_of ps) roots → IsCubeSummarizable ss cs sources
    → ExactlyOne (λ t. TupleReachesVia (instances_of ss ps) roots t cs) sources
by_one ss cs sources ps a roots m h =
    let l = chosen_legal ss cs ps a in let up = chosen_up ss cs ps a roots m in
    (cubes_agree_exactly (graphs_of ss) (instances_of ss ps) cs sources
    (lawful_from_legal ss (instances_of ss ps) l)).0
    (h (instances_of ss ps) l) roots (chosen_bottom ss cs ps a roots m) up.0 up.1 up.2

-- ---- what tuples of members reach, choices reach

-- a choice whose roots reach the target by the same sources as a tuple of an instance
record Alike (ss : List Schema) (cs : List ℕ) (is : List Instance) (x : List ℕ) : Type 0 where
  choice : List Chosen
  chosen : AllZip3 IsChosen ss cs choice
  roots : List ℕ
  roots_are : IsTupleOf (instances_of ss choice) (bottoms_of choice) roots
  same : (t : List ℕ) → TupleReachesVia (instances_of ss choice) roots t cs ↔ TupleReachesVia is x t cs

-- there is one, dimension by dimension, by the small-model theorem
alike : CandidatesExist → (ss : List Schema) (cs : List ℕ) (is : List Instance) (x y : List ℕ)
    → All IsHierarchy (graphs_of ss) → All IsKinded ss → AllZip IsLegal ss is → IsBottomTuple (graphs_of ss) is x
    → IsTupleOf is cs y → TupleReaches is x y → Alike ss cs is x
alike exist [] [] [] [] y a w l b m r = record {
  choice = [];
  chosen = tt;
  roots = [];
  roots_are = tt;
  same = λ t. (λ v. v, λ v. v);
}
alike exist [] (c ∷ cs) [] [] y a w l b m r = absurd m
alike exist [] cs [] (x ∷ xs) y a w l b m r = absurd b
alike exist [] cs (i ∷ is) x y a w l b m r = absurd l
alike exist (s ∷ ss) cs [] x y a w l b m r = absurd l
alike exist (s ∷ ss) cs (i ∷ is) [] y a w l b m r = absurd b
alike exist (s ∷ ss) [] (i ∷ is) (x ∷ xs) y a w l b m r = absurd m
alike exist (s ∷ ss) (c ∷ cs) (i ∷ is) (x ∷ xs) [] a w l b m r = absurd m
alike exist (s ∷ ss) (c ∷ cs) (i ∷ is) (x ∷ xs) (y ∷ ys) a w l b m r =
    let k = exist s (Reach c) (kinds_too s Truth (Reach c) refl refl (All-head IsKinded s ss w)) in
    let hier = All-head IsHierarchy s.graph (graphs_of ss) a in
    let f = frozen_alike s (Reach c) k.0 hier k.1 i l.0 x b.0.0 (y, m.0, r.0) in
    let rest = alike exist ss cs is xs ys (All-tail IsHierarchy s.graph (graphs_of ss) a) (All-tail IsKinded s ss w) l.1
    b.1 m.1 r.1 in
    let p : Chosen = record { bottom = category_of i x; candidates = k.0; frozen = f.0 } in
    let z = f.1.stands_for.root in
    record {
      choice = p ∷ rest.choice;
      chosen = (record { bottom = b.0.1; candidates = k.1; is_one = f.1 }, rest.chosen);
      roots = z ∷ rest.roots;
      roots_are = (f.1.stands_for.root_is, rest.roots_are);
      same = λ t. joined t (thawed s k.0 (category_of i x) f.0) z
          (λ d. f.2 (Via d c) refl refl z f.1.stands_for.root_is) rest;
    }
  where
    joined : (t : List ℕ) (j : Instance) (z : ℕ) → ((d : ℕ) → ReachesVia j z d c ↔ ReachesVia i x d c)
        → (rest : Alike ss cs is xs)
        → TupleReachesVia (j ∷ instances_of ss rest.choice) (z ∷ rest.roots) t (c ∷ cs)
        ↔ TupleReachesVia (i ∷ is) (x ∷ xs) t (c ∷ cs)
    joined [] j z h rest = (λ v. v, λ v. v)
    joined (d ∷ t) j z h rest =
        (λ v. ((h d).0 v.0, (rest.same t).0 v.1), λ v. ((h d).1 v.0, (rest.same t).1 v.1))

-- ---- whether exactly one source is by the way

-- that none is so can be decided, where each can
dec_none : {A : Type 0} (P : A → Type 0) → ((x : A) → Dec (P x)) → (xs : List A) → Dec (NoneOf P xs)
dec_none P d [] = yes tt
dec_none P d (x ∷ xs) = dec_and (dec_not (d x)) (dec_none P d xs)

-- that exactly one is so can be decided, where each can
pub dec_one : {A : Type 0} (P : A → Type 0) → ((x : A) → Dec (P x)) → (xs : List A) → Dec (ExactlyOne P xs)
dec_one P d [] = no (λ o. o)
dec_one P d (x ∷ xs) =
    dec_or (dec_and (d x) (dec_none P d xs)) (dec_and (dec_not (d x)) (dec_one P d xs))

-- by way of a source: it can be decided, place by place
pub dec_tuple_via : (is : List Instance) (xs ts cs : List ℕ) → Dec (TupleReachesVia is xs ts cs)
dec_tuple_via [] [] [] [] = yes tt
dec_tuple_via [] [] [] (c ∷ cs) = no (λ v. v)
dec_tuple_via [] [] (t ∷ ts) cs = no (λ v. v)
dec_tuple_via [] (x ∷ xs) ts cs = no (λ v. v)
dec_tuple_via (i ∷ is) [] ts cs = no (λ v. v)
dec_tuple_via (i ∷ is) (x ∷ xs) [] cs = no (λ v. v)
dec_tuple_via (i ∷ is) (x ∷ xs) (t ∷ ts) [] = no (λ v. v)
dec_tuple_via (i ∷ is) (x ∷ xs) (t ∷ ts) (c ∷ cs) = dec_and (dec_via i x t c) (dec_tuple_via is xs ts cs)

-- the law
pub cube_summarizable_exactly : CandidatesExist → CubeSummarizableExactlyIfNoneBad
cube_summarizable_exactly exist ss cs sources hier kinds = (to, from)
  where
    to : IsCubeSummarizable ss cs sources → (choice : List Chosen) → IsBadChoice ss cs sources choice → ⊥
    to h choice b = b.bad (by_one ss cs sources choice b.chosen b.roots b.roots_are h)

    from : ((choice : List Chosen) → IsBadChoice ss cs sources choice → ⊥) → IsCubeSummarizable ss cs sources
    from none is l = (cubes_agree_exactly (graphs_of ss) is cs sources (lawful_from_legal ss is l)).1
        (λ x b y m r. one x b y m r
        (dec_one (λ t. TupleReachesVia is x t cs) (λ t. dec_tuple_via is x t cs) sources))
      where
        one : (x : List ℕ) → IsBottomTuple (graphs_of ss) is x → (y : List ℕ) → IsTupleOf is cs y
            → TupleReaches is x y → Dec (ExactlyOne (λ t. TupleReachesVia is x t cs) sources)
            → ExactlyOne (λ t. TupleReachesVia is x t cs) sources
        one x b y m r (yes o) = o
        one x b y m r (no n) = let a = alike exist ss cs is x y hier kinds l b m r in
            absurd (none a.choice (record {
              chosen = a.chosen;
              roots = a.roots;
              roots_are = a.roots_are;
              bad = λ o. n (one_same (λ t. TupleReachesVia (instances_of ss a.choice) a.roots t cs)
                  (λ t. TupleReachesVia is x t cs) a.same sources o);
            }))
