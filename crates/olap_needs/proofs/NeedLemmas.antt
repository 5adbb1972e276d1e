-- The constraints that a target needs: they suffice, they are the weakest, and they are one list.
use Rattle.std.proofs.Common.{◌≡◌, ◌<◌, ℕ, List, [], ◌∷◌, ◌++◌, map, refl, sym, subst, inl, inr, arith}
use Rattle.std.proofs.lemmas.List.Elements.{Contains-append_cases, Contains-append_left, Contains-append_right}
use Rattle.std.specs.Prelude.{Contains, ◌↔◌}
use Rattle.olap_base.proofs.ListLemmas.{Contains-map, Contains-from_map, Contains-nil, contains_head}
use Rattle.olap_base.{proofs.ViewLemmas.agree_exactly, specs.Deciding.decide_contains, specs.Graph.IsBottom}
use Rattle.olap_base.specs.{Instance.{Instance, IsMemberOf, category_of}, Views.{IsFactTable, ViewsAgree, members}}
use Rattle.olap_ast.proofs.{Decided.decide_holds, OrderedLists.{Apart, same_list}, Summing.one_of}
use Rattle.olap_ast.specs.{Findings.IsUnsatisfiable, Formula.Holds, Schema.{Constraint, IsLegal, Meets, Schema}}
use Rattle.olap_ast.specs.Summarizable.{IsSummarizable}
use Rattle.olap_needs.specs.Laws.{EmptiedAreOne, MeetsNeeds, NeedsAreAdded, NeedsAreExact, NeedsAreOne, NeedsAreWeakest, NeedsSuffice, NoneNeeded}
use Rattle.olap_needs.specs.Needs.{AreAscending, AreNeeded, IsNeeded, by_one, need, with_needs}
use native.Mathlib.Decide.{ℕ_discrete}

-- an instance is legal with more constraints exactly if it is legal and meets them
pub legal_with : (s : Schema) (more : List Constraint) (i : Instance)
    → IsLegal (record s { constraints = s.constraints ++ more }) i
    ↔ (IsLegal s i × ((c : Constraint) → Contains more c → Meets i c))
legal_with s more i = (
  λ l. (
    record {
      is_instance = l.is_instance;
      numerals = l.numerals;
      lawful = l.lawful;
      meets = λ c h. l.meets c (Contains-append_left s.constraints more c h);
    },
    λ c h. l.meets c (Contains-append_right s.constraints more c h),
  ),
  λ t. record {
    is_instance = t.0.is_instance;
    numerals = t.0.numerals;
    lawful = t.0.lawful;
    meets = λ c h. elim (Contains-append_cases s.constraints more c h) [ inl d ↦ t.0.meets c d | inr d ↦ t.1 c d ];
  },
)

-- the law
pub needs_are_added : NeedsAreAdded
needs_are_added s c sources bs i = (
  λ l. let t = (legal_with s (map (need c sources) bs) i).0 l in
      (t.0, λ b h. t.1 (need c sources b) (Contains-map (need c sources) bs b h)),
  λ t. (legal_with s (map (need c sources) bs) i).1 (
    t.0,
    λ d h.
        let u = Contains-from_map (need c sources) bs d h in subst (λ w. Meets i w) u.2 (t.1 u.0 u.1),
  ),
)

-- a legal instance that meets the constraints of the list meets those of all bottom categories
pub all_met : (s : Schema) (c : ℕ) (sources bs : List ℕ) → AreNeeded s c sources bs → (i : Instance) → IsLegal s i
    → MeetsNeeds c sources bs i → (b : ℕ) → IsBottom s.graph b → Meets i (need c sources b)
all_met s c sources bs n i l m b bottom = go (decide_contains ℕ_discrete bs b)
  where
    held : (Contains bs b → ⊥) → (x : ℕ) → IsMemberOf i b x → Dec (Holds i x (by_one c sources))
        → Holds i x (by_one c sources)
    held out x h (yes p) = p
    held out x h (no f) = absurd (out (n.complete b (bottom, λ u. f (u i l x h))))

    go : Dec (Contains bs b) → Meets i (need c sources b)
    go (yes k) = m b k
    go (no out) = λ x h. held out x h (decide_holds i x (by_one c sources))

-- the law
pub needs_are_exact : NeedsAreExact
needs_are_exact s c sources bs i n l = (to, from)
  where
    to : MeetsNeeds c sources bs i → ViewsAgree (IsFactTable s.graph i) (members i) c sources
    to m = (agree_exactly s.graph i c sources l.is_instance l.lawful).1
        (λ x h b r. (one_of i x c sources).0 (all_met s c sources bs n i l m (category_of i x) b x (h, refl) r))

    from : ViewsAgree (IsFactTable s.graph i) (members i) c sources → MeetsNeeds c sources bs i
    from a b k x h r = (one_of i x c sources).1
        ((agree_exactly s.graph i c sources l.is_instance l.lawful).0 a x h.0
        (subst (λ d. IsBottom s.graph d) (sym h.1) (n.sound b k).0) r)

-- the law
pub needs_suffice : NeedsSuffice
needs_suffice s c sources bs n i l =
    let t = (needs_are_added s c sources bs i).0 l in (needs_are_exact s c sources bs i n t.0).0 t.1

-- the law
pub needs_are_weakest : NeedsAreWeakest
needs_are_weakest s c sources bs others n u i l =
    let t = (legal_with s others i).0 l in
    (needs_are_added s c sources bs i).1 (t.0, (needs_are_exact s c sources bs i n t.0).1 (u i l))

-- the law
pub none_needed : NoneNeeded
none_needed s c sources bs n = (to, λ u. empty bs n u)
  where
    to : bs ≡ [] → IsSummarizable s c sources
    to e i l = (needs_are_exact s c sources bs i n l).0
        (λ b k. absurd (Contains-nil b (subst (λ w. Contains w b) e k)))

    empty : (ds : List ℕ) → AreNeeded s c sources ds → IsSummarizable s c sources → ds ≡ []
    empty [] m u = refl
    empty (d ∷ ds) m u = absurd ((m.sound d (contains_head d ds)).1
        (λ i l. (needs_are_exact s c sources (d ∷ ds) i m l).1 (u i l) d (contains_head d ds)))

-- no two numbers are each below the other
apart : Apart ◌<◌
apart a b l m = absurd (omega (arith, l, m))

-- exactly the numbers of which a fact holds, ascending, are one list
pub ascending_are_one : (P : ℕ → Type 0) (bs others : List ℕ) → AreAscending P bs → AreAscending P others → bs ≡ others
ascending_are_one P bs others m n = same_list ◌<◌ apart bs others m.ordered n.ordered
    (λ b k. n.complete b (m.sound b k)) (λ b k. m.complete b (n.sound b k))

-- the law
pub needs_are_one : NeedsAreOne
needs_are_one s c sources = ascending_are_one (IsNeeded s c sources)

-- the law
pub emptied_are_one : EmptiedAreOne
emptied_are_one s c sources bs = ascending_are_one (λ b. Contains bs b × IsUnsatisfiable (with_needs s c sources bs) b)
