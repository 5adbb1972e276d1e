-- The made instance is legal.
--     city_meets, state_meets, province_meets   the constraints at a member of each category
--     made_is_legal                             within the limit the instance is legal
use Rattle.std.proofs.Common.{◌≡◌, ◌<◌, ◌≤◌, ℕ, zero, suc, codes, refl, ap, sym, subst, ◌∙◌, inl, inr, arith, slice_index_or}
use Rattle.std.specs.Prelude.{◌≢◌, slice_index}
use Rattle.olap_base.specs.Instance.{Instance, IsMemberOf, Member, Reaches, category_of, name_of}
use Rattle.olap_base.specs.{Limits.most_generated, Steps.{Steps.here, Steps.step, reaches_from_Steps}}
use Rattle.olap_ast.specs.Formula.{Formula.Iff, Formula.Implies, Formula.One, Formula.Or, Formula.Xor, Holds, Terms.End, Terms.More}
use Rattle.olap_ast.specs.Schema.{Constraint, IsLegal, Meets}
use Rattle.olap_generate.proofs.Location.{in_canada, in_mexico, in_usa, lies_in, location_graph, location_schema, no_numbers, washington}
use Rattle.olap_generate.proofs.Made.{canada, made, mexico, usa}
use Rattle.olap_generate.proofs.OneParent.{IsUnder, named_once, path_is_up, path_up, under_below}
use Rattle.olap_generate.proofs.{Places.{length_made, at_canada, at_mexico, at_usa}, Sound.sound_instance}
use Rattle.olap_generate.proofs.Standing.{Standing, Standing.a_store, Standing.a_washington, Standing.a_state_city, Standing.a_province_city, Standing.a_state, Standing.a_mexican_state, Standing.a_province, Standing.a_region, Standing.a_country, Standing.the_top, made_is_lawful, standing}
use Rattle.olap_generate.specs.Location.{city, country, province, region, state, store}

-- ---- texts

-- the two names differ
usa_or_mexico : codes "USA" ≢ codes "Mexico"
usa_or_mexico e = let q : ◌≡◌ {A = ℕ} 85 77 = ap (λ t. slice_index t 0) e in omega arith

module _ (seed size : ℕ) where
  abbrev i : Instance
  i = made seed size

  -- ---- the countries

  usa_is : IsMemberOf i country (usa seed size)
  usa_is = (
    let long = length_made seed size in omega arith,
    ap (λ (m : Member). m.category) (at_usa seed size),
  )

  canada_is : IsMemberOf i country (canada seed size)
  canada_is = (
    let long = length_made seed size in omega arith,
    ap (λ (m : Member). m.category) (at_canada seed size),
  )

  mexico_is : IsMemberOf i country (mexico seed size)
  mexico_is = (
    let long = length_made seed size in omega arith,
    ap (λ (m : Member). m.category) (at_mexico seed size),
  )

  -- a parent is reached, and a parent's parent
  one_up : (x p c d : ℕ) → IsUnder i x p c d → Reaches i x p
  one_up x p c d u = reaches_from_Steps (step (under_below i x p c d u) here)

  two_up : (x p q c d e : ℕ) → IsUnder i x p c d → IsUnder i p q d e → Reaches i x q
  two_up x p q c d e u v = reaches_from_Steps (step (under_below i x p c d u) (step (under_below i p q d e v) here))

  by_usa : (x : ℕ) → Reaches i x (usa seed size) → Holds i x in_usa
  by_usa x r = (usa seed size, usa_is, r, ap (λ (m : Member). m.name) (at_usa seed size))

  by_canada : (x : ℕ) → Reaches i x (canada seed size) → Holds i x in_canada
  by_canada x r = (canada seed size, canada_is, r, ap (λ (m : Member). m.name) (at_canada seed size))

  by_mexico : (x : ℕ) → Reaches i x (mexico seed size) → Holds i x in_mexico
  by_mexico x r = (mexico seed size, mexico_is, r, ap (λ (m : Member). m.name) (at_mexico seed size))

  -- what lies in the USA doesn't lie in Mexico
  not_both : (x : ℕ) → Reaches i x (usa seed size) → Holds i x in_mexico → ⊥
  not_both x r h =
      let name = ap (λ (m : Member). m.name) (at_usa seed size) in
      let lawful = made_is_lawful seed size in
      let once = named_once location_graph i lawful x (usa seed size) country (codes "Mexico") r usa_is.1 h in
      usa_or_mexico (sym name ∙ once)

  -- a city of another name isn't Washington
  not_called : (x : ℕ) → category_of i x ≡ city → name_of i x ≢ codes "Washington" → Holds i x washington → ⊥
  not_called x e n h =
      n (named_once location_graph i (made_is_lawful seed size) x x city (codes "Washington") (inl refl) e h)

  -- what has a parent of one category has none of another
  not_up : (x p c d e : ℕ) → IsUnder i x p c d → d ≢ e → Holds i x (lies_in e) → ⊥
  not_up x p c d e u n h = n (path_is_up i x p c d u e h)

  -- its own category is one
  same : (x p c d e : ℕ) → IsUnder i x p c d → category_of i x ≡ e → c ≡ e
  same x p c d e u q = sym u.category ∙ q

  -- ---- the constraints

  -- the constraints of cities
  abbrev pub MeetsCity : ℕ → Type 0
  MeetsCity x =
      Holds i x (Iff (lies_in country) washington)
      × Holds i x (One (More (lies_in state) (More (lies_in province) (More (lies_in country) End))))
      × Holds i x (Implies washington in_usa)

  city_meets : (x : ℕ) → IsMemberOf i city x → Standing seed size x → MeetsCity x
  city_meets x m (a_washington u n) =
      let up = path_up i x (usa seed size) city country u in
      let no = not_up x (usa seed size) city country in (
        ((λ h. (x, m, inl refl, n)), (λ h. up)),
        inr (no state u (λ q. omega arith), inr (no province u (λ q. omega arith), inl (up, tt))),
        λ h. by_usa x (one_up x (usa seed size) city country u),
      )
  city_meets x m (a_state_city p u n) =
      let up = path_up i x p city state u in
      let no = not_up x p city state in
      let in_none = no country u (λ q. omega arith) in (
        ((λ h. absurd (in_none h)), (λ h. absurd (not_called x m.1 n h))),
        inl (up, (no province u (λ q. omega arith), (in_none, tt))),
        λ h. absurd (not_called x m.1 n h),
      )
  city_meets x m (a_province_city p u n) =
      let up = path_up i x p city province u in
      let no = not_up x p city province in
      let in_none = no country u (λ q. omega arith) in (
        ((λ h. absurd (in_none h)), (λ h. absurd (not_called x m.1 n h))),
        inr (no state u (λ q. omega arith), inl (up, (in_none, tt))),
        λ h. absurd (not_called x m.1 n h),
      )
  city_meets x m (a_store p u) = let q = same x p store city city u m.1 in absurd (omega arith)
  city_meets x m (a_state u) = let q = same x _ state country city u m.1 in absurd (omega arith)
  city_meets x m (a_mexican_state p u v) = let q = same x p state region city u m.1 in absurd (omega arith)
  city_meets x m (a_province p u v) = let q = same x p province region city u m.1 in absurd (omega arith)
  city_meets x m (a_region p u) = let q = same x p region country city u m.1 in absurd (omega arith)
  city_meets x m (a_country u) = let q = same x _ country 0 city u m.1 in absurd (omega arith)
  city_meets x m (the_top e q) = let z : 0 ≡ city = sym e ∙ m.1 in absurd (omega arith)

  -- the constraints of states
  abbrev pub MeetsState : ℕ → Type 0
  MeetsState x =
      Holds i x (Or in_usa in_mexico) × Holds i x (Iff (lies_in region) in_mexico)
      × Holds i x (Xor (lies_in region) (lies_in country))

  state_meets : (x : ℕ) → IsMemberOf i state x → Standing seed size x → MeetsState x
  state_meets x m (a_state u) =
      let none = not_up x _ state country region u (λ q. omega arith) in
      let there = one_up x _ _ _ u in (
        inl (by_usa x there),
        ((λ h. absurd (none h)), (λ h. absurd (not_both x there h))),
        inr (none, path_up i x _ _ _ u),
      )
  state_meets x m (a_mexican_state p u v) =
      let there = by_mexico x (two_up x p _ _ _ _ u v) in
      let up = path_up i x p state region u in
      (inr there, ((λ h. there), (λ h. up)), inl (up, not_up x p state region country u (λ q. omega arith)))
  state_meets x m (a_store p u) = let q = same x p store city state u m.1 in absurd (omega arith)
  state_meets x m (a_washington u n) = let q = same x _ city country state u m.1 in absurd (omega arith)
  state_meets x m (a_state_city p u n) = let q = same x p city state state u m.1 in absurd (omega arith)
  state_meets x m (a_province_city p u n) = let q = same x p city province state u m.1 in absurd (omega arith)
  state_meets x m (a_province p u v) = let q = same x p province region state u m.1 in absurd (omega arith)
  state_meets x m (a_region p u) = let q = same x p region country state u m.1 in absurd (omega arith)
  state_meets x m (a_country u) = let q = same x _ country 0 state u m.1 in absurd (omega arith)
  state_meets x m (the_top e q) = let z : 0 ≡ state = sym e ∙ m.1 in absurd (omega arith)

  -- the constraint of provinces
  province_meets : (x : ℕ) → IsMemberOf i province x → Standing seed size x → Holds i x in_canada
  province_meets x m (a_province p u v) = by_canada x (two_up x p _ _ _ _ u v)
  province_meets x m (a_store p u) = let q = same x p store city province u m.1 in absurd (omega arith)
  province_meets x m (a_washington u n) = let q = same x _ city country province u m.1 in absurd (omega arith)
  province_meets x m (a_state_city p u n) = let q = same x p city state province u m.1 in absurd (omega arith)
  province_meets x m (a_province_city p u n) = let q = same x p city province province u m.1 in absurd (omega arith)
  province_meets x m (a_state u) = let q = same x _ state country province u m.1 in absurd (omega arith)
  province_meets x m (a_mexican_state p u v) = let q = same x p state region province u m.1 in absurd (omega arith)
  province_meets x m (a_region p u) = let q = same x p region country province u m.1 in absurd (omega arith)
  province_meets x m (a_country u) = let q = same x _ country 0 province u m.1 in absurd (omega arith)
  province_meets x m (the_top e q) = let z : 0 ≡ province = sym e ∙ m.1 in absurd (omega arith)

  -- ---- all constraints

  at_city_member : (x : ℕ) → IsMemberOf i city x → MeetsCity x
  at_city_member x m = city_meets x m (standing seed size x m.0)

  at_state_member : (x : ℕ) → IsMemberOf i state x → MeetsState x
  at_state_member x m = state_meets x m (standing seed size x m.0)

  met_at : (k : ℕ) (c : Constraint) → k < 7 → Meets i (slice_index_or location_schema.constraints k c)
  met_at zero c l x m = (at_city_member x m).0
  met_at (suc zero) c l x m = (at_city_member x m).1
  met_at (suc (suc zero)) c l x m = (at_city_member x m).2
  met_at (suc (suc (suc zero))) c l x m = (at_state_member x m).0
  met_at (suc (suc (suc (suc zero)))) c l x m = (at_state_member x m).1
  met_at (suc (suc (suc (suc (suc zero))))) c l x m = (at_state_member x m).2
  met_at (suc (suc (suc (suc (suc (suc zero)))))) c l x m = province_meets x m (standing seed size x m.0)
  met_at (suc (suc (suc (suc (suc (suc (suc k))))))) c l x m = absurd (omega arith)

  pub made_is_legal : size ≤ most_generated → IsLegal location_schema i
  made_is_legal few = record {
    is_instance = sound_instance seed size few;
    numerals = λ x l b. absurd (no_numbers (category_of i x) b);
    lawful = made_is_lawful seed size;
    meets = λ c h. subst (Meets i) h.2 (met_at h.0 c h.1);
  }
