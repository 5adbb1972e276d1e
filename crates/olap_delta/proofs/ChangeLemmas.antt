-- Views whose summaries a function of members gives, after a fact.
use Rattle.std.proofs.Common.{◌≡◌, ℕ, List, [], ◌∷◌, map, Bool, true, false, cond, refl, sym, ap, subst, ◌∙◌, inl, inr, ℤ, Option, Some, None, IfSome, arith}
use Rattle.std.proofs.lemmas.Bool.{false_from_ne_true, eqb-true, eq-eqb, Decides.nat_tests}
use Rattle.std.specs.{List.cons_option, Option.option_map}
use Rattle.std.specs.Prelude.{Contains, filter, find, ◌==◌, MatchResult, Result, Ok, Err}
use Rattle.olap_base.proofs.ListLemmas.{Contains-filter, Contains-from_filter, Contains-nil, Distinct, contains_head}
use Rattle.olap_base.proofs.ViewLemmas.{Distinct-members_of, members_once}
use Rattle.olap_base.specs.{Deciding.{contains_cases, contains_cons}, Graph.Graph, Instance.{Instance, IsLawful}}
use Rattle.olap_base.specs.{Reaching.reaches, Summaries.Summary, Views.{Fact, Row, View, members_of, row_at}}
use Rattle.olap_view.{proofs.FileOrderLemmas.{rows_by, view_by}, specs.Stores.summary_in}
use Rattle.olap_delta.{proofs.RowLemmas.IsSmall, specs.Changes.{Step, view_with}}
use Rattle.olap_delta.specs.FactByFact.{view_after_at, view_after_fact, views_after_fact}
use Rattle.olap_delta.specs.declared.kinds.DeltaKind.{DeltaKind}

-- ---- a row

-- different numbers fail the test
test_false : (x y : ℕ) → (x ≡ y → ⊥) → (x == y) ≡ false
test_false x y n = grind (arith, nat_tests)

module _ (h : ℕ → Option Summary) (y : ℕ) where
  -- the row of another member is passed over
  past : (x : ℕ) → (x ≡ y → ⊥) → (rows : List (Row ℕ))
      → summary_in (cons_option (row_at x (h x)) rows) y ≡ summary_in rows y
  past x n rows = go (h x)
    where
      go : (o : Option Summary) → summary_in (cons_option (row_at x o) rows) y ≡ summary_in rows y
      go None = refl
      go (Some s) = ap (λ b. option_map (λ (r : Row ℕ). r.summary)
          (cond b (Some (record { at = x; summary = s })) (find (λ r. r.at == y) rows))) (test_false x y n)

  -- no row stands at what isn't among the members
  nothing_at : (xs : List ℕ) → (Contains xs y → ⊥) → summary_in (rows_by h xs) y ≡ None
  nothing_at [] n = refl
  nothing_at (x ∷ xs) n =
      past x (λ e. n (subst (λ z. Contains (x ∷ xs) z) e (contains_head x xs))) (rows_by h xs)
      ∙ nothing_at xs (λ c. n (contains_cons y xs x c))

  -- at a member stands what the function gives
  stands_at : (xs : List ℕ) → Distinct xs → Contains xs y → summary_in (rows_by h xs) y ≡ h y
  stands_at [] d c = absurd (Contains-nil y c)
  stands_at (x ∷ xs) d c = elim (contains_cases y x xs c) [
    | inl e ↦ here (h x) refl e
    | inr k ↦ past x (λ e. d.0 (subst (λ z. Contains xs z) (sym e) k)) (rows_by h xs) ∙ stands_at xs d.1 k
  ]
    where
      here : (o : Option Summary) → h x ≡ o → x ≡ y → summary_in (cons_option (row_at x o) (rows_by h xs)) y ≡ h y
      here None e q = nothing_at xs (λ k. d.0 (subst (λ z. Contains xs z) (sym q) k)) ∙ sym e ∙ ap h q
      here (Some s) e q = ap (λ b. option_map (λ (r : Row ℕ). r.summary)
          (cond b (Some (record { at = x; summary = s })) (find (λ r. r.at == y) (rows_by h xs))))
          (eq-eqb x y q)
          ∙ sym e ∙ ap h q

-- the row that the view has at a member
pub summary_in-rows : (i : Instance) (h : ℕ → Option Summary) (c y : ℕ) → Contains (members_of i c) y
    → summary_in (rows_by h (members_of i c)) y ≡ h y
summary_in-rows i h c y k = stands_at h y (members_of i c) (Distinct-members_of i c) k

-- functions that agree at the members give the same rows
pub rows_alike : (h k : ℕ → Option Summary) (ys : List ℕ) → ((y : ℕ) → Contains ys y → h y ≡ k y)
    → rows_by h ys ≡ rows_by k ys
rows_alike h k [] f = refl
rows_alike h k (y ∷ ys) f =
    grind (arith, rows_by, contains_head, rows_alike h k ys (λ z c. f z (contains_cons z ys y c)))

-- and the same view
pub view_alike : (i : Instance) (h k : ℕ → Option Summary) (c : ℕ) → ((y : ℕ) → Contains (members_of i c) y → h y ≡ k y)
    → view_by i h c ≡ view_by i k c
view_alike i h k c f = ap (λ rows. record { target = c; rows = rows }) (rows_alike h k (members_of i c) f)

-- ---- a view

-- another summary at y
abbrev pub with_at : (ℕ → Option Summary) → ℕ → Summary → ℕ → Option Summary
with_at h y s z = cond (z == y) (Some s) (h z)

-- a view with another summary at y is that of the changed function
view_with-is : (i : Instance) (h : ℕ → Option Summary) (c y : ℕ) (s : Summary)
    → view_with i (view_by i h c) y s ≡ view_by i (with_at h y s) c
view_with-is i h c y s = view_alike i (λ z. cond (z == y) (Some s) (summary_in (rows_by h (members_of i c)) z))
    (with_at h y s) c (λ z k. ap (λ o. cond (z == y) (Some s) o) (summary_in-rows i h c z k))

-- the view after what the step gave at y
abbrev pub stepped : Instance → (ℕ → Option Summary) → ℕ → ℕ → Result Summary DeltaKind → Result (View ℕ ℕ) DeltaKind
stepped i h c y (Ok s) = Ok (view_by i (with_at h y s) c)
stepped i h c y (Err k) = Err k

module _ (step : Step) (i : Instance) (h : ℕ → Option Summary) (c : ℕ) (f : Fact ℕ) where
  -- no member of c is reached
  pub view_unreached : ((y : ℕ) → Contains (members_of i c) y → reaches i f.at y ≡ true → ⊥)
      → view_after_fact step i (view_by i h c) f ≡ Ok (view_by i h c)
  view_unreached n = go (filter (λ y. reaches i f.at y) (members_of i c)) refl
    where
      go : (ys : List ℕ) → filter (λ y. reaches i f.at y) (members_of i c) ≡ ys
          → view_after_at step i (view_by i h c) f.value ys ≡ Ok (view_by i h c)
      go [] e = refl
      go (y ∷ ys) e =
          let t = Contains-from_filter (λ y. reaches i f.at y) (members_of i c) y
          (subst (λ xs. Contains xs y) (sym e) (contains_head y ys)) in
          absurd (n y t.0 t.1)

  -- y is the one that is reached
  pub view_reached : (y : ℕ) → Contains (members_of i c) y → reaches i f.at y ≡ true
      → ((z : ℕ) → Contains (members_of i c) z → reaches i f.at z ≡ true → z ≡ y)
      → view_after_fact step i (view_by i h c) f ≡ stepped i h c y (step (h y) f.value)
  view_reached y k r only = go (filter (λ y. reaches i f.at y) (members_of i c)) refl
    where
      then : (o : Result Summary DeltaKind)
          → ◌≡◌ {A = Result (View ℕ ℕ) DeltaKind} (elim o [
            | Ok s ↦ Ok (view_with i (view_by i h c) y s)
            | Err k ↦ Err k
          ]) (stepped i h c y o)
      then (Ok s) = ap Ok (view_with-is i h c y s)
      then (Err k) = refl

      go : (ys : List ℕ) → filter (λ y. reaches i f.at y) (members_of i c) ≡ ys
          → view_after_at step i (view_by i h c) f.value ys ≡ stepped i h c y (step (h y) f.value)
      go [] e = absurd (Contains-nil y (subst (λ xs. Contains xs y) e
          (Contains-filter (λ y. reaches i f.at y) (members_of i c) y r k)))
      go (z ∷ ys) e =
          let t = Contains-from_filter (λ y. reaches i f.at y) (members_of i c) z
          (subst (λ xs. Contains xs z) (sym e) (contains_head z ys)) in
          ap (λ x. view_after_at step i (view_by i h c) f.value (x ∷ ys)) (only z t.0 t.1)
          ∙ then (step (summary_in (rows_by h (members_of i c)) y) f.value)
          ∙ ap (λ o. stepped i h c y (step o f.value)) (summary_in-rows i h c y k)

-- ---- a view of totals, and several

-- what stands at the members of c is small
abbrev pub AreSmall : Instance → ℕ → (ℕ → Option Summary) → Type 0
AreSmall i c h = (y : ℕ) → Contains (members_of i c) y → IfSome (h y) IsSmall

-- the step makes after of before, or fails in one way
abbrev pub Makes : Step → DeltaKind → Option Summary → ℤ → Option Summary → Type 0
Makes step kind before v after = MatchResult (step before v) (λ s. (Some s ≡ after) × IsSmall s) (λ k. k ≡ kind)

-- on a lawful instance, where the fact's value does so at each member that it reaches, and nothing changes elsewhere
module _ (step : Step) (kind : DeltaKind) (g : Graph) (i : Instance) (w : IsLawful g i)
    (before after : ℕ → Option Summary) (f : Fact ℕ)
    (elsewhere : (y : ℕ) → reaches i f.at y ≡ false → before y ≡ after y)
    (there : (y : ℕ) → reaches i f.at y ≡ true → IfSome (before y) IsSmall
    → Makes step kind (before y) f.value (after y)) where
  -- a view of what was before becomes that of what is after, or the step fails in that way
  view_step : (c : ℕ) → AreSmall i c before → MatchResult (view_after_fact step i (view_by i before c) f)
      (λ v. (v ≡ view_by i after c) × AreSmall i c after) (λ k. k ≡ kind)
  view_step c small = go (filter (λ y. reaches i f.at y) (members_of i c)) refl
    where
      go : (ys : List ℕ) → filter (λ y. reaches i f.at y) (members_of i c) ≡ ys
          → MatchResult (view_after_fact step i (view_by i before c) f)
          (λ v. (v ≡ view_by i after c) × AreSmall i c after) (λ k. k ≡ kind)
      go [] e = subst (λ (r : Result (View ℕ ℕ) DeltaKind). MatchResult r
          (λ v. (v ≡ view_by i after c) × AreSmall i c after) (λ k. k ≡ kind))
          (sym (view_unreached step i before c f none)) (
            view_alike i before after c same,
            λ y k. subst (λ (o : Option Summary). IfSome o IsSmall) (same y k) (small y k),
          )
        where
          none : (y : ℕ) → Contains (members_of i c) y → reaches i f.at y ≡ true → ⊥
          none y k r = Contains-nil y (subst (λ xs. Contains xs y) e
              (Contains-filter (λ y. reaches i f.at y) (members_of i c) y r k))

          same : (y : ℕ) → Contains (members_of i c) y → before y ≡ after y
          same y k = elsewhere y (false_from_ne_true (reaches i f.at y) (none y k))
      go (y ∷ ys) e = subst (λ (r : Result (View ℕ ℕ) DeltaKind). MatchResult r
          (λ v. (v ≡ view_by i after c) × AreSmall i c after) (λ k. k ≡ kind))
          (sym (view_reached step i before c f y at.0 at.1 only))
          (then (step (before y) f.value) (there y at.1 (small y at.0)))
        where
          at : Contains (members_of i c) y × (reaches i f.at y ≡ true)
          at = Contains-from_filter (λ y. reaches i f.at y) (members_of i c) y
              (subst (λ xs. Contains xs y) (sym e) (contains_head y ys))

          only : (z : ℕ) → Contains (members_of i c) z → reaches i f.at z ≡ true → z ≡ y
          only z k r = members_once g i w c f.at z y k at.0 r at.1

          then : (o : Result Summary DeltaKind) → MatchResult o (λ s. (Some s ≡ after y) × IsSmall s) (λ k. k ≡ kind)
              → MatchResult (stepped i before c y o) (λ v. (v ≡ view_by i after c) × AreSmall i c after) (λ k. k ≡ kind)
          then (Err k) h = h
          then (Ok s) h = (
            view_alike i (with_at before y s) after c (λ z k. each z k (z == y) refl),
            λ z k. still z k (z == y) refl,
          )
            where
              each : (z : ℕ) → Contains (members_of i c) z → (b : Bool) → (z == y) ≡ b
                  → cond b (Some s) (before z) ≡ after z
              each z k true t = h.0 ∙ ap after (sym (eqb-true z y t))
              each z k false t = elsewhere z (false_from_ne_true (reaches i f.at z) (λ r.
                  let u = eq-eqb z y (only z k r) in let x : true ≡ false = sym u ∙ t in absurd (cc)))

              still : (z : ℕ) → Contains (members_of i c) z → (b : Bool) → (z == y) ≡ b → IfSome (after z) IsSmall
              still z k true t = subst (λ (o : Option Summary). IfSome o IsSmall)
                  (h.0 ∙ ap after (sym (eqb-true z y t))) h.1
              still z k false t = subst (λ (o : Option Summary). IfSome o IsSmall) (each z k false t) (small z k)

  -- so do several views
  pub views_step : (cs : List ℕ) → ((c : ℕ) → Contains cs c → AreSmall i c before)
      → MatchResult (views_after_fact step i (map (view_by i before) cs) f)
      (λ vs. (vs ≡ map (view_by i after) cs) × ((c : ℕ) → Contains cs c → AreSmall i c after)) (λ k. k ≡ kind)
  views_step [] small = (refl, λ c k. absurd (Contains-nil c k))
  views_step (c ∷ cs) small =
      go (view_after_fact step i (view_by i before c) f) (views_after_fact step i (map (view_by i before) cs) f)
      (view_step c (small c (contains_head c cs))) (views_step cs (λ d k. small d (contains_cons d cs c k)))
    where
      go : (a : Result (View ℕ ℕ) DeltaKind) (b : Result (List (View ℕ ℕ)) DeltaKind)
          → MatchResult a (λ v. (v ≡ view_by i after c) × AreSmall i c after) (λ k. k ≡ kind)
          → MatchResult b
          (λ vs. (vs ≡ map (view_by i after) cs) × ((d : ℕ) → Contains cs d → AreSmall i d after)) (λ k. k ≡ kind)
          → MatchResult {T = List (View ℕ ℕ)} {E = DeltaKind} (elim a [
            | Ok v ↦ elim b [ Ok ws ↦ Ok (v ∷ ws) | Err k ↦ Err k ]
            | Err k ↦ Err k
          ])
          (λ vs. (vs ≡ map (view_by i after) (c ∷ cs)) × ((d : ℕ) → Contains (c ∷ cs) d → AreSmall i d after))
          (λ k. k ≡ kind)
      go (Err k) b p q = p
      go (Ok v) (Err k) p q = q
      go (Ok v) (Ok ws) p q = (
        ap (λ x. x ∷ ws) p.0 ∙ ap (λ xs. view_by i after c ∷ xs) q.0,
        λ d k. elim (contains_cases d c cs k) [
          | inl e ↦ subst (λ x. AreSmall i x after) e p.1
          | inr l ↦ q.1 d l
        ],
      )
