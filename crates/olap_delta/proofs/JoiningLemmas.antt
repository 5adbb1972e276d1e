-- What lots make of the views of a table.
use Rattle.std.proofs.Common.{◌≡◌, ℕ, ◌+◌, List, [], ◌∷◌, map, Bool, true, false, cond, refl, sym, ap, subst, ◌∙◌, Option, Some, None, w64}
use Rattle.std.proofs.lemmas.{Bool.{false_from_ne_true, eqb-true, eq-eqb}, List.Elements.{All-head, All-tail}}
use Rattle.std.specs.Prelude.{All, Contains, filter, ◌==◌, Result, Ok, Err}
use Rattle.olap_base.proofs.ListLemmas.{Contains-filter, Contains-from_filter, Contains-nil, contains_head}
use Rattle.olap_base.specs.{Deciding.contains_cons, Instance.Instance, Reaching.reaches}
use Rattle.olap_base.specs.{Summaries.{Summary, of_value, ◌⊕◌}, Views.{Fact, View, members, members_of, total_of_facts}}
use Rattle.olap_view.proofs.FileOrderLemmas.{view_by}
use Rattle.olap_delta.proofs.ChangeLemmas.{stepped, view_alike, view_reached, view_unreached, with_at}
use Rattle.olap_delta.proofs.{ChangingLemmas.taken_ok, JoinedRowLemmas.{IsFirst, first_of, nothing_more}}
use Rattle.olap_delta.{proofs.PermutedLemmas.{added, fact_among}, specs.Changes.Step, specs.Changing.step_of}
use Rattle.olap_delta.specs.FactByFact.{store_after_facts, view_after_fact, views_after_fact}
use Rattle.olap_delta.specs.{Joining.{Admits, IsOnce, changed_by}, declared.changes.Change.Change}
use Rattle.olap_delta.specs.declared.kinds.DeltaKind.{DeltaKind}
use mir.Val.{SFits}

-- ---- one fact

-- the step makes after of before
pub record IsStep (step : Step) (before after : Option Summary) (f : Fact ℕ) : Type 0 where
  pub summary : Summary
  pub gives : step before f.value ≡ Ok summary
  pub is : Some summary ≡ after

-- where it does so at each member that the fact's member reaches, and nothing changes elsewhere
module _ (step : Step) (i : Instance) (before after : ℕ → Option Summary) (f : Fact ℕ)
    (elsewhere : (y : ℕ) → reaches i f.at y ≡ false → before y ≡ after y) where
  -- a view of what was before becomes that of what is after
  pub view_done : (c : ℕ) → IsOnce i c f.at
      → ((y : ℕ) → Contains (members_of i c) y → reaches i f.at y ≡ true → IsStep step (before y) (after y) f)
      → view_after_fact step i (view_by i before c) f ≡ Ok (view_by i after c)
  view_done c once there = go (filter (λ y. reaches i f.at y) (members_of i c)) refl
    where
      go : (ys : List ℕ) → filter (λ y. reaches i f.at y) (members_of i c) ≡ ys
          → view_after_fact step i (view_by i before c) f ≡ Ok (view_by i after c)
      go [] e = view_unreached step i before c f none
          ∙ ap Ok (view_alike i before after c (λ y k. elsewhere y (false_from_ne_true (reaches i f.at y) (none y k))))
        where
          none : (y : ℕ) → Contains (members_of i c) y → reaches i f.at y ≡ true → ⊥
          none y k r = Contains-nil y (subst (λ xs. Contains xs y) e
              (Contains-filter (λ y. reaches i f.at y) (members_of i c) y r k))
      go (y ∷ ys) e = view_reached step i before c f y at.0 at.1 (λ z k r. once z y k at.0 r at.1)
          ∙ ap (stepped i before c y) done.gives
          ∙ ap Ok (view_alike i (with_at before y done.summary) after c (λ z k. each z k (z == y) refl))
        where
          at : Contains (members_of i c) y × (reaches i f.at y ≡ true)
          at = Contains-from_filter (λ y. reaches i f.at y) (members_of i c) y
              (subst (λ xs. Contains xs y) (sym e) (contains_head y ys))

          done : IsStep step (before y) (after y) f
          done = there y at.0 at.1

          each : (z : ℕ) → Contains (members_of i c) z → (b : Bool) → (z == y) ≡ b
              → cond b (Some done.summary) (before z) ≡ after z
          each z k true t = done.is ∙ ap after (sym (eqb-true z y t))
          each z k false t = elsewhere z (false_from_ne_true (reaches i f.at z) (λ r.
              let u = eq-eqb z y (once z y k at.0 r at.1) in let x : true ≡ false = sym u ∙ t in absurd (cc)))

  -- so do several views
  pub views_done : (cs : List ℕ) → ((c : ℕ) → Contains cs c → IsOnce i c f.at)
      → ((c : ℕ) → Contains cs c → (y : ℕ) → Contains (members_of i c) y → reaches i f.at y ≡ true
      → IsStep step (before y) (after y) f)
      → views_after_fact step i (map (view_by i before) cs) f ≡ Ok (map (view_by i after) cs)
  views_done [] once there = refl
  views_done (c ∷ cs) once there =
      go (view_after_fact step i (view_by i before c) f) (views_after_fact step i (map (view_by i before) cs) f)
      (view_done c (once c (contains_head c cs)) (there c (contains_head c cs)))
      (views_done cs (λ d k. once d (contains_cons d cs c k)) (λ d k. there d (contains_cons d cs c k)))
    where
      go : (a : Result (View ℕ ℕ) DeltaKind) (b : Result (List (View ℕ ℕ)) DeltaKind) → a ≡ Ok (view_by i after c)
          → b ≡ Ok (map (view_by i after) cs)
          → ◌≡◌ {A = Result (List (View ℕ ℕ)) DeltaKind} (elim a [
            | Ok v ↦ elim b [ Ok ws ↦ Ok (v ∷ ws) | Err k ↦ Err k ]
            | Err k ↦ Err k
          ]) (Ok (map (view_by i after) (c ∷ cs)))
      go (Ok v) (Ok ws) p q = cc
      go (Ok v) (Err k) p q = cc
      go (Err k) b p q = cc

-- ---- facts one after another

module _ (change : Change) (i : Instance) (cs : List ℕ) where
  -- what is known of facts of which none could be refused
  pub record AreAdmitted (h : ℕ → Option Summary) (facts : List (Fact ℕ)) : Type 0 where
    pub values : All (λ f. SFits w64 f.value) facts
    pub once : All (λ f. (c : ℕ) → Contains cs c → IsOnce i c f.at) facts
    pub admits : (c : ℕ) → Contains cs c → (y : ℕ) → Contains (members_of i c) y
        → Admits change (h y) (total_of_facts (members i) facts y)

  module _ (h : ℕ → Option Summary) (f : Fact ℕ) (facts : List (Fact ℕ)) (a : AreAdmitted h (f ∷ facts)) where
    -- what stands at y after the first
    abbrev pub next : ℕ → Option Summary
    next y = changed_by change (h y) (added i y f)

    first : (y : ℕ) → total_of_facts (members i) (f ∷ facts) y ≡ added i y f ⊕ total_of_facts (members i) facts y
    first y = fact_among i y [] f facts

    value : SFits w64 f.value
    value = All-head (λ (f : Fact ℕ). SFits w64 f.value) f facts a.values

    reached : (c : ℕ) → Contains cs c → (y : ℕ) → Contains (members_of i c) y → reaches i f.at y ≡ true
        → IsFirst change (h y) f.value (total_of_facts (members i) facts y)
    reached c k y m r = first_of change (h y) f.value (total_of_facts (members i) facts y) value
        (subst (λ o. Admits change (h y) o)
        (first y ∙ ap (λ b. cond b (Some (of_value f.value)) None ⊕ total_of_facts (members i) facts y) r)
        (a.admits c k y m))

    unreached : (y : ℕ) → reaches i f.at y ≡ false → h y ≡ next y
    unreached y r = sym (ap (λ b. changed_by change (h y) (cond b (Some (of_value f.value)) None)) r
        ∙ nothing_more change (h y))

    next_is : (y : ℕ) → reaches i f.at y ≡ true → next y ≡ changed_by change (h y) (Some (of_value f.value))
    next_is y r = ap (λ b. changed_by change (h y) (cond b (Some (of_value f.value)) None)) r

    pub first_views : views_after_fact (step_of change) i (map (view_by i h) cs) f ≡ Ok (map (view_by i next) cs)
    first_views = views_done (step_of change) i h next f unreached cs
        (All-head (λ (f : Fact ℕ). (c : ℕ) → Contains cs c → IsOnce i c f.at) f facts a.once)
        (λ c k y m r. let q = reached c k y m r in
        record { summary = q.after; gives = q.step; is = sym (next_is y r ∙ q.is) })

    pub others_admitted : AreAdmitted next facts
    others_admitted = record {
      values = All-tail (λ (f : Fact ℕ). SFits w64 f.value) f facts a.values;
      once = All-tail (λ (f : Fact ℕ). (c : ℕ) → Contains cs c → IsOnce i c f.at) f facts a.once;
      admits = λ c k y m. go c k y m (reaches i f.at y) refl;
    }
      where
        go : (c : ℕ) → Contains cs c → (y : ℕ) → Contains (members_of i c) y → (b : Bool) → reaches i f.at y ≡ b
            → Admits change (next y) (total_of_facts (members i) facts y)
        go c k y m true r = let q = reached c k y m r in
            subst (λ o. Admits change o (total_of_facts (members i) facts y)) (sym (next_is y r ∙ q.is)) q.admits
        go c k y m false r = subst (λ o. Admits change o (total_of_facts (members i) facts y)) (unreached y r)
            (subst (λ o. Admits change (h y) o)
            (first y ∙ ap (λ b. cond b (Some (of_value f.value)) None ⊕ total_of_facts (members i) facts y) r)
            (a.admits c k y m))

    pub all_same : (c : ℕ) → Contains cs c → (y : ℕ) → Contains (members_of i c) y
        → changed_by change (next y) (total_of_facts (members i) facts y)
        ≡ changed_by change (h y) (total_of_facts (members i) (f ∷ facts) y)
    all_same c k y m = go (reaches i f.at y) refl
      where
        go : (b : Bool) → reaches i f.at y ≡ b
            → changed_by change (next y) (total_of_facts (members i) facts y)
            ≡ changed_by change (h y) (total_of_facts (members i) (f ∷ facts) y)
        go true r = let q = reached c k y m r in
            ap (λ o. changed_by change o (total_of_facts (members i) facts y)) (next_is y r ∙ q.is) ∙ q.rest
            ∙ sym (ap (changed_by change (h y))
            (first y ∙ ap (λ b. cond b (Some (of_value f.value)) None ⊕ total_of_facts (members i) facts y) r))
        go false r = ap (λ o. changed_by change o (total_of_facts (members i) facts y)) (sym (unreached y r))
            ∙ sym (ap (changed_by change (h y))
            (first y ∙ ap (λ b. cond b (Some (of_value f.value)) None ⊕ total_of_facts (members i) facts y) r))

  -- functions that agree at the members give the same views
  pub views_alike : (h k : ℕ → Option Summary) (ds : List ℕ)
      → ((c : ℕ) → Contains ds c → (y : ℕ) → Contains (members_of i c) y → h y ≡ k y)
      → map (view_by i h) ds ≡ map (view_by i k) ds
  views_alike h k [] e = refl
  views_alike h k (c ∷ ds) e = ap (λ v. v ∷ map (view_by i h) ds) (view_alike i h k c (e c (contains_head c ds)))
      ∙ ap (λ vs. view_by i k c ∷ vs) (views_alike h k ds (λ d m. e d (contains_cons d ds c m)))

  -- facts of which none could be refused, taken in order, are as all of them at once
  pub all_taken : (facts : List (Fact ℕ)) (at : ℕ) (h : ℕ → Option Summary) → AreAdmitted h facts
      → store_after_facts (step_of change) i (Ok (map (view_by i h) cs)) at facts
      ≡ Ok (map (view_by i (λ y. changed_by change (h y) (total_of_facts (members i) facts y))) cs)
  all_taken [] at h a = ap Ok (views_alike h (λ y. changed_by change (h y) None) cs
      (λ c k y m. sym (nothing_more change (h y))))
  all_taken (f ∷ facts) at h a =
      ap (λ r. store_after_facts (step_of change) i r (at + 1) facts)
      (sym (taken_ok (step_of change) i at f (map (view_by i h) cs) (map (view_by i (next h f facts a)) cs)
      (first_views h f facts a)))
      ∙ all_taken facts (at + 1) (next h f facts a) (others_admitted h f facts a)
      ∙ ap Ok (views_alike (λ y. changed_by change (next h f facts a y) (total_of_facts (members i) facts y))
      (λ y. changed_by change (h y) (total_of_facts (members i) (f ∷ facts) y)) cs (all_same h f facts a))
