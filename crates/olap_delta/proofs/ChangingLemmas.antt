-- A summary table while it is changed.
--     view_put, view_refused, view_left, view_kept   the views after it
--     so_far_first, so_far_next, so_far_refused, so_far_all   category by category
--     fact_behind, facts_behind, taken_ok, taken_err   fact by fact
use Rattle.std.proofs.Common.{rules, ◌≡◌, ◌≢◌, ◌+◌, ◌<◌, ◌≤◌, ℕ, suc, List, [], ◌∷◌, ◌++◌, length, get_or, take, drop, map, Bool, true, false, cond, refl, sym, ap, subst, ◌∙◌, inl, inr, Option, Some, IfSome, arith, drop-cons, length-drop}
use Rattle.std.proofs.{Math.Seq.take_all, lemmas.Bool.{cases_lt, ne_eqb}}
use Rattle.std.proofs.lemmas.List.{append-nil, append_assoc, drop_all, get_or-drop, get_or-take, get_or_default, length-take-le, map-append, take_more}
use Rattle.std.proofs.lemmas.List.Elements.{Contains-get_or}
use Rattle.std.specs.Prelude.{◌==◌, ◌⊎◌, AllPairs, Contains, Result, Ok, Err}
use Rattle.olap_base.proofs.ViewLemmas.{is_member_of, members_of_is}
use Rattle.olap_base.specs.{Instance.{Instance, ReachesCategory, category_of}, Reaching.reaches_is, Summaries.Summary}
use Rattle.olap_base.specs.{Views.{Fact, View, members_of}, declared.refusals.Fault.Fault}
use Rattle.olap_legal.specs.Ancestors.{IsAncestor}
use Rattle.olap_view.{proofs.FileOrderLemmas.view_by, specs.SummaryTables.{Summarized, stands_at, view_at, views_at}}
use Rattle.olap_view.specs.Tables.{IsAmong}
use Rattle.olap_delta.proofs.ChangeLemmas.{stepped, view_alike, view_reached, view_unreached, with_at}
use Rattle.olap_delta.specs.{Changes.Step, Changing.{AreStorable, IsStorable}}
use Rattle.olap_delta.specs.FactByFact.{fact_after, store_after_facts, view_after_fact, views_after_fact}
use Rattle.olap_delta.specs.declared.kinds.DeltaKind.{DeltaKind}

-- a summary was put at y
pub record IsPut (y : ℕ) (s : Summary) (old new : Summarized) : Type 0 where
  pub instance : new.instance ≡ old.instance
  pub categories : new.categories ≡ old.categories
  pub at : (z : ℕ) → IsAmong old.instance old.categories z
      → stands_at new z ≡ cond (z == y) (Some s) (stands_at old z)

-- a member of one of the categories is among the table's
pub among : (t : Summarized) (c z : ℕ) → Contains t.categories c → Contains (members_of t.instance c) z
    → IsAmong t.instance t.categories z
among t c z k m = let q = members_of_is t.instance c z m in
    record { member = q.0; category = subst (Contains t.categories) (sym q.1) k }

module _ (y : ℕ) (s : Summary) (old new : Summarized) (p : IsPut y s old new) where
  -- a view is as before, but for the summary at y
  view_of_put : (c : ℕ) → Contains old.categories c
      → view_at new c ≡ view_by old.instance (with_at (stands_at old) y s) c
  view_of_put c k = ap (λ j. view_by j (stands_at new) c) p.instance
      ∙ view_alike old.instance (stands_at new) (with_at (stands_at old) y s) c (λ z m. p.at z (among old c z k m))

  -- a view of another category stays
  pub view_kept : (c : ℕ) → Contains old.categories c → category_of old.instance y ≢ c → view_at new c ≡ view_at old c
  view_kept c k n = view_of_put c k
      ∙ view_alike old.instance (with_at (stands_at old) y s) (stands_at old) c (λ z m.
      let q = members_of_is old.instance c z m in
      ap (λ b. cond b (Some s) (stands_at old z))
      (ne_eqb z y (λ e. n (ap (category_of old.instance) (sym e) ∙ q.1))))

  -- what stands in the table may be stored, where the new summary may
  pub put_storable : IsStorable s → AreStorable old → AreStorable new
  put_storable q a z m = subst (λ (o : Option Summary). IfSome o IsStorable) (sym (p.at z m2)) (go (z == y))
    where
      m2 : IsAmong old.instance old.categories z
      m2 = subst (λ (i : Instance). IsAmong i old.categories z) p.instance
          (subst (λ (cs : List ℕ). IsAmong new.instance cs z) p.categories m)

      go : (b : Bool) → IfSome (cond b (Some s) (stands_at old z)) IsStorable
      go true = q
      go false = a z m2

module _ (step : Step) (old : Summarized) (f : Fact ℕ) (c : ℕ) (k : Contains old.categories c) where
  module _ (y : ℕ) (a : IsAncestor old.instance f.at c y) where
    reached : view_after_fact step old.instance (view_at old c) f
        ≡ stepped old.instance (stands_at old) c y (step (stands_at old y) f.value)
    reached = view_reached step old.instance (stands_at old) c f y (is_member_of old.instance c y a.is_member)
        ((reaches_is old.instance f.at y).1 a.reached)
        (λ z m r. a.only z (members_of_is old.instance c z m) ((reaches_is old.instance f.at z).0 r))

    -- the view after the step's summary was put at the member that is reached
    pub view_put : (s : Summary) (new : Summarized) → step (stands_at old y) f.value ≡ Ok s → IsPut y s old new
        → view_after_fact step old.instance (view_at old c) f ≡ Ok (view_at new c)
    view_put s new e p = reached ∙ ap (stepped old.instance (stands_at old) c y) e
        ∙ ap Ok (sym (view_of_put y s old new p c k))

    pub view_refused : (j : DeltaKind) → step (stands_at old y) f.value ≡ Err j
        → view_after_fact step old.instance (view_at old c) f ≡ Err j
    view_refused j e = reached ∙ ap (stepped old.instance (stands_at old) c y) e

  -- no member is reached
  pub view_left : (ReachesCategory old.instance f.at c → ⊥)
      → view_after_fact step old.instance (view_at old c) f ≡ Ok (view_at old c)
  view_left n = view_unreached step old.instance (stands_at old) c f
      (λ y m r. n (y, members_of_is old.instance c y m, (reaches_is old.instance f.at y).0 r))

-- ---- category by category

-- views before those of an answer
abbrev pub behind : List (View ℕ ℕ) → Result (List (View ℕ ℕ)) DeltaKind → Result (List (View ℕ ℕ)) DeltaKind
behind vs (Ok ws) = Ok (vs ++ ws)
behind vs (Err k) = Err k

-- the views of the first k categories are changed, and those of the others aren't yet
pub record IsSoFar (step : Step) (f : Fact ℕ) (k : ℕ) (old now : Summarized) : Type 0 where
  pub instance : now.instance ≡ old.instance
  pub categories : now.categories ≡ old.categories
  pub storable : AreStorable now
  pub views : views_after_fact step old.instance (views_at old) f
      ≡ behind (map (view_at now) (take k old.categories))
      (views_after_fact step old.instance (map (view_at now) (drop k old.categories)) f)

-- one view more before the others
one_more : (vs : List (View ℕ ℕ)) (w : View ℕ ℕ) (r : Result (List (View ℕ ℕ)) DeltaKind)
    → behind vs (elim r [ Ok ws ↦ Ok (w ∷ ws) | Err k ↦ Err k ]) ≡ behind (vs ++ w ∷ []) r
one_more vs w (Ok ws) = ap Ok (sym (append_assoc vs (w ∷ []) ws))
one_more vs w (Err k) = refl

-- of two different numbers one is less
less_or : (a b : ℕ) → a ≢ b → (a < b) ⊎ (b < a)
less_or a b n = elim (cases_lt a b) [ inl l ↦ inl l | inr g ↦ inr (omega arith) ]

-- functions that agree on the items give the same list
maps_alike : (h k : ℕ → View ℕ ℕ) (cs : List ℕ) → ((j d : ℕ) → j < length cs → h (get_or cs j d) ≡ k (get_or cs j d))
    → map h cs ≡ map k cs
maps_alike h k [] f = refl
maps_alike h k (c ∷ cs) f = ap (λ v. v ∷ map h cs) (f 0 c (omega arith))
    ∙ ap (λ vs. k c ∷ vs) (maps_alike h k cs (λ j d l. f (suc j) d (omega arith)))

module _ (step : Step) (f : Fact ℕ) (k : ℕ) (old now : Summarized) (so : IsSoFar step f k old now)
    (h : k < length old.categories) where
  -- the k-th category, and those after it
  parted : drop k old.categories ≡ get_or old.categories k 0 ∷ drop (suc k) old.categories
  parted = drop-cons old.categories k 0 h

  -- the first k views, and then the k-th and those after it; or its fault
  then : (r : Result (View ℕ ℕ) DeltaKind)
      → view_after_fact step old.instance (view_at now (get_or old.categories k 0)) f ≡ r
      → views_after_fact step old.instance (views_at old) f
      ≡ behind (map (view_at now) (take k old.categories)) (elim r [
        | Ok w ↦ elim (views_after_fact step old.instance (map (view_at now) (drop (suc k) old.categories)) f) [
          | Ok ws ↦ Ok (w ∷ ws)
          | Err j ↦ Err j
        ]
        | Err j ↦ Err j
      ])
  then r e = so.views
      ∙ ap (λ cs. behind (map (view_at now) (take k old.categories))
      (views_after_fact step old.instance (map (view_at now) cs) f)) parted
      ∙ ap (λ (x : Result (View ℕ ℕ) DeltaKind). behind (map (view_at now) (take k old.categories)) (elim x [
        | Ok w ↦ elim (views_after_fact step old.instance (map (view_at now) (drop (suc k) old.categories)) f) [
          | Ok ws ↦ Ok (w ∷ ws)
          | Err j ↦ Err j
        ]
        | Err j ↦ Err j
      ])) e

  -- one category more
  pub so_far_next : (new : Summarized) → AllPairs ◌≢◌ old.categories → new.instance ≡ now.instance
      → new.categories ≡ now.categories → AreStorable new
      → view_after_fact step now.instance (view_at now (get_or now.categories k 0)) f
      ≡ Ok (view_at new (get_or now.categories k 0))
      → ((c : ℕ) → Contains now.categories c → c ≢ get_or now.categories k 0 → view_at new c ≡ view_at now c)
      → IsSoFar step f (k + 1) old new
  so_far_next new differ e g a view others = record {
    instance = e ∙ so.instance;
    categories = g ∙ so.categories;
    storable = a;
    views = then (Ok (view_at new c)) changed
        ∙ one_more (map (view_at now) (take k old.categories)) (view_at new c)
        (views_after_fact step old.instance (map (view_at now) (drop (suc k) old.categories)) f)
        ∙ ap (λ vs. behind vs
        (views_after_fact step old.instance (map (view_at now) (drop (suc k) old.categories)) f)) front
        ∙ ap (λ vs. behind (map (view_at new) (take (k + 1) old.categories))
        (views_after_fact step old.instance vs f)) back;
  }
    where
      c : ℕ
      c = get_or old.categories k 0

      changed : view_after_fact step old.instance (view_at now (get_or old.categories k 0)) f
          ≡ Ok (view_at new (get_or old.categories k 0))
      changed = subst (λ (i : Instance). view_after_fact step i (view_at now (get_or old.categories k 0)) f
          ≡ Ok (view_at new (get_or old.categories k 0))) so.instance
          (subst (λ (cs : List ℕ). view_after_fact step now.instance (view_at now (get_or cs k 0)) f
          ≡ Ok (view_at new (get_or cs k 0))) so.categories view)

      same : (j : ℕ) → j < length old.categories → j ≢ k
          → view_at now (get_or old.categories j 0) ≡ view_at new (get_or old.categories j 0)
      same j l n = sym (others (get_or old.categories j 0)
          (subst (λ (cs : List ℕ). Contains cs (get_or old.categories j 0)) (sym so.categories)
          (Contains-get_or old.categories j 0 l))
          (subst (λ (cs : List ℕ). get_or old.categories j 0 ≢ get_or cs k 0) (sym so.categories) (apart j l n)))
        where
          apart : (j : ℕ) → j < length old.categories → j ≢ k → get_or old.categories j 0 ≢ get_or old.categories k 0
          apart j l n q = elim (less_or j k n) [
            | inl b ↦ differ j k 0 b h q
            | inr b ↦ differ k j 0 b l (sym q)
          ]

      front : map (view_at now) (take k old.categories) ++ view_at new (get_or old.categories k 0) ∷ []
          ≡ map (view_at new) (take (k + 1) old.categories)
      front = ap (λ vs. vs ++ view_at new (get_or old.categories k 0) ∷ [])
          (maps_alike (view_at now) (view_at new) (take k old.categories) (λ j d l.
          let size : length (take k old.categories) ≡ k = length-take-le k old.categories (omega arith) in
          let before : j < k = omega arith in
          let at : get_or (take k old.categories) j d ≡ get_or old.categories j 0 =
          get_or-take k old.categories j d before ∙ sym (get_or_default old.categories j 0 d (omega arith)) in
          subst (λ z. view_at now z ≡ view_at new z) (sym at) (same j (omega arith) (omega arith))))
          ∙ sym (ap (map (view_at new)) (take_more old.categories k 0 h)
          ∙ map-append (view_at new) (take k old.categories) (get_or old.categories k 0 ∷ []))

      back : map (view_at now) (drop (suc k) old.categories) ≡ map (view_at new) (drop (k + 1) old.categories)
      back = let more : suc k ≡ k + 1 = omega arith in
          maps_alike (view_at now) (view_at new) (drop (suc k) old.categories) (λ j d l.
          let size = length-drop (suc k) old.categories in
          let at : get_or (drop (suc k) old.categories) j d ≡ get_or old.categories (suc k + j) 0 =
          get_or-drop (suc k) old.categories j d ∙ sym (get_or_default old.categories (suc k + j) 0 d (omega arith)) in
          subst (λ z. view_at now z ≡ view_at new z) (sym at) (same (suc k + j) (omega arith) (omega arith)))
          ∙ ap (λ n. map (view_at new) (drop n old.categories)) more

-- all categories are changed, so all views are
pub so_far_all : (step : Step) (f : Fact ℕ) (k : ℕ) (old now : Summarized) → IsSoFar step f k old now
    → length old.categories ≤ k → views_after_fact step old.instance (views_at old) f ≡ Ok (views_at now)
so_far_all step f k old now so h = grind (arith, drop_all, append-nil, take_all)

-- ---- fact by fact

-- one fact after the others
pub fact_behind : (step : Step) (i : Instance) (r : Result (List (View ℕ ℕ)) (Fault DeltaKind)) (at : ℕ)
    (facts : List (Fact ℕ))
    (f : Fact ℕ)
    → store_after_facts step i r at (facts ++ f ∷ [])
    ≡ fact_after step i (at + length facts) f (store_after_facts step i r at facts)
fact_behind step i r at [] f = let e : at ≡ at + 0 = omega arith in ap (λ n. fact_after step i n f r) e
fact_behind step i r at (g ∷ facts) f = grind (arith, fact_behind step i (fact_after step i at g r) (at + 1) facts f)

-- some facts after the others
pub facts_behind : (step : Step) (i : Instance) (r : Result (List (View ℕ ℕ)) (Fault DeltaKind)) (at : ℕ)
    (facts more : List (Fact ℕ))
    → store_after_facts step i r at (facts ++ more)
    ≡ store_after_facts step i (store_after_facts step i r at facts) (at + length facts) more
facts_behind step i r at [] more =
    let e : at ≡ at + 0 = omega arith in ap (λ n. store_after_facts step i r n more) e
facts_behind step i r at (g ∷ facts) more =
    grind (arith, facts_behind step i (fact_after step i at g r) (at + 1) facts more)

-- the views of a table, or its fault, after a fact
pub taken_ok : (step : Step) (i : Instance) (at : ℕ) (f : Fact ℕ) (before after : List (View ℕ ℕ))
    → views_after_fact step i before f ≡ Ok after → Ok after ≡ fact_after step i at f (Ok before)
taken_ok step i at f before after e = search rules
