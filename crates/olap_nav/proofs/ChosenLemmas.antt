-- The views that a mask chooses: view by view, and what holds of them because it holds of all views.
use Rattle.std.proofs.Common.{◌≡◌, ◌≢◌, ℕ, suc, ◌+◌, ◌<◌, List, [], ◌∷◌, ◌++◌, length, get_or, drop, take, Bool, true, false, cond, refl, ap, sym, subst, ◌∙◌, arith}
use Rattle.std.proofs.lemmas.List.{map-append, take_more, Elements.{All-cons, All-nil}, Kept.AllPairs-cons}
use Rattle.std.specs.{Int.bit_at, Prelude.{◌==◌, All, AllPairs}}
use Rattle.olap_base.specs.{Instance.Instance, Views.{Fact, View, direct_view, direct_views, members}}
use Rattle.olap_nav.specs.Plans.{categories_of}
use Rattle.olap_view.specs.{Seen.{each_view_of, view_of}, Stores.chosen_from}
use Rattle.olap_view.specs.declared.views.View as told

-- ---- view by view

-- the chosen ones of the views from the k-th on
abbrev pub left : List told.View → ℕ → ℕ → List (View ℕ ℕ)
left views k mask = chosen_from k (each_view_of (drop k views)) mask

module _ (views read : List told.View) (k : ℕ) (v : told.View) (same : read ≡ views) (h : k < length read)
    (e : v ≡ get_or read k v) where
  -- one view more
  pub taken_more : each_view_of (take (k + 1) views) ≡ each_view_of (take k views) ++ view_of v ∷ []
  taken_more =
      let inside : k < length views = subst (λ (l : List told.View). k < length l) same h in
      let here : get_or views k v ≡ v = ap (λ (l : List told.View). get_or l k v) (sym same) ∙ sym e in
      ap each_view_of (take_more views k v inside)
      ∙ map-append view_of (take k views) (get_or views k v ∷ [])
      ∙ ap (λ w. each_view_of (take k views) ++ view_of w ∷ []) here

-- ---- what holds of all views

-- what holds of each view's category
pub categories_all : (P : ℕ → Type 0) (views : List (View ℕ ℕ)) → All (λ v. P v.target) views
    → All P (categories_of views)
categories_all P [] a = All-nil P
categories_all P (v ∷ views) a =
    All-cons P v.target (categories_of views) (a 0 v (omega arith))
    (categories_all P views (λ k d h. a (suc k) d (omega arith)))

-- what is so of the categories of all views is so of those of the chosen ones
pub chosen_all : (P : ℕ → Type 0) (k : ℕ) (views : List (View ℕ ℕ)) (mask : ℕ) → All P (categories_of views)
    → All P (categories_of (chosen_from k views mask))
chosen_all P k [] mask a = a
chosen_all P k (v ∷ views) mask a =
    go (bit_at mask k == 1) (chosen_all P (k + 1) views mask (λ j d h. a (suc j) d (omega arith)))
  where
    go : (b : Bool) → All P (categories_of (chosen_from (k + 1) views mask)) → All P (categories_of
        (cond b (v ∷ chosen_from (k + 1) views mask) (chosen_from (k + 1) views mask)))
    go true r = All-cons P v.target (categories_of (chosen_from (k + 1) views mask)) (a 0 0 (omega arith)) r
    go false r = r

-- the categories of chosen views differ
pub chosen_differ : (k : ℕ) (views : List (View ℕ ℕ)) (mask : ℕ) → AllPairs ◌≢◌ (categories_of views)
    → AllPairs ◌≢◌ (categories_of (chosen_from k views mask))
chosen_differ k [] mask a = a
chosen_differ k (v ∷ views) mask a = go (bit_at mask k == 1)
    (chosen_differ (k + 1) views mask (λ i j d b h. a (suc i) (suc j) d (omega arith) (omega arith)))
  where
    go : (b : Bool) → AllPairs ◌≢◌ (categories_of (chosen_from (k + 1) views mask)) → AllPairs ◌≢◌ (categories_of
        (cond b (v ∷ chosen_from (k + 1) views mask) (chosen_from (k + 1) views mask)))
    go true r = AllPairs-cons ◌≢◌ v.target (categories_of (chosen_from (k + 1) views mask))
        (chosen_all (λ c. v.target ≢ c) (k + 1) views mask (λ j d h. a 0 (suc j) d (omega arith) (omega arith))) r
    go false r = r

-- the chosen ones of direct views are the direct views of the chosen ones' categories
pub chosen_direct : (i : Instance) (facts : List (Fact ℕ)) (k : ℕ) (views : List (View ℕ ℕ)) (mask : ℕ)
    → views ≡ direct_views (members i) facts (categories_of views)
    → chosen_from k views mask ≡ direct_views (members i) facts (categories_of (chosen_from k views mask))
chosen_direct i facts k [] mask e = refl
chosen_direct i facts k (v ∷ views) mask e =
    let head : v ≡ direct_view (members i) facts v.target = cc in
    let tail : views ≡ direct_views (members i) facts (categories_of views) = cc in
    go head (bit_at mask k == 1) (chosen_direct i facts (k + 1) views mask tail)
  where
    go : v ≡ direct_view (members i) facts v.target → (b : Bool)
        → chosen_from (k + 1) views mask
        ≡ direct_views (members i) facts (categories_of (chosen_from (k + 1) views mask))
        → cond b (v ∷ chosen_from (k + 1) views mask) (chosen_from (k + 1) views mask) ≡ direct_views (members i) facts
        (categories_of (cond b (v ∷ chosen_from (k + 1) views mask) (chosen_from (k + 1) views mask)))
    go head true r = cc
    go head false r = r
