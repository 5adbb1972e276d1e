-- For which fact tables a tally stands.
use Rattle.std.proofs.Common.{◌≡◌, ℕ, ◌+◌, ◌<◌, ◌≤◌, List, [], ◌∷◌, ◌++◌, length, get_or, set, map, true, cond, refl, ap, sym, subst, ◌∙◌, arith, Option, Some, None, IfSome, w64, length-append, get_or-set_same, get_or-set_other}
use Rattle.std.proofs.lemmas.List.{append-nil, get_or-map, get_or_default, length-set, map-append}
use Rattle.std.proofs.lemmas.List.Elements.{All-map, All-push, All-nil, Contains-get_or, filter-append}
use Rattle.std.{proofs.lemmas.List.FromFn.{get_or-range_with_len, length-range_with_len}, specs.List.range_with_len}
use Rattle.std.specs.{Option.option_map, Prelude.{All, Contains, filter_map}}
use Rattle.olap_base.proofs.{ListLemmas.map_same, TotalLemmas.{total_push, ⊕_assoc, ⊕_comm, ⊕_none}}
use Rattle.olap_base.specs.{Instance.Instance, Limits.{most_count, most_members}, Reaching.reaches}
use Rattle.olap_base.specs.Summaries.{Summary, of_value, ◌⊕◌}
use Rattle.olap_base.specs.Views.{Fact, View, direct_view, members, members_of, row_at, total_of_facts, values_at}
use Rattle.olap_view.proofs.{FittingLemmas.direct_stored, ViewingLemmas.rows_same}
use Rattle.olap_view.proofs.WaitingLemmas.{waiting_none, waiting_set, within_joined, within_more, within_value}
use Rattle.olap_view.specs.{Seen.summary_of, Stores.Fits, SummaryTables.{Summarized, stands_at, view_at, views_at}}
use Rattle.olap_view.specs.Tables.{IsAmong, when}
use Rattle.olap_view.specs.Tallies.{IsTableOf, IsTableWithin, IsTally, IsWaitingWithin, IsWithin, StandsFor, Tallied, Waiting, tallied, tallied_at, waiting_at}
use mir.Val.{SFits}
use native.Mathlib.Decide.{ℕ_discrete}
use Rattle.olap_view.specs.declared.summaries.Summary as told

-- ---- one fact more

-- the values that reach a member, with one more fact
values_push : (i : Instance) (fs : List (Fact ℕ)) (f : Fact ℕ) (y : ℕ)
    → values_at (members i) (fs ++ f ∷ []) y ≡ values_at (members i) fs y ++ cond (reaches i f.at y) (f.value ∷ []) []
values_push i fs f y = grind (arith, filter-append, map-append)

-- what they come to, with one more fact
total_more : (i : Instance) (fs : List (Fact ℕ)) (f : Fact ℕ) (y : ℕ)
    → total_of_facts (members i) (fs ++ f ∷ []) y
    ≡ total_of_facts (members i) fs y ⊕ when (reaches i f.at y) (of_value f.value)
total_more i fs f y = grind (arith, values_push, map-append, total_push, append-nil, ⊕_none)

-- a member of the categories of a table that has those of another is one of the other's
pub among : (t u : Summarized) → u.instance ≡ t.instance → u.categories ≡ t.categories → (y : ℕ)
    → IsAmong u.instance u.categories y → IsAmong t.instance t.categories y
among t u e g y m = subst (λ (i : Instance). IsAmong i t.categories y) e
    (subst (λ (cs : List ℕ). IsAmong u.instance cs y) g m)

-- what stands at a member
pub tallied_is : (t : Summarized) (ws : Waiting) (n y : ℕ) → y < length t.instance
    → tallied_at (tallied t ws n) y ≡ stands_at t y ⊕ waiting_at t.instance ws y
tallied_is t ws n y h =
    get_or-map (λ z. stands_at t z ⊕ waiting_at t.instance ws z) (range_with_len 0 (length t.instance)) y 0 None
    (simp length-range_with_len h)
    ∙ ap (λ z. stands_at t z ⊕ waiting_at t.instance ws z)
    (get_or-range_with_len 0 (length t.instance) y 0 h ∙ zero_more y)
  where
    zero_more : (y : ℕ) → 0 + y ≡ y
    zero_more y = omega arith

-- the value of the fact is joined to what stands at the members that it reaches
pub record IsAdded (f : Fact ℕ) (a b : Tallied) : Type 0 where
  pub added : b.added ≡ a.added + 1
  pub instance : b.instance ≡ a.instance
  pub categories : b.categories ≡ a.categories
  pub at : (y : ℕ) → IsAmong a.instance a.categories y
      → tallied_at b y ≡ tallied_at a y ⊕ when (reaches a.instance f.at y) (of_value f.value)

-- one fact more was added
pub stands_more : (a b : Tallied) (f : Fact ℕ) (facts : List (Fact ℕ)) → IsAdded f a b → StandsFor a facts
    → StandsFor b (facts ++ f ∷ [])
stands_more a b f facts j s = record {
  added = let d = s.added in let e = j.added in omega (arith, length-append {A = Fact ℕ});
  at = λ y m.
      let k = subst (λ (i : Instance). IsAmong i a.categories y) j.instance
      (subst (λ (cs : List ℕ). IsAmong b.instance cs y) j.categories m) in
      j.at y k
      ∙ ap (λ o. o ⊕ when (reaches a.instance f.at y) (of_value f.value)) (s.at y k)
      ∙ sym (total_more a.instance facts f y)
      ∙ ap (λ i. total_of_facts (members i) (facts ++ f ∷ []) y) (sym j.instance);
}

-- ---- no fact

module _ (t : Summarized) (ws : Waiting) (e : (y : ℕ) → IsAmong t.instance t.categories y → stands_at t y ≡ None)
    (nothing : (x : ℕ) → get_or ws x None ≡ None) where
  -- no fact was added yet
  pub stands_start : StandsFor (tallied t ws 0) []
  stands_start = record {
    added = refl;
    at = λ y m. tallied_is t ws 0 y m.member
        ∙ ap (λ o. o ⊕ waiting_at t.instance ws y) (e y m)
        ∙ waiting_none t.instance y 0 ws nothing;
  }

  -- a tally of no facts
  pub tally_start : length t.instance ≤ most_members → length ws ≤ length t.instance → IsTally t ws 0
  tally_start h l = record {
    few = omega arith;
    members = h;
    places = l;
    in_table = λ y m. subst (λ (o : Option Summary). IfSome o (IsWithin 0)) (sym (e y m)) tt;
    in_waiting = λ x. subst (λ (o : Option told.Summary). IfSome (option_map summary_of o) (IsWithin 0))
        (sym (nothing x)) tt;
    facts = [];
    values = All-nil (λ (f : Fact ℕ). SFits w64 f.value);
    stands = stands_start;
  }

module _ (t : Summarized) (ws : Waiting) (n : ℕ) (q : IsTally t ws n) where
  -- what stands in the table is within what may be counted
  pub table_within : IsTableWithin most_count t
  table_within y m = within_more n most_count (stands_at t y) q.few (q.in_table y m)

  -- so is what waits
  pub waiting_within : IsWaitingWithin most_count ws
  waiting_within x = within_more n most_count (option_map summary_of (get_or ws x None)) q.few (q.in_waiting x)

-- ---- one fact more, in the table

-- the value of the fact is joined to what stands in a table
pub record IsInTable (f : Fact ℕ) (t u : Summarized) : Type 0 where
  pub instance : u.instance ≡ t.instance
  pub categories : u.categories ≡ t.categories
  pub at : (y : ℕ) → IsAmong t.instance t.categories y
      → stands_at u y ≡ stands_at t y ⊕ when (reaches t.instance f.at y) (of_value f.value)

-- the last of three before the second
behind : (a b c : Option Summary) → (a ⊕ b) ⊕ c ≡ (a ⊕ c) ⊕ b
behind a b c = ⊕_assoc a b c ∙ ap (λ o. a ⊕ o) (⊕_comm b c) ∙ sym (⊕_assoc a c b)

module _ (t u : Summarized) (ws : Waiting) (n : ℕ) (f : Fact ℕ) (j : IsInTable f t u) where
  -- the fact was added
  pub added_in_table : IsAdded f (tallied t ws n) (tallied u ws (n + 1))
  added_in_table = record {
    added = refl;
    instance = j.instance;
    categories = j.categories;
    at = λ y m.
        let v = when (reaches t.instance f.at y) (of_value f.value) in
        let inside : y < length u.instance = subst (λ (i : Instance). y < length i) (sym j.instance) m.member in
        tallied_is u ws (n + 1) y inside
        ∙ ap (λ (i : Instance). stands_at u y ⊕ waiting_at i ws y) j.instance
        ∙ ap (λ o. o ⊕ waiting_at t.instance ws y) (j.at y m)
        ∙ behind (stands_at t y) v (waiting_at t.instance ws y)
        ∙ ap (λ o. o ⊕ v) (sym (tallied_is t ws n y m.member));
  }

  -- the tally with it
  pub tally_in_table : n + 1 ≤ most_count → SFits w64 f.value → IsTally t ws n → IsTally u ws (n + 1)
  tally_in_table h v q = record {
    few = h;
    members = subst (λ (i : Instance). length i ≤ most_members) (sym j.instance) q.members;
    places = subst (λ (i : Instance). length ws ≤ length i) (sym j.instance) q.places;
    in_table = λ y m. let k = among t u j.instance j.categories y m in
        subst (λ (o : Option Summary). IfSome o (IsWithin (n + 1))) (sym (j.at y k))
        (within_joined n 1 (stands_at t y) (when (reaches t.instance f.at y) (of_value f.value)) (q.in_table y k)
        (within_value (reaches t.instance f.at y) f.value v));
    in_waiting = λ x. within_more n (n + 1) (option_map summary_of (get_or ws x None)) (omega arith) (q.in_waiting x);
    facts = q.facts ++ f ∷ [];
    values = All-push (λ (f : Fact ℕ). SFits w64 f.value) q.facts f q.values v;
    stands = stands_more (tallied t ws n) (tallied u ws (n + 1)) f q.facts added_in_table q.stands;
  }

-- ---- one fact more, which waits

-- the value of the fact is joined to what waits at its member
pub record IsInWaiting (f : Fact ℕ) (o : Option told.Summary) (ws vs : Waiting) : Type 0 where
  pub inside : f.at < length ws
  pub waiting : vs ≡ set ws f.at o
  pub joined : option_map summary_of o ≡ option_map summary_of (get_or ws f.at None) ⊕ Some (of_value f.value)

-- the value's summary is put beside what waits there
pub beside_waiting : (f : Fact ℕ) (there : Option told.Summary) (alone s : told.Summary) (ws : Waiting)
    → f.at < length ws → there ≡ get_or ws f.at there → summary_of alone ≡ of_value f.value
    → Some (summary_of s) ≡ option_map summary_of there ⊕ Some (summary_of alone)
    → IsInWaiting f (Some s) ws (set ws f.at (Some s))
beside_waiting f there alone s ws h e v j = grind (arith, get_or_default)

module _ (t : Summarized) (ws vs : Waiting) (n : ℕ) (f : Fact ℕ) (o : Option told.Summary)
    (j : IsInWaiting f o ws vs) where
  -- the fact was added
  pub added_in_waiting : IsAdded f (tallied t ws n) (tallied t vs (n + 1))
  added_in_waiting = record {
    added = refl;
    instance = refl;
    categories = refl;
    at = λ y m.
        let v = when (reaches t.instance f.at y) (of_value f.value) in
        tallied_is t vs (n + 1) y m.member
        ∙ ap (λ (l : Waiting). stands_at t y ⊕ waiting_at t.instance l y) j.waiting
        ∙ ap (λ p. stands_at t y ⊕ p)
        (waiting_set t.instance y ws 0 f.at f.at o (of_value f.value) (omega arith) j.inside j.joined)
        ∙ sym (⊕_assoc (stands_at t y) (waiting_at t.instance ws y) v)
        ∙ ap (λ p. p ⊕ v) (sym (tallied_is t ws n y m.member));
  }

  -- what waits at each member is of one value more at most
  more_waiting : SFits w64 f.value → IsWaitingWithin n ws → IsWaitingWithin (n + 1) (set ws f.at o)
  more_waiting v q x = go (ℕ_discrete x f.at)
    where
      go : Dec (x ≡ f.at) → IfSome (option_map summary_of (get_or (set ws f.at o) x None)) (IsWithin (n + 1))
      go (yes e) =
          let here : get_or (set ws f.at o) f.at None ≡ o = let h = j.inside in rw get_or-set_same refl in
          subst (λ (p : Option told.Summary). IfSome (option_map summary_of p) (IsWithin (n + 1)))
          (sym (ap (λ z. get_or (set ws f.at o) z None) e ∙ here))
          (subst (λ (p : Option Summary). IfSome p (IsWithin (n + 1))) (sym j.joined)
          (within_joined n 1 (option_map summary_of (get_or ws f.at None)) (Some (of_value f.value)) (q f.at)
          (within_value true f.value v)))
      go (no m) =
          let there : get_or (set ws f.at o) x None ≡ get_or ws x None = rw get_or-set_other refl in
          subst (λ (p : Option told.Summary). IfSome (option_map summary_of p) (IsWithin (n + 1))) (sym there)
          (within_more n (n + 1) (option_map summary_of (get_or ws x None)) (omega arith) (q x))

  -- the tally with it
  pub tally_in_waiting : n + 1 ≤ most_count → SFits w64 f.value → IsTally t ws n → IsTally t vs (n + 1)
  tally_in_waiting h v q = record {
    few = h;
    members = q.members;
    places = subst (λ (l : Waiting). length l ≤ length t.instance) (sym j.waiting)
        (subst (λ k. k ≤ length t.instance) (sym (length-set ws f.at o)) q.places);
    in_table = λ y m. within_more n (n + 1) (stands_at t y) (omega arith) (q.in_table y m);
    in_waiting = subst (IsWaitingWithin (n + 1)) (sym j.waiting) (more_waiting v q.in_waiting);
    facts = q.facts ++ f ∷ [];
    values = All-push (λ (f : Fact ℕ). SFits w64 f.value) q.facts f q.values v;
    stands = stands_more (tallied t ws n) (tallied t vs (n + 1)) f q.facts added_in_waiting q.stands;
  }

-- ---- views

module _ (a : Tallied) (t : Summarized) (of : IsTableOf a t) where
  -- the view of a category in the tally's table is the direct one
  pub view_is : (c : ℕ) (facts : List (Fact ℕ)) → Contains a.categories c → StandsFor a facts
      → view_at t c ≡ direct_view (members a.instance) facts c
  view_is c facts k s =
      ap (λ (i : Instance). record { target = c; rows = filter_map (λ y. row_at y (stands_at t y)) (members_of i c) })
      of.instance
      ∙ ap (λ rows. record { target = c; rows = rows })
      (rows_same a.instance c (λ y. row_at y (stands_at t y))
      (λ y. row_at y (total_of_facts (members a.instance) facts y))
      (λ y m. let among : IsAmong a.instance a.categories y =
      record { member = m.0; category = subst (Contains a.categories) (sym m.1) k } in
      ap (row_at y) (of.at y among ∙ s.at y among)))

  -- it may be stored, where the facts are no more than a row may count, and of 64 bits
  pub view_stored : (c : ℕ) (facts : List (Fact ℕ)) → Contains a.categories c → a.added ≤ most_count
      → All (λ f. SFits w64 f.value) facts → StandsFor a facts → Fits (view_at t c)
  view_stored c facts k few values s = subst (λ (v : View ℕ ℕ). Fits v) (sym (view_is c facts k s))
      (direct_stored a.instance c facts (let b = s.added in omega arith) values)

  -- so it is of all its categories
  pub views_are : (facts : List (Fact ℕ)) → StandsFor a facts
      → views_at t ≡ map (direct_view (members a.instance) facts) a.categories
  views_are facts s = ap (map (view_at t)) of.categories
      ∙ map_same (view_at t) (direct_view (members a.instance) facts) a.categories (λ c k. view_is c facts k s)

  -- and all of them may be stored if each may
  pub views_stored : ((c : ℕ) → Contains a.categories c → Fits (view_at t c)) → All Fits (views_at t)
  views_stored h = subst (λ (cs : List ℕ). All Fits (map (view_at t) cs)) (sym of.categories)
      (All-map Fits (view_at t) a.categories
      (λ k d l. h (get_or a.categories k d) (Contains-get_or a.categories k d l)))
