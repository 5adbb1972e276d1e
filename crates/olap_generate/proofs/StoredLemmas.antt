-- The views that are stored of the made facts, and what is answered from them.
--     views_categories, views_members   the views are of categories of the schema, at members
--     store_faultless, store_made       they are read as they were printed
use Rattle.std.proofs.Common.{◌≡◌, ◌≢◌, ℕ, suc, ◌<◌, ◌≤◌, ◌^◌, ◌-◌, List, [], ◌∷◌, ◌++◌, codes, decimal, sum_by, length, get_or, Option, None, Some, Ok, Err, ap, arith, lit<, subst, sym, w64, ◌∙◌}
use Rattle.std.proofs.lemmas.List.{length-map, Elements.{All-from_recursion, All-map, All-nil}}
use Rattle.std.proofs.lemmas.List.{FromFn.length-range_with_len, Kept.AllPairs-cons}
use Rattle.std.specs.{Fmt.signed_decimal, List.{cons_option, range_with_len}, Prelude.{◌==◌, All, AllPairs, filter_map}}
use Rattle.olap_ast.specs.{Schema.Schema, Summarizable.IsSummarizable}
use Rattle.olap_base.{proofs.ListLemmas.length-filter, specs.Graph.{Graph, IsCategory, IsHierarchy}}
use Rattle.olap_base.specs.{Instance.{Instance, category_of}, Limits.most_generated}
use Rattle.olap_base.specs.Views.{IsFactTable, Row, View, direct_view, direct_views, members, members_of, row_at, rows_from_views, total_of_views}
use Rattle.olap_nav.specs.{PlanText.plan_text, Plans.{IsPlan, Serves, categories_of, sources_in}}
use Rattle.olap_records.specs.Records.{records_of}
use Rattle.olap_view.{proofs.FittingLemmas.direct_stored, specs.Seen.{each_view_of, row_of, rows_of, view_of}}
use Rattle.olap_view.specs.{StoreLaws.DirectViewsAreReadBack, StoreText.{records_of_store, store_read}}
use Rattle.olap_view.specs.Stores.{IsStored, chosen}
use Rattle.olap_generate.proofs.{Location.{location_graph, location_schema}, LocationGraph.location_is_hierarchy}
use Rattle.olap_generate.proofs.MadeLemmas.{facts_count, facts_fit, facts_table, no_fault, only_one, schema_is}
use Rattle.olap_generate.proofs.Serving.{cities_serve_regions}
use Rattle.olap_generate.specs.Generated.{ShowsGenerated, counted, row_count, stored_views, sum_of_rows}
use Rattle.olap_generate.specs.{Location.{city, province, region, state}, Stages.AreMadeViews}
use mir.Val.{SFits}
use Rattle.olap_view.specs.declared.views.Row as told_row
use Rattle.olap_view.specs.declared.views.View as told

-- the categories whose views are stored
abbrev stored : List ℕ
stored = state ∷ province ∷ city ∷ []

-- rows that are told at members are rows at members
pub views_members : (n : ℕ) (views : List told.View)
    → All (λ (v : told.View). All (λ (r : told_row.Row). r.member.0 < n) v.rows) views
    → All (λ v. All (λ r. r.at < n) v.rows) (each_view_of views)
views_members n views all = All-map (λ (v : View ℕ ℕ). All (λ r. r.at < n) v.rows) view_of views
    (λ k d h. All-map (λ (r : Row ℕ). r.at < n) row_of (get_or views k d).rows (all k d h))

module _ (seed size : ℕ) (few : size ≤ most_generated) (s : Schema) (i : Instance) (views : List (View ℕ ℕ))
    (m : AreMadeViews seed size s i views) where
  is : s ≡ location_schema
  is = schema_is s m.made.schema_text

  categories : All (IsCategory s.graph) stored
  categories = subst (λ (t : Schema). All (IsCategory t.graph) stored) (sym is)
      (All-from_recursion (IsCategory location_graph) stored (lit< tt, (lit< tt, (lit< tt, tt))))

  pub views_categories : (g : Graph) → g ≡ s.graph → All (λ v. IsCategory g v.target) views
  views_categories g same = subst (λ (h : Graph). All (λ v. IsCategory h v.target) views) (sym same)
      (subst (All (λ v. IsCategory s.graph v.target)) (sym m.direct)
      (All-map (λ (v : View ℕ ℕ). IsCategory s.graph v.target) (direct_view (members i) m.facts) stored categories))

  -- ---- the text of the views

  differ : AllPairs ◌≢◌ stored
  differ =
      AllPairs-cons ◌≢◌ state (province ∷ city ∷ [])
      (All-from_recursion (λ c. state ≢ c) (province ∷ city ∷ []) ((λ e. omega arith), ((λ e. omega arith), tt)))
      (AllPairs-cons ◌≢◌ province (city ∷ [])
      (All-from_recursion (λ c. province ≢ c) (city ∷ []) ((λ e. omega arith), tt))
      (AllPairs-cons ◌≢◌ city [] (All-nil (λ c. city ≢ c)) (λ i j d a b. absurd (omega arith))))

  count : length m.facts ≡ size
  count = facts_count seed size few s m.made.schema_text i m.made.member_text m.facts m.made.fact_text

  fit : All (λ f. SFits w64 f.value) m.facts
  fit = facts_fit seed size few s m.made.schema_text i m.made.member_text m.facts m.made.fact_text

  module _ (law : DirectViewsAreReadBack) (g h : Graph) (j l : Instance) (text given : List ℕ) (gs : g ≡ s.graph)
      (hs : h ≡ s.graph) (js : j ≡ i) (ls : l ≡ i) (same : given ≡ text)
      (reads : records_of text ≡ records_of_store g j views) where
    pub store_back : store_read h l (records_of given) ≡ Ok views
    store_back =
        ap (λ (t : List ℕ). store_read h l (records_of t)) same
        ∙ ap (store_read h l) (reads
        ∙ ap (λ (g : Graph). records_of_store g j views) gs
        ∙ ap (λ (j : Instance). records_of_store s.graph j views) js)
        ∙ ap (λ (h : Graph). store_read h l (records_of_store s.graph i views)) hs
        ∙ ap (λ (l : Instance). store_read s.graph l (records_of_store s.graph i views)) ls
        ∙ subst (λ (vs : List (View ℕ ℕ)). store_read s.graph i (records_of_store s.graph i vs) ≡ Ok vs) (sym m.direct)
        (law s.graph i m.facts stored
        (subst (λ (t : Schema). IsHierarchy t.graph) (sym is) location_is_hierarchy)
        m.made.legal.is_instance (let n = count in omega arith) fit (omega arith) differ categories)

    pub store_faultless : (fault : _) → store_read h l (records_of given) ≡ Err fault → ⊥
    store_faultless fault e = no_fault (store_read h l (records_of given)) views fault store_back e

    pub store_made : (read : List (View ℕ ℕ)) → store_read h l (records_of given) ≡ Ok read
        → AreMadeViews seed size s i read
    store_made read e = subst (AreMadeViews seed size s i)
        (only_one (store_read h l (records_of given)) views read store_back e) m

  -- ---- the answer

  -- the mask of the third view alone, of the cities, serves the regions
  pub city_serves : Serves s views region 4
  city_serves = record {
    within = subst (λ (vs : List (View ℕ ℕ)). 4 < 2 ^ length vs) (sym m.direct) (lit< tt);
    summarizable = subst (λ (vs : List (View ℕ ℕ)). IsSummarizable s region (sources_in vs 4)) (sym m.direct)
        (subst (λ (t : Schema). IsSummarizable t region (city ∷ [])) (sym is) cities_serve_regions);
  }

  pub region_there : IsCategory s.graph region
  region_there = subst (λ (t : Schema). IsCategory t.graph region) (sym is) (lit< tt)

  -- the stored views are the direct views of their categories
  pub views_direct : views ≡ direct_views (members i) m.facts (categories_of views)
  views_direct = m.direct ∙ ap (direct_views (members i) m.facts) (sym (ap categories_of m.direct))

  pub table : IsFactTable s.graph i m.facts
  table = facts_table seed size few s m.made.schema_text i m.made.member_text m.facts m.made.fact_text

  -- the rows of the regions may be stored
  pub regions_fit : (view : View ℕ ℕ) → view ≡ direct_view (members i) m.facts region → All IsStored view.rows
  regions_fit view e = subst (λ (v : View ℕ ℕ). All IsStored v.rows) (sym e)
      (direct_stored i region m.facts (let n = count in omega arith) fit)

-- ---- there are no more rows than members

-- no more items than there were
filter_map_short : {A B : Type 0} (h : A → Option B) (xs : List A) → length (filter_map h xs) ≤ length xs
filter_map_short h [] = omega arith
filter_map_short {A} {B} h (x ∷ xs) = go (h x) (filter_map_short h xs)
  where
    go : (o : Option B) → length (filter_map h xs) ≤ length xs
        → length (cons_option o (filter_map h xs)) ≤ suc (length xs)
    go None l = omega arith
    go (Some y) l = omega arith

-- a view has at most as many rows as there are members
pub few_rows : (i : Instance) (c : ℕ) (views : List (View ℕ ℕ)) (rows : List told_row.Row)
    → rows_of rows ≡ rows_from_views (members i) c views → length rows ≤ length i
few_rows i c views rows e =
    let a : length (rows_of rows) ≡ length rows = length-map rows row_of in
    let b : length (rows_of rows) ≡ length (rows_from_views (members i) c views) = ap length e in
    let d = filter_map_short (λ y. row_at y (total_of_views (members i) views y)) (members_of i c) in
    let f = length-filter (λ y. category_of i y == c) (range_with_len 0 (length i)) in
    let g = length-range_with_len 0 (length i) in
    omega arith

-- ---- what is told

-- the lines, if there are this many members, facts and rows
abbrev lines : ℕ → ℕ → Graph → List (View ℕ ℕ) → ℕ → ℕ → List (Row ℕ) → List ℕ
lines members facts g views mask told rows =
    counted (codes "members") (decimal members)
    ++ counted (codes "facts") (decimal facts)
    ++ counted (codes "stored") (decimal (row_count views))
    ++ plan_text g (sources_in views mask)
    ++ counted (codes "rows") (decimal told)
    ++ counted (codes "count") (decimal (sum_by (λ r. r.summary.count) rows))
    ++ counted (codes "sum") (signed_decimal (sum_of_rows rows))

-- the lines on what has been made, on the plan and on its view
pub generated : (seed size : ℕ) → size ≤ most_generated → (s : Schema) (i : Instance) (views : List (View ℕ ℕ))
    → AreMadeViews seed size s i views → (mask : ℕ) → IsPlan s views region mask → (rows : List told_row.Row)
    → rows_of rows ≡ rows_from_views (members i) region (chosen views mask) → (bytes : List ℕ)
    → bytes ≡ lines (length i - 1) size s.graph views mask (length rows) (rows_of rows)
    → ShowsGenerated seed size bytes
generated seed size few s i views m mask plan rows e bytes text =
    let n = length i - 1 in
    let stored = stored_views i m.facts in
    let answered : rows_of rows ≡ rows_from_views (members i) region (chosen stored mask) =
    e ∙ ap (λ (vs : List (View ℕ ℕ)). rows_from_views (members i) region (chosen vs mask)) m.direct in
    record {
      schema = s;
      members = i;
      facts = m.facts;
      mask = mask;
      made = m.made;
      plan = subst (λ (vs : List (View ℕ ℕ)). IsPlan s vs region mask) m.direct plan;
      text = text
          ∙ ap (λ (k : ℕ). lines n k s.graph views mask (length rows) (rows_of rows))
          (sym (facts_count seed size few s m.made.schema_text i m.made.member_text m.facts m.made.fact_text))
          ∙ ap (λ (vs : List (View ℕ ℕ)). lines n (length m.facts) s.graph vs mask (length rows)
          (rows_of rows)) m.direct
          ∙ ap (λ (k : ℕ). lines n (length m.facts) s.graph stored mask k (rows_of rows)) (sym (length-map rows row_of))
          ∙ ap (λ (rs : List (Row ℕ)). lines n (length m.facts) s.graph stored mask (length rs) rs) answered;
    }
