-- The views of a table that tells the records of a text: those that the records stand for, which a store may hold.
use Rattle.std.proofs.Common.{◌≡◌, ◌≢◌, ◌∷◌, ◌∙◌, [], ℕ, List, length, get_or, map, Option, Some, None, IfSome, refl, sym, ap, subst, arith}
use Rattle.std.{proofs.lemmas.List.Elements.All-map, specs.Prelude.{All, AllPairs}}
use Rattle.olap_base.{proofs.ViewLemmas.members_of_is, specs.Graph.{Graph, IsCategory}, specs.Instance.Instance}
use Rattle.olap_base.specs.{Summaries.Summary, Views.{View, members_of, row_at}}
use Rattle.olap_view.proofs.{FileOrderLemmas.{all-rows, each-in-order, store-of}, ViewingLemmas.rows_same}
use Rattle.olap_view.specs.StoreReading.{IsStoredAt, Record, Tells}
use Rattle.olap_view.specs.{StoreText.{begun, view_read, views_read, row_read}, StoredRows.{begun_in, stored_at}}
use Rattle.olap_view.specs.{Stores.{Fits, IsInFileOrder, IsSoundStore, IsStored}, Tables.view_by}
use Rattle.olap_view.specs.declared.stored_rows.StoredRows.{StoredRows}

module _ (g : Graph) (i : Instance) (rows : List Record) (t : StoredRows) (h : Tells g i rows t) where
  -- the view of c is the one that the records stand for
  view-told : (c : ℕ) → view_by i (stored_at t) c ≡ view_read i rows c
  view-told c = ap (λ rs. record { target = c; rows = rs })
      (rows_same i c (λ y. row_at y (stored_at t y)) (row_read i rows)
      (λ y m. ap (row_at y) (h.at y m.0)))

  -- and so are all of them
  pub views-told : map (view_by i (stored_at t)) (begun_in t) ≡ views_read g i rows
  views-told = ap (map (view_by i (stored_at t))) h.categories ∙ each (begun g rows)
    where
      each : (cs : List ℕ) → map (view_by i (stored_at t)) cs ≡ map (view_read i rows) cs
      each [] = refl
      each (c ∷ cs) = ap (λ v. v ∷ map (view_by i (stored_at t)) cs) (view-told c)
          ∙ ap (λ vs. view_read i rows c ∷ vs) (each cs)

  -- a view of rows that are stored may be stored
  stored-in : (c : ℕ) → Fits (view_by i (stored_at t) c)
  stored-in c = all-rows IsStored (stored_at t) (members_of i c)
      (λ y k. stored y (stored_at t y) (h.stored y (members_of_is i c y k).0))
    where
      stored : (y : ℕ) (o : Option Summary) → IfSome o (IsStoredAt y) → IfSome (row_at y o) IsStored
      stored y None e = e
      stored y (Some s) e = e

  -- the views stand in file order
  pub views-ordered : All (IsInFileOrder i) (map (view_by i (stored_at t)) (begun_in t))
  views-ordered = each-in-order i (stored_at t) (begun_in t)

  -- the views are a sound store
  pub views-sound : IsSoundStore g i (map (view_by i (stored_at t)) (begun_in t))
  views-sound = record {
    store = store-of i (stored_at t) (begun_in t)
        (let b = ap length h.categories in let f = h.few in omega arith)
        (subst (AllPairs ◌≢◌) (sym h.categories) h.differ);
    fit = All-map Fits (view_by i (stored_at t)) (begun_in t) (λ k d l. stored-in (get_or (begun_in t) k d));
    categories = All-map (λ (v : View ℕ ℕ). IsCategory g v.target) (view_by i (stored_at t)) (begun_in t)
        (subst (All (IsCategory g)) (sym h.categories) h.known);
    at_members = λ k d l m e w. ((views-ordered k d l).members m e w).0;
  }
