-- Views of facts, as they are told.
use Rattle.std.proofs.{Common.{◌≡◌, ℕ, ◌<◌, List, [], ◌∷◌, get_or, ap, ◌∙◌}, lemmas.List.Elements.All-map}
use Rattle.std.specs.Prelude.{All}
use Rattle.olap_base.specs.{Graph.{Graph, IsCategory}, Instance.Instance}
use Rattle.olap_base.specs.Views.{Fact, Row, View, direct_view, direct_views, members}
use Rattle.olap_view.specs.Seen.{each_view_of, row_of, view_of}
use Rattle.olap_view.specs.declared.views.Row as told_row
use Rattle.olap_view.specs.declared.views.View as told

-- of one view that is told, the view
pub only_view : (views : List told.View) (v : told.View) (w : View ℕ ℕ) → each_view_of views ≡ w ∷ []
    → v ≡ get_or views 0 v → view_of v ≡ w
only_view [] v w e h = absurd (cc)
only_view (x ∷ xs) v w e h = ap view_of h ∙ ap (λ (ws : List (View ℕ ℕ)). get_or ws 0 w) e

-- direct views are of the categories that were asked for
pub direct_categories : (g : Graph) (i : Instance) (facts : List (Fact ℕ)) (cs : List ℕ) → All (IsCategory g) cs
    → All (λ v. IsCategory g v.target) (direct_views (members i) facts cs)
direct_categories g i facts cs all =
    All-map (λ (v : View ℕ ℕ). IsCategory g v.target) (direct_view (members i) facts) cs all

-- rows that are told at members are rows at members
pub members_seen : (n : ℕ) (views : List told.View)
    → All (λ (v : told.View). All (λ (r : told_row.Row). r.member.0 < n) v.rows) views
    → All (λ v. All (λ r. r.at < n) v.rows) (each_view_of views)
members_seen n views all = All-map (λ (v : View ℕ ℕ). All (λ r. r.at < n) v.rows) view_of views
    (λ k d h. All-map (λ (r : Row ℕ). r.at < n) row_of (get_or views k d).rows (all k d h))
