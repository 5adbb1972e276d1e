-- The edges out of a category, one after another.
use Rattle.std.proofs.Common.{◌≡◌, ℕ, ◌<◌, List, length, get_or, map, subst, sym}
use Rattle.std.{proofs.lemmas.List.{get_or-map, length-map}, specs.Prelude.All}
use Rattle.olap_base.specs.declared.ids.EdgeId.{EdgeId}

-- what holds of all of them holds of each
pub one_out : (P : ℕ → Type 0) (es : List EdgeId) (xs : List ℕ) → map (λ (e : EdgeId). e.0) es ≡ xs → All P xs
    → (k : ℕ) → k < length es → P (get_or es k (record { 0 = 0 })).0
one_out P es xs same all k l =
    let f : EdgeId → ℕ = λ e. e.0 in
    let inside : k < length (map f es) = subst (λ n. k < n) (sym (length-map es f)) l in
    subst P (get_or-map f es k (record { 0 = 0 }) 0 l)
    (subst (λ ys. All P ys) (sym same) all k 0 inside)

-- what holds of each holds of all
pub all_out : (P : ℕ → Type 0) (es : List EdgeId) (xs : List ℕ) → map (λ (e : EdgeId). e.0) es ≡ xs
    → ((k : ℕ) → k < length es → P (get_or es k (record { 0 = 0 })).0) → All P xs
all_out P es xs same each = subst (λ ys. All P ys) same (λ k d l.
    let f : EdgeId → ℕ = λ e. e.0 in
    let inside : k < length es = subst (λ n. k < n) (length-map es f) l in
    subst P (sym (get_or-map f es k (record { 0 = 0 }) d inside)) (each k inside))
