-- What the questions about all legal instances are, by frozen dimensions.
use Rattle.std.{proofs.Common.{◌≡◌, ℕ, [], ◌∷◌, sym, subst, ◌∙◌, ap}, specs.Prelude.{slice_get, Some}}
use Rattle.olap_base.specs.{Deciding.below_is_member, Instance.{Instance, IsBelow, IsMemberOf, category_of}}
use Rattle.olap_ast.{proofs.Decided.decide_holds, proofs.SmallModel.frozen_exactly, specs.Findings.without}
use Rattle.olap_ast.specs.Formula.{Formula.Truth, Formula.Not, Formula.Path, Holds, HasPath}
use Rattle.olap_ast.specs.Questions.{NoneFrozen, UnsatisfiableExactlyIfNoneFrozen, ImpliedExactlyIfNoneFrozen, RedundantExactlyIfNoneFrozen, UnusedExactlyIfNoneFrozen}
use Rattle.olap_ast.specs.Schema.{Constraint, IsLegal, Meets}

-- a category is unsatisfiable exactly if it has no frozen dimension
pub unsatisfiable_exactly : UnsatisfiableExactlyIfNoneFrozen
unsatisfiable_exactly s c k h ok = let e = frozen_exactly s Truth c k h ok in (
  λ u f t. let m = e.0 (f, t) in u m.0 m.1 m.2 m.3,
  λ n i l x m. let t = e.1 (i, l, x, m, tt) in n t.0 t.1,
)

-- a formula is implied exactly if its negation has none
pub implied_exactly : ImpliedExactlyIfNoneFrozen
implied_exactly s r q k h ok = let e = frozen_exactly s (Not q) r k h ok in (
  λ u f t. let m = e.0 (f, t) in m.4 (u m.0 m.1 m.2 m.3),
  λ n i l x m. go n i l x m (decide_holds i x q),
)
  where
    go : NoneFrozen s (Not q) r k → (i : Instance) → IsLegal s i → (x : ℕ) → IsMemberOf i r x → Dec (Holds i x q) →
        Holds i x q
    go n i l x m (yes p) = p
    go n i l x m (no f) = let t = (frozen_exactly s (Not q) r k h ok).1 (i, l, x, m, f) in absurd (n t.0 t.1)

-- a path of one edge is a parent
pub one_step : (i : Instance) (x d : ℕ) → HasPath i x (d ∷ []) → (y : ℕ) × IsBelow i x y × (category_of i y ≡ d)
one_step i x d ([], h, q) = absurd (cc)
one_step i x d (y ∷ ys, h, q) = (y, h.0, cc)

-- an edge is unused exactly if the path along it has none
pub unused_exactly : UnusedExactlyIfNoneFrozen
unused_exactly s e k h ok = let z = frozen_exactly s (Path (e.parent ∷ [])) e.child k h ok in (
  λ u f t. let m = z.0 (f, t) in let p = one_step m.0 m.2 e.parent m.4 in u m.0 m.1 m.2 p.0 p.1 m.3.1 p.2,
  λ n i l x y b c d. let t =
      z.1 (i, l, x, (below_is_member i x y b, c), (y ∷ [], (b, tt), ap (λ w. w ∷ []) d)) in n t.0 t.1,
)

-- a constraint is redundant exactly if the others imply it
pub redundant_exactly : RedundantExactlyIfNoneFrozen
redundant_exactly s j c k h at ok = let z = implied_exactly (without s j) c.root c.formula k h ok in (
  λ u. z.0 (λ i l. let e : u.0 ≡ c = same u.0 u.1 in subst (λ (w : Constraint). Meets i w) e (u.2 i l)),
  λ n. (c, at, λ i l. z.1 n i l),
)
  where
    same : (d : Constraint) → slice_get s.constraints j ≡ Some d → d ≡ c
    same d e = let q : Some d ≡ Some c = sym e ∙ at in cc
