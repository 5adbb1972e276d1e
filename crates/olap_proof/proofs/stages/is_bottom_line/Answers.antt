use Rattle.std.proofs.Common.{◌≡◌, ◌∙◌, ◌++◌, ◌∷◌, List, ℕ, Bor, ap, codes, subst, sym, refl, true≢false}
use Rattle.std.specs.{Prelude.{Contains, IfSome, IsNone, Option}, Str.bytes_eq}
use Rattle.olap_proof.proofs.LeadingLemmas.{bottom_read, bottom_unread}
use Rattle.olap_proof.proofs.stages.is_bottom_line.Goals as goal

pub returns-else-eq : goal.returns-else-eq
returns-else-eq c =
    let w = c.cut.result.0.now in
    let P : Option (Bor (List ℕ)) → Type 0 = λ o. IfSome o (λ r. c.args.line.now ≡ w ++ 32 ∷ r.now) in
    let split = subst P c.in_default-Some.is-1 c.cut.ensures.some in (
      λ t. absurd (true≢false (sym t ∙ c.if-eq.false)),
      λ e.
          let read = bottom_read c.args.graph.now c.args.root.0 c.args.line.now w c.in_default-Some.rest.now split
          c.cut.ensures.first e in
          c.eq.ensures
          ∙ ap (λ (x : List ℕ). bytes_eq x c.as_slice.result.now) read.0
          ∙ ap (λ (x : List ℕ). bytes_eq (codes "bottom") x) c.as_slice.ensures,
    )

pub returns-in_default-None : goal.returns-in_default-None
returns-in_default-None c =
    let P : Option (Bor (List ℕ)) → Type 0 = λ o. IsNone o → c.cut.result.0.now ≡ c.args.line.now in
    let whole = subst P c.in_default-None.is-1 c.cut.ensures.none refl in (
      λ t. absurd (true≢false (sym t)),
      λ e. absurd (bottom_unread c.args.graph.now c.args.root.0 c.args.line.now
          (subst (λ (z : List ℕ). Contains z 32 → ⊥) whole c.cut.ensures.first) e),
    )
