-- What a line does in a tree, and above one.
use Rattle.std.proofs.Common.{◌≡◌, ◌==◌, ℕ, ◌+◌, ◌++◌, List, [], ◌∷◌, length, map, true, false, codes, refl, ap, sym, subst, ◌∙◌}
use Rattle.std.specs.Prelude.{Contains, Some}
use Rattle.olap_base.{proofs.ListLemmas.list_any_is, specs.Graph.{Graph, IsCategory, category_count}}
use Rattle.olap_base.specs.declared.ids.CatId.{CatId}
use Rattle.olap_graph.specs.Lookups.{name_of_category}
use Rattle.olap_names.specs.Names.{Named}
use Rattle.olap_proof.proofs.{LineLemmas.{parted, unparted}, StageLemmas.{bottom_runs, place_runs}}
use Rattle.olap_proof.specs.{Advancing.Advances, Asking.{IsAsked, names_in, question_in, schema_in}}
use Rattle.olap_proof.specs.Branches.{IsBranch, first_of, left_open}
use Rattle.olap_proof.specs.{Certificates.{Open, Open.At, Open.Bottom, bottom_text, start}, Places.Place}
use Rattle.olap_proof.specs.Stages.{IsStage, RunsFor, StepsTo, bottoms_from, open_at}
use Rattle.olap_proof.specs.declared.{advancing.Effect.TheVariants.{Still, Closed}, asking.Asked.Asked}
use Rattle.olap_proof.specs.declared.{branches.Choice.Choice, forms.Form.Form, stages.Branch.Branch, stages.Stage.Stage}
use Rattle.olap_proof.specs.declared.stages.Stage.TheVariants as stage

-- ---- the line above a tree

-- the word has no space
no_space : Contains (codes "bottom") 32 → ⊥
no_space c =
    let t = (list_any_is (λ b. b == 32) (codes "bottom")).1 (32, c, refl) in
    let z : true ≡ false = sym t in cc

-- its first word, and what stands after it
pub bottom_read : (g : Graph) (b : ℕ) (line word rest : List ℕ) → line ≡ word ++ 32 ∷ rest → (Contains word 32 → ⊥)
    → line ≡ bottom_text g b → (word ≡ codes "bottom") × (rest ≡ name_of_category g b)
bottom_read g b line word rest e n i =
    parted 32 word rest (codes "bottom") (name_of_category g b) n no_space (sym e ∙ i)

-- a line of one word is none
pub bottom_unread : (g : Graph) (b : ℕ) (line : List ℕ) → (Contains line 32 → ⊥) → line ≡ bottom_text g b → ⊥
bottom_unread g b line n i = unparted 32 line (codes "bottom") (name_of_category g b) n (sym i)

-- ---- above a tree

-- nothing is chosen
pub branch_start : (g : Graph) (k : Named) (p : Place) (b : ℕ) → p ≡ start g b → IsCategory g b
    → length k.texts ≡ category_count g → IsBranch g k p []
branch_start g k p b e i t = subst (λ (x : Place). IsBranch g k x []) (sym e)
    (record { graph = refl; root = i; texts = t; led_there = refl; legal = tt })

-- the line opens the tree
pub begun : (f : Form) (a : Asked) (root : CatId) (line : List ℕ) (b : Branch) → IsAsked a
    → IsCategory a.graph.now root.0 → line ≡ bottom_text a.graph.now root.0 → b.root ≡ root
    → b.place ≡ start a.graph.now root.0 → b.choices.items ≡ []
    → StepsTo f a (stage.Bottom root) line (Some (stage.Tree b))
begun f a root line b asked i e same p none =
    let g = a.graph.now in
    let k = a.candidates.now in
    let rest = map Bottom (bottoms_from g (root.0 + 1)) in
    let later = map Bottom (bottoms_from g (b.root.0 + 1)) in
    let others : rest ≡ left_open k (first_of b.place) b.choices.items later =
    ap (λ (n : CatId). map Bottom (bottoms_from g (n.0 + 1))) (sym same)
    ∙ ap (λ (xs : List Choice). left_open k (first_of b.place) xs later) (sym none)
    in (
      (
        subst (λ (xs : List Choice). IsBranch g k b.place xs) (sym none)
            (branch_start g k b.place root.0 p i asked.named),
        ap (λ (x : Place). x.decided.root) p ∙ ap (λ (n : CatId). n.0) (sym same),
      ),
      subst (λ (os : List Open). RunsFor f a (line ∷ []) (open_at a (stage.Bottom root)) (At b.place ∷ os)) others
          (bottom_runs f (schema_in a) (question_in a) (names_in a) line root.0 rest b.place e p),
    )

-- ---- in a tree

module _ (f : Form) (a : Asked) (b : Branch) (line : List ℕ) where
  abbrev others : List Open
  others =
      left_open a.candidates.now (first_of b.place) b.choices.items
      (map Bottom (bottoms_from a.graph.now (b.root.0 + 1)))

  -- some of the tree is open
  pub at_still : (c : Branch) → Advances f a b.place b.choices.items line c.place c.choices.items Still
      → c.root ≡ b.root → IsStage a (stage.Tree b) → StepsTo f a (stage.Tree b) line (Some (stage.Tree c))
  at_still c h same there =
      let g = a.graph.now in
      let k = a.candidates.now in
      let w = h.2 (map Bottom (bottoms_from g (b.root.0 + 1))) in (
        (h.0, ap (λ (x : Place). x.decided.root) h.1 ∙ there.1 ∙ ap (λ (n : CatId). n.0) (sym same)),
        subst (λ (n : CatId). RunsFor f a (line ∷ []) (At b.place ∷ others)
            (At c.place ∷ left_open k (first_of c.place) c.choices.items (map Bottom (bottoms_from g (n.0 + 1)))))
            (sym same)
            (place_runs f (schema_in a) (question_in a) (names_in a) line b.place others w.0
            (At c.place ∷ left_open k (first_of c.place) c.choices.items (map Bottom (bottoms_from g (b.root.0 + 1))))
            w.1 w.2),
      )

  -- all of it is closed
  pub at_closed : (c : Branch) (next : Stage) → Advances f a b.place b.choices.items line c.place c.choices.items Closed
      → IsStage a next → open_at a next ≡ map Bottom (bottoms_from a.graph.now (b.root.0 + 1))
      → StepsTo f a (stage.Tree b) line (Some next)
  at_closed c next h i e =
      let w = h (map Bottom (bottoms_from a.graph.now (b.root.0 + 1))) in (
        i,
        place_runs f (schema_in a) (question_in a) (names_in a) line b.place others w.0 (open_at a next) w.1
            (w.2 ∙ sym e),
      )
