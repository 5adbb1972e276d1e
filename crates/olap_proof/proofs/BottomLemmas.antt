-- The bottom categories one after another, with their trees, are a certificate.
use Rattle.std.proofs.Common.{◌≡◌, ℕ, ◌+◌, ◌-◌, ◌<◌, ◌≤◌, List, [], ◌∷◌, ◌++◌, length, map, Bool, true, false, cond, ap, sym, subst, ◌∙◌, arith}
use Rattle.std.proofs.lemmas.{Bool.false_from_ne_true, List.{append-nil, map-append, map-id}}
use Rattle.std.proofs.lemmas.List.{Elements.filter-append, FromFn.map-range_with_len_more}
use Rattle.std.specs.{List.{list_any, range_with_len}, Prelude.{◌==◌, filter, not}}
use Rattle.olap_base.proofs.ListLemmas.{Contains-filter, Contains-from_filter, Contains-range_at}
use Rattle.olap_base.specs.Graph.{Edge, Graph, IsBottom, IsDeclared, category_count}
use Rattle.olap_ast.specs.{Formula.Formula, Frozen.Candidates, Schema.Schema}
use Rattle.olap_proof.proofs.{CertificateLemmas.bottom_listed, PlainTreeLemmas.listed_bottom, TreeTextLemmas.adds_more}
use Rattle.olap_proof.specs.Certificates.{IsCertificateText, Open.Bottom, Runs, Runs.more, Runs.none, Steps.begins, bottoms_of, head_text, lines_text}
use Rattle.olap_proof.specs.{Trees.Adds, declared.forms.Form.Form}

-- no edge leads to it
abbrev pub has_no_child : Graph → ℕ → Bool
has_no_child g c = not (list_any (λ (e : Edge). e.parent == c) g.edges)

-- the bottom categories among the first n that are declared
abbrev pub first_bottoms : Graph → ℕ → List ℕ
first_bottoms g n = filter (has_no_child g) (range_with_len 1 n)

-- one number more at the end
range_more : (n b : ℕ) → 1 + n ≡ b → range_with_len 1 (n + 1) ≡ range_with_len 1 n ++ b ∷ []
range_more n b e =
    sym (map-id (range_with_len 1 (n + 1))) ∙ map-range_with_len_more (λ x. x) 1 n b e
    ∙ ap (λ xs. xs ++ b ∷ []) (map-id (range_with_len 1 n))

-- one category more, by whether it has a child
more_or_same : (g : Graph) (n b : ℕ) (t : Bool) → 1 + n ≡ b → has_no_child g b ≡ t
    → first_bottoms g (n + 1) ≡ first_bottoms g n ++ cond t (b ∷ []) []
more_or_same g n b t e h =
    ap (filter (has_no_child g)) (range_more n b e) ∙ filter-append (has_no_child g) (range_with_len 1 n) (b ∷ [])
    ∙ ap (λ t. first_bottoms g n ++ cond t (b ∷ []) []) h

-- one that is a bottom category comes after the others
pub bottoms_more : (g : Graph) (n b : ℕ) → 1 + n ≡ b → IsBottom g b
    → first_bottoms g (n + 1) ≡ first_bottoms g n ++ b ∷ []
bottoms_more g n b e h = more_or_same g n b true e
    (Contains-from_filter (has_no_child g) (range_with_len 1 (length g.names)) b (bottom_listed g b h)).1

-- another changes nothing
pub bottoms_same : (g : Graph) (n b : ℕ) → 1 + n ≡ b → IsDeclared g b → (IsBottom g b → ⊥)
    → first_bottoms g (n + 1) ≡ first_bottoms g n
bottoms_same g n b e d h =
    more_or_same g n b false e (false_from_ne_true (has_no_child g b) (λ t. h (listed_bottom g b
    (Contains-filter (has_no_child g) (range_with_len 1 (length g.names)) b t
    (Contains-range_at 1 (length g.names) b (omega arith) (let l = d.1 in omega arith))))))
    ∙ append-nil (first_bottoms g n)

module _ (m : Form) (s : Schema) (q : Formula) (k : Candidates) where
  -- one bottom category's tree more
  pub next_written : (b : ℕ) (a c d : List ℕ) → 1 ≤ b → IsBottom s.graph b
      → Adds m s q k (map Bottom (first_bottoms s.graph (b - 1))) a c → Adds m s q k (Bottom b ∷ []) c d
      → Adds m s q k (map Bottom (first_bottoms s.graph (b + 1 - 1))) a d
  next_written b a c d l h f i =
      let before : 1 + (b - 1) ≡ b = omega (arith, l) in
      let next : b - 1 + 1 ≡ b + 1 - 1 = omega (arith, l) in
      let bottoms = first_bottoms s.graph (b - 1) in
      let listed = ap (map Bottom) (bottoms_more s.graph (b - 1) b before h) ∙ map-append Bottom bottoms (b ∷ []) in
      subst (λ n. Adds m s q k (map Bottom (first_bottoms s.graph n)) a d) next
      (subst (λ os. Adds m s q k os a d) (sym listed)
      (adds_more m s q k (map Bottom bottoms) (Bottom b ∷ []) a c d f i))

  -- or none
  pub next_same : (b : ℕ) (a c : List ℕ) → 1 ≤ b → b < category_count s.graph → (IsBottom s.graph b → ⊥)
      → Adds m s q k (map Bottom (first_bottoms s.graph (b - 1))) a c
      → Adds m s q k (map Bottom (first_bottoms s.graph (b + 1 - 1))) a c
  next_same b a c l d h f =
      let before : 1 + (b - 1) ≡ b = omega (arith, l) in
      let next : b - 1 + 1 ≡ b + 1 - 1 = omega (arith, l) in
      let declared : IsDeclared s.graph b = ((λ z. absurd (omega (arith, l, z))), d) in
      subst (λ n. Adds m s q k (map Bottom (first_bottoms s.graph n)) a c) next
      (subst (λ os. Adds m s q k os a c)
      (sym (ap (map Bottom) (bottoms_same s.graph (b - 1) b before declared h))) f)

  -- all are a certificate, below its first line
  pub certified : (n : ℕ) (a c : List ℕ) → n ≡ length s.graph.names → a ≡ head_text m ++ 10 ∷ []
      → Adds m s q k (map Bottom (first_bottoms s.graph n)) a c → IsCertificateText m s q k c
  certified n a c all e g =
      let f = subst (λ i. Adds m s q k (map Bottom (first_bottoms s.graph i)) a c) all g in (
        head_text m ∷ f.0,
        f.1 ∙ ap (λ x. x ++ lines_text f.0) e,
        more begins (subst (λ ls. Runs m s q k ls (map Bottom (bottoms_of s.graph) ++ []) []) (append-nil f.0)
            (f.2 [] [] [] none)),
      )
