-- Lines that aren't a certificate.
--     edges_are_decided_once ..       the laws
use Rattle.std.proofs.Common.{◌≡◌, ℕ, zero, suc, ◌+◌, ◌++◌, List, [], ◌∷◌, length, get_or, map, true, false, None, refl, ap, sym, subst, ◌∙◌, ◌⊎◌, inl, inr, add-one, arith}
use Rattle.std.specs.{List.range_with_len, Prelude.codes}
use Rattle.olap_ast.specs.Frozen.{Candidates}
use Rattle.olap_proof.proofs.StepLemmas.{AtStep, AtStep.by_edge, AtStep.by_name, AtStep.by_reason, AtStep.by_way, runs_first, step_at, step_bottom, step_head}
use Rattle.olap_proof.specs.Certificates.{IsCertificate, Open, Open.At, Open.Bottom, Runs, bottom_text, head_text, indexes_of, start, with_edge, with_name}
use Rattle.olap_proof.specs.Closing.{Closes, IsAbout}
use Rattle.olap_proof.specs.Examples.{EdgesAreDecidedOnce, LinesAreSpelledExactly, NamesAreDecidedOnce, TheRootIsNotLoose, chain, city_not_by_store}
use Rattle.olap_proof.specs.Lines.{Line, Line.EdgeOrNot, Line.Loose, Line.NameOf, Line.Unreached, Line.WayOrNot, line_text}
use Rattle.olap_proof.specs.{Places.{Place, index_of}, declared.forms.Form.Form}
use Rattle.olap_proof.specs.declared.forms.Form.TheVariants.{Long, Short}
use Rattle.olap_trail.specs.Decisions.{status_of}

-- the n-th byte of a line
abbrev byte : ℕ → List ℕ → ℕ
byte n line = get_or line n 0

module _ (f : Form) (k : Candidates) where
  -- after the first line the bottom category is open
  opened : (lines : List (List ℕ)) → IsCertificate f chain city_not_by_store k (head_text f ∷ lines)
      → Runs f chain city_not_by_store k lines (Bottom 1 ∷ []) []
  opened lines run =
      let t = runs_first f chain city_not_by_store k run in
      subst (λ os. Runs f chain city_not_by_store k lines (os ++ []) [])
      (step_head f chain city_not_by_store k t.1 refl).1 t.2

  -- its line opens its tree
  begun : (line : List ℕ) (lines : List (List ℕ)) → Runs f chain city_not_by_store k (line ∷ lines) (Bottom 1 ∷ []) []
      → (line ≡ bottom_text chain.graph 1) × Runs f chain city_not_by_store k lines (At (start chain.graph 1) ∷ []) []
  begun line lines run =
      let t = runs_first f chain city_not_by_store k run in
      let n = step_bottom f chain city_not_by_store k t.1 1 refl in
      (n.0, subst (λ os. Runs f chain city_not_by_store k lines (os ++ []) []) n.1 t.2)

  -- a line in it does something with its first place
  went_on : (line : List ℕ) (lines : List (List ℕ)) (p : Place) (os : List Open)
      → Runs f chain city_not_by_store k (line ∷ lines) (At p ∷ os) []
      → (new : List Open) × AtStep f chain city_not_by_store k line p new
      × Runs f chain city_not_by_store k lines (new ++ os) []
  went_on line lines p os run =
      let t = runs_first f chain city_not_by_store k run in (t.0, step_at f chain city_not_by_store k t.1 p refl, t.2)

  -- no reason is spelled like a split
  no_reason : (b : ℕ) (p : Place) (l : Line) → (b ≡ 101) ⊎ (b ≡ 110) → byte 0 (line_text chain.graph l) ≡ b
      → Closes f chain city_not_by_store k p l → ⊥
  no_reason b p (EdgeOrNot e) w q h = h
  no_reason b p (NameOf c) w q h = h
  no_reason b p (WayOrNot x y) w q h = h
  no_reason b p l w q h = omega (arith, w, q)

  -- the line splits by the edge from Store to City, where that is undecided
  edge_split : (p : Place) (new : List Open) → AtStep f chain city_not_by_store k (codes "edge Store City") p new
      → (status_of p.decided 0 ≡ None) × (new ≡ At (with_edge p 0 false) ∷ At (with_edge p 0 true) ∷ [])
  edge_split p new (by_edge zero e l u n) = (u, n)
  edge_split p new (by_edge (suc zero) e l u n) = absurd (let q : 83 ≡ 67 = ap (byte 5) e in omega arith)
  edge_split p new (by_edge (suc (suc i)) e l u n) = absurd (omega (arith, l))
  edge_split p new (by_name c e d u n) = absurd (let q : 101 ≡ 110 = ap (byte 0) e in omega arith)
  edge_split p new (by_way a b e o i j u n) = absurd (let q : 101 ≡ 114 = ap (byte 0) e in omega arith)
  edge_split p new (by_reason l e a h n) = absurd (no_reason 101 p l (inl refl) (sym (ap (byte 0) e)) h)

  -- the line splits by Store's name, where that is undecided
  name_split : (p : Place) (new : List Open) → AtStep f chain city_not_by_store k (codes "name Store") p new
      → (index_of p.namings 1 ≡ None) × (new ≡ map (λ i. At (with_name p 1 i)) (indexes_of k 1))
  name_split p new (by_edge i e l u n) = absurd (let q : 110 ≡ 101 = ap (byte 0) e in omega arith)
  name_split p new (by_name zero e d u n) = absurd (d.0 refl)
  name_split p new (by_name (suc zero) e d u n) = (u, n)
  name_split p new (by_name (suc (suc zero)) e d u n) = absurd (let q : 83 ≡ 67 = ap (byte 5) e in omega arith)
  name_split p new (by_name (suc (suc (suc i))) e d u n) = absurd (omega (arith, d.1))
  name_split p new (by_way a b e o i j u n) = absurd (let q : 110 ≡ 114 = ap (byte 0) e in omega arith)
  name_split p new (by_reason l e a h n) = absurd (no_reason 110 p l (inr refl) (sym (ap (byte 0) e)) h)

-- a line decides no edge that was decided above
pub edges_are_decided_once : EdgesAreDecidedOnce
edges_are_decided_once f k others run =
    let line = codes "edge Store City" in
    let tree = (begun f k (codes "bottom Store") (line ∷ line ∷ others)
    (opened f k (codes "bottom Store" ∷ line ∷ line ∷ others) run)).1 in
    let p = start chain.graph 1 in
    let one = went_on f k line (line ∷ others) p [] tree in
    let split = (edge_split f k p one.0 one.1).1 in
    let left = subst (λ os. Runs f chain city_not_by_store k (line ∷ others) (os ++ []) []) split one.2 in
    let two = went_on f k line others (with_edge p 0 false) (At (with_edge p 0 true) ∷ []) left in
    let undecided = (edge_split f k (with_edge p 0 false) two.0 two.1).0 in cc

-- the first of some numbers is 0
first_index : (n : ℕ) → range_with_len 0 (n + 1) ≡ 0 ∷ range_with_len 1 n
first_index n = ap (range_with_len 0) (add-one n)

-- nor a name
pub names_are_decided_once : NamesAreDecidedOnce
names_are_decided_once f k others run =
    let line = codes "name Store" in
    let tree = (begun f k (codes "bottom Store") (line ∷ line ∷ others)
    (opened f k (codes "bottom Store" ∷ line ∷ line ∷ others) run)).1 in
    let p = start chain.graph 1 in
    let one = went_on f k line (line ∷ others) p [] tree in
    let split =
    (name_split f k p one.0 one.1).1 ∙ ap (map (λ i. At (with_name p 1 i))) (first_index (length (k.texts 1))) in
    let left = subst (λ os. Runs f chain city_not_by_store k (line ∷ others) (os ++ []) []) split one.2 in
    let two = went_on f k line others (with_name p 1 0)
    (map (λ i. At (with_name p 1 i)) (range_with_len 1 (length (k.texts 1))) ++ []) left in
    let undecided = (name_split f k (with_name p 1 0) two.0 two.1).0 in cc

-- a line with other bytes does nothing
pub lines_are_spelled_exactly : LinesAreSpelledExactly
lines_are_spelled_exactly f k others run =
    let e = (begun f k (codes "bottom  Store") others (opened f k (codes "bottom  Store" ∷ others) run)).0 in
    absurd (let q : 32 ≡ 83 = ap (byte 7) e in omega arith)

-- ---- the root

-- where a line says that Store is dead, nothing is left open
dead_closes : (k : Candidates) (p : Place) (new : List Open)
    → AtStep Long chain city_not_by_store k (codes "dead Store") p new → new ≡ []
dead_closes k p new (by_edge i e l u n) = absurd (let q : 100 ≡ 101 = ap (byte 0) e in omega arith)
dead_closes k p new (by_name c e d u n) = absurd (let q : 100 ≡ 110 = ap (byte 0) e in omega arith)
dead_closes k p new (by_way a b e o i j u n) = absurd (let q : 100 ≡ 114 = ap (byte 0) e in omega arith)
dead_closes k p new (by_reason l e a h n) = n

-- Store is the root
root_closes : (k : Candidates) (p : Place) (l : Line) → p.decided.root ≡ 1
    → codes "loose Store City" ≡ line_text chain.graph l → IsAbout chain l
    → Closes Long chain city_not_by_store k p l → ⊥
root_closes k p (Loose zero) r q a h = h.1.0 (sym r)
root_closes k p (Loose (suc zero)) r q a h = omega (arith, ap (byte 6) q)
root_closes k p (Loose (suc (suc e))) r q a h = omega (arith, a)
root_closes k p (Unreached c) r q a h = let z : Long ≡ Short = h.0 in cc
root_closes k p l r q a h = omega (arith, ap (byte 0) q)

-- `loose` doesn't close a place for its root
root_loose : (k : Candidates) (p : Place) (new : List Open) → p.decided.root ≡ 1
    → AtStep Long chain city_not_by_store k (codes "loose Store City") p new → ⊥
root_loose k p new r (by_edge i e l u n) = absurd (let q : 108 ≡ 101 = ap (byte 0) e in omega arith)
root_loose k p new r (by_name c e d u n) = absurd (let q : 108 ≡ 110 = ap (byte 0) e in omega arith)
root_loose k p new r (by_way a b e o i j u n) = absurd (let q : 108 ≡ 114 = ap (byte 0) e in omega arith)
root_loose k p new r (by_reason l e a h n) = root_closes k p l r e a h

-- so such a text is no certificate
pub the_root_is_not_loose : TheRootIsNotLoose
the_root_is_not_loose k others run =
    let edge = codes "edge Store City" in
    let dead = codes "dead Store" in
    let loose = codes "loose Store City" in
    let tree = (begun Long k (codes "bottom Store") (edge ∷ dead ∷ loose ∷ others)
    (opened Long k (codes "bottom Store" ∷ edge ∷ dead ∷ loose ∷ others) run)).1 in
    let p = start chain.graph 1 in
    let one = went_on Long k edge (dead ∷ loose ∷ others) p [] tree in
    let split = (edge_split Long k p one.0 one.1).1 in
    let left = subst (λ os. Runs Long chain city_not_by_store k (dead ∷ loose ∷ others) (os ++ []) []) split one.2 in
    let two = went_on Long k dead (loose ∷ others) (with_edge p 0 false) (At (with_edge p 0 true) ∷ []) left in
    let closed = dead_closes k (with_edge p 0 false) two.0 two.1 in
    let last =
    subst (λ os. Runs Long chain city_not_by_store k (loose ∷ others) (os ++ At (with_edge p 0 true) ∷ []) [])
    closed two.2 in
    let three = went_on Long k loose others (with_edge p 0 true) [] last in
    root_loose k (with_edge p 0 true) three.0 refl three.1
