-- Shapes: what is listed answers its question, and it is one list.
use Rattle.std.proofs.Common.{◌≡◌, ℕ, ◌≤◌, List, [], Bool, ◌++◌, length, codes, decimal, Ok, ap, sym, subst, ◌∙◌, arith}
use Rattle.std.proofs.lemmas.List.{get_or-map, length-map, Elements.All-contains_itself}
use Rattle.std.specs.Prelude.{◌≢◌, AllPairs, Contains, flat_map}
use Rattle.olap_ast.proofs.{Determined.still_frozen, OrderedLists.{Apart, no_longer, same_list}, Uniqueness.code_is_one}
use Rattle.olap_ast.specs.{Formula.{Formula, Formula.Truth}, Frozen.{AreCandidates, Candidates, Frozen, IsFrozen}}
use Rattle.olap_ast.specs.Schema.{Schema}
use Rattle.olap_base.{proofs.ListLemmas.{Contains-from_map, Contains-map}, specs.Limits.most_frozen}
use Rattle.olap_cex.specs.FrozenText.{frozen_text}
use Rattle.olap_dimsat.specs.{Listed.IsBefore, Shapes.AreShapes}
use Rattle.olap_order.specs.{Judged.Replies, Order.Done, Outputs.line, declared.replies.Reply.Reply}
use Rattle.olap_order.specs.declared.status.Status.TheVariants.{Yes}
use Rattle.olap_reasoning.{proofs.ReplyLemmas.answers_by, specs.Questions.{ByShapes, IsAnswer}}
use Rattle.olap_reasoning.specs.ShapeLaws.{EachShapeIsListedOnce, ShapesAreOne, TooManyShapesAreNotListed, edges_of}

-- the lines of the least frozen dimensions of all shapes answer `shapes`
pub shapes_listed : (s : Schema) (c : ℕ) (k : Candidates) (shapes : List Frozen) → AreShapes s Truth c k shapes
    → length shapes ≤ most_frozen → (reply : Reply) → reply.status ≡ Yes
    → reply.bytes.items ≡ flat_map (frozen_text s.graph k c) shapes ++ line (codes "count " ++ decimal (length shapes))
    → Replies IsAnswer (Done (ByShapes s c)) (Ok reply)
shapes_listed s c k shapes are few reply status text = answers_by (ByShapes s c) Yes tt reply status
    (record { candidates = k; frozen = shapes; all = are; few = few; text = text })

-- ---- one list

-- before, by their codes, of values with this many edges
abbrev Before : ℕ → Frozen → Frozen → Type 0
Before n f h = IsBefore f h × (length f.edges ≡ n) × (length h.edges ≡ n)

-- of two only one comes before the other
apart_before : (n : ℕ) → Apart (Before n)
apart_before n f h a b = a.0.1 (code_is_one f h (a.1 ∙ sym a.2) a.0.0 b.0.0)

-- what is listed is in order, with this many edges
in_order : (s : Schema) (q : Formula) (r : ℕ) (k : Candidates) (xs : List Frozen) → AreShapes s q r k xs
    → AllPairs (Before (length s.graph.edges)) xs
in_order s q r k xs a i j d l m = (
  a.ordered i j d l m,
  (a.sound _ (All-contains_itself xs i d (omega arith))).is_one.edge_count,
  (a.sound _ (All-contains_itself xs j d m)).is_one.edge_count,
)

-- what one list has the other has
also_in : (s : Schema) (q : Formula) (r : ℕ) (k h : Candidates) (xs ys : List Frozen) → AreShapes s q r k xs
    → AreShapes s q r h ys → (f : Frozen) → Contains xs f → Contains ys f
also_in s q r k h xs ys a b f c =
    let least = a.sound f c in
    let one = still_frozen s q r k h a.candidates b.candidates f least.is_one in
    let g = b.complete f one in
    let other = b.sound g.0 g.1 in
    let back = still_frozen s q r h k b.candidates a.candidates g.0 other.is_one in
    subst (Contains ys)
    (sym (code_is_one f g.0 (ap length (sym g.2)) (least.least g.0 back g.2) (other.least f one (sym g.2)))) g.1

-- the least frozen dimensions of all shapes are one list
pub shapes_are_one : ShapesAreOne
shapes_are_one s q r k h xs ys a b =
    let n = length s.graph.edges in
    same_list (Before n) (apart_before n) xs ys (in_order s q r k xs a) (in_order s q r h ys b)
    (also_in s q r k h xs ys a b) (also_in s q r h k ys xs b a)

-- ---- each once

-- where no two have the same edges, these are different
differ : (xs : List Frozen) → AllPairs (λ f h. f.edges ≢ h.edges) xs → AllPairs ◌≢◌ (edges_of xs)
differ xs other i j e l m q =
    let n = length-map xs (λ (f : Frozen). f.edges) in
    other i j none l (omega arith)
    (sym (get_or-map (λ (f : Frozen). f.edges) xs i none e (omega arith)) ∙ q
    ∙ get_or-map (λ (f : Frozen). f.edges) xs j none e (omega arith))
  where
    none : Frozen
    none = record { edges = []; names = [] }

-- no two that are listed have the same edges
pub no_two : (s : Schema) (q : Formula) (r : ℕ) (k : Candidates) (xs : List Frozen) → AreShapes s q r k xs
    → AllPairs (λ f h. f.edges ≢ h.edges) xs
no_two s q r k xs a i j d l m e =
    let f = a.sound _ (All-contains_itself xs i d (omega arith)) in
    let h = a.sound _ (All-contains_itself xs j d m) in
    let o = a.ordered i j d l m in
    o.1 (code_is_one _ _ (ap length e) o.0 (h.least _ f.is_one e))

-- the edges of one in the list are among those of the list
edges_in : (xs : List Frozen) (f h : Frozen) → Contains xs h → h.edges ≡ f.edges → Contains (edges_of xs) f.edges
edges_in xs f h c e = subst (Contains (edges_of xs)) e (Contains-map (λ (g : Frozen). g.edges) xs h c)

-- no shape is listed twice, and no frozen dimension has another
pub each_shape_is_listed_once : EachShapeIsListedOnce
each_shape_is_listed_once s q r k xs a = (
  differ xs (no_two s q r k xs a),
  λ f one. let c = a.complete f one in edges_in xs f c.0 c.1 c.2,
)

-- ---- too many

-- shapes of which all are in a list are no more than it has
no_more : (s : Schema) (q : Formula) (r : ℕ) (k h : Candidates) (xs some : List Frozen) → AreCandidates s q h
    → AreShapes s q r k xs → AllPairs (λ f g. f.edges ≢ g.edges) some
    → ((f : Frozen) → Contains some f → IsFrozen s q r h f) → length some ≤ length xs
no_more s q r k h xs some others a other sound =
    let l = length-map xs (λ (f : Frozen). f.edges) in
    let m = length-map some (λ (f : Frozen). f.edges) in
    let n = no_longer (edges_of some) (edges_of xs) (differ some other) inside in omega (arith, l, m, n)
  where
    inside : (e : List Bool) → Contains (edges_of some) e → Contains (edges_of xs) e
    inside e c =
        let f = Contains-from_map (λ (g : Frozen). g.edges) some e c in
        let g = a.complete f.0 (still_frozen s q r h k others a.candidates f.0 (sound f.0 f.1)) in
        subst (Contains (edges_of xs)) f.2 (edges_in xs f.0 g.0 g.1 g.2)

-- if there are too many shapes, no list has all
pub too_many_shapes_are_not_listed : TooManyShapesAreNotListed
too_many_shapes_are_not_listed s c bytes m l =
    let t = m.1 in
    let r = no_more s Truth c l.candidates m.0 l.frozen t.some t.candidates l.all t.differ t.sound in
    let many = t.many in let few = l.few in omega (arith, r, many, few)
