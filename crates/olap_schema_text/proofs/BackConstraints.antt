-- A printed constraint's line is read as the constraint.
use Rattle.std.proofs.Common.{◌≡◌, ◌==◌, ◌≤◌, ◌+◌, ℕ, suc, Bool, true, false, cond, List, [], ◌∷◌, ◌++◌, Some, length, refl, arith, ap, sym, ◌∙◌, nat_lt, nat_le, append_assoc, lit≤}
use Rattle.std.proofs.lemmas.{Bool.{eqb-true, false_from_ne_true}, List.Concat.flat_map-append}
use Rattle.std.{proofs.lemmas.List.Sums.{fold-append, sum_by-append}, specs.List.list_any}
use Rattle.std.specs.Prelude.{Contains, Ok, flat_map, fold, sum_by}
use Rattle.olap_base.specs.Graph.{Graph, IsCategory, IsHierarchy}
use Rattle.olap_base.specs.Limits.{most_constants, most_constraints, most_depth, most_nodes, most_schema_nodes, most_text_bytes}
use Rattle.olap_graph.specs.Lookups.{category_named, name_of_category}
use Rattle.olap_ast.specs.{Constants.all_compared, Formula.{Formula, Compared, compared}, Schema.{Constraint, Schema}}
use Rattle.olap_ast.specs.Valid.{IsFormulaAt, IsValidSchema, depth_of, node_count, with_new, constant_count, is_same_atom}
use Rattle.olap_grammar.{proofs.ReaderLemmas.formula_is_found, proofs.Sound.tighter, specs.Brackets.opens_over}
use Rattle.olap_grammar.specs.{Forms.{depth_of as levels_of}, Machine.the_formula, Nodes.nodes_of, Words.atoms_of}
use Rattle.olap_schema_text.proofs.{BackForms.written_is_resolved, BackGraph.{lengths, stands}}
use Rattle.olap_schema_text.proofs.{BackLengths.{AreShort, none_is_long}, BackNumbers.none_is_bad}
use Rattle.olap_schema_text.proofs.{BackTokens.{few_open, nodes_are}, FormLemmas.not_too_many}
use Rattle.olap_schema_text.proofs.{PrintFormula.spelt_is_formula, PrintNames.named, PrintTokens.spelt}
use Rattle.olap_schema_text.proofs.Written.{written, written_depth}
use Rattle.olap_schema_text.specs.Judging.{Above, constraint_read, form_read, has_too_many_constants}
use Rattle.olap_schema_text.specs.{Parts.has_too_many_nodes, Tokens.{is_bad_number, is_long}}
use Rattle.olap_grammar.specs.declared.tokens.Version.TheVariants as version

-- the graph and these constraints stand above
abbrev pub ruled : Graph → List Constraint → ℕ → List ℕ → Above
ruled g done nodes lines = record {
  version = Some version.Two;
  graph = g;
  category_lines = lines;
  constraints = done;
  nodes = nodes;
}

-- the nodes of the constraints
abbrev pub nodes_in : List Constraint → ℕ
nodes_in cs = sum_by (λ c. node_count c.formula) cs

-- pairs are only added
one_grows : {A : Type 0} (same : A → A → Bool) (pairs : List A) (x : A) → length pairs ≤ length (with_new same pairs x)
one_grows same pairs x = go (list_any (same x) pairs)
  where
    go : (b : Bool) → length pairs ≤ length (cond b pairs (pairs ++ x ∷ []))
    go true = omega arith
    go false = let e = lengths pairs (x ∷ []) in omega arith

-- there are never fewer
grows : {A : Type 0} (same : A → A → Bool) (pairs xs : List A)
    → length pairs ≤ length (fold (with_new same) pairs xs)
grows same pairs [] = omega arith
grows same pairs (x ∷ xs) =
    let a = one_grows same pairs x in let b = grows same (with_new same pairs x) xs in omega (arith, a, b)

-- the first constraint's nodes come before those of the others
pub first_nodes : (c : Constraint) (cs : List Constraint) → nodes_in (c ∷ cs) ≡ node_count c.formula + nodes_in cs
first_nodes c cs =
    go (node_count c.formula) (nodes_in cs) (nodes_in (c ∷ cs)) (sum_by-append (λ x. node_count x.formula) (c ∷ []) cs)
  where
    go : (a b s : ℕ) → s ≡ (0 + a) + b → s ≡ a + b
    go a b s e = omega arith

-- the tokens of a printed formula pass all checks of its form
form_is : (g : Graph) (h : IsHierarchy g) (r : ℕ) (l : IsCategory g r) (f : Formula) → IsFormulaAt g r f
    → (before : ℕ) → node_count f ≤ most_nodes → before + node_count f ≤ most_schema_nodes → depth_of f ≤ most_depth →
    form_read version.Two before (spelt g r f) ≡ Ok (written g r f)
unfolding form_read
form_is g h r l f v before few all deep =
    let nodes = nodes_are g h r l f v in
    let n : has_too_many_nodes before (nodes_of version.Two (spelt g r f)) ≡ false =
    not_too_many before (nodes_of version.Two (spelt g r f)) (omega (arith, nodes, few)) (omega (arith, nodes, all)) in
    let o : opens_over 0 0 (spelt g r f) ≡ false = few_open g r f deep in
    let read : the_formula (atoms_of version.Two) (spelt g r f) ≡ Some (written g r f) =
    formula_is_found (atoms_of version.Two) (spelt g r f) (written g r f)
    (tighter 1 6 (lit≤ tt) (spelt_is_formula g h r l f v)) in
    let d : nat_lt most_depth (levels_of (written g r f)) ≡ false = grind (arith, written_depth g r f) in
    rw (n, o, read, d) refl

-- a constraint's line adds it
pub add_constraint : (s : Schema) → IsValidSchema s → AreShort s.graph
    → (done : List Constraint) (c : Constraint) (rest : List Constraint) (nodes : ℕ) (lines : List ℕ) →
    done ++ c ∷ rest ≡ s.constraints → nodes + nodes_in (c ∷ rest) ≤ most_schema_nodes →
    constraint_read (ruled s.graph done nodes lines) version.Two (name_of_category s.graph c.root)
    (spelt s.graph c.root c.formula)
    ≡ Ok (ruled s.graph (done ++ c ∷ []) (nodes + nodes_of version.Two (spelt s.graph c.root c.formula)) lines)
add_constraint s v short done c rest nodes lines e few_nodes =
    let there : Contains s.constraints c = rw e at (stands done c rest) in
    let declared = v.roots c there in
    let at_root = v.formulas c there in
    let ts = spelt s.graph c.root c.formula in
    let fit : nodes + node_count c.formula ≤ most_schema_nodes = omega (arith, first_nodes c rest, few_nodes) in
    let form : form_read version.Two nodes ts ≡ Ok (written s.graph c.root c.formula) =
    form_is s.graph v.hierarchy c.root declared.1 c.formula at_root nodes (v.nodes_fit c there) fit
    (v.depth_fits c there) in
    let ln = short c.root declared.1 in
    let sn : nat_lt most_text_bytes (length (name_of_category s.graph c.root)) ≡ false = grind (arith) in
    let sl : list_any is_long ts ≡ false =
    none_is_long s.graph v.hierarchy short c.root declared.1 c.formula at_root in
    let good : list_any is_bad_number ts ≡ false =
    none_is_bad s.graph v.hierarchy c.root declared.1 c.formula at_root in
    let n : category_named s.graph (name_of_category s.graph c.root) ≡ Some c.root =
    named s.graph v.hierarchy c.root declared.1 in
    let z = false_from_ne_true (c.root == 0) (λ q. declared.0 (eqb-true c.root 0 q)) in
    let sizes = lengths done (c ∷ rest) in
    let few : nat_le most_constraints (length done) ≡ false =
    room (length done) (length rest) (length s.constraints) v.constraints_fit (sym (ap length e) ∙ sizes) in
    let back = written_is_resolved s.graph v.hierarchy c.root declared.1 c.formula at_root in
    rw (form, sn, sl, good, n, z, few, back, fits done c rest s.constraints e v.constants_fit) refl
  where
    room : (a b n : ℕ) → n ≤ most_constraints → n ≡ a + suc b → nat_le most_constraints a ≡ false
    room a b n l q = grind arith

    below : (a b m : ℕ) → a ≤ b → m ≡ b → m ≤ most_constants → nat_lt most_constants a ≡ false
    below a b m l e f = grind arith

    -- the constants so far are no more than those of the whole schema
    fits : (done : List Constraint) (c : Constraint) (rest all : List Constraint) → done ++ c ∷ rest ≡ all
        → constant_count (flat_map (λ x. compared x.formula) all) ≤ most_constants
        → has_too_many_constants done c.formula ≡ false
    fits done c rest all e few =
        let atoms : Constraint → List Compared = λ x. compared x.formula in
        let behind : flat_map atoms all ≡ all_compared done c.formula ++ flat_map atoms rest =
        ap (flat_map atoms) (sym e) ∙ flat_map-append atoms done (c ∷ rest)
        ∙ sym (append_assoc (flat_map atoms done) (compared c.formula) (flat_map atoms rest)) in
        below _ _ _
        (grows is_same_atom (fold (with_new is_same_atom) [] (all_compared done c.formula)) (flat_map atoms rest))
        (ap constant_count behind
        ∙ ap length (fold-append (with_new is_same_atom) [] (all_compared done c.formula) (flat_map atoms rest)))
        few
