-- A line without a fault keeps what holds of what the lines above it say.
use Rattle.std.proofs.Common.{◌≡◌, ◌≢◌, ◌+◌, ◌<◌, ◌≤◌, ℕ, zero, suc, Bool, true, false, List, [], ◌∷◌, ◌++◌, Option, Some, None, Ok, length, is_some, refl, sym, ◌∙◌, arith, subst, inl, inr}
use Rattle.std.proofs.lemmas.{Bool.{eqb-false, leb-false, ltb-false}, List.{get_or_append_left, length_push}}
use Rattle.std.proofs.lemmas.List.Elements.{Contains-append_left, Contains-push_cases}
use Rattle.std.proofs.lemmas.List.Sums.{sum_by-append, sum_by-cons}
use Rattle.std.specs.Prelude.{Contains, flat_map, nat_lt, sum_by}
use Rattle.olap_ast.specs.{Atoms.equalities, Constants.all_compared, Formula.{Formula, compared}, Schema.Constraint}
use Rattle.olap_ast.specs.Valid.{IsFormulaAt, depth_of, node_count, constant_count}
use Rattle.olap_schema_text.proofs.{CountedLemmas.one_behind, FormLemmas.{few_alone, few_in_all}}
use Rattle.olap_schema_text.proofs.{FoundWords.found_are_spelt, ResolvedLemmas.resolved_is_sound}
use Rattle.olap_schema_text.proofs.StepLemmas.{AddsCategory, AddsConstraint, AddsEdge, given_ok, ok_is, passed_on}
use Rattle.olap_schema_text.proofs.{ValidFormulas.{IsWithin, form_nodes, grown_is_valid}, ValidNames.name_at}
use Rattle.olap_schema_text.specs.Judging.{Above, form_read}
use Rattle.olap_base.proofs.GeneralLemmas.{none_past}
use Rattle.olap_base.specs.Graph.{Graph, IsCategory, IsDeclared, category_count, is_number}
use Rattle.olap_base.specs.Limits.{most_categories, most_constants, most_constraints, most_depth, most_edges, most_nodes, most_schema_nodes, most_text_bytes}
use Rattle.olap_base.specs.Reaching.{is_category_name, is_category_name_is}
use Rattle.olap_graph.proofs.GrowthLemmas.{limits-with_category, limits-with_edge, unfinished-with_category, unfinished-with_edge}
use Rattle.olap_graph.specs.Building.{IsUnfinished, IsWithinLimits, category_refusal, edge_refusal, with_edge, with_kind}
use Rattle.olap_graph.specs.Lookups.{category_named, edge_between}
use Rattle.olap_grammar.{proofs.ReaderLemmas.found_is_formula, specs.Forms.{Form, depth_of as levels_of}}
use Rattle.olap_grammar.specs.{Grammar.IsFormula, Machine.the_formula, Nodes.nodes_of, Words.atoms_of}
use Rattle.olap_grammar.specs.declared.tokens.{Token.Token, Version.Version}
use Rattle.olap_schema.specs.Readable.{AreTexts}

-- what holds of one constraint
pub record IsSoundConstraint (g : Graph) (c : Constraint) : Type 0 where
  pub declared : IsDeclared g c.root
  pub formula : IsFormulaAt g c.root c.formula
  pub nodes : node_count c.formula ≤ most_nodes
  pub depth : depth_of c.formula ≤ most_depth
  pub texts : AreTexts (equalities c.formula)

-- the nodes of constraints
abbrev nodes_in : List Constraint → ℕ
nodes_in cs = sum_by (λ c. node_count c.formula) cs

-- what holds of the constraints so far
pub record AreSound (g : Graph) (cs : List Constraint) (nodes : ℕ) : Type 0 where
  pub each : (c : Constraint) → Contains cs c → IsSoundConstraint g c
  pub few : length cs ≤ most_constraints
  pub nodes_are : nodes_in cs ≡ nodes
  pub few_nodes : nodes ≤ most_schema_nodes
  pub few_constants : constant_count (flat_map (λ c. compared c.formula) cs) ≤ most_constants

-- what holds of what the lines so far say
pub record IsSoundSoFar (a : Above) : Type 0 where
  pub unfinished : IsUnfinished a.graph
  pub limits : IsWithinLimits a.graph
  pub constraints : AreSound a.graph a.constraints a.nodes

-- ---- a larger graph

-- a sound constraint is sound in a larger graph
sound_within : (g h : Graph) (c : Constraint) → IsWithin g h → IsSoundConstraint g c → IsSoundConstraint h c
sound_within g h c w s = record {
  declared = (s.declared.0, w.categories c.root s.declared.1);
  formula = grown_is_valid g h w c.root c.formula s.formula;
  nodes = s.nodes;
  depth = s.depth;
  texts = s.texts;
}

-- and so are all
all_within : (g h : Graph) (cs : List Constraint) (nodes : ℕ) → IsWithin g h → AreSound g cs nodes
    → AreSound h cs nodes
all_within g h cs nodes w s = record {
  each = λ c k. sound_within g h c w (s.each c k);
  few = s.few;
  nodes_are = s.nodes_are;
  few_nodes = s.few_nodes;
  few_constants = s.few_constants;
}

-- the kinds of the categories so far stay
same_kind : (number : Bool) (g : Graph) (name : List ℕ) → length g.numbers ≡ length g.names → (c : ℕ)
    → IsCategory g c → is_number (with_kind number g name) c ≡ is_number g c
same_kind number g name known zero h = refl
same_kind number g name known (suc c) h =
    get_or_append_left g.numbers (number ∷ []) false c (omega (arith, known, h))

-- a graph with one category more is larger
within_category : (number : Bool) (g : Graph) (name : List ℕ) → length g.numbers ≡ length g.names
    → IsWithin g (with_kind number g name)
within_category number g name known = record {
  categories = λ c h. let l = length_push g.names name in omega arith;
  kinds = same_kind number g name known;
  edges = λ c d h. h;
}

-- and one with one edge more
within_edge : (g : Graph) (c d : ℕ) → IsWithin g (with_edge g c d)
within_edge g c d = record {
  categories = λ x h. h;
  kinds = kept;
  edges =
      λ x y h. Contains-append_left g.edges (record { child = c; parent = d } ∷ [])
      (record { child = x; parent = y }) h;
}
  where
    kept : (x : ℕ) → IsCategory g x → is_number (with_edge g c d) x ≡ is_number g x
    kept zero h = refl
    kept (suc x) h = refl

-- ---- a category

-- what isn't some is none
none_there : (o : Option ℕ) → is_some o ≡ false → o ≡ None
none_there None h = refl
none_there (Some i) h = absurd (cc)

-- a category that isn't refused has a new name, and there is room
free_name : (g : Graph) (name : List ℕ) → category_refusal g name ≡ None
    → (category_named g name ≡ None) × (category_count g < most_categories)
free_name g name h =
    let t = none_past _ _ _ h in
    (none_there (category_named g name) t.0, leb-false most_categories (category_count g) (none_past _ _ _ t.1).0)

-- one category more
pub category_kept : (a b : Above) (n : ℕ) (name : List ℕ) (number : Bool) → is_category_name name ≡ true
    → AddsCategory a b n name number → IsSoundSoFar a → IsSoundSoFar b
category_kept a b n name number h s p =
    let free = free_name a.graph name s.free in
    subst IsSoundSoFar (sym s.new) (record {
      unfinished = unfinished-with_category number a.graph name p.unfinished ((is_category_name_is name).0 h) free.0;
      limits =
          limits-with_category number a.graph name p.limits free.1 (ltb-false most_text_bytes (length name) s.short);
      constraints =
          all_within a.graph (with_kind number a.graph name) a.constraints a.nodes
          (within_category number a.graph name p.unfinished.kinds_known) p.constraints;
    })

-- ---- an edge

-- what an edge that is not refused is
record IsFree (g : Graph) (c d : ℕ) : Type 0 where
  loop : c ≢ d
  from_all : c ≢ 0
  none : edge_between g c d ≡ None
  few : length g.edges < most_edges

-- an edge that isn't refused is a new one, and there is room
free_edge : (g : Graph) (c d : ℕ) → edge_refusal g c d ≡ None → IsFree g c d
free_edge g c d h =
    let loop = none_past _ _ _ h in
    let from_all = none_past _ _ _ loop.1 in
    let none = none_past _ _ _ from_all.1 in
    let few = none_past _ _ _ none.1 in
    record {
      loop = eqb-false c d loop.0;
      from_all = eqb-false c 0 from_all.0;
      none = none_there (edge_between g c d) none.0;
      few = leb-false most_edges (length g.edges) few.0;
    }

-- one edge more
pub edge_kept : (a b : Above) (child parent : List ℕ) (c d : ℕ) → AddsEdge a b child parent c d → IsSoundSoFar a
    → IsSoundSoFar b
edge_kept a b child parent c d s p =
    let free = free_edge a.graph c d s.free in
    subst IsSoundSoFar (sym s.new) (record {
      unfinished =
          unfinished-with_edge a.graph c d p.unfinished (name_at a.graph child c s.child_is).0
          (name_at a.graph parent d s.parent_is).0
          free.loop free.from_all free.none;
      limits = limits-with_edge a.graph c d p.limits free.few;
      constraints =
          all_within a.graph (with_edge a.graph c d) a.constraints a.nodes
          (within_edge a.graph c d) p.constraints;
    })

-- ---- a constraint

-- what a formula that was read is
pub record IsFormed (v : Version) (before : ℕ) (ts : List Token) (f : Form) : Type 0 where
  pub few : nodes_of v ts ≤ most_nodes
  pub few_in_all : before + nodes_of v ts ≤ most_schema_nodes
  pub formed : IsFormula (atoms_of v) 1 ts f
  pub depth : levels_of f ≤ most_depth

-- a formula whose form has no fault, with its limits
pub formed : (v : Version) (before : ℕ) (ts : List Token) (f : Form) → form_read v before ts ≡ Ok f
    → IsFormed v before ts f
unfolding form_read
formed v before ts f h =
    let many = passed_on _ _ _ _ h in
    let t = given_ok (the_formula (atoms_of v) ts) _ _ f (passed_on _ _ _ _ many.1).1 in
    let u = passed_on (nat_lt most_depth (levels_of t.0)) _ _ f t.2 in
    let same : f ≡ t.0 = ok_is _ _ u.1 in
    record {
      few = few_alone before (nodes_of v ts) many.0;
      few_in_all = few_in_all before (nodes_of v ts) many.0;
      formed = found_is_formula (atoms_of v) ts f (subst (λ x. the_formula (atoms_of v) ts ≡ Some x) (sym same) t.1);
      depth = ltb-false most_depth (levels_of f) (rw same u.0);
    }

-- one constraint more, with its nodes and constants
one_more : (g : Graph) (cs : List Constraint) (nodes : ℕ) (c : Constraint) (more : ℕ) → AreSound g cs nodes
    → IsSoundConstraint g c → length cs < most_constraints → node_count c.formula ≡ more
    → nodes + more ≤ most_schema_nodes → constant_count (all_compared cs c.formula) ≤ most_constants
    → AreSound g (cs ++ c ∷ []) (nodes + more)
one_more g cs nodes c more s sound few count few_nodes few_constants = record {
  each =
      λ k h. elim (Contains-push_cases cs c k h) [ inl d ↦ s.each k d | inr e ↦ subst (IsSoundConstraint g) e sound ];
  few = omega (arith, length_push cs c);
  nodes_are =
      omega (
        arith,
        s.nodes_are,
        sum_by-append (λ k. node_count k.formula) cs (c ∷ []),
        sum_by-cons (λ k. node_count k.formula) c [],
      );
  few_nodes = few_nodes;
  few_constants = subst (λ atoms. constant_count atoms ≤ most_constants) (sym (one_behind compared cs c)) few_constants;
}

-- so with it all is sound
pub constraint_kept : (a b : Above) (v : Version) (name : List ℕ) (ts : List Token) (f : Formula) (root : ℕ)
    → AddsConstraint a b v name ts f root → IsSoundSoFar a → IsSoundSoFar b
constraint_kept a b v name ts f root s p =
    let read = formed v a.nodes ts s.form s.formed in
    let good = resolved_is_sound a.graph root s.form f s.at_root
    (found_are_spelt v read.formed s.fine s.short) in
    let counted = form_nodes v read.formed in
    let sound : IsSoundConstraint a.graph (record { root = root; formula = f }) = record {
      declared = (eqb-false root 0 s.below_all, (name_at a.graph name root s.root_is).0);
      formula = good.valid;
      nodes = omega (arith, good.nodes, counted, read.few);
      depth = rw good.levels read.depth;
      texts = good.texts;
    } in
    subst IsSoundSoFar (sym s.new) (record {
      unfinished = p.unfinished;
      limits = p.limits;
      constraints =
          one_more a.graph a.constraints a.nodes (record { root = root; formula = f })
          (nodes_of v ts) p.constraints sound
          (leb-false most_constraints (length a.constraints) s.few)
          (good.nodes ∙ counted) read.few_in_all
          (ltb-false most_constants (constant_count (all_compared a.constraints f)) s.few_constants);
    })
