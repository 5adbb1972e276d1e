-- A printed schema is read back.
use Rattle.std.proofs.Common.{◌≡◌, ◌≤◌, ◌+◌, ℕ, zero, suc, Bool, List, [], ◌∷◌, ◌++◌, None, Some, length, map, get_or, refl, append_assoc, append-nil, arith, ap, sym, ◌∙◌, codes, lit≤}
use Rattle.std.{proofs.lemmas.List.Elements.Contains-get_or, specs.Prelude.{Contains, Ok, flat_map, zip}}
use Rattle.olap_base.specs.{Deciding.contains_cons, Graph.{Edge, IsCategory, IsCategoryName}, Limits.most_schema_nodes}
use Rattle.olap_base.specs.Reaching.{is_category_name_is}
use Rattle.olap_graph.specs.Lookups.{name_of_category}
use Rattle.olap_ast.specs.{Atoms.{Equality, equalities}, Schema.{Constraint, Schema}, Valid.IsValidSchema}
use Rattle.olap_schema_text.proofs.BackConstraints.{add_constraint, first_nodes, nodes_in, ruled}
use Rattle.olap_schema_text.proofs.{BackGraph.{add_category, add_edge, growing, stands}, BackLengths.AreShort}
use Rattle.olap_schema_text.proofs.BackLineTokens.{category_plain, category_speaks, category_tokens, constraint_plain, constraint_speaks, constraint_tokens, edge_plain, edge_speaks, edge_tokens, version_plain, version_speaks, version_tokens}
use Rattle.olap_schema_text.proofs.{BackLines.{ArePlain, goes_on, lines_are}, BackPlain.{left_texts, right_texts}}
use Rattle.olap_schema_text.proofs.BackStatements.{category_says, constraint_says, edge_says, kind_tokens, version_says}
use Rattle.olap_schema_text.proofs.{BackTokens.nodes_are, PrintNames.is_name, PrintTokens.spelt, StuckLemmas.none_stuck}
use Rattle.olap_schema_text.specs.Judging.{Above, lines_on, nothing_above, schema_read, statement_read, text_ended}
use Rattle.olap_schema_text.specs.Parts.{tokens_read}
use Rattle.olap_schema_text.specs.Printing.{category_text, constraint_text, edge_text, schema_lines, schema_text, version_text}
use Rattle.olap_schema_text.specs.PrintingLaws.{PrintedIsRead}
use Rattle.olap_schema.specs.Readable.{AreTexts, IsReadable}
use Rattle.olap_grammar.specs.Nodes.{nodes_of}
use Rattle.olap_grammar.specs.declared.tokens.Token.TheVariants as token
use Rattle.olap_grammar.specs.declared.tokens.Mark.TheVariants as mark
use Rattle.olap_grammar.specs.declared.tokens.Version.TheVariants as version

-- the lines after the n-th make what stands above the schema
abbrev pub Ends : Above → ℕ → List (List ℕ) → Schema → Type 0
Ends a n lines s = text_ended (lines_on (Ok a) n lines) ≡ Ok s

-- the constraints of a list have these atoms on names
abbrev pub atoms_in : List Constraint → List Equality
atoms_in cs = flat_map (λ c. equalities c.formula) cs

module _ (s : Schema) (v : IsValidSchema s) where
  short : AreShort s.graph
  short zero l = lit≤ tt
  short (suc c) l = v.names_fit (get_or s.graph.names c []) (Contains-get_or s.graph.names c [] (omega arith))

  -- ---- from the last lines to the first

  constraints_back : (todo done : List Constraint) (n nodes : ℕ) (lines : List ℕ) → done ++ todo ≡ s.constraints
      → nodes + nodes_in todo ≤ most_schema_nodes → AreTexts (atoms_in todo) →
      Ends (ruled s.graph done nodes lines) n (map (constraint_text s.graph) todo) s
  constraints_back [] done n nodes lines e few_nodes t =
      let built : List Constraint → Schema = λ cs. record { graph = s.graph; constraints = cs } in
      rw (none_stuck s.graph v.hierarchy.reaches_all) (ap (λ cs. Ok (built cs)) (sym (append-nil done) ∙ e))
  constraints_back (c ∷ todo) done n nodes lines e few_nodes t =
      let there : Contains s.constraints c = rw e at (stands done c todo) in
      let l = (v.roots c there).1 in
      let at_root = v.formulas c there in
      let name = name_of_category s.graph c.root in
      let ts = spelt s.graph c.root c.formula in
      let above = ruled s.graph done nodes lines in
      let below = ruled s.graph (done ++ c ∷ []) (nodes + nodes_of version.Two ts) lines in
      let read : tokens_read above (n + 1)
      (Some (token.Word (codes "constraint") ∷ token.Word name ∷ token.Mark mark.Colon ∷ ts)) ≡ Ok below =
      ap (statement_read above (n + 1) (Some version.Two))
      (constraint_says name ts (is_name s.graph v.hierarchy c.root l))
      ∙ add_constraint s v short done c todo nodes lines e few_nodes in
      let plain = constraint_plain s.graph v.hierarchy c l at_root
      (left_texts (equalities c.formula) (atoms_in todo) t) in
      let counted = nodes_are s.graph v.hierarchy c.root l c.formula at_root in
      ap text_ended (goes_on above below n (constraint_text s.graph c) _ (map (constraint_text s.graph) todo) plain
      (constraint_speaks s.graph c) (constraint_tokens s.graph v.hierarchy c l at_root) read)
      ∙ constraints_back todo (done ++ c ∷ []) (n + 1) (nodes + nodes_of version.Two ts) lines
      (append_assoc done (c ∷ []) todo ∙ e) (omega (arith, counted, first_nodes c todo, few_nodes))
      (right_texts (equalities c.formula) (atoms_in todo) t)

  edges_back : AreTexts (atoms_in s.constraints) → (todo done : List Edge) (n : ℕ) (lines : List ℕ)
      → done ++ todo ≡ s.graph.edges →
      Ends (growing s.graph.names s.graph.numbers done lines) n
      (map (edge_text s.graph) todo ++ map (constraint_text s.graph) s.constraints) s
  edges_back t [] done n lines e =
      ap (λ es. text_ended (lines_on (Ok (growing s.graph.names s.graph.numbers es lines)) n
      (map (constraint_text s.graph) s.constraints))) (sym (append-nil done) ∙ e)
      ∙ constraints_back s.constraints [] n 0 lines refl (let f = v.all_nodes_fit in omega (arith, f)) t
  edges_back t (x ∷ todo) done n lines e =
      let there : Contains s.graph.edges x = rw e at (stands done x todo) in
      let ends = v.hierarchy.categories x.child x.parent there in
      let child = name_of_category s.graph x.child in
      let parent = name_of_category s.graph x.parent in
      let above = growing s.graph.names s.graph.numbers done lines in
      let below = growing s.graph.names s.graph.numbers (done ++ x ∷ []) lines in
      let read : tokens_read above (n + 1)
      (Some (token.Word (codes "edge") ∷ token.Word child ∷ token.Word parent ∷ [])) ≡ Ok below =
      ap (statement_read above (n + 1) (Some version.Two))
      (edge_says child parent (is_name s.graph v.hierarchy x.child ends.0)
      (is_name s.graph v.hierarchy x.parent ends.1))
      ∙ add_edge s v short done x todo lines e in
      ap text_ended (goes_on above below n (edge_text s.graph x) _
      (map (edge_text s.graph) todo ++ map (constraint_text s.graph) s.constraints)
      (edge_plain s.graph v.hierarchy x ends.0 ends.1) (edge_speaks s.graph x)
      (edge_tokens s.graph v.hierarchy x ends.0 ends.1) read)
      ∙ edges_back t todo (done ++ x ∷ []) (n + 1) lines (append_assoc done (x ∷ []) todo ∙ e)

  -- the lines of the edges and of the constraints
  abbrev other_lines : List (List ℕ)
  other_lines = map (edge_text s.graph) s.graph.edges ++ map (constraint_text s.graph) s.constraints

  categories_back : AreTexts (atoms_in s.constraints) → (todo : List (List ℕ)) (kinds : List Bool)
      (done : List (List ℕ)) (known : List Bool) (n : ℕ) (lines : List ℕ)
      → done ++ todo ≡ s.graph.names → known ++ kinds ≡ s.graph.numbers → length kinds ≡ length todo →
      Ends (growing done known [] lines) n (map category_text (zip todo kinds) ++ other_lines) s
  categories_back t [] [] done known n lines e k l =
      ap (λ names. text_ended (lines_on (Ok (growing names known [] lines)) n other_lines)) (sym (append-nil done) ∙ e)
      ∙ ap (λ numbers. text_ended (lines_on (Ok (growing s.graph.names numbers [] lines)) n other_lines))
      (sym (append-nil known) ∙ k)
      ∙ edges_back t s.graph.edges [] n lines refl
  categories_back t (name ∷ todo) (number ∷ kinds) done known n lines e k l =
      let there : Contains s.graph.names name = rw e at (stands done name todo) in
      let is = (v.hierarchy.names name there).0 in
      let above = growing done known [] lines in
      let below = growing (done ++ name ∷ []) (known ++ number ∷ []) [] (lines ++ (n + 1) ∷ []) in
      let read : tokens_read above (n + 1)
      (Some (token.Word (codes "category") ∷ token.Word name ∷ kind_tokens number)) ≡ Ok below =
      ap (statement_read above (n + 1) (Some version.Two))
      (category_says name number ((is_category_name_is name).1 is))
      ∙ add_category s v (n + 1) done name todo known number lines e in
      ap text_ended (goes_on above below n (category_text (name, number)) _
      (map category_text (zip todo kinds) ++ other_lines)
      (category_plain name number is) (category_speaks name number) (category_tokens name number is) read)
      ∙ categories_back t todo kinds (done ++ name ∷ []) (known ++ number ∷ []) (n + 1) (lines ++ (n + 1) ∷ [])
      (append_assoc done (name ∷ []) todo ∙ e) (append_assoc known (number ∷ []) kinds ∙ k) (omega arith)
  categories_back t todo kinds done known n lines e k l = absurd (omega arith)

  -- ---- all lines are plain

  plain_after : (xs ys : List (List ℕ)) → ArePlain xs → ArePlain ys → ArePlain (xs ++ ys)
  plain_after [] ys p q = q
  plain_after (x ∷ xs) ys p q = (p.0, plain_after xs ys p.1 q)

  plain_names : (names : List (List ℕ)) (kinds : List Bool)
      → ((name : List ℕ) → Contains names name → IsCategoryName name) → ArePlain (map category_text (zip names kinds))
  plain_names (name ∷ names) (number ∷ kinds) f = (
    category_plain name number (f name (0, omega arith, refl)),
    plain_names names kinds (λ x c. f x (contains_cons x names name c)),
  )
  plain_names names kinds f = tt

  plain_edges : (edges : List Edge)
      → ((e : Edge) → Contains edges e → IsCategory s.graph e.child × IsCategory s.graph e.parent)
      → ArePlain (map (edge_text s.graph) edges)
  plain_edges [] f = tt
  plain_edges (e ∷ edges) f =
      let ends = f e (0, omega arith, refl) in
      (edge_plain s.graph v.hierarchy e ends.0 ends.1, plain_edges edges (λ x c. f x (contains_cons x edges e c)))

  plain_constraints : (cs : List Constraint) → ((c : Constraint) → Contains cs c → Contains s.constraints c)
      → AreTexts (atoms_in cs) → ArePlain (map (constraint_text s.graph) cs)
  plain_constraints [] f t = tt
  plain_constraints (c ∷ cs) f t =
      let there = f c (0, omega arith, refl) in (
        constraint_plain s.graph v.hierarchy c (v.roots c there).1 (v.formulas c there)
            (left_texts (equalities c.formula) (atoms_in cs) t),
        plain_constraints cs (λ x k. f x (contains_cons x cs c k)) (right_texts (equalities c.formula) (atoms_in cs) t),
      )

  plain_lines : AreTexts (atoms_in s.constraints) → ArePlain (schema_lines s)
  plain_lines t = (
    version_plain,
    plain_after (map category_text (zip s.graph.names s.graph.numbers)) other_lines
        (plain_names s.graph.names s.graph.numbers (λ name c. (v.hierarchy.names name c).0))
        (plain_after (map (edge_text s.graph) s.graph.edges) (map (constraint_text s.graph) s.constraints)
        (plain_edges s.graph.edges (λ e c. v.hierarchy.categories e.child e.parent c))
        (plain_constraints s.constraints (λ c k. k) t)),
  )

  lines_back : AreTexts (atoms_in s.constraints) → Ends nothing_above 0 (schema_lines s) s
  lines_back t =
      let first : tokens_read nothing_above 1 (Some (token.Word (codes "schema") ∷ token.Word (codes "2") ∷ [])) ≡ Ok
      (growing [] [] [] []) = ap (statement_read nothing_above 1 None) version_says in
      ap text_ended (goes_on nothing_above (growing [] [] [] []) 0 version_text _
      (map category_text (zip s.graph.names s.graph.numbers) ++ other_lines)
      version_plain version_speaks version_tokens first)
      ∙ categories_back t s.graph.names s.graph.numbers [] [] 1 [] refl refl v.hierarchy.kinds_known

-- the canonical text of a schema stands for it
pub printed_is_read : PrintedIsRead
unfolding schema_read
printed_is_read s r =
    ap (λ ls. text_ended (lines_on (Ok nothing_above) 0 ls))
    (lines_are (schema_lines s) (plain_lines s r.valid r.texts))
    ∙ lines_back s r.valid r.texts

-- what is printed is read back
pub read_back : (s : Schema) (text : List ℕ) → text ≡ schema_text s → IsReadable s → schema_read text ≡ Ok s
read_back s text e r = ap schema_read e ∙ printed_is_read s r
