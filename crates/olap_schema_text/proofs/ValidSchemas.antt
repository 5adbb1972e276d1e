-- A schema that is read is valid, and its constants are text.
use Rattle.std.proofs.Common.{◌≡◌, ℕ, zero, suc, Bool, true, false, not, cond, List, [], ◌∷◌, Option, Some, None, Ok, Err, length, refl, sym, arith, subst, inl, inr}
use Rattle.std.{proofs.lemmas.Bool.not-false, specs.List.range_with_len}
use Rattle.std.specs.Prelude.{Contains, find, flat_map, is_some, codes}
use Rattle.olap_ast.specs.{Atoms.equalities, Valid.IsValidSchema}
use Rattle.olap_base.proofs.{GeneralLemmas.none_past, ListLemmas.{Contains-nil, Contains-range_at}}
use Rattle.olap_base.specs.{Deciding.contains_cases, Graph.{CategoryReaches, Graph, IsCategory}}
use Rattle.olap_base.specs.Reaching.{category_reaches, category_reaches_is}
use Rattle.olap_schema_text.proofs.StepLemmas.{Step, Step.quiet, Step.version, Step.category, Step.edge, Step.constraint, all_steps, ok_is}
use Rattle.olap_schema_text.proofs.ValidSteps.{IsSoundSoFar, category_kept, constraint_kept, edge_kept}
use Rattle.olap_schema_text.proofs.ValidTexts.{all_texts}
use Rattle.olap_schema_text.specs.Judging.{Above, first_stuck, lines_on, nothing_above, schema_read, whole, Read, text_ended}
use Rattle.olap_schema_text.specs.{Laws.{GivesReadable, ReadSchemasAreReadable, ReadSchemasAreValid}, Lines.lines_of}
use Rattle.olap_schema.specs.Readable.{AreTexts, IsReadable}

-- ---- all lines

-- a line without a fault keeps it
sound_kept : (a b : Above) → Step a b → IsSoundSoFar a → IsSoundSoFar b
sound_kept a b (quiet e) p = subst IsSoundSoFar (sym e) p
sound_kept a b (version v e) p =
    subst IsSoundSoFar (sym e) (record { unfinished = p.unfinished; limits = p.limits; constraints = p.constraints })
sound_kept a b (category n name number h s) p = category_kept a b n name number h s p
sound_kept a b (edge child parent c d s) p = edge_kept a b child parent c d s p
sound_kept a b (constraint v name ts f root s) p = constraint_kept a b v name ts f root s p

-- before the first line all is sound
nothing_sound : IsSoundSoFar nothing_above
nothing_sound = record {
  unfinished = record {
    names_differ = λ j k d h l. absurd (omega arith);
    kinds_known = refl;
    names = λ name c. absurd (Contains-nil name c);
    categories = λ c d h. absurd (Contains-nil (record { child = c; parent = d }) h);
    edges_differ = λ j k d h l. absurd (omega arith);
    no_loop = λ c d h. absurd (Contains-nil (record { child = c; parent = d }) h);
    none_from_all = λ d h. Contains-nil (record { child = 0; parent = d }) h;
  };
  limits = record { few = omega arith; few_edges = omega arith; short_names = λ name c. absurd (Contains-nil name c) };
  constraints = record {
    each = λ c h. absurd (Contains-nil c h);
    few = omega arith;
    nodes_are = refl;
    few_nodes = omega arith;
    few_constants = omega arith;
  };
}

-- ---- the whole

-- where nothing is found, each fails
not_found : (p : ℕ → Bool) (xs : List ℕ) (x : ℕ) → find p xs ≡ None → Contains xs x → p x ≡ false
not_found p [] x h c = absurd (Contains-nil x c)
not_found p (y ∷ ys) x h c =
    let t = none_past (p y) y (find p ys) h in
    elim (contains_cases x y ys c) [ inl e ↦ subst (λ z. p z ≡ false) e t.0 | inr d ↦ not_found p ys x t.1 d ]

-- where none is stuck, each category reaches `All`
all_reach : (g : Graph) → first_stuck g ≡ None → (c : ℕ) → IsCategory g c → CategoryReaches g c 0
all_reach g h zero l = inl refl
all_reach g h (suc c) l =
    let listed = Contains-range_at 1 (length g.names) (suc c) (omega arith) (omega arith) in
    let reached = not_found (λ d. not (category_reaches g d 0)) (range_with_len 1 (length g.names)) (suc c) h listed in
    (category_reaches_is g (suc c) 0).0 (not-false (category_reaches g (suc c) 0) reached)

-- after the last, if each category reaches `All`, it is a readable schema
whole_is_readable : (a : Above) → IsSoundSoFar a → GivesReadable (whole a (first_stuck a.graph))
whole_is_readable a p s h = go (first_stuck a.graph) refl h
  where
    valid : (k : first_stuck a.graph ≡ None) → IsValidSchema (record { graph = a.graph; constraints = a.constraints })
    valid k = record {
      hierarchy = record {
        names_differ = p.unfinished.names_differ;
        kinds_known = p.unfinished.kinds_known;
        names = p.unfinished.names;
        categories = p.unfinished.categories;
        edges_differ = p.unfinished.edges_differ;
        no_loop = p.unfinished.no_loop;
        none_from_all = p.unfinished.none_from_all;
        reaches_all = all_reach a.graph k;
      };
      roots = λ c h. (p.constraints.each c h).declared;
      formulas = λ c h. (p.constraints.each c h).formula;
      categories_fit = p.limits.few;
      names_fit = p.limits.short_names;
      edges_fit = p.limits.few_edges;
      constraints_fit = p.constraints.few;
      nodes_fit = λ c h. (p.constraints.each c h).nodes;
      all_nodes_fit = rw p.constraints.nodes_are p.constraints.few_nodes;
      depth_fits = λ c h. (p.constraints.each c h).depth;
      constants_fit = p.constraints.few_constants;
    }

    texts : AreTexts (flat_map (λ c. equalities c.formula) a.constraints)
    texts = all_texts a.constraints (λ c h. (p.constraints.each c h).texts)

    go : (o : Option ℕ) → first_stuck a.graph ≡ o → whole a o ≡ Ok s → IsReadable s
    go None k q = subst IsReadable (sym (ok_is _ _ q)) (record { valid = valid k; texts = texts })
    go (Some c) k q = absurd (cc)

-- whatever the lines came to
ended_is_readable : (r : Read) → ((a : Above) → r ≡ Ok a → IsSoundSoFar a) → GivesReadable (text_ended r)
ended_is_readable (Err e) p s h = absurd (cc)
ended_is_readable (Ok a) p s h = go (is_some a.version) h
  where
    go : (b : Bool) → cond b (whole a (first_stuck a.graph)) (Err (record { at = 1; kind = codes "BadForm" })) ≡ Ok s
        → IsReadable s
    go true q = whole_is_readable a (p a refl) s q
    go false q = absurd (cc)

-- the theorem, line after line
pub read_is_readable : ReadSchemasAreReadable
unfolding schema_read
read_is_readable text =
    ended_is_readable (lines_on (Ok nothing_above) 0 (lines_of text))
    (λ a e. all_steps IsSoundSoFar sound_kept nothing_above a 0 (lines_of text) e nothing_sound)

-- and so it is valid
pub read_is_valid : ReadSchemasAreValid
read_is_valid text s e = (read_is_readable text s e).valid

-- ---- in the words of the code

-- where all lines were read, the first of them the version, what they say is valid
pub rest_is_readable : (r : Read) (a : Above) → r ≡ Ok a → is_some a.version ≡ true → GivesReadable (text_ended r)
    → GivesReadable (whole a (first_stuck a.graph))
rest_is_readable r a e v p =
    let known : GivesReadable (text_ended (Ok a)) = subst (λ x. GivesReadable (text_ended x)) e p in
    go (is_some a.version) v known
  where
    go : (b : Bool) → b ≡ true
        → GivesReadable (cond b (whole a (first_stuck a.graph)) (Err (record { at = 1; kind = codes "BadForm" })))
        → GivesReadable (whole a (first_stuck a.graph))
    go true q k = k
    go false q k = absurd (cc)

-- the same, for the reader's first state
pub start_is_readable : (a : Above) (text : List ℕ) → a ≡ nothing_above
    → GivesReadable (text_ended (lines_on (Ok a) 0 (lines_of text)))
unfolding schema_read
start_is_readable a text e =
    subst (λ x. GivesReadable (text_ended (lines_on (Ok x) 0 (lines_of text)))) (sym e) (read_is_readable text)
