-- A question's formula that is read may be handed on.
--     asked_is_question       in the words of the code: it is one of the schema, and keeps the limits
--     asked_has_texts         its constants are UTF-8 without control characters
use Rattle.std.proofs.Common.{◌≡◌, ℕ, false, List, Option, Some, None, Result, Ok, Err, refl, sym, subst, arith}
use Rattle.std.{proofs.lemmas.Bool.ltb-false, specs.Prelude.IfOk}
use Rattle.olap_ast.specs.{Atoms.equalities, Constants.all_compared, Formula.Formula, Schema.Schema, Trees.formula_of}
use Rattle.olap_ast.specs.Valid.{IsQuestion, constant_count}
use Rattle.olap_base.specs.{Graph.IsDeclared, Limits.most_constants, declared.refusals.Refusal.Refusal}
use Rattle.olap_graph.specs.Lookups.{name_of_category}
use Rattle.olap_grammar.specs.{CuttingMachine.tokens_of, Forms.Form, declared.tokens.Token.Token}
use Rattle.olap_schema_text.proofs.{FoundWords.found_are_spelt, ResolvedLemmas.resolved_is_sound}
use Rattle.olap_schema_text.proofs.StepLemmas.{IsRead, form_is_read, goes_on_ok, ok_is, passed_on}
use Rattle.olap_schema_text.proofs.{ValidFormulas.form_nodes, ValidSteps.formed, ValidTexts.line_is_fine}
use Rattle.olap_schema_text.specs.Judging.{formula_read, question_read, has_too_many_constants}
use Rattle.olap_schema_text.specs.{Laws.ReadQuestionsAreValid, Parts.question_cut, Reading.ReadsFormula}
use Rattle.olap_schema_text.specs.{Resolving.resolved, declared.kinds.SchemaKind.SchemaKind}
use Rattle.olap_schema.specs.Readable.{is_bad, AreTexts, IsReadable}
use Rattle.olap_ast.specs.declared.formulas.Formula as built
use Rattle.olap_grammar.specs.declared.tokens.Version.TheVariants as version

module _ (s : Schema) (readable : IsReadable s) (root : ℕ) (declared : IsDeclared s.graph root)
    (text : List ℕ) (clean : is_bad text ≡ false) (f : Formula)
  where
    -- it may be handed on
    abbrev IsGood : Type 0
    IsGood = IsQuestion s root f × AreTexts (equalities f)

    -- the tokens of the line are a formula over words that is resolved to this one
    good : (ts : List Token) → tokens_of version.Two text ≡ Some ts → (form : Form)
        → IsRead version.Two 0 ts form → resolved s.graph root form ≡ Ok f
        → has_too_many_constants s.constraints f ≡ false → IsGood
    good ts e form checked at_root few =
        let read = formed version.Two 0 ts form checked.formed in
        let sound = resolved_is_sound s.graph root form f at_root
        (found_are_spelt version.Two read.formed (line_is_fine version.Two text ts clean e) checked.short) in
        let level = read.depth in (
          record {
            declared = declared;
            formula = sound.valid;
            nodes_fit = omega (arith, sound.nodes, form_nodes version.Two read.formed, read.few);
            depth_fits = rw sound.levels level;
            constants_fit = ltb-false most_constants (constant_count (all_compared s.constraints f)) few;
          },
          sound.texts,
        )

    cut_is_good : (o : Option (List Token)) → tokens_of version.Two text ≡ o → question_cut s root o ≡ Ok f → IsGood
    cut_is_good None e h = absurd (cc)
    cut_is_good (Some ts) e h =
        let name = name_of_category s.graph root in
        let t = goes_on_ok (formula_read version.Two 0 name ts) _ f h in
        let u = goes_on_ok (resolved s.graph root t.0) _ f t.2 in
        let w = passed_on (has_too_many_constants s.constraints u.0) _ _ f u.2 in
        let same : f ≡ u.0 = ok_is _ _ w.1 in
        good ts e t.0 (form_is_read version.Two 0 name ts t.0 t.1)
        (subst (λ x. resolved s.graph root t.0 ≡ Ok x) (sym same) u.1) (rw same w.0)

-- the formula that a text is may be handed on
pub question_is_valid : ReadQuestionsAreValid
unfolding question_read
question_is_valid s root text f readable declared h =
    let t = passed_on _ _ _ _ h in
    cut_is_good s readable root declared text t.0 f (tokens_of version.Two text) refl t.1

-- ---- in the words of the code

module _ (s : Schema) (readable : IsReadable s) (root : ℕ) (declared : IsDeclared s.graph root)
    (text : List ℕ) (clean : is_bad text ≡ false)
  where
    pub asked_is_question : (r : Result built.Formula (Refusal SchemaKind))
        → ReadsFormula r (question_cut s root (tokens_of version.Two text))
        → IfOk r (λ f. IsQuestion s root (formula_of f))
    asked_is_question (Ok f) h =
        (cut_is_good s readable root declared text clean (formula_of f) (tokens_of version.Two text) refl h).0
    asked_is_question (Err e) h = tt

    pub asked_has_texts : (r : Result built.Formula (Refusal SchemaKind))
        → ReadsFormula r (question_cut s root (tokens_of version.Two text))
        → IfOk r (λ f. AreTexts (equalities (formula_of f)))
    asked_has_texts (Ok f) h =
        (cut_is_good s readable root declared text clean (formula_of f) (tokens_of version.Two text) refl h).1
    asked_has_texts (Err e) h = tt
