use Rattle.std.proofs.Common.{◌≡◌, ◌++◌, ◌∷◌, List, ℕ, Bor, None, Some, map, subst, refl, sym}
use Rattle.std.specs.{Option.option_map, Prelude.{IfSome, IsNone, Option}}
use Rattle.olap_ast.specs.Trees.{constraint_of}
use Rattle.olap_names.specs.Names.{with_graph}
use Rattle.olap_proof.{proofs.ReadingLemmas.{cut_joined, line_read, word_unread}, specs.Reading.word_text}
use Rattle.olap_proof.specs.declared.lines.Word.{Word}
use Rattle.olap_proof.proofs.lines.line_of.Goals as goal

pub returns-in-Some-Some : goal.returns-in-Some-Some
returns-in-Some-Some c =
    let w = c.cut.result.0.now in
    let P : Option (Bor (List ℕ)) → Type 0 = λ o. IfSome o (λ r. c.args.bytes.now ≡ w ++ 32 ∷ r.now) in
    line_read (with_graph c.args.graph.now (map constraint_of c.args.constraints.now)) c.args.bytes.now w
    (Some c.in-Some-Some.rest.now) c.in-Some-Some.word c.line_with_rest.result c.cut.ensures.first
    (sym (subst P c.in-Some-Some.is-1 c.cut.ensures.some)) c.in-Some-Some.ensures.some c.line_with_rest.ensures

pub returns-in-Some-None : goal.returns-in-Some-None
returns-in-Some-None c =
    let s = with_graph c.args.graph.now (map constraint_of c.args.constraints.now) in
    let P : Option (Bor (List ℕ)) → Type 0 = λ o. IsNone o → c.cut.result.0.now ≡ c.args.bytes.now in
    line_read s c.args.bytes.now c.cut.result.0.now None c.in-Some-None.word c.alone.result c.cut.ensures.first
    (subst P c.in-Some-None.is-1 c.cut.ensures.none refl) c.in-Some-None.ensures.some (c.alone.ensures s)

pub returns-in-None-default : goal.returns-in-None-default
returns-in-None-default c =
    let w = c.cut.result.0.now in
    let Q : Option Word → Type 0 = λ o. IsNone o → (x : Word) → word_text x ≡ w → ⊥ in
    word_unread (with_graph c.args.graph.now (map constraint_of c.args.constraints.now)) c.args.bytes.now w
    (option_map (λ (r : Bor (List ℕ)). r.now) c.cut.result.1) c.cut.ensures.first
    (cut_joined c.args.bytes.now w c.cut.result.1 c.cut.ensures.some c.cut.ensures.none)
    (subst Q c.in-None-default.is-0 c.word_of.ensures.none refl)
