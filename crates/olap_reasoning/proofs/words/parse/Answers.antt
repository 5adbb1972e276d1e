-- The name is one of those of the family, and the words after it one by one are those by their numbers.
use Rattle.std.proofs.Common.{ap, sym, ◌∙◌}
use Rattle.olap_order.{proofs.BehindLemmas.{one_is, three_is, two_is, two_or_more_is}, specs.Words.texts}
use Rattle.olap_proof.specs.declared.forms.Form.TheVariants.{Long, Short}
use Rattle.olap_reasoning.specs.Commands.{audit_order, category_order, format_order, implies_order, order_named, sources_order}
use Rattle.olap_reasoning.specs.Questions.{ByFrozen, ByNeeds, ByProof, BySatisfiable, ByShapes, BySummarizable}
use Rattle.olap_reasoning.proofs.words.parse.Goals as goal

pub returns-in-format : goal.returns-in-format
returns-in-format c =
    let words = texts c.args.words.now in
    c.format.ensures ∙ one_is format_order words ∙ ap (λ n. order_named n words) (sym c.in-format.is)

pub returns-in-satisfiable : goal.returns-in-satisfiable
returns-in-satisfiable c =
    let words = texts c.args.words.now in
    c.satisfiable.ensures ∙ two_is (category_order BySatisfiable) words
    ∙ ap (λ n. order_named n words) (sym c.in-satisfiable.is)

pub returns-in-implies : goal.returns-in-implies
returns-in-implies c =
    let words = texts c.args.words.now in
    c.implies.ensures ∙ three_is implies_order words ∙ ap (λ n. order_named n words) (sym c.in-implies.is)

pub returns-in-summarizable : goal.returns-in-summarizable
returns-in-summarizable c =
    let words = texts c.args.words.now in
    c.summarizable.ensures ∙ two_or_more_is (sources_order BySummarizable) words
    ∙ ap (λ n. order_named n words) (sym c.in-summarizable.is)

pub returns-in-prove : goal.returns-in-prove
returns-in-prove c =
    let words = texts c.args.words.now in
    c.summarizable-in-prove.ensures ∙ two_or_more_is (sources_order (ByProof Long)) words
    ∙ ap (λ n. order_named n words) (sym c.in-prove.is)

pub returns-in-text : goal.returns-in-text
returns-in-text c =
    let words = texts c.args.words.now in
    c.summarizable-in-text.ensures ∙ two_or_more_is (sources_order (ByProof Short)) words
    ∙ ap (λ n. order_named n words) (sym c.in-text.is)

pub returns-in-needs : goal.returns-in-needs
returns-in-needs c =
    let words = texts c.args.words.now in
    c.needs.ensures ∙ two_or_more_is (sources_order ByNeeds) words ∙ ap (λ n. order_named n words) (sym c.in-needs.is)

pub returns-in-frozen : goal.returns-in-frozen
returns-in-frozen c =
    let words = texts c.args.words.now in
    c.frozen.ensures ∙ two_is (category_order ByFrozen) words ∙ ap (λ n. order_named n words) (sym c.in-frozen.is)

pub returns-in-shapes : goal.returns-in-shapes
returns-in-shapes c =
    let words = texts c.args.words.now in
    c.shapes.ensures ∙ two_is (category_order ByShapes) words ∙ ap (λ n. order_named n words) (sym c.in-shapes.is)

pub returns-in-audit : goal.returns-in-audit
returns-in-audit c =
    let words = texts c.args.words.now in
    c.audit.ensures ∙ one_is audit_order words ∙ ap (λ n. order_named n words) (sym c.in-audit.is)
