use Rattle.std.proofs.{Common.{◌≡◌, ◌∙◌, List, codes, true, false, true≢false, ap, subst, sym}, lemmas.List.length-map}
use Rattle.std.specs.Prelude.{◌==◌, All}
use Rattle.olap_ast.specs.Trees.{numbers_of}
use Rattle.olap_base.specs.{Graph.{Graph, IsCategory}, declared.ids.CatId.CatId}
use Rattle.olap_order.proofs.Replying.{refusing}
use Rattle.olap_schema.specs.Schemas.{schema_of}
use Rattle.olap_reasoning.proofs.NeedsLemmas.{as_many, emptied_are_categories, emptied_text, lines_of, needs_emptied, needs_listed}
use Rattle.olap_reasoning.specs.Questions.{ByNeeds}
use Rattle.olap_reasoning.proofs.needing.told.Goals as goal

pub emptied_lines-requires : goal.emptied_lines-requires
emptied_lines-requires c =
    let s = schema_of c.args.schema.now in
    let needs = c.args.needs.now in
    let all = emptied_are_categories s c.args.target.0 (numbers_of c.args.sources.now) needs c.requires in
    subst (λ (xs : List CatId). All (λ d. IsCategory c.graph-2.result.now d.0) xs) (sym c.deref-2.ensures.value)
    (subst (λ (g : Graph). All (λ d. IsCategory g d.0) needs.emptied.items) (sym c.graph-2.ensures) all)

pub returns-then-not-has_room : goal.returns-then-not-has_room
returns-then-not-has_room c =
    let s = schema_of c.args.schema.now in
    let sources = numbers_of c.args.sources.now in
    let so = length-map c.args.sources.now (λ (d : CatId). d.0) in
    let many = as_many s t sources needs c.requires ∙ sym needs.constraints.ok.0 ∙ sym c.len.ensures in
    let room = c.has_room.ensures t sources bottoms so many in
    record {
      replies = refusing (ByNeeds s t sources) (codes "needs TooMany")
          (λ bytes is. (
            (bottoms, c.requires.are, λ r. true≢false (sym (room.1 r) ∙ c.if-not-has_room.true)),
            is,
          )) c.refuse.result c.refuse.ensures.refused;
    }
  where
    open c use {args.target.0 as t, args.needs.now as needs, requires.bottoms}

pub returns-then-is_empty : goal.returns-then-is_empty
returns-then-is_empty c =
    let s = schema_of c.args.schema.now in
    let sources = numbers_of c.args.sources.now in
    let so = length-map c.args.sources.now (λ (d : CatId). d.0) in
    let many = as_many s t sources needs c.requires ∙ sym needs.constraints.ok.0 ∙ sym c.len.ensures in
    let room = (c.has_room.ensures t sources c.requires.bottoms so many).0 c.if-not-has_room.false in
    record {
      replies = needs_listed s t sources needs c.requires room
          (subst (λ n. (n == 0) ≡ true) needs.emptied.ok.0 (sym c.is_empty.ensures ∙ c.if-is_empty.true)) c.yes.result
          c.yes.ensures.status
          (c.yes.ensures.bytes ∙ c.into_bytes.ensures ∙ c.in_ok-lines.ensures
          ∙ ap (λ (g : Graph). lines_of g c.deref.result.now) c.graph.ensures
          ∙ ap (lines_of s.graph) c.deref.ensures.value);
    }
  where
    open c use {args.target.0 as t, args.needs.now as needs}

pub returns : goal.returns
returns c =
    let s = schema_of c.args.schema.now in
    let sources = numbers_of c.args.sources.now in
    let so = length-map c.args.sources.now (λ (d : CatId). d.0) in
    let many = as_many s t sources needs c.requires ∙ sym needs.constraints.ok.0 ∙ sym c.len.ensures in
    let room = (c.has_room.ensures t sources c.requires.bottoms so many).0 c.if-not-has_room.false in
    record {
      replies = needs_emptied s t sources needs c.requires room
          (subst (λ n. (n == 0) ≡ false) needs.emptied.ok.0 (sym c.is_empty.ensures ∙ c.if-is_empty.false)) c.no.result
          c.no.ensures.status
          (c.no.ensures.bytes ∙ c.in_ok-text.ensures
          ∙ ap (λ (g : Graph). emptied_text g c.deref-2.result.now) c.graph-2.ensures
          ∙ ap (emptied_text s.graph) c.deref-2.ensures.value);
    }
  where
    open c use {args.target.0 as t, args.needs.now as needs}
