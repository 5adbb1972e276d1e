-- What is listed is all that was found.
use Rattle.std.proofs.Common.{◌≡◌, ◌≤◌, ◌++◌, Err, List, length, map, codes, decimal, ap, sym, subst, ◌∙◌}
use Rattle.std.{proofs.lemmas.List.length-map, specs.Prelude.{All, IfErr, IfOk, flat_map}}
use Rattle.olap_ast.specs.Formula.{Formula.Truth}
use Rattle.olap_base.specs.{Graph.Graph, Limits.most_frozen, Refusing.IsFor, declared.refusals.Refusal.Refusal}
use Rattle.olap_cex.specs.FrozenText.{frozen_text}
use Rattle.olap_dimsat.specs.{Listed.{AreAllFrozen, AreMoreThan}, declared.searching.TooMany.TooMany}
use Rattle.olap_frozen.specs.{LeastFound.frozen_of, Leaves.IsSized, declared.frozen.Frozen.Frozen}
use Rattle.olap_names.specs.Names.{candidates_of}
use Rattle.olap_schema.specs.Schemas.{schema_of}
use Rattle.olap_order.{proofs.Replying.refusing, specs.Outputs.line}
use Rattle.olap_reasoning.{proofs.ListingLemmas.frozen_listed, specs.Questions.ByFrozen}
use Rattle.olap_base.specs.declared.refusals.Refusal.TheVariants as refusal
use Rattle.olap_reasoning.proofs.listing.told.Goals as goal

pub listed-requires-clause-sized : goal.listed-requires-clause-sized
listed-requires-clause-sized c =
    let s = schema_of c.args.schema.now in
    let names = c.args.candidates.now in
    let sized = subst (λ o. IfOk o (λ fs. All (λ f. IsSized s.graph names f.edges f.names) fs)) c.in-Ok.is
    c.requires.sized in
    subst (λ (fs : List Frozen). All (λ f. IsSized c.graph.result.now names f.edges f.names) fs)
    (sym c.items.ensures)
    (subst (λ (g : Graph). All (λ f. IsSized g names f.edges f.names) c.in-Ok.all) (sym c.graph.ensures) sized)

pub returns-in_ok-text-in-Ok : goal.returns-in_ok-text-in-Ok
returns-in_ok-text-in-Ok c =
    let s = schema_of c.args.schema.now in
    let k = candidates_of c.args.candidates.now in
    let all = subst (λ o. IfOk o (λ fs. AreAllFrozen s Truth r k (map frozen_of fs))) c.in-Ok.is c.requires.all in
    let short = subst (λ o. IfOk o (λ fs. length fs ≤ most_frozen)) c.in-Ok.is c.requires.few in
    let few = subst (λ n. n ≤ most_frozen) (sym (length-map found frozen_of)) short in
    let counted = ap (λ n. flat_map (frozen_text s.graph k r) (map frozen_of found) ++ line
    (codes "count " ++ decimal n))
    (sym (length-map found frozen_of)) in
    record {
      replies = frozen_listed s r k (map frozen_of found) all few c.yes.result c.yes.ensures.status
          (c.yes.ensures.bytes ∙ c.in_ok-text-in-Ok.ensures
          ∙ (λ i. flat_map (frozen_text (c.graph.ensures i) k r) (map frozen_of (c.items.ensures i))
          ++ line (codes "count " ++ decimal (length (c.items.ensures i))))
          ∙ counted);
    }
  where
    open c use {args.root.0 as r, in-Ok.all as found}

pub returns-in-Err-Kind : goal.returns-in-Err-Kind
returns-in-Err-Kind c =
    let s = schema_of c.args.schema.now in
    let k = candidates_of c.args.candidates.now in
    let e = c.in-Err-Kind in
    let is : c.args.all ≡ Err e.field-0 = e.is in
    let kind : e.field-0 ≡ refusal.Kind e.field-0-0 = rw is at e.field-0-is in
    let many = subst (λ (x : Refusal TooMany). IsFor (λ t. AreMoreThan most_frozen s Truth c.args.root.0 k) x) kind
    (subst (λ o. IfErr o (IsFor (λ t. AreMoreThan most_frozen s Truth c.args.root.0 k))) is c.requires.too_many) in
    record {
      replies = refusing (ByFrozen s c.args.root.0) (codes "frozen TooMany")
          (λ bytes is. ((k, many), is)) c.refuse.result c.refuse.ensures.refused;
    }
