use Rattle.std.proofs.Common.{◌++◌, ◌∷◌, [], false, true, refl, sym, ap, ◌∙◌, arith}
use Rattle.olap_base.{proofs.RefusingLemmas.for_memory, specs.Limits.most_categories}
use Rattle.olap_graph.proofs.GrowthLemmas.{built_category, built_kind, built_length, nothing}
use Rattle.olap_graph.proofs.RefusalLemmas.{at_refusal, category_reason_is, found, has_room, no_value}
use Rattle.olap_graph.specs.{Listing.graph_of, Lookups.category_named}
use Rattle.olap_graph.proofs.building.GraphBuilder.add_kind.Goals as goal

pub invariant_of-self-2 : goal.invariant_of-self-2
invariant_of-self-2 c =
    let n = built_length t is in
    let place = c.category.ensures.place ∙ ap (category_named c.args.self.now) c.bytes.ensures in
    built_kind t is c.args.number c.args.name c.push.new.self c.push-2.new.self c.in_ok-push.ensures.items
    (c.in_ok-push-2.ensures.items ∙ ap (λ t. t ++ c.args.number ∷ []) c.reserve.ensures.items) (omega arith)
    c.requires.name c.requires.short
    (nothing (λ k. k.0) c.category.result _ place (sym c.is_some.ensures ∙ c.if-is_some.false))
  where
    open c use {self.invariant as t, self.view_is as is}

pub returns-then-is_some : goal.returns-then-is_some
returns-then-is_some c =
    let place = c.category.ensures.place ∙ ap (category_named c.args.self.now) c.bytes.ensures in
    record {
      ok = tt;
      number = tt;
      added = tt;
      err = category_reason_is c.args.self.now c.args.name true _
          (found (λ k. k.0) c.category.result place c.if-is_some.ensures) refl;
      same = refl;
    }

pub returns-in_err-reserve : goal.returns-in_err-reserve
returns-in_err-reserve c =
    record {
      ok = no_value r _ refused.0;
      number = no_value r _ refused.0;
      added = no_value r _ refused.0;
      err = for_memory r _ refused.1;
      same = at_refusal r
          (ap (λ ks. graph_of a.names.items ks a.edges.items) c.reserve.ensures.items ∙ c.self.view_is);
    }
  where
    open c use {self.inside as a, from_residual.result as r, from_residual.ensures as refused}

pub returns-in_err-push : goal.returns-in_err-push
returns-in_err-push c =
    record {
      ok = no_value r _ refused.0;
      number = no_value r _ refused.0;
      added = no_value r _ refused.0;
      err = for_memory r _ refused.1;
      same = at_refusal r (rw (c.in_err-push.ensures.items, c.reserve.ensures.items) c.self.view_is);
    }
  where
    open c use {from_residual-in_err-push.result as r, from_residual-in_err-push.ensures as refused}

pub returns : goal.returns
returns c =
    let place = c.category.ensures.place ∙ ap (category_named c.args.self.now) c.bytes.ensures in
    let count = c.len.ensures ∙ c.self.inside.names.ok.0 ∙ built_length c.self.invariant c.self.view_is in
    record {
      ok = category_reason_is c.args.self.now c.args.name false false
          (found (λ k. k.0) c.category.result place c.if-is_some.ensures)
          (has_room most_categories c.len.result _ (omega arith) count);
      number = c.len-2.ensures ∙ sym c.len.ensures ∙ count;
      added = built_category c.self.invariant c.self.view_is c.args.number c.args.name c.in_ok-push.ensures.items
          (c.in_ok-push-2.ensures.items ∙ ap (λ t. t ++ c.args.number ∷ []) c.reserve.ensures.items);
      err = tt;
      same = tt;
    }
