-- The member that x reaches has its own place, and no other changes.
use Rattle.std.proofs.Common.{◌≡◌, ◌<◌, length, get_or, set, ap, sym, subst, ◌∙◌, refl, arith, rules, None, Some, IsNone}
use Rattle.std.{proofs.lemmas.List.get_or_default, specs.Option.option_map, specs.Prelude.Contains}
use Rattle.olap_base.{proofs.GeneralLemmas.none_from_never, specs.Instance.ReachesCategory, specs.Summaries.◌⊕◌}
use Rattle.olap_legal.specs.Ancestors.{IsAncestor}
use Rattle.olap_view.{proofs.TableLemmas.{joined_none, joined_some}, specs.Columns.Ascent, specs.Seen.summary_of}
use Rattle.olap_view.specs.Tables.{IsAmong, categories_of, place_in}
use Rattle.olap_view.proofs.tables.Table.join_in.Goals as goal

pub ancestor-requires : goal.ancestor-requires
ancestor-requires c = subst (λ (w : Ascent). c.args.x.0 < length w.instance) (sym c.requires.column) c.requires.member

pub returns-in-Some : goal.returns-in-Some
returns-in-Some c =
    let s = summary_of c.args.summary in
    let a = subst (λ (w : Ascent). IsAncestor w.instance c.args.x.0 w.category y) c.requires.column
    c.in-Some.ensures.some in
    let among : IsAmong i (categories_of t) y = record {
      member = a.is_member.0;
      category = subst (Contains (categories_of t)) (sym a.is_member.1) c.requires.among;
    } in
    let inside : c.in-Some.y.0 < length c.args.self.now.places.items =
    let m = a.is_member.0 in let e = c.requires.places.size in omega arith in
    let place : c.index.result.now ≡ place_in t y = c.index.ensures
    ∙ get_or_default t.places.items y c.index.result.now 0 inside in
    let at : place_in t y < length t.summaries.items = c.requires.places.inside y among in
    let there : c.index-in-Some.result.now ≡ get_or t.summaries.items (place_in t y) None =
    c.index-in-Some.ensures
    ∙ ap (λ k. get_or t.summaries.items k c.index-in-Some.result.now) place
    ∙ get_or_default t.summaries.items (place_in t y) c.index-in-Some.result.now None at in
    joined_some i c.args.c.0 c.args.x.0 s t c.requires.places c.requires.among y (Some c.beside.result)
    _ a refl refl (ap (λ k. set t.summaries.items k (Some c.beside.result)) place)
    (c.beside.ensures ∙ ap (λ o. option_map summary_of o ⊕ Some s) there)
  where
    open c use {args.legal.now as i, args.self.now as t, in-Some.y.0 as y}

pub returns-in_default : goal.returns-in_default
returns-in_default c =
    let n : c.ancestor.result ≡ None = none_from_never c.ancestor.result c.in_default.not-Some in
    let none : IsNone c.ancestor.result = rw n (search rules) in
    joined_none c.args.legal.now c.args.c.0 c.args.x.0 (summary_of c.args.summary) c.args.self.now c.requires.places
    c.requires.among
    (subst (λ (w : Ascent). ReachesCategory w.instance c.args.x.0 w.category → ⊥) c.requires.column
    (c.ancestor.ensures.none none))
