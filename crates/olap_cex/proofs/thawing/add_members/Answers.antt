-- One more category: a member for it where it is present, and its place.
use Rattle.std.proofs.Common.{◌≡◌, ◌+◌, ◌-◌, [], sym, ◌∙◌, ap, arith}
use Rattle.olap_instance.specs.DraftInside.{number_of}
use Rattle.olap_cex.proofs.PlaceLemmas.{absent, places_more}
use Rattle.olap_cex.proofs.thawing.add_members.Goals.{then-has_member+in_ok-add_member, else-has_member}
use Rattle.olap_cex.specs.{FoundFor.{found_draft, found_edges}, Present.place_or_all}
use Rattle.olap_cex.proofs.thawing.add_members.Goals as goal

pub categories-preserved : goal.categories-preserved
categories-preserved c =
    let place = place_or_all f.frozen.root.0 (found_edges g f) in
    let back : x ≡ x + 1 - 1 = omega arith in
    let both : (m.builder ≡ found_draft g f (x + 1 - 1) []) × (number_of m.place ≡ place x) = elim m.branch [
      | then-has_member+in_ok-add_member w ↦ let added = w.in_ok-add_member.ensures in
          (w.builder-is ∙ added.added ∙ ap (λ n. found_draft g f n []) back, ap number_of w.place-is ∙ added.place)
      | else-has_member w ↦
          let out = rw c.items.ensures at (sym c.has_member.ensures ∙ w.if-has_member.false) in
          let a = absent g f x (omega arith) out in
          (w.builder-is ∙ inv.drafted ∙ a.0, ap number_of w.place-is ∙ a.1)
    ] in
    record {
      drafted = both.0;
      count = omega (arith, c.in_ok-push-2.ensures.len);
      places = places_more c.categories.places.items c.push-in-categories.new.self.items m.place x place
          c.in_ok-push-2.ensures.items inv.count inv.places both.1;
    }
  where
    open c use {args.graph.now as g, args.found.now as f, categories.c as x, categories.invariant as inv}
    open c use {if-has_member as m}
