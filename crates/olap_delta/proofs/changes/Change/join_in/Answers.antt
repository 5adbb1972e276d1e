-- One lot more.
use Rattle.std.proofs.{Common.{ℕ, List, get_or, take, sym, subst, ◌∙◌, pos}, lemmas.List.{get_or_default, take_more}}
use Rattle.std.{proofs.lemmas.List.Elements.All-push, specs.Prelude.All}
use Rattle.olap_base.specs.{Instance.Instance, Reaching.reaches}
use Rattle.olap_view.specs.{Seen.summary_of, Tables.when}
use Rattle.olap_delta.{proofs.JoinedTableLemmas.joined_next, specs.Joining.{IsJoinedIn, IsOnce}}
use Rattle.olap_delta.specs.declared.lots.Lot.{Lot}
use Rattle.olap_delta.proofs.changes.Change.join_in.Goals as goal

-- what lots have past their end
nobody : Lot
nobody = record {
  member = record { 0 = 0 };
  summary = record { count = 0; sum = pos 0; least = pos 0; greatest = pos 0 };
}

pub lots-preserved : goal.lots-preserved
unfolding nobody
lots-preserved c =
    let d = get_or old.categories c.args.k 0 in
    let lot = get_or lots k nobody in
    record {
      instance = e.instance ∙ inv.instance;
      categories = e.categories ∙ inv.categories;
      storable = e.storable;
      once = subst (All (λ (l : Lot). IsOnce old.instance d l.member.0)) (sym (take_more lots k nobody h))
          (All-push (λ (l : Lot). IsOnce old.instance d l.member.0) (take k lots) lot inv.once
          (subst (λ (i : Instance). IsOnce i d lot.member.0) inv.instance
          (subst (λ (cs : List ℕ). IsOnce now.instance (get_or cs c.args.k 0) lot.member.0) inv.categories
          (e.once was))));
      joined = joined_next c.args.self d old now lots k lot c.join.new.table h (get_or_default lots k nobody lot h)
          inv.instance inv.categories inv.joined
          (subst (λ (cs : List ℕ). IsJoinedIn c.args.self (get_or cs c.args.k 0)
          (λ y. when (reaches now.instance lot.member.0 y) (summary_of lot.summary)) now c.join.new.table)
          inv.categories (e.joined was));
    }
  where
    open c use {
      args.table.now as old,
      args.lots.now as lots,
      lots.table as now,
      lots.invariant as inv,
      lots.lot-index as k,
      lots-test.true as h,
      join.ensures as e,
      if-not-join.false as was,
    }
