-- The facts of the one piece and the last, or what refuses the text.
use Rattle.std.proofs.{Common.{◌∙◌, [], List, map, ap, sym, subst}, lemmas.Result.err_from_is_err_and}
use Rattle.std.specs.Prelude.{ℕ, Ok, Result}
use Rattle.olap_base.specs.{Refusing.IsRefusedBy, Views.{Fact, IsFactTable}, declared.refusals.Fault.Fault}
use Rattle.olap_facts.proofs.WholeLemmas.{IsListed, last-listed, none-listed, read-by, refused-whole, table-at}
use Rattle.olap_facts.{proofs.reading.read_facts.Goals.{in-Some+in_ok-push, in_default}, specs.Seen.fact_of}
use Rattle.olap_facts.specs.declared.kinds.FactKind.{FactKind}
use Rattle.olap_facts.specs.declared.tables.Fact as told
use Rattle.olap_facts.proofs.reading.read_facts.Goals as goal

pub returns-in_err-take-clause-read : goal.returns-in_err-take-clause-read
returns-in_err-take-clause-read c =
    let f = c.new-feed.ensures in
    let stop = err_from_is_err_and c.from_residual.result c.from_residual.ensures.1 in
    rw (stop.1, stop.2) (refused-whole c.records_are_those_at_the_end.ensures c.args.graph.now c.args.instance.now
    c.new-feed.result f.graph f.instance f.most c.args.text.now c.without_mark.result.now c.without_mark.ensures
    c.in_err-take.field-0.0 (c.in_err-take.ensures.feeds [] [] f.fed))

pub returns-in_err-last-clause-read : goal.returns-in_err-last-clause-read
returns-in_err-last-clause-read c =
    let same = c.in_ok-take.ensures.same in
    let stop = err_from_is_err_and c.from_residual-in_err-last.result c.from_residual-in_err-last.ensures.1 in
    rw (stop.1, stop.2) (subst (λ (t : Result (List (Fact ℕ)) (Fault FactKind)). IsRefusedBy c.in_err-last.field-0.0 t)
    (read-by c.records_are_those_at_the_end.ensures c.args.graph.now c.args.instance.now new (same.graph ∙ f.graph)
    (same.instance ∙ f.instance) (same.most ∙ f.most) c.args.text.now piece c.without_mark.ensures)
    (c.in_err-last.ensures.reads piece (map fact_of c.take.new.batch.items) (c.in_ok-take.ensures.feeds [] [] f.fed)))
  where
    open c use {new-feed.ensures as f, without_mark.result.now as piece, take.new.self as new}

pub returns-clause-read : goal.returns-clause-read
returns-clause-read c =
    let same = c.in_ok-take.ensures.same in
    let table = table-at g i c.new-feed.result f.graph f.instance (map fact_of before) c.in_ok-take.ensures.table in
    let listed : IsListed g i before c.in_ok-last.field-0 c.match-branch-3.facts.items =
    elim c.match-branch-3.branch [
      | in-Some+in_ok-push w ↦
          last-listed g i before table new (same.graph ∙ f.graph) (same.instance ∙ f.instance) w.in-Some.is
          (ap (λ v. v.items) w.facts-is ∙ w.in_ok-push.ensures.items) last.member last.bottom
      | in_default w ↦
          none-listed g i before table c.in_ok-last.field-0 w.in_default.not-Some (ap (λ v. v.items) w.facts-is)
    ] in
    sym (read-by c.records_are_those_at_the_end.ensures g i new (same.graph ∙ f.graph) (same.instance ∙ f.instance)
    (same.most ∙ f.most) c.args.text.now piece c.without_mark.ensures)
    ∙ last.reads piece (map fact_of before) (c.in_ok-take.ensures.feeds [] [] f.fed) ∙ ap Ok (sym listed.all)
    ∙ ap (λ (fs : List told.Fact). Ok (map fact_of fs)) (sym c.from_vec.ensures)
  where
    open c use {
      args.graph.now as g,
      args.instance.now as i,
      new-feed.ensures as f,
      without_mark.result.now as piece,
      take.new.self as new,
      take.new.batch.items as before,
      in_ok-last.ensures as last,
    }

pub returns-clause-table : goal.returns-clause-table
returns-clause-table c =
    let same = c.in_ok-take.ensures.same in
    let table = table-at g i c.new-feed.result f.graph f.instance (map fact_of before) c.in_ok-take.ensures.table in
    let listed : IsListed g i before c.in_ok-last.field-0 c.match-branch-3.facts.items =
    elim c.match-branch-3.branch [
      | in-Some+in_ok-push w ↦
          last-listed g i before table new (same.graph ∙ f.graph) (same.instance ∙ f.instance) w.in-Some.is
          (ap (λ v. v.items) w.facts-is ∙ w.in_ok-push.ensures.items) last.member last.bottom
      | in_default w ↦
          none-listed g i before table c.in_ok-last.field-0 w.in_default.not-Some (ap (λ v. v.items) w.facts-is)
    ] in
    subst (λ (fs : List told.Fact). IsFactTable g i (map fact_of fs)) (sym c.from_vec.ensures) listed.table
  where
    open c use {
      args.graph.now as g,
      args.instance.now as i,
      new-feed.ensures as f,
      take.new.self as new,
      take.new.batch.items as before,
      in_ok-last.ensures as last,
    }
