-- The place stays as it is while tables are made.
use Rattle.std.{proofs.Common.{◌≡◌, subst, sym}, specs.Prelude.IfOk}
use Rattle.olap_proof.{proofs.WithinLemmas.branch_within, specs.Advancing.Advances, specs.Branches.IsBranch}
use Rattle.olap_proof.specs.Places.{Place}
use Rattle.olap_proof.proofs.advancing.advance.Goals as goal

pub prepare-requires : goal.prepare-requires
prepare-requires c =
    branch_within c.args.asked.now.graph.now c.args.asked.now.candidates.now c.args.place.now c.args.choices.now.items
    c.requires.branch

pub take_line-requires-clause-root : goal.take_line-requires-clause-root
take_line-requires-clause-root c =
    subst (λ (p : Place). p.decided.root ≡ c.args.root.0) (sym c.prepare.ensures) c.requires.root

pub take_line-requires-clause-branch : goal.take_line-requires-clause-branch
take_line-requires-clause-branch c =
    let a = c.args.asked.now in
    subst (λ (p : Place). IsBranch a.graph.now a.candidates.now p c.args.choices.now.items) (sym c.prepare.ensures)
    c.requires.branch

pub returns : goal.returns
returns c =
    subst (λ (p : Place). IfOk c.take_line.result (Advances c.args.form c.args.asked.now p c.args.choices.now.items
    c.args.bytes.now c.take_line.new.place c.take_line.new.choices.items)) c.prepare.ensures c.take_line.ensures
