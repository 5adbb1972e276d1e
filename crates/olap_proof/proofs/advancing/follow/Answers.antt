use Rattle.std.proofs.Common.{List, [], refl, subst}
use Rattle.olap_proof.{proofs.BranchLemmas.branch_split, specs.Advancing.StepsAt}
use Rattle.olap_proof.specs.{Asking.{names_in, question_in, schema_in}, Branches.GoesOn, Certificates.Open}
use Rattle.olap_proof.specs.{Doing.leaves_open, Reading.meaning}
use Rattle.olap_proof.proofs.advancing.follow.Goals as goal

pub returns-in-Some : goal.returns-in-Some
returns-in-Some c = λ bytes d.
    let cases = leaves_open (names_in a) p (meaning c.args.line) in
    let legal = c.in-Some.ensures.legal c.args.form (schema_in a) (question_in a) k p d.about d.does in
    let split = branch_split c.in-Some.first c.requires.branch legal c.in_ok-choose.ensures.place
    c.in_ok-choose.ensures.choices (c.in-Some.ensures.some k p) in
    (split.branch, split.first, λ acc. (cases, d.step, split.left acc))
  where
    open c use {args.asked.now as a, args.asked.now.candidates.now as k, args.place.now as p}

pub returns-then-branch : goal.returns-then-branch
returns-then-branch c = λ bytes d.
    let on = subst (λ b. GoesOn a.graph.now a.candidates.now p c.args.choices.now.items c.go_on.new.place
    c.go_on.new.choices.items b) c.if-branch.true c.in_ok-go_on.ensures in
    let step = subst (λ (os : List Open). StepsAt c.args.form a p bytes os)
    (c.in_default.ensures.none refl a.candidates.now p) d.step in
    (on.0, on.1, λ acc. ([], step, on.2 acc))
  where
    open c use {args.asked.now as a, args.place.now as p}

pub returns-else-branch : goal.returns-else-branch
returns-else-branch c = λ bytes d acc.
    let on = subst (λ b. GoesOn a.graph.now a.candidates.now p c.args.choices.now.items c.go_on.new.place
    c.go_on.new.choices.items b) c.if-branch.false c.in_ok-go_on.ensures in
    let step = subst (λ (os : List Open). StepsAt c.args.form a p bytes os)
    (c.in_default.ensures.none refl a.candidates.now p) d.step in
    ([], step, on acc)
  where
    open c use {args.asked.now as a, args.place.now as p}

pub choose-requires-clause-legal : goal.choose-requires-clause-legal
choose-requires-clause-legal c =
    c.in-Some.ensures.legal c.args.form (schema_in a) (question_in a) a.candidates.now c.args.place.now d.about d.does
  where
    open c use {args.asked.now as a, requires.does.1 as d}
