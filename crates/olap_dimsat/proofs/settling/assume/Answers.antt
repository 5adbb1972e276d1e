use Rattle.std.proofs.Common.{◌∷◌, [], refl, sym, ◌∙◌}
use Rattle.olap_clauses.specs.{Engines.trail_of, declared.trails.Reason.TheVariants.Decision, declared.trails.Step.Step}
use Rattle.olap_dimsat.proofs.{SettleLemmas.shaped_more, StepLemmas.{agrees_behind, agrees_both, agrees_front}}
use Rattle.olap_dimsat.{proofs.WitnessLemmas.{same_value, whole}, specs.Asking.task_of}
use Rattle.olap_dimsat.proofs.settling.assume.Goals as goal

pub decide-requires : goal.decide-requires
decide-requires c = rw (← c.trail.ensures) (c.in-Unknown.ensures.open refl
    (rw c.trail.ensures c.requires.inside))

pub returns-in-Yes-clause-yes : goal.returns-in-Yes-clause-yes
returns-in-Yes-clause-yes c = λ e f v one r.
    let t = task_of c.args.a.now in (
      λ a. let w = whole t c.args.engine.now f v c.requires.ready c.requires.shaped one r a in (
        a,
        same_value t f v w.0 c.args.lit c.requires.lit r w.1
            ∙ c.in-Yes.ensures.yes refl w.0 (rw c.trail.ensures w.2),
      ),
      λ d. d.0,
    )

pub returns-in-No-clause-no : goal.returns-in-No-clause-no
returns-in-No-clause-no c = λ e f v one r a h.
    let t = task_of c.args.a.now in
    let w = whole t c.args.engine.now f v c.requires.ready c.requires.shaped one r a in
    c.in-No.ensures.no refl w.0 (rw c.trail.ensures w.2)
    (sym (same_value t f v w.0 c.args.lit c.requires.lit r w.1) ∙ h)

pub returns-in-Unknown-clause-yes : goal.returns-in-Unknown-clause-yes
returns-in-Unknown-clause-yes c = λ e f v one r.
    let s : Step = record { lit = c.args.lit; reason = Decision } in
    let old = trail_of c.args.engine.now in (
      λ a. let b = rw c.decide.ensures.trail at a in
          (agrees_front v old (s ∷ []) b, (agrees_behind v old (s ∷ []) b).0 refl),
      λ t. rw c.decide.ensures.trail (agrees_both v old (s ∷ []) t.0 ((λ d. t.1), tt)),
    )

pub returns-in-Unknown-clause-shaped : goal.returns-in-Unknown-clause-shaped
returns-in-Unknown-clause-shaped c =
    let s : Step = record { lit = c.args.lit; reason = Decision } in
    rw c.decide.ensures.trail
    (shaped_more (task_of c.args.a.now) (trail_of c.args.engine.now) s c.requires.shaped c.requires.lit)
