-- A round that ends, and one more.
use Rattle.std.proofs.Common.{refl, ◌∙◌}
use Rattle.olap_clauses.proofs.engine.Engine.exists.Goals as goal

pub returns-then-not-derive-clause-nothing : goal.returns-then-not-derive-clause-nothing
returns-then-not-derive-clause-nothing g c = λ _ v m a h. c.if-not-derive.ensures.none refl v (i.admits v m a)
  where
    open c use {rounds.invariant as i, derive.ensures as d}

pub returns-then-not-derive-clause-admits : goal.returns-then-not-derive-clause-admits
returns-then-not-derive-clause-admits g c = λ v m a. d.admits v (i.admits v m a)
  where
    open c use {rounds.invariant as i, derive.ensures as d}

pub returns-in-Found-clause-admits : goal.returns-in-Found-clause-admits
returns-in-Found-clause-admits g c = λ v m a. s.admits v m (d.admits v (i.admits v m a))
  where
    open c use {rounds.invariant as i, derive.ensures as d, take_round.ensures as s}

pub returns-in-Nothing-clause-nothing : goal.returns-in-Nothing-clause-nothing
returns-in-Nothing-clause-nothing g c = λ _ v m a h. c.in-Nothing.ensures.nothing refl v m (d.admits v (i.admits v m a))
    (rw (d.trail ∙ i.trail) h)
  where
    open c use {rounds.invariant as i, derive.ensures as d, take_round.ensures as s}

pub returns-in-Nothing-clause-admits : goal.returns-in-Nothing-clause-admits
returns-in-Nothing-clause-admits g c = λ v m a. s.admits v m (d.admits v (i.admits v m a))
  where
    open c use {rounds.invariant as i, derive.ensures as d, take_round.ensures as s}

pub rounds-preserved : goal.rounds-preserved
rounds-preserved g c =
    record {
      trail = s.trail ∙ d.trail ∙ i.trail;
      variables = s.variables ∙ d.variables ∙ i.variables;
      admits = λ v m a. s.admits v m (d.admits v (i.admits v m a));
      suits = rw (d.variables ∙ i.variables) at s.suits;
    }
  where
    open c use {rounds.invariant as i, derive.ensures as d, take_round.ensures as s}
