-- Witnesses, and what the engine admits.
use Rattle.std.proofs.Common.{◌≡◌, ℕ, List, ◌++◌, Bool, get_or, ap, sym, ◌∙◌, inl, inr, arith, suc}
use Rattle.std.{proofs.lemmas.List.{length-append, get_or_append_left}, specs.Prelude.◌==◌}
use Rattle.olap_ast.specs.Frozen.{Frozen}
use Rattle.olap_clauses.{proofs.AdmitsLemmas.agrees_decisions, specs.Engines.{admits, trail_of}}
use Rattle.olap_clauses.specs.{Standing.{Agrees, AgreesDecisions}, declared.engine.Engine.Engine}
use Rattle.olap_clauses.specs.declared.trails.Step.{Step}
use Rattle.olap_pool.specs.{Literals.Holds, declared.literals.Lit.Lit}
use Rattle.olap_frozen.specs.Leaves.{chosen_of}
use Rattle.olap_dimsat.proofs.{ReadLemmas.index_of_choice, StepLemmas.{all_agree, decided_at}}
use Rattle.olap_dimsat.specs.{Pinned.{AreShaped, IsReady}, Reads.{Reads, IsMeant, IsShaped, IsTaken, Suits}}
use Rattle.olap_dimsat.specs.Tasks.{Task, IsOne}

-- a choice that agrees with a literal of an edge or a name makes it true
suits_holds : (t : Task) (edges : List Bool) (names : List ℕ) (v : ℕ → Bool) (l : Lit) → Suits t edges names l
    → IsShaped t l
    → Reads t (chosen_of edges names) v → Holds v l
suits_holds t edges names v l s (inl e) r =
    ap v e.2 ∙ r.on e.0 e.1 ∙ s.on e.0 e.1 e.2
suits_holds t edges names v l s (inr n) r =
    ap v n.is ∙ r.named n.category n.place n.inside n.count
    ∙ ap (λ i. i == suc n.place) (index_of_choice edges names n.category n.declared)
    ∙ s.named n.category n.place n.inside n.declared n.count n.is

-- a choice that was taken agrees with the decisions that stood before
pub taken_agrees : (t : Task) (edges : List Bool) (names : List ℕ) (v : ℕ → Bool) (ss ts : List Step)
    → IsTaken t edges names (ss ++ ts) → AreShaped t ss → Reads t (chosen_of edges names) v → AgreesDecisions v ss
taken_agrees t edges names v ss ts k shaped r = all_agree v ss (λ i d h e.
    suits_holds t edges names v (get_or ss i d).lit
    (rw (← (get_or_append_left ss ts d i h))
    (k.suits i d (let l = length-append ss ts in omega arith))) (shaped i d h e) r)

-- an engine that admits what was meant still admits all frozen dimensions
pub ready_still : (t : Task) (old new : Engine) → IsReady t old
    → ((v : ℕ → Bool) → IsMeant t v → admits v old → admits v new)
    → IsReady t new
ready_still t old new r k f one = let w = r f one in (w.0, w.1, k w.0 (f, one, w.1) w.2)

-- what reads one frozen dimension agrees on literals of edges and names
pub same_value : (t : Task) (f : Frozen) (v w : ℕ → Bool) (l : Lit) → IsShaped t l → Reads t f v → Reads t f w
    → v l.variable ≡ w l.variable
same_value t f v w l (inl e) r s = ap v e.2 ∙ r.on e.0 e.1 ∙ sym (s.on e.0 e.1) ∙ sym (ap w e.2)
same_value t f v w l (inr n) r s =
    ap v n.is ∙ r.named n.category n.place n.inside n.count ∙ sym (s.named n.category n.place n.inside n.count)
    ∙ sym (ap w n.is)

-- two valuations of one frozen dimension agree with the same decisions on edges and names
pub same_agrees : (t : Task) (f : Frozen) (v w : ℕ → Bool) (ss : List Step) → AreShaped t ss → Reads t f v → Reads t f w
    → AgreesDecisions v ss → AgreesDecisions w ss
same_agrees t f v w ss shaped r s a = all_agree w ss (λ k d h e.
    sym (same_value t f v w (get_or ss k d).lit (shaped k d h e) r s) ∙ decided_at v ss k d h a e)

-- a frozen dimension that agrees with the decisions has a valuation that agrees with all that stands
pub whole : (t : Task) (e : Engine) (f : Frozen) (v : ℕ → Bool) → IsReady t e → AreShaped t (trail_of e) → IsOne t f
    → Reads t f v → AgreesDecisions v (trail_of e) → (w : ℕ → Bool) × Reads t f w × Agrees w (trail_of e)
whole t e f v ready shaped one r a =
    let w = ready f one in
    (w.0, w.1, agrees_decisions w.0 (trail_of e) w.2.0.forced (same_agrees t f v w.0 (trail_of e) shaped r w.1 a))
