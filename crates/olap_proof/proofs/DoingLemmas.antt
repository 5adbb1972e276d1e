-- A line does what it says, and nothing else.
use Rattle.std.proofs.Common.{◌≡◌, ℕ, ◌<◌, ◌^◌, List, [], length, refl, sym, subst, ◌∙◌}
use Rattle.olap_base.specs.Graph.{IsHierarchy}
use Rattle.olap_ast.specs.{Formula.Formula, Frozen.Candidates, Schema.Schema}
use Rattle.olap_proof.proofs.{OneLineLemmas.line_once, ReasonLemmas.closing}
use Rattle.olap_proof.proofs.StepLemmas.{AtStep, AtStep.by_edge, AtStep.by_name, AtStep.by_reason, AtStep.by_way, step_at}
use Rattle.olap_proof.specs.Certificates.{Open, Open.At, Steps, Steps.edges, Steps.names, Steps.ways}
use Rattle.olap_proof.specs.{Closing.{Closes, IsAbout}, Doing.{Does, leaves_open}}
use Rattle.olap_proof.specs.{Lines.{Line, Line.EdgeOrNot, Line.NameOf, Line.WayOrNot, line_text}, Places.Place}
use Rattle.olap_proof.specs.declared.forms.Form.{Form}

-- a line does what it says
pub does_step : (f : Form) (s : Schema) (q : Formula) (k : Candidates) (p : Place) (l : Line) → IsAbout s l
    → Does f s q k p l → Steps f s q k (line_text s.graph l) (At p) (leaves_open k p l)
does_step f s q k p (EdgeOrNot e) a d = edges a d
does_step f s q k p (NameOf c) a d = names (d.0, a) d.1
does_step f s q k p (WayOrNot x y) a d = ways d.0 a.0 a.1 d.1
does_step f s q k p l a d = closing l a d

-- a line that closes does that
closes_does : (f : Form) (s : Schema) (q : Formula) (k : Candidates) (p : Place) (l : Line) → Closes f s q k p l
    → Does f s q k p l × ([] ≡ leaves_open k p l)
closes_does f s q k p (EdgeOrNot e) h = absurd h
closes_does f s q k p (NameOf c) h = absurd h
closes_does f s q k p (WayOrNot x y) h = absurd h
closes_does f s q k p l h = (h, refl)

-- what bytes do is what some line says
pub step_does : (f : Form) (s : Schema) (q : Formula) (k : Candidates) (p : Place) (bytes : List ℕ) (new : List Open)
    → Steps f s q k bytes (At p) new
    → (l : Line) × (bytes ≡ line_text s.graph l) × IsAbout s l × Does f s q k p l × (new ≡ leaves_open k p l)
step_does f s q k p bytes new step = go (step_at f s q k step p refl)
  where
    go : AtStep f s q k bytes p new
        → (l : Line) × (bytes ≡ line_text s.graph l) × IsAbout s l × Does f s q k p l × (new ≡ leaves_open k p l)
    go (by_edge e t a d n) = (EdgeOrNot e, t, a, d, n)
    go (by_name c t a d n) = (NameOf c, t, a.1, (a.0, d), n)
    go (by_way x y t o a b d n) = (WayOrNot x y, t, (a, b), (o, d), n)
    go (by_reason l t a h n) =
        let c = closes_does f s q k p l h in (l, t, a, c.0, n ∙ c.1)

-- bytes that are this line do nothing where it does nothing
pub does_once : (f : Form) (s : Schema) (q : Formula) (k : Candidates) (p : Place) (bytes : List ℕ) (l : Line)
    → IsHierarchy s.graph → length s.constraints < 2 ^ 64 → IsAbout s l → line_text s.graph l ≡ bytes
    → (Does f s q k p l → ⊥) → (new : List Open) → Steps f s q k bytes (At p) new → ⊥
does_once f s q k p bytes l h few a t none new step =
    let m = step_does f s q k p bytes new step in
    none (subst (λ (x : Line). Does f s q k p x) (sym (line_once s h few l m.0 a m.2 (t ∙ m.1))) m.3)
