-- A line is a reason exactly if it is about the schema and closes its place.
use Rattle.std.proofs.Common.{ℕ, zero, suc, ◌<◌, List, [], ◌∷◌, length, arith}
use Rattle.olap_ast.specs.{Formula.Formula, Frozen.Candidates, Schema.{Constraint, Schema}}
use Rattle.olap_proof.specs.{Certificates.{Open.At, Steps, Steps.closes}, Closing.{Closes, IsAbout, IsUnmetAt}}
use Rattle.olap_proof.specs.Lines.{IsReason, Line, Line.Clash, Line.Dead, Line.EdgeOrNot, Line.Loose, Line.NameOf, Line.Unmet, Line.Unreached, Line.WayOrNot, line_text}
use Rattle.olap_proof.specs.{Places.Place, declared.forms.Form.Form}

-- a constraint that is unmet is one of them
pub unmet_inside : (m : Form) (k : Candidates) (p : Place) (cs : List Constraint) (n : ℕ) → IsUnmetAt m cs n k p
    → n < length cs
unmet_inside m k p [] n h = absurd h
unmet_inside m k p (c ∷ cs) zero h = omega arith
unmet_inside m k p (c ∷ cs) (suc n) h = let i = unmet_inside m k p cs n h in omega arith

-- a line that is about the schema and closes the place is a reason
reason : (f : Form) (s : Schema) (q : Formula) (k : Candidates) (p : Place) (l : Line) → IsAbout s l
    → Closes f s q k p l → IsReason f s q k p l
reason f s q k p (Dead c) a h = (a, h.0, h.1, h.2)
reason f s q k p (Loose e) a h = (h.0, a, h.1.0, h.1.1, h.1.2)
reason f s q k p (Unreached c) a h = (h.0, a, h.1.0, h.1.1, h.1.2)
reason f s q k p (Clash a b) i h = (h.0, i.0, i.1, h.1)
reason f s q k p l a h = h

-- a reason is about the schema
pub about_of : (f : Form) (s : Schema) (q : Formula) (k : Candidates) (p : Place) (l : Line) → IsReason f s q k p l
    → IsAbout s l
about_of f s q k p (EdgeOrNot e) h = absurd h
about_of f s q k p (NameOf c) h = absurd h
about_of f s q k p (WayOrNot a b) h = absurd h
about_of f s q k p (Dead c) h = h.0
about_of f s q k p (Loose e) h = h.1
about_of f s q k p (Unreached c) h = h.1
about_of f s q k p (Clash a b) h = (h.1, h.2)
about_of f s q k p (Unmet n) h = unmet_inside f k p s.constraints n h
about_of f s q k p l h = tt

-- and closes the place
pub closes_of : (f : Form) (s : Schema) (q : Formula) (k : Candidates) (p : Place) (l : Line) → IsReason f s q k p l
    → Closes f s q k p l
closes_of f s q k p (Dead c) h = (h.1, h.2, h.3)
closes_of f s q k p (Loose e) h = (h.0, (h.2, h.3, h.4))
closes_of f s q k p (Unreached c) h = (h.0, (h.2, h.3, h.4))
closes_of f s q k p (Clash a b) h = (h.0, h.3)
closes_of f s q k p l h = h

-- a line that does both is a step
pub closing : {f : Form} {s : Schema} {q : Formula} {k : Candidates} {p : Place} (l : Line) → IsAbout s l
    → Closes f s q k p l → Steps f s q k (line_text s.graph l) (At p) []
closing {f} {s} {q} {k} {p} l a h = closes l (reason f s q k p l a h)
