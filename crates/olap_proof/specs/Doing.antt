-- Lines at a place, by what they say.
--     Does           it decides what isn't decided, or closes the place
--     leaves_open    what is open after it, of the place
use Rattle.std.specs.Prelude.{◌≡◌, ◌≢◌, List, [], ◌∷◌, true, false, None, map}
use Rattle.olap_ast.specs.Formula.{Formula}
use Rattle.olap_ast.specs.Frozen.{Candidates}
use Rattle.olap_ast.specs.Schema.{Schema}
use Rattle.olap_trail.specs.Decisions.{status_of}
use Rattle.olap_proof.specs.declared.forms.Form.{Form}
use Rattle.olap_proof.specs.declared.forms.Form.TheVariants.{Short}
use Rattle.olap_proof.specs.Places.{Place, index_of, way_of}
use Rattle.olap_proof.specs.Lines.{Line, Line.Asked, Line.Clash, Line.Cycle, Line.Dead, Line.EdgeOrNot, Line.Loose, Line.NameOf, Line.Shortcut, Line.Unmet, Line.Unreached, Line.WayOrNot}
use Rattle.olap_proof.specs.Closing.{Closes}
use Rattle.olap_proof.specs.Certificates.{Open, Open.At, indexes_of, with_edge, with_name, with_way}

-- it decides what isn't decided, or closes the place
abbrev pub Does : Form → Schema → Formula → Candidates → Place → Line → Type 0
Does f s q k p (EdgeOrNot e) = status_of p.decided e ≡ None
Does f s q k p (NameOf c) = (c ≢ 0) × (index_of p.namings c ≡ None)
Does f s q k p (WayOrNot a b) = (f ≡ Short) × (way_of p.ways a b ≡ None)
Does f s q k p (Dead c) = Closes f s q k p (Dead c)
Does f s q k p Cycle = Closes f s q k p Cycle
Does f s q k p Shortcut = Closes f s q k p Shortcut
Does f s q k p (Loose e) = Closes f s q k p (Loose e)
Does f s q k p (Unreached c) = Closes f s q k p (Unreached c)
Does f s q k p (Clash a b) = Closes f s q k p (Clash a b)
Does f s q k p (Unmet n) = Closes f s q k p (Unmet n)
Does f s q k p Asked = Closes f s q k p Asked

-- what is open after it, of the place
abbrev pub leaves_open : Candidates → Place → Line → List Open
leaves_open k p (EdgeOrNot e) = At (with_edge p e false) ∷ At (with_edge p e true) ∷ []
leaves_open k p (NameOf c) = map (λ i. At (with_name p c i)) (indexes_of k c)
leaves_open k p (WayOrNot a b) = At (with_way p a b false) ∷ At (with_way p a b true) ∷ []
leaves_open k p (Dead c) = []
leaves_open k p Cycle = []
leaves_open k p Shortcut = []
leaves_open k p (Loose e) = []
leaves_open k p (Unreached c) = []
leaves_open k p (Clash a b) = []
leaves_open k p (Unmet n) = []
leaves_open k p Asked = []
