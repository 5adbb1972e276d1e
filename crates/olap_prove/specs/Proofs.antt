-- Proofs: a certificate, or the counterexample.
--     IsYes    it says that the target is summarizable
--     IsShort  its text, if it has one, fits a certificate's file
--     Shows    it is a certificate, or the counterexample
use Rattle.std.specs.Prelude.{◌≤◌, ℕ, List, length}
use Rattle.olap_ast.specs.Schema.{Schema}
use Rattle.olap_base.specs.Limits.{most_certificate_bytes}
use Rattle.olap_proof.specs.declared.forms.Form.{Form}
use Rattle.olap_proof.specs.Verifying.{IsCertificateFor}
use Rattle.olap_prove.specs.declared.proving.Proof.{Proof}
use Rattle.olap_prove.specs.declared.proving.Proof.TheVariants.{Yes, No}
use Rattle.olap_summ.specs.Counterexamples.{IsCounterexampleFound}

-- it says that the target is summarizable
abbrev pub IsYes : Proof → Type 0
IsYes (Yes text) = Unit {0}
IsYes (No found) = ⊥

-- its text, if it has one, is no longer than a certificate's file may be
abbrev pub IsShort : Proof → Type 0
IsShort (Yes text) = length text ≤ most_certificate_bytes
IsShort (No found) = Unit {0}

-- its text is a certificate of the form, or what was found is the counterexample
abbrev pub Shows : Form → Schema → ℕ → List ℕ → Proof → Type 0
Shows f s c sources (Yes text) = IsCertificateFor f s c sources text
Shows f s c sources (No found) = IsCounterexampleFound s c sources found
