-- One name after the other.
use Rattle.olap_encoding.proofs.formulas.leading.Goals as goal
