-- A piece ends at the first semicolon, or with the text.
use Rattle.std.proofs.Common.{arith, ◌==◌, ◌∙◌, sym}
use Rattle.olap_base.{proofs.ListLemmas.rest_is, proofs.PiecesLeft.{split-none, split-some}, specs.Bytes.semicolon}
use Rattle.olap_instance.proofs.texts.first_piece.Goals as goal

pub returns-in-Some-clause-pieces : goal.returns-in-Some-clause-pieces
returns-in-Some-clause-pieces c = grind (arith, split-some, rest_is)

pub returns-in-None-clause-pieces : goal.returns-in-None-clause-pieces
returns-in-None-clause-pieces c = split-none (λ b. b == semicolon) c.args.text.now
    (sym c.first_semicolon.ensures ∙ c.in-None.is)
