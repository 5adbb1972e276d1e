-- A part ends at the first mark, or with the word.
use Rattle.std.proofs.Common.{◌==◌, ◌+◌, ◌∙◌, sym}
use Rattle.olap_base.proofs.{ListLemmas.rest_is, PiecesLeft.{split-none, split-some}}
use Rattle.olap_grammar.specs.Words.{pieces_of}
use Rattle.olap_grammar.proofs.words.first_piece.Goals as goal

pub returns-in-Some-clause-pieces : goal.returns-in-Some-clause-pieces
unfolding pieces_of
returns-in-Some-clause-pieces c =
    rw (rest_is (end + 1) text) ((split-some (λ b. b == c.args.mark) text end (sym c.place.ensures ∙ c.in-Some.is)).0)
  where
    open c use {args.text.now as text, in-Some.end}

pub returns-in-None-clause-pieces : goal.returns-in-None-clause-pieces
unfolding pieces_of
returns-in-None-clause-pieces c =
    split-none (λ b. b == c.args.mark) c.args.text.now (sym c.place.ensures ∙ c.in-None.is)
