use Rattle.std.proofs.Common.{refl, sym}
use Rattle.olap_grammar.specs.Cutter.{kept_of}
use Rattle.olap_grammar.proofs.cutting.step.Goals as goal

pub returns-in-Nothing : goal.returns-in-Nothing
returns-in-Nothing c = rw c.in-Nothing.is c.between.ensures

pub returns-in-Word : goal.returns-in-Word
returns-in-Word c =
    rw (c.in-Word.is, sym c.if-is_word_byte.ensures) (c.push.ensures (kept_of c.args.tokens.now))

pub returns-in-Signed : goal.returns-in-Signed
returns-in-Signed c =
    rw (c.in-Signed.is, sym c.if-is_word_byte-2.ensures) (c.push-in-Signed.ensures (kept_of c.args.tokens.now))

pub returns-in-Quotes : goal.returns-in-Quotes
returns-in-Quotes c = rw c.in-Quotes.is c.in_quotes.ensures

pub returns-in-Escape : goal.returns-in-Escape
returns-in-Escape c = rw c.in-Escape.is (c.escaped.ensures c.args.version (kept_of c.args.tokens.now))

pub returns-in-Less : goal.returns-in-Less
returns-in-Less c = rw (c.in-Less.is, c.if-byte-eq45.true) refl

pub returns-in-LessDash : goal.returns-in-LessDash
returns-in-LessDash c =
    rw (c.in-LessDash.is, c.if-byte-eq62-2.true) (c.add-in-LessDash.ensures.goes c.args.bytes.now.items)
