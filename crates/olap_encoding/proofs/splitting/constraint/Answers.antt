-- A constraint is true wherever its root is present.
use Rattle.std.proofs.Common.{refl}
use Rattle.olap_ast.specs.Trees.{constraint_of}
use Rattle.olap_encoding.{proofs.SplittingLemmas.constraint_true, specs.EncoderInside.encoding_of}
use Rattle.olap_encoding.proofs.splitting.constraint.Goals as goal

pub require-requires-clause-so : goal.require-requires-clause-so
require-requires-clause-so c =
    constraint_true (encoding_of c.args.e.now) c.requires.sound c.args.k.now.root.0 (constraint_of c.args.k.now) refl
    c.requires.constraint
