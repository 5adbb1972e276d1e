-- Nothing is kept before the first byte.
use Rattle.std.proofs.Common.{◌≡◌, ℕ, List, [], false, refl}
use Rattle.olap_grammar.{proofs.KeepingLemmas.{fails, found, same-most}, specs.Cutter.kept_of}
use Rattle.olap_grammar.specs.{Keeping.nothing_kept, Tallying.nothing_tallied, declared.tallying.Tally.Tally}
use Rattle.olap_grammar.specs.declared.tokens.Token.{Token}
use Rattle.olap_grammar.proofs.cutting.first_tokens.Goals as goal

begun : (most : ℕ) (ts : List Token) (y : Tally) → ts ≡ [] → y ≡ nothing_tallied
    → record { most = most; first = ts; more = false; tally = y } ≡ nothing_kept most
begun most ts y e f = rw (e, f) refl

pub returns-in-Ok-clause-found : goal.returns-in-Ok-clause-found
returns-in-Ok-clause-found c =
    found c.args.version c.args.most c.args.line.now (kept_of c.cut.new.tokens)
    (c.in-Ok.ensures c.args.most (begun c.args.most c.new.result.items _ c.new.ensures.items c.new-2.ensures))

pub returns-in-Ok-clause-most : goal.returns-in-Ok-clause-most
returns-in-Ok-clause-most c =
    same-most c.args.version c.args.most c.args.line.now (kept_of c.cut.new.tokens)
    (c.in-Ok.ensures c.args.most (begun c.args.most c.new.result.items _ c.new.ensures.items c.new-2.ensures))

pub returns-in-Err-clause-found : goal.returns-in-Err-clause-found
returns-in-Err-clause-found c =
    fails c.args.version c.args.most c.args.line.now c.in-Err.e
    (c.in-Err.ensures c.args.most (begun c.args.most c.new.result.items _ c.new.ensures.items c.new-2.ensures))
