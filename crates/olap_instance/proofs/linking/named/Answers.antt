use Rattle.std.proofs.Common.{◌∙◌, sym, arith}
use Rattle.olap_instance.{proofs.PlaceFacts.member-within, proofs.Stamps.{named-once, named-twice}, specs.Passes.ids_in}
use Rattle.olap_instance.proofs.linking.named.Goals as goal

pub bounds-stamps-place : goal.bounds-stamps-place
bounds-stamps-place c = grind (arith, member-within)

pub returns-then-stamps-place-clause-parent : goal.returns-then-stamps-place-clause-parent
returns-then-stamps-place-clause-parent c = grind (arith, member-within, named-twice)

pub returns-clause-parent : goal.returns-clause-parent
returns-clause-parent c = λ before found h s.
    let e = sym c.find.ensures ∙ c.in-Some.is in
    let l = member-within c.args.piece.now c.args.roster.now c.in-Some.place e in (
      named-once (ids_in c.args.roster.now) c.args.piece.now c.in-Some.place before found c.args.stamps.now
          c.args.mark e h s
          (omega (arith, c.requires)) c.if-stamps-place.false,
      e,
    )

pub returns-clause-inside : goal.returns-clause-inside
returns-clause-inside c = grind (arith, member-within)
