-- What is kept at the place of the atom is so of the atom.
use Rattle.std.proofs.{Common.{◌≡◌, ◌<◌, ◌∙◌, length, get_or, arith, subst, sym}, lemmas.List.get_or_default}
use Rattle.std.specs.Prelude.{Some, None}
use Rattle.olap_bits.specs.Sets.{members}
use Rattle.olap_check.{proofs.SeenLemmas.right_at, specs.Seen.{IsKept, IsSo}}
use Rattle.olap_check.proofs.seen.Seen.kept.Goals as goal

pub returns-in-Some : goal.returns-in-Some
returns-in-Some c = λ i seen.
    let is_so = IsSo i c.args.asked in
    let places = members entry.places in
    let inside : k < length entries.items =
    omega (arith, c.args.self.now.entries.ok, c.len.ensures, c.if-k-len.false) in
    let read : get_or entries.items k None ≡ Some entry =
    get_or_default entries.items k None c.index.result.now inside ∙ sym c.index.ensures ∙ c.in-Some.is in
    let kept = right_at i c.args.self.now.atoms.items entries.items k c.args.asked entry c.in_ok-k.ensures seen read in
    let of_root = subst (λ r. IsKept i r entry.start is_so places) c.if-entry-root.true kept in
    subst (λ start. IsKept i c.args.root.0 start is_so places) c.if-entry-start.true of_root
  where
    open c use {args.self.now.entries, in_ok-k.k, in-Some.entry}
