-- One category more is taken.
use Rattle.std.proofs.Common.{◌≡◌, subst, arith}
use Rattle.olap_bits.specs.Sets.{members}
use Rattle.olap_proof.{proofs.WalkingLemmas.grows_from, specs.KeptWays.leading_way, specs.Seen.LeadsHere}
use Rattle.olap_proof.specs.Walking.{Grows, SeenFrom}
use Rattle.olap_proof.proofs.walking.grow_by_ways.Goals as goal

pub categories-preserved : goal.categories-preserved
categories-preserved c = λ g lie.
    let i = c.categories.c in
    grows_from g c.args.count (LeadsHere c.args.place.now.ways) i (members c.args.set.now) (members c.categories.set)
    (members c.add_from-grew.new.set) (members c.ways_from.result) c.categories.grew c.add_from-grew.result
    (c.categories.invariant g lie) c.ways_from.ensures (λ d h. (lie i d h, c.requires (leading_way i d) h))
    c.add_from-grew.ensures

pub returns : goal.returns
returns c = λ g lie.
    let end : c.categories.c ≡ c.args.count = omega (arith, c.categories.auto.c-end, c.categories-test.false) in
    subst (λ n. Grows g c.args.count (SeenFrom (LeadsHere c.args.place.now.ways) n) (members c.args.set.now)
    (members c.categories.set) c.categories.grew) end (c.categories.invariant g lie)
