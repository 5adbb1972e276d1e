-- One piece more, or none is left.
use Rattle.std.proofs.Common.{◌≡◌, ◌+◌, ◌++◌, ◌∷◌, ◌∙◌, [], ap, refl, rules, arith}
use Rattle.std.proofs.lemmas.List.{length-set, map-append}
use Rattle.olap_records.proofs.Seeing.{see-more, see-none}
use Rattle.olap_instance.proofs.{LinkingLemmas.parents-more, PiecesPassed.{passed-all, places-more}}
use Rattle.olap_instance.proofs.Stamps.{below-higher, below-more, stamped-more, stamped-none}
use Rattle.olap_instance.specs.InstanceText.{piece_fault, pieces_of}
use Rattle.olap_instance.specs.Passes.{AreBelow, ids_in, numbers_of, pieces_left}
use Rattle.olap_base.proofs.PiecesLeft.{smaller}
use Rattle.olap_instance.proofs.linking.link.Goals as goal

pub pieces-smaller : goal.pieces-smaller
pieces-smaller c = smaller c.pieces.left c.first_piece.result.1 c.in-Some.text c.in-Some.is c.first_piece.ensures.less

pub pieces-init : goal.pieces-init
pieces-init c =
    let child = c.len-child.result in
    let below : AreBelow c.args.stamps.now (child + 1) = rw c.len-child.ensures.count c.requires.below in
    record {
      before = [];
      found = [];
      lists = c.in_ok-begin.ensures;
      seen = rw c.all_pieces-left.ensures
          (see-none (piece_fault (ids_in c.args.roster.now)) (pieces_of c.args.field.now));
      places = refl;
      as_many = c.requires.as_many;
      stamped = stamped-none c.args.stamps.now (child + 1) below;
      below = below-higher c.args.stamps.now (child + 1) (child + 2) (omega arith) below;
    }

pub pieces-preserved : goal.pieces-preserved
pieces-preserved c =
    let ids = ids_in c.args.roster.now in
    let mark = child + 1 in
    let found = numbers_of inv.found in
    let others = pieces_left c.first_piece.result.1 in
    let left = ap pieces_left c.in-Some.is ∙ c.first_piece.ensures.pieces in
    let r = c.in-Ok.ensures.parent inv.before found inv.places inv.stamped in
    let parent = c.in_ok-push-in-Ok.ensures c.args.parents.now inv.found inv.lists in
    let now = map-append (λ p. p.0) inv.found (record { 0 = place } ∷ []) in
    record {
      before = inv.before ++ piece ∷ [];
      found = inv.found ++ record { 0 = place } ∷ [];
      lists = parent;
      seen = see-more (piece_fault ids) (pieces_of c.args.field.now) inv.before (pieces_left c.pieces.left) others piece
          inv.seen left r.0;
      places = places-more ids inv.before piece found (numbers_of (inv.found ++ record { 0 = place } ∷ [])) place
          inv.places r.1 now;
      as_many = length-set c.pieces.stamps place mark ∙ inv.as_many;
      stamped = rw now (stamped-more c.pieces.stamps mark place found c.in-Ok.ensures.inside inv.stamped);
      below = below-more c.pieces.stamps (child + 2) mark place c.in-Ok.ensures.inside (omega arith) inv.below;
    }
  where
    open c use {pieces.invariant as inv, len-child.result as child, first_piece.result.0.now as piece, in-Ok.place}

pub returns-clause-parents : goal.returns-clause-parents
returns-clause-parents c =
    let none : pieces_left c.pieces.left ≡ [] = search rules in
    let inv = c.pieces.invariant in
    let all = passed-all (ids_in c.args.roster.now) (pieces_of c.args.field.now) inv.before (pieces_left c.pieces.left)
    (numbers_of inv.found) inv.seen none inv.places in
    (all.0, parents-more c.args.parents.now c.pieces.parents inv.found _ inv.lists all.1)
