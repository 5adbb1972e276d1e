-- Stamps: the mark stands at the members that the pieces of one field have named so far.
use Rattle.std.proofs.Common.{◌≡◌, ◌≢◌, ◌≤◌, ◌<◌, ◌++◌, ◌∷◌, ◌∙◌, ◌==◌, inl, inr, ℕ, List, [], length, slice_index, slice_set, map, Some, None, sym, arith, length-set}
use Rattle.std.proofs.lemmas.{Bool.ne_eqb, Bool.Decides.eqb_tells, List.{get_or-set_other, get_or-set_same}}
use Rattle.std.specs.List.{list_any}
use Rattle.olap_instance.{proofs.PieceLemmas.{any-push, any-same}, specs.InstanceText.piece_fault}
use Rattle.olap_instance.specs.Passes.{AreBelow, AreStamped}
use Rattle.olap_base.{proofs.GeneralLemmas.{or_false, or_true, eqb_same}, specs.Naming.place_of}
use Rattle.olap_instance.specs.declared.refusals.InstanceKind.TheVariants as kind

-- where no stamp is as high as the mark, it stands at no member
pub stamped-none : (stamps : List ℕ) (mark : ℕ) → AreBelow stamps mark → AreStamped stamps mark []
stamped-none stamps mark b m l = let h = b m l in ne_eqb (slice_index stamps m) mark (omega arith)

-- one member more is stamped
pub stamped-more : (stamps : List ℕ) (mark place : ℕ) (found : List ℕ) → place < length stamps
    → AreStamped stamps mark found
    → AreStamped (slice_set stamps place mark) mark (found ++ place ∷ [])
stamped-more stamps mark place found l s m lm = elim (eqb_tells m place) [
  | inl t ↦ rw (any-push (λ n. m == n) found place, t.0, t.1, get_or-set_same stamps place mark 0 l, eqb_same mark)
      (sym (or_true (list_any (λ n. place == n) found)))
  | inr f ↦
      let k : m < length stamps = let e = length-set stamps place mark in omega arith in
      rw (any-push (λ n. m == n) found place, f.0, get_or-set_other stamps place m mark 0 f.1)
      (s m k ∙ sym (or_false (list_any (λ n. m == n) found)))
]

-- a stamp with the mark stays below what the mark is below
pub below-more : (stamps : List ℕ) (top mark place : ℕ) → place < length stamps → mark < top → AreBelow stamps top
    → AreBelow (slice_set stamps place mark) top
below-more stamps top mark place l h b m lm = elim (eqb_tells m place) [
  | inl t ↦ rw (t.1, get_or-set_same stamps place mark 0 l) h
  | inr f ↦
      let k : m < length stamps = let e = length-set stamps place mark in omega arith in
      rw (get_or-set_other stamps place m mark 0 f.1) (b m k)
]

-- below a mark is below a higher one
pub below-higher : (stamps : List ℕ) (low high : ℕ) → low ≤ high → AreBelow stamps low → AreBelow stamps high
below-higher stamps low high h b m l = let s = b m l in omega arith

-- a piece that names a member found before
pub named-twice : (ids : List (List ℕ)) (p : List ℕ) (m : ℕ) (before : List (List ℕ)) (found stamps : List ℕ) (mark : ℕ)
    → place_of p ids ≡ Some m → map (λ q. place_of q ids) before ≡ map Some found → AreStamped stamps mark found
    → m < length stamps → slice_index stamps m ≡ mark → piece_fault ids before p ≡ Some kind.DuplicateParent
named-twice ids p m before found stamps mark e h s l t = grind (arith, any-same, eqb_same)

-- a piece that names a member for the first time
pub named-once : (ids : List (List ℕ)) (p : List ℕ) (m : ℕ) (before : List (List ℕ)) (found stamps : List ℕ) (mark : ℕ)
    → place_of p ids ≡ Some m → map (λ q. place_of q ids) before ≡ map Some found → AreStamped stamps mark found
    → m < length stamps → slice_index stamps m ≢ mark → piece_fault ids before p ≡ None
named-once ids p m before found stamps mark e h s l t = grind (arith, any-same, ne_eqb, slice_index)
