-- More bytes are taken off the front of what is left.
use Rattle.std.proofs.Common.{◌≡◌, ◌≤◌, ◌+◌, ◌-◌, ◌∷◌, ◌++◌, ◌∙◌, ℕ, zero, suc, List, [], Option, None, Some, length, take, drop, refl, ap, arith, sym, append_assoc, length-drop}
use Rattle.std.{proofs.Math.Seq.take-append-add, proofs.lemmas.List.length-take-le, specs.Io.KnownBytes.Consumes}
use Rattle.olap_base.proofs.ListLemmas.{rest_is}
use Rattle.olap_outside.specs.Files.{Takes}
use borrow.Rule.Slice.PartMut.{post_of, put_mid}

-- after one more read its bytes were taken too
pub consumes-more : (o m n : Option (List ℕ)) (xs bytes : List ℕ) (room : ℕ) → Consumes o m xs → Takes m n bytes room
    → Consumes o n (xs ++ bytes)
consumes-more None m n xs bytes room h t = tt
consumes-more (Some a) None n xs bytes room h t = absurd h
consumes-more (Some a) (Some b) None xs bytes room h t = absurd t
consumes-more (Some a) (Some b) (Some c) xs bytes room h t =
    h ∙ ap (λ ys. xs ++ ys) t.0 ∙ sym (append_assoc xs bytes c)

-- the front of two lists joined is that of the first, if it is long enough
front-of : {X : Type 0} (n : ℕ) (xs ys : List X) → n ≤ length xs → take n (xs ++ ys) ≡ take n xs
front-of zero xs ys l = refl
front-of (suc n) [] ys l = absurd (omega arith)
front-of (suc n) (x ∷ xs) ys l = ap (λ zs. x ∷ zs) (front-of n xs ys (omega arith))

-- what stands in a piece after a write after the first a bytes
pub filled : (a k n : ℕ) (xs ys : List ℕ) → a ≤ length xs → n ≤ length ys
    → take (a + n) (put_mid a k xs ys) ≡ take a xs ++ take n ys
filled a k n xs ys l m =
    let first = take a xs in
    let size : length first ≡ a = length-take-le a xs l in
    ap (λ j. take (j + n) (put_mid a k xs ys)) (sym size)
    ∙ take-append-add first (ys ++ post_of a k xs) n
    ∙ ap (λ zs. first ++ zs) (front-of n ys (post_of a k xs) m)

-- how long the rest of a piece is
pub rest-size : (a : ℕ) (xs ys : List ℕ) → length ys ≡ length (take (length xs - a) (drop a xs))
    → length ys ≡ length xs - a
rest-size a xs ys e = e ∙ ap length (rest_is a xs) ∙ length-drop a xs
