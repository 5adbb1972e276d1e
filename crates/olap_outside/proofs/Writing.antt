-- Bytes that are written piece by piece.
use Rattle.std.proofs.Common.{subst, ℕ, ◌+◌, ◌-◌, List, [], ◌++◌, length, take, drop, Option, None, Some, sym, ◌∙◌, ap, arith, append_assoc, append-nil}
use Rattle.std.{proofs.Math.Seq.take-add, specs.Io.KnownBytes.Appends, specs.Prelude.{Bool, IsTrue}}
use Rattle.olap_base.proofs.ListLemmas.{rest_is}

-- with nothing written, nothing is appended
pub appends_none : (old : Option (List ℕ)) → Appends old old []
appends_none None = tt
appends_none (Some xs) = sym (append-nil xs)

-- one piece after another is appended
pub appends_more : (old mid new : Option (List ℕ)) (xs ys : List ℕ) → Appends old mid xs → Appends mid new ys
    → Appends old new (xs ++ ys)
appends_more None mid new xs ys a b = tt
appends_more (Some o) None new xs ys a b = absurd a
appends_more (Some o) (Some m) None xs ys a b = absurd b
appends_more (Some o) (Some m) (Some n) xs ys a b = b ∙ ap (λ z. z ++ ys) a ∙ append_assoc o xs ys

-- another piece of `&xs[i..]`
pub appends_on : (old mid new : Option (List ℕ)) (i n : ℕ) (xs : List ℕ) → Appends old mid (take i xs)
    → Appends mid new (take n (take (length xs - i) (drop i xs))) → Appends old new (take (i + n) xs)
appends_on old mid new i n xs a b =
    let c = rw (rest_is i xs) at b in
    rw take-add (appends_more old mid new (take i xs) (take n (drop i xs)) a c)

-- after another piece, what is still to be taken
pub takes_on : (takes : ℕ → Bool) (all done n : ℕ) → IsTrue (takes (all - done - n)) → IsTrue (takes (all - (done + n)))
takes_on takes all done n h = subst (λ k. IsTrue (takes k)) (omega arith) h
