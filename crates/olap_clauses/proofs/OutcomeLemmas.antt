-- Yes and no differ. Stated here once, since a search for it among all that a function knows is dear.
use Rattle.std.proofs.Common.{◌≡◌, true, false}

-- yes isn't no
pub true_is_not_false : true ≡ false → ⊥
true_is_not_false e = cc
