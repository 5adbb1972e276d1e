-- What holds of all that an order comes to, whatever the files are.
use Rattle.std.proofs.Common.{◌≡◌, List, ℕ, Bool, true, false, cond, length, nat_le, ◌&&◌, ◌==◌, Option, None, Some, refl}
use Rattle.std.specs.{Option.option_or, Prelude.{Result, Ok, Err, unwrap_or}}
use Rattle.olap_base.specs.declared.refusals.Fault.{Fault}
use Rattle.olap_order.specs.{Arguments.{at_least, between, exactly}, Families.asking}
use Rattle.olap_order.specs.{Order.{Done, Order, Read, Told, and_then, ok_or}, Steps.meaning_or_fault}
use Rattle.olap_order.specs.declared.status.Status.{Status}

-- ---- orders

-- what the order comes to has the property
unfoldable pub Comes : {T : Type 0} → (T → Type 0) → Order T → Type 0
Comes P (Done x) = P x
Comes P (Told status bytes) = Unit {0}
Comes P (Read name next) = (text : List ℕ) → Comes P (next text)

-- one order after another
pub then_comes : {T Q : Type 0} (P : T → Type 0) (R : Q → Type 0) (o : Order T) (next : T → Order Q) → Comes P o
    → ((x : T) → P x → Comes R (next x)) → Comes R (and_then o next)
unfolding Comes
then_comes P R (Done x) next c f = f x c
then_comes P R (Told status bytes) next c f = tt
then_comes P R (Read name rest) next c f = λ text. then_comes P R (rest text) next (c text) f

-- what is left is asked
pub asked : {T : Type 0} (P : T → Type 0) (x : T) → P x → Comes P (Done x)
unfolding Comes
asked P x p = p

-- or nothing is
pub told : {T : Type 0} (P : T → Type 0) (status : Status) (bytes : List ℕ) → Comes P (Told status bytes)
unfolding Comes
told P status bytes = tt

-- of any order nothing need be known
pub anything : {T : Type 0} (o : Order T) → Comes (λ x. Unit {0}) o
unfolding Comes
anything (Done x) = tt
anything (Told status bytes) = tt
anything (Read name next) = λ text. anything (next text)

-- a step of which nothing need be known, and what is left after it
pub pass : {T Q : Type 0} (P : Q → Type 0) (o : Order T) (next : T → Order Q) → ((x : T) → Comes P (next x))
    → Comes P (and_then o next)
pass P o next f = then_comes (λ x. Unit {0}) P o next (anything o) (λ x u. f x)

-- one of two orders
pub either : {T : Type 0} (P : T → Type 0) (b : Bool) (x y : Order T) → Comes P x → Comes P y → Comes P (cond b x y)
unfolding Comes
either P true x y c d = c
either P false x y c d = d

-- what a text means, or its first fault
pub meant : {T : Type 0} (P : T → Type 0) (label part : List ℕ) (r : Result T (Fault (List ℕ)))
    → ((x : T) → r ≡ Ok x → P x) → Comes P (meaning_or_fault label part r)
unfolding Comes
meant P label part (Ok x) f = f x refl
meant P label part (Err e) f = tt

-- what is there, or a refusal
pub there : {T : Type 0} (P : T → Type 0) (o : Option T) (why : List ℕ) → ((x : T) → o ≡ Some x → P x)
    → Comes P (ok_or o why)
unfolding Comes
there P None why f = tt
there P (Some x) why f = f x refl

-- ---- orders that may be none

-- the order, if there is one, comes to what has the property
unfoldable pub MayCome : {T : Type 0} → (T → Type 0) → Option (Order T) → Type 0
MayCome P None = Unit {0}
MayCome P (Some o) = Comes P o

-- there is none
pub no_order : {T : Type 0} (P : T → Type 0) → MayCome P None
unfolding MayCome
no_order P = tt

-- there is one
pub an_order : {T : Type 0} (P : T → Type 0) (o : Order T) → Comes P o → MayCome P (Some o)
unfolding MayCome
an_order P o c = c

-- of any such order nothing need be known
pub whichever : {T : Type 0} (o : Option (Order T)) → MayCome (λ x. Unit {0}) o
whichever None = no_order (λ x. Unit {0})
whichever (Some o) = an_order (λ x. Unit {0}) o (anything o)

-- one of two
pub may_either : {T : Type 0} (P : T → Type 0) (b : Bool) (x y : Option (Order T)) → MayCome P x → MayCome P y
    → MayCome P (cond b x y)
unfolding MayCome
may_either P true x y c d = c
may_either P false x y c d = d

-- the first that there is
pub may_or : {T : Type 0} (P : T → Type 0) (x y : Option (Order T)) → MayCome P x → MayCome P y
    → MayCome P (option_or x y)
unfolding MayCome
may_or P None y c d = d
may_or P (Some o) y c d = c

-- an order of a family as one of the program
pub may_ask : {Q R : Type 0} (P : Q → Type 0) (S : R → Type 0) (of : Q → R) (o : Option (Order Q))
    → ((q : Q) → P q → S (of q)) → MayCome P o → MayCome S (asking of o)
unfolding MayCome Comes
may_ask P S of None f c = tt
may_ask P S of (Some o) f c = then_comes P S o (λ q. Done (of q)) c f

-- the order, or else another
pub or_else : {T : Type 0} (P : T → Type 0) (o : Option (Order T)) (u : Order T) → MayCome P o → Comes P u
    → Comes P (unwrap_or o u)
unfolding MayCome
or_else P None u c d = d
or_else P (Some o) u c d = c

-- ---- orders by this many words

-- by exactly this many
pub may_exactly : {Q : Type 0} (P : Q → Type 0) (n : ℕ) (order : List (List ℕ) → Order Q) (words : List (List ℕ))
    → Comes P (order words) → MayCome P (exactly n order words)
may_exactly P n order words c =
    may_either P (length words == n) (Some (order words)) None (an_order P (order words) c) (no_order P)

-- by this many or more
pub may_at_least : {Q : Type 0} (P : Q → Type 0) (n : ℕ) (order : List (List ℕ) → Order Q) (words : List (List ℕ))
    → Comes P (order words) → MayCome P (at_least n order words)
may_at_least P n order words c =
    may_either P (nat_le n (length words)) (Some (order words)) None (an_order P (order words) c) (no_order P)

-- or no more than this many either
pub may_between : {Q : Type 0} (P : Q → Type 0) (m n : ℕ) (order : List (List ℕ) → Order Q) (words : List (List ℕ))
    → Comes P (order words) → MayCome P (between m n order words)
may_between P m n order words c = may_either P (nat_le m (length words) && nat_le (length words) n)
    (Some (order words)) None (an_order P (order words) c) (no_order P)
