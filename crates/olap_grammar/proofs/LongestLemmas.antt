-- The longest mark is the one after which none goes on.
use Rattle.std.proofs.Common.{◌≡◌, ◌==◌, ◌≤◌, ℕ, true, false, List, [], ◌∷◌, ◌++◌, length, drop, get_or, sym, ap, subst, arith}
use Rattle.std.proofs.lemmas.Bool.{eqb-true, false_from_ne_true}
use Rattle.olap_grammar.specs.Cutting.{IsCut, IsLongest, IsMarkIn, mark_bytes, marked}
use Rattle.olap_grammar.specs.{Longest.{EndsDash, EndsLess, EndsMark}, declared.tokens.Mark.Mark}
use Rattle.olap_grammar.specs.declared.tokens.{Token.Token, Version.Version}
use Rattle.olap_grammar.specs.declared.tokens.Token.TheVariants as token
use Rattle.olap_grammar.specs.declared.tokens.Mark.TheVariants as mark
use Rattle.olap_grammar.specs.declared.tokens.Joint.TheVariants as joint
use Rattle.olap_grammar.specs.declared.tokens.Version.TheVariants as version

-- the byte at a place
abbrev byte_at : ℕ → List ℕ → ℕ
byte_at k bs = get_or bs k 0

-- a mark has a byte
some_byte : (m : Mark) → 1 ≤ length (mark_bytes m)
some_byte (mark.Joint joint.Iff) = omega arith
some_byte m = omega arith

-- no `<=` begins there, where none goes on
no_at_most : (m : Mark) (bs rest : List ℕ) → EndsMark m bs → 60 ∷ 61 ∷ rest ≡ mark_bytes m ++ bs
    → 2 ≤ length (mark_bytes m)
no_at_most mark.Less [] rest h e = absurd (cc)
no_at_most mark.Less (b ∷ bs) rest h e =
    let t : true ≡ false = subst (λ (x : ℕ). x == 61 ≡ false) (sym (ap (byte_at 1) e)) h.0 in absurd (cc)
no_at_most mark.AtMost bs rest h e = omega arith
no_at_most (mark.Joint joint.Iff) bs rest h e = omega arith
no_at_most m bs rest h e = let s : 60 ≡ byte_at 0 (mark_bytes m ++ bs) = ap (byte_at 0) e in absurd (omega (arith, s))

-- and no `->`
no_arrow : (m : Mark) (bs rest : List ℕ) → 45 ∷ 62 ∷ rest ≡ mark_bytes m ++ bs → 2 ≤ length (mark_bytes m)
no_arrow (mark.Joint joint.Implies) bs rest e = omega arith
no_arrow m bs rest e = let s : 45 ≡ byte_at 0 (mark_bytes m ++ bs) = ap (byte_at 0) e in absurd (omega (arith, s))

-- and no `<->`
no_double_arrow : (m : Mark) (bs rest : List ℕ) → EndsMark m bs → 60 ∷ 45 ∷ 62 ∷ rest ≡ mark_bytes m ++ bs
    → 3 ≤ length (mark_bytes m)
no_double_arrow mark.Less [] rest h e = absurd (cc)
no_double_arrow mark.Less (b ∷ bs) rest h e =
    let s : b ≡ 45 = sym (ap (byte_at 1) e) in
    let u : bs ≡ 62 ∷ rest = sym (ap (λ xs. drop 2 xs) e) in
    let t : true ≡ false = subst EndsDash u (h.1 (ap (λ (x : ℕ). x == 45) s)) in absurd (cc)
no_double_arrow mark.AtMost bs rest h e = let s : 45 ≡ 61 = ap (byte_at 1) e in absurd (omega (arith, s))
no_double_arrow (mark.Joint joint.Iff) bs rest h e = omega arith
no_double_arrow m bs rest h e =
    let s : 60 ≡ byte_at 0 (mark_bytes m ++ bs) = ap (byte_at 0) e in absurd (omega (arith, s))

-- if none goes on, no mark that is longer begins there
pub longest : (v : Version) (m : Mark) (bs : List ℕ) → EndsMark m bs → IsLongest v m bs
longest v m bs h mark.AtMost rest k e = no_at_most m bs rest h e
longest v m bs h (mark.Joint joint.Implies) rest k e = no_arrow m bs rest e
longest v m bs h (mark.Joint joint.Iff) rest k e = no_double_arrow m bs rest h e
longest v m bs h n rest k e = some_byte m

-- after `<` no arrow begins with a `-`
ends_dash : (v : Version) (b : ℕ) (bs : List ℕ) → IsLongest v mark.Less (b ∷ bs) → b ≡ 45 → EndsDash bs
ends_dash v b [] h s = tt
ends_dash v b (c ∷ bs) h s = false_from_ne_true (c == 62) (λ e.
    let u : c ≡ 62 = eqb-true c 62 e in
    let f : 3 ≤ 1 = h (mark.Joint joint.Iff) bs tt (λ i. 60 ∷ sym s i ∷ sym u i ∷ bs) in omega (arith, f))

-- nor `<=`
ends_less : (v : Version) (bs : List ℕ) → v ≡ version.Two → IsLongest v mark.Less bs → EndsLess bs
ends_less v [] k h = tt
ends_less v (b ∷ bs) k h = (
  false_from_ne_true (b == 61) (λ e.
      let u : b ≡ 61 = eqb-true b 61 e in
      let f : 2 ≤ 1 = h mark.AtMost bs k (λ i. 60 ∷ sym u i ∷ bs) in omega (arith, f)),
  λ e. ends_dash v b bs h (eqb-true b 45 e),
)

-- none goes on where no longer one begins
pub ends_of : (v : Version) (m : Mark) (bs : List ℕ) → IsMarkIn m v → IsLongest v m bs → EndsMark m bs
ends_of v mark.Less bs k h = ends_less v bs k h
ends_of v m bs k h = tt

-- a line is cut after a mark after which none goes on
pub cut_mark : {v : Version} (m : Mark) {bs : List ℕ} {ts : List Token} → IsMarkIn m v → EndsMark m bs → IsCut v bs ts
    → IsCut v (mark_bytes m ++ bs) (token.Mark m ∷ ts)
cut_mark {v = v} m {bs = bs} k h d = marked m k (longest v m bs h) d
