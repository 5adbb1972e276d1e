-- What keeps the operations keeps what is read.
use Rattle.std.proofs.Common.{◌≡◌, ◌+◌, ◌≤◌, ◌<◌, ℕ, suc, Bool, true, false, List, [], ◌∷◌, refl, sym, ap, ◌∙◌, Option, Some, None, cond, nat_le, max, arith, option_and_then}
use Rattle.std.specs.{List.fold, Option.option_map}
use Rattle.olap_grammar.specs.Clip.{AreLeaves, clip, clip_terms, clipped, kept, kept_terms, leaves}
use Rattle.olap_grammar.specs.{Forms.{Form, Forms, depth_of, depth_of_all}, Grammar.{Atoms, level, left_level}}
use Rattle.olap_grammar.specs.Machine.{the_formula, trees, Making, Frame, Negation, Left, Bracket, Listing, Part, State, Wants, WantsPart, Named, Compared, Has, Bad, settled, list_closed, closed, parted, after, begun, begun_part, is_one, after_atom, after_word, has_atom, after_compared, step, alone, ended, formula_read}
use Rattle.olap_grammar.specs.declared.tokens.{Joint.Joint, Token.Token}
use Rattle.olap_base.specs.Limits.{most_depth}
use Rattle.olap_numerals.specs.Comparing.{Op}
use Rattle.olap_grammar.specs.Forms as shapes
use Rattle.olap_grammar.specs.declared.tokens.Token.TheVariants as token
use Rattle.olap_grammar.specs.declared.tokens.Mark.TheVariants as mark

-- what is put together in one way leads to what is in the other
pub record Keeps {A B L M : Type 0} (m : Making A L) (n : Making B M) (h : A → B) (k : L → M) : Type 0 where
  pub negate : (f : A) → n.negate (h f) ≡ h (m.negate f)
  pub join : (j : Joint) (f g : A) → n.join j (h f) (h g) ≡ h (m.join j f g)
  pub one : (l : L) → n.one (k l) ≡ h (m.one l)
  pub end : n.end ≡ k m.end
  pub more : (f : A) (l : L) → n.more (h f) (k l) ≡ k (m.more f l)

-- the atoms are those of the other, as they are kept
pub record KeepsAtoms {A B : Type 0} (a : Atoms A) (b : Atoms B) (h : A → B) : Type 0 where
  pub plain : (w : List ℕ) → b.plain w ≡ option_map h (a.plain w)
  pub equal : (w t : List ℕ) → b.equal w t ≡ option_map h (a.equal w t)
  pub compare : (w : List ℕ) (op : Op) (t : List ℕ) → b.compare w op t ≡ option_map h (a.compare w op t)

-- of what is open
abbrev frame : {A B : Type 0} → (A → B) → Frame A → Frame B
frame h Negation = Negation
frame h (Left j f) = Left j (h f)
frame h Bracket = Bracket
frame h Listing = Listing
frame h (Part f) = Part (h f)

-- of all that is open
abbrev frames : {A B : Type 0} → (A → B) → List (Frame A) → List (Frame B)
frames h [] = []
frames h (x ∷ s) = frame h x ∷ frames h s

-- of a state
abbrev state : {A B : Type 0} → (A → B) → State A → State B
state h (Wants s) = Wants (frames h s)
state h (WantsPart s) = WantsPart (frames h s)
state h (Named w s) = Named w (frames h s)
state h (Compared w op s) = Compared w op (frames h s)
state h (Has f s) = Has (h f) (frames h s)
state h Bad = Bad

-- of a formula with what is open
abbrev both : {A B : Type 0} → (A → B) → A × List (Frame A) → B × List (Frame B)
both h (f, s) = (h f, frames h s)

module _ {A B L M : Type 0} (m : Making A L) (n : Making B M) (h : A → B) (k : L → M) (e : Keeps m n h k)
    (a : Atoms A) (b : Atoms B) (u : KeepsAtoms a b h) where
  settles : (i : ℕ) (f : A) (s : List (Frame A)) → settled n i (h f) (frames h s) ≡ both h (settled m i f s)
  settles i f (Negation ∷ s) = ap (λ x. settled n i x (frames h s)) (e.negate f) ∙ settles i (m.negate f) s
  settles i f (Left j g ∷ s) =
      go (nat_le i (level j)) (ap (λ x. settled n i x (frames h s)) (e.join j g f) ∙ settles i (m.join j g f) s)
    where
      go : (t : Bool) → settled n i (n.join j (h g) (h f)) (frames h s) ≡ both h (settled m i (m.join j g f) s)
          → cond t (settled n i (n.join j (h g) (h f)) (frames h s)) (h f, Left j (h g) ∷ frames h s)
          ≡ both h (cond t (settled m i (m.join j g f) s) (f, Left j g ∷ s))
      go true q = q
      go false q = refl
  settles i f s = refl

  list_closes : (l : L) (s : List (Frame A)) → list_closed n (k l) (frames h s) ≡ state h (list_closed m l s)
  list_closes l (Listing ∷ s) = ap (λ x. Has x (frames h s)) (e.one l)
  list_closes l (Part f ∷ s) = ap (λ x. list_closed n x (frames h s)) (e.more f l) ∙ list_closes (m.more f l) s
  list_closes l s = refl

  first_part : (f : A) → n.more (h f) n.end ≡ k (m.more f m.end)
  first_part f = ap (λ x. n.more (h f) x) e.end ∙ e.more f m.end

  closes : (r : A × List (Frame A)) → closed n (both h r).0 (both h r).1 ≡ state h (closed m r.0 r.1)
  closes (f, []) = refl
  closes (f, Negation ∷ s) = refl
  closes (f, Left j g ∷ s) = refl
  closes (f, Bracket ∷ s) = refl
  closes (f, Listing ∷ s) = ap (λ x. list_closed n x (Listing ∷ frames h s)) (first_part f)
      ∙ list_closes (m.more f m.end) (Listing ∷ s)
  closes (f, Part g ∷ s) = ap (λ x. list_closed n x (Part (h g) ∷ frames h s)) (first_part f)
      ∙ list_closes (m.more f m.end) (Part g ∷ s)

  parts : (r : A × List (Frame A)) → parted (both h r).0 (both h r).1 ≡ state h (parted r.0 r.1)
  parts (f, []) = refl
  parts (f, Negation ∷ s) = refl
  parts r = refl

  lefts : (j : Joint) (r : A × List (Frame A)) → Wants (Left j (both h r).0 ∷ (both h r).1)
      ≡ state h (Wants (Left j r.0 ∷ r.1))
  lefts j (f, s) = refl

  afters : (f : A) (s : List (Frame A)) (t : Token) → after n (h f) (frames h s) t ≡ state h (after m f s t)
  afters f s (token.Mark (mark.Joint j)) =
      ap (λ (r : B × List (Frame B)). Wants (Left j r.0 ∷ r.1)) (settles (left_level j) f s)
      ∙ lefts j (settled m (left_level j) f s)
  afters f s (token.Mark mark.Close) = ap (λ (r : B × List (Frame B)). closed n r.0 r.1) (settles 1 f s)
      ∙ closes (settled m 1 f s)
  afters f s (token.Mark mark.Comma) = ap (λ (r : B × List (Frame B)). parted r.0 r.1) (settles 1 f s)
      ∙ parts (settled m 1 f s)
  afters f s t = refl

  begins : (s : List (Frame A)) (t : Token) → begun (frames h s) t ≡ state h (begun s t)
  begins s (token.Mark mark.Open) = refl
  begins s t = refl

  begins_part : (s : List (Frame A)) (t : Token) → begun_part n (frames h s) t ≡ state h (begun_part m s t)
  begins_part s (token.Mark mark.Close) = ap (λ x. Has x (frames h s)) (ap n.one e.end ∙ e.one m.end)
  begins_part s t = refl

  atoms : (o : Option A) (s : List (Frame A)) (t : Token)
      → after_atom n (option_map h o) (frames h s) t ≡ state h (after_atom m o s t)
  atoms None s t = refl
  atoms (Some f) s t = afters f s t

  word_atoms : (w : List ℕ) (s : List (Frame A)) (t : Token)
      → after_atom n (b.plain w) (frames h s) t ≡ state h (after_atom m (a.plain w) s t)
  word_atoms w s t = ap (λ o. after_atom n o (frames h s) t) (u.plain w) ∙ atoms (a.plain w) s t

  lists : (c : Bool) (s : List (Frame A)) → cond c (WantsPart (frames h s)) Bad ≡ state h (cond c (WantsPart s) Bad)
  lists true s = refl
  lists false s = refl

  words : (w : List ℕ) (s : List (Frame A)) (t : Token)
      → after_word n b w (frames h s) t ≡ state h (after_word m a w s t)
  words w s (token.Mark mark.Open) = lists (is_one w) s
  words w s (token.Mark mark.Equal) = refl
  words w s (token.Mark mark.Less) = refl
  words w s (token.Mark mark.AtMost) = refl
  words w s t = word_atoms w s t

  has_atoms : (o : Option A) (s : List (Frame A)) → has_atom (option_map h o) (frames h s) ≡ state h (has_atom o s)
  has_atoms None s = refl
  has_atoms (Some f) s = refl

  numbers : (w : List ℕ) (op : Op) (s : List (Frame A)) (v : List ℕ)
      → has_atom (b.compare w op v) (frames h s) ≡ state h (has_atom (a.compare w op v) s)
  numbers w op s v = ap (λ o. has_atom o (frames h s)) (u.compare w op v) ∙ has_atoms (a.compare w op v) s

  compares : (w : List ℕ) (op : Op) (s : List (Frame A)) (t : Token)
      → after_compared b w op (frames h s) t ≡ state h (after_compared a w op s t)
  compares w Op.Equal s (token.Quoted t) = ap (λ o. has_atom o (frames h s)) (u.equal w t) ∙ has_atoms (a.equal w t) s
  compares w op s (token.Word v) = numbers w op s v
  compares w op s (token.Signed v) = numbers w op s v
  compares w op s t = refl

  steps : (st : State A) (t : Token) → step n b (state h st) t ≡ state h (step m a st t)
  steps (Wants s) t = begins s t
  steps (WantsPart s) t = begins_part s t
  steps (Named w s) t = words w s t
  steps (Compared w op s) t = compares w op s t
  steps (Has f s) t = afters f s t
  steps Bad t = refl

  runs : (st : State A) (ts : List Token) → fold (step n b) (state h st) ts ≡ state h (fold (step m a) st ts)
  runs st [] = refl
  runs st (t ∷ ts) = ap (λ x. fold (step n b) x ts) (steps st t) ∙ runs (step m a st t) ts

  alones : (r : A × List (Frame A)) → alone (both h r) ≡ option_map h (alone r)
  alones (f, []) = refl
  alones (f, x ∷ s) = refl

  ends_has : (f : A) (s : List (Frame A)) → alone (settled n 1 (h f) (frames h s))
      ≡ option_map h (alone (settled m 1 f s))
  ends_has f s = ap alone (settles 1 f s) ∙ alones (settled m 1 f s)

  ends_atom : (o : Option A) (s : List (Frame A)) → option_and_then (λ f. alone (settled n 1 f (frames h s)))
      (option_map h o) ≡ option_map h (option_and_then (λ f. alone (settled m 1 f s)) o)
  ends_atom None s = refl
  ends_atom (Some f) s = ends_has f s

  ends : (st : State A) → ended n b (state h st) ≡ option_map h (ended m a st)
  ends (Has f s) = ends_has f s
  ends (Named w s) = ap (λ o. option_and_then (λ f. alone (settled n 1 f (frames h s))) o) (u.plain w)
      ∙ ends_atom (a.plain w) s
  ends st = refl

  -- what keeps the operations keeps what is read
  pub reads_along : (ts : List Token) → formula_read n b ts ≡ option_map h (formula_read m a ts)
  reads_along ts = ap (ended n b) (runs (Wants []) ts) ∙ ends (fold (step m a) (Wants []) ts)

-- ---- clipping

-- a tree that is too deep isn't built
deep : (d : ℕ) (f : Form) → nat_le d most_depth ≡ false → kept d f
    ≡ (suc most_depth, (shapes.Form.Of shapes.Atom.Truth))
deep d f e = rw e refl

-- nor are parts
deep_terms : (d : ℕ) (fs : Forms) → nat_le d most_depth ≡ false → kept_terms d fs ≡ (suc most_depth, shapes.Forms.End)
deep_terms d fs e = rw e refl

-- what is deeper is too deep too
too_deep : (c d : ℕ) → c ≤ d → nat_le c most_depth ≡ false → nat_le d most_depth ≡ false
too_deep c d l h = grind (arith)

-- too deep, as the test has it
over : (d : ℕ) → most_depth < d → nat_le d most_depth ≡ false
over d h = grind (arith)

-- a negation, as far as it is built
negates : (f : Form) → clipped.negate (clip f) ≡ clip (shapes.Form.Not f)
negates f = go (nat_le (depth_of f) most_depth) refl
  where
    go : (r : Bool) → nat_le (depth_of f) most_depth ≡ r → clipped.negate (clip f) ≡ clip (shapes.Form.Not f)
    go true e = rw e refl
    go false e =
        rw e (sym
        (deep (1 + depth_of f) (shapes.Form.Not f) (too_deep (depth_of f) (1 + depth_of f) (omega arith) e)))

-- a list
ones : (fs : Forms) → clipped.one (clip_terms fs) ≡ clip (shapes.Form.One fs)
ones fs = go (nat_le (depth_of_all fs) most_depth) refl
  where
    go : (r : Bool) → nat_le (depth_of_all fs) most_depth ≡ r
        → clipped.one (clip_terms fs) ≡ clip (shapes.Form.One fs)
    go true e = rw e refl
    go false e =
        rw e (sym (deep (1 + depth_of_all fs) (shapes.Form.One fs)
        (too_deep (depth_of_all fs) (1 + depth_of_all fs) (omega arith) e)))

-- two formulas with a connective
joins : (j : Joint) (f g : Form) → clipped.join j (clip f) (clip g) ≡ clip (shapes.Form.Joined j f g)
joins j f g = go (nat_le (depth_of f) most_depth) (nat_le (depth_of g) most_depth) refl refl
  where
    go : (r q : Bool) → nat_le (depth_of f) most_depth ≡ r → nat_le (depth_of g) most_depth ≡ q
        → clipped.join j (clip f) (clip g) ≡ clip (shapes.Form.Joined j f g)
    go true true e u = rw (e, u) refl
    go true false e u =
        let l = deep (1 + max (depth_of f) (suc most_depth)) (shapes.Form.Joined j f (shapes.Form.Of shapes.Atom.Truth))
        (over (1 + max (depth_of f) (suc most_depth)) (omega arith)) in
        rw (e, u)
        (l ∙ sym (deep (1 + max (depth_of f) (depth_of g)) (shapes.Form.Joined j f g)
        (too_deep (depth_of g) (1 + max (depth_of f) (depth_of g)) (omega arith) u)))
    go false true e u =
        let l = deep (1 + max (suc most_depth) (depth_of g)) (shapes.Form.Joined j (shapes.Form.Of shapes.Atom.Truth) g)
        (over (1 + max (suc most_depth) (depth_of g)) (omega arith)) in
        rw (e, u)
        (l ∙ sym (deep (1 + max (depth_of f) (depth_of g)) (shapes.Form.Joined j f g)
        (too_deep (depth_of f) (1 + max (depth_of f) (depth_of g)) (omega arith) e)))
    go false false e u =
        rw (e, u)
        (sym (deep (1 + max (depth_of f) (depth_of g)) (shapes.Form.Joined j f g)
        (too_deep (depth_of f) (1 + max (depth_of f) (depth_of g)) (omega arith) e)))

-- one part more
mores : (f : Form) (fs : Forms) → clipped.more (clip f) (clip_terms fs) ≡ clip_terms (shapes.Forms.More f fs)
mores f fs = go (nat_le (depth_of f) most_depth) (nat_le (depth_of_all fs) most_depth) refl refl
  where
    go : (r q : Bool) → nat_le (depth_of f) most_depth ≡ r → nat_le (depth_of_all fs) most_depth ≡ q
        → clipped.more (clip f) (clip_terms fs) ≡ clip_terms (shapes.Forms.More f fs)
    go true true e u = rw (e, u) refl
    go true false e u =
        let l = deep_terms (max (depth_of f) (suc most_depth)) (shapes.Forms.More f shapes.Forms.End)
        (over (max (depth_of f) (suc most_depth)) (omega arith)) in
        rw (e, u)
        (l ∙ sym (deep_terms (max (depth_of f) (depth_of_all fs)) (shapes.Forms.More f fs)
        (too_deep (depth_of_all fs) (max (depth_of f) (depth_of_all fs)) (omega arith) u)))
    go false true e u =
        let l = deep_terms (max (suc most_depth) (depth_of_all fs))
        (shapes.Forms.More (shapes.Form.Of shapes.Atom.Truth) fs)
        (over (max (suc most_depth) (depth_of_all fs)) (omega arith)) in
        rw (e, u)
        (l ∙ sym (deep_terms (max (depth_of f) (depth_of_all fs)) (shapes.Forms.More f fs)
        (too_deep (depth_of f) (max (depth_of f) (depth_of_all fs)) (omega arith) e)))
    go false false e u =
        rw (e, u)
        (sym (deep_terms (max (depth_of f) (depth_of_all fs)) (shapes.Forms.More f fs)
        (too_deep (depth_of f) (max (depth_of f) (depth_of_all fs)) (omega arith) e)))

-- so what is built keeps what is read
clip_keeps : Keeps trees clipped clip clip_terms
clip_keeps = record { negate = negates; join = joins; one = ones; end = refl; more = mores }

-- an atom of depth 1 is kept whole
leaf : (o : Option Form) → ((f : Form) → o ≡ Some f → depth_of f ≡ 1)
    → option_map (λ f. (1, f)) o ≡ option_map clip o
leaf None h = refl
leaf (Some f) h = rw (h f refl) refl

-- and atoms do
leaves_keep : (a : Atoms Form) → AreLeaves a → KeepsAtoms a (leaves a) clip
leaves_keep a h = record {
  plain = λ w. leaf (a.plain w) (h.plain w);
  equal = λ w k. leaf (a.equal w k) (h.equal w k);
  compare = λ w op digits. leaf (a.compare w op digits) (h.compare w op digits);
}

-- the reader that builds no deeper tree reads what the reader reads
pub reads_clipped : (a : Atoms Form) (ts : List Token) → AreLeaves a
    → formula_read clipped (leaves a) ts ≡ option_map clip (the_formula a ts)
unfolding the_formula
reads_clipped a ts h = reads_along trees clipped clip clip_terms clip_keeps a (leaves a) (leaves_keep a h) ts
