-- What is read is a formula, with this tree.
use Rattle.std.proofs.Common.{◌≡◌, ◌≤◌, ◌<◌, ◌+◌, ℕ, suc, zero, ◌-◌, lit≤, append-nil, Bool, List, [], ◌∷◌, ◌++◌, refl, arith, true, false, cond, nat_le, sym, ◌∙◌, Option, Some, None, codes, append_assoc, option_and_then}
use Rattle.std.{proofs.lemmas.Bool.leb-true, proofs.lemmas.Slice.Eq.bytes_eq-Decides, specs.List.fold}
use Rattle.olap_numerals.specs.Comparing.{Op}
use Rattle.olap_grammar.proofs.{Complete.{Admits, admits_more, after_signed_digits, after_word_digits}, Levels.row}
use Rattle.olap_grammar.specs.Forms.{Form, Forms}
use Rattle.olap_grammar.specs.Grammar.{Atoms, level, left_level, right_level, comparing, digits_of, IsFormula, looser, joined, negated, bracketed, listed, plain, equal, compared, none, some, IsItems, last, more}
use Rattle.olap_grammar.specs.Machine.{trees, Frame, Negation, Left, Bracket, Listing, Part, State, Wants, WantsPart, Named, Compared, Has, Bad, settled, list_closed, closed, parted, after, after_atom, after_word, after_compared, has_atom, begun, begun_part, is_one, step, alone, ended, formula_read}
use Rattle.olap_grammar.specs.declared.tokens.{Joint.Joint, Token.Token}
use Rattle.olap_grammar.specs.Forms as words
use Rattle.olap_grammar.specs.declared.tokens.Token.TheVariants as token
use Rattle.olap_grammar.specs.declared.tokens.Mark.TheVariants as mark
use Rattle.olap_grammar.specs.declared.tokens.Joint.TheVariants as joint

-- a formula of a tighter level is one of a looser level
down : {a : Atoms Form} {ts : List Token} {f : Form} (k n : ℕ) → IsFormula a (k + n) ts f → IsFormula a n ts f
down zero n d = let e : zero + n ≡ n = omega arith in rw e at d
down {a = a} {ts = ts} {f = f} (suc k) n d = let e : suc k + n ≡ suc (k + n) =
    omega arith in down k n (looser (rw e at d))

-- a formula of a tighter level is one of a looser
pub tighter : {a : Atoms Form} {ts : List Token} {f : Form} (m n : ℕ) → m ≤ n → IsFormula a n ts f
    → IsFormula a m ts f
tighter m n l d = let e : n ≡ (n - m) + m = omega arith in down (n - m) m (rw e at d)

-- the tokens before, with what of them is open
abbrev pub Opened : Atoms Form → List (Frame Form) → List Token → Type 0
Opened a [] b = b ≡ []
Opened a (Negation ∷ s) b = (c : List Token) × (b ≡ c ++ token.Mark mark.Not ∷ []) × Opened a s c
Opened a (Left j f ∷ s) b = (c l : List Token) × (b ≡ c ++ (l ++ token.Mark (mark.Joint j) ∷ []))
    × IsFormula a (left_level j) l f
    × Admits (level j) s × Opened a s c
Opened a (Bracket ∷ s) b = (c : List Token) × (b ≡ c ++ token.Mark mark.Open ∷ []) × Opened a s c
Opened a (Listing ∷ s) b = (c : List Token) × (b ≡ c ++ token.Word (codes "one") ∷ token.Mark mark.Open ∷ [])
    × Opened a s c
Opened a (Part f ∷ s) b = (c l : List Token) × (b ≡ c ++ (l ++ token.Mark mark.Comma ∷ [])) × IsFormula a 1 l f
    × Opened a s c

-- a formula of the level was read on top of what is open
pub record Reached (a : Atoms Form) (n : ℕ) (f : Form) (s : List (Frame Form)) (b : List Token) : Type 0 where
  pub earlier : List Token
  pub own : List Token
  pub all : b ≡ earlier ++ own
  pub formula : IsFormula a n own f
  pub opened : Opened a s earlier

-- what the tokens so far say in a state of the machine
abbrev pub Tells : Atoms Form → State Form → List Token → Type 0
Tells a (Wants s) b = Opened a s b
Tells a (WantsPart s) b = Opened a (Listing ∷ s) b
Tells a (Named w s) b = (c : List Token) × (b ≡ c ++ token.Word w ∷ []) × Opened a s c
Tells a (Compared w op s) b = (c : List Token) × (b ≡ c ++ token.Word w ∷ token.Mark (comparing op) ∷ []) × Opened a s c
Tells a (Has f s) b = Reached a 7 f s b
Tells a Bad b = Unit {0}

-- nothing of the level or a tighter one is on top
abbrev pub IsSettled : ℕ → List (Frame Form) → Type 0
IsSettled n [] = Unit {0}
IsSettled n (Negation ∷ s) = ⊥
IsSettled n (Left j f ∷ s) = level j < n
IsSettled n (Bracket ∷ s) = Unit {0}
IsSettled n (Listing ∷ s) = Unit {0}
IsSettled n (Part f ∷ s) = Unit {0}

-- a formula that was reached at a tighter level was at a looser
loosened : (a : Atoms Form) (k n : ℕ) (f : Form) (s : List (Frame Form)) (b : List Token) → k ≤ n
    → Reached a n f s b → Reached a k f s b
loosened a k n f s b l r =
    record { earlier = r.earlier; own = r.own; all = r.all; formula = tighter k n l r.formula; opened = r.opened }

-- the same of what was closed: no more can be closed at that level
abbrev pub IsReached : Atoms Form → ℕ → Form × List (Frame Form) → List Token → Type 0
IsReached a n (f, s) b = Reached a n f s b × IsSettled n s

-- more, by the test
false_lt : (m n : ℕ) → nat_le m n ≡ false → n < m
false_lt m n e = grind (arith)

-- anything open lets a negation stand
admits_six : (s : List (Frame Form)) → Admits 6 s
admits_six (Negation ∷ s) = lit≤ tt
admits_six (Left j f ∷ s) = (row j).right_most
admits_six s = tt

-- what is closed at a level was reached at it
settles : (a : Atoms Form) (k n : ℕ) (f : Form) (s : List (Frame Form)) (b : List Token) → k ≤ n → k ≤ 6
    → Admits n s → Reached a n f s b → IsReached a k (settled trees k f s) b
settles a k n f (Negation ∷ s) b l m h r =
    let o = r.opened in
    settles a k 6 (words.Form.Not f) s b m m (admits_six s)
    (record {
      earlier = o.0;
      own = token.Mark mark.Not ∷ r.own;
      all = r.all
          ∙ rw (o.1, append_assoc) refl;
      formula = negated (tighter 6 n h r.formula);
      opened = o.2;
    })
settles a k n f (Left j g ∷ s) b l m h r = go (nat_le k (level j)) refl
    (λ q. let o = r.opened in settles a k (level j) (words.Form.Joined j g f) s b q m o.4
    (record {
      earlier = o.0;
      own = o.1 ++ token.Mark (mark.Joint j) ∷ r.own;
      all = r.all
          ∙ rw o.2 (simp append_assoc);
      formula = joined j o.3 (tighter (right_level j) n h r.formula);
      opened = o.5;
    }))
  where
    go : (t : Bool) → nat_le k (level j) ≡ t
        → (k ≤ level j → IsReached a k (settled trees k (words.Form.Joined j g f) s) b)
        → IsReached a k (cond t (settled trees k (words.Form.Joined j g f) s) (f, Left j g ∷ s)) b
    go true e ih = ih (leb-true k (level j) e)
    go false e ih = (loosened a k n f _ b l r, false_lt k (level j) e)
settles a k n f s b l m h r = (loosened a k n f _ b l r, tt)

-- what a mark leaves open lets it stand
lets_stand : (i j : Joint) → level i < left_level j → right_level i ≤ level j
lets_stand joint.Iff joint.Iff h = omega arith
lets_stand joint.Implies joint.Iff h = omega arith
lets_stand joint.Xor joint.Iff h = omega arith
lets_stand joint.Or joint.Iff h = omega arith
lets_stand joint.And joint.Iff h = omega arith
lets_stand i j h = omega arith

-- what is left open lets the connective stand
settled_admits : (j : Joint) (s : List (Frame Form)) → IsSettled (left_level j) s → Admits (level j) s
settled_admits j (Negation ∷ s) h = absurd h
settled_admits j (Left i f ∷ s) h = lets_stand i j h
settled_admits j s h = tt

-- ---- closing

-- the end of a list
list_tells : (a : Atoms Form) (fs : Forms) (s : List (Frame Form)) (b c us : List Token) → b ≡ c ++ us
    → IsItems a us fs → Opened a s c → Tells a (list_closed trees fs s) (b ++ token.Mark mark.Close ∷ [])
list_tells a fs (Listing ∷ s) b c us e d o =
    record {
      earlier = o.0;
      own = token.Word (codes "one") ∷ token.Mark mark.Open ∷ (us ++ token.Mark mark.Close ∷ []);
      all = rw (e, o.1)
          (simp append_assoc);
      formula = listed (some d);
      opened = o.2;
    }
list_tells a fs (Part f ∷ s) b c us e d o =
    list_tells a (words.Forms.More f fs) s b o.0 (o.1 ++ token.Mark mark.Comma ∷ us) (rw (e, o.2) (simp append_assoc))
    (more o.3 d) o.4
list_tells a fs s b c us e d o = tt

-- a closed bracket
closed_tells : (a : Atoms Form) (r : Form × List (Frame Form)) (b : List Token) → IsReached a 1 r b
    → Tells a (closed trees r.0 r.1) (b ++ token.Mark mark.Close ∷ [])
closed_tells a (f, []) b h = tt
closed_tells a (f, Negation ∷ s) b h = tt
closed_tells a (f, Left j g ∷ s) b h = tt
closed_tells a (f, Bracket ∷ s) b h =
    let r = h.0 in let o = r.opened in
    record {
      earlier = o.0;
      own = token.Mark mark.Open ∷ (r.own ++ token.Mark mark.Close ∷ []);
      all = rw (r.all, o.1)
          (simp append_assoc);
      formula = bracketed r.formula;
      opened = o.2;
    }
closed_tells a (f, Listing ∷ s) b h =
    list_tells a _ (Listing ∷ s) b (h.0).earlier (h.0).own (h.0).all (last (h.0).formula) (h.0).opened
closed_tells a (f, Part g ∷ s) b h =
    list_tells a _ (Part g ∷ s) b (h.0).earlier (h.0).own (h.0).all (last (h.0).formula) (h.0).opened

-- a comma
parted_tells : (a : Atoms Form) (r : Form × List (Frame Form)) (b : List Token) → IsReached a 1 r b
    → Tells a (parted r.0 r.1) (b ++ token.Mark mark.Comma ∷ [])
parted_tells a (f, []) b h = tt
parted_tells a (f, Negation ∷ s) b h = tt
parted_tells a (f, Left j g ∷ s) b h = tt
parted_tells a (f, Bracket ∷ s) b h = tt
parted_tells a (f, Listing ∷ s) b h = let r = h.0 in
    (r.earlier, r.own, rw r.all (simp append_assoc), r.formula, r.opened)
parted_tells a (f, Part g ∷ s) b h = let r = h.0 in
    (r.earlier, r.own, rw r.all (simp append_assoc), r.formula, r.opened)

-- a connective
left_tells : (a : Atoms Form) (j : Joint) (r : Form × List (Frame Form)) (b : List Token)
    → IsReached a (left_level j) r b → Opened a (Left j r.0 ∷ r.1) (b ++ token.Mark (mark.Joint j) ∷ [])
left_tells a j (f, s) b h = let r = h.0 in
    (r.earlier, r.own, rw r.all (simp append_assoc), r.formula, settled_admits j s h.1, r.opened)

-- any token after a formula
after_tells : (a : Atoms Form) (f : Form) (s : List (Frame Form)) (t : Token) (b : List Token)
    → Reached a 7 f s b → Tells a (after trees f s t) (b ++ t ∷ [])
after_tells a f s (token.Mark (mark.Joint j)) b r =
    left_tells a j (settled trees (left_level j) f s) b
    (settles a (left_level j) 7 f s b (omega (arith, (row j).left_most)) (row j).left_most
    (admits_more 6 7 s (lit≤ tt) (admits_six s)) r)
after_tells a f s (token.Mark mark.Close) b r = closed_tells a (settled trees 1 f s) b
    (settles a 1 7 f s b (lit≤ tt) (lit≤ tt) (admits_more 6 7 s (lit≤ tt) (admits_six s)) r)
after_tells a f s (token.Mark mark.Comma) b r = parted_tells a (settled trees 1 f s) b
    (settles a 1 7 f s b (lit≤ tt) (lit≤ tt) (admits_more 6 7 s (lit≤ tt) (admits_six s)) r)
after_tells a f s t b r = tt

-- any where a formula is to come
begun_tells : (a : Atoms Form) (s : List (Frame Form)) (t : Token) (b : List Token) → Opened a s b
    → Tells a (begun s t) (b ++ t ∷ [])
begun_tells a s (token.Word w) b o = (b, refl, o)
begun_tells a s (token.Mark mark.Open) b o = (b, refl, o)
begun_tells a s (token.Mark mark.Not) b o = (b, refl, o)
begun_tells a s t b o = tt

-- any where a list begins
part_tells : (a : Atoms Form) (s : List (Frame Form)) (t : Token) (b : List Token) → Opened a (Listing ∷ s) b
    → Tells a (begun_part trees s t) (b ++ t ∷ [])
part_tells a s (token.Mark mark.Close) b o =
    record {
      earlier = o.0;
      own = token.Word (codes "one") ∷ token.Mark mark.Open ∷ token.Mark mark.Close ∷ [];
      all = rw o.1
          (simp append_assoc);
      formula = listed none;
      opened = o.2;
    }
part_tells a s (token.Word w) b o = begun_tells a (Listing ∷ s) (token.Word w) b o
part_tells a s (token.Mark mark.Open) b o = begun_tells a (Listing ∷ s) (token.Mark mark.Open) b o
part_tells a s (token.Mark mark.Not) b o = begun_tells a (Listing ∷ s) (token.Mark mark.Not) b o
part_tells a s t b o = tt

-- any after an atom
atom_tells : (a : Atoms Form) (w : List ℕ) (s : List (Frame Form)) (t : Token) (b c : List Token)
    → b ≡ c ++ token.Word w ∷ [] → Opened a s c → (o : Option Form) → a.plain w ≡ o
    → Tells a (after_atom trees o s t) (b ++ t ∷ [])
atom_tells a w s t b c e h None p = tt
atom_tells a w s t b c e h (Some f) p =
    after_tells a f s t b (record { earlier = c; own = token.Word w ∷ []; all = e; formula = plain p; opened = h })

-- any after a word
word_tells : (a : Atoms Form) (w : List ℕ) (s : List (Frame Form)) (t : Token) (b : List Token)
    → Tells a (Named w s) b → Tells a (after_word trees a w s t) (b ++ t ∷ [])
word_tells a w s (token.Mark mark.Open) b h = go (is_one w) refl
  where
    go : (t : Bool) → is_one w ≡ t → Tells a (cond t (WantsPart s) Bad) (b ++ token.Mark mark.Open ∷ [])
    go true e = let same : w ≡ codes "one" = (bytes_eq-Decides w (codes "one")).0 e in
        (h.0, rw (h.1, same) (simp append_assoc), h.2)
    go false e = tt
word_tells a w s (token.Mark (mark.Joint j)) b h =
    atom_tells a w s (token.Mark (mark.Joint j)) b h.0 h.1 h.2 (a.plain w) refl
word_tells a w s (token.Mark mark.Close) b h = atom_tells a w s (token.Mark mark.Close) b h.0 h.1 h.2 (a.plain w) refl
word_tells a w s (token.Mark mark.Comma) b h = atom_tells a w s (token.Mark mark.Comma) b h.0 h.1 h.2 (a.plain w) refl
word_tells a w s (token.Word v) b h = atom_tells a w s (token.Word v) b h.0 h.1 h.2 (a.plain w) refl
word_tells a w s (token.Quoted k) b h = atom_tells a w s (token.Quoted k) b h.0 h.1 h.2 (a.plain w) refl
word_tells a w s (token.Signed v) b h = atom_tells a w s (token.Signed v) b h.0 h.1 h.2 (a.plain w) refl
word_tells a w s (token.Mark mark.Colon) b h = atom_tells a w s (token.Mark mark.Colon) b h.0 h.1 h.2 (a.plain w) refl
word_tells a w s (token.Mark mark.Not) b h = atom_tells a w s (token.Mark mark.Not) b h.0 h.1 h.2 (a.plain w) refl
word_tells a w s t b h = (h.0, rw h.1 (simp append_assoc), h.2)

-- a string after a word and `=`
equal_tells : (a : Atoms Form) (w k : List ℕ) (s : List (Frame Form)) (b c : List Token)
    → b ≡ c ++ token.Word w ∷ token.Mark mark.Equal ∷ [] → Opened a s c → (o : Option Form) → a.equal w k ≡ o
    → Tells a (has_atom o s) (b ++ token.Quoted k ∷ [])
equal_tells a w k s b c e h None p = tt
equal_tells a w k s b c e h (Some f) p =
    record {
      earlier = c;
      own = token.Word w ∷ token.Mark mark.Equal ∷ token.Quoted k ∷ [];
      all = rw e
          (simp append_assoc);
      formula = equal p;
      opened = h;
    }

-- a number after a word and its mark
number_tells : (a : Atoms Form) (w : List ℕ) (op : Op) (t : Token) (v : List ℕ) (s : List (Frame Form))
    (b c : List Token) → b ≡ c ++ token.Word w ∷ token.Mark (comparing op) ∷ [] → Opened a s c → digits_of t ≡ Some v
    → (o : Option Form) → a.compare w op v ≡ o → Tells a (has_atom o s) (b ++ t ∷ [])
number_tells a w op t v s b c e h d None p = tt
number_tells a w op t v s b c e h d (Some f) p =
    record {
      earlier = c;
      own = token.Word w ∷ token.Mark (comparing op) ∷ t ∷ [];
      all = rw e
          (simp append_assoc);
      formula = compared op t d p;
      opened = h;
    }

-- any token after these
compared_tells : (a : Atoms Form) (w : List ℕ) (op : Op) (s : List (Frame Form)) (t : Token) (b : List Token)
    → Tells a (Compared w op s) b → Tells a (after_compared a w op s t) (b ++ t ∷ [])
compared_tells a w Op.Equal s (token.Quoted k) b h = equal_tells a w k s b h.0 h.1 h.2 (a.equal w k) refl
compared_tells a w op s (token.Word v) b h =
    rw (after_word_digits a w op s v)
    (number_tells a w op (token.Word v) v s b h.0 h.1 h.2 refl (a.compare w op v) refl)
compared_tells a w op s (token.Signed v) b h =
    rw (after_signed_digits a w op s v)
    (number_tells a w op (token.Signed v) v s b h.0 h.1 h.2 refl (a.compare w op v) refl)
compared_tells a w op s t b h = tt

-- one token more
step_tells : (a : Atoms Form) (st : State Form) (t : Token) (b : List Token) → Tells a st b
    → Tells a (step trees a st t) (b ++ t ∷ [])
step_tells a (Wants s) t b h = begun_tells a s t b h
step_tells a (WantsPart s) t b h = part_tells a s t b h
step_tells a (Named w s) t b h = word_tells a w s t b h
step_tells a (Compared w op s) t b h = compared_tells a w op s t b h
step_tells a (Has f s) t b h = after_tells a f s t b h
step_tells a Bad t b h = tt

-- all tokens
run_tells : (a : Atoms Form) (st : State Form) (ts b : List Token) → Tells a st b
    → Tells a (fold (step trees a) st ts) (b ++ ts)
run_tells a st [] b h = rw append-nil h
run_tells a st (t ∷ ts) b h = let e : (b ++ t ∷ []) ++ ts ≡ b ++ t ∷ ts =
    simp append_assoc in rw e at (run_tells a (step trees a st t) ts (b ++ t ∷ []) (step_tells a st t b h))

-- a formula with nothing open is what the tokens are
alone_tells : (a : Atoms Form) (r : Form × List (Frame Form)) (b : List Token) (f : Form)
    → IsReached a 1 r b → alone r ≡ Some f → IsFormula a 1 b f
alone_tells a (g, []) b f h e =
    let r = h.0 in let same : g ≡ f = cc in
    let all : r.own ≡ b = sym (r.all ∙ rw r.opened refl) in
    rw (same, all) at r.formula
alone_tells a (g, x ∷ s) b f h e = absurd cc

-- so what is found at the end is a formula
ended_tells : (a : Atoms Form) (st : State Form) (b : List Token) (f : Form) → Tells a st b
    → ended trees a st ≡ Some f → IsFormula a 1 b f
ended_tells a (Has g s) b f h e = alone_tells a (settled trees 1 g s) b f
    (settles a 1 7 g s b (lit≤ tt) (lit≤ tt) (admits_more 6 7 s (lit≤ tt) (admits_six s)) h) e
ended_tells a (Named w s) b f h e = go (a.plain w) refl e
  where
    go : (o : Option Form) → a.plain w ≡ o → option_and_then (λ g. alone (settled trees 1 g s)) o ≡ Some f
        → IsFormula a 1 b f
    go None p q = absurd cc
    go (Some g) p q = alone_tells a (settled trees 1 g s) b f
        (settles a 1 7 g s b (lit≤ tt) (lit≤ tt) (admits_more 6 7 s (lit≤ tt) (admits_six s))
        (record { earlier = h.0; own = token.Word w ∷ []; all = h.1; formula = plain p; opened = h.2 })) q
ended_tells a st b f h e = absurd cc

-- what is read is a formula, with this tree
pub read_is_formula : (a : Atoms Form) (ts : List Token) (f : Form) → formula_read trees a ts ≡ Some f
    → IsFormula a 1 ts f
read_is_formula a ts f e = ended_tells a (fold (step trees a) (Wants []) ts) ts f (run_tells a (Wants []) ts [] refl) e
