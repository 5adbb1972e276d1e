-- What is a formula is read, with its tree.
use Rattle.std.proofs.Common.{◌≡◌, ◌≤◌, ◌<◌, ℕ, suc, List, [], ◌∷◌, refl, arith, false, nat_le, ap, ◌∙◌, Some}
use Rattle.std.{proofs.lemmas.Bool.le-leb, proofs.lemmas.List.Sums.fold-append, specs.List.fold}
use Rattle.olap_numerals.specs.Comparing.{Op}
use Rattle.olap_grammar.{proofs.Levels.{row, apart}, specs.Forms.{Form, Forms}}
use Rattle.olap_grammar.specs.Grammar.{Atoms, level, left_level, right_level, comparing, digits_of, IsFormula, looser, joined, negated, bracketed, listed, plain, equal, compared, IsList, none, some, IsItems, last, more}
use Rattle.olap_grammar.specs.Machine.{trees, Frame, Negation, Left, Bracket, Listing, Part, State, Wants, WantsPart, Named, Compared, Has, settled, list_closed, after, after_word, after_compared, has_atom, step, alone, ended, formula_read}
use Rattle.olap_grammar.specs.declared.tokens.{Joint.Joint, Token.Token}
use Rattle.olap_grammar.specs.Forms as words
use Rattle.olap_grammar.specs.declared.tokens.Token.TheVariants as token
use Rattle.olap_grammar.specs.declared.tokens.Mark.TheVariants as mark

-- a formula of the level may stand on what is open
abbrev pub Admits : ℕ → List (Frame Form) → Type 0
Admits n [] = Unit {0}
Admits n (Negation ∷ s) = 6 ≤ n
Admits n (Left j g ∷ s) = right_level j ≤ n
Admits n (Bracket ∷ s) = Unit {0}
Admits n (Listing ∷ s) = Unit {0}
Admits n (Part g ∷ s) = Unit {0}

-- what may stand at one level may stand at a looser one's place
pub admits_more : (m n : ℕ) (s : List (Frame Form)) → m ≤ n → Admits m s → Admits n s
admits_more m n (Negation ∷ s) l h = omega arith
admits_more m n (Left j g ∷ s) l h = omega arith
admits_more m n s l h = tt

-- the state goes on as one in which the formula of the level was read on top of what is open
pub record Stands (a : Atoms Form) (n : ℕ) (f : Form) (s : List (Frame Form))
    (st : State Form) : Type 0 where
  pub joint : (j : Joint) → left_level j ≤ n
      → step trees a st (token.Mark (mark.Joint j)) ≡ after trees f s (token.Mark (mark.Joint j))
  pub close : step trees a st (token.Mark mark.Close) ≡ after trees f s (token.Mark mark.Close)
  pub comma : step trees a st (token.Mark mark.Comma) ≡ after trees f s (token.Mark mark.Comma)
  pub end : ended trees a st ≡ alone (settled trees 1 f s)

-- a formula that was read stands
stands_has : (a : Atoms Form) (n : ℕ) (f : Form) (s : List (Frame Form)) → Stands a n f s (Has f s)
stands_has a n f s = record { joint = λ j l. refl; close = refl; comma = refl; end = refl }

-- at a looser level too
stands_less : (a : Atoms Form) (m n : ℕ) (f : Form) (s : List (Frame Form)) (st : State Form) → m ≤ n
    → Stands a n f s st → Stands a m f s st
stands_less a m n f s st l h =
    record { joint = λ j k. h.joint j (omega arith); close = h.close; comma = h.comma; end = h.end }

-- more, as the test has it
lt_false : (m n : ℕ) → n < m → nat_le m n ≡ false
lt_false m n h = grind (arith)

-- where nothing of this level is open nothing is closed
settled_stays : (j : Joint) (f : Form) (s : List (Frame Form)) → Admits (level j) s
    → settled trees (left_level j) f s ≡ (f, s)
settled_stays j f (Negation ∷ s) h = absurd (omega (arith, (row j).most))
settled_stays j f (Left i g ∷ s) h = rw (lt_false (left_level j) (level i) (apart i j h)) refl
settled_stays j f s h = refl

-- what is read on top of a formula with its mark joins it
settled_joins : (n : ℕ) (j : Joint) (f g : Form) (s : List (Frame Form)) → n ≤ level j
    → settled trees n g (Left j f ∷ s) ≡ settled trees n (words.Form.Joined j f g) s
settled_joins n j f g s h = rw (le-leb n (level j) h) refl

-- a formula after a connective stands for both joined
stands_joined : (a : Atoms Form) (j : Joint) (f g : Form) (s : List (Frame Form)) (st : State Form)
    → Stands a (right_level j) g (Left j f ∷ s) st → Stands a (level j) (words.Form.Joined j f g) s st
stands_joined a j f g s st h = record {
  joint = λ i l. h.joint i (omega (arith, (row j).right_above)) ∙ rw (settled_joins (left_level i) j f g s l) refl;
  close = h.close ∙ rw (settled_joins 1 j f g s (row j).some) refl;
  comma = h.comma ∙ rw (settled_joins 1 j f g s (row j).some) refl;
  end = h.end ∙ rw (settled_joins 1 j f g s (row j).some) refl;
}

-- and one after a `!` for its negation
stands_negated : (a : Atoms Form) (f : Form) (s : List (Frame Form)) (st : State Form)
    → Stands a 6 f (Negation ∷ s) st → Stands a 6 (words.Form.Not f) s st
stands_negated a f s st h = record { joint = h.joint; close = h.close; comma = h.comma; end = h.end }

-- a word that is an atom stands
stands_named : (a : Atoms Form) (n : ℕ) (w : List ℕ) (f : Form) (s : List (Frame Form)) → a.plain w ≡ Some f
    → Stands a n f s (Named w s)
stands_named a n w f s e = record { joint = λ j l. rw e refl; close = rw e refl; comma = rw e refl; end = rw e refl }

-- after a word a mark that compares is kept
names_op : (a : Atoms Form) (w : List ℕ) (op : Op) (s : List (Frame Form))
    → after_word trees a w s (token.Mark (comparing op)) ≡ Compared w op s
names_op a w Op.Equal s = refl
names_op a w op s = refl

-- after a comparison a word has the digits
pub after_word_digits : (a : Atoms Form) (w : List ℕ) (op : Op) (s : List (Frame Form)) (v : List ℕ)
    → after_compared a w op s (token.Word v) ≡ has_atom (a.compare w op v) s
after_word_digits a w Op.Equal s v = refl
after_word_digits a w op s v = refl

-- or a number with its sign
pub after_signed_digits : (a : Atoms Form) (w : List ℕ) (op : Op) (s : List (Frame Form)) (v : List ℕ)
    → after_compared a w op s (token.Signed v) ≡ has_atom (a.compare w op v) s
after_signed_digits a w Op.Equal s v = refl
after_signed_digits a w op s v = refl

-- after it the digits of a number are compared with
after_digits : (a : Atoms Form) (w : List ℕ) (op : Op) (s : List (Frame Form)) (t : Token) (v : List ℕ)
    → digits_of t ≡ Some v → after_compared a w op s t ≡ has_atom (a.compare w op v) s
after_digits a w op s (token.Word u) v e = let same : u ≡ v = cc in rw same (after_word_digits a w op s v)
after_digits a w op s (token.Signed u) v e = let same : u ≡ v = cc in rw same (after_signed_digits a w op s v)
after_digits a w op s t v e = absurd cc

-- a formula at the head of a list is read as elsewhere
starts : {a : Atoms Form} {n : ℕ} {ts : List Token} {f : Form} → IsFormula a n ts f → (s : List (Frame Form))
    → fold (step trees a) (WantsPart s) ts ≡ fold (step trees a) (Wants (Listing ∷ s)) ts
starts (looser d) s = starts d s
starts {a = a} (joined j {left = left} {right = right} d e) s =
    fold-append (step trees a) _ left _
    ∙ ap (λ st. fold (step trees a) st (token.Mark (mark.Joint j) ∷ right)) (starts d s)
    ∙ rw (fold-append (step trees a) (Wants (Listing ∷ s)) left (token.Mark (mark.Joint j) ∷ right)) refl
starts (negated d) s = refl
starts (bracketed d) s = refl
starts (listed d) s = refl
starts (plain e) s = refl
starts (equal e) s = refl
starts (compared op t e p) s = refl

-- a list is open, after its start or a comma
abbrev pub IsOpenList : List (Frame Form) → Type 0
IsOpenList [] = ⊥
IsOpenList (Negation ∷ s) = ⊥
IsOpenList (Left j g ∷ s) = ⊥
IsOpenList (Bracket ∷ s) = ⊥
IsOpenList (Listing ∷ s) = Unit {0}
IsOpenList (Part g ∷ s) = Unit {0}

-- a bracket closes the list with this part as the last
closes_last : (a : Atoms Form) (f : Form) (s : List (Frame Form)) → IsOpenList s
    → after trees f s (token.Mark mark.Close) ≡ list_closed trees (words.Forms.More f words.Forms.End) s
closes_last a f (Listing ∷ s) h = refl
closes_last a f (Part g ∷ s) h = refl
closes_last a f s h = absurd h

-- a comma leaves the part open
parts_one : (f : Form) (s : List (Frame Form)) → IsOpenList s
    → after trees f s (token.Mark mark.Comma) ≡ Wants (Part f ∷ s)
parts_one f (Listing ∷ s) h = refl
parts_one f (Part g ∷ s) h = refl
parts_one f s h = absurd h

-- in a list a part of any level may stand
admits_any : (n : ℕ) (s : List (Frame Form)) → IsOpenList s → Admits n s
admits_any n (Listing ∷ s) h = tt
admits_any n (Part g ∷ s) h = tt
admits_any n s h = absurd h

mutual
  reads : {a : Atoms Form} {n : ℕ} {ts : List Token} {f : Form} → IsFormula a n ts f
      → (s : List (Frame Form)) → Admits n s → Stands a n f s (fold (step trees a) (Wants s) ts)
  reads {a = a} {n = n} {ts = ts} {f = f} (looser d) s h =
      stands_less a n (suc n) f s _ (omega arith) (reads d s (admits_more n (suc n) s (omega arith) h))
  reads {a = a} (joined j {left = left} {right = right} {f = f} {g = g} d e) s h =
      rw (
        fold-append (step trees a) (Wants s) left (token.Mark (mark.Joint j) ∷ right),
        (reads d s (admits_more (level j) (left_level j) s (row j).left_above h)).joint j (omega arith),
        settled_stays j f s h,
      ) (stands_joined a j f g s _ (reads e (Left j f ∷ s) (omega arith)))
  reads {a = a} (negated {f = f} d) s h = stands_negated a f s _ (reads d (Negation ∷ s) (omega arith))
  reads {a = a} (bracketed {ts = ts} {f = f} d) s h =
      rw (
        fold-append (step trees a) (Wants (Bracket ∷ s)) ts (token.Mark mark.Close ∷ []),
        (reads d (Bracket ∷ s) tt).close,
      )
      (stands_has a 7 f s)
  reads {a = a} (listed {ts = ts} {fs = fs} d) s h =
      rw (fold-append (step trees a) (WantsPart s) ts (token.Mark mark.Close ∷ []), reads_list d s)
      (stands_has a 7 (words.Form.One fs) s)
  reads {a = a} (plain {w = w} {f = f} e) s h = stands_named a 7 w f s e
  reads {a = a} (equal {w = w} {k = k} {f = f} e) s h = rw e (stands_has a 7 f s)
  reads {a = a} (compared op t {w = w} {digits = v} {f = f} e p) s h =
      rw (names_op a w op s, after_digits a w op s t v e, p) (stands_has a 7 f s)

  reads_list : {a : Atoms Form} {ts : List Token} {fs : Forms} → IsList a ts fs → (s : List (Frame Form))
      → step trees a (fold (step trees a) (WantsPart s) ts) (token.Mark mark.Close) ≡ Has (words.Form.One fs) s
  reads_list none s = refl
  reads_list (some d) s = rw (starts_items d s) (reads_items d (Listing ∷ s) tt)

  starts_items : {a : Atoms Form} {ts : List Token} {fs : Forms} → IsItems a ts fs → (s : List (Frame Form))
      → fold (step trees a) (WantsPart s) ts ≡ fold (step trees a) (Wants (Listing ∷ s)) ts
  starts_items (last d) s = starts d s
  starts_items {a = a} (more {ts = ts} {us = us} d e) s =
      rw (
        fold-append (step trees a) (WantsPart s) ts (token.Mark mark.Comma ∷ us),
        fold-append (step trees a) (Wants (Listing ∷ s)) ts (token.Mark mark.Comma ∷ us),
        starts d s,
      ) refl

  reads_items : {a : Atoms Form} {ts : List Token} {fs : Forms} → IsItems a ts fs → (s : List (Frame Form))
      → IsOpenList s → step trees a (fold (step trees a) (Wants s) ts) (token.Mark mark.Close) ≡ list_closed trees fs s
  reads_items {a = a} (last {f = f} d) s h = (reads d s (admits_any 1 s h)).close ∙ closes_last a f s h
  reads_items {a = a} (more {ts = ts} {us = us} {f = f} d e) s h =
      rw (
        fold-append (step trees a) (Wants s) ts (token.Mark mark.Comma ∷ us),
        (reads d s (admits_any 1 s h)).comma,
        parts_one f s h,
      ) (reads_items e (Part f ∷ s) tt)

-- what is a formula is read, with its tree
pub formula_is_read : (a : Atoms Form) (ts : List Token) (f : Form) → IsFormula a 1 ts f
    → formula_read trees a ts ≡ Some f
formula_is_read a ts f d = (reads d [] tt).end
