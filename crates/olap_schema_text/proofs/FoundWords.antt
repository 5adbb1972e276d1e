-- What stands in a formula over words that was found among tokens.
use Rattle.std.proofs.Common.{◌≡◌, ◌≢◌, ◌≤◌, ℕ, Bool, true, false, cond, List, [], ◌∷◌, ◌++◌, Option, Some, None, length, codes, refl, subst, arith, nat_lt, ap}
use Rattle.std.{proofs.lemmas.Bool.{ltb-false, or_parts}, specs.List.{list_all, list_any}, specs.Option.option_map}
use Rattle.std.specs.{Prelude.{◌&&◌, option_and_then}, Str.bytes_eq}
use Rattle.olap_base.specs.{Limits.most_text_bytes, Reaching.is_category_name}
use Rattle.olap_numerals.specs.Comparing.{Op}
use Rattle.olap_grammar.specs.{Cutting.has_numbers, Forms.{Atom, Form, Forms}}
use Rattle.olap_grammar.specs.Grammar.{IsFormula, IsFormula.looser, IsFormula.joined, IsFormula.negated, IsFormula.bracketed, IsFormula.listed, IsFormula.plain, IsFormula.equal, IsFormula.compared, IsItems, IsItems.last, IsItems.more, IsList, IsList.none, IsList.some}
use Rattle.olap_grammar.specs.Words.{atoms_of, compare_of, compared_in, equal_of, is_number_token, path_of, pieces_of, plain_of, reach_of}
use Rattle.olap_grammar.specs.declared.tokens.{Token.Token, Version.Version}
use Rattle.olap_schema_text.{proofs.BackBytes.IsPlain, proofs.ValidTexts.{AreFine, parts_fine}, specs.Tokens.is_long}
use Rattle.olap_grammar.specs.Forms as words
use Rattle.olap_grammar.specs.declared.tokens.Token.TheVariants as token
use Rattle.olap_grammar.specs.declared.tokens.Mark.TheVariants as mark

-- ---- atoms

-- a path has another name than the root's, and a text can stand in a line and isn't too long
abbrev pub IsSpelt : Atom → Type 0
IsSpelt (words.Atom.Path root names) = names ≢ []
IsSpelt (words.Atom.Equals root d k) = IsPlain k × (length k ≤ most_text_bytes)
IsSpelt a = Unit {0}

-- what was found is so
abbrev Finds : Option Atom → Type 0
Finds o = (a : Atom) → o ≡ Some a → IsSpelt a

-- nothing was found
nothing_found : Finds None
nothing_found a e = absurd (cc)

-- an atom was
one_found : (b : Atom) → IsSpelt b → Finds (Some b)
one_found b h a e = let s : b ≡ a = cc in subst IsSpelt s h

-- one of two of which each is so
pick : (b : Bool) (x y : Option Atom) → Finds x → Finds y → Finds (cond b x y)
pick true x y p q = p
pick false x y p q = q

-- what is found among names, if they are names
named_found : (b : Bool) (names : List (List ℕ)) (f : List (List ℕ) → Option Atom) → Finds (f names)
    → Finds (option_and_then f (cond b (Some names) None))
named_found true names f h = h
named_found false names f h = nothing_found

-- a path has two names or more
path_found : (names : List (List ℕ)) → Finds (path_of names)
path_found (root ∷ d ∷ ds) = one_found (words.Atom.Path root (d ∷ ds)) more
  where
    more : d ∷ ds ≢ []
    more e = let l : ◌≡◌ {A = ℕ} (length (d ∷ ds)) 0 = ap length e in absurd (omega (arith, l))
path_found names = nothing_found

-- a reaching has no text
reach_found : (names : List (List ℕ)) → Finds (reach_of names)
reach_found (root ∷ d ∷ []) = one_found (words.Atom.Reach root d) tt
reach_found (root ∷ d ∷ e ∷ []) = one_found (words.Atom.Via root d e) tt
reach_found names = nothing_found

-- a word by itself
plain_found : (w : List ℕ) → Finds (plain_of w)
unfolding plain_of
plain_found w =
    pick (bytes_eq w (codes "true")) _ _ (one_found words.Atom.Truth tt)
    (pick (bytes_eq w (codes "false")) _ _ (one_found words.Atom.Falsity tt)
    (pick (nat_lt 1 (length (pieces_of 95 w))) _ _
    (named_found (list_all is_category_name (pieces_of 95 w)) (pieces_of 95 w) path_of (path_found (pieces_of 95 w)))
    (named_found (list_all is_category_name (pieces_of 46 w)) (pieces_of 46 w) reach_of
    (reach_found (pieces_of 46 w)))))

-- a word with a string
equal_found : (k : List ℕ) → IsPlain k → length k ≤ most_text_bytes → (o : Option (List ℕ × List ℕ))
    → Finds (option_map (λ ends. words.Atom.Equals ends.0 ends.1 k) o)
equal_found k p l None = nothing_found
equal_found k p l (Some ends) = one_found (words.Atom.Equals ends.0 ends.1 k) (p, l)

-- a word with a number
compare_found : (op : Op) (digits : List ℕ) (b : Bool) (o : Option (List ℕ × List ℕ))
    → Finds (cond b (option_map (λ ends. words.Atom.Compare ends.0 ends.1 op digits) o) None)
compare_found op digits true (Some ends) = one_found (words.Atom.Compare ends.0 ends.1 op digits) tt
compare_found op digits b o = nothing_found

-- ---- formulas

abbrev mutual
  -- each atom is so
  pub AreSpelt : Form → Type 0
  AreSpelt (words.Form.Of a) = IsSpelt a
  AreSpelt (words.Form.Not f) = AreSpelt f
  AreSpelt (words.Form.Joined j f g) = AreSpelt f × AreSpelt g
  AreSpelt (words.Form.One fs) = AllAreSpelt fs

  -- and of each part of `one(..)`
  pub AllAreSpelt : Forms → Type 0
  AllAreSpelt words.Forms.End = Unit {0}
  AllAreSpelt (words.Forms.More f fs) = AreSpelt f × AllAreSpelt fs

-- an atom that was found
atom_is : (o : Option Atom) → Finds o → (f : Form) → option_map words.Form.Of o ≡ Some f → AreSpelt f
atom_is None h f e = absurd (cc)
atom_is (Some a) h f e = let s : words.Form.Of a ≡ f = cc in subst AreSpelt s (h a refl)

-- tokens with strings that can stand in a line and aren't too long
record AreGood (ts : List Token) : Type 0 where
  fine : AreFine ts
  short : list_any is_long ts ≡ false

-- without the first
behind : (t : Token) (ts : List Token) → AreGood (t ∷ ts) → AreGood ts
behind t ts h = record { fine = h.fine.1; short = (or_parts _ _ h.short).1 }

-- none of both together is long, none of either
none_long : (ts us : List Token) → list_any is_long (ts ++ us) ≡ false
    → (list_any is_long ts ≡ false) × (list_any is_long us ≡ false)
none_long [] us h = (refl, h)
none_long (t ∷ ts) us h =
    let first = or_parts (is_long t) (list_any is_long (ts ++ us)) h in
    let rest = none_long ts us first.1 in
    (rw first.0 rest.0, rest.1)

-- in two parts
parts_good : (ts us : List Token) → AreGood (ts ++ us) → AreGood ts × AreGood us
parts_good ts us h =
    let f = parts_fine ts us h.fine in
    let s = none_long ts us h.short in
    (record { fine = f.0; short = s.0 }, record { fine = f.1; short = s.1 })

-- a string among them
string_good : (k : List ℕ) (us : List Token) → AreGood (token.Quoted k ∷ us)
    → IsPlain k × (length k ≤ most_text_bytes)
unfolding is_long
string_good k us h = (h.fine.0 k refl, ltb-false most_text_bytes (length k) (or_parts _ _ h.short).0)

module _ (v : Version) where
  mutual
    good_are_spelt : {n : ℕ} {ts : List Token} {f : Form} → IsFormula (atoms_of v) n ts f → AreGood ts → AreSpelt f
    good_are_spelt (looser d) h = good_are_spelt d h
    good_are_spelt (joined j {left = left} {right = right} d e) h =
        let t = parts_good left (token.Mark (mark.Joint j) ∷ right) h in
        (good_are_spelt d t.0, good_are_spelt e (behind (token.Mark (mark.Joint j)) right t.1))
    good_are_spelt (negated {ts = ts} d) h = good_are_spelt d (behind (token.Mark mark.Not) ts h)
    good_are_spelt (bracketed {ts = ts} d) h =
        let inner = behind (token.Mark mark.Open) (ts ++ token.Mark mark.Close ∷ []) h in
        good_are_spelt d (parts_good ts (token.Mark mark.Close ∷ []) inner).0
    good_are_spelt (listed {ts = ts} d) h =
        let within : List Token = ts ++ token.Mark mark.Close ∷ [] in
        let inner = behind (token.Mark mark.Open) within
        (behind (token.Word (codes "one")) (token.Mark mark.Open ∷ within) h) in
        list_is_spelt d (parts_good ts (token.Mark mark.Close ∷ []) inner).0
    good_are_spelt (plain {w = w} {f = f} e) h = atom_is (plain_of w) (plain_found w) f e
    good_are_spelt (equal {w = w} {k = k} {f = f} e) h =
        let good = string_good k [] (behind (token.Mark mark.Equal) (token.Quoted k ∷ [])
        (behind (token.Word w) (token.Mark mark.Equal ∷ token.Quoted k ∷ []) h)) in
        atom_is (equal_of w k) (equal_found k good.0 good.1 (compared_in w)) f e
    good_are_spelt (compared op t {w = w} {digits = digits} {f = f} p e) h =
        atom_is (compare_of v w op digits)
        (compare_found op digits (has_numbers v && is_number_token digits) (compared_in w)) f e

    list_is_spelt : {ts : List Token} {fs : Forms} → IsList (atoms_of v) ts fs → AreGood ts → AllAreSpelt fs
    list_is_spelt none h = tt
    list_is_spelt (some d) h = items_are_spelt d h

    items_are_spelt : {ts : List Token} {fs : Forms} → IsItems (atoms_of v) ts fs → AreGood ts → AllAreSpelt fs
    items_are_spelt (last d) h = (good_are_spelt d h, tt)
    items_are_spelt (more {ts = ts} {us = us} d e) h =
        let t = parts_good ts (token.Mark mark.Comma ∷ us) h in
        (good_are_spelt d t.0, items_are_spelt e (behind (token.Mark mark.Comma) us t.1))

  -- so all atoms are
  pub found_are_spelt : {n : ℕ} {ts : List Token} {f : Form} → IsFormula (atoms_of v) n ts f → AreFine ts
      → list_any is_long ts ≡ false → AreSpelt f
  found_are_spelt d fine short = good_are_spelt d (record { fine = fine; short = short })
