-- Branches of a tree, by their last choice.
use Rattle.std.proofs.Common.{◌≡◌, ◌-◌, ◌++◌, List, [], ◌∷◌, length, take, true, refl, ap, sym, subst, ◌∙◌, arith}
use Rattle.std.proofs.{Math.Seq.take-append_seam, lemmas.List.length-append}
use Rattle.olap_base.specs.Graph.{Graph, IsCategory, category_count}
use Rattle.olap_names.specs.Names.{Named}
use Rattle.olap_proof.specs.Branches.{AreLegal, GoesOn, IsBranch, IsLegal, IsNamed, first_of, left_open, siblings, with_choice, with_choices}
use Rattle.olap_proof.specs.{Certificates.{Open, Open.At}, Places.Place, declared.branches.Choice.Choice}
use Rattle.olap_proof.specs.declared.branches.Choice.TheVariants.{Edge, Name, Way}

-- a list without what was put after it
pub take_last : {A : Type 0} (xs : List A) (y : A) → take (length (xs ++ y ∷ []) - 1) (xs ++ y ∷ []) ≡ xs
take_last xs y =
    let n = length-append xs (y ∷ []) in
    let m : length (xs ++ y ∷ []) - 1 ≡ length xs = omega (arith, n) in
    ap (λ k. take k (xs ++ y ∷ [])) m ∙ take-append_seam xs (y ∷ [])

-- the choices lead where the last leads, from where the others do
pub with_choices_last : (p : Place) (xs : List Choice) (x : Choice)
    → with_choices p (xs ++ x ∷ []) ≡ with_choice (with_choices p xs) x
with_choices_last p [] x = refl
with_choices_last p (y ∷ ys) x = with_choices_last (with_choice p y) ys x

-- what is open after them is what is open after the last, and after the others
pub left_last : (k : Named) (p : Place) (xs : List Choice) (x : Choice) (acc : List Open)
    → left_open k p (xs ++ x ∷ []) acc ≡ siblings k (with_choices p xs) x ++ left_open k p xs acc
left_last k p [] x acc = refl
left_last k p (y ∷ ys) x acc = left_last k (with_choice p y) ys x (siblings k p y ++ acc)

-- they are legal, and so is the last
pub legal_last : (g : Graph) (k : Named) (p : Place) (xs : List Choice) (x : Choice)
    → AreLegal g k p (xs ++ x ∷ []) → AreLegal g k p xs × IsLegal g k (with_choices p xs) x
legal_last g k p [] x h = (tt, h.0)
legal_last g k p (y ∷ ys) x h = let r = legal_last g k (with_choice p y) ys x h.1 in ((h.0, r.0), r.1)

-- and one more, if it is
pub legal_more : (g : Graph) (k : Named) (p : Place) (xs : List Choice) (x : Choice) → AreLegal g k p xs
    → IsLegal g k (with_choices p xs) x → AreLegal g k p (xs ++ x ∷ [])
legal_more g k p [] x h i = (i, tt)
legal_more g k p (y ∷ ys) x h i = (h.0, legal_more g k (with_choice p y) ys x h.1 i)

-- ---- where nothing is decided

-- what comes first stays so below a choice
first_of-with_choice : (p : Place) (x : Choice) → first_of (with_choice p x) ≡ first_of p
first_of-with_choice p (Edge e b) = refl
first_of-with_choice p x = refl

-- choices change neither the graph nor the root
pub first_of-with_choices : (p : Place) (xs : List Choice) → first_of (with_choices p xs) ≡ first_of p
first_of-with_choices p [] = refl
first_of-with_choices p (x ∷ xs) = first_of-with_choices (with_choice p x) xs ∙ first_of-with_choice p x

-- ---- branches

-- without its last choice
pub record IsBack (g : Graph) (k : Named) (p r : Place) (xs : List Choice) (x : Choice) : Type 0 where
  pub branch : IsBranch g k r xs
  pub first : first_of r ≡ first_of p
  pub legal : IsLegal g k r x
  pub there : r ≡ with_choices (first_of p) xs

-- a branch without its last choice
branch_back : (g : Graph) (k : Named) (p r : Place) (xs : List Choice) (x : Choice)
    → IsBranch g k p (xs ++ x ∷ []) → r ≡ with_choices (first_of p) xs → IsBack g k p r xs x
branch_back g k p r xs x h e =
    let first : first_of r ≡ first_of p = ap first_of e ∙ first_of-with_choices (first_of p) xs in
    let both = legal_last g k (first_of p) xs x h.legal in
    record {
      branch = record {
        graph = ap (λ (y : Place). y.decided.graph) first ∙ h.graph;
        root = subst (λ (y : Place). IsCategory g y.decided.root) (sym first) h.root;
        texts = h.texts;
        led_there = subst (λ (y : Place). r ≡ with_choices y xs) (sym first) e;
        legal = subst (λ (y : Place). AreLegal g k y xs) (sym first) both.0;
      };
      first = first;
      legal = subst (λ (y : Place). IsLegal g k y x) (sym e) both.1;
      there = e;
    }

-- where the last choice was taken back
pub back_there : {g : Graph} {k : Named} {p r : Place} {all xs : List Choice} {x : Choice} → IsBranch g k p all
    → all ≡ xs ++ x ∷ [] → ((y : Place) → p ≡ with_choice y x → r ≡ y) → IsBack g k p r xs x
back_there {g} {k} {p} {r} {all} {xs} {x} h same back =
    let b : IsBranch g k p (xs ++ x ∷ []) = subst (λ (ys : List Choice). IsBranch g k p ys) same h in
    branch_back g k p r xs x b (back (with_choices (first_of p) xs) (b.led_there ∙ with_choices_last (first_of p) xs x))

-- what is decided legally has names, if it is a name
legal_named : (g : Graph) (k : Named) (p : Place) (x : Choice) → length k.texts ≡ category_count g
    → IsLegal g k p x → IsNamed k x
legal_named g k p (Edge e b) t l = tt
legal_named g k p (Name c i) t l = let n = l.0.1 in omega (arith, t, n)
legal_named g k p (Way a b w) t l = tt

-- so what was taken back last has names, if it is a name
pub last_named : {g : Graph} {k : Named} {p r : Place} {all : List Choice} (xs : List Choice) (x : Choice)
    → IsBranch g k p all → all ≡ xs ++ x ∷ [] → ((y : Place) → p ≡ with_choice y x → r ≡ y) → IsNamed k x
last_named {g} {k} {p} {r} {all} xs x h same taken =
    let back = back_there h same taken in legal_named g k r x back.branch.texts back.legal

-- with one choice more
pub branch_more : (g : Graph) (k : Named) (p r : Place) (xs : List Choice) (x : Choice) → IsBranch g k p xs
    → IsLegal g k p x → r ≡ with_choice p x → IsBranch g k r (xs ++ x ∷ []) × (first_of r ≡ first_of p)
branch_more g k p r xs x h i e =
    let first : first_of r ≡ first_of p = ap first_of e ∙ first_of-with_choice p x in
    let there : r ≡ with_choices (first_of p) (xs ++ x ∷ []) =
    e ∙ ap (λ (y : Place). with_choice y x) h.led_there ∙ sym (with_choices_last (first_of p) xs x) in
    let legal : AreLegal g k (first_of p) (xs ++ x ∷ []) =
    legal_more g k (first_of p) xs x h.legal (subst (λ (y : Place). IsLegal g k y x) h.led_there i) in (
      record {
        graph = ap (λ (y : Place). y.decided.graph) first ∙ h.graph;
        root = subst (λ (y : Place). IsCategory g y.decided.root) (sym first) h.root;
        texts = h.texts;
        led_there = subst (λ (y : Place). r ≡ with_choices y (xs ++ x ∷ [])) (sym first) there;
        legal = subst (λ (y : Place). AreLegal g k y (xs ++ x ∷ [])) (sym first) legal;
      },
      first,
    )

-- where the last choice has no case after it, what is open is what is open without it
pub left_back : (k : Named) (p r : Place) (xs : List Choice) (x : Choice) → first_of r ≡ first_of p
    → siblings k (with_choices (first_of p) xs) x ≡ [] → (acc : List Open)
    → left_open k (first_of p) (xs ++ x ∷ []) acc ≡ left_open k (first_of r) xs acc
left_back k p r xs x first none acc =
    left_last k (first_of p) xs x acc
    ∙ ap (λ ys. ys ++ left_open k (first_of p) xs acc) none
    ∙ ap (λ (y : Place). left_open k y xs acc) (sym first)

-- where it has one, that comes next
pub left_next : (k : Named) (p r t : Place) (xs : List Choice) (x y : Choice) → first_of r ≡ first_of p
    → first_of t ≡ first_of r → r ≡ with_choices (first_of p) xs → t ≡ with_choice r y
    → siblings k r x ≡ At (with_choice r y) ∷ siblings k r y → (acc : List Open)
    → left_open k (first_of p) (xs ++ x ∷ []) acc ≡ At t ∷ left_open k (first_of t) (xs ++ y ∷ []) acc
left_next k p r t xs x y first then e u some acc =
    let others = left_open k (first_of p) xs acc in
    let old : left_open k (first_of p) (xs ++ x ∷ []) acc ≡ At (with_choice r y) ∷ (siblings k r y ++ others) =
    left_last k (first_of p) xs x acc
    ∙ ap (λ (z : Place). siblings k z x ++ others) (sym e) ∙ ap (λ zs. zs ++ others) some in
    let new : left_open k (first_of t) (xs ++ y ∷ []) acc ≡ siblings k r y ++ others =
    ap (λ (z : Place). left_open k z (xs ++ y ∷ []) acc) (then ∙ first)
    ∙ left_last k (first_of p) xs y acc ∙ ap (λ (z : Place). siblings k z y ++ others) (sym e) in
    old ∙ ap (λ (z : Place). At z ∷ (siblings k r y ++ others)) (sym u) ∙ ap (λ zs. At t ∷ zs) (sym new)

-- the cases of a split, the first of which was chosen
pub left_first : (g : Graph) (k : Named) (p t : Place) (xs : List Choice) (x : Choice) → IsBranch g k p xs
    → first_of t ≡ first_of p → t ≡ with_choice p x → (acc : List Open)
    → (At (with_choice p x) ∷ siblings k p x) ++ left_open k (first_of p) xs acc
    ≡ At t ∷ left_open k (first_of t) (xs ++ x ∷ []) acc
left_first g k p t xs x h then u acc =
    let new : left_open k (first_of t) (xs ++ x ∷ []) acc ≡ siblings k p x ++ left_open k (first_of p) xs acc =
    ap (λ (z : Place). left_open k z (xs ++ x ∷ []) acc) then
    ∙ left_last k (first_of p) xs x acc
    ∙ ap (λ (z : Place). siblings k z x ++ left_open k (first_of p) xs acc) (sym h.led_there) in
    ap (λ (z : Place). At z ∷ (siblings k p x ++ left_open k (first_of p) xs acc)) (sym u)
    ∙ ap (λ zs. At t ∷ zs) (sym new)

-- a branch with one choice more, the first of these cases
pub record IsSplit (g : Graph) (k : Named) (p t : Place) (xs ys : List Choice) (cases : List Open) : Type 0 where
  pub branch : IsBranch g k t ys
  pub first : first_of t ≡ first_of p
  pub left : (acc : List Open)
      → cases ++ left_open k (first_of p) xs acc ≡ At t ∷ left_open k (first_of t) ys acc

-- so it is where the choice was put after the others
pub branch_split : {g : Graph} {k : Named} {p t : Place} {xs ys : List Choice} (x : Choice) {cases : List Open}
    → IsBranch g k p xs → IsLegal g k p x → t ≡ with_choice p x → ys ≡ xs ++ x ∷ []
    → cases ≡ At (with_choice p x) ∷ siblings k p x → IsSplit g k p t xs ys cases
branch_split {g} {k} {p} {t} {xs} {ys} x {cases} h legal e pushed all =
    let more = branch_more g k p t xs x h legal e in
    record {
      branch = subst (λ (zs : List Choice). IsBranch g k t zs) (sym pushed) more.0;
      first = more.1;
      left = λ acc. ap (λ (zs : List Open). zs ++ left_open k (first_of p) xs acc) all
          ∙ left_first g k p t xs x h more.1 e acc
          ∙ ap (λ (zs : List Choice). At t ∷ left_open k (first_of t) zs acc) (sym pushed);
    }

-- ---- from one branch to another

-- after the one place there is open, of the tree, what was open after the other
pub record IsStillOpen (g : Graph) (k : Named) (q : Place) (ys : List Choice) (p : Place) (xs : List Choice) : Type 0
  where
    pub branch : IsBranch g k p xs
    pub first : first_of p ≡ first_of q
    pub left : (acc : List Open) → left_open k (first_of q) ys acc ≡ left_open k (first_of p) xs acc

module _ {g : Graph} {k : Named} {q p r : Place} {ys all : List Choice} (xs : List Choice) (x : Choice) where
  -- so it is without a last choice that has no case after it
  pub open_back : IsStillOpen g k q ys p all → all ≡ xs ++ x ∷ [] → ((y : Place) → p ≡ with_choice y x → r ≡ y)
      → ((o : Place) → siblings k o x ≡ []) → IsStillOpen g k q ys r xs
  open_back h same taken none =
      let back = back_there h.branch same taken in
      record {
        branch = back.branch;
        first = back.first ∙ h.first;
        left = λ acc. h.left acc ∙ ap (λ (zs : List Choice). left_open k (first_of p) zs acc) same
            ∙ left_back k p r xs x back.first (none (with_choices (first_of p) xs)) acc;
      }

  -- and with the case after it in its place the tree goes on
  pub open_next : {t : Place} {others : List Choice} (y : Choice) → IsStillOpen g k q ys p all
      → all ≡ xs ++ x ∷ [] → ((o : Place) → p ≡ with_choice o x → r ≡ o)
      → ((o : Place) → IsLegal g k o x → IsLegal g k o y)
      → siblings k r x ≡ At (with_choice r y) ∷ siblings k r y → t ≡ with_choice r y
      → others ≡ xs ++ y ∷ [] → GoesOn g k q ys t others true
  open_next {t} {others} y h same taken legal some e pushed =
      let back = back_there h.branch same taken in
      let more = branch_more g k r t xs y back.branch (legal r back.legal) e in (
        subst (λ (zs : List Choice). IsBranch g k t zs) (sym pushed) more.0,
        more.1 ∙ back.first ∙ h.first,
        λ acc. h.left acc ∙ ap (λ (zs : List Choice). left_open k (first_of p) zs acc) same
            ∙ left_next k p r t xs x y back.first more.1 back.there e some acc
            ∙ ap (λ (zs : List Choice). At t ∷ left_open k (first_of t) zs acc) (sym pushed),
      )
