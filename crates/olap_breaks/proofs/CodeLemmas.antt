-- What the code finds is what is told.
use Rattle.std.proofs.Common.{◌≡◌, ◌∙◌, ℕ, suc, ◌<◌, ◌+◌, List, [], ◌∷◌, ◌++◌, Bool, true, false, cond, Option, Some, None, IfSome, IsNone, append_assoc, get_or, map, take, refl, ap, sym, subst, inl, inr, arith}
use Rattle.std.proofs.lemmas.{Bool.Decides.nat_tests, List.{map-append, take_more}, List.Elements.filter_map-append}
use Rattle.std.specs.{List.{cons_option, range_with_len}, Prelude.{◌↔◌, ◌==◌, IsTrue, filter_map, is_some, length}}
use Rattle.olap_base.proofs.{ListLemmas.range_more, ViewLemmas.{is_member_of, members_of_is}}
use Rattle.olap_base.specs.{Graph.{Graph, IsBottom}, Instance.{Instance, ReachesCategory, ReachesVia, category_of}}
use Rattle.olap_base.specs.{OneFact.HoldsTimes, Reaching.{reaches, reaches_is}, Views.members_of}
use Rattle.olap_base.specs.declared.ids.MemberId.{MemberId}
use Rattle.olap_legal.specs.Ancestors.{IsAncestor}
use Rattle.olap_breaks.proofs.{BreakLemmas.{reached_is, ways_are}, FindLemmas.{find_found, times_one}}
use Rattle.olap_breaks.specs.{Breaks.{break_fields, break_of, break_to, reached_in, unless_one, ways}, Seen.break_seen}
use Rattle.olap_records.{proofs.ReadingBack.texts-push, specs.Texts.{text_of_row, text_of_rows}}
use Rattle.olap_facts.{proofs.BottomLemmas.bottom-is, specs.FactText.is_bottom}
use Rattle.olap_breaks.specs.declared.finding.Break as code

-- ---- ways

-- a member of the category is found exactly if one is reached
pub some_is : (i : Instance) (x c : ℕ) (o : Option MemberId) → IfSome o (λ y. IsAncestor i x c y.0)
    → (IsNone o → ReachesCategory i x c → ⊥) → IsTrue (is_some o) ↔ ReachesCategory i x c
some_is i x c (Some y) f g = (λ t. (y.0, f.is_member, f.reached), λ r. refl)
some_is i x c None f g = (λ t. absurd (cc), λ r. absurd (g refl r))

-- one item more of which it holds
pub holds_more : (P : ℕ → Type 0) (xs : List ℕ) (n y : ℕ) → HoldsTimes P xs n → P y
    → HoldsTimes P (xs ++ y ∷ []) (n + 1)
holds_more P [] n y e h = inl (h, n, omega arith, e)
holds_more P (x ∷ xs) n y (inl t) h = inl (t.0, t.1 + 1, omega (arith, t.2), holds_more P xs t.1 y t.3 h)
holds_more P (x ∷ xs) n y (inr t) h = inr (t.0, holds_more P xs n y t.1 h)

-- one item more of which it doesn't hold
pub holds_same : (P : ℕ → Type 0) (xs : List ℕ) (n y : ℕ) → HoldsTimes P xs n → (P y → ⊥)
    → HoldsTimes P (xs ++ y ∷ []) n
holds_same P [] n y e h = inr (h, e)
holds_same P (x ∷ xs) n y (inl t) h = inl (t.0, t.1, t.2, holds_same P xs t.1 y t.3 h)
holds_same P (x ∷ xs) n y (inr t) h = inr (t.0, holds_same P xs n y t.1 h)

-- what was counted is how many ways there are
pub counted : (i : Instance) (c : ℕ) (sources : List ℕ) (x n : ℕ) → HoldsTimes (λ s. ReachesVia i x s c) sources n
    → ways i c sources x ≡ n
counted i c sources x n h =
    times_one (λ s. ReachesVia i x s c) sources (ways i c sources x) n (ways_are i c sources x) h

-- ---- what is told of a member

-- nothing of one way
pub one_way : (x y m n : ℕ) → m ≡ n → n ≡ 1 → unless_one x y m ≡ None
one_way x y m n e q =
    let z : (m == 1) ≡ true = grind (arith, nat_tests) in
    ap (λ t. cond t None (Some (record { member = x; target = y; ways = m }))) z

-- and else how many there are
pub other_ways : (x y m n : ℕ) → m ≡ n → (n ≡ 1 → ⊥)
    → unless_one x y m ≡ Some (record { member = x; target = y; ways = n })
other_ways x y m n e q =
    ap (unless_one x y) e ∙ ap (λ t. cond t None (Some (record { member = x; target = y; ways = n }))) (unequal n q)
  where
    unequal : (n : ℕ) → (n ≡ 1 → ⊥) → (n == 1) ≡ false
    unequal n f = grind (arith, nat_tests)

-- the member that is found
found_in : (i : Instance) (x c y : ℕ) → IsAncestor i x c y → reached_in i c x ≡ Some y
found_in i x c y a = find_found (reaches i x) (members_of i c) y (is_member_of i c y a.is_member)
    ((reaches_is i x y).1 a.reached) (λ z k h. a.only z (members_of_is i c z k) ((reaches_is i x z).0 h))

-- where none is
none_in : (i : Instance) (x c : ℕ) → (ReachesCategory i x c → ⊥) → reached_in i c x ≡ None
none_in i x c n = go (reached_in i c x) refl
  where
    go : (o : Option ℕ) → reached_in i c x ≡ o → o ≡ None
    go None e = refl
    go (Some y) e = absurd (n ((reached_is i c x).0 (ap (λ p. is_some p) e)))

-- the test of a bottom category
low : (g : Graph) (i : Instance) (x : ℕ) (b : Bool) → (IsTrue b ↔ IsBottom g (category_of i x))
    → is_bottom g (category_of i x) ≡ b
low g i x true t = (bottom-is g (category_of i x)).1 (t.0 refl)
low g i x false t = go (is_bottom g (category_of i x)) refl
  where
    go : (d : Bool) → is_bottom g (category_of i x) ≡ d → d ≡ false
    go false e = refl
    go true e = absurd (let z : false ≡ true = t.1 ((bottom-is g (category_of i x)).0 e) in cc)

-- the same, of a category that is known otherwise
pub low_at : (g : Graph) (d e : ℕ) (b : Bool) → d ≡ e → (IsTrue b ↔ IsBottom g d) → IsTrue b ↔ IsBottom g e
low_at g d e b q t = subst (λ w. IsTrue b ↔ IsBottom g w) q t

-- nothing where no fact can stand
pub told_high : (g : Graph) (i : Instance) (c : ℕ) (sources : List ℕ) (x : ℕ) (b : Bool) → b ≡ false
    → (IsTrue b ↔ IsBottom g (category_of i x)) → break_of g i c sources x ≡ None
told_high g i c sources x b e t =
    ap (λ d. cond d (break_to i c sources x (reached_in i c x)) None) (low g i x b t ∙ e)

-- nothing where the target isn't reached
pub told_none : (g : Graph) (i : Instance) (c : ℕ) (sources : List ℕ) (x : ℕ) (b : Bool) → b ≡ true
    → (IsTrue b ↔ IsBottom g (category_of i x)) → (ReachesCategory i x c → ⊥) → break_of g i c sources x ≡ None
told_none g i c sources x b e t n =
    ap (λ d. cond d (break_to i c sources x (reached_in i c x)) None) (low g i x b t ∙ e)
    ∙ ap (break_to i c sources x) (none_in i x c n)

-- else by the ways
pub told_by : (g : Graph) (i : Instance) (c : ℕ) (sources : List ℕ) (x : ℕ) (b : Bool) (y : ℕ) → b ≡ true
    → (IsTrue b ↔ IsBottom g (category_of i x)) → IsAncestor i x c y
    → break_of g i c sources x ≡ unless_one x y (ways i c sources x)
told_by g i c sources x b y e t a =
    ap (λ d. cond d (break_to i c sources x (reached_in i c x)) None) (low g i x b t ∙ e)
    ∙ ap (break_to i c sources x) (found_in i x c y a)

-- ---- one member more

-- what is told of them
pub one_more : {B : Type 0} (h : ℕ → Option B) (k : ℕ) (o : Option B) (old : List B) → h k ≡ o
    → old ≡ filter_map h (range_with_len 0 k) → old ++ cons_option o [] ≡ filter_map h (range_with_len 0 (k + 1))
one_more h k o old e q =
    let n : k + 1 ≡ suc k = omega arith in
    let z : 0 + k ≡ k = omega arith in
    let range : range_with_len 0 (k + 1) ≡ range_with_len 0 k ++ k ∷ [] = ap (range_with_len 0) n ∙ range_more 0 k
    ∙ ap (λ m. range_with_len 0 k ++ m ∷ []) z in
    ap (λ xs. xs ++ cons_option o []) q
    ∙ ap (λ p. filter_map h (range_with_len 0 k) ++ cons_option p []) (sym e)
    ∙ sym (filter_map-append h (range_with_len 0 k) (k ∷ [])) ∙ ap (filter_map h) (sym range)

-- ---- records

-- one record more
pub record_more : (first : List ℕ) (i : Instance) (found : List code.Break) (k : ℕ) (d : code.Break)
    (out new : List ℕ) → k < length found
    → out ≡ first ++ text_of_rows (map (break_fields i) (map break_seen (take k found)))
    → new ≡ out ++ text_of_row (break_fields i (break_seen (get_or found k d)))
    → new ≡ first ++ text_of_rows (map (break_fields i) (map break_seen (take (k + 1) found)))
record_more first i found k d out new l eo en =
    let row = break_fields i (break_seen (get_or found k d)) in
    let before = map (break_fields i) (map break_seen (take k found)) in
    let more : map (break_fields i) (map break_seen (take (k + 1) found)) ≡ before ++ row ∷ [] =
    ap (λ (bs : List code.Break). map (break_fields i) (map break_seen bs)) (take_more found k d l)
    ∙ ap (map (break_fields i)) (map-append break_seen (take k found) (get_or found k d ∷ []))
    ∙ map-append (break_fields i) (map break_seen (take k found)) (break_seen (get_or found k d) ∷ []) in
    en ∙ ap (λ (t : List ℕ). t ++ text_of_row row) eo
    ∙ append_assoc first (text_of_rows before) (text_of_row row)
    ∙ ap (λ (t : List ℕ). first ++ t) (sym (texts-push before row)
    ∙ ap (λ (t : List (List (List ℕ))). text_of_rows t) (sym more))
