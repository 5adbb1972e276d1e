-- What a record of a text of stored views says, check by check.
--     no-view, row-twice, row-is  a row's record
use Rattle.std.proofs.Common.{◌≡◌, ◌↔◌, ◌<◌, ◌≤◌, ◌==◌, ◌∙◌, ℕ, Bool, true, false, not, List, length, Option, Some, None, IsTrue, is_some, is_none, unwrap_or, if◌then◌else◌, nat_le, refl, sym, ap, subst, arith}
use Rattle.std.{proofs.lemmas.Bool.Decides.nat_tests, specs.Bool.one_answer, specs.List.list_any}
use Rattle.std.specs.{Option.option_map, Prelude.Contains}
use Rattle.olap_base.{proofs.ListLemmas.list_any_is, specs.Graph.Graph, specs.Instance.{Instance, category_of}}
use Rattle.olap_base.specs.{Limits.most_views, Summaries.Summary}
use Rattle.olap_view.specs.StoreReading.{IsRowFor, IsStoredAt, Record, Tells}
use Rattle.olap_view.specs.StoreText.{beginning_fault, begun, category_number, is_beginning, is_row_of, row_fault, summary_read}
use Rattle.olap_view.specs.{StoredRows.{begun_in, stored_at}, declared.kinds.StoreKind.StoreKind}
use Rattle.olap_view.specs.declared.stored_rows.StoredRows.{StoredRows}
use Rattle.olap_instance.specs.Members.{member_named, member_number}
use Rattle.olap_records.specs.Faults.{field}
use Rattle.olap_view.specs.declared.kinds.StoreKind.TheVariants as kind

-- the test for c among categories tells whether they contain it
among-is : (cs : List ℕ) (c : ℕ) → IsTrue (list_any (λ d. d == c) cs) ↔ Contains cs c
among-is cs c =
    let t = list_any_is (λ d. d == c) cs in (
      λ e. let f = t.0 e in let s : f.0 ≡ c = let q = f.2 in grind (arith, nat_tests) in subst (Contains cs) s f.1,
      λ k. let s : (c == c) ≡ true = grind (arith, nat_tests) in t.1 (c, k, s),
    )

-- so another test that tells it is the same
pub among : (cs : List ℕ) (c : ℕ) (b : Bool) → (IsTrue b ↔ Contains cs c) → list_any (λ d. d == c) cs ≡ b
among cs c b h = sym (one_answer b (list_any (λ d. d == c) cs) h (among-is cs c))

-- ---- the beginning of a view

module _ (g : Graph) (earlier : List Record) (cs : List ℕ) (c : ℕ) (b : Bool) (e : cs ≡ begun g earlier)
    (h : IsTrue b ↔ Contains cs c) (no : b ≡ false) where
  -- another category isn't among those that are begun
  other : list_any (λ d. d == c) (begun g earlier) ≡ false
  other = ap (list_any (λ d. d == c)) (sym e) ∙ among cs c b h ∙ no

  -- after the last view that there may be
  pub too-many : most_views ≤ length cs → beginning_fault g earlier c ≡ Some kind.TooManyViews
  too-many l =
      let s = ap length e in
      let n : nat_le most_views (length (begun g earlier)) ≡ true = grind (arith, nat_tests) in rw (other, n) refl

  -- while there is room, a view may begin
  pub may-begin : length cs < most_views → (beginning_fault g earlier c ≡ None)
      × (list_any (λ d. d == c) (begun g earlier) ≡ false) × (length (begun g earlier) < most_views)
  may-begin l =
      let s = ap length e in
      let n : nat_le most_views (length (begun g earlier)) ≡ false = grind (arith, nat_tests) in
      (rw (other, n) refl, other, omega arith)

-- ---- a row

-- something stays something under a map
pub some-seen : {A B : Type 0} (f : A → B) (o : Option A) → is_some (option_map f o) ≡ is_some o
some-seen f None = refl
some-seen f (Some x) = refl

-- the checks of a row by what they find: a view above, no member, its category, no numbers, a row above
abbrev pub checks : Bool → Bool → Bool → Bool → Bool → Option StoreKind
checks view no_member same no_numbers row =
    if not view then Some kind.NoView
    else if no_member then Some kind.UnknownMember
    else if not same then Some kind.WrongCategory
    else if no_numbers then Some kind.BadNumber
    else if row then Some kind.DuplicateRow
    else None

-- a row that passes the other checks passes all but the last
pub last-check : (a n k s f : Bool) → a ≡ true → n ≡ false → k ≡ true → s ≡ false
    → checks a n k s f ≡ (if f then Some kind.DuplicateRow else None)
last-check a n k s f ea en ek es = rw (ea, en, ek, es) refl

module _ (g : Graph) (i : Instance) (earlier : List Record) (r : Record) (t : StoredRows)
    (h : Tells g i earlier t) (c : ℕ) (named : c ≡ category_number g r) (b : Bool)
    (above : IsTrue b ↔ Contains (begun_in t) c) where
  -- whether the row's view is begun
  begins-above : list_any (λ d. d == category_number g r) (begun g earlier) ≡ b
  begins-above = ap (λ x. list_any (λ d. d == x) (begun g earlier)) (sym named)
      ∙ ap (list_any (λ d. d == c)) (sym h.categories) ∙ among (begun_in t) c b above

  -- a row without its view
  pub no-view : b ≡ false → row_fault g i earlier r ≡ Some kind.NoView
  no-view e = let a = begins-above ∙ e in rw a refl

  module _ (e : b ≡ true) (m : ℕ) (found : Some m ≡ member_named i (field r 1)) (inside : m < length i)
      (same : (category_of i m == c) ≡ true) (s : Summary) (numbers : Some s ≡ summary_read r) where
    number : m ≡ member_number i (field r 1)
    number = ap (λ o. unwrap_or o 0) found

    told : (f : Bool) → list_any (is_row_of i m) earlier ≡ f
        → row_fault g i earlier r ≡ (if f then Some kind.DuplicateRow else None)
    told f q =
        let k : (category_of i (member_number i (field r 1)) == category_number g r) ≡ true =
        ap (λ x. category_of i x == category_number g r) (sym number)
        ∙ ap (λ x. category_of i m == x) (sym named) ∙ same in
        last-check (list_any (λ d. d == category_number g r) (begun g earlier)) (is_none (member_named i (field r 1)))
        (category_of i (member_number i (field r 1)) == category_number g r) (is_none (summary_read r))
        (list_any (is_row_of i (member_number i (field r 1))) earlier) (begins-above ∙ e) (ap is_none (sym found)) k
        (ap is_none (sym numbers))
        ∙ ap (λ x. if list_any (is_row_of i x) earlier then Some kind.DuplicateRow else None) (sym number)
        ∙ ap (λ x. if x then Some kind.DuplicateRow else None) q

    pub row-twice : is_some (stored_at t m) ≡ true → row_fault g i earlier r ≡ Some kind.DuplicateRow
    row-twice q = told true (sym (h.there m inside) ∙ q)

    pub row-is : is_beginning r ≡ false → IsStoredAt m s → is_some (stored_at t m) ≡ false
        → (row_fault g i earlier r ≡ None) × IsRowFor i earlier r m s
    row-is n stored q =
        let f : list_any (is_row_of i m) earlier ≡ false = sym (h.there m inside) ∙ q in (
          told false f,
          record {
            row = n;
            named = number;
            member = inside;
            numbers = sym numbers;
            stored = stored;
            first = f;
          },
        )
