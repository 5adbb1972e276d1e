-- Printing a cube's view row by row, and reading its text back.
use Rattle.std.proofs.Common.{◌≡◌, ℕ, zero, suc, ◌+◌, ◌<◌, ◌≤◌, ◌++◌, ◌∷◌, ◌∙◌, List, [], length, map, take, drop, get_or, arith, refl, sym, ap, subst, append_assoc, append-nil, length-append}
use Rattle.std.proofs.lemmas.List.{drop_all, get_or-map, length-map, map-append, take_more, Elements.All-map}
use Rattle.std.specs.Prelude.{All}
use Rattle.olap_base.specs.{Instance.{Instance, IsMember, member_at}, Views.{Row, View}}
use Rattle.olap_view.specs.{Seen.summary_of, ViewText.numbers_of}
use Rattle.olap_records.{proofs.ReadingBack.{text-back, texts-push}, specs.Records.records_of}
use Rattle.olap_records.specs.Texts.{text_of_row, text_of_rows}
use Rattle.olap_cube_views.{proofs.AncestorLemmas.members_length, specs.CubeTallies.AreMembers}
use Rattle.olap_cube_views.specs.CubeViewText.{cube_view_text, fields_in, header, ids_in, records_of_cube_view}
use Rattle.olap_cube_views.specs.Seen.{cube_row_of, cube_rows_of}
use Rattle.olap_instance.proofs.Passing.{all-full}
use Rattle.olap_cube_views.specs.declared.views.CubeRow as told

-- ---- the ids of a row's members

module _ (is : List Instance) (ys : List ℕ) where
  -- these are the first k ids; the others go after them
  pub record IdsSoFar (k : ℕ) (ids : List (List ℕ)) : Type 0 where
    pub all : ids ++ ids_in (drop k is) (drop k ys) ≡ ids_in is ys
    pub inside : AreMembers (drop k is) (drop k ys)
    pub size : length ids ≡ k

  module _ (k : ℕ) (ids : List (List ℕ)) (h : IdsSoFar k ids) (i : Instance) (y : ℕ)
      (di : drop k is ≡ i ∷ drop (k + 1) is) (dy : drop k ys ≡ y ∷ drop (k + 1) ys) where
    -- the next member stands in its instance, and the others in theirs
    both : AreMembers (i ∷ drop (k + 1) is) (y ∷ drop (k + 1) ys)
    both = subst (λ t. AreMembers t (y ∷ drop (k + 1) ys)) di (subst (λ t. AreMembers (drop k is) t) dy h.inside)

    -- the next member stands in its instance
    pub is_inside : IsMember i y
    is_inside = both.0

    -- one id more
    pub ids_more : (new : List (List ℕ)) → new ≡ ids ++ (member_at i y).id ∷ [] → IdsSoFar (k + 1) new
    ids_more new e = record {
      all = ap (λ t. t ++ ids_in (drop (k + 1) is) (drop (k + 1) ys)) e
          ∙ append_assoc ids ((member_at i y).id ∷ []) (ids_in (drop (k + 1) is) (drop (k + 1) ys))
          ∙ ap (λ t. ids ++ ids_in t (y ∷ drop (k + 1) ys)) (sym di) ∙ ap (λ t. ids ++ ids_in (drop k is) t) (sym dy)
          ∙ h.all;
      inside = both.1;
      size = let n = h.size in omega (arith, ap length e, length-append ids ((member_at i y).id ∷ []));
    }

  -- the ids of all members
  pub ids_end : (k : ℕ) (ids : List (List ℕ)) → length is ≤ k → IdsSoFar k ids → ids ≡ ids_in is ys
  ids_end k ids l h = sym (append-nil ids)
      ∙ ap (λ t. ids ++ ids_in t (drop k ys)) (sym (drop_all k is l)) ∙ h.all

-- of as many numbers as there are, no other prefix
pub same_take : (n k : ℕ) (ys : List ℕ) → length (take n ys) ≡ k → take n ys ≡ take k ys
same_take n k ys e = sym (back n ys) ∙ ap (λ m. take m ys) e
  where
    back : (n : ℕ) (ys : List ℕ) → take (length (take n ys)) ys ≡ take n ys
    back zero ys = refl
    back (suc n) [] = refl
    back (suc n) (y ∷ ys) = ap (λ t. y ∷ t) (back n ys)

-- the rows stand at members
module _ (is : List Instance) (n : ℕ) (rows : List told.CubeRow) (k : ℕ) (d : told.CubeRow) (l : k < length rows)
    (a : All (λ (r : Row (List ℕ)). AreMembers is r.at) (cube_rows_of n rows)) where
  at_members : AreMembers is (take n (get_or rows k d).members.places)
  at_members =
      let e = length-map rows (cube_row_of n) in
      subst (λ (r : Row (List ℕ)). AreMembers is r.at) (get_or-map (cube_row_of n) rows k d (cube_row_of n d) l)
      (a k (cube_row_of n d) (omega arith))

  -- as many as there are instances
  same_members : take n (get_or rows k d).members.places ≡ take (length is) (get_or rows k d).members.places
  same_members =
      same_take n (length is) (get_or rows k d).members.places
      (members_length is (take n (get_or rows k d).members.places) at_members)

  -- so does each of them
  pub row_stands : AreMembers is (take (length is) (get_or rows k d).members.places)
  row_stands = subst (AreMembers is) same_members at_members

  -- by the instances a row has the fields that it has by the target
  pub row_fields : fields_in is (cube_row_of (length is) (get_or rows k d))
      ≡ fields_in is (cube_row_of n (get_or rows k d))
  row_fields = ap (λ (ys : List ℕ). fields_in is
      (record { at = ys; summary = summary_of (get_or rows k d).summary }))
      (sym same_members)

-- four items after others, each the same as another
pub four_same : (xs : List (List ℕ)) (a b c d p q r s : List ℕ) → a ≡ p → b ≡ q → c ≡ r → d ≡ s
    → xs ++ (a ∷ b ∷ c ∷ d ∷ []) ≡ xs ++ (p ∷ q ∷ r ∷ s ∷ [])
four_same xs a b c d p q r s e f g h = λ i. xs ++ (e i ∷ f i ∷ g i ∷ h i ∷ [])

-- ---- rows

-- one row more
pub cube_view_more : (top : List (List ℕ)) (fields : Row (List ℕ) → List (List ℕ)) (n : ℕ)
    (rows : List told.CubeRow) (k : ℕ)
    (d : told.CubeRow) (out new : List ℕ) → k < length rows
    → out ≡ text_of_rows (top ∷ map fields (cube_rows_of n (take k rows)))
    → new ≡ out ++ text_of_row (fields (cube_row_of n (get_or rows k d)))
    → new ≡ text_of_rows (top ∷ map fields (cube_rows_of n (take (k + 1) rows)))
cube_view_more top fields n rows k d out new l eo en =
    let row = get_or rows k d in
    let before = map fields (cube_rows_of n (take k rows)) in
    let more : map fields (cube_rows_of n (take (k + 1) rows)) ≡ before ++ fields (cube_row_of n row) ∷ [] =
    ap (λ (rs : List told.CubeRow). map fields (cube_rows_of n rs)) (take_more rows k d l)
    ∙ ap (map fields) (map-append (cube_row_of n) (take k rows) (row ∷ []))
    ∙ map-append fields (cube_rows_of n (take k rows)) (cube_row_of n row ∷ []) in
    en ∙ ap (λ (t : List ℕ). t ++ text_of_row (fields (cube_row_of n row))) eo
    ∙ sym (texts-push (top ∷ before) (fields (cube_row_of n row)))
    ∙ ap (λ (t : List (List (List ℕ))). text_of_rows (top ∷ t)) (sym more)

-- the header has a field, and the text doesn't begin as a byte order mark does
header-full : (k : ℕ) → 0 < length (header k)
header-full zero = omega arith
header-full (suc k) = omega arith

-- no printed view begins with a byte order mark
no-mark : (k : ℕ) (rows : List (List (List ℕ))) → get_or (text_of_rows (header k ∷ rows)) 0 0 ≡ 239 → ⊥
no-mark zero rows e = absurd (omega arith)
no-mark (suc k) rows e = absurd (omega arith)

-- each record has a field
fields-full : (is : List Instance) (r : Row (List ℕ)) → 0 < length (fields_in is r)
fields-full is r = omega (arith, length-append (ids_in is r.at) (numbers_of r.summary))

-- the text of a view reads back
pub cube_view_reads : (is : List Instance) (v : View (List ℕ) (List ℕ))
    → records_of (cube_view_text is v) ≡ records_of_cube_view is v
cube_view_reads is v =
    text-back (records_of_cube_view is v)
    (all-full (header (length is)) (map (fields_in is) v.rows) (header-full (length is))
    (All-map (λ r. 0 < length r) (fields_in is) v.rows (λ k d l. fields-full is (get_or v.rows k d))))
    (no-mark (length is) (map (fields_in is) v.rows))
