-- A printed instance reads back as itself.
use Rattle.std.proofs.Common.{◌≡◌, ◌≢◌, ◌+◌, ◌-◌, ◌<◌, ◌≤◌, ◌==◌, ◌++◌, ◌∷◌, ◌∙◌, true, false, ℕ, suc, List, [], length, map, take, drop, codes, get_or, Option, Some, None, Ok, refl, sym, ap, subst, arith}
use Rattle.std.proofs.lemmas.Bool.{false_from_ne_true, or_from}
use Rattle.std.proofs.lemmas.List.{get_or-map, get_or-take, length-map, length-take, length-take-le, map-append, take_more, take_all}
use Rattle.std.proofs.lemmas.List.Elements.{All-map, Contains-get_or}
use Rattle.std.proofs.lemmas.Option.{get_or_from_slice_get, slice_get_within}
use Rattle.std.proofs.lemmas.Slice.Eq.{bytes_eq-Decides, slice_eq-Decides}
use Rattle.std.{proofs.lemmas.Str.{IsUtf8-from_is_utf8, is_utf8-from_IsUtf8}, specs.Cmp.Lexicographic.pointwise}
use Rattle.std.specs.{List.{join_with_byte, list_any}, Prelude.{All, AllPairs, Contains, is_some, nat_le}}
use Rattle.std.specs.Str.{IsUtf8, bytes_eq, is_utf8}
use Rattle.olap_base.{proofs.ListLemmas.contains_head, specs.Bytes.semicolon, specs.Deciding.contains_cons}
use Rattle.olap_base.specs.Graph.{Graph, IsHierarchy, is_number}
use Rattle.olap_base.specs.Instance.{Instance, IsInstance, IsMember, Member, category_of, member_at, nobody}
use Rattle.olap_base.specs.{Limits.most_members, Naming.place_of}
use Rattle.olap_graph.specs.Lookups.{category_named, name_of_category}
use Rattle.olap_records.{proofs.FaultLemmas.none-iff, proofs.ReadingBack.text-back, specs.Faults.first_fault}
use Rattle.olap_records.specs.{Records.records_of, Tables.begins_with}
use Rattle.olap_instance.proofs.{BuilderSteps.not-found, CategoryNames.{category-utf8, named-category}}
use Rattle.olap_instance.proofs.{Checks.number-good, Joining.{IsPiece, pieces-joined, utf8-joined}}
use Rattle.olap_instance.proofs.Passing.{all-full, any-none, differ-zero, four-texts, ids-kept, round, rows-full, short, unrefused}
use Rattle.olap_instance.proofs.{PieceLemmas.places-read, PlaceFacts.{AreDistinct, place-of-id}}
use Rattle.olap_instance.specs.InstanceText.{header, id_field, is_known, is_too_long, ids_of, instance_read, member_fault, members_read, parent_read, parents_fault, piece_fault, pieces_of, whole_read}
use Rattle.olap_instance.specs.{Made.IsMadeFor, Members.{AllHasNoParents, HasShortNames, HasTexts, all_member}}
use Rattle.olap_instance.specs.Passes.{ids_in}
use Rattle.olap_instance.specs.Printing.{instance_rows, member_fields, others, parent_ids, text_of_instance}

-- records without faults stand for their members
read-of : (g : Graph) (records : List (List (List ℕ))) (i : Instance) → begins_with header records ≡ true
    → first_fault (member_fault g) [] (drop 1 records) ≡ None
    → first_fault (parents_fault (ids_of (drop 1 records))) [] (drop 1 records) ≡ None
    → members_read g (drop 1 records) ≡ i → instance_read g records ≡ Ok i
read-of g records i h first second e = rw (h, first, second) (ap (λ (t : Instance). Ok t) e)

module _ (g : Graph) (i : Instance) (hierarchy : IsHierarchy g) (sound : IsInstance i) (texts : HasTexts i)
    (few : length i ≤ most_members) (top : AllHasNoParents i) (made : IsMadeFor g i) (names : HasShortNames i) where
  last : ℕ
  last = length i - 1

  abbrev rows : List (List (List ℕ))
  rows = map (member_fields g i) (others i)

  size : length (others i) ≡ length i - 1
  size = length-take-le (length i - 1) i (omega arith)

  count : length rows ≡ length i - 1
  count = length-map (others i) (member_fields g i) ∙ size

  other-at : (j : ℕ) → j < length rows → member_at (others i) j ≡ member_at i j
  other-at j l = let n = count in get_or-take (length i - 1) i j nobody (omega arith)

  row-at : (j : ℕ) → j < length rows → get_or rows j [] ≡ member_fields g i (member_at i j)
  row-at j l =
      let n = count in
      let m = size in
      get_or-map (member_fields g i) (others i) j nobody [] (omega arith) ∙ ap (member_fields g i) (other-at j l)

  is-member : (j : ℕ) → j < length rows → IsMember i j
  is-member j l = let n = count in omega arith

  not-last : (j : ℕ) → j < length rows → suc j ≢ length i
  not-last j l e = let n = count in omega arith

  not-all : (j : ℕ) → j < length rows → category_of i j ≢ 0
  not-all j l e = not-last j l ((sound.all_is_last j (is-member j l)).0 e)

  -- ---- the ids

  ids-distinct : AreDistinct (ids_in i)
  ids-distinct a b la lb e =
      let n = length-map i (λ m. m.id) in
      let ma : a < length i = omega arith in
      let mb : b < length i = omega arith in
      sound.ids_differ a b ma mb (sym (get_or-map (λ m. m.id) i a nobody [] ma) ∙ e
      ∙ get_or-map (λ m. m.id) i b nobody [] mb)

  id-found : (p : ℕ) → IsMember i p → place_of (member_at i p).id (ids_in i) ≡ Some p
  id-found p l =
      let n = length-map i (λ m. m.id) in
      let k : p < length (ids_in i) = omega arith in
      ap (λ (x : List ℕ). place_of x (ids_in i)) (sym (get_or-map (λ m. m.id) i p nobody [] l))
      ∙ place-of-id (ids_in i) p ids-distinct k

  -- ---- the parents of a member

  module _ (m : Member) (members : (p : ℕ) → Contains m.parents p → IsMember i p) (differ : AllPairs ◌≢◌ m.parents)
    where
      abbrev ids : List (List ℕ)
      ids = parent_ids i m

      id-at : (k : ℕ) → k < length m.parents → get_or ids k [] ≡ (member_at i (get_or m.parents k 0)).id
      id-at k l = get_or-map (λ p. (member_at i p).id) m.parents k 0 [] l

      parent-member : (k : ℕ) → k < length m.parents → IsMember i (get_or m.parents k 0)
      parent-member k l = members (get_or m.parents k 0) (Contains-get_or m.parents k 0 l)

      parent-found : (k : ℕ) → k < length m.parents
          → place_of (get_or ids k []) (ids_in i) ≡ Some (get_or m.parents k 0)
      parent-found k l =
          ap (λ (x : List ℕ). place_of x (ids_in i)) (id-at k l) ∙ id-found (get_or m.parents k 0) (parent-member k l)

      pieces-good : All IsPiece ids
      pieces-good = All-map IsPiece (λ p. (member_at i p).id) m.parents (λ k d l.
          let h = (texts (get_or m.parents k d) (members (get_or m.parents k d) (Contains-get_or m.parents k d l))).0 in
          (h.filled, h.whole))

      ids-utf8 : All IsUtf8 ids
      ids-utf8 = All-map IsUtf8 (λ p. (member_at i p).id) m.parents (λ k d l.
          let h = (texts (get_or m.parents k d) (members (get_or m.parents k d) (Contains-get_or m.parents k d l))).0 in
          IsUtf8-from_is_utf8 (member_at i (get_or m.parents k d)).id h.utf8)

      pieces-are : pieces_of (join_with_byte semicolon ids) ≡ ids
      pieces-are = pieces-joined ids pieces-good

      field-utf8 : is_utf8 (join_with_byte semicolon ids) ≡ true
      field-utf8 = is_utf8-from_IsUtf8 (join_with_byte semicolon ids) (utf8-joined ids ids-utf8)

      as-many : length ids ≡ length m.parents
      as-many = length-map m.parents (λ p. (member_at i p).id)

      -- no earlier id of a parent is equal
      new-piece : (k : ℕ) → k < length ids → list_any (bytes_eq (get_or ids k [])) (take k ids) ≡ false
      new-piece k l =
          any-none (bytes_eq (get_or ids k [])) (take k ids)
          (λ j lj. false_from_ne_true (bytes_eq (get_or ids k []) (get_or (take k ids) j [])) (λ t.
          let n = as-many in
          let jk : j < k = let size = length-take k ids in omega arith in
          let same : get_or ids k [] ≡ get_or ids j [] =
          (bytes_eq-Decides (get_or ids k []) (get_or (take k ids) j [])).0 t ∙ get_or-take k ids j [] jk in
          let found : Some (get_or m.parents k 0) ≡ Some (get_or m.parents j 0) =
          sym (parent-found k (omega arith)) ∙ ap (λ (x : List ℕ). place_of x (ids_in i)) same
          ∙ parent-found j (omega arith) in
          let e : get_or m.parents k 0 ≡ get_or m.parents j 0 = cc in
          differ j k 0 jk (omega arith) (sym e)))

      no-fault : first_fault (piece_fault (ids_in i)) [] ids ≡ None
      no-fault = (none-iff (piece_fault (ids_in i)) ids).1 (λ k r e.
          let l : k < length ids = slice_get_within ids k r e in
          let n = as-many in
          let at : get_or ids k [] ≡ r = get_or_from_slice_get ids k r [] e in
          let found = parent-found k (omega arith) in
          let new = new-piece k l in
          rw (← at, found, new) refl)

      places-back : (ps : List ℕ) → ((p : ℕ) → Contains ps p → IsMember i p)
          → map (λ x. place_of x (ids_in i)) (map (λ p. (member_at i p).id) ps) ≡ map Some ps
      places-back [] h = refl
      places-back (p ∷ ps) h =
          cons (place_of (member_at i p).id (ids_in i)) (Some p) _ _ (id-found p (h p (contains_head p ps)))
          (places-back ps (λ q c. h q (contains_cons q ps p c)))
        where
          cons : (x y : Option ℕ) (xs ys : List (Option ℕ)) → x ≡ y → xs ≡ ys → x ∷ xs ≡ y ∷ ys
          cons x y xs ys a b = rw (a, b) refl

      parents-back : map (parent_read (ids_in i)) ids ≡ m.parents
      parents-back = sym (places-read (ids_in i) ids m.parents (places-back m.parents members))

  -- ---- a member's record

  abbrev at : ℕ → Member
  at j = member_at i j

  below : (j : ℕ) (p : ℕ) → Contains (at j).parents p → IsMember i p
  below j p c = sound.parents_are_members j p c

  last-id : (at (length i - 1)).id ≡ codes "all"
  last-id = let s = sound.some_member in sound.all_id (length i - 1) (omega arith)

  id-not-all : (j : ℕ) → j < length rows → (at j).id ≢ codes "all"
  id-not-all j l e =
      let s = sound.some_member in
      let n = count in
      let same : j ≡ length i - 1 = sound.ids_differ j (length i - 1) (is-member j l) (omega arith) (e ∙ sym last-id) in
      omega arith

  earlier-id : (j k : ℕ) → j < length rows → k < length (map id_field (take j rows))
      → get_or (map id_field (take j rows)) k [] ≢ (at j).id
  earlier-id j k l lk e =
      let n = length-map (take j rows) id_field in
      let m = length-take-le j rows (omega arith) in
      let kj : k < j = omega arith in
      let here : get_or (map id_field (take j rows)) k [] ≡ (at k).id =
      get_or-map id_field (take j rows) k [] [] (omega arith)
      ∙ ap id_field (get_or-take j rows k [] kj ∙ row-at k (omega arith)) in
      let same : k ≡ j = sound.ids_differ k j (is-member k (omega arith)) (is-member j l) (sym here ∙ e) in
      omega arith

  fresh : (j : ℕ) → j < length rows → is_known (take j rows) (at j).id ≡ false
  fresh j l =
      let none : place_of (at j).id (map id_field (take j rows)) ≡ None =
      not-found (at j).id (map id_field (take j rows)) 0 (λ k lk. earlier-id j k l lk) in
      or_from (bytes_eq (at j).id (codes "all")) (is_some (place_of (at j).id (map id_field (take j rows))))
      (false_from_ne_true (bytes_eq (at j).id (codes "all"))
      (λ t. id-not-all j l ((bytes_eq-Decides (at j).id (codes "all")).0 t)))
      (rw none refl)

  category-found : (j : ℕ) → j < length rows
      → category_named g (name_of_category g (at j).category) ≡ Some (at j).category
  category-found j l = named-category g hierarchy (at j).category (made.categories j (is-member j l))

  member-passes : (j : ℕ) → j < length rows → member_fault g (take j rows) (member_fields g i (at j)) ≡ None
  member-passes j l =
      let h = texts j (is-member j l) in
      let n = count in
      let m = length-take-le j rows (omega arith) in
      let named = category-found j l in
      let category : is_utf8 (name_of_category g (at j).category) ≡ true =
      is_utf8-from_IsUtf8 _
      (category-utf8 g hierarchy (at j).category (made.categories j (is-member j l)) (not-all j l)) in
      unrefused g (take j rows) (member_fields g i (at j)) refl
      (four-texts _ _ _ _ h.0.utf8 category h.1 (field-utf8 (at j) (below j) (sound.parents_differ j)))
      (or_from (length (at j).id == 0) (list_any (λ b. b == semicolon) (at j).id)
      (differ-zero (length (at j).id) h.0.filled)
      h.0.whole)
      (or_from (is_too_long (at j).id) (is_too_long (at j).name) (short (length (at j).id) h.0.short)
      (short (length (at j).name) (names j (is-member j l))))
      (rw named refl) (rw named (differ-zero (at j).category (not-all j l)))
      (rw named (number-good (is_number g (at j).category) (at j).name (made.numerals j (is-member j l)))) (fresh j l)
      (room (length (take j rows)) (omega arith))
    where
      room : (k : ℕ) → k + 1 < most_members → nat_le most_members (k + 1) ≡ false
      room k h = grind arith

  first-none : first_fault (member_fault g) [] rows ≡ None
  first-none = (none-iff (member_fault g) rows).1 (λ j r e.
      let l : j < length rows = slice_get_within rows j r e in
      let is : member_fields g i (at j) ≡ r = sym (row-at j l) ∙ get_or_from_slice_get rows j r [] e in
      subst (λ (t : List (List ℕ)). member_fault g (take j rows) t ≡ None) is (member-passes j l))

  -- ---- all of them

  last-is-all : at (length i - 1) ≡ all_member
  last-is-all =
      let s = sound.some_member in
      let e : suc (length i - 1) ≡ length i = omega arith in
      same (at (length i - 1)) last-id ((sound.all_is_last (length i - 1) (omega arith)).1 e)
      (sound.all_name (length i - 1) e) (top (length i - 1) e)
    where
      same : (m : Member) → m.id ≡ codes "all" → m.category ≡ 0 → m.name ≡ codes "all" → m.parents ≡ [] → m ≡ all_member
      same m a b c d = both m.id (codes "all") m.category 0 m.name (codes "all") m.parents [] a b c d
        where
          both : (id id2 : List ℕ) (k k2 : ℕ) (name name2 : List ℕ) (ps qs : List ℕ) → id ≡ id2 → k ≡ k2
              → name ≡ name2 → ps ≡ qs
              → ◌≡◌ {A = Member} (record { id = id; category = k; name = name; parents = ps })
              (record { id = id2; category = k2; name = name2; parents = qs })
          both id id2 k k2 name name2 ps qs a b c d = rw (a, b, c, d) refl

  parts : i ≡ others i ++ all_member ∷ []
  parts =
      let s = sound.some_member in
      sym (take_all (length i - 1 + 1) i (omega arith)) ∙ take_more i (length i - 1) nobody (omega arith)
      ∙ ap (λ (m : Member). others i ++ m ∷ []) last-is-all

  ids-are : ids_of rows ≡ ids_in i
  ids-are =
      ap (λ (t : List (List ℕ)). t ++ codes "all" ∷ []) (ids-kept g i (others i))
      ∙ sym (map-append (λ m. m.id) (others i) (all_member ∷ []))
      ∙ sym (ap ids_in parts)

  second-none : first_fault (parents_fault (ids_of rows)) [] rows ≡ None
  second-none = rw ids-are ((none-iff (parents_fault (ids_in i)) rows).1 (λ j r e.
      let l : j < length rows = slice_get_within rows j r e in
      let is : member_fields g i (at j) ≡ r = sym (row-at j l) ∙ get_or_from_slice_get rows j r [] e in
      rw (
        ← is,
        pieces-are (at j) (below j) (sound.parents_differ j),
        no-fault (at j) (below j) (sound.parents_differ j),
      ) refl))

  member-back : (j : ℕ) → j < length rows → whole_read g (ids_in i) (member_fields g i (at j)) ≡ at j
  member-back j l =
      let ps : map (parent_read (ids_in i)) (pieces_of (join_with_byte semicolon (parent_ids i (at j))))
      ≡ (at j).parents =
      ap (map (parent_read (ids_in i))) (pieces-are (at j) (below j) (sound.parents_differ j))
      ∙ parents-back (at j) (below j) (sound.parents_differ j) in
      rw (category-found j l, ps) refl

  members-back : members_read g rows ≡ i
  members-back =
      let n = count in
      let m = size in
      rw ids-are (ap (λ (t : Instance). t ++ all_member ∷ [])
      (round (whole_read g (ids_in i)) (member_fields g i) (others i)
      (λ j l. let k : j < length rows = omega arith in
      subst (λ (m : Member). whole_read g (ids_in i) (member_fields g i m) ≡ m) (sym (other-at j k))
      (member-back j k))) ∙ sym parts)

  header-there : begins_with header (instance_rows g i) ≡ true
  header-there = (slice_eq-Decides bytes_eq-Decides header header (pointwise bytes_eq header header) refl).1 refl

  records-are : records_of (text_of_instance g i) ≡ instance_rows g i
  records-are =
      text-back (instance_rows g i) (all-full header rows (omega arith) (rows-full g i (others i)))
      (λ e. absurd (omega arith))

  -- the printed text stands for the instance
  pub reads-back : instance_read g (records_of (text_of_instance g i)) ≡ Ok i
  reads-back = ap (instance_read g) records-are
      ∙ read-of g (instance_rows g i) i header-there first-none second-none members-back

  pub text-reads : (text : List ℕ) → text ≡ text_of_instance g i → instance_read g (records_of text) ≡ Ok i
  text-reads text e = ap (λ (t : List ℕ). instance_read g (records_of t)) e ∙ reads-back
