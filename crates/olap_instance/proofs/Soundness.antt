-- What the records of a text stand for is a dimension instance, made for the graph.
use Rattle.std.proofs.Common.{◌≡◌, ◌≢◌, ◌+◌, ◌<◌, ◌≤◌, ◌==◌, ◌++◌, ◌∷◌, ◌∙◌, ◌⊎◌, inl, inr, Bool, true, false, ℕ, zero, suc, List, [], length, map, take, drop, codes, get_or, length-take, Option, Some, None, Ok, Err, if◌then◌else◌, refl, sym, ap, arith}
use Rattle.std.proofs.{Math.Seq.get_or-append_seam, lemmas.Bool.or_parts, lemmas.Bool.Decides.eqb_tells}
use Rattle.std.proofs.lemmas.List.{get_or_append_left, get_or-map, get_or-take, length-append, length-map, map-append}
use Rattle.std.{proofs.lemmas.Option.slice_get-get_or, proofs.lemmas.Slice.Eq.bytes_eq-Decides, specs.List.list_any}
use Rattle.std.specs.{Prelude.{IsSome, IsTrue, nat_le}, Str.is_utf8}
use Rattle.olap_base.specs.{Bytes.semicolon, Graph.{Graph, IsCategory, is_number}}
use Rattle.olap_base.specs.{Instance.{Instance, Member, category_of, member_at, name_of, nobody}, Limits.most_members}
use Rattle.olap_numerals.specs.Numerals.{number_of}
use Rattle.olap_graph.specs.Lookups.{category_named, names_of}
use Rattle.olap_records.{proofs.FaultLemmas.none-iff, specs.Faults.{field, first_fault}}
use Rattle.olap_records.specs.Tables.{begins_with, or_read}
use Rattle.olap_instance.proofs.Checks.{IsGood, absent-at, four, fresh-parts, good, good-number, no-second, place-inside, places-differ, there, within}
use Rattle.olap_instance.proofs.{Completing.{AreComplete, complete-names, complete-sound}, EnteringLemmas.ids-read}
use Rattle.olap_instance.proofs.PlaceFacts.{place-within}
use Rattle.olap_instance.specs.InstanceText.{body_read, category_field, category_number, header, id_field, ids_of, is_too_long, member_fault, member_read, members_read, name_field, parents_fault, parents_field, parents_read, piece_fault, pieces_of, whole_read}
use Rattle.olap_instance.specs.{Laws.{IsReadFor, ReadIsInstance}, Made.IsMadeFor}
use Rattle.olap_instance.specs.Members.{AreSound, HasShortNames, HasTexts, all_member, with_parents}
use Rattle.olap_instance.specs.{Passes.{PassesFirst, PassesSecond, ids_in}, declared.refusals.InstanceKind.InstanceKind}
use Rattle.olap_instance.specs.declared.refusals.InstanceKind.TheVariants as kind

-- ---- records

module _ (g : Graph) (rows : List (List (List ℕ))) (first : first_fault (member_fault g) [] rows ≡ None)
    (second : first_fault (parents_fault (ids_of rows)) [] rows ≡ None) where
  abbrev row : ℕ → List (List ℕ)
  row x = get_or rows x []

  abbrev members : Instance
  members = map (member_read g) rows

  abbrev parents : List (List ℕ)
  parents = map (parents_read (ids_of rows)) rows

  count : length members ≡ length rows
  count = length-map rows (member_read g)

  good-at : (x : ℕ) → x < length rows → IsGood g (take x rows) (row x)
  good-at x l =
      good g (take x rows) (row x) ((none-iff (member_fault g) rows).0 first x (row x) (slice_get-get_or rows x [] l))

  pieces-pass : (x : ℕ) → x < length rows
      → first_fault (piece_fault (ids_of rows)) [] (pieces_of (parents_field (row x))) ≡ None
  pieces-pass x l =
      no-second _ ((none-iff (parents_fault (ids_of rows)) rows).0 second x (row x) (slice_get-get_or rows x [] l))

  in-rows : (x : ℕ) → x < length members → x < length rows
  in-rows x l = let n = count in omega arith

  member-is : (x : ℕ) → x < length rows → member_at members x ≡ member_read g (row x)
  member-is x l = get_or-map (member_read g) rows x [] nobody l

  parents-are : (x : ℕ) → x < length rows → get_or parents x [] ≡ parents_read (ids_of rows) (row x)
  parents-are x l = get_or-map (parents_read (ids_of rows)) rows x [] [] l

  id-is : (x : ℕ) → x < length members → (member_at members x).id ≡ id_field (row x)
  id-is x l = ap (λ (m : Member). m.id) (member-is x (in-rows x l))

  -- a later record has another id
  later-differs : (x y : ℕ) → x < y → y < length rows → id_field (row x) ≢ id_field (row y)
  later-differs x y xy l e =
      let none = (fresh-parts (take y rows) (id_field (row y)) (good-at y l).fresh).1 in
      let m = length-take y rows in
      let n = length-map (take y rows) id_field in
      let here : get_or (take y rows) x [] ≡ row x = get_or-take y rows x [] xy in
      let i : x < length (take y rows) = omega arith in
      let at : get_or (map id_field (take y rows)) x [] ≡ id_field (row x) =
      get_or-map id_field (take y rows) x [] [] i ∙ ap id_field here in
      absent-at (id_field (row y)) (map id_field (take y rows)) 0 x none (omega arith) (at ∙ e)

  ids-differ : (x y : ℕ) → x < length members → y < length members
      → (member_at members x).id ≡ (member_at members y).id → x ≡ y
  ids-differ x y lx ly e =
      let same = sym (id-is x lx) ∙ e ∙ id-is y ly in
      elim (eqb_tells x y) [
        | inl t ↦ t.1
        | inr f ↦ absurd (elim (apart x y f.1) [
          | inl xy ↦ later-differs x y xy (in-rows y ly) same
          | inr yx ↦ later-differs y x yx (in-rows x lx) (sym same)
        ])
      ]
    where
      apart : (x y : ℕ) → x ≢ y → (x < y) ⊎ (y < x)
      apart x y d = grind arith

  good-texts : HasTexts members
  good-texts x l =
      let r = in-rows x l in
      let h = good-at x r in
      let t = four (is_utf8 (field (row x) 0)) (is_utf8 (field (row x) 1)) (is_utf8 (field (row x) 2))
      (is_utf8 (field (row x) 3)) h.text in
      let b = or_parts (length (id_field (row x)) == 0) (list_any (λ b. b == semicolon) (id_field (row x))) h.id in
      let s = or_parts (is_too_long (id_field (row x))) (is_too_long (name_field (row x))) h.short in
      rw (member-is x r) (
        record {
          utf8 = t.0;
          short = within (length (id_field (row x))) s.0;
          filled = λ e. zero-length (length (id_field (row x))) e b.0;
          whole = b.1;
        },
        t.1,
      )
    where
      zero-length : (n : ℕ) → n ≡ 0 → (n == 0) ≡ false → ⊥
      zero-length n e f = cc (rw e at f)

  short-names : HasShortNames members
  short-names x l =
      let r = in-rows x l in
      let h = good-at x r in
      let s = or_parts (is_too_long (id_field (row x))) (is_too_long (name_field (row x))) h.short in
      rw (member-is x r) (within (length (name_field (row x))) s.1)

  no-all : (x : ℕ) → x < length members → (member_at members x).id ≢ codes "all"
  no-all x l e =
      let f = (fresh-parts (take x rows) (id_field (row x)) (good-at x (in-rows x l)).fresh).0 in
      let t = (bytes_eq-Decides (id_field (row x)) (codes "all")).1 (sym (id-is x l) ∙ e) in
      cc (t, f)

  is-declared : (x : ℕ) → x < length members → category_of members x ≢ 0
  is-declared x l e =
      let f = (good-at x (in-rows x l)).declared in
      let z : category_number g (row x) ≡ 0 = sym (ap (λ (m : Member). m.category) (member-is x (in-rows x l))) ∙ e in
      by (category_number g (row x)) z f
    where
      by : (n : ℕ) → n ≡ 0 → (n == 0) ≡ false → ⊥
      by n e f = cc (rw e at f)

  few : length rows < most_members
  few = by (length rows) refl
    where
      within-limit : (k : ℕ) → nat_le most_members (k + 1) ≡ false → length rows ≤ k + 1 → length rows < most_members
      within-limit k e l = grind arith

      by : (n : ℕ) → length rows ≡ n → length rows < most_members
      by zero e = omega arith
      by (suc n) e =
          let l : n < length rows = omega arith in
          let r = (good-at n l).room in
          let m = length-take n rows in
          within-limit (length (take n rows)) r (omega arith)

  -- the members of the records, with their parents, lack nothing but `all`
  pub read-complete : AreComplete members parents
  read-complete = record {
    as_many = count ∙ sym (length-map rows (parents_read (ids_of rows)));
    few = let n = count in let f = few in omega arith;
    ids_differ = ids-differ;
    not_all = no-all;
    declared = is-declared;
    texts = good-texts;
    parents_inside = λ x y l c.
        let r = in-rows x l in
        let ids = ids_of rows in
        let h : y < length ids =
        place-inside ids (pieces_of (parents_field (row x))) (pieces-pass x r) y (rw (parents-are x r) at c) in
        let n = length-append (map id_field rows) (codes "all" ∷ []) in
        let m = length-map rows id_field in
        let k = count in
        omega arith;
    parents_differ = λ x l.
        let r = in-rows x l in
        rw (parents-are x r) (places-differ (ids_of rows) (pieces_of (parents_field (row x))) (pieces-pass x r));
  }

  -- each category is one of the graph
  pub read-made : (x : ℕ) → x < length rows → IsCategory g (category_number g (row x))
  read-made x l =
      let p = there (category_named g (category_field (row x))) (good-at x l).named in
      let w = place-within (category_field (row x)) (names_of g) p.0 p.1 in
      rw p.1 (omega arith)

  -- and each name a numeral, where names are numbers
  pub read-numeral : (x : ℕ) → x < length rows → IsTrue (is_number g (category_number g (row x)))
      → IsSome (number_of (name_field (row x)))
  read-numeral x l t =
      good-number (is_number g (category_number g (row x))) (name_field (row x)) (good-at x l).numeral t

-- what the two passes find, put together
pub record IsRead (g : Graph) (rows : List (List (List ℕ))) (ms : Instance) (ps : List (List ℕ)) : Type 0 where
  pub second : first_fault (parents_fault (ids_of rows)) [] rows ≡ None
  pub sound : AreSound ms ps
  pub members : with_parents ms ps ≡ members_read g rows
  pub made : IsMadeFor g (with_parents ms ps)
  pub names : HasShortNames (with_parents ms ps)

module _ (g : Graph) (rows : List (List (List ℕ))) where
  pub ids-whole : (ms whole : Instance) → ms ≡ map (member_read g) rows → whole ≡ ms ++ all_member ∷ []
      → ids_in whole ≡ ids_of rows
  ids-whole ms whole em ew =
      rw (ew, em, map-append (λ m. m.id) (map (member_read g) rows) (all_member ∷ []))
      (ap (λ (t : List (List ℕ)). t ++ codes "all" ∷ []) (sym (ids-read g rows)))

  put-together : (ids : List (List ℕ)) (xs : List (List (List ℕ)))
      → with_parents (map (member_read g) xs ++ all_member ∷ []) (map (parents_read ids) xs ++ [] ∷ []) ≡ map
      (whole_read g ids) xs ++ all_member ∷ []
  put-together ids [] = refl
  put-together ids (r ∷ xs) = ap (λ (t : Instance). whole_read g ids r ∷ t) (put-together ids xs)

  -- the member at a place is that of a record, or `all`
  at-place : (x : ℕ) → x < length (members_read g rows)
      → ((x < length rows) × (member_at (members_read g rows) x ≡ whole_read g (ids_of rows) (get_or rows x [])))
      ⊎ (member_at (members_read g rows) x ≡ all_member)
  at-place x l =
      let f = whole_read g (ids_of rows) in
      let n = length-append (map f rows) (all_member ∷ []) in
      let m = length-map rows f in
      elim (eqb_tells x (length rows)) [
        | inl t ↦
            inr (ap (λ (k : ℕ). member_at (members_read g rows) k) (t.1 ∙ sym m)
            ∙ get_or-append_seam (map f rows) all_member [] nobody)
        | inr d ↦
            let k : x < length rows = let ne = d.1 in omega arith in
            let i : x < length (map f rows) = omega arith in
            inl (k, get_or_append_left (map f rows) (all_member ∷ []) nobody x i ∙ get_or-map f rows x [] nobody k)
      ]

  all-made : first_fault (member_fault g) [] rows ≡ None → first_fault (parents_fault (ids_of rows)) [] rows ≡ None
      → IsMadeFor g (members_read g rows)
  all-made first second = record {
    categories = λ x l. elim (at-place x l) [
      | inl t ↦ within-graph x (whole_read g (ids_of rows) (get_or rows x [])) t.1
          (read-made g rows first second x t.0)
      | inr e ↦ within-graph x all_member e (omega arith)
    ];
    numerals = λ x l t. elim (at-place x l) [
      | inl u ↦ rw (name_of, u.1)
          (read-numeral g rows first second x u.0 (rw (category_of, u.1) at t))
      | inr e ↦ absurd (let z : IsTrue false = rw (category_of, e) at t in cc)
    ];
  }
    where
      within-graph : (x : ℕ) (m : Member) → member_at (members_read g rows) x ≡ m → IsCategory g m.category
          → IsCategory g (category_of (members_read g rows) x)
      within-graph x m e h = rw (category_of, e) h

  pub is-read : (ms whole : Instance) (ps more : List (List ℕ)) → PassesFirst g rows ms → whole ≡ ms ++ all_member ∷ []
      → PassesSecond (ids_in whole) rows ps → more ≡ ps ++ [] ∷ [] → IsRead g rows whole more
  is-read ms whole ps more first ew second em =
      let ids = ids-whole ms whole first.1 ew in
      let none : first_fault (parents_fault (ids_of rows)) [] rows ≡ None = rw ids at second.0 in
      let parts : ps ≡ map (parents_read (ids_of rows)) rows = rw ids at second.1 in
      let members : with_parents whole more ≡ members_read g rows =
      rw (ew, em, first.1, parts) (put-together (ids_of rows) rows) in
      record {
        second = none;
        sound = rw (ew, em, first.1, parts)
            (complete-sound (map (member_read g) rows) (map (parents_read (ids_of rows)) rows)
            (read-complete g rows first.0 none));
        members = members;
        made = rw members (all-made first.0 none);
        names = rw (ew, em, first.1, parts)
            (complete-names (map (member_read g) rows) (map (parents_read (ids_of rows)) rows)
            (read-complete g rows first.0 none) (short-names g rows first.0 none));
      }

  -- members without their parents, and parents, as the definition has them
  parts-read : first_fault (member_fault g) [] rows ≡ None → first_fault (parents_fault (ids_of rows)) [] rows ≡ None
      → IsRead g rows (map (member_read g) rows ++ all_member ∷ []) (map (parents_read (ids_of rows)) rows ++ [] ∷ [])
  parts-read first second =
      let ids = ids-whole (map (member_read g) rows) (map (member_read g) rows ++ all_member ∷ []) refl refl in
      is-read (map (member_read g) rows) (map (member_read g) rows ++ all_member ∷ [])
      (map (parents_read (ids_of rows)) rows) (map (parents_read (ids_of rows)) rows ++ [] ∷ [])
      (first, refl) refl (rw ids second, ap (λ (t : List (List ℕ)). map (parents_read t) rows) (sym ids)) refl

  body-sound : (i : Instance) → body_read g rows ≡ Ok i → IsReadFor g i
  body-sound i e =
      by (first_fault (member_fault g) [] rows) (first_fault (parents_fault (ids_of rows)) [] rows) refl refl e
    where
      by : (a b : Option (ℕ × InstanceKind)) → first_fault (member_fault g) [] rows ≡ a
          → first_fault (parents_fault (ids_of rows)) [] rows ≡ b
          → or_read a (or_read b (Ok (members_read g rows))) ≡ Ok i
          → IsReadFor g i
      by (Some p) b ea eb e = cc e
      by None (Some q) ea eb e = cc e
      by None None ea eb e =
          let r = parts-read ea eb in
          let same : members_read g rows ≡ i = cc in
          let is = r.members ∙ same in
          record {
            instance = rw is at r.sound.instance;
            made = rw is at r.made;
            texts = rw is at r.sound.texts;
            names = rw is at r.names;
            top = rw is at r.sound.top;
          }

-- what records stand for is an instance
pub read-sound : ReadIsInstance
read-sound g records i e = by (begins_with header records) e (body-sound g (drop 1 records) i)
  where
    by : (b : Bool)
        → (if b then body_read g (drop 1 records) else Err (record { at = 1; kind = kind.BadHeader })) ≡ Ok i
        → (body_read g (drop 1 records) ≡ Ok i → IsReadFor g i) → IsReadFor g i
    by true e next = next e
    by false e next = cc e
