-- What is read of a text of an instance is what it means.
use Rattle.std.proofs.Common.{◌≡◌, ◌∙◌, ◌+◌, ◌∷◌, ◌++◌, ap, ℕ, Bool, cond, List, [], length, map, Option, Some, None, Result, Ok, refl}
use Rattle.std.specs.{List.list_any, Option.option_map, Prelude.{◌==◌, ◌||◌, Err, codes, nat_le, not, zip}}
use Rattle.std.specs.{Result.result_map_both, Str.bytes_eq}
use Rattle.olap_base.specs.{Following.goes_on, Graph.{Graph, is_number}, Instance.{Instance, Member}}
use Rattle.olap_base.specs.{Limits.most_members, Naming.place_of, declared.refusals.Fault.Fault}
use Rattle.olap_graph.specs.Lookups.{category_named}
use Rattle.olap_records.proofs.TableLemmas.{all_read-named, check-named, given-named, or_value, table_meant-named}
use Rattle.olap_records.specs.{Faults.first_fault, Tables.{all_read, at_record, named, or_read}}
use Rattle.olap_instance.specs.InstanceMeaning.{instance_meant, member_meant, parent_meant, parents_meant}
use Rattle.olap_instance.specs.InstanceText.{body_read, category_field, header, id_field, ids_of, instance_read, is_bad_id, is_bad_number, is_known, is_no_text, is_too_long, member_fault, member_read, name_field, parent_read, parents_fault, parents_field, parents_read, piece_fault, pieces_of, whole_read}
use Rattle.olap_instance.specs.{Kinds.name_of_kind, Members.{all_member, childless}}
use Rattle.olap_instance.specs.declared.refusals.InstanceKind.{InstanceKind}
use Rattle.olap_instance.specs.declared.refusals.InstanceKind.TheVariants as kind

-- a check that may fail, and what comes after it
abbrev check : {T : Type 0} (b : Bool) (k : InstanceKind) (next : Result T (List ℕ)) (fault : Option InstanceKind)
    (value : T) → next ≡ or_value (option_map name_of_kind fault) value
    → cond b (Err (name_of_kind k)) next ≡ or_value (option_map name_of_kind (cond b (Some k) fault)) value
check = check-named name_of_kind

-- ---- a record

module _ (g : Graph) (before : List (List (List ℕ))) (r : List (List ℕ)) where
  -- the fault of a record whose category is this
  abbrev placed_fault : ℕ → Option InstanceKind
  placed_fault c =
      cond (c == 0) (Some kind.RowForAll)
      (cond (is_bad_number (is_number g c) (name_field r)) (Some kind.BadNumber)
      (cond (is_known before (id_field r)) (Some kind.DuplicateId)
      (cond (nat_le most_members (length before + 1)) (Some kind.TooManyMembers) None)))

  -- its member
  abbrev placed : ℕ → Result Member (List ℕ)
  placed c =
      cond (c == 0) (Err (codes "RowForAll"))
      (cond (is_bad_number (is_number g c) (name_field r)) (Err (codes "BadNumber"))
      (cond (is_known before (id_field r)) (Err (codes "DuplicateId"))
      (cond (nat_le most_members (length before + 1)) (Err (codes "TooManyMembers"))
      (Ok (childless (id_field r) c (name_field r))))))

  placed-named : (c : ℕ) → placed c
      ≡ or_value (option_map name_of_kind (placed_fault c)) (childless (id_field r) c (name_field r))
  placed-named c =
      check (c == 0) kind.RowForAll _ _ _
      (check (is_bad_number (is_number g c) (name_field r)) kind.BadNumber _ _ _
      (check (is_known before (id_field r)) kind.DuplicateId _ _ _
      (check (nat_le most_members (length before + 1)) kind.TooManyMembers
      (Ok (childless (id_field r) c (name_field r))) None _ refl)))

  -- a member without its parents
  member-named : member_meant g before r
      ≡ or_value (option_map name_of_kind (member_fault g before r)) (member_read g r)
  member-named =
      check (not (length r == 4)) kind.FieldCount _ _ _
      (check (is_no_text r) kind.BadUtf8 _ _ _
      (check (is_bad_id (id_field r)) kind.BadId _ _ _
      (check (is_too_long (id_field r) || is_too_long (name_field r)) kind.TextTooLong _ _ _
      (given-named name_of_kind (category_named g (category_field r)) 0 kind.UnknownCategory placed placed_fault
      (λ c. childless (id_field r) c (name_field r)) placed-named))))

-- ---- parents

module _ (ids : List (List ℕ)) where
  -- a parent
  parent-named : (before : List (List ℕ)) (id : List ℕ)
      → parent_meant ids before id ≡ or_value (option_map name_of_kind (piece_fault ids before id)) (parent_read ids id)
  parent-named before id =
      given-named name_of_kind (place_of id ids) 0 kind.UnknownParent
      (λ y. cond (list_any (bytes_eq id) before) (Err (codes "DuplicateParent")) (Ok y))
      (λ y. cond (list_any (bytes_eq id) before) (Some kind.DuplicateParent) None) (λ y. y)
      (λ y. check (list_any (bytes_eq id) before) kind.DuplicateParent (Ok y) None y refl)

  -- the fault without its place
  without-place : (o : Option (ℕ × InstanceKind)) (xs : List ℕ)
      → result_map_both (λ ps. ps) (λ (p : ℕ × List ℕ). p.1) (or_value (option_map (λ q. (q.0, name_of_kind q.1)) o) xs)
      ≡ or_value (option_map name_of_kind (option_map (λ p. p.1) o)) xs
  without-place None xs = refl
  without-place (Some p) xs = refl

  -- the parents of a record
  parents-named : (before : List (List (List ℕ))) (r : List (List ℕ)) → parents_meant ids before r
      ≡ or_value (option_map name_of_kind (parents_fault ids before r)) (parents_read ids r)
  parents-named before r =
      ap (result_map_both (λ ps. ps) (λ (p : ℕ × List ℕ). p.1))
      (all_read-named (parent_meant ids) name_of_kind (piece_fault ids) (parent_read ids) parent-named
      (pieces_of (parents_field r)))
      ∙ without-place (first_fault (piece_fault ids) [] (pieces_of (parents_field r))) (parents_read ids r)

-- ---- all of them

-- the members with their parents, and then `all`
abbrev joined : List Member → List (List ℕ) → Instance
joined members parents = map (λ p. record p.0 { parents = p.1 }) (zip members parents) ++ all_member ∷ []

-- those that are read
joined-read : (g : Graph) (ids : List (List ℕ)) (rows : List (List (List ℕ)))
    → map (λ p. record p.0 { parents = p.1 }) (zip (map (member_read g) rows) (map (parents_read ids) rows))
    ≡ map (whole_read g ids) rows
joined-read g ids [] = refl
joined-read g ids (r ∷ rows) = ap (λ ms. whole_read g ids r ∷ ms) (joined-read g ids rows)

-- two passes, each of which may find a fault
abbrev both : Result (List Member) (ℕ × List ℕ) → Result (List (List ℕ)) (ℕ × List ℕ) → Result Instance (Fault (List ℕ))
both first second = at_record (goes_on first (λ ms. goes_on second (λ ps. Ok (joined ms ps))))

two-passes : (o p : Option (ℕ × InstanceKind)) (ms : List Member) (ps : List (List ℕ))
    → both (or_value (option_map (λ q. (q.0, name_of_kind q.1)) o) ms)
    (or_value (option_map (λ q. (q.0, name_of_kind q.1)) p) ps)
    ≡ named name_of_kind (or_read o (or_read p (Ok (joined ms ps))))
two-passes (Some f) p ms ps = refl
two-passes None (Some f) ms ps = refl
two-passes None None ms ps = refl

module _ (g : Graph) where
  -- the records after the header
  body-named : (rows : List (List (List ℕ)))
      → both (all_read (member_meant g) [] rows) (all_read (parents_meant (ids_of rows)) [] rows)
      ≡ named name_of_kind (body_read g rows)
  body-named rows =
      let first = first_fault (member_fault g) [] rows in
      let second = first_fault (parents_fault (ids_of rows)) [] rows in
      ap (λ r. both r (all_read (parents_meant (ids_of rows)) [] rows))
      (all_read-named (member_meant g) name_of_kind (member_fault g) (member_read g) (member-named g) rows)
      ∙ ap (both (or_value (option_map (λ q. (q.0, name_of_kind q.1)) first) (map (member_read g) rows)))
      (all_read-named (parents_meant (ids_of rows)) name_of_kind
      (parents_fault (ids_of rows)) (parents_read (ids_of rows))
      (parents-named (ids_of rows)) rows)
      ∙ two-passes first second (map (member_read g) rows) (map (parents_read (ids_of rows)) rows)
      ∙ ap (λ (ms : Instance). named name_of_kind (or_read first (or_read second (Ok (ms ++ all_member ∷ [])))))
      (joined-read g (ids_of rows) rows)

  -- a text
  pub instance-named : (records : List (List (List ℕ)))
      → instance_meant g records ≡ named name_of_kind (instance_read g records)
  instance-named records = table_meant-named header
      (λ rows. goes_on (all_read (member_meant g) [] rows) (λ ms.
      goes_on (all_read (parents_meant (ids_of rows)) [] rows) (λ ps. Ok (joined ms ps))))
      name_of_kind kind.BadHeader (body_read g) refl body-named records

  -- the instance of a text that has no fault
  pub meant-instance : (records : List (List (List ℕ))) (i : Instance)
      → instance_read g records ≡ Ok i → instance_meant g records ≡ Ok i
  meant-instance records i e = instance-named records ∙ ap (named name_of_kind) e
