-- What is read of a text of a cube's facts is what it means.
use Rattle.std.proofs.Common.{◌≡◌, ◌∙◌, ◌+◌, ◌∷◌, ap, arith, ℕ, ℤ, pos, Bool, true, false, cond, List, [], length, map, Option, Some, None, Result, Ok, refl}
use Rattle.std.specs.{Option.{option_map, option_or}, Prelude.{◌==◌, Err, codes, is_none, nat_le, not, unwrap_or}}
use Rattle.olap_base.specs.{Following.{given, goes_on}, Graph.Graph, Instance.{Instance, category_of}, Views.Fact}
use Rattle.olap_records.proofs.TableLemmas.{all_read-named, at_record-named, or_value, table_meant-named}
use Rattle.olap_records.specs.{Faults.{field, first_fault}, Tables.{all_read, at_record, named, or_read}}
use Rattle.olap_instance.specs.Members.{member_named, member_number}
use Rattle.olap_numerals.specs.Values.{value_of}
use Rattle.olap_facts.{proofs.MeaningLemmas.value-named, specs.FactMeaning.value_meant, specs.FactText.is_bottom}
use Rattle.olap_facts.specs.{Kinds.name_of_kind, declared.kinds.FactKind.FactKind}
use Rattle.olap_cube_views.specs.CubeFactMeaning.{cube_fact_meant, cube_facts_meant, members_meant}
use Rattle.olap_cube_views.specs.CubeFactText.{cube_fact_fault_within, cube_fact_read, cube_facts_read_within, header, member_fault, members_fault, members_read, value_fault_within}
use Rattle.olap_facts.specs.declared.kinds.FactKind.TheVariants as kind

-- ---- one after the other

-- what comes of a thing that may have a fault
goes_on-named : {A T : Type 0} (o : Option FactKind) (x : A) (next : A → Result T (List ℕ)) (fault : Option FactKind)
    (value : T) → next x ≡ or_value (option_map name_of_kind fault) value
    → goes_on (or_value (option_map name_of_kind o) x) next
    ≡ or_value (option_map name_of_kind (option_or o fault)) value
goes_on-named None x next fault value e = e
goes_on-named (Some k) x next fault value e = refl

-- ---- members

-- a member that a field names, or why there is none
one-named : (o : Option ℕ) (is_at_bottom : ℕ → Bool)
    → given {B = ℕ} o (codes "UnknownMember") (λ y. cond (is_at_bottom y) (Ok y) (Err (codes "NotBottom")))
    ≡ or_value (option_map name_of_kind (cond (is_none o) (Some kind.UnknownMember)
    (cond (not (is_at_bottom (unwrap_or o 0))) (Some kind.NotBottom) None))) (unwrap_or o 0)
one-named None is_at_bottom = refl
one-named (Some y) is_at_bottom = go (is_at_bottom y)
  where
    go : (b : Bool) → cond b (Ok y) (Err (codes "NotBottom"))
        ≡ or_value (option_map name_of_kind (cond (not b) (Some kind.NotBottom) None)) y
    go true = refl
    go false = refl

-- a member before those that come after it
abbrev with_others : ℕ → Result (List ℕ) (List ℕ) → Result (List ℕ) (List ℕ)
with_others x others = goes_on others (λ xs. Ok (x ∷ xs))

with_others-named : (o : Option (List ℕ)) (x : ℕ) (xs : List ℕ)
    → with_others x (or_value o xs) ≡ or_value o (x ∷ xs)
with_others-named None x xs = refl
with_others-named (Some k) x xs = refl

-- the members that the first fields name
members-named : (gs : List Graph) (is : List Instance) (ids : List (List ℕ)) → length gs ≡ length is
    → members_meant gs is ids ≡ or_value (option_map name_of_kind (members_fault gs is ids)) (members_read is ids)
members-named [] [] ids e = refl
members-named [] (i ∷ is) ids e = absurd (omega arith)
members-named (g ∷ gs) [] ids e = absurd (omega arith)
members-named (g ∷ gs) (i ∷ is) [] e = refl
members-named (g ∷ gs) (i ∷ is) (id ∷ ids) e =
    ap (λ r. goes_on r (λ x. with_others x (members_meant gs is ids)))
    (one-named (member_named i id) (λ y. is_bottom g (category_of i y)))
    ∙ goes_on-named (member_fault g i id) (member_number i id) (λ x. with_others x (members_meant gs is ids))
    (members_fault gs is ids) (member_number i id ∷ members_read is ids)
    (ap (with_others (member_number i id)) (members-named gs is ids (omega arith))
    ∙ with_others-named (option_map name_of_kind (members_fault gs is ids)) (member_number i id) (members_read is ids))

-- ---- records

-- the fact at these members
abbrev fact_at : List ℕ → ℤ → Fact (List ℕ)
fact_at xs v = record { at = xs; value = v }

-- what comes of its value
abbrev with_value : List ℕ → Result ℤ (List ℕ) → Result (Fact (List ℕ)) (List ℕ)
with_value xs v = goes_on v (λ v. Ok (fact_at xs v))

with_value-named : (xs : List ℕ) (o : Option (List ℕ)) (z : ℤ)
    → with_value xs (or_value o z) ≡ or_value o (fact_at xs z)
with_value-named xs None z = refl
with_value-named xs (Some k) z = refl

module _ (most : ℕ) (gs : List Graph) (is : List Instance) (as_many : length gs ≡ length is) where
  -- what comes of a record's members
  abbrev next : List (List (List ℕ)) → List (List ℕ) → List ℕ → Result (Fact (List ℕ)) (List ℕ)
  next before r xs = with_value xs (value_meant most (length before) (field r (length is)))

  next-named : (before : List (List (List ℕ))) (r : List (List ℕ)) (xs : List ℕ) → next before r xs
      ≡ or_value (option_map name_of_kind (value_fault_within most before (field r (length is))))
      (fact_at xs (unwrap_or (value_of (field r (length is))) (pos 0)))
  next-named before r xs =
      ap (with_value xs) (value-named (value_of (field r (length is))) (nat_le most (length before)))
      ∙ with_value-named xs (option_map name_of_kind (value_fault_within most before (field r (length is))))
      (unwrap_or (value_of (field r (length is))) (pos 0))

  -- a record
  fact-named : (before : List (List (List ℕ))) (r : List (List ℕ)) → cube_fact_meant most gs is before r
      ≡ or_value (option_map name_of_kind (cube_fact_fault_within most gs is before r)) (cube_fact_read is r)
  fact-named before r = go (length r == length is + 1)
    where
      go : (b : Bool) → cond (not b) (Err (codes "FieldCount")) (goes_on (members_meant gs is r) (next before r))
          ≡ or_value (option_map name_of_kind (cond (not b) (Some kind.FieldCount) (option_or (members_fault gs is r)
          (value_fault_within most before (field r (length is)))))) (cube_fact_read is r)
      go true =
          ap (λ ms. goes_on ms (next before r)) (members-named gs is r as_many)
          ∙ goes_on-named (members_fault gs is r) (members_read is r) (next before r)
          (value_fault_within most before (field r (length is))) (cube_fact_read is r)
          (next-named before r (members_read is r))
      go false = refl

  -- a text of facts
  pub cube-facts-named : (records : List (List (List ℕ)))
      → cube_facts_meant most gs is records ≡ named name_of_kind (cube_facts_read_within most gs is records)
  cube-facts-named records = table_meant-named (header (length is)) (all_read (cube_fact_meant most gs is) [])
      name_of_kind kind.BadHeader
      (λ rows. or_read (first_fault (cube_fact_fault_within most gs is) [] rows) (Ok (map (cube_fact_read is) rows)))
      refl
      (λ rows. ap at_record (all_read-named (cube_fact_meant most gs is) name_of_kind
      (cube_fact_fault_within most gs is) (cube_fact_read is) fact-named rows)
      ∙ at_record-named name_of_kind (first_fault (cube_fact_fault_within most gs is) [] rows)
      (map (cube_fact_read is) rows))
      records

  -- the facts of a text that has no fault
  pub meant-cube-facts : (records : List (List (List ℕ))) (facts : List (Fact (List ℕ)))
      → cube_facts_read_within most gs is records ≡ Ok facts → cube_facts_meant most gs is records ≡ Ok facts
  meant-cube-facts records facts e = cube-facts-named records ∙ ap (named name_of_kind) e
