-- What is read of a text of facts is what it means.
use Rattle.std.proofs.Common.{◌≡◌, ◌∙◌, ap, ℕ, ℤ, pos, Bool, true, false, cond, List, [], length, map, Option, Some, None, Result, Ok, refl}
use Rattle.std.specs.{Option.option_map, Prelude.{◌==◌, Err, codes, is_none, nat_le, not, unwrap_or}}
use Rattle.olap_base.specs.{Following.{given, goes_on}, Graph.Graph, Instance.{Instance, category_of}, Views.Fact}
use Rattle.olap_records.proofs.TableLemmas.{all_read-named, at_record-named, or_value, table_meant-named}
use Rattle.olap_records.specs.{Faults.{field, first_fault}, Tables.{all_read, at_record, named, or_read}}
use Rattle.olap_instance.specs.Members.{member_named}
use Rattle.olap_numerals.specs.Values.{value_of}
use Rattle.olap_facts.specs.FactMeaning.{fact_meant, facts_meant, member_meant, value_meant}
use Rattle.olap_facts.specs.FactText.{fact_fault_within, fact_read, facts_read_within, header, is_bottom}
use Rattle.olap_facts.specs.{Kinds.name_of_kind, declared.kinds.FactKind.FactKind}
use Rattle.olap_facts.specs.declared.kinds.FactKind.TheVariants as kind

-- a value that is spelled, or why there is none
pub value-named : (o : Option ℤ) (full : Bool)
    → given {B = ℤ} o (codes "BadNumber") (λ v. cond full (Err (codes "TooManyFacts")) (Ok v))
    ≡ or_value (option_map name_of_kind (cond (is_none o) (Some kind.BadNumber)
    (cond full (Some kind.TooManyFacts) None))) (unwrap_or o (pos 0))
value-named None full = refl
value-named (Some v) true = refl
value-named (Some v) false = refl

-- what comes of a member that is named, or why there is none
pub member-named : {T : Type 0} (o : Option ℕ) (is_at_bottom : ℕ → Bool) (next : ℕ → Result T (List ℕ))
    (fault : Option FactKind) (value : ℕ → T)
    → ((y : ℕ) → next y ≡ or_value (option_map name_of_kind fault) (value y))
    → goes_on (given {B = ℕ} o (codes "UnknownMember") (λ y. cond (is_at_bottom y) (Ok y) (Err (codes "NotBottom"))))
    next ≡ or_value (option_map name_of_kind (cond (is_none o) (Some kind.UnknownMember)
    (cond (not (is_at_bottom (unwrap_or o 0))) (Some kind.NotBottom) fault))) (value (unwrap_or o 0))
member-named None is_at_bottom next fault value e = refl
member-named {T} (Some y) is_at_bottom next fault value e = go (is_at_bottom y)
  where
    go : (b : Bool) → goes_on {B = T} {K = List ℕ} (cond b (Ok y) (Err (codes "NotBottom"))) next
        ≡ or_value (option_map name_of_kind (cond (not b) (Some kind.NotBottom) fault)) (value y)
    go true = e y
    go false = refl

-- a member's fact
abbrev fact_at : ℕ → ℤ → Fact ℕ
fact_at y v = record { at = y; value = v }

-- what comes of its value
abbrev with_value : ℕ → Result ℤ (List ℕ) → Result (Fact ℕ) (List ℕ)
with_value y v = goes_on v (λ v. Ok (fact_at y v))

-- the fact, or why there is no value
with-value : (y : ℕ) (o : Option (List ℕ)) (z : ℤ) → with_value y (or_value o z) ≡ or_value o (fact_at y z)
with-value y None z = refl
with-value y (Some k) z = refl

module _ (most : ℕ) (g : Graph) (i : Instance) where
  -- the fault of a value after the records before it
  abbrev value_fault : List (List (List ℕ)) → List (List ℕ) → Option FactKind
  value_fault before r = cond (is_none (value_of (field r 1))) (Some kind.BadNumber)
      (cond (nat_le most (length before)) (Some kind.TooManyFacts) None)

  -- what comes of a member
  abbrev next : List (List (List ℕ)) → List (List ℕ) → ℕ → Result (Fact ℕ) (List ℕ)
  next before r y = with_value y (value_meant most (length before) (field r 1))

  next-named : (before : List (List (List ℕ))) (r : List (List ℕ)) (y : ℕ) → next before r y
      ≡ or_value (option_map name_of_kind (value_fault before r)) (fact_at y (unwrap_or (value_of (field r 1)) (pos 0)))
  next-named before r y =
      ap (with_value y) (value-named (value_of (field r 1)) (nat_le most (length before)))
      ∙ with-value y (option_map name_of_kind (value_fault before r)) (unwrap_or (value_of (field r 1)) (pos 0))

  -- the fault of a record that has two fields
  abbrev pair_fault : List (List (List ℕ)) → List (List ℕ) → Option FactKind
  pair_fault before r = cond (is_none (member_named i (field r 0))) (Some kind.UnknownMember)
      (cond (not (is_bottom g (category_of i (unwrap_or (member_named i (field r 0)) 0)))) (Some kind.NotBottom)
      (value_fault before r))

  -- a record
  fact-named : (before : List (List (List ℕ))) (r : List (List ℕ)) → fact_meant most g i before r
      ≡ or_value (option_map name_of_kind (fact_fault_within most g i before r)) (fact_read i r)
  fact-named before r = go (length r == 2)
    where
      go : (two : Bool)
          → cond (not two) (Err (codes "FieldCount")) (goes_on (member_meant g i (field r 0)) (next before r))
          ≡ or_value (option_map name_of_kind (cond (not two) (Some kind.FieldCount) (pair_fault before r)))
          (fact_read i r)
      go true = member-named (member_named i (field r 0)) (λ y. is_bottom g (category_of i y)) (next before r)
          (value_fault before r) (λ y. fact_at y (unwrap_or (value_of (field r 1)) (pos 0))) (next-named before r)
      go false = refl

  -- a text of facts
  pub facts-named : (records : List (List (List ℕ)))
      → facts_meant most g i records ≡ named name_of_kind (facts_read_within most g i records)
  facts-named records = table_meant-named header (all_read (fact_meant most g i) []) name_of_kind kind.BadHeader
      (λ rows. or_read (first_fault (fact_fault_within most g i) [] rows) (Ok (map (fact_read i) rows))) refl
      (λ rows. ap at_record (all_read-named (fact_meant most g i) name_of_kind (fact_fault_within most g i)
      (fact_read i) fact-named rows)
      ∙ at_record-named name_of_kind (first_fault (fact_fault_within most g i) [] rows) (map (fact_read i) rows))
      records

  -- the facts of a text that has no fault
  pub meant-facts : (records : List (List (List ℕ))) (facts : List (Fact ℕ))
      → facts_read_within most g i records ≡ Ok facts → facts_meant most g i records ≡ Ok facts
  meant-facts records facts e = facts-named records ∙ ap (named name_of_kind) e
