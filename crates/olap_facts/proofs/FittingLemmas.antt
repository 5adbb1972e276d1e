-- What is read has 64 bits.
use Rattle.std.proofs.Common.{◌≡◌, ℕ, ℤ, pos, List, [], ◌∷◌, Bool, true, false, cond, map, Option, None, Some, refl, subst, w64}
use Rattle.std.proofs.lemmas.{List.Elements.{All-cons, All-nil}, Option.cond_some}
use Rattle.std.specs.Prelude.{◌&&◌, All, FitsSigned, Ok, Err, drop, unwrap_or}
use Rattle.std.specs.Str.Parse.{signed_digits_value, without_leading_sign}
use Rattle.olap_base.{proofs.ListLemmas.second_true, specs.Instance.Instance, specs.Views.Fact}
use Rattle.olap_base.specs.declared.refusals.Fault.{Fault}
use Rattle.olap_facts.specs.{FactText.{fact_fault_within, fact_read, header}, Laws.ReadFactsFit}
use Rattle.olap_facts.specs.declared.kinds.FactKind.{FactKind}
use Rattle.olap_numerals.{proofs.Spelling.{i64-decides, is_i64}, specs.Values.{is_numeral, value_of}}
use Rattle.olap_records.specs.{Faults.{field, first_fault}, Tables.{begins_with, or_read}}

-- a value that is spelled has 64 bits
pub value-fits : (text : List ℕ) (n : ℤ) → value_of text ≡ Some n → FitsSigned w64 n
value-fits text n e =
    let z = signed_digits_value 10 text in
    let t = cond_some (is_numeral (without_leading_sign text) && is_i64 z) z n e in
    subst (FitsSigned w64) t.1 ((i64-decides z).0 (second_true (is_numeral (without_leading_sign text)) (is_i64 z) t.0))

-- so has one that is zero where it isn't spelled
value-or-zero : (o : Option ℤ) → ((n : ℤ) → o ≡ Some n → FitsSigned w64 n) → FitsSigned w64 (unwrap_or o (pos 0))
value-or-zero None f = (i64-decides (pos 0)).0 refl
value-or-zero (Some n) f = f n refl

-- so has each record's
all-facts : (i : Instance) (rows : List (List (List ℕ))) → All (λ f. FitsSigned w64 f.value) (map (fact_read i) rows)
all-facts i [] = All-nil (λ (f : Fact ℕ). FitsSigned w64 f.value)
all-facts i (r ∷ rows) = All-cons (λ (f : Fact ℕ). FitsSigned w64 f.value) (fact_read i r)
    (map (fact_read i) rows) (value-or-zero (value_of (field r 1)) (value-fits (field r 1))) (all-facts i rows)

-- the theorem
pub read-facts-fit : ReadFactsFit
read-facts-fit most g i records fs e = go (begins_with header records) _ e
  where
    read : (o : Option (ℕ × FactKind)) → or_read o (Ok (map (fact_read i) (drop 1 records))) ≡ Ok fs
        → All (λ f. FitsSigned w64 f.value) fs
    read None e = let z : map (fact_read i) (drop 1 records) ≡ fs = cc in
        subst (λ xs. All (λ (f : Fact ℕ). FitsSigned w64 f.value) xs) z (all-facts i (drop 1 records))
    read (Some p) e = absurd (cc)

    go : (b : Bool) (fault : Fault FactKind)
        → cond b (or_read (first_fault (fact_fault_within most g i) [] (drop 1 records))
        (Ok (map (fact_read i) (drop 1 records)))) (Err fault) ≡ Ok fs
        → All (λ f. FitsSigned w64 f.value) fs
    go true fault e = read (first_fault (fact_fault_within most g i) [] (drop 1 records)) e
    go false fault e = absurd (cc)
