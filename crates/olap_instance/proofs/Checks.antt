-- What it tells that a record, or a piece of a field of parents, fails no check.
use Rattle.std.proofs.Common.{rules, ◌≡◌, ◌≢◌, ◌+◌, ◌<◌, ◌≤◌, ◌==◌, ◌||◌, ◌++◌, ◌∷◌, ◌∙◌, not, Bool, true, false, ℕ, zero, suc, List, [], length, map, take, codes, get_or, length-take, Option, Some, None, if◌then◌else◌, refl, sym, ap, arith}
use Rattle.std.proofs.lemmas.{Bool.or_parts, List.{get_or-map, get_or-take, length-map, take_more}}
use Rattle.std.proofs.lemmas.{Option.slice_get-get_or, Slice.Eq.bytes_eq-Decides}
use Rattle.std.specs.{List.{list_any, position_from}, Option.option_map}
use Rattle.std.specs.{Prelude.{AllPairs, Contains, IsSome, IsTrue, is_none, nat_le, nat_lt}, Str.bytes_eq}
use Rattle.olap_base.{proofs.GeneralLemmas.none_from_is_some, specs.Graph.{Graph, is_number}}
use Rattle.olap_base.specs.{Limits.{most_members, most_text_bytes}, Naming.place_of}
use Rattle.olap_graph.specs.Lookups.{category_named}
use Rattle.olap_records.{proofs.FaultLemmas.none-iff, specs.Faults.first_fault}
use Rattle.olap_instance.{proofs.PlaceFacts.{id-at-place, place-within}, specs.Drafts.numbers_in}
use Rattle.olap_instance.specs.InstanceText.{category_field, category_number, id_field, is_bad_id, is_bad_number, is_known, is_no_text, is_too_long, member_fault, name_field, parent_read, piece_fault}
use Rattle.olap_numerals.specs.Numerals.{number_of}

-- ---- checks

-- if there is no fault the first check passes, and the others
pub else-none : {K : Type 0} (b : Bool) (k : K) (o : Option K) → (if b then Some k else o) ≡ None
    → (b ≡ false) × (o ≡ None)
else-none true k o e = cc e
else-none false k o e = (refl, e)

-- what isn't none is something
pub there : {A : Type 0} (o : Option A) → is_none o ≡ false → (x : A) × (o ≡ Some x)
there None e = cc e
there (Some x) e = (x, refl)

-- if there is no kind of fault there is no fault
pub no-second : {K : Type 0} (o : Option (ℕ × K)) → option_map (λ (p : ℕ × K). p.1) o ≡ None → o ≡ None
no-second None e = refl
no-second (Some p) e = cc e

-- a record that fails no check of the first pass
pub record IsGood (g : Graph) (before : List (List (List ℕ))) (r : List (List ℕ)) : Type 0 where
  pub text : is_no_text r ≡ false
  pub id : is_bad_id (id_field r) ≡ false
  pub short : (is_too_long (id_field r) || is_too_long (name_field r)) ≡ false
  pub named : is_none (category_named g (category_field r)) ≡ false
  pub declared : (category_number g r == 0) ≡ false
  pub numeral : is_bad_number (is_number g (category_number g r)) (name_field r) ≡ false
  pub fresh : is_known before (id_field r) ≡ false
  pub room : nat_le most_members (length before + 1) ≡ false

-- a record without a fault has good fields
pub good : (g : Graph) (before : List (List (List ℕ))) (r : List (List ℕ)) → member_fault g before r ≡ None
    → IsGood g before r
good g before r e = grind (arith, else-none)

-- a name that is no bad one of a number category is a numeral
pub good-number : (number : Bool) (name : List ℕ) → is_bad_number number name ≡ false → IsTrue number
    → IsSome (number_of name)
good-number false name e t = cc t
good-number true name e t = search rules

-- and the other way round
pub number-good : (number : Bool) (name : List ℕ) → (IsTrue number → IsSome (number_of name))
    → is_bad_number number name ≡ false
number-good false name h = refl
number-good true name h = search rules

-- whether the names of a category are numbers, looked up
pub kind-at : (g : Graph) (c : ℕ) → get_or (numbers_in g) c false ≡ is_number g c
kind-at g zero = refl
kind-at g (suc c) = refl

-- the kind of one category more
pub kinds-more : (g : Graph) (c : ℕ) (kinds now : List Bool) (k : Bool) → c < length (numbers_in g)
    → kinds ≡ take c (numbers_in g) → k ≡ is_number g c → now ≡ kinds ++ k ∷ [] → now ≡ take (c + 1) (numbers_in g)
kinds-more g c kinds now k l e ek en =
    en ∙ rw (e, ek, ← kind-at g c) (sym (take_more (numbers_in g) c false l))

-- an id that isn't known is or_parts `all` nor that of an earlier record
pub fresh-parts : (before : List (List (List ℕ))) (id : List ℕ) → is_known before id ≡ false
    → (bytes_eq id (codes "all") ≡ false) × (place_of id (map id_field before) ≡ None)
fresh-parts before id e = grind (arith, or_parts, none_from_is_some)

-- of four tests that all pass the first and the third do
pub four : (a b c d : Bool) → (not a || not b || not c || not d) ≡ false → (a ≡ true) × (c ≡ true)
four false b c d e = cc e
four true false c d e = cc e
four true true false d e = cc e
four true true true d e = (refl, refl)

-- what is not found is not there
pub absent-at : (x : List ℕ) (ids : List (List ℕ)) (n k : ℕ) → position_from (bytes_eq x) n ids ≡ None
    → k < length ids → get_or ids k [] ≢ x
absent-at x [] n k e l s = omega arith
absent-at x (y ∷ ys) n k e l s = grind (arith, bytes_eq-Decides, absent-at x ys (n + 1))

-- no more than the limit, by the test
pub within : (n : ℕ) → nat_lt most_text_bytes n ≡ false → n ≤ most_text_bytes
within n e = grind (arith)

-- ---- pieces

module _ (ids : List (List ℕ)) (ps : List (List ℕ)) (pass : first_fault (piece_fault ids) [] ps ≡ None) where
  pub piece-passes : (i : ℕ) → i < length ps → piece_fault ids (take i ps) (get_or ps i []) ≡ None
  piece-passes i l = (none-iff (piece_fault ids) ps).0 pass i (get_or ps i []) (slice_get-get_or ps i [] l)

  pub piece-place : (i : ℕ) → i < length ps → place_of (get_or ps i []) ids ≡ Some (parent_read ids (get_or ps i []))
  piece-place i l =
      let a = else-none (is_none (place_of (get_or ps i []) ids)) _ _ (piece-passes i l) in
      let p = there (place_of (get_or ps i []) ids) a.0 in
      rw p.1 refl

  pub read-at : (i d : ℕ) → i < length ps → get_or (map (parent_read ids) ps) i d ≡ parent_read ids (get_or ps i [])
  read-at i d l = get_or-map (parent_read ids) ps i [] d l

  pub place-inside : (y : ℕ) → Contains (map (parent_read ids) ps) y → y < length ids
  place-inside y c =
      let l : c.0 < length ps = let n = length-map ps (parent_read ids) in omega (arith, c.1) in
      let e : parent_read ids (get_or ps c.0 []) ≡ y = sym (read-at c.0 y l) ∙ c.2 in
      place-within (get_or ps c.0 []) ids y (piece-place c.0 l ∙ ap Some e)

  hit : (f : List ℕ → Bool) (xs : List (List ℕ)) (i : ℕ) → i < length xs → f (get_or xs i []) ≡ true
      → list_any f xs ≡ true
  hit f [] i l e = absurd (omega arith)
  hit f (x ∷ xs) zero l e = rw e refl
  hit f (x ∷ xs) (suc i) l e = by (f x) (hit f xs i (omega arith) e)
    where
      by : (b : Bool) → list_any f xs ≡ true → (b || list_any f xs) ≡ true
      by true h = refl
      by false h = h

  pub places-differ : AllPairs ◌≢◌ (map (parent_read ids) ps)
  places-differ i j d ij lj e =
      let n = length-map ps (parent_read ids) in
      let l : j < length ps = omega arith in
      let k : i < length ps = omega arith in
      let p = get_or ps i [] in
      let q = get_or ps j [] in
      let same : parent_read ids p ≡ parent_read ids q = sym (read-at i d k) ∙ e ∙ read-at j d l in
      let pi : get_or ids (parent_read ids p) [] ≡ p = (id-at-place p ids (parent_read ids p) (piece-place i k)).1 in
      let qi : get_or ids (parent_read ids q) [] ≡ q = (id-at-place q ids (parent_read ids q) (piece-place j l)).1 in
      let pq : q ≡ p = sym qi ∙ ap (λ (m : ℕ). get_or ids m []) (sym same) ∙ pi in
      let here : get_or (take j ps) i [] ≡ p = get_or-take j ps i [] ij in
      let m = length-take j ps in
      let size : i < length (take j ps) = omega arith in
      let t : list_any (bytes_eq q) (take j ps) ≡ true =
      hit (bytes_eq q) (take j ps) i size ((bytes_eq-Decides q (get_or (take j ps) i [])).1 (pq ∙ sym here)) in
      let a = else-none (is_none (place_of q ids)) _ _ (piece-passes j l) in
      let b = else-none (list_any (bytes_eq q) (take j ps)) _ _ a.1 in
      cc (t, b.0)
