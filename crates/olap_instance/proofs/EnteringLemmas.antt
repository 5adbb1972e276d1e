-- One member more from a record.
use Rattle.std.proofs.Common.{◌≡◌, ◌≢◌, ◌<◌, ◌||◌, ◌++◌, ◌∷◌, ◌+◌, arith, codes, Bool, cond, true, false, ℕ, List, [], length, map, Some, None, refl, sym, ap}
use Rattle.std.proofs.lemmas.{Bool.{false_from_ne_true, or_from}, List.{length-map, map-append}}
use Rattle.std.{proofs.lemmas.Slice.Eq.bytes_eq-Decides, specs.List.position_from, specs.Prelude.{is_some, nat_le}}
use Rattle.std.specs.Str.{bytes_eq}
use Rattle.olap_base.specs.{Graph.{Graph, is_number}, Instance.{Instance, Member}, Limits.most_members, Naming.place_of}
use Rattle.olap_graph.specs.Lookups.{category_named}
use Rattle.olap_instance.proofs.Passing.{differ-zero, unrefused}
use Rattle.olap_instance.specs.InstanceText.{category_field, category_number, id_field, is_bad_id, is_bad_number, is_no_text, is_too_long, member_fault, member_read, name_field}
use Rattle.olap_instance.specs.{Members.childless, Passes.ids_in}

-- the ids of records are those of their members
pub ids-read : (g : Graph) (rows : List (List (List ℕ))) → map id_field rows ≡ ids_in (map (member_read g) rows)
ids-read g [] = refl
ids-read g (r ∷ rows) = ap (λ (t : List (List ℕ)). id_field r ∷ t) (ids-read g rows)

-- the same of the members so far
pub ids-entered : (g : Graph) (ms : Instance) (rows : List (List (List ℕ))) → ms ≡ map (member_read g) rows
    → map id_field rows ≡ ids_in ms
ids-entered g ms rows e = rw e (ids-read g rows)

-- and there are as many
pub count-entered : (g : Graph) (ms : Instance) (rows : List (List (List ℕ))) → ms ≡ map (member_read g) rows
    → length rows ≡ length ms
count-entered g ms rows e = rw e (sym (length-map rows (member_read g)))

-- equal fields, one member
pub same-member : (id id2 : List ℕ) (c c2 : ℕ) (name name2 : List ℕ) → id ≡ id2 → c ≡ c2 → name ≡ name2
    → childless id c name ≡ childless id2 c2 name2
same-member id id2 c c2 name name2 a b d = rw (a, b, d) refl

-- an id that isn't among some, nor the new one, isn't among both
absent-from : (x : List ℕ) (xs : List (List ℕ)) (y : List ℕ) (n : ℕ) → position_from (bytes_eq x) n xs ≡ None
    → bytes_eq x y ≡ false
    → position_from (bytes_eq x) n (xs ++ y ∷ []) ≡ None
absent-from x [] y n h e = rw e refl
absent-from x (z ∷ zs) y n h e = by (bytes_eq x z) h (λ t. absent-from x zs y (n + 1) t e)
  where
    by : (b : Bool) → cond b (Some n) (position_from (bytes_eq x) (n + 1) zs) ≡ None
        → (position_from (bytes_eq x) (n + 1) zs ≡ None → position_from (bytes_eq x) (n + 1) (zs ++ y ∷ []) ≡ None)
        → cond b (Some n) (position_from (bytes_eq x) (n + 1) (zs ++ y ∷ [])) ≡ None
    by true h again = cc h
    by false h again = again h

-- or_from texts differ either way
eq-back : (x y : List ℕ) → bytes_eq x y ≡ false → bytes_eq y x ≡ false
eq-back x y e = false_from_ne_true (bytes_eq y x) (λ t. let s : y ≡ x = (bytes_eq-Decides y x).0 t in
    let u = (bytes_eq-Decides x y).1 (sym s) in cc (u, e))

-- an id that is not there isn't there after another has come
pub absent-more : (x : List ℕ) (ms now : Instance) (m : Member) → now ≡ ms ++ m ∷ [] → bytes_eq m.id x ≡ false
    → place_of x (ids_in ms) ≡ None
    → place_of x (ids_in now) ≡ None
absent-more x ms now m en e h =
    rw (en, map-append (λ m. m.id) ms (m ∷ [])) (absent-from x (ids_in ms) m.id 0 h (eq-back m.id x e))

-- a count below the limit passes the test
room : (n : ℕ) → n + 1 < most_members → nat_le most_members (n + 1) ≡ false
room n h = grind arith

-- an id that is neither `all` nor that of an earlier record is new
new-id : (id : List ℕ) (ids : List (List ℕ)) → bytes_eq id (codes "all") ≡ false → place_of id ids ≡ None
    → (bytes_eq id (codes "all") || is_some (place_of id ids)) ≡ false
new-id id ids a b = rw (a, b) refl

-- a record whose fields are good has no fault after records of these ids, and its category is the one found
pub entered : (g : Graph) (ids : List (List ℕ)) (n : ℕ) (r : List (List ℕ)) (k : ℕ) → length r ≡ 4
    → is_no_text r ≡ false → is_bad_id (id_field r) ≡ false → is_too_long (id_field r) ≡ false
    → is_too_long (name_field r) ≡ false → category_named g (category_field r) ≡ Some k → k ≢ 0
    → is_bad_number (is_number g k) (name_field r) ≡ false → bytes_eq (id_field r) (codes "all") ≡ false
    → place_of (id_field r) ids ≡ None → n + 1 < most_members → (earlier : List (List (List ℕ)))
    → map id_field earlier ≡ ids → length earlier ≡ n
    → (member_fault g earlier r ≡ None) × (k ≡ category_number g r)
entered g ids n r k four text id short name named some numeral other fresh few earlier ei en =
    grind (arith, unrefused, or_from, differ-zero, new-id, room)
