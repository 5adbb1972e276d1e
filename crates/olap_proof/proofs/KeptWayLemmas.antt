-- Decisions on ways, each on a way that was undecided, and the tables beside them.
use Rattle.std.proofs.Common.{◌≡◌, ◌≢◌, ℕ, ◌<◌, ◌↔◌, ◌++◌, List, [], ◌∷◌, Bool, true, false, Option, None, Some, arith, drop, length, map, replicate, take, set, eqb, refl, ap, sym, subst, ◌∙◌, inl, inr}
use Rattle.std.proofs.lemmas.{Bool.{and_from, cases_eq, eqb-true, eq-eqb}, List.{length-replicate, map_push, take_at}}
use Rattle.std.proofs.lemmas.List.Elements.{Contains-append_left, Contains-push, Contains-push_cases}
use Rattle.std.specs.{FinSet.{contains, contains-empty, empty, insert, remove}, Ordering.nat_cmp}
use Rattle.std.specs.Prelude.{◌==◌, ◌&&◌, ◌||◌, Contains, if◌then◌else◌, not}
use Rattle.olap_base.proofs.ListLemmas.{Contains-nil, contains_head, first_true, same_truth, second_true}
use Rattle.olap_base.specs.{Deciding.{contains_cases, contains_cons}, Limits.most_categories}
use Rattle.olap_bits.{proofs.CatSetLemmas.{in_insert, in_remove}, specs.Sets.members, specs.declared.sets.CatSet.CatSet}
use Rattle.olap_graph.{proofs.RowLemmas.{row_other, row_same}, specs.Rows.row}
use Rattle.olap_proof.specs.KeptTables.{AreOnce, AreSaid, AreTables}
use Rattle.olap_proof.specs.{KeptWays.{IsPut, IsTakenOut, leading_way, status_of_marks, way_kept}, Places.{Way, way_of}}
use Rattle.olap_proof.specs.declared.ways.Way.{Way as OneWay}
use Rattle.olap_trail.proofs.TakingLemmas.{row_none}

-- ---- decisions

-- the decision is on this way
abbrev is_on : Way → ℕ → ℕ → Bool
is_on w a b = (w.child == a) && (w.parent == b)

-- a decision is on the way if the test says so
on_is : (c d a b : ℕ) → (c == a) && (d == b) ≡ true → (c ≡ a) × (d ≡ b)
on_is c d a b h = (eqb-true c a (first_true (c == a) (d == b) h), eqb-true d b (second_true (c == a) (d == b) h))

-- and the other way
is_on_it : (c d a b : ℕ) → c ≡ a → d ≡ b → (c == a) && (d == b) ≡ true
is_on_it c d a b e f = and_from (c == a) (d == b) (eq-eqb c a e) (eq-eqb d b f)

-- it isn't, where the first category is another
is_off : (c d a b : ℕ) → c ≢ a → (c == a) && (d == b) ≡ false
is_off c d a b n = go ((c == a) && (d == b)) refl
  where
    go : (t : Bool) → (c == a) && (d == b) ≡ t → (c == a) && (d == b) ≡ false
    go true e = absurd (n (on_is c d a b e).0)
    go false e = e

-- the test reads alike from the other side
back : (c d a b : ℕ) → (c == a) && (d == b) ≡ false → (a == c) && (b == d) ≡ false
back c d a b h = go ((a == c) && (b == d)) refl
  where
    go : (t : Bool) → (a == c) && (b == d) ≡ t → (a == c) && (b == d) ≡ false
    go true e =
        let same = on_is a b c d e in
        let z : true ≡ false = sym (is_on_it c d a b (sym same.0) (sym same.1)) ∙ h in cc
    go false e = e

-- what was decided first counts
abbrev first_said : Option Bool → Option Bool → Option Bool
first_said None later = later
first_said (Some t) later = Some t

-- with nothing said later what was said stays
first_none : (o : Option Bool) → first_said o None ≡ o
first_none None = refl
first_none (Some t) = refl

-- what is said of a way by decisions is said by the first of them
way_of-append : (ws vs : List Way) (a b : ℕ) → way_of (ws ++ vs) a b ≡ first_said (way_of ws a b) (way_of vs a b)
way_of-append [] vs a b = refl
way_of-append (w ∷ ws) vs a b = go (is_on w a b) (way_of-append ws vs a b)
  where
    go : (t : Bool) → way_of (ws ++ vs) a b ≡ first_said (way_of ws a b) (way_of vs a b)
        → (if t then Some w.there else way_of (ws ++ vs) a b)
        ≡ first_said (if t then Some w.there else way_of ws a b) (way_of vs a b)
    go true h = refl
    go false h = h

-- where nothing was decided of a way, the first decision is on another one
none_first : (w : Way) (ws : List Way) (a b : ℕ) → way_of (w ∷ ws) a b ≡ None
    → (is_on w a b ≡ false) × (way_of ws a b ≡ None)
none_first w ws a b h = go (is_on w a b) refl h
  where
    go : (t : Bool) → is_on w a b ≡ t → (if t then Some w.there else way_of ws a b) ≡ None
        → (is_on w a b ≡ false) × (way_of ws a b ≡ None)
    go true e n = absurd (let z : Some w.there ≡ None = n in cc)
    go false e n = (e, n)

-- a decision on another way says nothing of it
passed : (w : Way) (ws : List Way) (a b : ℕ) → is_on w a b ≡ false → way_of (w ∷ ws) a b ≡ way_of ws a b
passed w ws a b e = ap (λ t. if t then Some w.there else way_of ws a b) e

-- one on it says what it is
found : (w : Way) (ws : List Way) (a b : ℕ) → is_on w a b ≡ true → way_of (w ∷ ws) a b ≡ Some w.there
found w ws a b e = ap (λ t. if t then Some w.there else way_of ws a b) e

-- of two, neither was decided
neither_said : (o later : Option Bool) → first_said o later ≡ None → (o ≡ None) × (later ≡ None)
neither_said None later h = (refl, h)
neither_said (Some t) later h = absurd (let z : Some t ≡ None = h in cc)

-- one decision more
once_push : (ws : List Way) (v : Way) → AreOnce ws → way_of ws v.child v.parent ≡ None → AreOnce (ws ++ v ∷ [])
once_push [] v h n = (refl, tt)
once_push (w ∷ ws) v h n =
    let first = none_first w ws v.child v.parent n in (
      way_of-append ws (v ∷ []) w.child w.parent
          ∙ ap (λ o. first_said o (way_of (v ∷ []) w.child w.parent)) h.0
          ∙ passed v [] w.child w.parent (back w.child w.parent v.child v.parent first.0),
      once_push ws v h.1 first.1,
    )

-- and one less
once_pop : (ws : List Way) (v : Way) → AreOnce (ws ++ v ∷ []) → AreOnce ws × (way_of ws v.child v.parent ≡ None)
once_pop [] v h = (tt, refl)
once_pop (w ∷ ws) v h =
    let rest = once_pop ws v h.1 in
    let both = neither_said (way_of ws w.child w.parent) (way_of (v ∷ []) w.child w.parent)
    (sym (way_of-append ws (v ∷ []) w.child w.parent) ∙ h.0) in
    let other = none_first v [] w.child w.parent both.1 in (
      (both.0, rest.0),
      passed w ws v.child v.parent (back v.child v.parent w.child w.parent other.0) ∙ rest.1,
    )

-- each decision is what was decided of its way
way_once : (ws : List Way) (w : Way) → AreOnce ws → Contains ws w → way_of ws w.child w.parent ≡ Some w.there
way_once [] w h m = absurd (Contains-nil w m)
way_once (v ∷ ws) w h m = elim (contains_cases w v ws m) [
  | inl e ↦ subst (λ (x : Way). way_of (v ∷ ws) x.child x.parent ≡ Some x.there) e
      (found v ws v.child v.parent (is_on_it v.child v.parent v.child v.parent refl refl))
  | inr later ↦
      let rest = way_once ws w h.1 later in
      go (is_on v w.child w.parent) refl rest
]
  where
    go : (t : Bool) → is_on v w.child w.parent ≡ t → way_of ws w.child w.parent ≡ Some w.there
        → way_of (v ∷ ws) w.child w.parent ≡ Some w.there
    go true e rest =
        let same = on_is v.child v.parent w.child w.parent e in
        let none : way_of ws w.child w.parent ≡ None =
        ap (λ a. way_of ws a w.parent) (sym same.0) ∙ ap (λ b. way_of ws v.child b) (sym same.1) ∙ h.0 in
        absurd (let z : None ≡ Some w.there = sym none ∙ rest in cc)
    go false e rest = passed v ws w.child w.parent e ∙ rest

-- what an option has is one
some_is : (s t : Bool) → Some s ≡ Some t → s ≡ t
some_is s t h = cc

-- a decision on the way from a to b
abbrev decision : ℕ → ℕ → Bool → Way
decision a b t = record { child = a; parent = b; there = t }

-- a decision by its parts
pub whole : (w : Way) (a b : ℕ) (t : Bool) → w.child ≡ a → w.parent ≡ b → w.there ≡ t
    → w ≡ record { child = a; parent = b; there = t }
whole w a b t e f h =
    ap (λ x. decision x w.parent w.there) e ∙ ap (λ x. decision a x w.there) f ∙ ap (λ x. decision a b x) h

-- and what was decided is a decision
way_contained : (ws : List Way) (a b : ℕ) (t : Bool) → way_of ws a b ≡ Some t
    → Contains ws (record { child = a; parent = b; there = t })
way_contained [] a b t h = absurd (let z : None ≡ Some t = h in cc)
way_contained (w ∷ ws) a b t h = go (is_on w a b) refl h (way_contained ws a b t)
  where
    go : (s : Bool) → is_on w a b ≡ s → (if s then Some w.there else way_of ws a b) ≡ Some t
        → (way_of ws a b ≡ Some t → Contains ws (record { child = a; parent = b; there = t }))
        → Contains (w ∷ ws) (record { child = a; parent = b; there = t })
    go true e k rest =
        let same = on_is w.child w.parent a b e in
        subst (λ x. Contains (w ∷ ws) x) (whole w a b t same.0 same.1 (some_is w.there t k)) (contains_head w ws)
    go false e k rest = contains_cons (record { child = a; parent = b; there = t }) ws w (rest k)

-- ---- tables

-- the test of a way, in the two orders of its parts
flag : (k c d p : ℕ) → c ≡ k → eqb d p ≡ (k == c) && (p == d)
flag k c d p same = same_truth (eqb d p) ((k == c) && (p == d))
    (λ h. is_on_it k p c d (sym same) (sym (eqb-true d p h))) (λ h. eq-eqb d p (sym (on_is k p c d h).1))

-- a set with a category more
pub row_put : {W : ℕ} (rows : List (CatSet W)) (k p : ℕ) (x : CatSet W) → k < length rows
    → members x ≡ insert (row rows k) p → IsPut rows k p (set rows k x)
row_put rows k p x inside e c d = elim (cases_eq c k) [
  | inl same ↦
      ap (λ s. contains s d) (ap (row (set rows k x)) same ∙ row_same rows k x inside ∙ e)
      ∙ in_insert (row rows k) p d
      ∙ ap (λ b. b || contains (row rows k) d) (flag k c d p same)
      ∙ ap (λ y. ((k == c) && (p == d)) || contains (row rows y) d) (sym same)
  | inr other ↦
      ap (λ s. contains s d) (row_other rows k c x other)
      ∙ ap (λ b. b || contains (row rows c) d) (sym (is_off k p c d (λ q. other (sym q))))
]

-- and with one less
pub row_out : {W : ℕ} (rows : List (CatSet W)) (k p : ℕ) (x : CatSet W) → k < length rows
    → members x ≡ remove (row rows k) p → IsTakenOut rows k p (set rows k x)
row_out rows k p x inside e c d = elim (cases_eq c k) [
  | inl same ↦
      ap (λ s. contains s d) (ap (row (set rows k x)) same ∙ row_same rows k x inside ∙ e)
      ∙ in_remove (row rows k) p d
      ∙ ap (λ b. not b && contains (row rows k) d) (flag k c d p same)
      ∙ ap (λ y. not ((k == c) && (p == d)) && contains (row rows y) d) (sym same)
  | inr other ↦
      ap (λ s. contains s d) (row_other rows k c x other)
      ∙ ap (λ b. not b && contains (row rows c) d) (sym (is_off k p c d (λ q. other (sym q))))
]

-- the tables with one decision more, on a way that was undecided
said_there : {W : ℕ} (there absent new : List (CatSet W)) (ws : List Way) (v : Way) → AreSaid there absent ws
    → way_of ws v.child v.parent ≡ None → v.there ≡ true → IsPut there v.child v.parent new
    → AreSaid new absent (ws ++ v ∷ [])
said_there there absent new ws v said none t put c d =
    way_of-append ws (v ∷ []) c d
    ∙ go (is_on v c d) refl (contains (row there c) d) (contains (row absent c) d) (said c d)
    ∙ ap (λ b. status_of_marks b (contains (row absent c) d)) (sym (put c d))
  where
    go : (b : Bool) → is_on v c d ≡ b → (x y : Bool) → way_of ws c d ≡ status_of_marks x y
        → first_said (way_of ws c d) (if b then Some v.there else None) ≡ status_of_marks (b || x) y
    go true e x y h =
        let same = on_is v.child v.parent c d e in
        ap (λ o. first_said o (Some v.there))
        (ap (λ a. way_of ws a d) (sym same.0) ∙ ap (λ b. way_of ws v.child b) (sym same.1) ∙ none) ∙ ap Some t
    go false e x y h = first_none (way_of ws c d) ∙ h

-- a way more that was decided absent
said_absent : {W : ℕ} (there absent new : List (CatSet W)) (ws : List Way) (v : Way) → AreSaid there absent ws
    → way_of ws v.child v.parent ≡ None → v.there ≡ false → IsPut absent v.child v.parent new
    → AreSaid there new (ws ++ v ∷ [])
said_absent there absent new ws v said none t put c d =
    way_of-append ws (v ∷ []) c d
    ∙ go (is_on v c d) refl (contains (row there c) d) (contains (row absent c) d) (said c d)
    ∙ ap (status_of_marks (contains (row there c) d)) (sym (put c d))
  where
    unsaid : (x y : Bool) → None ≡ status_of_marks x y → x ≡ false
    unsaid true y h = absurd (let z : None ≡ Some true = h in cc)
    unsaid false y h = refl

    go : (b : Bool) → is_on v c d ≡ b → (x y : Bool) → way_of ws c d ≡ status_of_marks x y
        → first_said (way_of ws c d) (if b then Some v.there else None) ≡ status_of_marks x (b || y)
    go true e x y h =
        let same = on_is v.child v.parent c d e in
        let open_there : way_of ws c d ≡ None =
        ap (λ a. way_of ws a d) (sym same.0) ∙ ap (λ b. way_of ws v.child b) (sym same.1) ∙ none in
        ap (λ o. first_said o (Some v.there)) open_there ∙ ap Some t
        ∙ ap (λ b. status_of_marks b true) (sym (unsaid x y (sym open_there ∙ h)))
    go false e x y h = first_none (way_of ws c d) ∙ h

-- and with one less
said_pop : {W : ℕ} (there absent new less : List (CatSet W)) (ws : List Way) (v : Way)
    → AreSaid there absent (ws ++ v ∷ []) → way_of ws v.child v.parent ≡ None → IsTakenOut there v.child v.parent new
    → IsTakenOut absent v.child v.parent less → AreSaid new less ws
said_pop there absent new less ws v said none out gone c d =
    go (is_on v c d) refl (contains (row there c) d) (contains (row absent c) d)
    (sym (way_of-append ws (v ∷ []) c d) ∙ said c d)
    ∙ ap (λ b. status_of_marks b (not (is_on v c d) && contains (row absent c) d)) (sym (out c d))
    ∙ ap (status_of_marks (contains (row new c) d)) (sym (gone c d))
  where
    go : (b : Bool) → is_on v c d ≡ b → (x y : Bool)
        → first_said (way_of ws c d) (if b then Some v.there else None) ≡ status_of_marks x y
        → way_of ws c d ≡ status_of_marks (not b && x) (not b && y)
    go true e x y h =
        let same = on_is v.child v.parent c d e in
        ap (λ a. way_of ws a d) (sym same.0) ∙ ap (λ b. way_of ws v.child b) (sym same.1) ∙ none
    go false e x y h = sym (first_none (way_of ws c d)) ∙ h

-- no decision
said_none : {W : ℕ} (there absent : List (CatSet W)) → ((c : ℕ) → row there c ≡ empty)
    → ((c : ℕ) → row absent c ≡ empty) → AreSaid there absent []
said_none there absent none less c d =
    ap (λ b. status_of_marks b false) (sym (ap (λ s. contains s d) (none c) ∙ contains-empty nat_cmp d))
    ∙ ap (status_of_marks (contains (row there c) d)) (sym (ap (λ s. contains s d) (less c) ∙ contains-empty nat_cmp d))

-- and is the table of no decisions
pub tables_none : {W : ℕ} (x : CatSet W) (there absent : List (CatSet W)) → members x ≡ empty
    → there ≡ replicate most_categories x → absent ≡ replicate most_categories x → AreTables there absent []
tables_none x there absent e t u = record {
  there_size = ap length t ∙ length-replicate most_categories x;
  absent_size = ap length u ∙ length-replicate most_categories x;
  once = tt;
  within = λ w m. absurd (Contains-nil w m);
  said = said_none there absent (λ c. ap (λ rows. row rows c) t ∙ row_none x e most_categories c)
      (λ c. ap (λ rows. row rows c) u ∙ row_none x e most_categories c);
}

-- one decision more
within_push : (ws : List Way) (v : Way)
    → ((w : Way) → Contains ws w → (w.child < most_categories) × (w.parent < most_categories))
    → v.child < most_categories → v.parent < most_categories → (w : Way) → Contains (ws ++ v ∷ []) w
    → (w.child < most_categories) × (w.parent < most_categories)
within_push ws v h c p w m = elim (Contains-push_cases ws v w m) [
  | inl a ↦ h w a
  | inr e ↦ subst (λ (x : Way). (x.child < most_categories) × (x.parent < most_categories)) e (c, p)
]

-- a decision more, that the way is there
tables_there : {W : ℕ} (there absent new : List (CatSet W)) (ws : List Way) (v : Way) → AreTables there absent ws
    → v.child < most_categories → v.parent < most_categories → way_of ws v.child v.parent ≡ None → v.there ≡ true
    → length new ≡ length there → IsPut there v.child v.parent new → AreTables new absent (ws ++ v ∷ [])
tables_there there absent new ws v h c p none t size put = record {
  there_size = size ∙ h.there_size;
  absent_size = h.absent_size;
  once = once_push ws v h.once none;
  within = within_push ws v h.within c p;
  said = said_there there absent new ws v h.said none t put;
}

-- and that it isn't
tables_absent : {W : ℕ} (there absent new : List (CatSet W)) (ws : List Way) (v : Way) → AreTables there absent ws
    → v.child < most_categories → v.parent < most_categories → way_of ws v.child v.parent ≡ None → v.there ≡ false
    → length new ≡ length absent → IsPut absent v.child v.parent new → AreTables there new (ws ++ v ∷ [])
tables_absent there absent new ws v h c p none t size put = record {
  there_size = h.there_size;
  absent_size = size ∙ h.absent_size;
  once = once_push ws v h.once none;
  within = within_push ws v h.within c p;
  said = said_absent there absent new ws v h.said none t put;
}

-- so it is where the table is written in its place
pub there_written : {W : ℕ} (list : List OneWay) (w : OneWay) {there absent old : List (CatSet W)}
    (new : List (CatSet W)) {m : ℕ} {all : List OneWay} → AreTables there absent (map way_kept list)
    → all ≡ list ++ w ∷ [] → w.child.0 < most_categories → w.parent.0 < most_categories
    → way_of (map way_kept list) w.child.0 w.parent.0 ≡ None → w.there ≡ true → old ≡ there → length old ≡ m
    → length new ≡ length old → IsPut old w.child.0 w.parent.0 new
    → AreTables (take m (new ++ drop (length new) there)) absent (map way_kept all)
there_written {W} list w {there} {absent} {old} new {m} {all} h e c p none t f s size put =
    let v = way_kept w in
    subst (λ (ws : List Way). AreTables (take m (new ++ drop (length new) there)) absent ws)
    (sym (ap (map way_kept) e ∙ map_push way_kept list w))
    (subst (λ rows. AreTables rows absent (map way_kept list ++ v ∷ []))
    (sym (take_at new (drop (length new) there) m (size ∙ s)))
    (tables_there there absent new (map way_kept list) v h c p none t (size ∙ ap length f)
    (subst (λ rows. IsPut rows v.child v.parent new) f put)))

-- and where it isn't
pub absent_written : {W : ℕ} (list : List OneWay) (w : OneWay) {there absent old : List (CatSet W)}
    (new : List (CatSet W)) {m : ℕ} {all : List OneWay} → AreTables there absent (map way_kept list)
    → all ≡ list ++ w ∷ [] → w.child.0 < most_categories → w.parent.0 < most_categories
    → way_of (map way_kept list) w.child.0 w.parent.0 ≡ None → w.there ≡ false → old ≡ absent → length old ≡ m
    → length new ≡ length old → IsPut old w.child.0 w.parent.0 new
    → AreTables there (take m (new ++ drop (length new) absent)) (map way_kept all)
absent_written {W} list w {there} {absent} {old} new {m} {all} h e c p none t f s size put =
    let v = way_kept w in
    subst (λ (ws : List Way). AreTables there (take m (new ++ drop (length new) absent)) ws)
    (sym (ap (map way_kept) e ∙ map_push way_kept list w))
    (subst (λ rows. AreTables there rows (map way_kept list ++ v ∷ []))
    (sym (take_at new (drop (length new) absent) m (size ∙ s)))
    (tables_absent there absent new (map way_kept list) v h c p none t (size ∙ ap length f)
    (subst (λ rows. IsPut rows v.child v.parent new) f put)))

-- the tables of decisions the last of which is this one
pub record AreTablesOf {W : ℕ} (there absent : List (CatSet W)) (rest : List OneWay) (w : OneWay) : Type 0 where
  pub tables : AreTables there absent (map way_kept rest ++ way_kept w ∷ [])
  pub child : w.child.0 < length there
  pub child_absent : w.child.0 < length absent
  pub parent : w.parent.0 < most_categories

-- the last decision is on categories that the tables have
pub tables_last : {W : ℕ} {there absent : List (CatSet W)} {list rest : List OneWay} {w : OneWay}
    → AreTables there absent (map way_kept list) → list ≡ rest ++ w ∷ [] → AreTablesOf there absent rest w
tables_last {W} {there} {absent} {list} {rest} {w} h e =
    let whole = ap (map way_kept) e ∙ map_push way_kept rest w in
    let t : AreTables there absent (map way_kept rest ++ way_kept w ∷ []) =
    subst (λ (xs : List Way). AreTables there absent xs) whole h in
    let last = t.within (way_kept w) (Contains-push (map way_kept rest) (way_kept w)) in
    record {
      tables = t;
      child = omega (arith, last.0, t.there_size);
      child_absent = omega (arith, last.0, t.absent_size);
      parent = last.1;
    }

-- one decision less
tables_pop : {W : ℕ} (there absent new less : List (CatSet W)) (ws : List Way) (v : Way)
    → AreTables there absent (ws ++ v ∷ []) → length new ≡ length there → length less ≡ length absent
    → IsTakenOut there v.child v.parent new → IsTakenOut absent v.child v.parent less → AreTables new less ws
tables_pop there absent new less ws v h size less_size out gone =
    let before = once_pop ws v h.once in
    record {
      there_size = size ∙ h.there_size;
      absent_size = less_size ∙ h.absent_size;
      once = before.0;
      within = λ w m. h.within w (Contains-append_left ws (v ∷ []) w m);
      said = said_pop there absent new less ws v h.said before.1 out gone;
    }

-- and so it is where each table is written in its place
pub tables_written : {W : ℕ} {there absent old older : List (CatSet W)} (new less : List (CatSet W)) {m n : ℕ}
    {list : List OneWay} (rest : List OneWay) (w : OneWay) → AreTables there absent (map way_kept list)
    → list ≡ rest ++ w ∷ []
    → old ≡ there → older ≡ absent
    → length old ≡ m → length older ≡ n
    → length new ≡ length old → length less ≡ length older → IsTakenOut old w.child.0 w.parent.0 new
    → IsTakenOut older w.child.0 w.parent.0 less
    → AreTables (take m (new ++ drop (length new) there)) (take n (less ++ drop (length less) absent))
    (map way_kept rest)
tables_written {W} {there} {absent} {old} {older} new less {m} {n} {list} rest w h last e f s z size less_size
    out gone =
    let t = tables_last h last in
    let v = way_kept w in
    let ws = map way_kept rest in
    let written = take_at new (drop (length new) there) m (size ∙ s) in
    let cut = take_at less (drop (length less) absent) n (less_size ∙ z) in
    subst (λ rows. AreTables rows (take n (less ++ drop (length less) absent)) ws) (sym written)
    (subst (λ rows. AreTables new rows ws) (sym cut)
    (tables_pop there absent new less ws v t.tables (size ∙ ap length e) (less_size ∙ ap length f)
    (subst (λ rows. IsTakenOut rows v.child v.parent new) e out)
    (subst (λ rows. IsTakenOut rows v.child v.parent less) f gone)))

-- the ways that are there
pub leads_is : {W : ℕ} (there absent : List (CatSet W)) (ws : List Way) → AreOnce ws → AreSaid there absent ws
    → (c d : ℕ) → (contains (row there c) d ≡ true) ↔ Contains ws (leading_way c d)
leads_is there absent ws once said c d = (
  λ h. way_contained ws c d true (said c d ∙ ap (λ b. status_of_marks b (contains (row absent c) d)) h),
  λ m. there_is (contains (row there c) d) (contains (row absent c) d)
      (sym (said c d) ∙ way_once ws (leading_way c d) once m),
)
  where
    there_is : (x y : Bool) → status_of_marks x y ≡ Some true → x ≡ true
    there_is true y h = refl
    there_is false true h = absurd (let z : Some false ≡ Some true = h in cc)
    there_is false false h = absurd (let z : None ≡ Some true = h in cc)
