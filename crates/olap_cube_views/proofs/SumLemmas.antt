-- Entries of which some have one key, and the same entries joined.
--     within_*                           how many values entries are of
--     IsJoined, joined_*                 entries of one key are joined, side by side
use Rattle.std.proofs.Common.{◌≡◌, ℕ, zero, suc, ◌+◌, ◌*◌, ◌^◌, ◌<◌, ◌≤◌, List, [], ◌∷◌, ◌++◌, ◌-◌, length, take, drop, get_or, set, Bool, true, false, cond, refl, sym, ap, subst, ◌∙◌, arith, ℤ, pos, Option, Some, None, w64}
use Rattle.std.proofs.lemmas.Cmp.{nat_list_cmp_total}
use Rattle.std.proofs.lemmas.List.{drop-drop, drop-set-lt, get_or-drop, get_or-map, get_or-set_same, get_or-take, length-map, length-set, length-take-le, map-append, map-set, take_all, take_more, take_more_set, take-set, take-take}
use Rattle.std.proofs.lemmas.List.Elements.{All-get_or, All-push, All-take}
use Rattle.std.proofs.lemmas.List.{Sorted.{All-permutation, sum_by-IsPermutation}, Sums.{sum_by-take-le, sum_by_push}}
use Rattle.std.proofs.lemmas.Map.{Keys.{sorted_from_all_adjacent, sorted_tail}, Lookups.exact_bytes}
use Rattle.std.specs.{BTreeMap.is_at, List.Sorted.{IsPermutation, IsSortedByKey, IsStrictlySortedBy}}
use Rattle.std.specs.{Map.{keys_of, lookup}, Ordering.{is_eq, is_lt, ordering_reverse}, Prelude.{All, filter, sum_by}}
use Rattle.std.specs.declared.cmp.Ordering.{Ordering, TheVariants.{Less, Equal, Greater}}
use Rattle.olap_base.proofs.TotalLemmas.{total-append, total-filter, total_by, total_is, ⊕_assoc, ⊕_none}
use Rattle.olap_base.specs.Summaries.{Summary, joined, of_value, ◌⊕◌}
use Rattle.olap_view.{proofs.SummaryLemmas.{joinable, joined_up_to, up_to_more, value_up_to}, specs.Bounds.IsJoinable}
use Rattle.olap_view.specs.Seen.{summary_of}
use Rattle.olap_cube_views.proofs.PermutedLemmas.{total_permuted}
use Rattle.olap_cube_views.specs.CubeTallies.{Entry, IsOwn, IsWithin, entries_of, is_key, key_cmp, summary_at}
use Rattle.olap_cube_views.specs.Seen.{entry_of}
use mir.Val.{SFits}
use Rattle.olap_cube_views.specs.declared.views.CubeRow as told
use Rattle.olap_cube_views.proofs.RowLemmas as rows

-- ---- what stands at a key

-- what an entry adds there
abbrev pub adds : List ℕ → Entry → Option Summary
adds q e = cond (is_key q e.0) (Some e.1) None

-- all that the entries add
pub summary_is : (es : List Entry) (q : List ℕ) → summary_at es q ≡ total_by (adds q) es
summary_is es q =
    total_is (λ (e : Entry). e.1) (filter (λ e. is_key q e.0) es)
    ∙ total-filter (λ (e : Entry). Some e.1) (λ e. is_key q e.0) es

-- of one list after another
pub summary-append : (xs ys : List Entry) (q : List ℕ) → summary_at (xs ++ ys) q ≡ summary_at xs q ⊕ summary_at ys q
summary-append xs ys q =
    summary_is (xs ++ ys) q ∙ total-append (adds q) xs ys
    ∙ ap (λ t. t ⊕ total_by (adds q) ys) (sym (summary_is xs q))
    ∙ ap (λ t. summary_at xs q ⊕ t) (sym (summary_is ys q))

-- of one entry more
pub summary_push : (es : List Entry) (e : Entry) (q : List ℕ) → summary_at (es ++ e ∷ []) q ≡ summary_at es q ⊕ adds q e
summary_push es e q =
    summary-append es (e ∷ []) q ∙ ap (λ t. summary_at es q ⊕ t) (summary_is (e ∷ []) q ∙ ⊕_none (adds q e))

-- in any order
pub summary_permuted : (xs ys : List Entry) → IsPermutation xs ys → (q : List ℕ) → summary_at ys q ≡ summary_at xs q
summary_permuted xs ys p q = summary_is ys q ∙ sym (total_permuted (adds q) xs ys p) ∙ sym (summary_is xs q)

-- of entries in order at most one has the key
pub summary_found : (es : List Entry) → IsStrictlySortedBy key_cmp (keys_of es) → (q : List ℕ)
    → summary_at es q ≡ lookup (is_at (key_cmp q)) es
summary_found [] s q = refl
summary_found (e ∷ es) s q =
    summary_is (e ∷ es) q
    ∙ ap (λ t. adds q e ⊕ t) (sym (summary_is es q) ∙ summary_found es (sorted_tail key_cmp e.0 (keys_of es) s) q)
    ∙ go (key_cmp q e.0) refl
  where
    go : (r : Ordering) → key_cmp q e.0 ≡ r
        → cond (is_eq (key_cmp q e.0)) (Some e.1) None ⊕ lookup (is_at (key_cmp q)) es
        ≡ lookup (is_at (key_cmp q)) (e ∷ es)
    go Less h =
        ap (λ b. cond b (Some e.1) None ⊕ lookup (is_at (key_cmp q)) es) (ap is_eq h)
        ∙ sym (rows.not_head key_cmp nat_list_cmp_total exact_bytes (λ (y : List ℕ). y)
        (λ (y : List ℕ) (x : Summary). (y, x))
        (λ (p : List ℕ × Summary). p) q e es (ap is_eq h))
    go Equal h = ap (λ b. cond b (Some e.1) None ⊕ lookup (is_at (key_cmp q)) es) (ap is_eq h)
        ∙ ap (λ t. Some e.1 ⊕ t)
        (rows.past key_cmp nat_list_cmp_total exact_bytes (λ (y : List ℕ). y) (λ (y : List ℕ) (x : Summary). (y, x))
        (λ (p : List ℕ × Summary). p) q e es s h)
        ∙ sym (rows.at_head key_cmp nat_list_cmp_total exact_bytes (λ (y : List ℕ). y)
        (λ (y : List ℕ) (x : Summary). (y, x))
        (λ (p : List ℕ × Summary). p) q e es h)
    go Greater h =
        ap (λ b. cond b (Some e.1) None ⊕ lookup (is_at (key_cmp q)) es) (ap is_eq h)
        ∙ sym (rows.not_head key_cmp nat_list_cmp_total exact_bytes (λ (y : List ℕ). y)
        (λ (y : List ℕ) (x : Summary). (y, x))
        (λ (p : List ℕ × Summary). p) q e es (ap is_eq h))

-- ---- how many values entries are of

-- the number of values of all
abbrev pub counted : List Entry → ℕ
counted es = sum_by (λ (e : Entry). e.1.count) es

-- entries in another order
pub within_permuted : (n : ℕ) (xs ys : List Entry) → IsPermutation xs ys → IsWithin n xs → IsWithin n ys
within_permuted n xs ys p w = record {
  each = All-permutation IsOwn xs ys p w.each;
  all = let e = sum_by-IsPermutation (λ (e : Entry). e.1.count) xs ys p in let h = w.all in omega arith;
}

-- one value more
pub within_push : (n : ℕ) (es : List Entry) (q : List ℕ) (v : ℤ) → SFits w64 v → IsWithin n es
    → IsWithin (n + 1) (es ++ (q, of_value v) ∷ [])
within_push n es q v f w = record {
  each = All-push IsOwn es (q, of_value v) w.each
      (up_to_more 1 (2 ^ 63) 1 (1 * 2 ^ 63) (of_value v) (omega arith) (omega arith) (value_up_to v f));
  all = let e = sum_by_push (λ (e : Entry). e.1.count) es (q, of_value v) in let h = w.all in omega arith;
}

-- what is of some values at most is of more
pub within_more : (n : ℕ) (es : List Entry) → IsWithin n es → IsWithin (n + 1) es
within_more n es w = record { each = w.each; all = let h = w.all in omega arith }

-- up to a bound
pub within_most : (n most : ℕ) (es : List Entry) → n ≤ most → IsWithin n es → IsWithin most es
within_most n most es l w = record { each = w.each; all = let h = w.all in omega arith }

-- ---- keys that ascend

-- the first key, or else this one
abbrev pub first : List (List ℕ) → List ℕ → List ℕ
first [] q = q
first (k ∷ ks) q = k

-- the keys ascend up to this one
abbrev pub Rise : List (List ℕ) → List ℕ → Type 0
Rise [] q = Unit {0}
Rise (k ∷ ks) q = (key_cmp k (first ks q) ≡ Less) × Rise ks q

-- up to one more
rise_push : (ks : List (List ℕ)) (q r : List ℕ) → Rise ks q → key_cmp q r ≡ Less → Rise (ks ++ q ∷ []) r
rise_push [] q r h l = (l, tt)
rise_push (k ∷ []) q r h l = (h.0, (l, tt))
rise_push (k ∷ j ∷ ks) q r h l = (h.0, rise_push (j ∷ ks) q r h.1 l)

-- neighbours ascend
neighbours : (ks : List (List ℕ)) (q : List ℕ) → Rise ks q → (k : ℕ) → suc k < length (ks ++ q ∷ [])
    → key_cmp (get_or (ks ++ q ∷ []) k []) (get_or (ks ++ q ∷ []) (suc k) []) ≡ Less
neighbours [] q h k l = absurd (omega arith)
neighbours (x ∷ []) q h zero l = h.0
neighbours (x ∷ []) q h (suc k) l = absurd (omega arith)
neighbours (x ∷ j ∷ ks) q h zero l = h.0
neighbours (x ∷ j ∷ ks) q h (suc k) l = neighbours (j ∷ ks) q h.1 k (omega arith)

-- so all are in order
rise_sorted : (ks : List (List ℕ)) (q : List ℕ) → Rise ks q → IsStrictlySortedBy key_cmp (ks ++ q ∷ [])
rise_sorted ks q h = sorted_from_all_adjacent nat_list_cmp_total (ks ++ q ∷ []) [] (λ k l.
    let e : suc k ≡ k + 1 = omega arith in
    subst (λ m. key_cmp (get_or (ks ++ q ∷ []) k []) (get_or (ks ++ q ∷ []) m []) ≡ Less) e
    (neighbours ks q h k (omega arith)))

-- a key that isn't below another nor the same is above it
pub less_than : (p q : List ℕ) → is_lt (key_cmp q p) ≡ false → (p ≡ q → ⊥) → key_cmp p q ≡ Less
less_than p q h n = go (key_cmp p q) refl
  where
    go : (r : Ordering) → key_cmp p q ≡ r → key_cmp p q ≡ Less
    go Less e = e
    go Equal e = absurd (n (exact_bytes p q e))
    go Greater e = absurd
        (let b : is_lt (key_cmp q p) ≡ true = ap is_lt (nat_list_cmp_total.antisymm q p ∙ ap ordering_reverse e) in cc)

-- ---- joining side by side

-- no entry
pub nothing : Entry
nothing = ([], record { count = 0; sum = pos 0; least = pos 0; greatest = pos 0 })

-- of sorted entries those before `next` are joined, and the joined ones stand in front, the last of them at `last`
pub record IsJoined (old now : List Entry) (last next : ℕ) : Type 0 where
  pub below : last < next
  pub inside : next ≤ length old
  pub size : length now ≡ length old
  pub rest : drop next now ≡ drop next old
  pub top : (n : ℕ) → n + 1 ≡ next → (get_or now last nothing).0 ≡ (get_or old n nothing).0
  pub same : (q : List ℕ) → summary_at (take (last + 1) now) q ≡ summary_at (take next old) q
  pub rises : Rise (keys_of (take last now)) (get_or now last nothing).0
  pub each : All IsOwn (take (last + 1) now)
  pub all : counted (take (last + 1) now) ≡ counted (take next old)

-- the first entry
pub joined_start : (es : List Entry) (n : ℕ) → 0 < length es → IsWithin n es → IsJoined es es 0 1
joined_start es n h w = record {
  below = omega arith;
  inside = omega arith;
  size = refl;
  rest = refl;
  top = λ k e. let z : 0 ≡ k = omega arith in ap (λ m. (get_or es m nothing).0) z;
  same = λ q. refl;
  rises = tt;
  each = All-take IsOwn 1 es w.each;
  all = refl;
}

module _ (old now : List Entry) (last next n : ℕ) (j : IsJoined old now last next) (here : next < length old)
    (w : IsWithin n old) where
  -- the last of the joined, and the next entry
  abbrev y : Entry
  y = get_or now last nothing

  abbrev x : Entry
  x = get_or now next nothing

  first_left : (es : List Entry) → get_or (drop next es) 0 nothing ≡ get_or es next nothing
  first_left es = let e : next + 0 ≡ next = omega arith in
      get_or-drop next es 0 nothing ∙ ap (λ m. get_or es m nothing) e

  -- the next entry stands as it did
  pub next_is : x ≡ get_or old next nothing
  next_is = sym (first_left now) ∙ ap (λ es. get_or es 0 nothing) j.rest ∙ first_left old

  rest_on : drop (next + 1) now ≡ drop (next + 1) old
  rest_on = sym (drop-drop 1 next now) ∙ ap (drop 1) j.rest ∙ drop-drop 1 next old

  -- one entry more was there
  old_more : take (next + 1) old ≡ take next old ++ x ∷ []
  old_more = take_more old next nothing here ∙ ap (λ e. take next old ++ e ∷ []) (sym next_is)

  -- the joined ones, with the last of them
  now_more : take (last + 1) now ≡ take last now ++ y ∷ []
  now_more = let b = j.below in let s = j.size in take_more now last nothing (omega arith)

  own_y : IsOwn y
  own_y = let b = j.below in let s = j.size in
      subst IsOwn (get_or-take (last + 1) now last nothing (omega arith))
      (All-get_or IsOwn (take (last + 1) now) last nothing
      (let l = length-take-le (last + 1) now (omega arith) in omega arith) j.each)

  own_x : IsOwn x
  own_x = subst IsOwn (sym next_is) (All-get_or IsOwn old next nothing here w.each)

  -- both are of values of the whole
  both : y.1.count + x.1.count ≤ n
  both =
      let a = ap counted now_more ∙ sum_by_push (λ (e : Entry). e.1.count) (take last now) y in
      let b = ap counted old_more ∙ sum_by_push (λ (e : Entry). e.1.count) (take next old) x in
      let c = sum_by-take-le (λ (e : Entry). e.1.count) old (next + 1) in
      let d = j.all in
      let e = w.all in omega arith

  -- so small that they may be joined
  pub room_y : n ≤ 2 ^ 62 → IsJoinable y.1
  room_y h = let b = both in joinable y.1.count (y.1.count * 2 ^ 63) y.1 (omega arith) (omega arith) own_y

  pub room_x : n ≤ 2 ^ 62 → IsJoinable x.1
  room_x h = let b = both in joinable x.1.count (x.1.count * 2 ^ 63) x.1 (omega arith) (omega arith) own_x

  -- an entry of the same key is joined to the last one
  module _ (e : Entry) (is : e ≡ (y.0, joined y.1 x.1)) (key : y.0 ≡ x.0) where
    front : take (last + 1) (set now last e) ≡ take last now ++ e ∷ []
    front = let b = j.below in let s = j.size in take_more_set now last e (omega arith)

    top_is : get_or (set now last e) last nothing ≡ e
    top_is = let b = j.below in let s = j.size in get_or-set_same now last e nothing (omega arith)

    adds_both : (q : List ℕ) → adds q e ≡ adds q y ⊕ adds q x
    adds_both q = ap (adds q) is ∙ go (is_key q y.0) refl ∙ ap (λ k. adds q y ⊕ cond (is_key q k) (Some x.1) None) key
      where
        go : (b : Bool) → is_key q y.0 ≡ b
            → cond (is_key q y.0) (Some (joined y.1 x.1)) None
            ≡ cond (is_key q y.0) (Some y.1) None ⊕ cond (is_key q y.0) (Some x.1) None
        go true h = rw h refl
        go false h = rw h refl

    own_e : IsOwn e
    own_e = subst IsOwn (sym is) (up_to_more (y.1.count + x.1.count) (y.1.count * 2 ^ 63 + x.1.count * 2 ^ 63)
        (y.1.count + x.1.count) ((y.1.count + x.1.count) * 2 ^ 63) (joined y.1 x.1) (omega arith) (omega arith)
        (joined_up_to y.1.count (y.1.count * 2 ^ 63) x.1.count (x.1.count * 2 ^ 63) y.1 x.1 own_y own_x))

    pub joined_on : IsJoined old (set now last e) last (next + 1)
    joined_on = record {
      below = let b = j.below in omega arith;
      inside = omega arith;
      size = length-set now last e ∙ j.size;
      rest = let b = j.below in drop-set-lt (next + 1) now last e (omega arith) ∙ rest_on;
      top = λ k m. let z : k ≡ next = omega arith in
          ap (λ (f : Entry). f.0) (top_is ∙ is) ∙ key ∙ ap (λ (f : Entry). f.0) next_is
          ∙ ap (λ i. (get_or old i nothing).0) (sym z);
      same = λ q.
          ap (λ es. summary_at es q) front ∙ summary_push (take last now) e q
          ∙ ap (λ t. summary_at (take last now) q ⊕ t) (adds_both q)
          ∙ sym (⊕_assoc (summary_at (take last now) q) (adds q y) (adds q x))
          ∙ ap (λ t. t ⊕ adds q x) (sym (summary_push (take last now) y q) ∙ sym (ap (λ es. summary_at es q) now_more)
          ∙ j.same q)
          ∙ sym (summary_push (take next old) x q) ∙ sym (ap (λ es. summary_at es q) old_more);
      rises = subst (λ ks. Rise (keys_of ks) (get_or (set now last e) last nothing).0) (sym (take-set now last e))
          (subst (λ (f : Entry). Rise (keys_of (take last now)) f.0) (sym top_is)
          (subst (λ (f : Entry). Rise (keys_of (take last now)) f.0) (sym is) j.rises));
      each = subst (All IsOwn) (sym front) (All-push IsOwn (take last now) e
          (subst (All IsOwn) (take-take last (last + 1) now (omega arith))
          (All-take IsOwn last (take (last + 1) now) j.each))
          own_e);
      all = ap counted front ∙ sum_by_push (λ (f : Entry). f.1.count) (take last now) e
          ∙ (let a = ap counted now_more ∙ sum_by_push (λ (f : Entry). f.1.count) (take last now) y in
          let b = ap counted old_more ∙ sum_by_push (λ (f : Entry). f.1.count) (take next old) x in
          let c = ap (λ (f : Entry). f.1.count) is in
          let d = j.all in omega arith);
    }

  -- an entry of another key comes after the last one
  module _ (less : key_cmp y.0 x.0 ≡ Less) where
    front_more : take (last + 1 + 1) (set now (last + 1) x) ≡ take (last + 1) now ++ x ∷ []
    front_more = let b = j.below in let s = j.size in take_more_set now (last + 1) x (omega arith)

    top_at : get_or (set now (last + 1) x) (last + 1) nothing ≡ x
    top_at = let b = j.below in let s = j.size in get_or-set_same now (last + 1) x nothing (omega arith)

    pub moved_on : IsJoined old (set now (last + 1) x) (last + 1) (next + 1)
    moved_on = record {
      below = let b = j.below in omega arith;
      inside = omega arith;
      size = length-set now (last + 1) x ∙ j.size;
      rest = let b = j.below in drop-set-lt (next + 1) now (last + 1) x (omega arith) ∙ rest_on;
      top = λ k m. let z : k ≡ next = omega arith in
          ap (λ (f : Entry). f.0) (top_at ∙ next_is) ∙ ap (λ i. (get_or old i nothing).0) (sym z);
      same = λ q.
          ap (λ es. summary_at es q) front_more ∙ summary_push (take (last + 1) now) x q
          ∙ ap (λ t. t ⊕ adds q x) (j.same q)
          ∙ sym (summary_push (take next old) x q) ∙ sym (ap (λ es. summary_at es q) old_more);
      rises = subst (λ ks. Rise (keys_of ks) (get_or (set now (last + 1) x) (last + 1) nothing).0)
          (sym (take-set now (last + 1) x ∙ now_more))
          (subst (λ (f : Entry). Rise (keys_of (take last now ++ y ∷ [])) f.0) (sym top_at)
          (subst (λ ks. Rise ks x.0) (sym (map-append (λ (f : Entry). f.0) (take last now) (y ∷ [])))
          (rise_push (keys_of (take last now)) y.0 x.0 j.rises less)));
      each = subst (All IsOwn) (sym front_more) (All-push IsOwn (take (last + 1) now) x j.each own_x);
      all = ap counted front_more ∙ sum_by_push (λ (f : Entry). f.1.count) (take (last + 1) now) x
          ∙ (let b = ap counted old_more ∙ sum_by_push (λ (f : Entry). f.1.count) (take next old) x in
          let d = j.all in omega arith);
    }

-- ---- all are joined

module _ (old now : List Entry) (last next : ℕ) (j : IsJoined old now last next) (all : length old ≤ next) where
  pub end_same : (q : List ℕ) → summary_at (take (last + 1) now) q ≡ summary_at old q
  end_same q = j.same q ∙ ap (λ es. summary_at es q) (take_all next old all)

  pub end_within : (n : ℕ) → IsWithin n old → IsWithin n (take (last + 1) now)
  end_within n w = record {
    each = j.each;
    all = let a = j.all in let b = ap counted (take_all next old all) in let c = w.all in omega arith;
  }

  pub end_order : IsStrictlySortedBy key_cmp (keys_of (take (last + 1) now))
  end_order =
      let b = j.below in let i = j.inside in let s = j.size in
      subst (IsStrictlySortedBy key_cmp)
      (sym (ap keys_of (take_more now last nothing (omega arith))
      ∙ map-append (λ (f : Entry). f.0) (take last now) (get_or now last nothing ∷ [])))
      (rise_sorted (keys_of (take last now)) (get_or now last nothing).0 j.rises)

-- ---- rows

-- the row at a place
pub entry_at : (rows : List told.CubeRow) (k : ℕ) (d : told.CubeRow) → k < length rows
    → get_or (entries_of rows) k nothing ≡ entry_of (get_or rows k d)
entry_at rows k d l = get_or-map entry_of rows k d nothing l

-- rows that are sorted by their members
pub entries_sorted : (rows : List told.CubeRow) → IsSortedByKey (λ (r : told.CubeRow). r.members.places) key_cmp rows
    → (k : ℕ) (d : told.CubeRow) → k + 1 < length rows
    → is_lt (key_cmp (get_or (entries_of rows) (k + 1) nothing).0 (get_or (entries_of rows) k nothing).0) ≡ false
entries_sorted rows s k d l =
    ap (λ (e : Entry). is_lt (key_cmp e.0 (get_or (entries_of rows) k nothing).0)) (entry_at rows (k + 1) d l)
    ∙ ap (λ (e : Entry). is_lt (key_cmp (entry_of (get_or rows (k + 1) d)).0 e.0)) (entry_at rows k d (omega arith))
    ∙ s k d (omega arith) l

-- the key of the next row isn't the last one's
pub next_above : (old now : List told.CubeRow) (last next n : ℕ) (d : told.CubeRow)
    → IsSortedByKey (λ (r : told.CubeRow). r.members.places) key_cmp old
    → (j : IsJoined (entries_of old) (entries_of now) last next) → next < length old
    → ((get_or now last d).members.places ≡ (get_or now next d).members.places → ⊥)
    → key_cmp (get_or (entries_of now) last nothing).0 (get_or (entries_of now) next nothing).0 ≡ Less
next_above old now last next n d s j h other =
    let b = j.below in let z = j.size in
    let lo = length-map old entry_of in let ln = length-map now entry_of in
    let here : next < length (entries_of old) = omega arith in
    let prev : (k : ℕ) × (k + 1 ≡ next) = (next - 1, omega arith) in
    let y = get_or (entries_of now) last nothing in
    let x = get_or (entries_of now) next nothing in
    let xs : x ≡ get_or (entries_of old) (prev.0 + 1) nothing =
    first_is (entries_of old) (entries_of now) last next j here
    ∙ ap (λ m. get_or (entries_of old) m nothing) (sym prev.1) in
    less_than y.0 x.0
    (ap (λ (e : Entry). is_lt (key_cmp e.0 y.0)) xs
    ∙ ap (λ k. is_lt (key_cmp (get_or (entries_of old) (prev.0 + 1) nothing).0 k)) (j.top prev.0 prev.1)
    ∙ entries_sorted old s prev.0 d (omega arith))
    (λ e. other (sym (ap (λ (f : Entry). f.0) (entry_at now last d (omega arith))) ∙ e
    ∙ ap (λ (f : Entry). f.0) (entry_at now next d (omega arith))))
  where
    first_is : (old now : List Entry) (last next : ℕ) → IsJoined old now last next → next < length old
        → get_or now next nothing ≡ get_or old next nothing
    first_is old now last next j h =
        let e : next + 0 ≡ next = omega arith in
        sym (ap (λ m. get_or now m nothing) e) ∙ sym (get_or-drop next now 0 nothing)
        ∙ ap (λ es. get_or es 0 nothing) j.rest
        ∙ get_or-drop next old 0 nothing ∙ ap (λ m. get_or old m nothing) e

-- a row of the last one's members is joined to it
pub step_joined : (old now : List told.CubeRow) (last next n : ℕ) (d r : told.CubeRow)
    → IsJoined (entries_of old) (entries_of now) last next → next < length old → IsWithin n (entries_of old)
    → (get_or now last d).members.places ≡ (get_or now next d).members.places
    → entry_of r ≡ (
      (get_or now last d).members.places,
      joined (summary_of (get_or now last d).summary) (summary_of (get_or now next d).summary),
    )
    → IsJoined (entries_of old) (entries_of (set now last r)) last (next + 1)
step_joined old now last next n d r j h w key is =
    let b = j.below in let z = j.size in
    let lo = length-map old entry_of in let ln = length-map now entry_of in
    let here : next < length (entries_of old) = omega arith in
    let ly = entry_at now last d (omega arith) in
    let lx = entry_at now next d (omega arith) in
    subst (λ es. IsJoined (entries_of old) es last (next + 1)) (sym (map-set entry_of now last r))
    (joined_on (entries_of old) (entries_of now) last next n j here w (entry_of r)
    (is
    ∙ ap (λ (e : Entry). (e.0, joined e.1 (entry_of (get_or now next d)).1)) (sym ly)
    ∙ ap (λ (e : Entry). (
      (get_or (entries_of now) last nothing).0,
      joined
          (get_or (entries_of now) last nothing).1 e.1,
    ))
    (sym lx))
    (ap (λ (e : Entry). e.0) ly ∙ key ∙ ap (λ (e : Entry). e.0) (sym lx)))

-- another comes after it
pub step_moved : (old now : List told.CubeRow) (last next n : ℕ) (d : told.CubeRow)
    → IsSortedByKey (λ (r : told.CubeRow). r.members.places) key_cmp old
    → IsJoined (entries_of old) (entries_of now) last next → next < length old → IsWithin n (entries_of old)
    → ((get_or now last d).members.places ≡ (get_or now next d).members.places → ⊥)
    → IsJoined (entries_of old) (entries_of (set now (last + 1) (get_or now next d))) (last + 1) (next + 1)
step_moved old now last next n d s j h w other =
    let b = j.below in let z = j.size in
    let lo = length-map old entry_of in let ln = length-map now entry_of in
    let here : next < length (entries_of old) = omega arith in
    subst (λ es. IsJoined (entries_of old) es (last + 1) (next + 1))
    (ap (set (entries_of now) (last + 1)) (entry_at now next d (omega arith))
    ∙ sym (map-set entry_of now (last + 1) (get_or now next d)))
    (moved_on (entries_of old) (entries_of now) last next n j here w (next_above old now last next n d s j h other))

-- the last row and the next may be joined
pub row_room : (old now : List told.CubeRow) (last next n : ℕ) (d : told.CubeRow)
    → IsJoined (entries_of old) (entries_of now) last next → next < length old → IsWithin n (entries_of old)
    → n ≤ 2 ^ 62
    → IsJoinable (summary_of (get_or now last d).summary) × IsJoinable (summary_of (get_or now next d).summary)
row_room old now last next n d j h w m =
    let b = j.below in let z = j.size in
    let lo = length-map old entry_of in let ln = length-map now entry_of in
    let here : next < length (entries_of old) = omega arith in (
      subst (λ (e : Entry). IsJoinable e.1) (entry_at now last d (omega arith))
          (room_y (entries_of old) (entries_of now) last next n j here w m),
      subst (λ (e : Entry). IsJoinable e.1) (entry_at now next d (omega arith))
          (room_x (entries_of old) (entries_of now) last next n j here w m),
    )
