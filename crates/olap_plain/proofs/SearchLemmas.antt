-- The search goes through all names of each choice of edges, and through all choices, and skips none.
use Rattle.std.proofs.Common.{◌≡◌, ℕ, zero, suc, ◌+◌, ◌<◌, ◌≤◌, List, [], ◌∷◌, ◌++◌, length, get_or, set, drop, replicate, Bool, true, false, cond, refl, ap, sym, subst, ◌∙◌, ◌⊎◌, inl, inr, arith}
use Rattle.std.proofs.lemmas.List.{get_or-map, get_or_past, get_or-replicate, get_or-set_same, get_or-set_other, length-map, length-replicate}
use Rattle.std.{proofs.lemmas.List.FromFn.get_or-map-range_with_len, specs.Ordering.nat_cmp}
use Rattle.std.specs.Prelude.{slice_index, ◌≢◌}
use Rattle.olap_base.specs.{Graph.{Graph, IsCategory, IsHierarchy, category_count}, Ranks.IsNotAfter}
use Rattle.olap_ast.specs.Formula.{Formula}
use Rattle.olap_ast.specs.Frozen.{AreCandidates, Candidates, Frozen, IsFrozen, IsLeastFrozen, chosen, is_present, name_in}
use Rattle.olap_ast.specs.Schema.{Constraint, Schema}
use Rattle.olap_bits.specs.declared.sets.CatSet.{CatSet}
use Rattle.olap_names.proofs.OrderLemmas.{NoneBefore, compare, least_here, left, left_falls, none_at_last, none_before_next, none_before_zeros, not_after_behind, not_after_fronts, not_both}
use Rattle.olap_names.specs.Names.{Named, candidates_of, with_graph}
use Rattle.olap_names.specs.Walks.{IsAssignment, IsBefore, IsLast, IsNext, IsStep, Walk, limit, marks_of}
use Rattle.olap_frozen.{proofs.ChosenInstance.sound_of_frozen, proofs.ChosenLemmas.choice_of, specs.Chosen.IsSound}
use Rattle.olap_frozen.specs.Leaves.{AreAbsentZero, IsZeroAtAll, chosen_of, of_declared}
use Rattle.olap_graph.specs.Rows.{row}
use Rattle.olap_plain.specs.Searching.{AreFirstNames, NoneWith, code_of}
use Rattle.std.specs.FinSet as finite

-- ---- names

-- an absent category has the index 0 alone
limit_absent : (texts : List (List (List ℕ))) (marks : List Bool) (c : ℕ) → get_or marks c false ≡ false
    → limit texts marks c ≡ 0
limit_absent texts marks zero e = refl
limit_absent texts marks (suc c) e = ap (λ b. cond b (length (get_or texts (suc c) [])) 0) e

-- a mark says whether the set has the number
mark_at : (s : finite.FinSet nat_cmp) (n c : ℕ) → c < n → get_or (marks_of s n) c false ≡ finite.contains s c
mark_at s n c h = get_or-map-range_with_len (finite.contains s) 0 n c c false h (omega arith)

-- a number is below another, or it isn't
is_inside : (c n : ℕ) → (c < n) ⊎ (n ≤ c)
is_inside c n = grind arith

-- with 0 in front, names come no later without it
zero_names : (xs ys : List ℕ) → slice_index xs 0 ≤ 0 → IsNotAfter xs (0 ∷ ys) → IsNotAfter (of_declared xs) ys
zero_names [] ys z n = tt
zero_names (x ∷ xs) ys z (inl l) = absurd (omega arith)
zero_names (x ∷ xs) ys z (inr t) = t.1

module _ {W : ℕ} (g : Graph) (cs : List Constraint) (q : Formula) (k : Named) (r : ℕ) (bits : List Bool)
    (rows : List (CatSet W)) where
  abbrev n : ℕ
  n = category_count g

  abbrev bound : ℕ → ℕ
  bound = limit k.texts (marks_of (row rows r) n)

  -- the indexes give a frozen dimension
  abbrev pub Stands : List ℕ → Type 0
  Stands xs = IsFrozen (with_graph g cs) q r (candidates_of k) (chosen_of bits xs)

  -- the root's row has the present categories
  abbrev pub IsShown : Type 0
  IsShown = (c : ℕ) → finite.contains (row rows r) c ≡ is_present r (chosen g.edges bits) c

  frozen_assigned : IsShown → (h : Frozen) → h.edges ≡ bits → IsFrozen (with_graph g cs) q r (candidates_of k) h
      → IsAssignment bound n (0 ∷ h.names)
  frozen_assigned is h e f = record { count = (let c = f.name_count in omega arith); within = within }
    where
      within : (c : ℕ) → c < n → slice_index (0 ∷ h.names) c ≤ bound c
      within zero l = omega arith
      within (suc c) l = go (get_or (marks_of (row rows r) n) (suc c) false)
          (mark_at (row rows r) n (suc c) l ∙ is (suc c))
        where
          inside : c < length h.names
          inside = let m = f.name_count in omega arith

          go : (b : Bool) → b ≡ is_present r (chosen g.edges bits) (suc c)
              → slice_index h.names c ≤ cond b (length (get_or k.texts (suc c) [])) 0
          go true p = f.in_range c inside
          go false p =
              let z = f.absent c inside (ap (λ es. is_present r (chosen g.edges es) (suc c)) e ∙ sym p) in omega arith

  as_names : (h : Frozen) → h.edges ≡ bits → IsFrozen (with_graph g cs) q r (candidates_of k) h → Stands (0 ∷ h.names)
  as_names h e f = subst (λ (x : Frozen). IsFrozen (with_graph g cs) q r (candidates_of k) x)
      (λ i. record { edges = e i; names = h.names }) f

  -- the edges of a frozen dimension are sound
  pub frozen_sound : IsHierarchy g → IsCategory g r → (h : Frozen) → h.edges ≡ bits
      → IsFrozen (with_graph g cs) q r (candidates_of k) h → IsSound r (chosen g.edges bits)
  frozen_sound hier root h e f = subst (λ es. IsSound r (chosen g.edges es)) e
      (sound_of_frozen (with_graph g cs) q r (chosen g.edges h.edges) (choice_of g r h.edges hier root)
      (name_in (candidates_of k) h) f.stands_for)

  -- where the walk stands: no names before give a frozen dimension
  pub record IsWalking (walk : Walk) : Type 0 where
    pub shown : IsShown
    pub present : walk.present ≡ marks_of (row rows r) n
    pub assigned : IsAssignment bound n walk.indexes
    pub none : NoneBefore Stands bound n walk.indexes

  pub walking_start : (walk : Walk) (m : ℕ) → IsShown → m ≡ n → walk.present ≡ marks_of (row rows r) m
      → walk.indexes ≡ replicate m 0 → IsWalking walk
  walking_start walk m is e p i = record {
    shown = is;
    present = p ∙ ap (marks_of (row rows r)) e;
    assigned = record {
      count = ap length i ∙ length-replicate m 0 ∙ e;
      within = λ c h. let z = zeros c in omega arith;
    };
    none = λ xs a b f. none_before_zeros xs walk.indexes zeros b;
  }
    where
      zeros : (c : ℕ) → slice_index walk.indexes c ≡ 0
      zeros c = ap (λ l. slice_index l c) i ∙ elim (is_inside c m) [
        | inl h ↦ get_or-replicate m c 0 0 h
        | inr h ↦ get_or_past (replicate m 0) c 0 (subst (λ z. z ≤ c) (sym (length-replicate m 0)) h)
      ]

  -- an absent category has the index 0
  pub walking_absent : (walk : Walk) → IsWalking walk → AreAbsentZero g r bits walk.indexes
  walking_absent walk w c h p =
      let b = w.assigned.within c (let l = w.assigned.count in omega arith) in
      let m = mark_at (row rows r) n c (let l = w.assigned.count in omega arith) ∙ w.shown c ∙ p in
      omega (arith, b, limit_absent k.texts (marks_of (row rows r) n) c m)

  next_is : (walk : Walk) (new : List ℕ) → IsWalking walk
      → IsNext (limit k.texts walk.present) (length walk.indexes) walk.indexes new → IsNext bound n walk.indexes new
  next_is walk new w x = subst (λ p. IsNext (limit k.texts p) n walk.indexes new) w.present
      (subst (λ m. IsNext (limit k.texts walk.present) m walk.indexes new) w.assigned.count x)

  pub walking_next : (walk new : Walk) → IsWalking walk → new.present ≡ walk.present
      → IsNext (limit k.texts walk.present) (length walk.indexes) walk.indexes new.indexes → (Stands walk.indexes → ⊥)
      → IsWalking new
  walking_next walk new w p x m =
      let y = next_is walk new.indexes w x in
      record {
        shown = w.shown;
        present = p ∙ w.present;
        assigned = y.is_one;
        none = none_before_next Stands bound n walk.indexes new.indexes w.assigned.count y w.none m;
      }

  pub walking_falls : (walk new : Walk) → IsWalking walk → new.present ≡ walk.present
      → IsNext (limit k.texts walk.present) (length walk.indexes) walk.indexes new.indexes
      → left (limit k.texts new.present) new.indexes < left (limit k.texts walk.present) walk.indexes
  walking_falls walk new w p x =
      let y = next_is walk new.indexes w x in
      subst (λ z. left (limit k.texts z) new.indexes < left (limit k.texts walk.present) walk.indexes)
      (sym (p ∙ w.present))
      (subst (λ z. left bound new.indexes < left (limit k.texts z) walk.indexes) (sym w.present)
      (left_falls bound walk.indexes new.indexes (w.assigned.count ∙ sym y.is_one.count)
      (λ c h. y.is_one.within c (let e = y.is_one.count in omega arith)) y.after))

  pub walking_found : (walk : Walk) → IsWalking walk → Stands walk.indexes
      → AreFirstNames (with_graph g cs) q r (candidates_of k) bits walk.indexes
  walking_found walk w f = record {
    is_one = f;
    least = λ h e i. zero_names walk.indexes h.names (w.assigned.within 0 (omega arith))
        (least_here Stands bound n walk.indexes w.assigned.count w.none (0 ∷ h.names) (frozen_assigned w.shown h e i)
        (as_names h e i));
  }

  -- `All` has the index 0 all the way
  pub walking_zero : (walk : Walk) → IsWalking walk → IsZeroAtAll walk.indexes
  walking_zero walk w = let z : slice_index walk.indexes 0 ≤ 0 = w.assigned.within 0 (omega arith) in omega (arith, z)

  pub walking_ended : (walk : Walk) → IsWalking walk → (Stands walk.indexes → ⊥)
      → IsLast (limit k.texts walk.present) (length walk.indexes) walk.indexes
      → NoneWith (with_graph g cs) q r (candidates_of k) bits
  walking_ended walk w m x h e i =
      none_at_last Stands bound n walk.indexes w.assigned.count
      (subst (λ p. IsLast (limit k.texts p) n walk.indexes) w.present
      (subst (λ m. IsLast (limit k.texts walk.present) m walk.indexes) w.assigned.count x))
      w.none m (0 ∷ h.names) (frozen_assigned w.shown h e i) (as_names h e i)

-- ---- edges as codes

-- the code of an edge is 1 if it is chosen, else 0
code_at : (bits : List Bool) (e : ℕ) → e < length bits → get_or (code_of bits) e 0 ≡ cond (get_or bits e false) 1 0
code_at bits e h = get_or-map (λ b. cond b 1 0) bits e false 0 h

-- a number for each edge
length-code : (bits : List Bool) → length (code_of bits) ≡ length bits
length-code bits = length-map bits (λ b. cond b 1 0)

-- a bit is at most 1
within_one : (b : Bool) → cond b 1 0 ≤ 1
within_one true = omega arith
within_one false = omega arith

-- the code of edges is an assignment with the limit 1
pub code_assigned : (bits : List Bool) → IsAssignment (λ c. 1) (length bits) (code_of bits)
code_assigned bits = record {
  count = length-code bits;
  within = λ c h. let e = code_at bits c h in let w = within_one (get_or bits c false) in omega (arith, e, w);
}

-- a truth value as a number
abbrev bit : Bool → ℕ
bit b = cond b 1 0

-- equal numbers, equal values
same_bit : (x y : Bool) → bit x ≡ bit y → x ≡ y
same_bit true true h = refl
same_bit true false h = absurd (omega arith)
same_bit false true h = absurd (omega arith)
same_bit false false h = refl

-- edges with one code are the same
pub code_injective : (xs ys : List Bool) → code_of xs ≡ code_of ys → xs ≡ ys
code_injective [] [] e = refl
code_injective [] (y ∷ ys) e = absurd (cc)
code_injective (x ∷ xs) [] e = absurd (cc)
code_injective (x ∷ xs) (y ∷ ys) e =
    let h : bit x ≡ bit y = ap (λ zs. get_or zs 0 0) e in
    let t = code_injective xs ys (ap (drop 1) e) in
    let b = same_bit x y h in cc

-- an edge that isn't chosen may grow
pub open_at : (bits : List Bool) (e : ℕ) → e < length bits → get_or bits e false ≡ false
    → slice_index (code_of bits) e < 1
open_at bits e h f = let c = code_at bits e h in let z : bit (get_or bits e false) ≡ bit false = ap bit f in
    omega (arith, c, z)

-- one that is chosen may not
pub full_at : (bits : List Bool) (e : ℕ) → e < length bits → get_or bits e false ≡ true
    → slice_index (code_of bits) e < 1 → ⊥
full_at bits e h f l =
    let c = code_at bits e h in let z : bit (get_or bits e false) ≡ bit true = ap bit f in omega (arith, c, z)

-- an edge is chosen, and later ones become absent
pub bits_step : (old new : List Bool) (e : ℕ) → e < length old → length new ≡ length old
    → slice_index (code_of old) e < 1
    → ((d : ℕ) → d < e + 1 → get_or new d false ≡ get_or (set old e true) d false)
    → ((d : ℕ) → e + 1 ≤ d → get_or new d false ≡ false) → IsStep (code_of old) (code_of new) e
bits_step old new e h l o kept cleared = record {
  same_length = length-code new ∙ l ∙ sym (length-code old);
  kept = λ d b. code_at new d (omega arith)
      ∙ ap (λ b. cond b 1 0) (kept d (omega arith) ∙ get_or-set_other old e d true false (apart d b))
      ∙ sym (code_at old d (omega arith));
  grown = code_at new e (omega arith) ∙ ap (λ b. cond b 1 0) (kept e (omega arith) ∙ get_or-set_same old e true false h)
      ∙ one (slice_index (code_of old) e) o;
  cleared = λ d b. elim (is_inside d (length new)) [
    | inl i ↦ code_at new d i ∙ ap (λ b. cond b 1 0) (cleared d (omega arith))
    | inr p ↦ get_or_past (code_of new) d 0 (let c = length-code new in omega arith)
  ];
}
  where
    apart : (d : ℕ) → d < e → d ≢ e
    apart d b = λ q. omega arith

    one : (x : ℕ) → x < 1 → 1 ≡ suc x
    one x o = omega arith

-- ---- the search through choices of edges

module _ (s : Schema) (q : Formula) (r : ℕ) (k : Candidates) where
  -- no frozen dimension has edges before these
  abbrev pub NoneEarlier : List Bool → Type 0
  NoneEarlier bits = (h : Frozen) → IsFrozen s q r k h → IsBefore (code_of h.edges) (code_of bits) → ⊥

  pub earlier_start : (bits : List Bool) → ((e : ℕ) → get_or bits e false ≡ false) → NoneEarlier bits
  earlier_start bits z h f b = none_before_zeros (code_of h.edges) (code_of bits) zeros b
    where
      zeros : (c : ℕ) → slice_index (code_of bits) c ≡ 0
      zeros c = elim (is_inside c (length bits)) [
        | inl i ↦ code_at bits c i ∙ ap (λ b. cond b 1 0) (z c)
        | inr p ↦ get_or_past (code_of bits) c 0 (let l = length-code bits in omega arith)
      ]

  -- a frozen dimension has these edges or later ones
  here_or_later : (bits : List Bool) → length bits ≡ length s.graph.edges → NoneEarlier bits → (h : Frozen)
      → IsFrozen s q r k h → (h.edges ≡ bits) ⊎ IsBefore (code_of bits) (code_of h.edges)
  here_or_later bits l none h f =
      elim (compare (code_of h.edges) (code_of bits)
      (length-code h.edges ∙ f.edge_count ∙ sym l ∙ sym (length-code bits))) [
        | inl before ↦ absurd (none h f before)
        | inr t ↦ elim t [ inl p ↦ inl (code_injective h.edges bits p) | inr after ↦ inr after ]
      ]

  -- one that has none with these edges has later ones
  later : (bits : List Bool) → length bits ≡ length s.graph.edges → NoneWith s q r k bits → NoneEarlier bits
      → (h : Frozen) → IsFrozen s q r k h
      → IsAssignment (λ c. 1) (length bits) (code_of h.edges) × IsBefore (code_of bits) (code_of h.edges)
  later bits l m none h f = elim (here_or_later bits l none h f) [
    | inl p ↦ absurd (m h p f)
    | inr after ↦ (rw (l, ← f.edge_count) (code_assigned h.edges), after)
  ]

  pub earlier_next : (old new : List Bool) → length old ≡ length s.graph.edges
      → IsNext (λ c. 1) (length old) (code_of old) (code_of new) → NoneWith s q r k old → NoneEarlier old
      → NoneEarlier new
  earlier_next old new l x m none h f b = let t = later old l m none h f in
      not_both (code_of new) (code_of h.edges) (x.least (code_of h.edges) t.0 t.1) b

  pub earlier_last : (old : List Bool) → length old ≡ length s.graph.edges
      → IsLast (λ c. 1) (length old) (code_of old) → NoneWith s q r k old → NoneEarlier old
      → (h : Frozen) → IsFrozen s q r k h → ⊥
  earlier_last old l x m none h f = let t = later old l m none h f in x (code_of h.edges) t.0 t.1

  pub earlier_found : (bits : List Bool) (names : List ℕ) → length bits ≡ length s.graph.edges
      → AreFirstNames s q r k bits names → NoneEarlier bits → AreCandidates s q k
      → IsLeastFrozen s q r k (chosen_of bits names)
  earlier_found bits names l a none are = record {
    candidates = are;
    is_one = a.is_one;
    least = λ h f. elim (here_or_later bits l none h f) [
      | inl p ↦ subst (λ es. IsNotAfter (code_of bits ++ of_declared names) (code_of es ++ h.names)) (sym p)
          (not_after_behind (code_of bits) (of_declared names) h.names (a.least h p f))
      | inr after ↦ not_after_fronts (code_of bits) (code_of h.edges) (of_declared names) h.names after
    ];
  }

-- with each next choice fewer are left
pub edges_fall : (old new : List Bool) → IsNext (λ c. 1) (length old) (code_of old) (code_of new)
    → left (λ c. 1) (code_of new) < left (λ c. 1) (code_of old)
edges_fall old new x = left_falls (λ c. 1) (code_of old) (code_of new) (length-code old ∙ sym x.is_one.count)
    (λ c h. x.is_one.within c (let e = x.is_one.count in omega arith)) x.after
