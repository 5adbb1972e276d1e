-- An instance is legal exactly if its parts are: what is asked of a member looks upwards, and a part has all of that.
use Rattle.std.proofs.Common.{◌≡◌, ◌↔◌, ℕ, suc, ◌<◌, zero, List, get_or, length, map, refl, sym, ap, subst, ◌∙◌, inl, inr, arith}
use Rattle.std.proofs.{Math.Decide.dec_lt, Math.ListN.get_or-map, lemmas.Bool.cases_order}
use Rattle.std.proofs.lemmas.List.{get_or_past, length-map, Elements.All-contains}
use Rattle.std.specs.Prelude.{◌≢◌, AllPairs, Contains, IsSome, IsTrue}
use Rattle.olap_base.proofs.{AboveLemmas.reaches_all, ListLemmas.{Contains-from_map, Contains-map}}
use Rattle.olap_base.proofs.Part.{IsPart, increasing_injective, part_instance, part_lawful, part_lift, part_inside}
use Rattle.olap_base.specs.{Deciding.below_is_member, Graph.{Graph, HasEdge, is_number}}
use Rattle.olap_base.specs.Instance.{Instance, nobody, IsInstance, IsLawful, IsBelow, IsMember, IsFarBelow, category_of, name_of, member_at, parents_of}
use Rattle.olap_base.specs.Steps.{Climb, Climb.climb, Climb-from_leads, leads_from_Climb}
use Rattle.olap_numerals.specs.{Named.HasNumerals, Numerals.number_of}
use Rattle.olap_ast.proofs.Truth.{Any_number, Any_text, NamesAgree, NumbersAgree, same}
use Rattle.olap_ast.specs.{Formula.{Formula, Holds, IsNumbered}, Parts.{IsPartOf, LegalExactlyIfPartsAre, StandsIn}}
use Rattle.olap_ast.specs.Schema.{Constraint, Meets, Schema, IsLegal}

-- a list whose elements differ after a function has no doubles
pairs_differ : (f : ℕ → ℕ) (xs : List ℕ) → AllPairs ◌≢◌ (map f xs) → AllPairs ◌≢◌ xs
pairs_differ f xs h k l d a b q = h k l (f d) a (subst (λ n. l < n) (sym (length-map xs f)) b)
    (get_or-map f xs k d ∙ ap f q ∙ sym (get_or-map f xs l d))

module _ (i j : Instance) (e : ℕ → ℕ) (p : IsPartOf i j e) where
  -- the parents of a member of the part, as they stand in the whole
  parents_are : (k : ℕ) → k < length j → parents_of i (e k) ≡ map e (parents_of j k)
  parents_are k h = ap (λ m. m.parents) (p.same k h)

  -- no two members of the part are one in the whole
  injective : (k l : ℕ) → k < length j → l < length j → e k ≡ e l → k ≡ l
  injective = increasing_injective (length j) e p.ordered

  -- a part is closed under parents
  pub as_part : IsPart i j e
  as_part = record {
    member = p.member;
    category = λ k h. sym (ap (λ m. m.category) (p.same k h));
    inside = p.parents;
    below = λ k l b. let h = below_is_member j k l b in
        subst (λ ps. Contains ps (e l)) (sym (parents_are k h)) (Contains-map e (parents_of j k) l b);
    above = λ k y h b. Contains-from_map e (parents_of j k) y (subst (λ ps. Contains ps y) (parents_are k h) b);
    injective = injective;
  }

  -- its members have the names that they have in the whole
  name_is : (k : ℕ) → k < length j → name_of i (e k) ≡ name_of j k
  name_is k h = ap (λ m. m.name) (p.same k h)

  -- so texts tell nothing apart
  names_agree : NamesAgree i j e Any_text
  names_agree k text h u = (λ q. name_is k h ∙ q, λ q. sym (name_is k h) ∙ q)

  -- and numbers don't
  numbers_agree : NumbersAgree i j e Any_number
  numbers_agree k op n h u = (
    λ q. subst (λ t. IsNumbered t op n) (sym (name_is k h)) q,
    λ q. subst (λ t. IsNumbered t op n) (name_is k h) q,
  )

  -- a formula has one truth in both
  same_in_part : (k : ℕ) → k < length j → (f : Formula) → Holds j k f ↔ Holds i (e k) f
  same_in_part k h f =
      same i j e as_part Any_text Any_number names_agree numbers_agree k h f (λ a b r. tt, λ a b r. tt)

  -- a constraint that the whole meets is met in the part
  met_in_part : (c : Constraint) → Meets i c → Meets j c
  met_in_part c m k (h, q) = (same_in_part k h c.formula).1
      (m (e k) (p.member k h, ap (λ t. t.category) (p.same k h) ∙ q))

  -- ---- a part of a legal instance

  -- the last member of the whole stands at the end of the part, which has all that its members reach
  end_is_end : (g : Graph) → IsInstance i → IsLawful g i → (a : ℕ) → suc a ≡ length j → suc (e a) ≡ length i
  end_is_end g v w a h =
      let r = reaches_all g i v w (e 0) (p.member 0 p.some) in
      let t = part_lift i j e as_part r.2 0 p.some refl in
      let l : t.0 < length j = part_inside i j e as_part p.some t.1 in
      at_end a t.0 r.0 h l t.2 r.1 (p.member a (last_is_member a h))
    where
      last_is_member : (a : ℕ) → suc a ≡ length j → a < length j
      last_is_member a h = omega arith

      at_end : (a k b : ℕ) → suc a ≡ length j → k < length j → e k ≡ b → suc b ≡ length i → e a < length i
          → suc (e a) ≡ length i
      at_end a k b h l q r m = elim (cases_order k a) [
        | inl s ↦ ap suc (sym (ap e s) ∙ q) ∙ r
        | inr s ↦ elim s [
          | inl u ↦ let f : e k < e a = p.ordered k a u (last_is_member a h) in absurd (omega arith)
          | inr u ↦ absurd (omega arith)
        ]
      ]

  -- no two members of the part have one id
  ids_differ : IsInstance i → (k l : ℕ) → k < length j → l < length j → (member_at j k).id ≡ (member_at j l).id → k ≡ l
  ids_differ v k l hk hl q = injective k l hk hl
      (v.ids_differ (e k) (e l) (p.member k hk) (p.member l hl)
      (ap (λ m. m.id) (p.same k hk) ∙ q ∙ sym (ap (λ m. m.id) (p.same l hl))))

  -- no member of the part has a parent twice
  parents_differ : IsInstance i → (k : ℕ) → AllPairs ◌≢◌ (parents_of j k)
  parents_differ v k = elim (dec_lt k (length j)) [
    | yes h ↦ pairs_differ e (parents_of j k) (subst (λ ps. AllPairs ◌≢◌ ps) (parents_are k h) (v.parents_differ (e k)))
    | no n ↦ rw (ap (λ m. m.parents) (get_or_past j k nobody (omega (arith, n)))) (λ a b d r u. absurd (omega arith))
  ]

  -- a part of a legal instance is legal
  pub part_is_legal : (s : Schema) → IsLegal s i → IsLegal s j
  part_is_legal s v =
      let a = last_of (length j) p.some in
      let q = end_is_end s.graph v.is_instance v.lawful a.0 a.1 in
      let h : a.0 < length j = omega (arith, a.1) in
      record {
        is_instance = part_instance i j e as_part a.0 v.is_instance a.1 q (ids_differ v.is_instance)
            (parents_differ v.is_instance) (sym (ap (λ m. m.id) (p.same a.0 h))) (sym (name_is a.0 h));
        numerals = λ k hk b. rw (name_is k hk) at (v.numerals (e k) (p.member k hk)
            (subst (λ c. IsTrue (is_number s.graph c)) (sym (ap (λ m. m.category) (p.same k hk))) b));
        lawful = part_lawful i j e as_part s.graph v.lawful;
        meets = λ c d. met_in_part c (v.meets c d);
      }
    where
      last_of : (n : ℕ) → 0 < n → (a : ℕ) × (suc a ≡ n)
      last_of zero h = absurd (omega arith)
      last_of (suc n) h = (n, refl)

  -- ---- the whole, seen from a member of a legal part

  -- steps from a member of the part are steps in it
  lifted : (k : ℕ) → k < length j → {y : ℕ} → Climb (IsBelow i) (e k) y
      → (l : ℕ) × (l < length j) × Climb (IsBelow j) k l × (e l ≡ y)
  lifted k h (climb {z = z} b r) =
      let t = as_part.above k z h b in
      let u = part_lift i j e as_part r t.0 (as_part.inside k t.0 t.1) t.2 in
      (u.0, part_inside i j e as_part (as_part.inside k t.0 t.1) u.1, climb t.1 u.1, u.2)

-- ---- an instance whose parts are legal

-- a member of the instance stands at a place of a legal part
record Seat (s : Schema) (i : Instance) (x : ℕ) : Type 0 where
  j : Instance
  legal : IsLegal s j
  stands : StandsIn i x j
  part : IsPart i j stands.place
  category : category_of j stands.at ≡ category_of i x

module _ (s : Schema) (i : Instance) (v : IsInstance i) (legal : (x : ℕ) → IsMember i x →
    (j : Instance) × IsLegal s j × StandsIn i x j) where
  -- so does each that is a member
  seat : (x : ℕ) → IsMember i x → Seat s i x
  seat x m = let t = legal x m in let z = t.2 in let p = as_part i t.0 z.place z.part in record {
    j = t.0;
    legal = t.1;
    stands = z;
    part = p;
    category = p.category z.at z.member ∙ ap (category_of i) z.same;
  }

  -- one with a parent is a member
  starts : {x y : ℕ} → Climb (IsBelow i) x y → IsMember i x
  starts {x} (climb {z = z} b r) = below_is_member i x z b

  -- what is reached from a member is reached from its place
  reached : (x y : ℕ) (t : Seat s i x) → Climb (IsBelow i) x y
      → (l : ℕ) × (l < length t.j) × Climb (IsBelow t.j) t.stands.at l × (t.stands.place l ≡ y)
  reached x y t c = lifted i t.j t.stands.place t.stands.part t.stands.at t.stands.member
      (subst (λ w. Climb (IsBelow i) w y) (sym t.stands.same) c)

  -- and its parents are those of its place
  parent : (x y : ℕ) (t : Seat s i x) → IsBelow i x y
      → (l : ℕ) × IsBelow t.j t.stands.at l × (t.stands.place l ≡ y)
  parent x y t b = t.part.above t.stands.at y t.stands.member (subst (λ w. IsBelow i w y) (sym t.stands.same) b)

  -- a member's parent has the category that it has in the member's part
  connected : (x y : ℕ) → IsBelow i x y → HasEdge s.graph (category_of i x) (category_of i y)
  connected x y b =
      let t = seat x (below_is_member i x y b) in
      let u = parent x y t b in
      rw t.category at (rw (t.part.category u.0 (t.part.inside t.stands.at u.0 u.1) ∙ ap (category_of i) u.2) at
      (t.legal.lawful.connectivity t.stands.at u.0 u.1))

  -- a member that isn't `all` has a parent
  connected_up : (x : ℕ) → IsMember i x → category_of i x ≢ 0 → (y : ℕ) × IsBelow i x y
  connected_up x m n =
      let t = seat x m in
      let z = t.stands in
      let u = t.legal.lawful.up_connectivity z.at z.member (λ q. n (sym t.category ∙ q)) in
      (z.place u.0, subst (λ w. IsBelow i w (z.place u.0)) z.same (t.part.below z.at u.0 u.1))

  -- whoever reaches a member of the own category, does so in the own part
  stratified : (x y : ℕ) → IsFarBelow i x y → category_of i x ≢ category_of i y
  stratified x y f q =
      let c = Climb-from_leads f in
      let t = seat x (starts c) in
      let u = reached x y t c in
      t.legal.lawful.stratification t.stands.at u.0 (leads_from_Climb u.2)
      (t.category ∙ q ∙ sym (ap (category_of i) u.3) ∙ sym (t.part.category u.0 u.1))

  -- two of one category that a member reaches stand both in its part
  partitioned : (x y z : ℕ) → IsFarBelow i x y → IsFarBelow i x z → category_of i y ≡ category_of i z → y ≡ z
  partitioned x y z f g q =
      let c = Climb-from_leads f in
      let t = seat x (starts c) in
      let a = reached x y t c in
      let b = reached x z t (Climb-from_leads g) in
      sym a.3
      ∙ ap t.stands.place (t.legal.lawful.partitioning t.stands.at a.0 b.0 (leads_from_Climb a.2) (leads_from_Climb b.2)
      (t.part.category a.0 a.1 ∙ ap (category_of i) a.3 ∙ q ∙ sym (ap (category_of i) b.3)
      ∙ sym (t.part.category b.0 b.1)))
      ∙ b.3

  -- so do a shortcut and the way beside it
  unshortened : (x y z : ℕ) → IsBelow i x y → IsBelow i x z → IsFarBelow i z y → ⊥
  unshortened x y z b d f =
      let t = seat x (below_is_member i x y b) in
      let w = t.stands in
      let u = parent x y t b in
      let o = parent x z t d in
      let a = lifted i t.j w.place w.part o.0 (t.part.inside w.at o.0 o.1)
      (subst (λ k. Climb (IsBelow i) k y) (sym o.2) (Climb-from_leads f)) in
      let e = t.part.injective u.0 a.0 (t.part.inside w.at u.0 u.1) a.1 (u.2 ∙ sym a.3) in
      t.legal.lawful.shortcuts w.at u.0 o.0 u.1 o.1 (subst (λ k. IsFarBelow t.j o.0 k) (sym e) (leads_from_Climb a.2))

  -- a name is a numeral in the part
  numbered : HasNumerals s.graph i
  numbered x m b =
      let t = seat x m in
      let z = t.stands in
      subst (λ n. IsSome (number_of n)) (sym (name_is i t.j z.place z.part z.at z.member) ∙ ap (name_of i) z.same)
      (t.legal.numerals z.at z.member (subst (λ c. IsTrue (is_number s.graph c)) (sym t.category) b))

  -- a constraint is met at a member if it is in the part
  met : (c : Constraint) → Contains s.constraints c → Meets i c
  met c d x (m, q) =
      let t = seat x m in
      let z = t.stands in
      subst (λ k. Holds i k c.formula) z.same ((same_in_part i t.j z.place z.part z.at z.member c.formula).0
      (t.legal.meets c d z.at (z.member, t.category ∙ q)))

  -- where each member stands in a legal part, all are legal
  pub whole_is_legal : IsLegal s i
  whole_is_legal = record {
    is_instance = v;
    numerals = numbered;
    lawful = record {
      connectivity = connected;
      up_connectivity = connected_up;
      stratification = stratified;
      partitioning = partitioned;
      shortcuts = unshortened;
    };
    meets = met;
  }

-- ---- the law

-- an instance is legal exactly if its parts are
pub legal_exactly_if_parts_are_lem : LegalExactlyIfPartsAre
legal_exactly_if_parts_are_lem s i parts v a = (
  λ h k d l. let t = a.each k d l in part_is_legal i (get_or parts k d) t.0 t.1 s h,
  λ h. whole_is_legal s i v (λ x m. let t = a.all x m in (t.0, All-contains (IsLegal s) parts t.0 h t.1, t.2)),
)
