-- Members with their parents, and `all` after them, are a dimension instance.
use Rattle.std.proofs.Common.{◌≡◌, ◌≢◌, ◌↔◌, ◌+◌, ◌<◌, ◌≤◌, ◌++◌, ◌∷◌, ◌∙◌, ◌⊎◌, inl, inr, ℕ, zero, suc, List, [], length, codes, get_or, refl, sym, ap, arith}
use Rattle.std.proofs.{Math.Seq.get_or-append_seam, lemmas.Bool.Decides.eqb_tells}
use Rattle.std.proofs.lemmas.{List.{get_or_append_left, length-append}, Str.{IsUtf8-from_ascii, is_utf8-from_IsUtf8}}
use Rattle.std.specs.{Prelude.{AllPairs, Contains, IsTrue}, Str.{IsAscii, is_utf8}}
use Rattle.olap_base.specs.Deciding.{below_is_member}
use Rattle.olap_base.specs.Instance.{Instance, IsBelow, IsInstance, IsMember, Member, category_of, member_at, nobody, parents_of}
use Rattle.olap_base.specs.Limits.{most_members}
use Rattle.olap_instance.proofs.MembersLemmas.{length-with_parents, member_at-with_parents}
use Rattle.olap_instance.specs.Members.{AreSound, HasShortNames, HasTexts, IsMemberId, all_member, with_parents}

-- what members and their parents must meet before `all` is added
pub record AreComplete (ms : Instance) (ps : List (List ℕ)) : Type 0 where
  pub as_many : length ms ≡ length ps
  pub few : length ms < most_members
  pub ids_differ : (x y : ℕ) → x < length ms → y < length ms → (member_at ms x).id ≡ (member_at ms y).id → x ≡ y
  pub not_all : (x : ℕ) → x < length ms → (member_at ms x).id ≢ codes "all"
  pub declared : (x : ℕ) → x < length ms → category_of ms x ≢ 0
  pub texts : HasTexts ms
  pub parents_inside : (x y : ℕ) → x < length ms → Contains (get_or ps x []) y → y ≤ length ms
  pub parents_differ : (x : ℕ) → x < length ms → AllPairs ◌≢◌ (get_or ps x [])

module _ (ms : Instance) (ps : List (List ℕ)) (h : AreComplete ms ps) where
  abbrev whole : Instance
  whole = with_parents (ms ++ all_member ∷ []) (ps ++ [] ∷ [])

  as_long : length (ms ++ all_member ∷ []) ≡ length (ps ++ [] ∷ [])
  as_long = let e = h.as_many in let a = length-append ms (all_member ∷ []) in let b = length-append ps ([] ∷ []) in
      omega arith

  count : length whole ≡ length ms + 1
  count = length-with_parents (ms ++ all_member ∷ []) (ps ++ [] ∷ []) as_long ∙ length-append ms (all_member ∷ [])

  other-or-all : (x : ℕ) → IsMember whole x → (x < length ms) ⊎ (x ≡ length ms)
  other-or-all x l = let n = count in
      elim (eqb_tells x (length ms)) [ inl t ↦ inr t.1 | inr f ↦ let d = f.1 in inl (omega arith) ]

  at-other : (x : ℕ) → x < length ms → member_at whole x ≡ record (member_at ms x) { parents = get_or ps x [] }
  at-other x l =
      let n = length-append ms (all_member ∷ []) in
      let k : x < length ps = let e = h.as_many in omega arith in
      member_at-with_parents (ms ++ all_member ∷ []) (ps ++ [] ∷ []) x as_long (omega arith)
      ∙ both (member_at (ms ++ all_member ∷ []) x) (member_at ms x) (get_or (ps ++ [] ∷ []) x []) (get_or ps x [])
      (get_or_append_left ms (all_member ∷ []) nobody x l) (get_or_append_left ps ([] ∷ []) [] x k)
    where
      both : (m n : Member) (p q : List ℕ) → m ≡ n → p ≡ q
          → ◌≡◌ {A = Member} (record m { parents = p }) (record n { parents = q })
      both m n p q e f = rw (e, f) refl

  at-all : member_at whole (length ms) ≡ all_member
  at-all =
      let n = length-append ms (all_member ∷ []) in
      member_at-with_parents (ms ++ all_member ∷ []) (ps ++ [] ∷ []) (length ms) as_long (omega arith)
      ∙ both (member_at (ms ++ all_member ∷ []) (length ms)) (get_or (ps ++ [] ∷ []) (length ms) [])
      (get_or-append_seam ms all_member [] nobody)
      (ap (λ (k : ℕ). get_or (ps ++ [] ∷ []) k []) h.as_many ∙ get_or-append_seam ps [] [] [])
    where
      both : (m : Member) (p : List ℕ) → m ≡ all_member → p ≡ []
          → ◌≡◌ {A = Member} (record m { parents = p }) all_member
      both m p e f = rw (e, f) refl

  id-other : (x : ℕ) → x < length ms → (member_at whole x).id ≡ (member_at ms x).id
  id-other x l = ap (λ (m : Member). m.id) (at-other x l)

  id-all : (x : ℕ) → x ≡ length ms → (member_at whole x).id ≡ codes "all"
  id-all x e = rw e (ap (λ (m : Member). m.id) at-all)

  differ : (x y : ℕ) → IsMember whole x → IsMember whole y → (member_at whole x).id ≡ (member_at whole y).id → x ≡ y
  differ x y lx ly e = elim (other-or-all x lx) [
    | inl a ↦ elim (other-or-all y ly) [
      | inl b ↦ h.ids_differ x y a b (sym (id-other x a) ∙ e ∙ id-other y b)
      | inr b ↦ absurd (h.not_all x a (sym (id-other x a) ∙ e ∙ id-all y b))
    ]
    | inr a ↦ elim (other-or-all y ly) [
      | inl b ↦ absurd (h.not_all y b (sym (id-other y b) ∙ sym e ∙ id-all x a))
      | inr b ↦ a ∙ sym b
    ]
  ]

  parents-other : (x : ℕ) → x < length ms → parents_of whole x ≡ get_or ps x []
  parents-other x l = ap (λ (m : Member). m.parents) (at-other x l)

  parents-all : (x : ℕ) → x ≡ length ms → parents_of whole x ≡ []
  parents-all x e = rw e (ap (λ (m : Member). m.parents) at-all)

  inside : (x y : ℕ) → IsBelow whole x y → IsMember whole y
  inside x y b = elim (other-or-all x (below_is_member whole x y b)) [
    | inl a ↦ let p = rw (parents-other x a) at b in let k = h.parents_inside x y a p in let n = count in omega arith
    | inr a ↦ let p = rw (parents-all x a) at b in absurd (omega (arith, p.1))
  ]

  any-default : (xs : List ℕ) (j d e : ℕ) → j < length xs → get_or xs j d ≡ get_or xs j e
  any-default [] j d e l = absurd (omega arith)
  any-default (x ∷ xs) zero d e l = refl
  any-default (x ∷ xs) (suc j) d e l = any-default xs j d e (omega arith)

  differing : (x : ℕ) → AllPairs ◌≢◌ (parents_of whole x)
  differing x i j d ij lj =
      let y = get_or (parents_of whole x) j d in
      let l : IsMember whole x = below_is_member whole x y (j, lj, any-default (parents_of whole x) j y d lj) in
      elim (other-or-all x l) [
        | inl a ↦ rw (parents-other x a) (h.parents_differ x a i j d ij (rw (parents-other x a) at lj))
        | inr a ↦ let none = rw (parents-all x a) at lj in absurd (omega arith)
      ]

  last-is-all : (x : ℕ) → IsMember whole x → (category_of whole x ≡ 0) ↔ (suc x ≡ length whole)
  last-is-all x l = let n = count in elim (other-or-all x l) [
    | inl a ↦ let d = h.declared x a in let e = ap (λ (m : Member). m.category) (at-other x a) in
        (λ z. absurd (d (sym e ∙ z)), λ s. absurd (omega arith))
    | inr a ↦ (λ z. omega arith, λ s. rw a (ap (λ (m : Member). m.category) at-all))
  ]

  is-last : (x : ℕ) → suc x ≡ length whole → x ≡ length ms
  is-last x s = let n = count in omega arith

  pub complete-instance : IsInstance whole
  complete-instance = record {
    ids_differ = differ;
    parents_are_members = inside;
    parents_differ = differing;
    some_member = let n = count in omega arith;
    all_is_last = last-is-all;
    all_id = λ x s. id-all x (is-last x s);
    all_name = λ x s. rw (is-last x s) (ap (λ (m : Member). m.name) at-all);
  }

  ascii : IsAscii (codes "all")
  ascii zero = omega arith
  ascii (suc zero) = omega arith
  ascii (suc (suc zero)) = omega arith
  ascii (suc (suc (suc n))) = omega arith

  utf8 : IsTrue (is_utf8 (codes "all"))
  utf8 = is_utf8-from_IsUtf8 (codes "all") (IsUtf8-from_ascii (codes "all") ascii)

  all-texts : IsMemberId (codes "all") × IsTrue (is_utf8 (codes "all"))
  all-texts = (record { utf8 = utf8; short = omega arith; filled = λ e. absurd (omega arith); whole = refl }, utf8)

  texts : HasTexts whole
  texts x l = elim (other-or-all x l) [
    | inl a ↦ rw (at-other x a) (h.texts x a)
    | inr a ↦ rw (a, at-all) all-texts
  ]

  -- with `all` short names stay short
  pub complete-names : HasShortNames ms → HasShortNames whole
  complete-names short x l = elim (other-or-all x l) [
    | inl a ↦ rw (at-other x a) (short x a)
    | inr a ↦ rw (a, at-all) (omega arith)
  ]

  -- with `all` they are sound
  pub complete-sound : AreSound (ms ++ all_member ∷ []) (ps ++ [] ∷ [])
  complete-sound = record {
    as_many = as_long;
    few = let n = length-append ms (all_member ∷ []) in let f = h.few in omega arith;
    instance = complete-instance;
    texts = texts;
    top = λ x s. parents-all x (is-last x s);
  }
