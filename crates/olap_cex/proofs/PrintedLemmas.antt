-- Printed instances are read back, and so are those of frozen dimensions.
use Rattle.std.proofs.Common.{◌≡◌, ◌≢◌, ℕ, zero, suc, ◌≤◌, ◌==◌, List, [], ◌∷◌, length, get_or, codes, false, refl, sym, ap, subst, inl, inr, arith}
use Rattle.std.proofs.lemmas.{Bool.or_parts, List.{get_or-map, length-append, length-map}}
use Rattle.std.proofs.lemmas.List.{Elements.{Contains-append_cases, Contains-get_or}, FromFn.length-range_with_len}
use Rattle.std.{proofs.lemmas.Str.{IsUtf8-from_ascii, is_utf8-from_IsUtf8}, specs.List.{list_any, range_with_len}}
use Rattle.std.specs.{Prelude.{Contains, IsTrue}, Str.{IsAscii, is_utf8}}
use Rattle.olap_base.proofs.ListLemmas.{Contains-from_filter, Contains-from_range_at, Contains-nil, contains_head, length-filter}
use Rattle.olap_base.specs.{Deciding.contains_cases, Graph.{Edge, Graph, HasEdge, IsCategory, IsHierarchy, is_number}}
use Rattle.olap_base.specs.Instance.{Instance, IsMember, category_of, member_at, name_of, nobody, parents_of}
use Rattle.olap_base.specs.Limits.{most_members, most_text_bytes}
use Rattle.olap_ast.specs.Formula.{Formula}
use Rattle.olap_ast.specs.Frozen.{Candidates, Frozen, IsFrozen, categories_in_order, chosen, id_of, is_present, member_of, name_in, present_categories, thawed}
use Rattle.olap_ast.specs.{Schema.Schema, Valid.IsValidSchema}
use Rattle.olap_instance.{proofs.CategoryNames.category-utf8, proofs.ReadBack.reads-back, specs.Made.IsMadeFor}
use Rattle.olap_instance.specs.Members.{AllHasNoParents, HasShortNames, HasTexts, IsMemberId}
use Rattle.olap_cex.proofs.DraftLemmas.{name_is_good, name_is_utf8}
use Rattle.olap_cex.specs.PrintingLaws.{ConstantsAreUtf8, IsReadBack, PrintedFrozenDimensionsAreRead, PrintedInstancesAreRead}
use native.Mathlib.Decide.{ℕ_discrete}

-- an instance that a text may stand for is read back
pub printed_instances : PrintedInstancesAreRead
printed_instances g i hier read few =
    reads-back g i hier read.instance read.texts few read.top read.made read.names

-- ---- ids

-- `all` is ASCII
ascii_all : IsAscii (codes "all")
ascii_all zero = omega arith
ascii_all (suc zero) = omega arith
ascii_all (suc (suc zero)) = omega arith
ascii_all (suc (suc (suc n))) = omega arith

-- `all` is UTF-8
all_utf8 : IsTrue (is_utf8 (codes "all"))
all_utf8 = is_utf8-from_IsUtf8 (codes "all") (IsUtf8-from_ascii (codes "all") ascii_all)

-- `all` is an id
good_all : IsMemberId (codes "all")
good_all = record { utf8 = all_utf8; short = omega arith; filled = λ e. absurd (omega arith); whole = refl }

-- a number that fails the test for 0 isn't 0
filled : (n : ℕ) → n == 0 ≡ false → n ≢ 0
filled zero e z = absurd (cc)
filled (suc n) e z = absurd (omega arith)

-- a category's id may be one of a member
good_id : (g : Graph) (hier : IsHierarchy g)
    → ((name : List ℕ) → Contains g.names name → length name ≤ most_text_bytes)
    → (c : ℕ) → IsCategory g c → IsMemberId (id_of g c)
good_id g hier short zero h = good_all
good_id g hier short (suc c) h =
    let there : Contains g.names (get_or g.names c []) = Contains-get_or g.names c [] (omega arith) in
    let good = or_parts (length (get_or g.names c []) == 0) (list_any (λ b. b == 59) (get_or g.names c []))
    (name_is_good (get_or g.names c []) (hier.names (get_or g.names c []) there).0) in
    record {
      utf8 = is_utf8-from_IsUtf8 (get_or g.names c []) (category-utf8 g hier (suc c) h (λ e. absurd (omega arith)));
      short = short (get_or g.names c []) there;
      filled = filled (length (get_or g.names c [])) good.0;
      whole = good.1;
    }

-- a list that contains nothing is empty
empty : (xs : List ℕ) → ((x : ℕ) → Contains xs x → ⊥) → xs ≡ []
empty [] n = refl
empty (x ∷ xs) n = absurd (n x (contains_head x xs))

-- ---- the instance of a frozen dimension

module _ (s : Schema) (q : Formula) (r : ℕ) (k : Candidates) (f : Frozen) (valid : IsValidSchema s)
    (utf8 : ConstantsAreUtf8 s q) (t : IsFrozen s q r k f) (short : HasShortNames (thawed s k r f)) where
  abbrev es : List Edge
  es = chosen s.graph.edges f.edges

  abbrev cats : List ℕ
  cats = present_categories s.graph r es

  abbrev i : Instance
  i = thawed s k r f

  size : length i ≡ length cats
  size = length-map cats (member_of s.graph (name_in k f) cats es)

  at : (x : ℕ) → IsMember i x → member_at i x ≡ member_of s.graph (name_in k f) cats es (get_or cats x 0)
  at x h = let n = size in get_or-map (member_of s.graph (name_in k f) cats es) cats x 0 nobody (omega arith)

  category_there : (c : ℕ) → Contains (categories_in_order s.graph) c → IsCategory s.graph c
  category_there c h = elim (Contains-append_cases (range_with_len 1 (length s.graph.names)) (0 ∷ []) c h) [
    | inl e ↦ let b = Contains-from_range_at 1 (length s.graph.names) c e in omega (arith, b.0, b.1)
    | inr e ↦ elim (contains_cases c 0 [] e) [
      | inl z ↦ omega arith
      | inr n ↦ absurd (Contains-nil c n)
    ]
  ]

  category_at : (x : ℕ) → IsMember i x → IsCategory s.graph (get_or cats x 0)
  category_at x h =
      let n = size in
      category_there (get_or cats x 0)
      (Contains-from_filter (is_present r es) (categories_in_order s.graph) (get_or cats x 0)
      (Contains-get_or cats x 0 (omega arith))).0

  category_is : (x : ℕ) → IsMember i x → category_of i x ≡ get_or cats x 0
  category_is x h = ap (λ m. m.category) (at x h)

  id_is : (x : ℕ) → IsMember i x → (member_at i x).id ≡ id_of s.graph (get_or cats x 0)
  id_is x h = ap (λ m. m.id) (at x h)

  made : IsMadeFor s.graph i
  made = record {
    categories = λ x h. subst (λ c. IsCategory s.graph c) (sym (category_is x h)) (category_at x h);
    numerals = t.stands_for.legal.numerals;
  }

  id_there : (x : ℕ) → IsMember i x → IsMemberId (member_at i x).id
  id_there x h = subst (λ d. IsMemberId d) (sym (id_is x h))
      (good_id s.graph valid.hierarchy valid.names_fit (get_or cats x 0) (category_at x h))

  name_there : (x : ℕ) → IsMember i x → IsTrue (is_utf8 (name_of i x))
  name_there x h = elim (ℕ_discrete (category_of i x) 0) [
    | yes z ↦ subst (λ n. IsTrue (is_utf8 n))
        (sym (t.stands_for.legal.is_instance.all_name x ((t.stands_for.legal.is_instance.all_is_last x h).0 z)))
        all_utf8
    | no n ↦ name_is_utf8 (is_number s.graph (category_of i x)) s q (category_of i x) (name_of i x)
        (utf8 (category_of i x))
        (t.stands_for.named x h n)
  ]

  texts : HasTexts i
  texts x h = (id_there x h, name_there x h)

  few : length i ≤ most_members
  few =
      let a = size in
      let b = length-filter (is_present r es) (categories_in_order s.graph) in
      let c = length-append (range_with_len 1 (length s.graph.names)) (0 ∷ []) in
      let d = length-range_with_len 1 (length s.graph.names) in
      let e = valid.categories_fit in
      omega arith

  top : AllHasNoParents i
  top x e =
      let z : category_of i x ≡ 0 = (t.stands_for.legal.is_instance.all_is_last x (omega arith)).1 e in
      empty (parents_of i x) (λ y b. valid.hierarchy.none_from_all (category_of i y)
      (subst (λ c. HasEdge s.graph c (category_of i y)) z (t.stands_for.legal.lawful.connectivity x y b)))

  frozen_read : IsReadBack s.graph i
  frozen_read = printed_instances s.graph i valid.hierarchy
      (record { instance = t.stands_for.legal.is_instance; made = made; texts = texts; names = short; top = top }) few

-- so is the instance of a frozen dimension with short names
pub printed_frozen_dimensions : PrintedFrozenDimensionsAreRead
printed_frozen_dimensions s q r k f valid utf8 t short = frozen_read s q r k f valid utf8 t short
