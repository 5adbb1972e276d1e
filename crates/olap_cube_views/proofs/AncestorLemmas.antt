-- Tuples that a tuple reaches, dimension by dimension.
--     none_here, none_on one dimension more in which nothing is reached
use Rattle.std.proofs.Common.{◌≡◌, ℕ, suc, ◌+◌, ◌<◌, ◌≤◌, List, [], ◌∷◌, ◌++◌, length, drop, refl, sym, ap, subst, ◌∙◌, arith, append_assoc, append-nil}
use Rattle.std.proofs.{Math.ListN.set, lemmas.List.{drop_all, length-map}}
use Rattle.olap_base.specs.{Instance.{Instance, ReachesCategory}, declared.ids.MemberId.MemberId}
use Rattle.olap_legal.specs.Ancestors.{IsAncestor}
use Rattle.olap_cube.specs.{Limits.most_dimensions, Tuples.{IsTupleOf, TupleReaches}}
use Rattle.olap_view.specs.Columns.{Ascent}
use Rattle.olap_cube_views.proofs.KeyLemmas.{filled_more}
use Rattle.olap_cube_views.specs.CubeTallies.{AreMembers, IsTupleAncestor, ReachesNone, key_of}
use Rattle.olap_cube_views.specs.{Dimensions.{categories_in, instances_in}, Seen.members_of}

-- a tuple has a member for each instance
pub tuple_length : (is : List Instance) (cs ys : List ℕ) → IsTupleOf is cs ys → length ys ≡ length is
tuple_length [] [] [] t = refl
tuple_length [] [] (y ∷ ys) t = absurd t
tuple_length [] (c ∷ cs) ys t = absurd t
tuple_length (i ∷ is) [] ys t = absurd t
tuple_length (i ∷ is) (c ∷ cs) [] t = absurd t
tuple_length (i ∷ is) (c ∷ cs) (y ∷ ys) t = ap suc (tuple_length is cs ys t.1)

-- each member of a tuple is one of its instance
pub tuple_members : (is : List Instance) (cs ys : List ℕ) → IsTupleOf is cs ys → AreMembers is ys
tuple_members [] [] [] t = tt
tuple_members [] [] (y ∷ ys) t = absurd t
tuple_members [] (c ∷ cs) ys t = absurd t
tuple_members (i ∷ is) [] ys t = absurd t
tuple_members (i ∷ is) (c ∷ cs) [] t = absurd t
tuple_members (i ∷ is) (c ∷ cs) (y ∷ ys) t = (t.0.0, tuple_members is cs ys t.1)

-- there is a member for each instance
pub members_length : (is : List Instance) (xs : List ℕ) → AreMembers is xs → length xs ≡ length is
members_length [] [] m = refl
members_length [] (x ∷ xs) m = absurd m
members_length (i ∷ is) [] m = absurd m
members_length (i ∷ is) (x ∷ xs) m = ap suc (members_length is xs m.1)

-- ---- one dimension more

module _ (i : Instance) (x c : ℕ) (is : List Instance) (xs cs : List ℕ) where
  -- one dimension more, in which one member is reached
  pub tuple_more : (y : ℕ) (ys : List ℕ) → IsAncestor i x c y → IsTupleAncestor is xs cs ys
      → IsTupleAncestor (i ∷ is) (x ∷ xs) (c ∷ cs) (y ∷ ys)
  tuple_more y ys a t = record {
    is_tuple = (a.is_member, t.is_tuple);
    reached = (a.reached, t.reached);
    only = only;
  }
    where
      only : (w : List ℕ) → IsTupleOf (i ∷ is) (c ∷ cs) w → TupleReaches (i ∷ is) (x ∷ xs) w → w ≡ y ∷ ys
      only [] m r = absurd m
      only (z ∷ zs) m r = let e = a.only z m.0 r.0 in let f = t.only zs m.1 r.1 in λ k. e k ∷ f k

  -- one dimension more, in which nothing is reached
  pub none_here : (ReachesCategory i x c → ⊥) → ReachesNone (i ∷ is) (x ∷ xs) (c ∷ cs)
  none_here n [] m r = absurd m
  none_here n (z ∷ zs) m r = n (z, m.0, r.0)

  -- one dimension more, where nothing is reached in the others
  pub none_on : ReachesNone is xs cs → ReachesNone (i ∷ is) (x ∷ xs) (c ∷ cs)
  none_on n [] m r = absurd m
  none_on n (z ∷ zs) m r = n zs m.1 r.1

-- ---- from left to right

module _ (columns : List Ascent) (members : List MemberId) where
  -- y is the one tuple that the members reach
  abbrev pub IsReached : List Ascent → List MemberId → List ℕ → Type 0
  IsReached ups ms y = IsTupleAncestor (instances_in ups) (members_of ms) (categories_in ups) y

  -- the members reach no tuple
  abbrev pub NoneIsReached : List Ascent → List MemberId → Type 0
  NoneIsReached ups ms = ReachesNone (instances_in ups) (members_of ms) (categories_in ups)

  -- there is a member for each column, of its instance
  abbrev pub StandIn : List Ascent → List MemberId → Type 0
  StandIn ups ms = AreMembers (instances_in ups) (members_of ms)

  -- the key has the members reached in the first k dimensions; what is reached in the others goes after them
  pub record KeySoFar (k : ℕ) (key : List ℕ) : Type 0 where
    pub tuple : List ℕ
    pub size : length tuple ≡ k
    pub is : key ≡ key_of tuple
    pub some : (ys : List ℕ) → IsReached (drop k columns) (drop k members) ys
        → IsReached columns members (tuple ++ ys)
    pub none : NoneIsReached (drop k columns) (drop k members) → NoneIsReached columns members
    pub inside : StandIn (drop k columns) (drop k members)

  -- there are as many members as columns
  pub as_many : StandIn columns members → length members ≡ length columns
  as_many s = sym (length-map members (λ m. m.0)) ∙ members_length (instances_in columns) (members_of members) s
      ∙ length-map columns (λ a. a.instance)

  module _ (k : ℕ) (key : List ℕ) (h : KeySoFar k key) (a : Ascent) (m : MemberId)
      (dc : drop k columns ≡ a ∷ drop (k + 1) columns) (dm : drop k members ≡ m ∷ drop (k + 1) members) where
    -- the next member stands in its instance, and the others in theirs
    both : StandIn (a ∷ drop (k + 1) columns) (m ∷ drop (k + 1) members)
    both = subst (λ ups. StandIn ups (m ∷ drop (k + 1) members)) dc
        (subst (λ ms. StandIn (drop k columns) ms) dm h.inside)

    -- the next member stands in its instance
    pub stands_here : m.0 < length a.instance
    stands_here = both.0

    -- what is true of the next and those after it is true of those from k on
    back : (P : List Ascent → List MemberId → Type 0) → P (a ∷ drop (k + 1) columns) (m ∷ drop (k + 1) members)
        → P (drop k columns) (drop k members)
    back P p = subst (λ ms. P (drop k columns) ms) (sym dm)
        (subst (λ ups. P ups (m ∷ drop (k + 1) members)) (sym dc) p)

    -- the key with the member reached in the next dimension
    pub key_more : (y : ℕ) (new : List ℕ) → k < most_dimensions → IsAncestor a.instance m.0 a.category y
        → new ≡ set key k y → KeySoFar (k + 1) new
    key_more y new few r e = record {
      tuple = h.tuple ++ y ∷ [];
      size = let n = h.size in length_more h.tuple y ∙ ap (λ j. j + 1) n;
      is = let n = h.size in let l : length h.tuple < most_dimensions = omega arith in
          e ∙ ap (λ t. set t k y) h.is ∙ ap (λ j. set (key_of h.tuple) j y) (sym n)
          ∙ filled_more most_dimensions h.tuple y l;
      some = λ ys t. subst (λ zs. IsReached columns members zs) (sym (append_assoc h.tuple (y ∷ []) ys))
          (h.some (y ∷ ys) (back (λ ups ms. IsReached ups ms (y ∷ ys))
          (tuple_more a.instance m.0 a.category (instances_in (drop (k + 1) columns))
          (members_of (drop (k + 1) members)) (categories_in (drop (k + 1) columns)) y ys r t)));
      none = λ n. h.none (back NoneIsReached
          (none_on a.instance m.0 a.category (instances_in (drop (k + 1) columns)) (members_of (drop (k + 1) members))
          (categories_in (drop (k + 1) columns)) n));
      inside = both.1;
    }
      where
        length_more : (ys : List ℕ) (y : ℕ) → length (ys ++ y ∷ []) ≡ length ys + 1
        length_more [] y = refl
        length_more (z ∷ ys) y = let e = length_more ys y in omega arith

    -- where nothing is reached in the next dimension, no tuple is
    pub none_reached : (ReachesCategory a.instance m.0 a.category → ⊥) → NoneIsReached columns members
    none_reached n = h.none (back NoneIsReached
        (none_here a.instance m.0 a.category (instances_in (drop (k + 1) columns)) (members_of (drop (k + 1) members))
        (categories_in (drop (k + 1) columns)) n))

  -- after the last dimension the key is that of the one tuple reached
  pub key_end : (k : ℕ) (key : List ℕ) → StandIn columns members → length columns ≤ k → KeySoFar k key
      → (y : List ℕ) × IsReached columns members y × (key ≡ key_of y)
  key_end k key s l h = (
    h.tuple ++ [],
    h.some [] (subst (λ ms. IsReached (drop k columns) ms [])
        (sym (drop_all k members (let n = as_many s in omega arith)))
        (subst (λ ups. IsReached ups [] []) (sym (drop_all k columns l)) nothing)),
    h.is ∙ ap key_of (sym (append-nil h.tuple)),
  )
    where
      nothing : IsTupleAncestor [] [] [] []
      nothing = record { is_tuple = tt; reached = tt; only = only }
        where
          only : (w : List ℕ) → IsTupleOf [] [] w → TupleReaches [] [] w → w ≡ []
          only [] m r = refl
          only (z ∷ zs) m r = absurd m
