-- The places at which there may be more.
use Rattle.std.proofs.Common.{◌≡◌, ℕ, zero, suc, ◌+◌, ◌<◌, ◌≤◌, List, [], ◌∷◌, ◌++◌, length, get_or, take, refl, ap, sym, subst, ◌∙◌, ◌⊎◌, inl, inr, arith, length-append}
use Rattle.std.proofs.lemmas.List.{get_or_append_left, length-take-le, take-append-le, take_all}
use Rattle.std.proofs.lemmas.List.Elements.{All-append, Contains-append_left, Contains-push, Contains-push_cases}
use Rattle.std.proofs.lemmas.List.Quantifiers.{all_pairs_push}
use Rattle.std.specs.Prelude.{All, AllPairs, Contains, MatchOption, None, Option, Some, slice_index}
use Rattle.olap_ast.specs.Frozen.{Frozen, code}
use Rattle.olap_clauses.specs.{Engines.trail_of, declared.engine.Engine.Engine, declared.trails.Step.Step}
use Rattle.olap_clauses.specs.declared.trails.Trail.{Trail}
use Rattle.olap_dimsat.proofs.{FollowingLemmas.{in_range, next_of, none_beyond}, SettleLemmas.{agreeing, pinned_other}}
use Rattle.olap_dimsat.specs.Branches.{AreBranches, IsBehind, IsBranch, IsOpen, IsRefuted, IsTopped}
use Rattle.olap_dimsat.specs.Following.{IsNext, IsRisen, NoneBeyond, NoneMore}
use Rattle.olap_dimsat.specs.{Pinned.{InRange, IsLonger, IsPinned, IsPlace, IsReady, IsSame}, Tasks.{Task, IsOne}}
use Rattle.olap_dimsat.specs.declared.branching.Branch.{Branch}
use Rattle.olap_base.proofs.GeneralLemmas.{below_or_same}

-- ---- no more at a place

-- where each greater number was refuted, there is no more
pub topped : (t : Task) (p n most : ℕ) (w : Frozen) (trail : Trail) → IsPlace t p → n ≡ slice_index (code w) p
    → ((x : ℕ) → InRange t p x → x ≤ most) → ((x : ℕ) → n < x → x ≤ most → IsRefuted t trail p x)
    → IsTopped t trail p w
topped t p n most w trail place q top none f v one r a = elim (below (slice_index (code f) p) n) [
  | inl l ↦ omega arith
  | inr g ↦ absurd (let m = top (slice_index (code f) p) (in_range t f p one place) in
      none (slice_index (code f) p) g m f v one r a refl)
]
  where
    below : (x y : ℕ) → (x ≤ y) ⊎ (y < x)
    below x y = grind arith

-- where none that agrees has more, none that is as w before has
pub none_more_topped : (t : Task) (p : ℕ) (w : Frozen) (e : Engine) → IsReady t e → IsPinned t p w (trail_of e)
    → IsTopped t e.solver.trail p w → NoneMore t p w
none_more_topped t p w e ready i topped f one s m =
    let v = agreeing t p w e ready i f one s in let h = topped f v.0 one v.1 v.2 in omega arith

-- that there is no more at a place rests on the places up to it alone
none_more_still : (t : Task) (p q : ℕ) (w y : Frozen) → q < p → IsSame p y w → NoneMore t q w → NoneMore t q y
none_more_still t p q w y l same none f one s m =
    none f one (λ k h. s k h ∙ same k (omega arith)) (let e = same q l in omega arith)

-- ---- literals

-- the first literals stay when more come
front_still : (ss ts : List Step) (k : ℕ) → IsLonger ss ts → k ≤ length ss → take k ts ≡ take k ss
front_still ss ts k l h = ap (take k) l.1 ∙ take-append-le k ss l.0 h

-- the first of the first
take_again : (ss : List Step) (j k : ℕ) → j ≤ k → take j (take k ss) ≡ take j ss
take_again ss zero k h = none (take k ss) ∙ sym (none ss)
  where
    none : (ts : List Step) → take 0 ts ≡ []
    none [] = refl
    none (t ∷ ts) = refl
take_again ss (suc j) zero h = absurd (omega arith)
take_again [] (suc j) (suc k) h = refl
take_again (s ∷ ss) (suc j) (suc k) h = ap (λ r. s ∷ r) (take_again ss j k (omega arith))

-- what was taken off again
pub taken_back : (ss ts : List Step) (k : ℕ) → k ≤ length ss → IsLonger (take k ss) ts → take k ts ≡ take k ss
taken_back ss ts k h l =
    front_still (take k ss) ts k l (let e = length-take-le k ss h in omega arith) ∙ take_again ss k k (omega arith)

-- ---- lists of branches

-- one more of which it holds
all_push : (P : Branch → Type 0) (xs : List Branch) (y : Branch) → All P xs → P y → All P (xs ++ y ∷ [])
all_push P xs y a p = All-append P xs (y ∷ []) a last
  where
    last : All P (y ∷ [])
    last zero d h = p
    last (suc k) d h = absurd (omega arith)

-- what holds of all holds of all before the last
all_before : (P : Branch → Type 0) (xs : List Branch) (y : Branch) → All P (xs ++ y ∷ []) → All P xs
all_before P xs y a k d h =
    subst P (get_or_append_left xs (y ∷ []) d k h) (a k d (let l = length-append xs (y ∷ []) in omega arith))

-- the last element is what was pushed
at_last : (xs : List Branch) (y : Branch) (d : Branch) → get_or (xs ++ y ∷ []) (length xs) d ≡ y
at_last [] y d = refl
at_last (x ∷ xs) y d = at_last xs y d

-- what holds of all holds of the last
all_last : (P : Branch → Type 0) (xs : List Branch) (y : Branch) → All P (xs ++ y ∷ []) → P y
all_last P xs y a =
    subst P (at_last xs y y) (a (length xs) y (let l = length-append xs (y ∷ []) in omega arith))

-- those before the last are in order
pairs_before : (xs : List Branch) (y : Branch) → AllPairs IsBehind (xs ++ y ∷ []) → AllPairs IsBehind xs
pairs_before xs y a i j d l h =
    let e = get_or_append_left xs (y ∷ []) d i (omega arith) in
    let f = get_or_append_left xs (y ∷ []) d j h in
    rw (← f) (rw (← e) (a i j d l (let n = length-append xs (y ∷ []) in omega arith)))

-- and the last is after each
pairs_last : (xs : List Branch) (y : Branch) → AllPairs IsBehind (xs ++ y ∷ []) → All (λ b. IsBehind b y) xs
pairs_last xs y a k d h =
    let e = get_or_append_left xs (y ∷ []) d k h in
    rw (← (at_last xs y d)) (rw (← e) (a k (length xs) d h (let n = length-append xs (y ∷ []) in omega arith)))

-- ---- branches come

-- a trail with more literals has the mark
longer_mark : (ss ts : List Step) (k : ℕ) → IsLonger ss ts → k ≤ length ss → k ≤ length ts
longer_mark ss ts k l h = let e = ap length l.1 in let n = length-append ss l.0 in omega arith

-- branches stay when literals come
pub branches_still : (t : Task) (p : ℕ) (w : Frozen) (ss ts : List Step) (bs : List Branch) → AreBranches t p w ss bs
    → IsLonger ss ts → AreBranches t p w ts bs
branches_still t p w ss ts bs b longer = record {
  ordered = b.ordered;
  each = λ k d h.
      let x = get_or bs k d in
      let i = b.each k d h in record {
        place = i.place;
        mark = longer_mark ss ts x.mark longer i.mark;
        pinned = subst (IsPinned t x.place w) (sym (front_still ss ts x.mark longer i.mark)) i.pinned;
      };
  rest = b.rest;
}

-- a branch stays one when literals and places come
branch_still : (t : Task) (p : ℕ) (w : Frozen) (ss ts : List Step) (x : Branch) → IsLonger ss ts → IsBranch t p w ss x
    → IsBranch t (p + 1) w ts x
branch_still t p w ss ts x longer i = record {
  place = let l = i.place in omega arith;
  mark = longer_mark ss ts x.mark longer i.mark;
  pinned = subst (IsPinned t x.place w) (sym (front_still ss ts x.mark longer i.mark)) i.pinned;
}

-- one place more, at which there is no more
pub branches_past : (t : Task) (p : ℕ) (w : Frozen) (ss ts : List Step) (bs : List Branch) → AreBranches t p w ss bs
    → IsLonger ss ts → NoneMore t p w → AreBranches t (p + 1) w ts bs
branches_past t p w ss ts bs b longer none = record {
  ordered = b.ordered;
  each = λ k d h. branch_still t p w ss ts (get_or bs k d) longer (b.each k d h);
  rest = λ q h not. elim (below_or_same q p h) [
    | inl l ↦ b.rest q l not
    | inr e ↦ rw e none
  ];
}

-- one place more, at which there may be more: it is the last branch
pub branches_more : (t : Task) (p : ℕ) (w : Frozen) (ss ts : List Step) (bs : List Branch) (b : Branch)
    → AreBranches t p w ss bs → IsLonger ss ts → IsPinned t p w ss → b.place ≡ p → b.mark ≡ length ss
    → AreBranches t (p + 1) w ts (bs ++ b ∷ [])
branches_more t p w ss ts bs b old longer pinned place mark = record {
  ordered = all_pairs_push IsBehind bs b old.ordered
      (λ k d h. let i = old.each k d h in (let l = i.place in omega arith, let l = i.mark in omega arith));
  each = all_push (IsBranch t (p + 1) w ts) bs b
      (λ k d h. branch_still t p w ss ts (get_or bs k d) longer (old.each k d h)) (record {
        place = omega arith;
        mark = longer_mark ss ts b.mark longer (omega arith);
        pinned = rw place (subst (IsPinned t p w)
            (sym (front_still ss ts b.mark longer (omega arith) ∙ take_all b.mark ss (omega arith))) pinned);
      });
  rest = λ q h not. elim (below_or_same q p h) [
    | inl l ↦ old.rest q l (λ c i e. not c (Contains-append_left bs (b ∷ []) c i) e)
    | inr e ↦ absurd (not b (Contains-push bs b) (place ∙ sym e))
  ];
}

-- ---- the last branch is taken off

module _ (t : Task) (n : ℕ) (w : Frozen) (ss : List Step) (bs : List Branch) (b : Branch)
    (all : AreBranches t n w ss (bs ++ b ∷ [])) where
  -- the last is a branch
  last_is : IsBranch t n w ss b
  last_is = all_last (IsBranch t n w ss) bs b all.each

  -- what the last branch says
  pub last_pinned : IsPinned t b.place w (take b.mark ss)
  last_pinned = last_is.pinned

  -- it is at one of the first places
  pub last_place : b.place < n
  last_place = last_is.place

  -- its literals stand while others come after them
  pub last_mark : (ts : List Step) → IsLonger (take b.mark ss) ts → take b.mark ts ≡ take b.mark ss
  last_mark ts l = taken_back ss ts b.mark last_is.mark l

  -- a branch before the last still is one when the literals after the last one's mark are gone
  still_branch : (p : ℕ) (y : Frozen) (x : Branch) → x.place < p → IsOne t y → IsSame b.place y w → IsBehind x b
      → IsBranch t n w ss x → IsBranch t p y (take b.mark ss) x
  still_branch p y x l one same behind i = record {
    place = l;
    mark = let e = length-take-le b.mark ss last_is.mark in let h = behind.1 in omega arith;
    pinned = pinned_other t x.place w y (take x.mark (take b.mark ss))
        (subst (IsPinned t x.place w) (sym (take_again ss x.mark b.mark behind.1)) i.pinned) one
        (λ k h. same k (let g = behind.0 in omega arith));
  }

  -- so are all before the last
  each_before : (p : ℕ) (y : Frozen) → b.place ≤ p → IsOne t y → IsSame b.place y w
      → All (IsBranch t p y (take b.mark ss)) bs
  each_before p y l one same k d h =
      let behind = pairs_last bs b all.ordered k d h in
      still_branch p y (get_or bs k d) (let g = behind.0 in omega arith) one same behind
      (all_before (IsBranch t n w ss) bs b all.each k d h)

  -- a place other than the last branch's, at which no other branch is, has no more
  rest_before : (q : ℕ) → q < n → (q ≡ b.place → ⊥) → ((x : Branch) → Contains bs x → x.place ≡ q → ⊥)
      → NoneMore t q w
  rest_before q h other not = all.rest q h (λ x c e. elim (Contains-push_cases bs b x c) [
    | inl i ↦ not x i e
    | inr z ↦ other (sym e ∙ sym (ap (λ (x : Branch). x.place) z))
  ])

  -- if there is no more at the last, the others are left
  pub branches_left : NoneMore t b.place w → AreBranches t n w (take b.mark ss) bs
  branches_left none = record {
    ordered = pairs_before bs b all.ordered;
    each = each_before n w (let l = last_is.place in omega arith) last_is.pinned.one (λ k h. refl);
    rest = λ q h not. elim (which q b.place) [
      | inl e ↦ subst (λ m. NoneMore t m w) (sym e) none
      | inr o ↦ rest_before q h o not
    ];
  }
    where
      which : (x y : ℕ) → (x ≡ y) ⊎ (x ≡ y → ⊥)
      which x y = grind arith

  -- after the last there is no more
  none_behind : (q : ℕ) → b.place < q → q < n → NoneMore t q w
  none_behind q l h = rest_before q h (λ e. omega arith) (λ x c e.
      let g = (pairs_last bs b all.ordered c.0 x c.1).0 in
      let z = ap (λ (x : Branch). x.place) c.2 in omega arith)

  -- if there is more at the last, the least such one comes next
  pub risen_next : (y : Frozen) → IsOne t w → ((q : ℕ) → q < n → IsPlace t q) → IsRisen t b.place w y → IsNext t n w y
  risen_next y one places r =
      next_of t n b.place w y one last_is.place (places b.place last_is.place) r (λ q l h place. none_behind q l h)

  -- and the others are its branches
  pub risen_open : (y : Frozen) → IsRisen t b.place w y → IsOpen t b.place n y (take b.mark ss) bs
  risen_open y r = record {
    first = let l = last_is.place in omega arith;
    pinned = pinned_other t b.place w y (take b.mark ss) last_is.pinned r.one r.raised.same;
    branched = record {
      ordered = pairs_before bs b all.ordered;
      each = each_before b.place y (omega arith) r.one r.raised.same;
      rest = λ q h not. none_more_still t b.place q w y h r.raised.same
          (rest_before q (let l = last_is.place in omega arith) (λ e. omega arith) not);
    };
  }

-- where no branch is left, none is beyond
pub no_branches : (t : Task) (n : ℕ) (w : Frozen) (ss : List Step) (bs : List Branch) → length bs ≡ 0 → IsOne t w
    → AreBranches t n w ss bs → NoneBeyond t n w
no_branches t n w ss bs e one all = none_beyond t n w one
    (λ q h place. all.rest q h (λ b c z. absurd (let l = c.1 in omega arith)))

-- an option that isn't Some
pub none_case : {X : Type 0} (o : Option X) (P : Type 0) (Q : X → Type 0) → ((x : X) → o ≡ Some x → ⊥)
    → MatchOption o P Q → P
none_case None P Q f m = m
none_case (Some x) P Q f m = absurd (f x refl)
