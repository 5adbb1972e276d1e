-- Lists of frozen dimensions by their codes.
use Rattle.std.proofs.Common.{◌≡◌, ℕ, zero, suc, ◌<◌, ◌≤◌, List, [], ◌∷◌, ◌++◌, length, get_or, refl, ap, sym, subst, ◌⊎◌, inl, inr, arith, length-append}
use Rattle.std.proofs.lemmas.{Bool.cases_lt, List.Elements.{All-append, Contains-append_left, Contains-append_right}}
use Rattle.std.proofs.lemmas.List.Quantifiers.{all_pairs_push}
use Rattle.std.specs.Prelude.{All, AllPairs, Contains, IfSome, None, Option, Some, slice_index}
use Rattle.olap_ast.specs.Frozen.{Frozen, code}
use Rattle.olap_base.proofs.{GeneralLemmas.less_equal_greater, ListLemmas.contains_head}
use Rattle.olap_base.{proofs.RankLemmas.{not_after_itself, not_after_again}, specs.Ranks.IsNotAfter}
use Rattle.olap_base.specs.{Refusing.IsFor, declared.refusals.Refusal.Refusal}
use Rattle.olap_names.{proofs.OrderLemmas.{compare, not_both}, specs.Names.candidates_of}
use Rattle.olap_dimsat.proofs.FollowingLemmas.{Differ, code_one, differ, edges_same, same_code, same_edges, same_length}
use Rattle.olap_dimsat.specs.Following.{AreFirsts, AreMoreFirsts, HasLike, IsBeyond, IsFirstOf, IsNext, NoneBeyond}
use Rattle.olap_dimsat.specs.{Listed.{AreAllFrozen, AreMoreThan, IsBefore}, Pinned.{IsPlace, IsSame}}
use Rattle.olap_dimsat.specs.{Shapes.{AreMoreShapes, AreShapes}, Tasks.{IsTask, Task, IsOne, graph_of, schema_of}}
use Rattle.olap_base.specs.declared.refusals.Refusal.TheVariants as refusal

-- ---- the order

-- two lists of less_equal_greater neither comes later are equal
both_ways : (xs ys : List ℕ) → length xs ≡ length ys → IsNotAfter xs ys → IsNotAfter ys xs → xs ≡ ys
both_ways xs ys e a b = elim (compare xs ys e) [
  | inl s ↦ absurd (not_both ys xs b s)
  | inr r ↦ elim r [ inl q ↦ q | inr s ↦ absurd (not_both xs ys a s) ]
]

-- before what comes before
before_again : (t : Task) (f w y : Frozen) → IsOne t f → IsOne t w → IsBefore f w → IsBefore w y → IsBefore f y
before_again t f w y a b l m = (
  not_after_again (code f) (code w) (code y) l.0 m.0,
  λ e. l.1 (code_one t f w a b
      (both_ways (code f) (code w) (same_length t f w a b) l.0
      (rw e m.0))),
)

-- one that isn't before w is w, or comes after it
same_or_after : (t : Task) (w f : Frozen) → IsOne t w → IsOne t f → IsNotAfter (code w) (code f)
    → (w ≡ f) ⊎ IsBefore w f
same_or_after t w f a b n = elim (compare (code w) (code f) (same_length t w f a b)) [
  | inl s ↦ inr (n, λ e. not_both (code f) (code w) (rw (← e) (own w)) s)
  | inr r ↦ elim r [ inl q ↦ inl (code_one t w f a b q) | inr s ↦ absurd (not_both (code w) (code f) n s) ]
]
  where
    own : (h : Frozen) → IsNotAfter (code h) (code h)
    own h = not_after_itself (code h)

-- ---- beyond

-- one that doesn't come before w is as w at the first n places, or beyond it
alike_or_beyond : (t : Task) (n : ℕ) (w f : Frozen) → IsOne t w → IsOne t f → IsNotAfter (code w) (code f)
    → IsSame n f w ⊎ IsBeyond n w f
alike_or_beyond t n w f a b l = elim (same_or_after t w f a b l) [
  | inl e ↦ inl (rw (← e) (λ k i. refl))
  | inr m ↦ let d = differ t w f a b m in elim (cases_lt d.place n) [
    | inl h ↦ inr (m, λ s. let e = s d.place h in let g = d.more in omega arith)
    | inr h ↦ inl (λ k i. d.same k (omega arith))
  ]
]

-- what is beyond what is beyond h is beyond h
beyond_again : (t : Task) (n : ℕ) (h w y : Frozen) → IsOne t h → IsOne t w → IsOne t y → IsBeyond n h w
    → IsBeyond n w y → IsBeyond n h y
beyond_again t n h w y a b c l m = (before_again t h w y a b l.0 m.0, other)
  where
    d : Differ (code h) (code w)
    d = differ t h w a b l.0

    e : Differ (code w) (code y)
    e = differ t w y b c m.0

    at_first_places : IsSame n y h → d.place < n → ⊥
    at_first_places s i = elim (less_equal_greater e.place d.place) [
      | inl z ↦
          let u = d.same e.place z in let v = s e.place (omega arith) in let g = e.more in omega arith
      | inr r ↦ elim r [
        | inl q ↦
            let u = ap (slice_index (code w)) q in let v = ap (slice_index (code y)) q in
            let x = s d.place i in let f = d.more in let g = e.more in omega arith
        | inr z ↦
            let u = e.same d.place z in let v = s d.place i in let f = d.more in omega arith
      ]
    ]

    other : IsSame n y h → ⊥
    other s = elim (cases_lt d.place n) [
      | inl i ↦ at_first_places s i
      | inr i ↦ l.1 (λ k z. d.same k (omega arith))
    ]

-- ---- lists

-- the first ones so far, each once, by their codes
pub record IsFront (t : Task) (n : ℕ) (list : List Frozen) : Type 0 where
  pub ordered : AllPairs (IsBeyond n) list
  pub sound : All (IsFirstOf t n) list

-- w is beyond all of them, and what isn't as one of them doesn't come before w
pub record IsAhead (t : Task) (n : ℕ) (list : List Frozen) (w : Frozen) : Type 0 where
  pub first : IsFirstOf t n w
  pub beyond : All (λ f. IsBeyond n f w) list
  pub rest : (f : Frozen) → IsOne t f → HasLike n list f ⊎ IsNotAfter (code w) (code f)

-- each frozen dimension is as one of them
abbrev pub HasAll : Task → ℕ → List Frozen → Type 0
HasAll t n list = (f : Frozen) → IsOne t f → HasLike n list f

-- one more of less_equal_greater it holds
all_push : (P : Frozen → Type 0) (xs : List Frozen) (y : Frozen) → All P xs → P y → All P (xs ++ y ∷ [])
all_push P xs y a p = All-append P xs (y ∷ []) a last
  where
    last : All P (y ∷ [])
    last zero d h = p
    last (suc k) d h = absurd (omega arith)

-- what was pushed is in the list
contains_last : (xs : List Frozen) (y : Frozen) → Contains (xs ++ y ∷ []) y
contains_last xs y = Contains-append_right xs (y ∷ []) y (contains_head y [])

-- and with the one that comes next
pub front_more : (t : Task) (n : ℕ) (list : List Frozen) (w : Frozen) → IsFront t n list → IsAhead t n list w
    → IsFront t n (list ++ w ∷ [])
front_more t n list w f a = record {
  ordered = all_pairs_push (IsBeyond n) list w f.ordered a.beyond;
  sound = all_push (IsFirstOf t n) list w f.sound a.first;
}

-- one that is as none of the list is as w, or beyond it
left : (t : Task) (n : ℕ) (list : List Frozen) (w : Frozen) → IsAhead t n list w → (f : Frozen) → IsOne t f
    → HasLike n (list ++ w ∷ []) f ⊎ IsBeyond n w f
left t n list w a f one = elim (a.rest f one) [
  | inl c ↦ inl (c.0, Contains-append_left list (w ∷ []) c.0 c.1, c.2)
  | inr m ↦ elim (alike_or_beyond t n w f a.first.one one m) [
    | inl s ↦ inl (w, contains_last list w, s)
    | inr b ↦ inr b
  ]
]

-- the next comes next after the one that was pushed
pub ahead_more : (t : Task) (n : ℕ) (list : List Frozen) (w y : Frozen) → IsFront t n list → IsAhead t n list w
    → IsNext t n w y → IsAhead t n (list ++ w ∷ []) y
ahead_more t n list w y f a m = record {
  first = m.first;
  beyond = all_push (λ h. IsBeyond n h y) list w
      (λ k d h. beyond_again t n (get_or list k d) w y (f.sound k d h).one a.first.one m.first.one (a.beyond k d h)
      m.beyond) m.beyond;
  rest = λ h one. elim (left t n list w a h one) [ inl c ↦ inl c | inr b ↦ inr (m.least h one b) ];
}

-- where none is beyond the last, the list has all
pub has_all : (t : Task) (n : ℕ) (list : List Frozen) (w : Frozen) → IsAhead t n list w → NoneBeyond t n w
    → HasAll t n (list ++ w ∷ [])
has_all t n list w a none f one = elim (left t n list w a f one) [ inl c ↦ c | inr b ↦ absurd (none f one b) ]

-- a front that has all has the first of each
pub all_firsts : (t : Task) (n : ℕ) (list : List Frozen) → IsFront t n list → HasAll t n list → AreFirsts t n list
all_firsts t n list f h = record { ordered = f.ordered; sound = f.sound; complete = h }

-- a front with one ahead is of more than its length
pub more_firsts : (t : Task) (n : ℕ) (list : List Frozen) (w : Frozen) (limit : ℕ) → IsFront t n list
    → IsAhead t n list w → limit ≤ length list → AreMoreFirsts t n limit
more_firsts t n list w limit f a h =
    let g = front_more t n list w f a in record {
      some = list ++ w ∷ [];
      many = let l = length-append list (w ∷ []) in omega arith;
      ordered = g.ordered;
      sound = g.sound;
    }

-- an option that isn't Some is None
pub none_left : (o : Option ℕ) → ((x : ℕ) → o ≡ Some x → ⊥) → o ≡ None
none_left None f = refl
none_left (Some x) f = absurd (f x refl)

-- what follows from what is so if there is something
pub some_more : (o : Option ℕ) (P Q : Type 0) → (P → Q) → IfSome o (λ x. P) → IfSome o (λ x. Q)
some_more None P Q f m = m
some_more (Some x) P Q f m = f m

-- a refusal whose reason is allowed is one whose weaker reason is
pub weaker_for : {K : Type 0} (P Q : K → Type 0) (e : Refusal K) → ((k : K) → P k → Q k) → IsFor P e → IsFor Q e
weaker_for P Q (refusal.Kind k) h p = h k p
weaker_for P Q (refusal.Memory m) h p = tt

-- ---- by all places

-- what holds of all holds of each
at_element : (P : Frozen → Type 0) (xs : List Frozen) → All P xs → (f : Frozen) → Contains xs f → P f
at_element P xs a f c = subst P c.2 (a c.0 f c.1)

-- told apart by all places, the first ones are all
pub all_frozen : (t : Task) (n : ℕ) (list : List Frozen) → IsTask t → ((q : ℕ) → IsPlace t q → q < n)
    → AreFirsts t n list
    → AreAllFrozen (schema_of t) t.question.formula t.question.root (candidates_of t.question.candidates) list
all_frozen t n list k all a = (
  k.question.candidates,
  record {
    ordered = λ i j d l m. (a.ordered i j d l m).0;
    sound = sound;
    complete = λ f one. let c = a.complete f one in
        rw (same_code t n f c.0 one (sound c.0 c.1) all c.2) c.1;
  },
)
  where
    sound : (f : Frozen) → Contains list f → IsOne t f
    sound f c = (at_element (IsFirstOf t n) list a.sound f c).one

-- and this many of them are this many frozen dimensions
pub more_than : (t : Task) (n limit : ℕ) → IsTask t → AreMoreFirsts t n limit
    → AreMoreThan limit (schema_of t) t.question.formula t.question.root (candidates_of t.question.candidates)
more_than t n limit k m = record {
  candidates = k.question.candidates;
  some = m.some;
  many = m.many;
  differ = λ i j d a b. (m.ordered i j d a b).0.1;
  sound = λ f c. (at_element (IsFirstOf t n) m.some m.sound f c).one;
}

-- ---- by the places of the edges

-- told apart by the edges, the first ones are the least of each shape
pub shapes : (t : Task) (list : List Frozen) → IsTask t → AreFirsts t (length (graph_of t).edges) list
    → AreShapes (schema_of t) t.question.formula t.question.root (candidates_of t.question.candidates) list
shapes t list k a = record {
  candidates = k.question.candidates;
  ordered = λ i j d l m. (a.ordered i j d l m).0;
  sound = λ f c. let g = first f c in record {
    is_one = g.one;
    least = λ h one e. g.least h one (edges_same t h f one g.one e);
  };
  complete = λ f one. let c = a.complete f one in
      (c.0, c.1, sym (same_edges t f c.0 one (first c.0 c.1).one c.2));
}
  where
    first : (f : Frozen) → Contains list f → IsFirstOf t (length (graph_of t).edges) f
    first f c = at_element (IsFirstOf t (length (graph_of t).edges)) list a.sound f c

-- and this many of them are this many shapes
pub more_shapes : (t : Task) (limit : ℕ) → IsTask t → AreMoreFirsts t (length (graph_of t).edges) limit
    → AreMoreShapes limit (schema_of t) t.question.formula t.question.root (candidates_of t.question.candidates)
more_shapes t limit k m = record {
  candidates = k.question.candidates;
  some = m.some;
  many = m.many;
  differ = λ i j d a b e.
      let l : i < length m.some = omega arith in
      (m.ordered i j d a b).1 (edges_same t _ _ (m.sound j d b).one (m.sound i d l).one (sym e));
  sound = λ f c. (at_element (IsFirstOf t (length (graph_of t).edges)) m.some m.sound f c).one;
}
