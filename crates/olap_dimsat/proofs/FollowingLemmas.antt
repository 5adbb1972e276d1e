-- The frozen dimension that comes next by its code.
use Rattle.std.proofs.Common.{◌≡◌, ℕ, zero, suc, ◌+◌, ◌-◌, ◌<◌, ◌≤◌, List, [], ◌∷◌, length, Bool, true, false, refl, ap, sym, ◌∙◌, inl, inr, arith}
use Rattle.std.{proofs.lemmas.Bool.cases_lt, proofs.lemmas.List.ext_get_or, specs.Prelude.{slice_index, slice_index_or}}
use Rattle.olap_ast.specs.Frozen.{Frozen, code}
use Rattle.olap_base.{proofs.GeneralLemmas.less_equal_greater, specs.Ranks.IsNotAfter}
use Rattle.olap_dimsat.proofs.SettleLemmas.{at_least, bit, code_edge, code_name, length-code, not_after, same_bit}
use Rattle.olap_dimsat.specs.{Following.{IsNext, IsRaised, IsRisen, NoneBeyond, NoneMore}, Listed.IsBefore}
use Rattle.olap_dimsat.specs.Pinned.{InRange, IsPinned, IsPlace, IsReady, IsReplaced, IsSame, NoneAt, NoneLess}
use Rattle.olap_dimsat.specs.Tasks.{Task, IsOne, constant_count, graph_of}
use Rattle.olap_clauses.specs.declared.{engine.Engine.Engine, trails.Step.Step}

-- ---- lists of numbers

-- the first place where two lists differ, and the second has more there
pub record Differ (xs ys : List ℕ) : Type 0 where
  pub place : ℕ
  pub inside : place < length xs
  pub same : (k : ℕ) → k < place → slice_index ys k ≡ slice_index xs k
  pub more : slice_index xs place < slice_index ys place

-- two codes that differ do so first at some place
first_place : (xs ys : List ℕ) → length xs ≡ length ys → IsNotAfter xs ys → (xs ≡ ys → ⊥) → Differ xs ys
first_place [] [] e n d = absurd (d refl)
first_place [] (y ∷ ys) e n d = absurd (omega arith)
first_place (x ∷ xs) [] e n d = absurd n
first_place (x ∷ xs) (y ∷ ys) e (inl l) d = record {
  place = 0;
  inside = omega arith;
  same = λ k h. absurd (omega arith);
  more = l;
}
first_place (x ∷ xs) (y ∷ ys) e (inr t) d =
    let r = first_place xs ys (omega arith) t.1 (λ q. let p = t.0 in d (cc)) in record {
      place = suc r.place;
      inside = let i = r.inside in omega arith;
      same = same t.0 r.place r.same;
      more = r.more;
    }
  where
    same : x ≡ y → (n : ℕ) → ((k : ℕ) → k < n → slice_index ys k ≡ slice_index xs k)
        → (k : ℕ) → k < suc n → slice_index (y ∷ ys) k ≡ slice_index (x ∷ xs) k
    same q n s zero h = sym q
    same q n s (suc k) h = s k (omega arith)

-- where the second list first differs it has no less
at_first : (xs ys : List ℕ) → Differ xs ys → (q : ℕ)
    → ((k : ℕ) → k < q → slice_index ys k ≡ slice_index xs k) → slice_index xs q ≤ slice_index ys q
at_first xs ys d q s = elim (less_equal_greater q d.place) [
  | inl l ↦ let e = d.same q l in omega arith
  | inr r ↦ elim r [
    | inl e ↦ at_place e
    | inr l ↦ let e = s d.place l in let m = d.more in absurd (omega arith)
  ]
]
  where
    at_place : q ≡ d.place → slice_index xs q ≤ slice_index ys q
    at_place e = let a = ap (slice_index xs) e in let b = ap (slice_index ys) e in let m = d.more in omega arith

-- more at a place and the same before comes after
after_at : (xs ys : List ℕ) → length xs ≡ length ys → (p : ℕ) → p < length xs
    → ((k : ℕ) → k < p → slice_index ys k ≡ slice_index xs k) → slice_index xs p < slice_index ys p → IsNotAfter xs ys
after_at xs ys e p i s m = not_after xs ys e
    (λ q h. at_first xs ys (record { place = p; inside = i; same = s; more = m }) q)

-- ---- codes

-- codes that are the same at the places of the edges are of the same edges
pub same_edges : (t : Task) (f h : Frozen) → IsOne t f → IsOne t h → IsSame (length (graph_of t).edges) f h
    → f.edges ≡ h.edges
same_edges t f h a b s = ext_get_or false f.edges h.edges (a.edge_count ∙ sym b.edge_count)
    (λ e l. let n = a.edge_count in same_bit _ _
    (sym (code_edge t f e a (omega arith)) ∙ s e (omega arith) ∙ code_edge t h e b (omega arith)))

-- and codes of the same edges are the same there
pub edges_same : (t : Task) (f h : Frozen) → IsOne t f → IsOne t h → f.edges ≡ h.edges
    → IsSame (length (graph_of t).edges) f h
edges_same t f h a b q = λ e l.
    code_edge t f e a l ∙ ap (λ es. bit (slice_index_or es e false)) q ∙ sym (code_edge t h e b l)

-- the code says less_equal_greater frozen dimension it is
pub code_one : (t : Task) (f h : Frozen) → IsOne t f → IsOne t h → code f ≡ code h → f ≡ h
code_one t f h a b q =
    let es : f.edges ≡ h.edges = same_edges t f h a b (λ e l. ap (λ c. slice_index c e) q) in
    let ns : f.names ≡ h.names = ext_get_or 0 f.names h.names (a.name_count ∙ sym b.name_count)
    (λ c l. let p = length (graph_of t).edges + c in
    sym (code_name t f p c a refl) ∙ ap (λ c. slice_index c p) q ∙ code_name t h p c b refl) in
    λ i. record { edges = es i; names = ns i }

-- codes of one task have one length
pub same_length : (t : Task) (f h : Frozen) → IsOne t f → IsOne t h → length (code f) ≡ length (code h)
same_length t f h a b = length-code t f a ∙ sym (length-code t h b)

-- a frozen dimension that comes later differs first at some place
pub differ : (t : Task) (w f : Frozen) → IsOne t w → IsOne t f → IsBefore w f → Differ (code w) (code f)
differ t w f a b l = first_place (code w) (code f) (same_length t w f a b) l.0 (λ q. l.1 (code_one t w f a b q))

-- a place is within the code
place_inside : (t : Task) (w : Frozen) (p : ℕ) → IsOne t w → IsPlace t p → p < length (code w)
place_inside t w p one h = let l = length-code t w one in omega arith

-- what is within the code is a place
inside_place : (t : Task) (w : Frozen) (p : ℕ) → IsOne t w → p < length (code w) → IsPlace t p
inside_place t w p one h = let l = length-code t w one in omega arith

-- codes that are the same at all places are of one frozen dimension
pub same_code : (t : Task) (n : ℕ) (f h : Frozen) → IsOne t f → IsOne t h → ((q : ℕ) → IsPlace t q → q < n)
    → IsSame n f h → f ≡ h
same_code t n f h a b all s =
    code_one t f h a b (ext_get_or 0 (code f) (code h) (same_length t f h a b)
    (λ q l. s q (all q (inside_place t f q a l))))

-- ---- the next one

-- what is raised stays so while the places after are settled
pub risen : (t : Task) (p : ℕ) (w x y : Frozen) → IsOne t y → IsRaised t p w x → IsSame (p + 1) y x
    → ((q : ℕ) → p + 1 ≤ q → IsPlace t q → NoneLess t q y) → IsRisen t p w y
risen t p w x y one r same less = record {
  one = one;
  raised = record {
    same = λ k h. same k (omega arith) ∙ r.same k h;
    more = let e = here in let m = r.more in omega arith;
    least = λ f o s m. let e = here in let l = r.least f o s m in omega arith;
  };
  settled = λ q l place. less q (omega arith) place;
}
  where
    here : slice_index (code y) p ≡ slice_index (code x) p
    here = same p (omega arith)

module _ (t : Task) (n p : ℕ) (w y : Frozen) (a : IsOne t w) (inside : p < n) (place : IsPlace t p)
    (r : IsRisen t p w y) (none : (q : ℕ) → p < q → q < n → IsPlace t q → NoneMore t q w) where
  comes_after : IsBefore w y
  comes_after = (
    after_at (code w) (code y) (same_length t w y a r.one) p (place_inside t w p a place) r.raised.same r.raised.more,
    λ q. let e = ap (λ f. slice_index (code f) p) q in let m = r.raised.more in omega arith,
  )

  -- one that is beyond w, and is as w before p, has more at p
  more_here : (f : Frozen) → IsOne t f → (IsSame n f w → ⊥) → Differ (code w) (code f) → IsSame p f w
      → slice_index (code w) p < slice_index (code f) p
  more_here f one other d s = elim (less_equal_greater d.place p) [
    | inl l ↦ let e = s d.place l in let m = d.more in absurd (omega arith)
    | inr z ↦ elim z [
      | inl e ↦
          let m = d.more in let u = ap (slice_index (code w)) e in let v = ap (slice_index (code f)) e in omega arith
      | inr l ↦ elim (cases_lt d.place n) [
        | inl h ↦ absurd (none d.place l h (inside_place t w d.place a d.inside) f one d.same d.more)
        | inr h ↦ absurd (other (λ k i. d.same k (omega arith)))
      ]
    ]
  ]

  no_less : (f : Frozen) → IsOne t f → (IsSame n f w → ⊥) → Differ (code w) (code f) → (q : ℕ) → IsPlace t q
      → IsSame q f y → slice_index (code y) q ≤ slice_index (code f) q
  no_less f one other d q inside s = elim (less_equal_greater q p) [
    | inl l ↦
        let e = r.raised.same q l in
        let m = at_first (code w) (code f) d q (λ k h. s k h ∙ r.raised.same k (omega arith)) in omega arith
    | inr z ↦ elim z [
      | inl e ↦ at_p e
      | inr l ↦ r.settled q l inside f one s
    ]
  ]
    where
      at_p : q ≡ p → slice_index (code y) q ≤ slice_index (code f) q
      at_p e =
          let same : IsSame p f w = λ k h. s k (omega arith) ∙ r.raised.same k h in
          let m = r.raised.least f one same (more_here f one other d same) in
          let u = ap (slice_index (code y)) e in let v = ap (slice_index (code f)) e in omega arith

  -- one that is as y at the first places has no less at any
  as_much : (f : Frozen) → IsOne t f → IsSame n f y → (q : ℕ) → IsPlace t q → IsSame q f y
      → slice_index (code y) q ≤ slice_index (code f) q
  as_much f one alike q there s = elim (cases_lt p q) [
    | inl l ↦ r.settled q l there f one s
    | inr l ↦ let e = alike q (omega arith) in omega arith
  ]

  pub next_of : IsNext t n w y
  next_of = record {
    first = record {
      one = r.one;
      least = λ f one alike. not_after (code y) (code f) (same_length t y f r.one one)
          (λ q h s. as_much f one alike q (inside_place t y q r.one h) s);
    };
    beyond = (comes_after, λ s. let e = s p inside in let m = r.raised.more in omega arith);
    least = λ f one l. not_after (code y) (code f) (same_length t y f r.one one)
        (λ q h s. no_less f one l.1 (differ t w f a one l.0) q (inside_place t y q r.one h) s);
  }

-- if there is more at none of the first places, nothing is beyond
pub none_beyond : (t : Task) (n : ℕ) (w : Frozen) → IsOne t w
    → ((q : ℕ) → q < n → IsPlace t q → NoneMore t q w) → NoneBeyond t n w
none_beyond t n w a none f one l =
    let d = differ t w f a one l.0 in elim (cases_lt d.place n) [
      | inl h ↦ none d.place h (inside_place t w d.place a d.inside) f one d.same d.more
      | inr h ↦ l.1 (λ k i. d.same k (omega arith))
    ]

-- ---- more at one place

-- what stands at a place may stand there
pub in_range : (t : Task) (f : Frozen) (p : ℕ) → IsOne t f → IsPlace t p → InRange t p (slice_index (code f) p)
in_range t f p one h = record { edge = edge; name = name }
  where
    small : (b : Bool) → bit b ≤ 1
    small true = omega arith
    small false = omega arith

    edge : p < length (graph_of t).edges → slice_index (code f) p ≤ 1
    edge l = let e = code_edge t f p one l in let s = small (slice_index_or f.edges p false) in omega arith

    name : length (graph_of t).edges ≤ p → slice_index (code f) p ≤ constant_count t (p - length (graph_of t).edges + 1)
    name l =
        let c = p - length (graph_of t).edges in
        let e = code_name t f p c one (omega arith) in
        let r = one.in_range c (let n = one.name_count in omega arith) in
        let s : suc c ≡ c + 1 = omega arith in
        rw (← s) (omega arith)

-- numbers above n were tried up to this one, and none that agrees has them
abbrev pub NoneBetween : Task → ℕ → ℕ → ℕ → List Step → Type 0
NoneBetween t p n x steps = (k : ℕ) → n < k → k < x → NoneAt t p k steps

-- nor can one whose greater numbers were all refuted
pub none_more : (t : Task) (p n most : ℕ) (w : Frozen) (old : List Step) (e : Engine) → IsReady t e → IsPinned t p w old
    → IsPlace t p → n ≡ slice_index (code w) p → ((x : ℕ) → InRange t p x → x ≤ most) → NoneBetween t p n (most + 1) old
    → NoneMore t p w
none_more t p n most w old e ready i h q top none f one s m =
    let r = top (slice_index (code f) p) (in_range t f p one h) in
    let v = ready f one in
    none (slice_index (code f) p) (omega arith) (omega arith) f v.0 one v.1 ((i.exactly f v.0 one v.1).1 s) refl

-- the least that has more at this place, with the places before as they are
pub raised : (t : Task) (p n x : ℕ) (w y : Frozen) (old new : List Step) (e : Engine) → IsReady t e → IsPinned t p w old
    → n ≡ slice_index (code w) p → n < x → NoneBetween t p n x old → IsReplaced t p x w y new → IsRaised t p w y
raised t p n x w y old new e ready i q l none r = record {
  same = r.same;
  more = let a = r.number in omega arith;
  least = λ f one s m.
      let v = ready f one in
      let b = at_least x (slice_index (code f) p)
      (λ k h z. none k (omega arith) h f v.0 one v.1 ((i.exactly f v.0 one v.1).1 s) z) in
      let a = r.number in omega arith;
}
