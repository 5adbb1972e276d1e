-- The least, place by place.
use Rattle.std.proofs.Common.{◌≡◌, ◌≢◌, ℕ, zero, suc, ◌+◌, ◌-◌, ◌<◌, ◌≤◌, List, [], ◌∷◌, ◌++◌, length, map, Bool, true, false, cond, refl, ap, sym, subst, ◌∙◌, ◌⊎◌, inl, inr, arith, length-append, append_assoc}
use Rattle.std.proofs.lemmas.Bool.{cases_Bool, false_from_ne_true, eqb-true, eq-eqb}
use Rattle.std.proofs.lemmas.List.{get_or-map, get_or_append_left, get_or-append_right, length-map, Elements.All-append}
use Rattle.std.specs.Prelude.{◌==◌, slice_index, slice_index_or}
use Rattle.olap_base.{proofs.GeneralLemmas.below_or_same, specs.Graph.category_count, specs.Ranks.IsNotAfter}
use Rattle.olap_ast.specs.Frozen.{Frozen, code}
use Rattle.olap_clauses.specs.{Admits.{AreForced, Grown}, Engines.trail_of}
use Rattle.olap_clauses.specs.{Standing.{Agrees, AgreesDecisions, is_decision}, declared.engine.Engine.Engine}
use Rattle.olap_clauses.specs.declared.trails.Step.{Step}
use Rattle.olap_pool.specs.declared.literals.Lit.{Lit}
use Rattle.olap_encoding.specs.Layouts.{name_variable, on_variable}
use Rattle.olap_dimsat.proofs.ReadLemmas.{index_small}
use Rattle.olap_dimsat.proofs.StepLemmas.{agrees_both, agrees_front, forced_agree, not_decided}
use Rattle.olap_dimsat.proofs.{Truths.{holds_at, none_is_zero}, WitnessLemmas.whole}
use Rattle.olap_dimsat.specs.Pinned.{AreShaped, IsLeast, IsLonger, IsPinned, IsPlace, IsProbed, IsReady, IsReplaced, IsSame, IsSettled, NoneAt, NoneLess, SayAt, SaysAt}
use Rattle.olap_dimsat.specs.{Reads.{Reads, IsShaped, index_in}, Tasks.{IsTask, Task, IsOne, constant_count, graph_of}}

-- ---- codes

-- a truth value as a number
abbrev pub bit : Bool → ℕ
bit b = cond b 1 0

-- equal numbers, equal values
pub same_bit : (x y : Bool) → bit x ≡ bit y → x ≡ y
same_bit true true h = refl
same_bit true false h = absurd (omega arith)
same_bit false true h = absurd (omega arith)
same_bit false false h = refl

-- a number of at most one is the bit of whether it is one
pub bit_of_one : (x : ℕ) → x ≤ 1 → bit (x == 1) ≡ x
bit_of_one zero h = refl
bit_of_one (suc zero) h = refl
bit_of_one (suc (suc x)) h = absurd (omega arith)

-- the edges as numbers
abbrev bits : List Bool → List ℕ
bits es = map (λ b. cond b 1 0) es

-- as many as edges
length-bits : (es : List Bool) → length (bits es) ≡ length es
length-bits es = length-map es (λ b. cond b 1 0)

-- the code has an edge's bit at its place
pub code_edge : (t : Task) (f : Frozen) (e : ℕ) → IsOne t f → e < length (graph_of t).edges
    → slice_index (code f) e ≡ bit (slice_index_or f.edges e false)
code_edge t f e one h =
    let l : length (bits f.edges) ≡ length f.edges = length-bits f.edges in
    let c : length f.edges ≡ length (graph_of t).edges = one.edge_count in
    get_or_append_left (bits f.edges) f.names 0 e (omega arith)
    ∙ get_or-map (λ b. cond b 1 0) f.edges e false 0 (omega arith)

-- and after the edges the index of each declared category
pub code_name : (t : Task) (f : Frozen) (p c : ℕ) → IsOne t f → p ≡ length (graph_of t).edges + c
    → slice_index (code f) p ≡ slice_index f.names c
code_name t f p c one e =
    let l : length (bits f.edges) ≡ length f.edges = length-bits f.edges in
    let n : length f.edges ≡ length (graph_of t).edges = one.edge_count in
    let m : p - length (graph_of t).edges ≡ c = omega arith in
    get_or-append_right (bits f.edges) f.names (length (graph_of t).edges) p 0 (l ∙ n) (omega arith)
    ∙ ap (λ i. slice_index f.names i) m

-- the same, by the category
pub code_index : (t : Task) (f : Frozen) (c : ℕ) → IsOne t f → c ≢ 0
    → slice_index (code f) (length (graph_of t).edges + c - 1) ≡ index_in f c
code_index t f zero one n = absurd (n refl)
code_index t f (suc c) one n = code_name t f (length (graph_of t).edges + suc c - 1) c one (omega arith)

-- as many places as edges and declared categories
pub length-code : (t : Task) (f : Frozen) → IsOne t f
    → length (code f) ≡ length (graph_of t).edges + length (graph_of t).names
length-code t f one =
    let l : length (bits f.edges) ≡ length f.edges = length-bits f.edges in
    let a = length-append (bits f.edges) f.names in
    let e : length f.edges ≡ length (graph_of t).edges = one.edge_count in
    let n : length f.names ≡ length (graph_of t).names = one.name_count in omega arith

-- ---- literals that say what stands at a place

-- the first n constants of the category are its name exactly if they have the index i
abbrev pub NamedSo : Task → (ℕ → Bool) → ℕ → ℕ → ℕ → Type 0
NamedSo t v c i n = (k : ℕ) → k < n → v (name_variable t.layout c k) ≡ (suc k == i)

-- one constant more of which the valuation says whether it is the name
pub named_more : (t : Task) (v : ℕ → Bool) (c i n : ℕ) → NamedSo t v c i n
    → v (name_variable t.layout c n) ≡ (suc n == i)
    → NamedSo t v c i (n + 1)
named_more t v c i n s e k h = elim (below_or_same k n h) [
  | inl l ↦ s k l
  | inr q ↦ rw q e
]

-- the test of two numbers, either way
eq_sym : (a b : ℕ) → (a == b) ≡ (b == a)
eq_sym a b = elim (cases_Bool (a == b)) [
  | inl y ↦ y ∙ sym (eq-eqb b a (sym (eqb-true a b y)))
  | inr n ↦ n ∙ sym (false_from_ne_true (b == a)
      (λ y. let z : true ≡ false = sym (eq-eqb a b (sym (eqb-true b a y))) ∙ n in cc))
]

-- one more than a number isn't 0
suc_not_zero : (k : ℕ) → (suc k == 0) ≡ false
suc_not_zero k = false_from_ne_true (suc k == 0) (λ y. let q = eqb-true (suc k) 0 y in omega arith)

-- an index is known by which constants it is
index_from : (i x n : ℕ) → i ≤ n → x ≤ n → ((k : ℕ) → k < n → (x == suc k) ≡ (suc k == i)) → x ≡ i
index_from zero x n h l f = none_is_zero x n l (λ k b. f k b ∙ suc_not_zero k)
index_from (suc i) x n h l f = eqb-true x (suc i) (f i (omega arith) ∙ eq-eqb (suc i) (suc i) refl)

-- so a valuation that says so of all constants has that index
pub index_of_named : (t : Task) (f : Frozen) (v : ℕ → Bool) (c i : ℕ) → IsOne t f → Reads t f v
    → c < category_count (graph_of t)
    → i ≤ constant_count t c → NamedSo t v c i (constant_count t c) → index_in f c ≡ i
index_of_named t f v c i one r h l s = index_from i (index_in f c) (constant_count t c) l (index_small t f c one h)
    (λ k b. sym (r.named c k h b) ∙ s k b)

-- and a valuation that reads the index says so of all
pub named_of_index : (t : Task) (f : Frozen) (v : ℕ → Bool) (c i : ℕ) → Reads t f v → c < category_count (graph_of t)
    → index_in f c ≡ i → NamedSo t v c i (constant_count t c)
named_of_index t f v c i r h e k b = r.named c k h b ∙ eq_sym (index_in f c) (suc k) ∙ ap (λ x. suc k == x) e

-- ---- pinned places

-- one place more that is the same
same_more : (p : ℕ) (f w : Frozen) → IsSame p f w → slice_index (code f) p ≡ slice_index (code w) p → IsSame (p + 1) f w
same_more p f w s e q h = elim (below_or_same q p h) [
  | inl l ↦ s q l
  | inr z ↦ rw z e
]

-- one place less
same_less : (p : ℕ) (f w : Frozen) → IsSame (p + 1) f w → IsSame p f w
same_less p f w s q h = s q (omega arith)

-- with literals that say what stands at one place more, this is pinned too
pub pinned_more : (t : Task) (p : ℕ) (w : Frozen) (old new : List Step) → IsPinned t p w old
    → SayAt t p (slice_index (code w) p) old new → AreShaped t new → IsPinned t (p + 1) w new
pinned_more t p w old new i say shaped = record {
  one = i.one;
  shaped = shaped;
  exactly = λ f v one r. (
    λ a. let s = (say f v one r).0 a in same_more p f w ((i.exactly f v one r).0 s.0) s.1,
    λ s. (say f v one r).1 ((i.exactly f v one r).1 (same_less p f w s), s p (omega arith)),
  );
}

-- another one with the same beginning is pinned as well
pub pinned_other : (t : Task) (p : ℕ) (w x : Frozen) (steps : List Step) → IsPinned t p w steps → IsOne t x
    → IsSame p x w → IsPinned t p x steps
pinned_other t p w x steps i one same = record {
  one = one;
  shaped = i.shaped;
  exactly = λ f v o r. (
    λ a q h. (i.exactly f v o r).0 a q h ∙ sym (same q h),
    λ s. (i.exactly f v o r).1 (λ q h. s q h ∙ same q h),
  );
}

-- a number that is none of the smaller ones is at least so great
pub at_least : (x y : ℕ) → ((k : ℕ) → k < x → y ≡ k → ⊥) → x ≤ y
at_least x y f = elim (which y x) [ inl l ↦ absurd (f y l refl) | inr h ↦ h ]
  where
    which : (y x : ℕ) → (y < x) ⊎ (x ≤ y)
    which y x = grind arith

-- no less than x stands at p, where the places before it are w's
low : (t : Task) (p x : ℕ) (w : Frozen) (old : List Step) (e : Engine) → IsReady t e → IsPinned t p w old
    → ((k : ℕ) → k < x → NoneAt t p k old) → (f : Frozen) → IsOne t f → IsSame p f w → x ≤ slice_index (code f) p
low t p x w old e ready i none f one same =
    let v = ready f one in
    at_least x (slice_index (code f) p) (λ k h q. none k h f v.0 one v.1 ((i.exactly f v.0 one v.1).1 same) q)

-- where all smaller numbers were refuted, none has less at this place
pub none_less : (t : Task) (p x : ℕ) (w y : Frozen) (old : List Step) (e : Engine) → IsReady t e → IsPinned t p w old
    → ((k : ℕ) → k < x → NoneAt t p k old) → IsSame p y w → slice_index (code y) p ≡ x → NoneLess t p y
none_less t p x w y old e ready i none same q f one s =
    rw q (low t p x w old e ready i none f one (λ k h. s k h ∙ same k h))

-- places before p stay as they were
pub none_less_still : (t : Task) (p q : ℕ) (w y : Frozen) → q < p → IsSame p y w → NoneLess t q w → NoneLess t q y
none_less_still t p q w y l same less f one s = rw (same q l) (less f one (λ k h. s k h ∙ same k (omega arith)))

-- a witness of a number at this place takes the place of the best
pub replaced : (t : Task) (p x : ℕ) (w y : Frozen) (old new : List Step) (e : Engine) → IsReady t e → IsPinned t p w old
    → AreShaped t new → IsProbed t p x y old new → IsReplaced t p x w y new
replaced t p x w y old new e ready i shaped b =
    let v = ready y b.one in
    let s = (b.say y v.0 b.one v.1).0 (b.agrees v.0 v.1) in
    let same = (i.exactly y v.0 b.one v.1).0 s.0 in record {
      pinned = pinned_more t p y old new (pinned_other t p w y old i b.one same)
          (rw s.1 b.say) shaped;
      same = same;
      number = s.1;
    }

-- w itself is what is left
pub kept : (t : Task) (p x : ℕ) (w : Frozen) (old new : List Step) → IsPinned t p w old → x ≡ slice_index (code w) p
    → AreShaped t new → SayAt t p x old new → IsPinned t (p + 1) w new
kept t p x w old new i q shaped say = pinned_more t p w old new i (rw (← q) say) shaped

-- w has what stands there, so that literals may say so
pub has_its_own : (t : Task) (p x : ℕ) (w : Frozen) (old : List Step) (e : Engine) → IsReady t e → IsPinned t p w old
    → x ≡ slice_index (code w) p → NoneAt t p x old → ⊥
has_its_own t p x w old e ready i q none =
    let v = ready w i.one in none w v.0 i.one v.1 ((i.exactly w v.0 i.one v.1).1 (λ k h. refl)) (sym q)

-- without literals no place is pinned
pub pinned_start : (t : Task) (w : Frozen) (steps : List Step) → steps ≡ [] → IsOne t w → IsPinned t 0 w steps
pinned_start t w steps e one = rw e (record {
  one = one;
  shaped = λ k d h. absurd (omega arith);
  exactly = λ f v o r. (λ a q h. absurd (omega arith), λ s. tt);
})

-- ---- literals that are forced

-- what is forced adds no decision
forced_shaped : (t : Task) (ss ts : List Step) → AreShaped t ss → AreForced ts → AreShaped t (ss ++ ts)
forced_shaped t ss ts shaped f = All-append (λ (s : Step). is_decision s.reason ≡ true → IsShaped t s.lit) ss ts shaped
    (λ k d h e. absurd (not_decided ts f k d h e))

-- so decisions stay of edges and names
pub shaped_grown : (t : Task) (old new : List Step) → Grown old new → AreShaped t old → AreShaped t new
shaped_grown t old new g shaped = subst (AreShaped t) (sym g.grown) (forced_shaped t old g.more shaped g.forced)

-- who agreed with the decisions agrees still
pub agrees_grown : (v : ℕ → Bool) (old new : List Step) → Grown old new → AgreesDecisions v old → AgreesDecisions v new
agrees_grown v old new g a = subst (AgreesDecisions v) (sym g.grown)
    (agrees_both v old g.more a (forced_agree v g.more g.forced))

-- and agreed before
pub agreed_before : (v : ℕ → Bool) (old new : List Step) → Grown old new → AgreesDecisions v new
    → AgreesDecisions v old
agreed_before v old new g a = agrees_front v old g.more (subst (AgreesDecisions v) g.grown a)

-- places stay pinned
pub pinned_grown : (t : Task) (p : ℕ) (w : Frozen) (old new : List Step) → Grown old new → IsPinned t p w old
    → IsPinned t p w new
pinned_grown t p w old new g i = record {
  one = i.one;
  shaped = shaped_grown t old new g i.shaped;
  exactly = λ f v one r. (
    λ a. (i.exactly f v one r).0 (agreed_before v old new g a),
    λ s. agrees_grown v old new g ((i.exactly f v one r).1 s),
  );
}

-- and decisions say what they said
pub say_grown : (t : Task) (p x : ℕ) (old mid new : List Step) → Grown mid new → SayAt t p x old mid
    → SayAt t p x old new
say_grown t p x old mid new g say f v one r = (
  λ a. (say f v one r).0 (agreed_before v mid new g a),
  λ d. agrees_grown v mid new g ((say f v one r).1 d),
)

-- those that are as w at the places that are pinned have a valuation that agrees with all that stands
pub agreeing : (t : Task) (p : ℕ) (w : Frozen) (e : Engine) → IsReady t e → IsPinned t p w (trail_of e)
    → (f : Frozen) → IsOne t f → IsSame p f w → (v : ℕ → Bool) × Reads t f v × Agrees v (trail_of e)
agreeing t p w e ready i f one s =
    let v = ready f one in whole t e f v.0 ready i.shaped one v.1 ((i.exactly f v.0 one v.1).1 s)

-- an edge that is present
pub says_edge : (t : Task) (p x : ℕ) (l : Lit) → l ≡ record { variable = on_variable p; positive = true }
    → p < length (graph_of t).edges → 0 < x → x ≤ 1 → SaysAt t p x l
says_edge t p x l e h positive most f v o r =
    let one : x ≡ 1 = omega arith in
    let code = code_edge t f p o h in (
      λ a. code ∙ ap bit (sym (r.on p h) ∙ holds_at v l _ e a) ∙ sym one,
      λ q. holds_at v _ l (sym e) (r.on p h ∙ same_bit _ true (sym code ∙ q ∙ one)),
    )

-- a name that is a constant
pub says_name : (t : Task) (p c x : ℕ) (l : Lit)
    → l ≡ record { variable = name_variable t.layout c (x - 1); positive = true }
    → p ≡ length (graph_of t).edges + c - 1
    → c ≢ 0 → c < category_count (graph_of t) → 0 < x → x ≤ constant_count t c → SaysAt t p x l
says_name t p c x l e at n h positive most f v o r =
    let j = x - 1 in
    let next : suc j ≡ x = omega arith in
    let within : j < constant_count t c = omega arith in
    let code = ap (slice_index (code f)) at ∙ code_index t f c o n in (
      λ a. code ∙ eqb-true (index_in f c) (suc j) (sym (r.named c j h within) ∙ holds_at v l _ e a) ∙ next,
      λ q. holds_at v _ l (sym e)
          (r.named c j h within ∙ eq-eqb (index_in f c) (suc j) (sym code ∙ q ∙ sym next)),
    )

-- what is settled: those that are as w before an earlier place agree
pub none_less_settled : (t : Task) (from q : ℕ) (w : Frozen) (e : Engine) → IsReady t e → IsPinned t from w (trail_of e)
    → from ≤ q → IsSettled t e.solver.trail q w → NoneLess t q w
none_less_settled t from q w e ready i l settled f one s =
    let v = agreeing t from w e ready i f one (λ k h. s k (omega arith)) in settled f v.0 one v.1 v.2

-- ---- the least

-- a code that is at no first difference greater comes no later
pub not_after : (xs ys : List ℕ) → length xs ≡ length ys
    → ((q : ℕ) → q < length xs → ((k : ℕ) → k < q → slice_index ys k ≡ slice_index xs k)
    → slice_index xs q ≤ slice_index ys q)
    → IsNotAfter xs ys
not_after [] ys e f = tt
not_after (x ∷ xs) [] e f = absurd (omega arith)
not_after (x ∷ xs) (y ∷ ys) e f = elim (cases x y (f 0 (omega arith) (λ k h. absurd (omega arith)))) [
  | inl l ↦ inl l
  | inr q ↦ inr (q, not_after xs ys (omega arith) (λ k h s. f (suc k) (omega arith) (same q k s)))
]
  where
    cases : (x y : ℕ) → x ≤ y → (x < y) ⊎ (x ≡ y)
    cases x y h = grind arith

    same : x ≡ y → (k : ℕ) → ((j : ℕ) → j < k → slice_index ys j ≡ slice_index xs j)
        → (j : ℕ) → j < suc k → slice_index (y ∷ ys) j ≡ slice_index (x ∷ xs) j
    same q k s zero h = sym q
    same q k s (suc j) h = s j (omega arith)

-- what is least at each place is the least
pub least_of_places : (t : Task) (w : Frozen) → IsTask t → IsOne t w → ((p : ℕ) → IsPlace t p → NoneLess t p w)
    → IsLeast t w
least_of_places t w k one less = record {
  candidates = k.question.candidates;
  is_one = one;
  least = λ f o. not_after (code w) (code f) (length-code t w one ∙ sym (length-code t f o))
      (λ q b s. less q (let l = length-code t w one in omega arith) f o s);
}

-- ---- trails

-- longer than what is longer
pub longer_again : (a b c : List Step) → IsLonger a b → IsLonger b c → IsLonger a c
longer_again a b c l m = (l.0 ++ m.0, m.1 ∙ ap (λ x. x ++ m.0) l.1 ∙ append_assoc a l.0 m.0)

-- the same, under another name
pub longer_same : (a b c : List Step) → IsLonger a b → c ≡ b → IsLonger a c
longer_same a b c l e = (l.0, e ∙ l.1)

-- one decision more on an edge or a name
pub shaped_more : (t : Task) (old : List Step) (s : Step) → AreShaped t old → IsShaped t s.lit
    → AreShaped t (old ++ s ∷ [])
shaped_more t old s shaped is = All-append (λ (x : Step). is_decision x.reason ≡ true → IsShaped t x.lit) old (s ∷ [])
    shaped last
  where
    last : AreShaped t (s ∷ [])
    last zero d h = λ e. is
    last (suc k) d h = absurd (omega arith)
