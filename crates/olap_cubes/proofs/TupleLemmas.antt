-- Tuples of categories that are read from words, one after the other.
--     numbers_compared categories are compared as their numbers are
use Rattle.std.proofs.Common.{◌≡◌, ◌+◌, ◌<◌, ℕ, suc, Bool, List, [], ◌∷◌, ◌++◌, Result, Ok, Err, length, get_or, drop, true, false, ap, refl, subst, sym, arith, ◌∙◌}
use Rattle.std.proofs.lemmas.List.{drop_more, length_push, Elements.{All-append, All-cons}}
use Rattle.std.{proofs.lemmas.Slice.Eq.bytes_eq-Decides, specs.Cmp.Lexicographic.pointwise, specs.List.list_any}
use Rattle.std.specs.{Prelude.{◌&&◌, All, Contains, codes, if◌then◌else◌, nat_eq}, Result.IsErrAnd}
use Rattle.olap_ast.{proofs.Shape.Distinct-push, specs.Schema.Schema, specs.Trees.numbers_of}
use Rattle.olap_base.{proofs.ListLemmas.{Distinct, list_any_is}, specs.declared.ids.CatId.CatId}
use Rattle.olap_cube_summ.specs.Dimensions.{AreCategoriesOf}
use Rattle.olap_order.{proofs.Replying.replies_no_memory, proofs.Stepping.ends_both, specs.Judged.Replies}
use Rattle.olap_order.specs.{Order.{Order, Done, and_then, refused}, Refusals.{IsOutOfMemory, IsRefusal}}
use Rattle.olap_order.specs.{Steps.fault_text, Taken.{NoAnswer, PlainStep}, declared.replies.Stop.Stop}
use Rattle.olap_cubes.specs.{Cut.{another_tuple, different_tuples_from}, Steps.tuple_word}
use Rattle.olap_order.specs.declared.replies.Stop.TheVariants as stops

-- categories are compared as their numbers are
pub numbers_compared : (xs ys : List CatId) → pointwise (λ (a b : CatId). nat_eq a.0 b.0) xs ys
    ≡ pointwise nat_eq (numbers_of xs) (numbers_of ys)
numbers_compared [] [] = refl
numbers_compared [] (y ∷ ys) = refl
numbers_compared (x ∷ xs) [] = refl
numbers_compared (x ∷ xs) (y ∷ ys) = ap (λ b. nat_eq x.0 y.0 && b) (numbers_compared xs ys)

module _ {T X : Type 0} {step : Order T} {meaning : X → T} where
  -- the code hands on why a step ended
  pub ended_plain : (result : Result X Stop) (stop : Stop) → IsErrAnd result (λ e. e ≡ stop)
      → Replies NoAnswer step (Err stop) → PlainStep step meaning result
  ended_plain (Ok x) stop is s = absurd is
  ended_plain (Err e) stop is s = record {
    comes_out = tt;
    ends = subst (λ e. Replies NoAnswer step (Err e)) (sym is) s;
  }

-- a step that reads nothing runs out of memory, as the code hands it on
pub plain_no_memory : {T X : Type 0} {step : Order T} {meaning : X → T} (result : Result X Stop)
    → IsErrAnd result IsOutOfMemory → PlainStep step meaning result
plain_no_memory (Ok x) is = absurd is
plain_no_memory (Err stop) is = record { comes_out = tt; ends = replies_no_memory (Err stop) is }

-- what is refused is refused
refused_so : {T : Type 0} (why : List ℕ) (stop : Stop) → IsRefusal why stop
    → Replies NoAnswer (refused {Q = T} why) (Err stop)
refused_so why (stops.Refused bytes) is = record {
  right = λ files. (refl, is);
  verdict = tt;
  unread = λ e. absurd (cc);
}
refused_so why stops.Read is = absurd is
refused_so why (stops.Memory m) is = record { right = tt; verdict = tt; unread = λ e. absurd (cc) }

-- a step that is refused
pub plain_refused : {T X : Type 0} {meaning : X → T} (step : Order T) (why : List ℕ) (stop : Stop)
    → step ≡ refused why → IsRefusal why stop → PlainStep step meaning (Err stop)
plain_refused step why stop e is = record {
  comes_out = tt;
  ends = subst (λ o. Replies NoAnswer o (Err stop)) (sym e) (refused_so why stop is);
}

-- a word that names a tuple of categories: it is taken, unless it is one of those before it
pub another_is : (schemas : List Schema) (at : ℕ) (earlier : List (List ℕ)) (word c : List ℕ) (b : Bool)
    → tuple_word schemas at word ≡ Done c → list_any (λ d. pointwise nat_eq d c) earlier ≡ b
    → another_tuple schemas at earlier word
    ≡ (if b then refused (fault_text (codes "word") at (codes "DuplicateSource")) else Done c)
another_is schemas at earlier word c b named is =
    ap (λ o. and_then o (λ c. if list_any (λ d. pointwise nat_eq d c) earlier
    then refused (fault_text (codes "word") at (codes "DuplicateSource")) else Done c)) named
    ∙ ap (λ h. if h then refused (fault_text (codes "word") at (codes "DuplicateSource")) else Done c) is

-- a tuple that isn't found in a list isn't in it
not_among : (tuples : List (List ℕ)) (c : List ℕ) → list_any (λ d. pointwise nat_eq d c) tuples ≡ false
    → Contains tuples c → ⊥
not_among tuples c e h =
    let found : list_any (λ d. pointwise nat_eq d c) tuples ≡ true =
    (list_any_is (λ d. pointwise nat_eq d c) tuples).1 (c, h, (bytes_eq-Decides c c).1 refl) in
    absurd (let q : true ≡ false = sym found ∙ e in cc)

module _ (schemas : List Schema) (at : ℕ) (words : List (List ℕ)) where
  -- the order of all the words is that of those that are left, after the tuples that were read
  pub record AreNamedUpTo (k : ℕ) (tuples : List (List ℕ)) : Type 0 where
    pub order : different_tuples_from schemas at [] words ≡ different_tuples_from schemas (at + k) tuples (drop k words)
    pub each : length tuples ≡ k
    pub categories : All (AreCategoriesOf schemas) tuples
    pub differ : Distinct tuples

  -- from one word on: the order of this word's tuple, and of the words after it
  from_word : (k : ℕ) (tuples : List (List ℕ)) → k < length words → AreNamedUpTo k tuples
      → different_tuples_from schemas at [] words ≡ and_then (another_tuple schemas (at + k) tuples (get_or words k []))
      (λ c. different_tuples_from schemas (suc (at + k)) (tuples ++ c ∷ []) (drop (k + 1) words))
  from_word k tuples h r = r.order
      ∙ ap (λ ws. different_tuples_from schemas (at + k) tuples ws) (drop_more words k [] h)

  -- one word more, whose tuple is none of those before it
  pub word_more : (k : ℕ) (tuples all : List (List ℕ)) (c : List ℕ) → k < length words → AreNamedUpTo k tuples
      → another_tuple schemas (at + k) tuples (get_or words k []) ≡ Done c
      → AreCategoriesOf schemas c → list_any (λ d. pointwise nat_eq d c) tuples ≡ false → all ≡ tuples ++ c ∷ []
      → AreNamedUpTo (k + 1) all
  word_more k tuples all c h r goes categories fresh e = subst (AreNamedUpTo (k + 1)) (sym e) (record {
    order = from_word k tuples h r
        ∙ ap (λ o. and_then o
        (λ d. different_tuples_from schemas (suc (at + k)) (tuples ++ d ∷ []) (drop (k + 1) words))) goes
        ∙ (let p : suc (at + k) ≡ at + (k + 1) = omega arith in
        ap (λ n. different_tuples_from schemas n (tuples ++ c ∷ []) (drop (k + 1) words)) p);
    each = length_push tuples c ∙ ap (λ n. n + 1) r.each;
    categories = All-append (AreCategoriesOf schemas) tuples (c ∷ []) r.categories
        (All-cons (AreCategoriesOf schemas) c [] categories (λ j d l. absurd (omega arith)));
    differ = Distinct-push tuples c r.differ (not_among tuples c fresh);
  })

  -- where a word isn't taken, the order ends as it does there
  pub word_ends : (k : ℕ) (tuples : List (List ℕ)) (stop : Stop) → k < length words → AreNamedUpTo k tuples
      → Replies NoAnswer (another_tuple schemas (at + k) tuples (get_or words k [])) (Err stop)
      → Replies NoAnswer (different_tuples_from schemas at [] words) (Err stop)
  word_ends k tuples stop h r ends = subst (λ o. Replies NoAnswer o (Err stop)) (sym (from_word k tuples h r))
      (ends_both ends (λ c. different_tuples_from schemas (suc (at + k)) (tuples ++ c ∷ []) (drop (k + 1) words)))
