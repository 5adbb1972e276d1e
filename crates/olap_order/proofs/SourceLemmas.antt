-- Categories that are read from words, one after the other.
--     IsReadTo     the order of all the words is that of those that are left, after the categories that were read
use Rattle.std.proofs.Common.{◌≡◌, ℕ, suc, ◌+◌, ◌<◌, ◌≤◌, List, [], ◌∷◌, ◌++◌, length, get_or, drop, true, false, ◌||◌, refl, Result, Ok, Err, ap, sym, subst, ◌∙◌, arith}
use Rattle.std.proofs.lemmas.{Bool.Decides.nat_tests, List.{drop_all, drop_more, get_or-map}}
use Rattle.std.{proofs.lemmas.List.Elements.{All-append, All-cons}, specs.List.list_any}
use Rattle.std.specs.{Prelude.{All, Contains, IsErrAnd, ◌==◌}, String.string_bytes, declared.alloc.Global.Global}
use Rattle.std.specs.declared.string.String.{String}
use Rattle.olap_base.{proofs.ListLemmas.{Distinct, list_any_is}, specs.Graph.{Graph, IsCategory}}
use Rattle.olap_base.specs.declared.ids.CatId.{CatId}
use Rattle.olap_ast.{proofs.Shape.Distinct-push, specs.Trees.numbers_of}
use Rattle.olap_order.{proofs.Stepping.ends_both, specs.Behind.{another_category, categories_from}}
use Rattle.olap_order.specs.{Judged.Replies, Order.{Order, Done, and_then}, Taken.{NoAnswer, PlainStep}, Words.texts}
use Rattle.olap_order.specs.declared.replies.Stop.{Stop}

-- what is found among numbered things is found among their numbers
pub among_numbers : (xs : List CatId) (c : ℕ) →
    list_any (λ (x : CatId). x.0 == c) xs ≡ list_any (λ d. d == c) (numbers_of xs)
among_numbers [] c = refl
among_numbers (x ∷ xs) c = ap (λ b. (x.0 == c) || b) (among_numbers xs c)

-- the bytes of a word
pub word_is : (words : List (String Global)) (k : ℕ) (word : String Global) → k < length words
    → word ≡ get_or words k word → string_bytes word ≡ get_or (texts words) k []
word_is words k word h e = ap string_bytes e ∙ sym (get_or-map string_bytes words k word [] h)

-- a number that isn't found in a list isn't in it
pub not_among : (xs : List ℕ) (c : ℕ) → list_any (λ d. d == c) xs ≡ false → Contains xs c → ⊥
not_among xs c e h =
    let t : list_any (λ d. d == c) xs ≡ true = (list_any_is (λ d. d == c) xs).1 (c, h, same c) in
    absurd (let q : true ≡ false = sym t ∙ e in cc)
  where
    same : (n : ℕ) → n == n ≡ true
    same n = grind (arith, nat_tests)

module _ (twice : List ℕ) (g : Graph) (at : ℕ) (names : List (List ℕ)) where
  pub record IsReadTo (k : ℕ) (sources : List ℕ) : Type 0 where
    pub order : categories_from twice g at [] names ≡ categories_from twice g (at + k) sources (drop k names)
    pub categories : All (IsCategory g) sources
    pub differ : Distinct sources

  -- with one word more to read, the order is that of this word's category
  at_word : (k : ℕ) (sources : List ℕ) → k < length names → IsReadTo k sources
      → categories_from twice g at [] names ≡ and_then (another_category twice g (at + k) sources (get_or names k []))
      (λ c. categories_from twice g (suc (at + k)) (sources ++ c ∷ []) (drop (k + 1) names))
  at_word k sources h r = r.order
      ∙ ap (λ ns. categories_from twice g (at + k) sources ns) (drop_more names k [] h)

  pub read_none : IsReadTo 0 []
  read_none = record {
    order = let e : at ≡ at + 0 = omega arith in ap (λ n. categories_from twice g n [] names) e;
    categories = λ k d l. absurd (omega arith);
    differ = tt;
  }

  pub read_more : (k : ℕ) (sources new : List ℕ) (c : ℕ) → k < length names → IsReadTo k sources
      → another_category twice g (at + k) sources (get_or names k []) ≡ Done c
      → IsCategory g c → list_any (λ d. d == c) sources ≡ false → new ≡ sources ++ c ∷ [] → IsReadTo (k + 1) new
  read_more k sources new c h r goes category fresh e = record {
    order = at_word k sources h r
        ∙ ap (λ o. and_then o
        (λ d. categories_from twice g (suc (at + k)) (sources ++ d ∷ []) (drop (k + 1) names))) goes
        ∙ ap (λ xs. categories_from twice g (suc (at + k)) xs (drop (k + 1) names)) (sym e)
        ∙ (let p : suc (at + k) ≡ at + (k + 1) = omega arith in
        ap (λ n. categories_from twice g n new (drop (k + 1) names)) p);
    categories = subst (All (IsCategory g)) (sym e) (All-append (IsCategory g) sources (c ∷ []) r.categories
        (All-cons (IsCategory g) c [] category (λ j d l. absurd (omega arith))));
    differ = subst Distinct (sym e) (Distinct-push sources c r.differ (not_among sources c fresh));
  }

  -- all words are read
  pub read_all : (k : ℕ) (sources : List ℕ) → length names ≤ k → IsReadTo k sources
      → categories_from twice g at [] names ≡ Done sources
  read_all k sources h r = r.order ∙ ap (λ ns. categories_from twice g (at + k) sources ns) (drop_all k names h)

  -- where a word isn't taken, the order ends as it does there
  pub ends_at : (k : ℕ) (sources : List ℕ) (stop : Stop) → k < length names → IsReadTo k sources
      → Replies NoAnswer (another_category twice g (at + k) sources (get_or names k [])) (Err stop)
      → Replies NoAnswer (categories_from twice g at [] names) (Err stop)
  ends_at k sources stop h r ends = subst (λ o. Replies NoAnswer o (Err stop)) (sym (at_word k sources h r))
      (ends_both ends (λ c. categories_from twice g (suc (at + k)) (sources ++ c ∷ []) (drop (k + 1) names)))

-- a step that isn't taken ends as its result does
pub plain_ends : {T X : Type 0} {step : Order T} {meaning : X → T} (stop : Stop)
    (result : Result X Stop) → IsErrAnd result (λ e. e ≡ stop)
    → Replies NoAnswer step (Err stop) → PlainStep step meaning result
plain_ends stop (Ok x) is f = absurd is
plain_ends {step = step} stop (Err e) is f = record {
  comes_out = tt;
  ends = subst (λ z. Replies NoAnswer step (Err z)) (sym is) f;
}
