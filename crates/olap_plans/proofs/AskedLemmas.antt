-- Each question that an order of this family comes to is about a valid schema, or a size that may be asked for.
use Rattle.std.proofs.Common.{◌≡◌, ℕ, List, Bool, true, false, cond, Option, None, Some, refl, subst, arith}
use Rattle.std.proofs.lemmas.Bool.Decides.{nat_tests}
use Rattle.std.specs.{Prelude.{◌≤◌, ◌&&◌, codes, if◌then◌else◌, nat_le, option_and_then}, Str.bytes_eq}
use Rattle.olap_base.{proofs.ListLemmas.{first_true, second_true}, specs.Limits.most_generated}
use Rattle.olap_order.proofs.Coming.{Comes, MayCome, asked, may_either, may_exactly, no_order, pass, then_comes, there}
use Rattle.olap_order.{proofs.ComingSteps.under_schema, specs.Arguments.{exactly, word}, specs.Order.{Done, and_then}}
use Rattle.olap_order.specs.Steps.{category_word, fault_text, number_word}
use Rattle.olap_plans.specs.{Commands.{answer_order, generate_order, order_named}, Existing.IsAsked}
use Rattle.olap_plans.specs.{Numbers.{number_of, size_of}, Questions.{ByGenerated, ByPlan}}
use Rattle.olap_plans.specs.Under.{answer_of, answer_under}
use Rattle.olap_reading.specs.Steps.{legal_file, store_file}
use Rattle.olap_schema_text.specs.Laws.{ReadSchemasAreReadable}

-- a number that may be asked for
abbrev is_size : ℕ → Bool
is_size n = nat_le 1 n && nat_le n most_generated

-- a number that is a size may be asked for
is_one : (m n : ℕ) → cond (is_size m) (Some m) None ≡ Some n → (1 ≤ n) × (n ≤ most_generated)
is_one m n e = go (is_size m) refl e
  where
    at_least : (a b : ℕ) → nat_le a b ≡ true → a ≤ b
    at_least a b t = grind (arith, nat_tests)

    go : (b : Bool) → is_size m ≡ b → cond b (Some m) None ≡ Some n → (1 ≤ n) × (n ≤ most_generated)
    go true t q =
        let z : m ≡ n = cc in
        let x = at_least 1 m (first_true (nat_le 1 m) (nat_le m most_generated) t) in
        let y = at_least m most_generated (second_true (nat_le 1 m) (nat_le m most_generated) t) in
        subst (λ k. (1 ≤ k) × (k ≤ most_generated)) z (x, y)
    go false t q = absurd (cc)

-- so is a size that is spelled
size_is : (o : Option ℕ) (n : ℕ) → option_and_then (λ m. if is_size m then Some m else None) o ≡ Some n
    → (1 ≤ n) × (n ≤ most_generated)
size_is None n e = absurd (cc)
size_is (Some m) n e = is_one m n e

-- the question of `generate` is about a size within the limits
of_generate : (words : List (List ℕ)) → Comes IsAsked (generate_order words)
of_generate words = pass IsAsked (number_word number_of 2 (word 2 words)) (λ q.
    and_then (number_word size_of 3 (word 3 words)) (λ n. Done (ByGenerated q n))) (λ q.
    then_comes (λ n. (1 ≤ n) × (n ≤ most_generated)) IsAsked (number_word size_of 3 (word 3 words))
    (λ n. Done (ByGenerated q n))
    (there (λ n. (1 ≤ n) × (n ≤ most_generated)) (size_of (word 3 words))
    (fault_text (codes "word") 3 (codes "BadNumber"))
    (λ n e. size_is (number_of (word 3 words)) n e)) (λ n t. asked IsAsked (ByGenerated q n) t))

module _ (readable : ReadSchemasAreReadable) where
  of_answer : (words : List (List ℕ)) → Comes IsAsked (answer_order words)
  of_answer words =
      let instance = word 3 words in
      let store = word 4 words in
      let target = word 5 words in
      under_schema readable IsAsked (codes "schema") (word 2 words) (λ s. answer_under s instance store target) (λ s v.
      pass IsAsked (category_word s.graph 5 target) (λ c.
      and_then (legal_file s (codes "instance") instance) (λ i. answer_of s i store c)) (λ c.
      pass IsAsked (legal_file s (codes "instance") instance) (λ i. answer_of s i store c) (λ i.
      pass IsAsked (store_file s i (codes "store") store) (λ views. Done (ByPlan s i views c)) (λ views.
      asked IsAsked (ByPlan s i views c) v.valid))))

  -- of whatever words
  pub asked_named : (name : List ℕ) (words : List (List ℕ)) → MayCome IsAsked (order_named name words)
  asked_named name words =
      may_either IsAsked (bytes_eq name (codes "answer")) (exactly 4 answer_order words)
      (if bytes_eq name (codes "generate") then exactly 2 generate_order words else None)
      (may_exactly IsAsked 4 answer_order words (of_answer words))
      (may_either IsAsked (bytes_eq name (codes "generate")) (exactly 2 generate_order words) None
      (may_exactly IsAsked 2 generate_order words (of_generate words)) (no_order IsAsked))
