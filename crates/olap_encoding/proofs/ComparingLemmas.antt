-- When a literal says that the number of a category's name compares so.
--     number_by_rung     where the first names do and no others, a rung of its ladder
--     number_by_names    else the names that do, or that don't
use Rattle.std.{proofs.Common.{◌≡◌, ◌↔◌, ◌<◌, ℕ, ℤ, Bool, cond, not, length, sym, subst}, specs.Prelude.IsTrue}
use Rattle.olap_ast.specs.{Formula.IsNumbered, Frozen.Candidates}
use Rattle.olap_numerals.specs.Comparing.{Op}
use Rattle.olap_pool.specs.{Literals.{Holds, negation}, declared.literals.Lit.Lit}
use Rattle.olap_names.specs.Names.{candidates_of}
use Rattle.olap_encoding.proofs.LadderLemmas.{index_in_range}
use Rattle.olap_encoding.proofs.NumberLemmas.{known_turned, number_leading, number_told, turned_is}
use Rattle.olap_encoding.specs.Encoding.{Encoding, IsSound, Says, UpToIs, categories_of}
use Rattle.olap_encoding.specs.{Formulas.{AmongIs, IsLeading, NumberIs}, Meanings.index_of}

module _ (e : Encoding) (t : IsSound e) (d : ℕ) (op : Op) (n : ℤ) (u : d < categories_of e.question) where
  abbrev k : Candidates
  k = candidates_of e.question.candidates

  pub number_by_rung : (l : Lit) (m : ℕ) → IsNumbered (k.first d) op n
      → IsLeading (k.texts d) op n (length (k.texts d)) m
      → Says e l (UpToIs d m) → Says e l (NumberIs d op n)
  number_by_rung l m p a s = record {
    known = s.known;
    exactly = λ f v h.
        let r = number_leading (k.first d) (k.texts d) op n m p a (index_of f d) (index_in_range e t f v h d u) in
        let x = s.exactly f v h in
        (λ i. r.0 (x.0 i), λ q. x.1 (r.1 q));
  }

  pub number_by_names : (b : Bool) (some l : Lit) → IsTrue b ↔ IsNumbered (k.first d) op n
      → Says e some (AmongIs d (length (k.texts d)) op n (not b)) → l ≡ cond b (negation some) some
      → Says e l (NumberIs d op n)
  number_by_names b some l first s q = record {
    known = known_turned e some l b q s.known;
    exactly = λ f v h.
        let w = number_told (k.first d) (k.texts d) (index_of f d) (index_in_range e t f v h d u) op n b first
        (Holds v some) (s.exactly f v h) in
        subst (λ i. Holds v i ↔ NumberIs d op n e.question f v) (sym q)
        (turned_is v some b (NumberIs d op n e.question f v) w);
  }
