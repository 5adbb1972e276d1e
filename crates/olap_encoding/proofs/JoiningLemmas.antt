-- Two formulas that are joined, by each connective.
use Rattle.std.{proofs.Common.{◌≡◌, Result, sym, subst}, specs.Prelude.IfOk}
use Rattle.olap_pool.specs.{Literals.negation, declared.literals.Lit.Lit}
use Rattle.olap_encoding.proofs.TellingLemmas.{tell_and, tell_or, tell_implies, tell_xor, tell_iff}
use Rattle.olap_encoding.specs.{Encoding.{Encoding, IsNext, Says, BothAre, EitherIs}, Formulas.{AnyIs, TellsAt}}
use Rattle.olap_encoding.specs.{Joining.{Joins, joined}, declared.formulas.Connective.Connective}
use Rattle.olap_encoding.specs.declared.formulas.Connective.TheVariants.{Conjunction, Disjunction, Implication, Equivalence, Exclusion}
use Rattle.olap_base.proofs.GeneralLemmas.{both_ok}

-- what joins by one connective joins by the same under another name
joins_as : {e : Encoding} {k m : Connective} {a b l : Lit} → k ≡ m → Joins e m a b l → Joins e k a b l
joins_as {e} {k} {m} {a} {b} {l} q j = λ c x y u w. subst (λ i. TellsAt e c l (joined i x y)) (sym q) (j c x y u w)

module _ {E : Type 0} (d e : Encoding) (a b : Lit) (r : Result Lit E) where
  joins_by : (k : Connective) (P : Lit → Type 0) → ((l : Lit) → IsNext d e → P l → Joins e k a b l)
      → IfOk r (λ _. IsNext d e) → IfOk r P → IfOk r (λ l. Joins e k a b l)
  joins_by k P f n s = both_ok r _ _ _ f n s

  pub joins_both : {k : Connective} → k ≡ Conjunction → IfOk r (λ _. IsNext d e) → IfOk r (λ l. Says e l (BothAre a b))
      → IfOk r (λ l. Joins e k a b l)
  joins_both {k} q n s = joins_by k (λ l. Says e l (BothAre a b))
      (λ l n s. joins_as q (λ c x y u w. tell_and e n.sound c l a b x y u w s)) n s

  pub joins_any : {k : Connective} → k ≡ Disjunction → IfOk r (λ _. IsNext d e) → IfOk r (λ l. Says e l (AnyIs a b))
      → IfOk r (λ l. Joins e k a b l)
  joins_any {k} q n s = joins_by k (λ l. Says e l (AnyIs a b))
      (λ l n s. joins_as q (λ c x y u w. tell_or e n.sound c l a b x y u w s)) n s

  pub joins_implied : {k : Connective} (m : Lit) → m ≡ negation a → k ≡ Implication → IfOk r (λ _. IsNext d e)
      → IfOk r (λ l. Says e l (AnyIs m b)) → IfOk r (λ l. Joins e k a b l)
  joins_implied {k} m z q n s = joins_by k (λ l. Says e l (AnyIs m b))
      (λ l n s. joins_as q (λ c x y u w. tell_implies e n.sound c l a b x y u w m z s)) n s

  pub joins_either : {k : Connective} → k ≡ Exclusion → IfOk r (λ _. IsNext d e) → IfOk r (λ l. Says e l (EitherIs a b))
      → IfOk r (λ l. Joins e k a b l)
  joins_either {k} q n s = joins_by k (λ l. Says e l (EitherIs a b))
      (λ l n s. joins_as q (λ c x y u w. tell_xor e n.sound c l a b x y u w s)) n s

-- the negation of an exclusive or joins two formulas as an equivalence
pub joins_neither : {d e : Encoding} {k : Connective} (a b o l : Lit) → l ≡ negation o → k ≡ Equivalence → IsNext d e
    → Says e o (EitherIs a b) → Joins e k a b l
joins_neither {d} {e} {k} a b o l z q n s = joins_as q (λ c x y u w. tell_iff e n.sound c o a b x y u w l z s)
