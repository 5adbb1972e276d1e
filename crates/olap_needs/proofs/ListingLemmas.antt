-- The bottom categories that need a constraint, one category after another.
use Rattle.std.proofs.Common.{◌≡◌, ◌∙◌, ◌⊎◌, ◌↔◌, ℕ, ◌+◌, ◌<◌, Bool, true, false, true≢false, List, [], ◌∷◌, ◌++◌, append-nil, get_or, map, refl, ap, sym, subst, inl, inr, arith}
use Rattle.std.proofs.lemmas.List.{map-append}
use Rattle.std.proofs.lemmas.List.Elements.{Contains-append_cases, Contains-append_left, Contains-append_right, Contains-get_or}
use Rattle.std.{proofs.lemmas.List.Quantifiers.all_pairs_push, specs.Prelude.{Contains, IsTrue, if◌then◌else◌}}
use Rattle.olap_base.{proofs.ListLemmas.{Contains-nil, contains_head}, specs.Deciding.contains_cases}
use Rattle.olap_base.specs.{Graph.category_count, declared.ids.CatId.CatId}
use Rattle.olap_ast.specs.{Formula.Formula.Not, Questions.IsImplied, Schema.Schema}
use Rattle.olap_ast.specs.{Trees.{constraint_of, formula_of, numbers_of}, declared.formulas.Constraint.Constraint}
use Rattle.olap_needs.specs.{Laws.NeedsLeaveMembers, Listing.{AreBelow, IsLost, ListsBelow, ListsNeeded}}
use Rattle.olap_needs.specs.{Needs.{AreAscending, AreNeeded, IsNeeded, by_one, need}, declared.needing.Needs.Needs}

module _ (P : ℕ → Type 0) where
  -- none are below 0
  pub none_below : AreBelow P 0 []
  none_below = record {
    ordered = λ i j d below inside. absurd (omega arith);
    below = λ b k. absurd (Contains-nil b k);
    sound = λ b k. absurd (Contains-nil b k);
    complete = λ b l p. absurd (omega (arith, l));
  }

  -- below k or k
  which : (b k : ℕ) → b < k + 1 → (b < k) ⊎ (b ≡ k)
  which b k h = grind arith

  -- a number of which it doesn't hold
  pub skipped : (k : ℕ) (bs : List ℕ) → AreBelow P k bs → (P k → ⊥) → AreBelow P (k + 1) bs
  skipped k bs l n = record {
    ordered = l.ordered;
    below = λ b h. let t = l.below b h in omega arith;
    sound = l.sound;
    complete = λ b h p. elim (which b k h) [ inl t ↦ l.complete b t p | inr e ↦ absurd (n (subst P e p)) ];
  }

  -- one of which it holds
  pub pushed : (k : ℕ) (bs : List ℕ) → AreBelow P k bs → P k → AreBelow P (k + 1) (bs ++ k ∷ [])
  pushed k bs l p = record {
    ordered = all_pairs_push ◌<◌ bs k l.ordered (λ j d w. l.below (get_or bs j d) (Contains-get_or bs j d w));
    below = λ b h. elim (Contains-append_cases bs (k ∷ []) b h) [
      | inl t ↦ let u = l.below b t in omega arith
      | inr t ↦ let q : b ≡ k = only b t in omega arith
    ];
    sound = λ b h. elim (Contains-append_cases bs (k ∷ []) b h) [
      | inl t ↦ l.sound b t
      | inr t ↦ subst P (sym (only b t)) p
    ];
    complete = λ b h q. elim (which b k h) [
      | inl t ↦ Contains-append_left bs (k ∷ []) b (l.complete b t q)
      | inr e ↦ subst (λ w. Contains (bs ++ k ∷ []) w) (sym e)
          (Contains-append_right bs (k ∷ []) k (contains_head k []))
    ];
  }
    where
      only : (b : ℕ) → Contains (k ∷ []) b → b ≡ k
      only b t = elim (contains_cases b k [] t) [ inl q ↦ sym q | inr h ↦ absurd (Contains-nil b h) ]

  -- all of them
  pub all_below : (k : ℕ) (bs : List ℕ) → AreBelow P k bs → ((b : ℕ) → P b → b < k) → AreAscending P bs
  all_below k bs l few = record {
    ordered = l.ordered;
    sound = l.sound;
    complete = λ b p. l.complete b (few b p) p;
  }

module _ (s : Schema) (c : ℕ) (sources : List ℕ) where
  -- none so far
  pub none_listed : (needs : Needs) → needs.constraints.items ≡ [] → needs.emptied.items ≡ []
      → ListsBelow s c sources 0 needs
  none_listed needs e f = record {
    bottoms = [];
    are = none_below (IsNeeded s c sources);
    same = ap (map constraint_of) e;
    lost = subst (AreBelow (IsLost s c sources) 0) (sym (ap numbers_of f)) (none_below (IsLost s c sources));
  }

  -- a category that needs none
  pub none_added : (k : ℕ) (needs : Needs) → (IsNeeded s c sources k → ⊥) → ListsBelow s c sources k needs
      → ListsBelow s c sources (k + 1) needs
  none_added k needs n l = record {
    bottoms = l.bottoms;
    are = skipped (IsNeeded s c sources) k l.bottoms l.are n;
    same = l.same;
    lost = skipped (IsLost s c sources) k (numbers_of needs.emptied.items) l.lost (λ h. n h.0);
  }

  -- the constraint of one that needs one
  constraint_more : (k : ℕ) (old new : Needs) (d : Constraint) → constraint_of d ≡ need c sources k
      → new.constraints.items ≡ old.constraints.items ++ d ∷ [] → (bottoms : List ℕ)
      → map constraint_of old.constraints.items ≡ map (need c sources) bottoms
      → map constraint_of new.constraints.items ≡ map (need c sources) (bottoms ++ k ∷ [])
  constraint_more k old new d is items bottoms same = ap (map constraint_of) items
      ∙ map-append constraint_of old.constraints.items (d ∷ []) ∙ ap (λ xs. xs ++ constraint_of d ∷ []) same
      ∙ ap (λ w. map (need c sources) bottoms ++ w ∷ []) is ∙ sym (map-append (need c sources) bottoms (k ∷ []))

  -- the lost ones, with this one if no member of it meets its constraint
  lost_more : (k : ℕ) (old new : List CatId) (b : CatId) (is : Bool) → b.0 ≡ k → IsNeeded s c sources k
      → (IsTrue is ↔ IsImplied s k (Not (by_one c sources))) → new ≡ old ++ (if is then b ∷ [] else [])
      → AreBelow (IsLost s c sources) k (numbers_of old) → AreBelow (IsLost s c sources) (k + 1) (numbers_of new)
  lost_more k old new b true e needed truth items l =
      let more : numbers_of new ≡ numbers_of old ++ k ∷ [] = ap numbers_of items
      ∙ map-append (λ (x : CatId). x.0) old (b ∷ []) ∙ ap (λ n. numbers_of old ++ n ∷ []) e in
      subst (AreBelow (IsLost s c sources) (k + 1)) (sym more)
      (pushed (IsLost s c sources) k (numbers_of old) l (needed, truth.0 refl))
  lost_more k old new b false e needed truth items l =
      subst (AreBelow (IsLost s c sources) (k + 1)) (sym (ap numbers_of (items ∙ append-nil old)))
      (skipped (IsLost s c sources) k (numbers_of old) l (λ p. true≢false (sym (truth.1 p.1))))

  -- one that needs a constraint
  pub added : (k : ℕ) (old new : Needs) (d : Constraint) (b : CatId) (is : Bool) → b.0 ≡ k → d.root.0 ≡ k
      → formula_of d.formula ≡ by_one c sources → IsNeeded s c sources k
      → (IsTrue is ↔ IsImplied s k (Not (by_one c sources)))
      → new.emptied.items ≡ old.emptied.items ++ (if is then b ∷ [] else [])
      → new.constraints.items ≡ old.constraints.items ++ d ∷ []
      → ListsBelow s c sources k old → ListsBelow s c sources (k + 1) new
  added k old new d b is e root formula needed truth emptied items l = record {
    bottoms = l.bottoms ++ k ∷ [];
    are = pushed (IsNeeded s c sources) k l.bottoms l.are needed;
    same = constraint_more k old new d (λ i. record { root = root i; formula = formula i }) items l.bottoms l.same;
    lost = lost_more k old.emptied.items new.emptied.items b is e needed truth emptied l.lost;
  }

  -- all of them
  pub all_listed : NeedsLeaveMembers → (k : ℕ) (needs : Needs) → category_count s.graph ≡ k
      → ListsBelow s c sources k needs → ListsNeeded s c sources needs
  all_listed leave k needs e l = record {
    bottoms = l.bottoms;
    are = are;
    same = l.same;
    emptied = record {
      ordered = lost.ordered;
      sound = λ b h. let p = lost.sound b h in (
        are.complete b p.0,
        (leave s c sources l.bottoms are b p.0.0).1 (λ i legal x m holds. p.1 i legal x m holds),
      );
      complete = λ b h. let p = are.sound b h.0 in lost.complete b (
        p,
        λ i legal x m holds. (leave s c sources l.bottoms are b p.0).0 h.1 i legal x m holds,
      );
    };
  }
    where
      few : (b : ℕ) → IsNeeded s c sources b → b < k
      few b p = let t = p.0.0.1 in omega arith

      are : AreNeeded s c sources l.bottoms
      are = all_below (IsNeeded s c sources) k l.bottoms l.are few

      lost : AreAscending (IsLost s c sources) (numbers_of needs.emptied.items)
      lost = all_below (IsLost s c sources) k (numbers_of needs.emptied.items) l.lost (λ b p. few b p.0)
