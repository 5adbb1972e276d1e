-- A table to which lots are joined.
use Rattle.std.proofs.Common.{◌≡◌, ◌≢◌, ◌+◌, ◌<◌, ◌≤◌, ℕ, List, [], ◌∷◌, ◌++◌, length, get_or, take, map, Bool, true, false, cond, refl, sym, ap, subst, ◌∙◌, inl, inr, Option, Some, None, arith}
use Rattle.std.proofs.lemmas.Bool.{false_from_ne_true, eqb-true, ne_eqb, Decides.nat_tests}
use Rattle.std.proofs.lemmas.List.{get_or_default, take_more, Elements.{All-contains, All-map, All-weaker}}
use Rattle.std.specs.Prelude.{All, AllPairs, Contains, ◌==◌, Ok}
use Rattle.olap_base.proofs.{GeneralLemmas.below_or_same, ViewLemmas.members_of_is}
use Rattle.olap_base.specs.{Instance.{Instance, ReachesCategory, category_of}, Reaching.{reaches, reaches_is}}
use Rattle.olap_base.specs.{Summaries.{Summary, ◌⊕◌}, Views.{Fact, total_of_facts, members}}
use Rattle.olap_legal.specs.Ancestors.{IsAncestor}
use Rattle.olap_view.{proofs.FileOrderLemmas.view_by, specs.Seen.summary_of}
use Rattle.olap_view.specs.{SummaryTables.{Summarized, stands_at, view_at, views_at}, Tables.{IsAmong, when}}
use Rattle.olap_delta.proofs.{ChangingLemmas.{IsPut, among}, JoinedRowLemmas.{admits_nothing, nothing_more, together}}
use Rattle.olap_delta.proofs.{JoiningLemmas.{all_taken, views_alike}, LotLemmas.{lots_at-append, members_in}}
use Rattle.olap_delta.specs.{Changing.{AreStorable, step_of}, FactByFact.facts_changed}
use Rattle.olap_delta.specs.Joining.{Admits, AreJoined, IsJoined, IsJoinedIn, IsOnce, changed_by}
use Rattle.olap_delta.specs.{Lots.{StandFor, lots_at}, declared.changes.Change.Change, declared.lots.Lot.Lot}
use Rattle.olap_delta.specs.declared.lots.Lots.{Lots}

-- ---- one lot in one category

module _ (i : Instance) (c x : ℕ) where
  -- what has one ancestor in c reaches one member of c at most
  pub once_some : (y : ℕ) → IsAncestor i x c y → IsOnce i c x
  once_some y a = λ v w k l r s.
      a.only v (members_of_is i c v k) ((reaches_is i x v).0 r)
      ∙ sym (a.only w (members_of_is i c w l) ((reaches_is i x w).0 s))

  -- so does what reaches none
  pub once_none : (ReachesCategory i x c → ⊥) → IsOnce i c x
  once_none n = λ v w k l r s. absurd (n (v, members_of_is i c v k, (reaches_is i x v).0 r))

module _ (change : Change) (c x : ℕ) (s : Summary) (old : Summarized) where
  -- a row that a lot doesn't reach stays
  unreached : (y : ℕ) (after : Option Summary) → reaches old.instance x y ≡ false → after ≡ stands_at old y
      → IsJoined change (stands_at old y) (when (reaches old.instance x y) s) after
  unreached y after r e = subst (λ b. IsJoined change (stands_at old y) (when b s) after) (sym r)
      (record {
        admits = admits_nothing change (stands_at old y);
        is = e ∙ sym (nothing_more change (stands_at old y));
      })

  -- a lot that reaches no member of c leaves the table as it is
  pub joined_none : (ReachesCategory old.instance x c → ⊥)
      → IsJoinedIn change c (λ y. when (reaches old.instance x y) s) old old
  joined_none n = record {
    at = λ y m e. unreached y (stands_at old y) (false_from_ne_true (reaches old.instance x y) (λ r.
        n (y, (m.member, e), (reaches_is old.instance x y).0 r))) refl;
    others = λ y m e. refl;
  }

  -- a lot that reaches y changes the row of y, and no other
  pub joined_some : (y : ℕ) → IsAncestor old.instance x c y → (t : Summary) (new : Summarized) → IsPut y t old new
      → IsJoined change (stands_at old y) (Some s) (Some t)
      → IsJoinedIn change c (λ z. when (reaches old.instance x z) s) old new
  joined_some y a t new p j = record {
    at = λ z m e. go z m e (z == y) refl;
    others = λ z m n. p.at z m
        ∙ ap (λ b. cond b (Some t) (stands_at old z))
        (ne_eqb z y (λ e. n (ap (category_of old.instance) e ∙ a.is_member.1)));
  }
    where
      go : (z : ℕ) → IsAmong old.instance old.categories z → category_of old.instance z ≡ c → (b : Bool) → (z == y) ≡ b
          → IsJoined change (stands_at old z) (when (reaches old.instance x z) s) (stands_at new z)
      go z m e true q =
          let same = eqb-true z y q in
          let r : reaches old.instance x z ≡ true =
          subst (λ w. reaches old.instance x w ≡ true) (sym same) ((reaches_is old.instance x y).1 a.reached) in
          subst (λ o. IsJoined change (stands_at old z) (when (reaches old.instance x z) s) o)
          (sym (p.at z m ∙ ap (λ b. cond b (Some t) (stands_at old z)) q))
          (subst (λ b. IsJoined change (stands_at old z) (when b s) (Some t)) (sym r)
          (subst (λ w. IsJoined change (stands_at old w) (Some s) (Some t)) (sym same) j))
      go z m e false q = unreached z (stands_at new z)
          (false_from_ne_true (reaches old.instance x z) (λ r.
          let same = a.only z (m.member, e) ((reaches_is old.instance x z).0 r) in differ z same q))
          (p.at z m ∙ ap (λ b. cond b (Some t) (stands_at old z)) q)
        where
          differ : (z : ℕ) → z ≡ y → (z == y) ≡ false → ⊥
          differ z e q = grind (arith, nat_tests)

-- ---- lot by lot

-- a member is among those of a table that kept its instance and categories
still_among : (old new : Summarized) → new.instance ≡ old.instance → new.categories ≡ old.categories → (y : ℕ)
    → IsAmong old.instance old.categories y → IsAmong new.instance new.categories y
still_among old new e g y m = subst (λ (i : Instance). IsAmong i new.categories y) (sym e)
    (subst (λ (cs : List ℕ). IsAmong old.instance cs y) (sym g) m)

module _ (change : Change) (c : ℕ) (old between : Summarized) where
  -- before the first lot nothing came
  pub joined_start : IsJoinedIn change c (λ y. None) old old
  joined_start = record {
    at = λ y m e. record {
      admits = admits_nothing change (stands_at old y);
      is = sym (nothing_more change (stands_at old y));
    };
    others = λ y m e. refl;
  }

  -- some values, and then others
  joined_more : (some more : ℕ → Option Summary) (new : Summarized) → between.instance ≡ old.instance
      → between.categories ≡ old.categories → IsJoinedIn change c some old between
      → IsJoinedIn change c more between new → IsJoinedIn change c (λ y. some y ⊕ more y) old new
  joined_more some more new e g p q = record {
    at = λ y m k.
        let a = p.at y m k in
        let b = q.at y (still_among old between e g y m) (ap (λ (i : Instance). category_of i y) e ∙ k) in
        let t = together change (stands_at old y) (some y) (more y) a.admits
        (subst (λ o. Admits change o (more y)) a.is b.admits) in
        record { admits = t.0; is = b.is ∙ ap (λ o. changed_by change o (more y)) a.is ∙ t.1 };
    others = λ y m n. q.others y (still_among old between e g y m)
        (λ k. n (sym (ap (λ (i : Instance). category_of i y) e) ∙ k))
        ∙ p.others y m n;
  }

  -- the same values at each member do the same
  alike : (some others : ℕ → Option Summary) (new : Summarized) → ((y : ℕ) → some y ≡ others y)
      → IsJoinedIn change c some old new → IsJoinedIn change c others old new
  alike some others new e p = record {
    at = λ y m k. subst (λ o. IsJoined change (stands_at old y) o (stands_at new y)) (e y) (p.at y m k);
    others = p.others;
  }

  -- one lot more
  pub joined_next : (lots : List Lot) (k : ℕ) (l : Lot) (new : Summarized) → k < length lots → l ≡ get_or lots k l
      → between.instance ≡ old.instance → between.categories ≡ old.categories
      → IsJoinedIn change c (lots_at old.instance (take k lots)) old between
      → IsJoinedIn change c (λ y. when (reaches between.instance l.member.0 y) (summary_of l.summary)) between new
      → IsJoinedIn change c (lots_at old.instance (take (k + 1) lots)) old new
  joined_next lots k l new h is e g p q =
      alike
      (λ y. lots_at old.instance (take k lots) y
      ⊕ when (reaches between.instance l.member.0 y) (summary_of l.summary))
      (lots_at old.instance (take (k + 1) lots)) new (λ y.
      ap (λ (i : Instance). lots_at old.instance (take k lots) y
      ⊕ when (reaches i l.member.0 y) (summary_of l.summary)) e
      ∙ sym (lots_at-append old.instance y (take k lots) l)
      ∙ ap (λ (d : Lot). lots_at old.instance (take k lots ++ d ∷ []) y) is
      ∙ sym (ap (λ (ls : List Lot). lots_at old.instance ls y) (take_more lots k l h)))
      (joined_more (lots_at old.instance (take k lots))
      (λ y. when (reaches between.instance l.member.0 y) (summary_of l.summary)) new e g p q)

-- ---- category by category

-- the lots are joined in the first k categories, and not in the others
pub record IsSoFar (change : Change) (lots : List Lot) (k : ℕ) (old now : Summarized) : Type 0 where
  pub instance : now.instance ≡ old.instance
  pub categories : now.categories ≡ old.categories
  pub storable : AreStorable now
  pub once : (j : ℕ) → j < k → All (λ l. IsOnce old.instance (get_or old.categories j 0) l.member.0) lots
  pub done : (j : ℕ) → j < k → (y : ℕ) → IsAmong old.instance old.categories y
      → category_of old.instance y ≡ get_or old.categories j 0
      → IsJoined change (stands_at old y) (lots_at old.instance lots y) (stands_at now y)
  pub rest : (y : ℕ) → IsAmong old.instance old.categories y
      → ((j : ℕ) → j < k → category_of old.instance y ≢ get_or old.categories j 0) → stands_at now y ≡ stands_at old y

-- no category is done yet
pub so_far_start : (change : Change) (lots : List Lot) (old : Summarized) → AreStorable old
    → IsSoFar change lots 0 old old
so_far_start change lots old a = record {
  instance = refl;
  categories = refl;
  storable = a;
  once = λ j h. absurd (omega arith);
  done = λ j h. absurd (omega arith);
  rest = λ y m n. refl;
}

-- what the k-th category's lots made of the table, told of the one before all
record IsHere (change : Change) (lots : List Lot) (k : ℕ) (old now new : Summarized) : Type 0 where
  pub at : (y : ℕ) → IsAmong old.instance old.categories y → category_of old.instance y ≡ get_or old.categories k 0
      → IsJoined change (stands_at now y) (lots_at old.instance lots y) (stands_at new y)
  pub others : (y : ℕ) → IsAmong old.instance old.categories y
      → category_of old.instance y ≢ get_or old.categories k 0 → stands_at new y ≡ stands_at now y

-- one category more
pub so_far_next : (change : Change) (lots : List Lot) (k : ℕ) (old now new : Summarized) → IsSoFar change lots k old now
    → k < length old.categories → AllPairs ◌≢◌ old.categories → new.instance ≡ now.instance
    → new.categories ≡ now.categories → AreStorable new
    → All (λ l. IsOnce now.instance (get_or now.categories k 0) l.member.0) lots
    → IsJoinedIn change (get_or now.categories k 0) (lots_at now.instance lots) now new
    → IsSoFar change lots (k + 1) old new
so_far_next change lots k old now new so h differ e g a once p = record {
  instance = e ∙ so.instance;
  categories = g ∙ so.categories;
  storable = a;
  once = λ j l. elim (below_or_same j k l) [
    | inl b ↦ so.once j b
    | inr q ↦ subst (λ n. All (λ (l : Lot). IsOnce old.instance (get_or old.categories n 0) l.member.0) lots) (sym q)
        once_here
  ];
  done = λ j l y m q. elim (below_or_same j k l) [
    | inl b ↦ subst (λ o. IsJoined change (stands_at old y) (lots_at old.instance lots y) o)
        (sym (here.others y m (λ r. differ j k 0 b h (sym q ∙ r))))
        (so.done j b y m q)
    | inr n ↦ subst (λ o. IsJoined change o (lots_at old.instance lots y) (stands_at new y))
        (so.rest y m (λ u b r. differ u k 0 b h (sym r ∙ q ∙ ap (λ v. get_or old.categories v 0) n)))
        (here.at y m (q ∙ ap (λ v. get_or old.categories v 0) n))
  ];
  rest = λ y m n. here.others y m (n k (omega arith)) ∙ so.rest y m (λ j b. n j (omega arith));
}
  where
    once_here : All (λ l. IsOnce old.instance (get_or old.categories k 0) l.member.0) lots
    once_here =
        subst (λ (i : Instance). All (λ (l : Lot). IsOnce i (get_or old.categories k 0) l.member.0) lots) so.instance
        (subst (λ (cs : List ℕ). All (λ (l : Lot). IsOnce now.instance (get_or cs k 0) l.member.0) lots) so.categories
        once)

    here : IsHere change lots k old now new
    here = record {
      at = λ y m q.
          subst (λ (i : Instance). IsJoined change (stands_at now y) (lots_at i lots y) (stands_at new y)) so.instance
          (p.at y (still_among old now so.instance so.categories y m) (moved y q));
      others = λ y m n. p.others y (still_among old now so.instance so.categories y m) (λ q. n (back y q));
    }
      where
        moved : (y : ℕ) → category_of old.instance y ≡ get_or old.categories k 0
            → category_of now.instance y ≡ get_or now.categories k 0
        moved y q = ap (λ (i : Instance). category_of i y) so.instance ∙ q
            ∙ sym (ap (λ (cs : List ℕ). get_or cs k 0) so.categories)

        back : (y : ℕ) → category_of now.instance y ≡ get_or now.categories k 0
            → category_of old.instance y ≡ get_or old.categories k 0
        back y q = sym (ap (λ (i : Instance). category_of i y) so.instance) ∙ q
            ∙ ap (λ (cs : List ℕ). get_or cs k 0) so.categories

-- all categories are done, so all rows are
pub so_far_all : (change : Change) (lots : List Lot) (k : ℕ) (old now : Summarized) → IsSoFar change lots k old now
    → length old.categories ≤ k → AreJoined change lots old now
so_far_all change lots k old now so h = record {
  once = λ c m. let l = m.1 in
      subst (λ d. All (λ (l : Lot). IsOnce old.instance d l.member.0) lots) (at c m) (so.once m.0 (omega arith));
  at = λ y m. let l = m.category.1 in
      so.done m.category.0 (omega arith) y m (sym (at (category_of old.instance y) m.category));
}
  where
    at : (c : ℕ) → (m : Contains old.categories c) → get_or old.categories m.0 0 ≡ c
    at c m = get_or_default old.categories m.0 0 c m.1 ∙ m.2

-- ---- the facts

-- what the lots make of the views is what their facts make of them
pub table_changed : (change : Change) (facts : List (Fact ℕ)) (g : Lots) (old new : Summarized)
    → new.instance ≡ old.instance → new.categories ≡ old.categories → StandFor old.instance facts g
    → AreJoined change g.lots.items old new
    → facts_changed (step_of change) old.instance (views_at old) facts ≡ Ok (views_at new)
table_changed change facts g old new e k s j =
    all_taken change old.instance old.categories facts 2 (stands_at old) (record {
      values = s.values;
      once = All-weaker (λ (f : Fact ℕ). Contains (members_in g) f.at)
          (λ (f : Fact ℕ). (c : ℕ) → Contains old.categories c → IsOnce old.instance c f.at)
          (λ f m c n. All-contains (λ x. IsOnce old.instance c x) (members_in g) f.at
          (All-map (λ x. IsOnce old.instance c x) (λ (l : Lot). l.member.0) g.lots.items (j.once c n)) m)
          facts s.members;
      admits = λ c n y m. subst (Admits change (stands_at old y)) (s.at y) (j.at y (among old c y n m)).admits;
    })
    ∙ ap Ok (views_alike change old.instance old.categories
    (λ y. changed_by change (stands_at old y) (total_of_facts (members old.instance) facts y))
    (stands_at new) old.categories
    (λ c n y m. sym ((j.at y (among old c y n m)).is ∙ ap (changed_by change (stands_at old y)) (s.at y)))
    ∙ sym (ap (λ (i : Instance). map (view_by i (stands_at new)) old.categories) e)
    ∙ sym (ap (λ (cs : List ℕ). map (view_at new) cs) k))
