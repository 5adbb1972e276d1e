-- Lots of facts.
use Rattle.std.proofs.Common.{◌≡◌, ℕ, zero, suc, ◌+◌, ◌<◌, ◌≤◌, List, [], ◌∷◌, ◌++◌, length, get_or, set, map, Bool, true, false, sym, ap, subst, ◌∙◌, ℤ, Option, Some, w64, arith, length-append}
use Rattle.std.proofs.{Math.Seq.map-set_same, lemmas.Int.ints, lemmas.List.{length-set, map-append}}
use Rattle.std.proofs.lemmas.List.Elements.{All-push, All-set, All-weaker, Contains-append_left, Contains-append_right, Contains-get_or}
use Rattle.std.specs.Prelude.{All, Contains}
use Rattle.olap_base.proofs.{GeneralLemmas.either_fits, ListLemmas.{Contains-map, contains_head}}
use Rattle.olap_base.{proofs.TotalLemmas.{⊕_assoc, ⊕_comm, ⊕_none}, specs.Instance.Instance, specs.Reaching.reaches}
use Rattle.olap_base.specs.{Summaries.{Summary, joined, of_value, ◌⊕◌}, Views.Fact}
use Rattle.olap_view.{proofs.SummaryLemmas.value_is, specs.Bounds.IsOfValues, specs.Seen.summary_of, specs.Tables.when}
use Rattle.olap_delta.{proofs.PermutedLemmas.fact_behind, specs.Lots.{AreLots, AreMore, IsLot, StandFor, lots_at}}
use Rattle.olap_delta.specs.declared.lots.{Lot.Lot, Lots.Lots}
use mir.Val.{SFits}

-- ---- what lots come to at a member

module _ (i : Instance) (y : ℕ) where
  -- one lot more
  pub lots_at-append : (lots : List Lot) (l : Lot)
      → lots_at i (lots ++ l ∷ []) y ≡ lots_at i lots y ⊕ when (reaches i l.member.0 y) (summary_of l.summary)
  lots_at-append [] l = ⊕_none (when (reaches i l.member.0 y) (summary_of l.summary))
  lots_at-append (k ∷ lots) l =
      ap (λ t. when (reaches i k.member.0 y) (summary_of k.summary) ⊕ t) (lots_at-append lots l)
      ∙ sym (⊕_assoc (when (reaches i k.member.0 y) (summary_of k.summary)) (lots_at i lots y)
      (when (reaches i l.member.0 y) (summary_of l.summary)))

  -- values are joined to the first
  first_grown : (b : Bool) (s t : Summary) (others : Option Summary)
      → when b (joined s t) ⊕ others ≡ (when b s ⊕ others) ⊕ when b t
  first_grown true s t others = ⊕_assoc (Some s) (Some t) others
      ∙ ap (λ o. Some s ⊕ o) (⊕_comm (Some t) others)
      ∙ sym (⊕_assoc (Some s) others (Some t))
  first_grown false s t others = sym (⊕_none others)

  -- values are joined to the k-th lot
  lots_at-set : (lots : List Lot) (k : ℕ) (l d : Lot) (s : Summary) → k < length lots
      → (get_or lots k d).member.0 ≡ l.member.0
      → summary_of l.summary ≡ joined (summary_of (get_or lots k d).summary) s
      → lots_at i (set lots k l) y ≡ lots_at i lots y ⊕ when (reaches i l.member.0 y) s
  lots_at-set [] k l d s h m e = absurd (omega arith)
  lots_at-set (x ∷ lots) zero l d s h m e =
      ap (λ t. when (reaches i l.member.0 y) t ⊕ lots_at i lots y) e
      ∙ first_grown (reaches i l.member.0 y) (summary_of x.summary) s (lots_at i lots y)
      ∙ ap (λ n. (when (reaches i n y) (summary_of x.summary) ⊕ lots_at i lots y) ⊕ when (reaches i l.member.0 y) s)
      (sym m)
  lots_at-set (x ∷ lots) (suc k) l d s h m e =
      ap (λ t. when (reaches i x.member.0 y) (summary_of x.summary) ⊕ t) (lots_at-set lots k l d s (omega arith) m e)
      ∙ sym (⊕_assoc (when (reaches i x.member.0 y) (summary_of x.summary)) (lots_at i lots y)
      (when (reaches i l.member.0 y) s))

-- ---- a lot

-- a lot of this many facts is one of more
lot_more : (n k members : ℕ) → n ≤ k → (l : Lot) → IsLot n members l → IsLot k members l
lot_more n k members h l q = let f = q.few in record { member = q.member; few = omega arith; values = q.values }

-- one value more of 64 bits
value_joined : (s : Summary) (v : ℤ) → SFits w64 v → IsOfValues s.count s
    → IsOfValues (s.count + 1) (joined s (of_value v))
value_joined s v f q = grind (arith, ints, either_fits)

-- ---- for which facts they stand

-- the members at which they stand
abbrev pub members_in : Lots → List ℕ
members_in g = map (λ l. l.member.0) g.lots.items

-- one fact more was taken
record IsTaken (f : Fact ℕ) (old new : Lots) : Type 0 where
  pub taken : new.taken ≡ old.taken + 1
  pub value : SFits w64 f.value
  pub kept : (x : ℕ) → Contains (members_in old) x → Contains (members_in new) x
  pub there : Contains (members_in new) f.at
  pub at : (i : Instance) (y : ℕ) → lots_at i new.lots.items y
      ≡ lots_at i old.lots.items y ⊕ when (reaches i f.at y) (of_value f.value)

-- the lots with one fact more stand for the facts with it
stand_more : (i : Instance) (facts : List (Fact ℕ)) (f : Fact ℕ) (old new : Lots) → IsTaken f old new
    → StandFor i facts old → StandFor i (facts ++ f ∷ []) new
stand_more i facts f old new t s = record {
  taken = let a = t.taken in let b = s.taken in omega (arith, length-append {A = Fact ℕ});
  values = All-push (λ (f : Fact ℕ). SFits w64 f.value) facts f s.values t.value;
  members = All-push (λ (f : Fact ℕ). Contains (members_in new) f.at) facts f
      (All-weaker (λ (f : Fact ℕ). Contains (members_in old) f.at) (λ (f : Fact ℕ). Contains (members_in new) f.at)
      (λ f k. t.kept f.at k) facts s.members) t.there;
  at = λ y. t.at i y ∙ ap (λ o. o ⊕ when (reaches i f.at y) (of_value f.value)) (s.at y)
      ∙ sym (fact_behind i y facts f);
}

-- ---- a fact that is taken

-- its value is joined to the k-th lot
pub record IsGrown (f : Fact ℕ) (k : ℕ) (l d : Lot) (old new : Lots) : Type 0 where
  pub inside : k < length old.lots.items
  pub own : (get_or old.lots.items k d).member.0 ≡ f.at
  pub member : l.member.0 ≡ f.at
  pub summary : summary_of l.summary ≡ joined (summary_of (get_or old.lots.items k d).summary) (of_value f.value)
  pub value : SFits w64 f.value
  pub places : length new.places.items ≡ length old.places.items
  pub lots : new.lots.items ≡ set old.lots.items k l
  pub taken : new.taken ≡ old.taken + 1

module _ (f : Fact ℕ) (k : ℕ) (l d : Lot) (old new : Lots) (g : IsGrown f k l d old new) where
  -- the lots are still lots
  grown_lots : AreLots old → AreLots new
  grown_lots a = record {
    few = let n = ap length g.lots in let m = length-set old.lots.items k l in let b = a.few in let t = g.taken in
        omega arith;
    each = subst (All (IsLot new.taken (length new.places.items))) (sym g.lots)
        (All-set (IsLot new.taken (length new.places.items)) old.lots.items k l here
        (All-weaker (IsLot old.taken (length old.places.items)) (IsLot new.taken (length new.places.items)) more
        old.lots.items a.each));
  }
    where
      more : (m : Lot) → IsLot old.taken (length old.places.items) m → IsLot new.taken (length new.places.items) m
      more m q = let t = g.taken in
          subst (λ n. IsLot new.taken n m) (sym g.places)
          (lot_more old.taken new.taken (length old.places.items) (omega arith) m q)

      there : IsLot old.taken (length old.places.items) (get_or old.lots.items k d)
      there = a.each k d g.inside

      here : IsLot new.taken (length new.places.items) l
      here = record {
        member = let q = there.member in let m = g.member in let o = g.own in let p = g.places in omega arith;
        few = let q = there.few in let t = g.taken in let n = ap (λ (s : Summary). s.count) g.summary in omega arith;
        values = subst (λ (s : Summary). IsOfValues s.count s) (sym g.summary)
            (value_joined (summary_of (get_or old.lots.items k d).summary) f.value g.value there.values);
      }

  -- the fact was taken
  grown_taken : IsTaken f old new
  grown_taken = record {
    taken = g.taken;
    value = g.value;
    kept = λ x m. subst (λ xs. Contains xs x) (sym same) m;
    there = subst (λ xs. Contains xs f.at) (sym same) (subst (Contains (members_in old)) g.own
        (Contains-map (λ (m : Lot). m.member.0) old.lots.items (get_or old.lots.items k d)
        (Contains-get_or old.lots.items k d g.inside)));
    at = λ i y. ap (λ (ls : List Lot). lots_at i ls y) g.lots
        ∙ lots_at-set i y old.lots.items k l d (of_value f.value) g.inside (g.own ∙ sym g.member) g.summary
        ∙ ap (λ m. lots_at i old.lots.items y ⊕ when (reaches i m y) (of_value f.value)) g.member;
  }
    where
      same : members_in new ≡ members_in old
      same = ap (map (λ (m : Lot). m.member.0)) g.lots
          ∙ map-set_same (λ (m : Lot). m.member.0) old.lots.items k l d (g.member ∙ sym g.own)

  -- so one fact more is among the lots
  pub grown : AreLots old → AreMore f old new
  grown a = record {
    places = g.places;
    taken = g.taken;
    lots = grown_lots a;
    stand = λ i facts s. stand_more i facts f old new grown_taken s;
  }

-- its member's lot begins
pub record IsBegun (f : Fact ℕ) (l : Lot) (old new : Lots) : Type 0 where
  pub inside : f.at < length old.places.items
  pub member : l.member.0 ≡ f.at
  pub summary : summary_of l.summary ≡ of_value f.value
  pub value : SFits w64 f.value
  pub places : length new.places.items ≡ length old.places.items
  pub lots : new.lots.items ≡ old.lots.items ++ l ∷ []
  pub taken : new.taken ≡ old.taken + 1

module _ (f : Fact ℕ) (l : Lot) (old new : Lots) (g : IsBegun f l old new) where
  -- the lots with a new one are lots
  begun_lots : AreLots old → AreLots new
  begun_lots a = record {
    few = let n = ap length g.lots in let b = a.few in let t = g.taken in omega (arith, length-append {A = Lot});
    each = subst (All (IsLot new.taken (length new.places.items))) (sym g.lots)
        (All-push (IsLot new.taken (length new.places.items)) old.lots.items l
        (All-weaker (IsLot old.taken (length old.places.items)) (IsLot new.taken (length new.places.items)) more
        old.lots.items a.each) here);
  }
    where
      more : (m : Lot) → IsLot old.taken (length old.places.items) m → IsLot new.taken (length new.places.items) m
      more m q = let t = g.taken in
          subst (λ n. IsLot new.taken n m) (sym g.places)
          (lot_more old.taken new.taken (length old.places.items) (omega arith) m q)

      here : IsLot new.taken (length new.places.items) l
      here = record {
        member = let q = g.inside in let m = g.member in let p = g.places in omega arith;
        few = let t = g.taken in let n = ap (λ (s : Summary). s.count) g.summary in omega arith;
        values = subst (λ (s : Summary). IsOfValues s.count s) (sym g.summary) (value_is f.value g.value);
      }

  -- the fact was taken
  begun_taken : IsTaken f old new
  begun_taken = record {
    taken = g.taken;
    value = g.value;
    kept = λ x m. subst (λ xs. Contains xs x) (sym same)
        (Contains-append_left (members_in old) (l.member.0 ∷ []) x m);
    there = subst (λ xs. Contains xs f.at) (sym same)
        (Contains-append_right (members_in old) (l.member.0 ∷ []) f.at
        (subst (Contains (l.member.0 ∷ [])) g.member (contains_head l.member.0 [])));
    at = λ i y. ap (λ (ls : List Lot). lots_at i ls y) g.lots
        ∙ lots_at-append i y old.lots.items l
        ∙ ap (λ s. lots_at i old.lots.items y ⊕ when (reaches i l.member.0 y) s) g.summary
        ∙ ap (λ m. lots_at i old.lots.items y ⊕ when (reaches i m y) (of_value f.value)) g.member;
  }
    where
      same : members_in new ≡ members_in old ++ l.member.0 ∷ []
      same = ap (map (λ (m : Lot). m.member.0)) g.lots
          ∙ map-append (λ (m : Lot). m.member.0) old.lots.items (l ∷ [])

  -- so one fact more is among the lots
  pub begun : AreLots old → AreMore f old new
  begun a = record {
    places = g.places;
    taken = g.taken;
    lots = begun_lots a;
    stand = λ i facts s. stand_more i facts f old new begun_taken s;
  }
