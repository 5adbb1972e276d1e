-- What waits is joined to a summary table, member by member.
--     joined_room                             no sum wraps
use Rattle.std.proofs.Common.{◌≡◌, ℕ, ◌+◌, ◌*◌, ◌<◌, length, get_or, take, Bool, true, false, cond, refl, sym, ap, subst, ◌∙◌, Option, Some, None, IfSome, arith}
use Rattle.std.specs.Option.{option_map}
use Rattle.olap_base.{proofs.TotalLemmas.{⊕_assoc, ⊕_none}, specs.Instance.Instance, specs.Limits.most_count}
use Rattle.olap_base.specs.{Reaching.reaches, Summaries.{Summary, ◌⊕◌}}
use Rattle.olap_view.proofs.{TallyLemmas.among, WaitingLemmas.{waiting_taken, within_cond, within_joined, within_more}}
use Rattle.olap_view.specs.{Seen.summary_of, SummaryTables.{Summarized, stands_at}, Tables.{IsAmong, when}}
use Rattle.olap_view.specs.Tallies.{IsTableWithin, IsWaitingWithin, IsWithin, Waiting, waiting_at}
use Rattle.olap_view.specs.declared.summaries.Summary as told

-- what waits at each of the first n members is joined to what stands in t at the members that it reaches
pub record HasJoined (t u : Summarized) (ws : Waiting) (n : ℕ) : Type 0 where
  pub instance : u.instance ≡ t.instance
  pub categories : u.categories ≡ t.categories
  pub at : (y : ℕ) → IsAmong t.instance t.categories y
      → stands_at u y ≡ stands_at t y ⊕ waiting_at t.instance (take n ws) y
  pub small : IsTableWithin ((n + 1) * most_count) u

-- of no member
pub joined_start : (t : Summarized) (ws : Waiting) → IsTableWithin most_count t → HasJoined t t ws 0
joined_start t ws h = search (⊕_none, within_more)

module _ (t u : Summarized) (ws : Waiting) (n : ℕ) (h : n < length ws) (j : HasJoined t u ws n) where
  -- what waits at one member more, or nothing
  one_more : (v : Summarized) (o : Option told.Summary) → get_or ws n None ≡ o → v.instance ≡ u.instance
      → v.categories ≡ u.categories
      → ((y : ℕ) → IsAmong u.instance u.categories y
      → stands_at v y ≡ stands_at u y ⊕ cond (reaches u.instance n y) (option_map summary_of o) None)
      → IsWaitingWithin most_count ws → HasJoined t v ws (n + 1)
  one_more v o e a b at w = record {
    instance = a ∙ j.instance;
    categories = b ∙ j.categories;
    at = λ y m.
        let k = among u t (sym j.instance) (sym j.categories) y m in
        let p = cond (reaches t.instance n y) (option_map summary_of o) None in
        at y k
        ∙ ap (λ (i : Instance). stands_at u y ⊕ cond (reaches i n y) (option_map summary_of o) None) j.instance
        ∙ ap (λ q. q ⊕ p) (j.at y m)
        ∙ ⊕_assoc (stands_at t y) (waiting_at t.instance (take n ws) y) p
        ∙ ap (λ q. stands_at t y ⊕ (waiting_at t.instance (take n ws) y
        ⊕ cond (reaches t.instance n y) (option_map summary_of q) None)) (sym e)
        ∙ ap (λ q. stands_at t y ⊕ q) (sym (waiting_taken t.instance y ws n h));
    small = λ y m.
        let k = among u v a b y m in
        let here : IfSome (option_map summary_of o) (IsWithin most_count) =
        subst (λ (q : Option told.Summary). IfSome (option_map summary_of q) (IsWithin most_count)) e (w n) in
        subst (λ (q : Option Summary). IfSome q (IsWithin ((n + 1 + 1) * most_count))) (sym (at y k))
        (within_more ((n + 1) * most_count + most_count) ((n + 1 + 1) * most_count)
        (stands_at u y ⊕ cond (reaches u.instance n y) (option_map summary_of o) None) (omega arith)
        (within_joined ((n + 1) * most_count) most_count (stands_at u y)
        (cond (reaches u.instance n y) (option_map summary_of o) None) (j.small y k)
        (within_cond most_count (reaches u.instance n y) (option_map summary_of o) here)));
  }

  -- a summary waits at the next
  pub joined_some : (v : Summarized) (s : told.Summary) → get_or ws n None ≡ Some s → v.instance ≡ u.instance
      → v.categories ≡ u.categories
      → ((y : ℕ) → IsAmong u.instance u.categories y
      → stands_at v y ≡ stands_at u y ⊕ when (reaches u.instance n y) (summary_of s))
      → IsWaitingWithin most_count ws → HasJoined t v ws (n + 1)
  joined_some v s e a b at w = one_more v (Some s) e a b at w

  -- nothing waits at the next
  pub joined_none : get_or ws n None ≡ None → IsWaitingWithin most_count ws → HasJoined t u ws (n + 1)
  joined_none e w = one_more u None e refl refl (λ y m. nothing (stands_at u y) (reaches u.instance n y)) w
    where
      nothing : (o : Option Summary) (b : Bool) → o ≡ o ⊕ cond b None None
      nothing o true = sym (⊕_none o)
      nothing o false = sym (⊕_none o)
