-- Summaries that wait at members.
--     within_more, within_joined, within_joinable, within_value   how great they are
use Rattle.std.proofs.Common.{◌≡◌, ℕ, zero, suc, ◌+◌, ◌*◌, ◌^◌, ◌<◌, ◌≤◌, [], ◌∷◌, ◌++◌, length, get_or, set, take, Bool, true, false, cond, refl, sym, ap, ◌∙◌, ℤ, Option, Some, None, IfSome, w64, arith}
use Rattle.std.{proofs.lemmas.List.{length-take-le, take_more}, specs.Option.option_map}
use Rattle.olap_base.{proofs.TotalLemmas.{⊕_assoc, ⊕_comm, ⊕_none}, specs.Instance.Instance, specs.Reaching.reaches}
use Rattle.olap_base.specs.Summaries.{Summary, joined, of_value, ◌⊕◌}
use Rattle.olap_view.{proofs.SummaryLemmas.{joined_up_to, up_to_more, value_up_to}, specs.Seen.summary_of}
use Rattle.olap_view.specs.{Tables.when, Tallies.{IsWithin, Waiting, waiting_from}}
use mir.Val.{SFits}
use Rattle.olap_view.specs.declared.summaries.Summary as told

-- ---- what waits at the members that reach one

module _ (i : Instance) (y : ℕ) where
  -- nothing, where nothing waits
  pub waiting_none : (k : ℕ) (ws : Waiting) → ((x : ℕ) → get_or ws x None ≡ None) → waiting_from i k ws y ≡ None
  waiting_none k [] h = refl
  waiting_none k (w ∷ ws) h =
      ap (λ o. cond (reaches i k y) (option_map summary_of o) None ⊕ waiting_from i (k + 1) ws y) (h 0)
      ∙ head (reaches i k y) ∙ waiting_none (k + 1) ws (λ x. h (suc x))
    where
      head : (b : Bool) → cond b None None ⊕ waiting_from i (k + 1) ws y ≡ waiting_from i (k + 1) ws y
      head true = refl
      head false = refl

  -- a summary is joined to the first
  first_joined : (b : Bool) (w : Option Summary) (s : Summary) (others : Option Summary)
      → cond b (w ⊕ Some s) None ⊕ others ≡ (cond b w None ⊕ others) ⊕ when b s
  first_joined true w s others = ⊕_assoc w (Some s) others ∙ ap (λ o. w ⊕ o) (⊕_comm (Some s) others)
      ∙ sym (⊕_assoc w others (Some s))
  first_joined false w s others = sym (⊕_none others)

  -- a summary is joined to what waits at x
  pub waiting_set : (ws : Waiting) (k j x : ℕ) (o : Option told.Summary) (s : Summary) → x ≡ k + j → j < length ws
      → option_map summary_of o ≡ option_map summary_of (get_or ws j None) ⊕ Some s
      → waiting_from i k (set ws j o) y ≡ waiting_from i k ws y ⊕ when (reaches i x y) s
  waiting_set [] k j x o s e h q = absurd (omega arith)
  waiting_set (w ∷ ws) k zero x o s e h q =
      let here : k ≡ x = omega arith in
      ap (λ p. cond (reaches i k y) p None ⊕ waiting_from i (k + 1) ws y) q
      ∙ first_joined (reaches i k y) (option_map summary_of w) s (waiting_from i (k + 1) ws y)
      ∙ ap (λ z. (cond (reaches i k y) (option_map summary_of w) None ⊕ waiting_from i (k + 1) ws y)
      ⊕ when (reaches i z y) s) here
  waiting_set (w ∷ ws) k (suc j) x o s e h q =
      ap (λ t. cond (reaches i k y) (option_map summary_of w) None ⊕ t)
      (waiting_set ws (k + 1) j x o s (omega arith) (omega arith) q)
      ∙ sym (⊕_assoc (cond (reaches i k y) (option_map summary_of w) None) (waiting_from i (k + 1) ws y)
      (when (reaches i x y) s))

  -- what waits at one member more
  waiting_push : (ws : Waiting) (k x : ℕ) (o : Option told.Summary) → x ≡ k + length ws
      → waiting_from i k (ws ++ o ∷ []) y
      ≡ waiting_from i k ws y ⊕ cond (reaches i x y) (option_map summary_of o) None
  waiting_push [] k x o e =
      let here : k ≡ x = omega arith in
      ⊕_none (cond (reaches i k y) (option_map summary_of o) None)
      ∙ ap (λ z. cond (reaches i z y) (option_map summary_of o) None) here
  waiting_push (w ∷ ws) k x o e =
      ap (λ t. cond (reaches i k y) (option_map summary_of w) None ⊕ t) (waiting_push ws (k + 1) x o (omega arith))
      ∙ sym (⊕_assoc (cond (reaches i k y) (option_map summary_of w) None) (waiting_from i (k + 1) ws y)
      (cond (reaches i x y) (option_map summary_of o) None))

  -- what waits at the first n members, and at the next
  pub waiting_taken : (ws : Waiting) (n : ℕ) → n < length ws
      → waiting_from i 0 (take (n + 1) ws) y
      ≡ waiting_from i 0 (take n ws) y ⊕ cond (reaches i n y) (option_map summary_of (get_or ws n None)) None
  waiting_taken ws n h =
      let size : length (take n ws) ≡ n = length-take-le n ws (omega arith) in
      ap (λ (l : Waiting). waiting_from i 0 l y) (take_more ws n None h)
      ∙ waiting_push (take n ws) 0 n (get_or ws n None) (omega arith)

-- ---- how great summaries are

-- within n is within more
pub within_more : (n k : ℕ) (o : Option Summary) → n ≤ k → IfSome o (IsWithin n) → IfSome o (IsWithin k)
within_more n k None h q = tt
within_more n k (Some s) h q = up_to_more n (n * 2 ^ 63) k (k * 2 ^ 63) s h (omega arith) q

-- two together
pub within_joined : (n k : ℕ) (o p : Option Summary) → IfSome o (IsWithin n) → IfSome p (IsWithin k)
    → IfSome (o ⊕ p) (IsWithin (n + k))
within_joined n k None p a b = within_more k (n + k) p (omega arith) b
within_joined n k (Some s) None a b = within_more n (n + k) (Some s) (omega arith) a
within_joined n k (Some s) (Some t) a b =
    up_to_more (n + k) (n * 2 ^ 63 + k * 2 ^ 63) (n + k) ((n + k) * 2 ^ 63) (joined s t) (omega arith) (omega arith)
    (joined_up_to n (n * 2 ^ 63) k (k * 2 ^ 63) s t a b)

-- under a test, what is within this many
pub within_cond : (n : ℕ) (b : Bool) (o : Option Summary) → IfSome o (IsWithin n) → IfSome (cond b o None) (IsWithin n)
within_cond n true o q = q
within_cond n false o q = tt

-- under a test, one value
pub within_value : (b : Bool) (v : ℤ) → SFits w64 v → IfSome (when b (of_value v)) (IsWithin 1)
within_value true v f = value_up_to v f
within_value false v f = tt
