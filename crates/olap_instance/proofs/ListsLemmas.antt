-- Lists that stand in one list: one more, one more item, and the list at a place.
--     count-lists     there are as many lists as places where one begins
use Rattle.std.proofs.Common.{◌≡◌, ◌≤◌, ◌<◌, ◌+◌, ◌-◌, ◌++◌, ◌∷◌, ◌∙◌, ℕ, zero, suc, List, [], length, get_or, take, drop, refl, ap, arith}
use Rattle.std.proofs.Math.Seq.{take-append-add}
use Rattle.std.{proofs.lemmas.List.{drop-append-le, length-append, length-drop, take-append-le}, specs.List.slice_range}
use Rattle.olap_instance.specs.ListsInside.{AreAscending, lists_from}

-- ---- places in order

-- a place that is the end tells nothing new of where a list ends
end-same : (ss : List ℕ) (n : ℕ) → get_or (ss ++ n ∷ []) 0 n ≡ get_or ss 0 n
end-same [] n = refl
end-same (s ∷ ss) n = refl

-- the first list begins within the items
first-within : (end s : ℕ) (ss : List ℕ) → AreAscending end (s ∷ ss) → s ≤ end
first-within end s [] h = h.0
first-within end s (t ∷ ts) h = let r = first-within end t ts h.1 in let f = h.0 in omega arith

-- the items may grow
pub ascending-more : (end later : ℕ) (starts : List ℕ) → end ≤ later → AreAscending end starts
    → AreAscending later starts
ascending-more end later [] l h = tt
ascending-more end later (s ∷ []) l h = (let f = h.0 in omega arith, tt)
ascending-more end later (s ∷ t ∷ ts) l h = (h.0, ascending-more end later (t ∷ ts) l h.1)

-- a list may begin where the items end
pub ascending-begin : (end : ℕ) (starts : List ℕ) → AreAscending end starts → AreAscending end (starts ++ end ∷ [])
ascending-begin end [] h = (omega arith, tt)
ascending-begin end (s ∷ []) h = (h.0, (omega arith, tt))
ascending-begin end (s ∷ t ∷ ts) h = (h.0, ascending-begin end (t ∷ ts) h.1)

-- a list begins no later than it ends
pub ascending-at : (end : ℕ) (starts : List ℕ) (x y : ℕ) → x < length starts → y ≡ x + 1 → AreAscending end starts
    → (get_or starts x 0 ≤ get_or starts y end) × (get_or starts y end ≤ end)
ascending-at end [] x y l e h = absurd (omega arith)
ascending-at end (s ∷ []) zero y l e h = rw e (h.0, omega arith)
ascending-at end (s ∷ t ∷ ts) zero y l e h = rw e (h.0, first-within end t ts h.1)
ascending-at end (s ∷ ss) (suc x) zero l e h = absurd (omega arith)
ascending-at end (s ∷ ss) (suc x) (suc y) l e h = ascending-at end ss x y (omega arith) (omega arith) h.1

-- ---- lists

module _ {T : Type 0} where
  pub count-lists : (items : List T) (starts : List ℕ) → length (lists_from items starts) ≡ length starts
  count-lists items [] = refl
  count-lists items (s ∷ ss) = ap suc (count-lists items ss)

  -- the list at a place
  pub list-at : (items : List T) (starts : List ℕ) (x y : ℕ) → x < length starts → y ≡ x + 1
      → get_or (lists_from items starts) x [] ≡ slice_range items (get_or starts x 0) (get_or starts y (length items))
  list-at items [] x y l e = absurd (omega arith)
  list-at items (s ∷ ss) zero y l e = rw e refl
  list-at items (s ∷ ss) (suc x) zero l e = absurd (omega arith)
  list-at items (s ∷ ss) (suc x) (suc y) l e = list-at items ss x y (omega arith) (omega arith)

  none-between : (items : List T) (n m : ℕ) → n ≡ m → slice_range items n m ≡ []
  none-between items n m e = let z : m - n ≡ 0 = omega arith in rw z refl

  -- one more place, at the end of the items, begins an empty list
  pub lists-begin : (items : List T) (starts : List ℕ)
      → lists_from items (starts ++ length items ∷ []) ≡ lists_from items starts ++ [] ∷ []
  lists-begin items [] = ap (λ (t : List T). t ∷ []) (none-between items (length items) (length items) refl)
  lists-begin items (s ∷ ss) =
      rw (end-same ss (length items), lists-begin items ss) refl

  between-more : (items more : List T) (from to : ℕ) → from ≤ to → to ≤ length items
      → slice_range (items ++ more) from to ≡ slice_range items from to
  between-more items more from to f t =
      let n = length-drop from items in
      ap (take (to - from)) (drop-append-le from items more (omega arith))
      ∙ take-append-le (to - from) (drop from items) more (omega arith)

  rest-more : (items more : List T) (from : ℕ) → from ≤ length items
      → slice_range (items ++ more) from (length (items ++ more)) ≡ slice_range items from (length items) ++ more
  rest-more items more from f =
      let n = length-append items more in
      let m = length-drop from items in
      let e : length (items ++ more) - from ≡ length (drop from items) + length more = omega arith in
      ap (λ (k : ℕ). take k (drop from (items ++ more))) e
      ∙ ap (take (length (drop from items) + length more)) (drop-append-le from items more f)
      ∙ take-append-add (drop from items) more (length more)
      ∙ both (take (length items - from) (drop from items)) (drop from items) (take (length more) more) more
      (whole (length items - from) (drop from items) (omega arith)) (whole (length more) more refl)
    where
      whole : (n : ℕ) (xs : List T) → n ≡ length xs → take n xs ≡ xs
      whole n [] e = rw e refl
      whole zero (x ∷ xs) e = absurd (omega arith)
      whole (suc n) (x ∷ xs) e = ap (λ (t : List T). x ∷ t) (whole n xs (omega arith))

      both : (a a2 b b2 : List T) → a ≡ a2 → b ≡ b2 → a2 ++ b ≡ a ++ b2
      both a a2 b b2 e f = rw (e, f) refl

  -- more items are the last list's
  pub lists-more : (items more : List T) (starts : List ℕ) (before : List (List T)) (last : List T)
      → AreAscending (length items) starts → lists_from items starts ≡ before ++ last ∷ []
      → lists_from (items ++ more) starts ≡ before ++ (last ++ more) ∷ []
  lists-more items more [] [] last h e = cc e
  lists-more items more [] (b ∷ bs) last h e = cc e
  lists-more items more (s ∷ []) [] last h e =
      let l : slice_range items s (length items) ≡ last = cc e in
      ap (λ (t : List T). t ∷ []) (rest-more items more s h.0 ∙ ap (λ (t : List T). t ++ more) l)
  lists-more items more (s ∷ []) (b ∷ []) last h e = cc e
  lists-more items more (s ∷ []) (b ∷ c ∷ bs) last h e = cc e
  lists-more items more (s ∷ t ∷ ts) [] last h e = cc e
  lists-more items more (s ∷ t ∷ ts) (b ∷ bs) last h e =
      let first : slice_range items s t ≡ b = cc e in
      let others : lists_from items (t ∷ ts) ≡ bs ++ last ∷ [] = cc e in
      cons _ _ _ _ (between-more items more s t h.0 (first-within (length items) t ts h.1) ∙ first)
      (lists-more items more (t ∷ ts) bs last h.1 others)
    where
      cons : (x y : List T) (xs ys : List (List T)) → x ≡ y → xs ≡ ys → x ∷ xs ≡ y ∷ ys
      cons x y xs ys a b = rw (a, b) refl
