-- Counts, sums, leasts and greatests, which joined in any order.
use Rattle.std.proofs.Common.{◌≡◌, ◌+◌, add_assoc, List, [], ◌∷◌, ◌++◌, map, ℤ, ◌+ℤ◌, Bool, true, false, cond, refl, sym, ap, ◌∙◌, Option, Some, None, arith, one-add}
use Rattle.std.proofs.{Math.IntN.{+ℤ_assoc, +ℤ_comm}, Math.Nat.add_comm, lemmas.Int.ints, lemmas.List.Sums.sum_by-cons}
use Rattle.std.specs.{Int.{int_min, int_max}, List.cons_option}
use Rattle.std.specs.Prelude.{Contains, filter, filter_map, flat_map, fold, length, sum_by}
use Rattle.olap_base.{proofs.ListLemmas.contains_head, specs.Deciding.contains_cons}
use Rattle.olap_base.specs.Summaries.{Summary, TotalsOfSummaries, TotalsOfValues, joined, of_value, total, ◌⊕◌}

-- the lesser of two, in either order
pub int_min_comm : (x y : ℤ) → int_min x y ≡ int_min y x
int_min_comm x y = grind (arith, ints)

-- the greater of two, in either order
pub int_max_comm : (x y : ℤ) → int_max x y ≡ int_max y x
int_max_comm x y = grind (arith, ints)

-- the least of three
pub int_min_assoc : (x y z : ℤ) → int_min (int_min x y) z ≡ int_min x (int_min y z)
int_min_assoc x y z = grind (arith, ints)

-- the greatest of three
pub int_max_assoc : (x y z : ℤ) → int_max (int_max x y) z ≡ int_max x (int_max y z)
int_max_assoc x y z = grind (arith, ints)

-- two summaries join in either order
pub joined_comm : (a b : Summary) → joined a b ≡ joined b a
joined_comm a b =
    λ i. record {
      count = add_comm a.count b.count i;
      sum = +ℤ_comm a.sum b.sum i;
      least = int_min_comm a.least b.least i;
      greatest = int_max_comm a.greatest b.greatest i;
    }

-- three summaries join from either side
pub joined_assoc : (a b c : Summary) → joined (joined a b) c ≡ joined a (joined b c)
joined_assoc a b c =
    λ i. record {
      count = add_assoc a.count b.count c.count i;
      sum = +ℤ_assoc a.sum b.sum c.sum i;
      least = int_min_assoc a.least b.least c.least i;
      greatest = int_max_assoc a.greatest b.greatest c.greatest i;
    }

-- ---- where there may be none

-- nothing after a summary leaves it as it is
pub ⊕_none : (a : Option Summary) → a ⊕ None ≡ a
⊕_none None = refl
⊕_none (Some a) = refl

-- in either order
pub ⊕_comm : (a b : Option Summary) → a ⊕ b ≡ b ⊕ a
⊕_comm None b = sym (⊕_none b)
⊕_comm (Some a) None = refl
⊕_comm (Some a) (Some b) = ap Some (joined_comm a b)

-- from either side
pub ⊕_assoc : (a b c : Option Summary) → (a ⊕ b) ⊕ c ≡ a ⊕ (b ⊕ c)
⊕_assoc None b c = refl
⊕_assoc (Some a) None c = refl
⊕_assoc (Some a) (Some b) None = refl
⊕_assoc (Some a) (Some b) (Some c) = ap Some (joined_assoc a b c)

-- ---- totals over a list, where each item has a summary or none

-- what the items have, joined
abbrev pub total_by : {A : Type 0} → (A → Option Summary) → List A → Option Summary
total_by f [] = None
total_by f (x ∷ xs) = f x ⊕ total_by f xs

-- items with the same summaries have the same total
pub total_same : {A : Type 0} (f g : A → Option Summary) (xs : List A) → ((x : A) → Contains xs x → f x ≡ g x)
    → total_by f xs ≡ total_by g xs
total_same f g [] h = refl
total_same f g (x ∷ xs) h = cc (h x (contains_head x xs), total_same f g xs (λ y c. h y (contains_cons y xs x c)))

-- items without a summary have none
pub total_nothing : {A : Type 0} (xs : List A) → total_by {A = A} (λ x. None) xs ≡ None
total_nothing [] = refl
total_nothing (x ∷ xs) = total_nothing xs

-- the total of two lists, one after the other
pub total-append : {A : Type 0} (f : A → Option Summary) (xs ys : List A) →
    total_by f (xs ++ ys) ≡ total_by f xs ⊕ total_by f ys
total-append f [] ys = refl
total-append f (x ∷ xs) ys =
    ap (λ t. f x ⊕ t) (total-append f xs ys) ∙ sym (⊕_assoc (f x) (total_by f xs) (total_by f ys))

-- the total of images
pub total-map : {A B : Type 0} (f : B → Option Summary) (g : A → B) (xs : List A)
    → total_by f (map g xs) ≡ total_by (λ x. f (g x)) xs
total-map f g [] = refl
total-map f g (x ∷ xs) = ap (λ t. f (g x) ⊕ t) (total-map f g xs)

-- the total of lists is one of totals
pub total-flat_map : {A B : Type 0} (f : B → Option Summary) (g : A → List B) (xs : List A)
    → total_by f (flat_map g xs) ≡ total_by (λ x. total_by f (g x)) xs
total-flat_map f g [] = refl
total-flat_map f g (x ∷ xs) =
    total-append f (g x) (flat_map g xs) ∙ ap (λ t. total_by f (g x) ⊕ t) (total-flat_map f g xs)

-- what doesn't pass adds nothing
pub total-filter : {A : Type 0} (f : A → Option Summary) (p : A → Bool) (xs : List A)
    → total_by f (filter p xs) ≡ total_by (λ x. cond (p x) (f x) None) xs
total-filter f p [] = refl
total-filter {A} f p (x ∷ xs) = go (p x) ∙ ap (λ t. cond (p x) (f x) None ⊕ t) (total-filter f p xs)
  where
    go : (b : Bool) →
        total_by f (cond b (x ∷ filter p xs) (filter p xs)) ≡ cond b (f x) None ⊕ total_by f (filter p xs)
    go true = refl
    go false = refl

-- f of what is there
abbrev pub of_some : {A : Type 0} → (A → Option Summary) → Option A → Option Summary
of_some f None = None
of_some f (Some x) = f x

-- what has no result adds nothing
pub total-filter_map : {A B : Type 0} (f : B → Option Summary) (h : A → Option B) (xs : List A)
    → total_by f (filter_map h xs) ≡ total_by (λ x. of_some f (h x)) xs
total-filter_map f h [] = refl
total-filter_map {A} {B} f h (x ∷ xs) = go (h x) ∙ ap (λ t. of_some f (h x) ⊕ t) (total-filter_map f h xs)
  where
    go : (o : Option B) → total_by f (cons_option o (filter_map h xs)) ≡ of_some f o ⊕ total_by f (filter_map h xs)
    go None = refl
    go (Some y) = refl

-- four joined, with the middle two exchanged
swapped : (a b c d : Option Summary) → (a ⊕ b) ⊕ (c ⊕ d) ≡ (a ⊕ c) ⊕ (b ⊕ d)
swapped a b c d =
    ⊕_assoc a b (c ⊕ d) ∙ ap (λ t. a ⊕ t) (sym (⊕_assoc b c d) ∙ ap (λ t. t ⊕ d) (⊕_comm b c) ∙ ⊕_assoc c b d)
    ∙ sym (⊕_assoc a c (b ⊕ d))

-- the total of two summaries an item is two totals
pub total_both : {A : Type 0} (f g : A → Option Summary) (xs : List A)
    → total_by (λ x. f x ⊕ g x) xs ≡ total_by f xs ⊕ total_by g xs
total_both f g [] = refl
total_both f g (x ∷ xs) =
    ap (λ t. (f x ⊕ g x) ⊕ t) (total_both f g xs) ∙ swapped (f x) (g x) (total_by f xs) (total_by g xs)

-- the order of two totals
pub total_swap : {A B : Type 0} (m : A → B → Option Summary) (xs : List A) (ys : List B)
    → total_by (λ x. total_by (m x) ys) xs ≡ total_by (λ y. total_by (λ x. m x y) xs) ys
total_swap {A} {B} m [] ys = sym (total_nothing ys)
total_swap m (x ∷ xs) ys =
    ap (λ t. total_by (m x) ys ⊕ t) (total_swap m xs ys) ∙ sym (total_both (m x) (λ y. total_by (λ z. m z y) xs) ys)

-- under one test, the total or the items
pub total_when : {A : Type 0} (b : Bool) (f : A → Option Summary) (xs : List A)
    → cond b (total_by f xs) None ≡ total_by (λ x. cond b (f x) None) xs
total_when true f xs = refl
total_when false f xs = sym (total_nothing xs)

-- a total of summaries is one of items
pub total_is : {A : Type 0} (f : A → Summary) (xs : List A) → total (map f xs) ≡ total_by (λ x. Some (f x)) xs
total_is f [] = refl
total_is f (x ∷ xs) = ap (λ t. Some (f x) ⊕ t) (total_is f xs)

-- one more after the others
pub total_push : (ss : List Summary) (s : Summary) → total (ss ++ s ∷ []) ≡ total ss ⊕ Some s
total_push [] s = refl
total_push (t ∷ ss) s = ap (λ u. Some t ⊕ u) (total_push ss s) ∙ sym (⊕_assoc (Some t) (total ss) (Some s))

-- ---- totals column by column

-- in a fold by what joins from either side, the first may be joined at the end
fold_moves : (f : ℤ → ℤ → ℤ) → ((a b c : ℤ) → f (f a b) c ≡ f a (f b c)) → (a b : ℤ) (xs : List ℤ)
    → f a (fold f b xs) ≡ fold f (f a b) xs
fold_moves f assoc a b [] = refl
fold_moves f assoc a b (x ∷ xs) = fold_moves f assoc a (f b x) xs ∙ ap (λ t. fold f t xs) (sym (assoc a b x))

-- a total of values has their number, sum, least and greatest, column by column
pub totals_of_values : TotalsOfValues
totals_of_values v [] = refl
totals_of_values v (w ∷ ws) = ap (λ t. Some (of_value v) ⊕ t) (totals_of_values w ws)
    ∙ (λ i. Some (record {
      count = one-add (length (w ∷ ws)) i;
      sum = fold_moves ◌+ℤ◌ +ℤ_assoc v w ws i;
      least = fold_moves int_min int_min_assoc v w ws i;
      greatest = fold_moves int_max int_max_assoc v w ws i;
    }))

-- and so has a total of summaries
pub totals_of_summaries : TotalsOfSummaries
totals_of_summaries s [] = let e : s.count ≡ 0 + s.count = omega arith in ap (λ n. Some (record s { count = n })) e
totals_of_summaries s (t ∷ ts) = ap (λ u. Some s ⊕ u) (totals_of_summaries t ts)
    ∙ (λ i. Some (record {
      count = counts i;
      sum = fold_moves ◌+ℤ◌ +ℤ_assoc s.sum t.sum (map (λ u. u.sum) ts) i;
      least = fold_moves int_min int_min_assoc s.least t.least (map (λ u. u.least) ts) i;
      greatest = fold_moves int_max int_max_assoc s.greatest t.greatest (map (λ u. u.greatest) ts) i;
    }))
  where
    counts : s.count + sum_by (λ (u : Summary). u.count) (t ∷ ts) ≡ sum_by (λ (u : Summary). u.count) (s ∷ t ∷ ts)
    counts = sym (sum_by-cons (λ (u : Summary). u.count) s (t ∷ ts))

-- the order of summaries does not matter
pub totals_exchanged : (a b c : Option Summary) → a ⊕ (b ⊕ c) ≡ b ⊕ (a ⊕ c)
totals_exchanged a b c = sym (⊕_assoc a b c) ∙ ap (λ t. t ⊕ c) (⊕_comm a b) ∙ ⊕_assoc b a c
