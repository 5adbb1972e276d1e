-- Whether a parent is among others.
use Rattle.std.proofs.Common.{◌≡◌, ◌↔◌, ◌||◌, ◌<◌, ◌+◌, ◌++◌, Vec, Global, take, ◌∷◌, ◌∙◌, Bool, true, false, ℕ, zero, suc, List, [], length, map, get_or, Option, Some, None, refl, sym, ap, arith}
use Rattle.std.{proofs.lemmas.Grind.common_steps, proofs.lemmas.List.{map-append, take_more}, specs.List.list_any}
use Rattle.std.specs.{Option.option_eq, Prelude.{Contains, IsTrue, unwrap_or}}
use Rattle.olap_instance.specs.{DraftInside.{number_of, parents_told}, Drafts.places_of}
use Rattle.olap_instance.specs.Passes.{numbers_of, parents_in}
use Rattle.olap_base.specs.declared.ids.MemberId.{MemberId}

module _ {X Y : Type 0} (f : X → Bool) (g : X → Y) (y : Y) (same : (x : X) → (f x ≡ true) ↔ (g x ≡ y)) where
  later : (x : X) (xs : List X) → Contains (map g xs) y → Contains (map g (x ∷ xs)) y
  later x xs c = (suc c.0, omega (arith, c.1), c.2)

  there : (xs : List X) → list_any f xs ≡ true → Contains (map g xs) y
  there [] e = cc e
  there (x ∷ xs) e = by (f x) refl e (there xs)
    where
      by : (b : Bool) → f x ≡ b → (b || list_any f xs) ≡ true → (list_any f xs ≡ true → Contains (map g xs) y)
          → Contains (map g (x ∷ xs)) y
      by true t e again = (0, omega arith, (same x).0 t)
      by false t e again = later x xs (again e)

  back : (xs : List X) → Contains (map g xs) y → list_any f xs ≡ true
  back [] c = absurd (omega (arith, c.1))
  back (x ∷ xs) c = by (f x) refl c.0 c.1 c.2 (back xs)
    where
      by : (b : Bool) → f x ≡ b → (k : ℕ) → k < length (map g (x ∷ xs)) → get_or (map g (x ∷ xs)) k y ≡ y
          → (Contains (map g xs) y → list_any f xs ≡ true) → (b || list_any f xs) ≡ true
      by true t k l e again = refl
      by false t zero l e again = let u = (same x).1 e in cc (u, t)
      by false t (suc k) l e again = again (k, omega arith, e)

  -- a test that tells equal values tells whether a value is among others
  pub among : (xs : List X) (b : Bool) → b ≡ list_any f xs → IsTrue b ↔ Contains (map g xs) y
  among xs b e = (λ t. there xs (sym e ∙ t), λ c. e ∙ back xs c)

module _ (eq : MemberId → MemberId → Bool) (tells : (m n : MemberId) → (eq m n ≡ true) ↔ (m.0 ≡ n.0)) where
  pub same-parent : (p q : Option MemberId) → (option_eq eq p q ≡ true) ↔ (number_of p ≡ number_of q)
  same-parent None None = (λ e. refl, λ e. refl)
  same-parent None (Some n) = (λ e. cc e, λ e. cc e)
  same-parent (Some m) None = (λ e. cc e, λ e. cc e)
  same-parent (Some m) (Some n) = (λ e. ap Some ((tells m n).0 e), λ e. let s : m.0 ≡ n.0 = cc in (tells m n).1 s)

-- one place more, where `all` is a member
pub place-more : (all : MemberId) (ps : List (Option MemberId)) (i : ℕ) (d p : Option MemberId)
    (found now : List MemberId) (m : MemberId)
    → i < length ps → p ≡ get_or ps i d → numbers_of found ≡ places_of all.0 (map number_of (take i ps))
    → now ≡ found ++ m ∷ []
    → m ≡ unwrap_or p all → numbers_of now ≡ places_of all.0 (map number_of (take (i + 1) ps))
place-more all ps i d p found now m l ep e en em = grind (arith, common_steps, take_more, map-append)

-- the parents of one member more
pub linked-more : (all : MemberId) (lists : List (Vec (Option MemberId) Global)) (i : ℕ)
    (d v : Vec (Option MemberId) Global)
    (found now : List (List MemberId)) → i < length lists → v ≡ get_or lists i d
    → parents_in found ≡ map (places_of all.0) (parents_told (take i lists))
    → parents_in now ≡ parents_in found ++ places_of all.0 (map number_of v.items) ∷ []
    → parents_in now ≡ map (places_of all.0) (parents_told (take (i + 1) lists))
linked-more all lists i d v found now l ev e en = grind (arith, common_steps, take_more, map-append)
