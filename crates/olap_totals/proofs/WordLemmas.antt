-- Words of a command line as commands, and a step that is refused.
use Rattle.std.proofs.Common.{◌≡◌, ℕ, suc, ◌+◌, ◌<◌, ◌≤◌, ◌&&◌, nat_le, nat_lt, length, List, [], ◌∷◌, cond, get_or, Err, None, Some, ap, arith, refl, subst, sym}
use Rattle.std.{proofs.lemmas.Bool.Decides.nat_tests, specs.String.string_bytes, specs.declared.alloc.Global.Global}
use Rattle.std.specs.declared.string.String.{String}
use Rattle.olap_base.specs.Limits.{most_views}
use Rattle.olap_order.specs.{Arguments.between, Behind.by_four, Families.IsNoUsage, Judged.Replies}
use Rattle.olap_order.specs.{Order.{Order, refused}, Refusals.IsRefusal, Taken.{NoAnswer, PlainStep}, Words.texts}
use Rattle.olap_order.specs.declared.replies.Stop.{Stop}
use Rattle.olap_totals.specs.{Commands.store_order, Seen.{seen, store_by}, declared.words.Command.Command}
use Rattle.olap_order.specs.declared.replies.Stop.TheVariants as stops

-- the order of a command isn't the usage
pub seen_is_no_usage : (command : Command) → IsNoUsage (seen command)
seen_is_no_usage command bytes e = absurd (cc)

-- an order by four words is that of each word in its place
pub by_four_places : {Q : Type 0} (order : List ℕ → List ℕ → List ℕ → List ℕ → Order Q) (words : List (String Global))
    (a b c d : String Global) (p q r s : List ℕ) → 4 ≤ length words → length words < 5
    → a ≡ get_or words 0 a → b ≡ get_or words 1 b → c ≡ get_or words 2 c → d ≡ get_or words 3 d
    → p ≡ string_bytes a → q ≡ string_bytes b → r ≡ string_bytes c → s ≡ string_bytes d
    → Some (order p q r s) ≡ by_four order (texts words)
by_four_places order [] a b c d p q r s least most = absurd (omega (arith, least))
by_four_places order (x ∷ []) a b c d p q r s least most = absurd (omega (arith, least))
by_four_places order (x ∷ y ∷ []) a b c d p q r s least most = absurd (omega (arith, least))
by_four_places order (x ∷ y ∷ z ∷ []) a b c d p q r s least most = absurd (omega (arith, least))
by_four_places order (x ∷ y ∷ z ∷ w ∷ []) a b c d p q r s least most =
    λ at0 at1 at2 at3 is0 is1 is2 is3. cc
by_four_places order (x ∷ y ∷ z ∷ w ∷ v ∷ more) a b c d p q r s least most = absurd (omega (arith, most))

-- one category or more by their number after three words
is_few_is : (n : ℕ) → nat_lt 0 n && nat_le n most_views
    ≡ nat_le 4 (suc (suc (suc n))) && nat_le (suc (suc (suc n))) (most_views + 3)
is_few_is n = grind (arith, nat_tests)

-- the order of `store` by its words one by one is that by this many words
pub store_is : (words : List (List ℕ)) → store_by words ≡ between 4 (most_views + 3) store_order words
store_is [] = refl
store_is (a ∷ []) = refl
store_is (a ∷ b ∷ []) = refl
store_is (a ∷ b ∷ c ∷ categories) =
    ap (λ t. cond t (Some (store_order (a ∷ b ∷ c ∷ categories))) None) (is_few_is (length categories))

-- a step that reads nothing is refused
pub plain_refused : {T X : Type 0} {meaning : X → T} (step : Order T) (why : List ℕ) (stop : Stop)
    → step ≡ refused why → IsRefusal why stop → PlainStep step meaning (Err stop)
plain_refused step why (stops.Refused bytes) e is = record {
  comes_out = tt;
  ends = subst (λ o. Replies NoAnswer o (Err (stops.Refused bytes))) (sym e)
      (record { right = λ files. (refl, is); verdict = tt; unread = λ h. absurd (cc) });
}
plain_refused step why stops.Read e is = absurd is
plain_refused step why (stops.Memory m) e is = record {
  comes_out = tt;
  ends = record { right = tt; verdict = tt; unread = λ h. absurd (cc) };
}
