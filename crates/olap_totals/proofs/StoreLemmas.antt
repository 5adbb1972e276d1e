-- The text of stored views, as it is told or refused.
use Rattle.std.proofs.Common.{◌≡◌, List, ℕ, Ok, Err, true, false, ap, refl, subst, sym}
use Rattle.std.specs.Prelude.{Bool, codes, if◌then◌else◌, length, nat_lt}
use Rattle.olap_base.specs.{Graph.Graph, Instance.Instance, Limits.most_store_bytes, Views.View}
use Rattle.olap_view.specs.StoreText.{store_text}
use Rattle.olap_order.{proofs.Replying.told_shown, specs.Judged.Replies, specs.Order.{Order, Told, refused}}
use Rattle.olap_order.specs.{Refusals.IsRefusal, declared.replies.Reply.Reply, declared.replies.Stop.Stop}
use Rattle.olap_order.specs.declared.status.Status.TheVariants.{Yes}
use Rattle.olap_totals.specs.{Commands.store_told, Questions.{IsAnswer, Question}}
use Rattle.olap_order.specs.declared.replies.Stop.TheVariants as stops

-- what is refused answers its order
refused_shown : (why : List ℕ) (stop : Stop) → IsRefusal why stop → Replies IsAnswer (refused why) (Err stop)
refused_shown why (stops.Refused bytes) is = record {
  right = λ files. (refl, is);
  verdict = tt;
  unread = λ e. absurd (cc);
}
refused_shown why stops.Read is = absurd is
refused_shown why (stops.Memory m) is = record { right = tt; verdict = tt; unread = λ e. absurd (cc) }

module _ (g : Graph) (i : Instance) (views : List (View ℕ ℕ)) where
  -- of this length, as it is told or refused
  abbrev of_length : Bool → Order Question
  of_length long = if long then refused (codes "store TooLong") else Told Yes (store_text g i views)

  -- a text that is too long is refused
  pub long_is_refused : nat_lt most_store_bytes (length (store_text g i views)) ≡ true → (stop : Stop)
      → IsRefusal (codes "store TooLong") stop → Replies IsAnswer (store_told g i views) (Err stop)
  long_is_refused long stop is = subst (λ o. Replies IsAnswer o (Err stop)) (sym (ap of_length long))
      (refused_shown (codes "store TooLong") stop is)

  -- another is told
  pub short_is_told : nat_lt most_store_bytes (length (store_text g i views)) ≡ false → (reply : Reply)
      → reply.status ≡ Yes → reply.bytes.items ≡ store_text g i views
      → Replies IsAnswer (store_told g i views) (Ok reply)
  short_is_told short reply status bytes = subst (λ o. Replies IsAnswer o (Ok reply)) (sym (ap of_length short))
      (told_shown (store_text g i views) reply status bytes)
