-- A whole text that is read as one piece.
use Rattle.std.proofs.Common.{◌≡◌, ◌<◌, ◌∷◌, ◌++◌, ◌∙◌, ℕ, List, [], Option, None, Some, length, map, refl, sym, ap, subst}
use Rattle.std.{proofs.lemmas.List.append-nil, specs.Prelude.{IfSome, Result}}
use Rattle.olap_base.specs.{Graph.{Graph, IsBottom}, Instance.{Instance, category_of}, Limits.most_listed_facts}
use Rattle.olap_base.specs.{Refusing.IsRefusedBy, Views.{Fact, IsFactTable}, declared.refusals.Fault.Fault}
use Rattle.olap_base.specs.declared.refusals.Refusal.{Refusal}
use Rattle.olap_records.specs.{Pieces.RecordsAtEnd, Records.records_of, Standing.{records_fed, unmarked}}
use Rattle.olap_facts.{proofs.TableLemmas.{table-pushed, told-pushed}, specs.FactText.{facts_read, facts_read_within}}
use Rattle.olap_facts.specs.{Feeding.{Feeding, facts_if, fed_read}, Seen.fact_of, declared.kinds.FactKind.FactKind}
use Rattle.olap_facts.specs.declared.tables.Fact as told

module _ (law : RecordsAtEnd) (g : Graph) (i : Instance) (feed : Feeding) (graph : feed.graph ≡ g)
    (instance : feed.instance ≡ i) (most : feed.most ≡ most_listed_facts) (text piece : List ℕ)
    (is : piece ≡ unmarked text) where
  -- what the text stands for, by what the reader reads against
  pub read-by : fed_read feed piece ≡ facts_read g i (records_of text)
  read-by =
      ap (λ (h : Graph). facts_read_within feed.most h feed.instance (records_fed piece)) graph
      ∙ ap (λ (j : Instance). facts_read_within feed.most g j (records_fed piece)) instance
      ∙ ap (λ m. facts_read_within m g i (records_fed piece)) most
      ∙ ap (facts_read g i) (ap records_fed is ∙ law text)

  -- a refusal of the piece is that of the text
  pub refused-whole : (e : Refusal (Fault FactKind)) → ((more : List ℕ) → IsRefusedBy e (fed_read feed (piece ++ more)))
      → IsRefusedBy e (facts_read g i (records_of text))
  refused-whole e h =
      subst (λ (t : Result (List (Fact ℕ)) (Fault FactKind)). IsRefusedBy e t)
      (ap (fed_read feed) (append-nil piece) ∙ read-by) (h [])

-- the list has the facts of the piece, and then the last
pub record IsListed (g : Graph) (i : Instance) (before : List told.Fact) (last : Option told.Fact)
    (after : List told.Fact) : Type 0 where
  pub all : map fact_of after ≡ map fact_of before ++ facts_if last
  pub table : IsFactTable g i (map fact_of after)

-- the same facts at the same instance
pub table-at : (g : Graph) (i : Instance) (r : Feeding) → r.graph ≡ g → r.instance ≡ i → (fs : List (Fact ℕ))
    → IsFactTable r.graph r.instance fs → IsFactTable g i fs
table-at g i r graph instance fs t =
    subst (λ (j : Instance). IsFactTable g j fs) instance (subst (λ (h : Graph). IsFactTable h r.instance fs) graph t)

module _ (g : Graph) (i : Instance) (before : List told.Fact) (t : IsFactTable g i (map fact_of before)) where
  -- the last is listed
  pub last-listed : (r : Feeding) → r.graph ≡ g → r.instance ≡ i → {o : Option told.Fact} {f : told.Fact} → o ≡ Some f
      → {after : List told.Fact} → after ≡ before ++ f ∷ [] → IfSome o (λ q. q.member.0 < length r.instance)
      → IfSome o (λ q. IsBottom r.graph (category_of r.instance q.member.0)) → IsListed g i before o after
  last-listed r graph instance {o} {f} is e m b =
      let member : f.member.0 < length i = rw (← instance) (rw is at m) in
      let bottom : IsBottom g (category_of i f.member.0) = rw (← graph, ← instance) (rw is at b) in
      rw is (record { all = sym (told-pushed before f e []); table = table-pushed before f e g i t member bottom })

  -- there is none
  pub none-listed : (last : Option told.Fact) → ((f : told.Fact) → last ≡ Some f → ⊥) → {after : List told.Fact}
      → after ≡ before → IsListed g i before last after
  none-listed None none e = rw e (record { all = sym (append-nil (map fact_of before)); table = t })
  none-listed (Some f) none e = absurd (none f refl)
