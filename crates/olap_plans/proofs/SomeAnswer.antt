-- Each question that a plan answers has an answer: a target has a plan, or no mask serves it.
use Rattle.std.{proofs.Common.{ℕ, ◌≤◌, ◌^◌, List, ◌++◌, length, refl, inl, inr}, specs.Prelude.{◌⊎◌, codes}}
use Rattle.olap_base.specs.{Deciding.{dec_and, dec_iff}, Instance.Instance, Limits.most_generated}
use Rattle.olap_base.specs.Views.{Fact, View, members, rows_from_views}
use Rattle.olap_ast.specs.{Schema.Schema, Summarizable.{IsSummarizable, SummarizableExactlyIfNoneFrozen}}
use Rattle.olap_ast.specs.Valid.{IsValidSchema}
use Rattle.olap_exists.specs.Existing.{CounterexamplesExist}
use Rattle.olap_generate.specs.{Generated.{generated_text, stored_views}, Inputs.{AnInputIsMade, IsMade}}
use Rattle.olap_generate.specs.{Location.{location_text, region}, Served.RegionsAreServed}
use Rattle.olap_nav.specs.{PlanText.plan_text, Plans.{IsPlan, Serves, sources_in}}
use Rattle.olap_order.specs.{Outputs.refusal, declared.status.Status.Status}
use Rattle.olap_order.specs.declared.status.Status.TheVariants.{Yes, Refused}
use Rattle.olap_plans.{proofs.CheapestLemmas.find, specs.Existing.AnswersExist}
use Rattle.olap_plans.specs.Questions.{ByGenerated, ByPlan, IsAnswer}
use Rattle.olap_schema_text.specs.Laws.{ReadSchemasAreValid}
use Rattle.olap_view.specs.{Stores.chosen, ViewText.view_text}
use native.Mathlib.Decide.{dec_lt}

module _ (counterexamples : CounterexamplesExist) (summarizable : SummarizableExactlyIfNoneFrozen) where
  -- whether a target is summarizable
  dec_summarizable : (s : Schema) (c : ℕ) (sources : List ℕ) → IsValidSchema s → Dec (IsSummarizable s c sources)
  dec_summarizable s c sources v = elim (counterexamples s c sources v) [
    | inl h ↦ yes h
    | inr t ↦ no (λ h. (summarizable s c sources t.0 v.hierarchy t.3.least.candidates).0 h t.1 t.3.bottom t.2
        t.3.least.is_one)
  ]

  -- whether a mask serves
  dec_serves : (s : Schema) (views : List (View ℕ ℕ)) (c : ℕ) → IsValidSchema s → (mask : ℕ)
      → Dec (Serves s views c mask)
  dec_serves s views c v mask = dec_iff (λ t. record { within = t.0; summarizable = t.1 })
      (λ z. (z.within, z.summarizable))
      (dec_and (dec_lt mask (2 ^ length views)) (dec_summarizable s c (sources_in views mask) v))

  -- a plan, or no mask serves
  plan_or_none : (s : Schema) (views : List (View ℕ ℕ)) (c : ℕ) → IsValidSchema s
      → ((mask : ℕ) × IsPlan s views c mask) ⊎ ((mask : ℕ) → Serves s views c mask → ⊥)
  plan_or_none s views c v =
      elim (find views (Serves s views c) (dec_serves s views c v) (2 ^ length views)) [
        | inl t ↦ inl (t.0, record { serves = t.1.has; cheapest = λ m h. t.1.cheapest m h.within h })
        | inr n ↦ inr (λ m h. n m h.within h)
      ]

  module _ (valid : ReadSchemasAreValid) (made : AnInputIsMade) (served : RegionsAreServed) where
    -- what is made has a plan
    generated : (seed size : ℕ) → 1 ≤ size → size ≤ most_generated
        → (status : Status) × (bytes : List ℕ) × IsAnswer (ByGenerated seed size) status bytes
    generated seed size a b =
        let t = made seed size a b in
        go t.0 t.1 t.2 t.3 (plan_or_none t.0 (stored_views t.1 t.2) region (valid location_text t.0 t.3.schema_text))
      where
        go : (s : Schema) (i : Instance) (facts : List (Fact ℕ)) → IsMade seed size s i facts
            → ((mask : ℕ) × IsPlan s (stored_views i facts) region mask)
            ⊎ ((mask : ℕ) → Serves s (stored_views i facts) region mask → ⊥)
            → (status : Status) × (bytes : List ℕ) × IsAnswer (ByGenerated seed size) status bytes
        go s i facts m (inl t) = (
          Yes,
          generated_text s i facts t.0,
          (
            refl,
            record {
              schema = s;
              members = i;
              facts = facts;
              mask = t.0;
              made = m;
              plan = t.1;
              text = refl;
            },
          ),
        )
        go s i facts m (inr n) = let w = served seed size s i facts m in absurd (n w.0 w.1)

    pub answers_exist : AnswersExist
    answers_exist (ByGenerated seed size) t = generated seed size t.0 t.1
    answers_exist (ByPlan s i views c) v = elim (plan_or_none s views c v) [
      | inl t ↦ (
        Yes,
        plan_text s.graph (sources_in views t.0)
            ++ view_text i (record { target = c; rows = rows_from_views (members i) c (chosen views t.0) }),
        inl (refl, record { mask = t.0; plan = t.1; text = refl }),
      )
      | inr n ↦ (Refused, refusal (codes "answer NotAnswerable"), inr (refl, n, refl))
    ]
