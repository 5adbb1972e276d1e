-- There is one answer at most to a question that a plan answers.
use Rattle.std.proofs.Common.{◌≡◌, ℕ, List, ◌++◌, ap, sym, subst, ◌∙◌, inl, inr, arith}
use Rattle.std.specs.Prelude.{Ok, Result, Err}
use Rattle.olap_base.specs.{Instance.Instance, Limits.most_facts, Views.{View, members, rows_from_views}}
use Rattle.olap_ast.specs.Schema.{Schema}
use Rattle.olap_facts.specs.FactMeaning.{facts_meant}
use Rattle.olap_generate.specs.Generated.{ShowsGenerated, generated_text, stored_views}
use Rattle.olap_generate.specs.{Location.{location_text, region}, Members.{fact_rows, member_rows}}
use Rattle.olap_instance.specs.InstanceMeaning.{instance_meant}
use Rattle.olap_nav.{proofs.ChosenLemmas.chosen_direct, specs.PlanText.plan_text}
use Rattle.olap_nav.specs.Plans.{IsPlan, IsNoDearer, sources_in}
use Rattle.olap_schema_text.specs.Judging.{schema_read}
use Rattle.olap_view.specs.{Stores.chosen, ViewText.view_text}
use Rattle.olap_order.specs.declared.status.Status.{Status}
use Rattle.olap_plans.specs.Laws.{AnswersAreOne, PlanIsOne, PlansGiveDirectViews}
use Rattle.olap_plans.specs.{Questions.{IsAnswer, Question, ByPlan, ByGenerated}, Shown.ShowsPlan}

-- ---- plans

-- of two masks of which neither is dearer, each is the other
least_mask : (views : List (View ℕ ℕ)) (m n : ℕ) → IsNoDearer views m n → IsNoDearer views n m → m ≡ n
least_mask views m n (inl a) (inl b) = absurd (omega arith)
least_mask views m n (inl a) (inr b) = let e = b.0 in absurd (omega arith)
least_mask views m n (inr a) (inl b) = let e = a.0 in absurd (omega arith)
least_mask views m n (inr a) (inr b) = let x = a.1 in let y = b.1 in omega arith

-- a target has one plan at most
one_mask : (s : Schema) (views : List (View ℕ ℕ)) (c m n : ℕ) → IsPlan s views c m → IsPlan s views c n → m ≡ n
one_mask s views c m n a b = least_mask views m n (a.cheapest n b.serves) (b.cheapest m a.serves)

-- so one text shows it
one_plan : (s : Schema) (i : Instance) (views : List (View ℕ ℕ)) (c : ℕ) (xs ys : List ℕ) → ShowsPlan s i views c xs
    → ShowsPlan s i views c ys → xs ≡ ys
one_plan s i views c xs ys a b =
    let p = one_mask s views c a.mask b.mask a.plan b.plan in
    a.text ∙ ap (λ mask. plan_text s.graph (sources_in views mask)
    ++ view_text i (record { target = c; rows = rows_from_views (members i) c (chosen views mask) })) p ∙ sym b.text

-- ---- made inputs

-- the value of a result, or another where it has none
taken : {A B : Type 0} → Result A B → A → A
taken (Ok x) d = x
taken (Err e) d = d

-- a result has one value
same_ok : {A B : Type 0} (x y : A) (r : Result A B) → r ≡ Ok x → r ≡ Ok y → x ≡ y
unfolding taken
same_ok x y r a b = ap (λ t. taken t x) (sym a ∙ b)

-- one text shows what comes of a seed and a size
one_made : (seed size : ℕ) (xs ys : List ℕ) → ShowsGenerated seed size xs → ShowsGenerated seed size ys → xs ≡ ys
one_made seed size xs ys a b =
    let p : a.schema ≡ b.schema = same_ok a.schema b.schema (schema_read location_text) a.made.schema_text
    b.made.schema_text in
    let m : a.members ≡ b.members = same_ok a.members b.members (instance_meant b.schema.graph (member_rows seed size))
    (subst (λ (s : Schema). instance_meant s.graph (member_rows seed size) ≡ Ok a.members) p a.made.member_text)
    b.made.member_text in
    let t : facts_meant most_facts b.schema.graph b.members (fact_rows seed size) ≡ Ok a.facts =
    subst (λ (i : Instance). facts_meant most_facts b.schema.graph i (fact_rows seed size) ≡ Ok a.facts) m
    (subst (λ (s : Schema). facts_meant most_facts s.graph a.members (fact_rows seed size) ≡ Ok a.facts) p
    a.made.fact_text) in
    let f : a.facts ≡ b.facts = same_ok a.facts b.facts
    (facts_meant most_facts b.schema.graph b.members (fact_rows seed size)) t b.made.fact_text in
    let v : stored_views a.members a.facts ≡ stored_views b.members b.facts = λ i. stored_views (m i) (f i) in
    let plan : IsPlan b.schema (stored_views b.members b.facts) region a.mask =
    subst (λ (vs : List (View ℕ ℕ)). IsPlan b.schema vs region a.mask) v
    (subst (λ (s : Schema). IsPlan s (stored_views a.members a.facts) region a.mask) p a.plan) in
    let n = one_mask b.schema (stored_views b.members b.facts) region a.mask b.mask plan b.plan in
    a.text ∙ (λ i. generated_text (p i) (m i) (f i) (n i)) ∙ sym b.text

-- ---- all questions

-- a question has one status and one list of bytes at most
one_answer : (q : Question) (s t : Status) (xs ys : List ℕ) → IsAnswer q s xs → IsAnswer q t ys
    → (s ≡ t) × (xs ≡ ys)
one_answer (ByPlan z i views c) s t xs ys (inl a) (inl b) = (a.0 ∙ sym b.0, one_plan z i views c xs ys a.1 b.1)
one_answer (ByPlan z i views c) s t xs ys (inl a) (inr b) = absurd (b.1 a.1.mask a.1.plan.serves)
one_answer (ByPlan z i views c) s t xs ys (inr a) (inl b) = absurd (a.1 b.1.mask b.1.plan.serves)
one_answer (ByPlan z i views c) s t xs ys (inr a) (inr b) = (a.0 ∙ sym b.0, a.2 ∙ sym b.2)
one_answer (ByGenerated seed size) s t xs ys a b = (a.0 ∙ sym b.0, one_made seed size xs ys a.1 b.1)

-- so the law of answers holds
pub answers_are_one : AnswersAreOne
answers_are_one = one_answer

-- so the law of plans holds
pub plan_is_one : PlanIsOne
plan_is_one = one_mask

-- views of one fact table that a plan takes give what the facts give
pub plans_give_direct_views : PlansGiveDirectViews
plans_give_direct_views s i views c mask legal plan facts table e =
    ap (rows_from_views (members i) c) (chosen_direct i facts 0 views mask e)
    ∙ sym (plan.serves.summarizable i legal facts table)
