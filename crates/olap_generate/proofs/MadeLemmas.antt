-- The made texts as the readers meet them: they have no fault, and stand for one schema, one instance and one fact
-- table.
--     schema_faultless, members_faultless, facts_faultless    a made text has no fault
--     members_unbroken                                        the made instance breaks no law and no constraint
--     members_made, views_made                                what has been made, from what the readers answer
--     facts_table, facts_count, facts_fit                     the made facts
use Rattle.std.proofs.Common.{◌≡◌, ℕ, ◌<◌, ◌≤◌, ℤ, pos, negsuc, List, [], ◌∷◌, length, get_or, Result, Ok, Err, ap, arith, w64, subst, sym, ◌∙◌}
use Rattle.std.proofs.lemmas.List.{Elements.All-map, FromFn.length-map-range_with_len}
use Rattle.std.specs.{List.range_with_len, Prelude.All}
use Rattle.olap_ast.{proofs.Unviolated.legal_exactly, specs.Schema.{IsLegal, Schema}}
use Rattle.olap_base.specs.{Graph.Graph, Instance.Instance, Limits.{most_facts, most_generated}}
use Rattle.olap_base.specs.{Views.{Fact, IsFactTable, View}, declared.refusals.Fault.Fault}
use Rattle.olap_check.specs.{Reports.IsFirstReport, declared.violations.Violation.Violation}
use Rattle.olap_facts.{proofs.MeaningLemmas.{facts-named, meant-facts}, specs.FactMeaning.facts_meant}
use Rattle.olap_facts.specs.{FactText.facts_read_within, Kinds.name_of_kind, declared.kinds.FactKind.FactKind}
use Rattle.olap_instance.{proofs.MeaningLemmas.{instance-named, meant-instance}, specs.InstanceMeaning.instance_meant}
use Rattle.olap_instance.specs.{InstanceText.instance_read, Kinds.{name_of_kind as instance_kind}, Made.IsMadeFor}
use Rattle.olap_instance.specs.declared.refusals.InstanceKind.{InstanceKind}
use Rattle.olap_records.specs.{Records.records_of, Tables.named, Texts.text_of_rows}
use Rattle.olap_schema_text.specs.Judging.{schema_read}
use Rattle.olap_view.specs.RollingUp.{AreRolledUp}
use Rattle.olap_generate.proofs.{FactRows.{fact_rows_read_back, facts_made, value-mag}, InputLemmas.input_is_made}
use Rattle.olap_generate.proofs.{Location.{location_graph, location_schema}, LocationText.location_is_read}
use Rattle.olap_generate.proofs.{Made.{fact_of, made, made_facts}, Rows.rows_read_back}
use Rattle.olap_generate.specs.Location.{city, location_text, province, state}
use Rattle.olap_generate.specs.{Members.{fact_rows, member_rows, value}, Stages.{AreMadeMembers, AreMadeViews}}
use lib.Signed.{mag}
use mir.Val.{SFits}

-- two things that one text stands for are one
pub only_one : {T E : Type 0} (read : Result T E) (x y : T) → read ≡ Ok x → read ≡ Ok y → x ≡ y
only_one {T} {E} read x y a b = let e : ◌≡◌ {A = Result T E} (Ok x) (Ok y) = sym a ∙ b in cc

-- what stands for something has no fault
pub no_fault : {T E : Type 0} (read : Result T E) (x : T) (fault : E) → read ≡ Ok x → read ≡ Err fault → ⊥
no_fault {T} {E} read x fault a b = absurd (let e : ◌≡◌ {A = Result T E} (Ok x) (Err fault) = sym a ∙ b in cc)

-- ---- the schema

-- the schema's text has no fault
pub schema_faultless : (fault : _) → schema_read location_text ≡ Err fault → ⊥
schema_faultless fault e = no_fault (schema_read location_text) location_schema fault location_is_read e

-- what the text is read as is the made schema
pub schema_is : (s : Schema) → schema_read location_text ≡ Ok s → s ≡ location_schema
schema_is s e = only_one (schema_read location_text) s location_schema e location_is_read

module _ (seed size : ℕ) (few : size ≤ most_generated) (s : Schema) (read : schema_read location_text ≡ Ok s) where
  -- ---- the members

  members_stand : instance_meant s.graph (member_rows seed size) ≡ Ok (made seed size)
  members_stand = subst (λ (t : Schema). instance_meant t.graph (member_rows seed size) ≡ Ok (made seed size))
      (sym (schema_is s read)) (input_is_made seed size few).member_text

  members_are : (i : Instance) → instance_meant s.graph (member_rows seed size) ≡ Ok i → i ≡ made seed size
  members_are i e = only_one (instance_meant s.graph (member_rows seed size)) i (made seed size) e members_stand

  -- what a reader of the text of the members reads
  read_in : (g : Graph) (text : List ℕ) → g ≡ s.graph → text ≡ text_of_rows (member_rows seed size)
      → instance_meant g (records_of text) ≡ instance_meant s.graph (member_rows seed size)
  read_in g text same e =
      ap (λ (h : Graph). instance_meant h (records_of text)) same
      ∙ ap (instance_meant s.graph) (ap records_of e ∙ rows_read_back seed size)

  pub members_faultless : (g : Graph) (text : List ℕ) → g ≡ s.graph → text ≡ text_of_rows (member_rows seed size)
      → (fault : Fault InstanceKind) → instance_read g (records_of text) ≡ Err fault → ⊥
  members_faultless g text same e fault is =
      no_fault (instance_meant s.graph (member_rows seed size)) (made seed size)
      (record { at = fault.at; kind = instance_kind fault.kind }) members_stand
      (sym (read_in g text same e) ∙ instance-named g (records_of text) ∙ ap (named instance_kind) is)

  module _ (i : Instance) (g : Graph) (text : List ℕ) (same : g ≡ s.graph)
      (e : text ≡ text_of_rows (member_rows seed size)) (is : instance_read g (records_of text) ≡ Ok i) where
    stands : instance_meant s.graph (member_rows seed size) ≡ Ok i
    stands = sym (read_in g text same e) ∙ meant-instance g (records_of text) i is

    legal : IsLegal s i
    legal =
        subst (λ (t : Schema). IsLegal t i) (sym (schema_is s read))
        (subst (IsLegal location_schema) (sym (members_are i stands)) (input_is_made seed size few).legal)

    pub members_unbroken : (v : Violation) → IsFirstReport s i v → ⊥
    members_unbroken v r =
        (legal_exactly s i legal.is_instance legal.numerals).0 legal r.violation r.is_first.is_one

    pub members_made : IsMadeFor g i → (checked : Instance) → checked ≡ i → AreMadeMembers seed size s checked
    members_made made_for checked eq = subst (AreMadeMembers seed size s) (sym eq) (record {
      schema_text = read;
      member_text = stands;
      legal = legal;
      made_for = subst (λ (h : Graph). IsMadeFor h i) same made_for;
    })

-- ---- the facts

-- a small number has 64 bits
small_fits : (z : ℤ) → mag z < 1000 → SFits w64 z
small_fits (pos n) l = record { sfits = omega arith }
small_fits (negsuc n) l = record { sfits = omega arith }

module _ (seed size : ℕ) (few : size ≤ most_generated) (s : Schema) (read : schema_read location_text ≡ Ok s)
    (i : Instance) (told : instance_meant s.graph (member_rows seed size) ≡ Ok i) where
  -- what holds of what was made holds of what was read
  of_read : (P : Graph → Instance → Type 0) → P location_graph (made seed size) → P s.graph i
  of_read P p =
      subst (λ (t : Schema). P t.graph i) (sym (schema_is s read))
      (subst (P location_graph) (sym (members_are seed size few s read i told)) p)

  facts_stand : facts_meant most_facts s.graph i (fact_rows seed size) ≡ Ok (made_facts seed size)
  facts_stand = of_read (λ g j. facts_meant most_facts g j (fact_rows seed size) ≡ Ok (made_facts seed size))
      (input_is_made seed size few).fact_text

  -- what a reader of the text of the facts reads
  facts_in : (g : Graph) (text : List ℕ) → g ≡ s.graph → text ≡ text_of_rows (fact_rows seed size)
      → facts_meant most_facts g i (records_of text) ≡ facts_meant most_facts s.graph i (fact_rows seed size)
  facts_in g text same e =
      ap (λ (h : Graph). facts_meant most_facts h i (records_of text)) same
      ∙ ap (facts_meant most_facts s.graph i) (ap records_of e ∙ fact_rows_read_back seed size)

  pub facts_faultless : (g : Graph) (text : List ℕ) → g ≡ s.graph → text ≡ text_of_rows (fact_rows seed size)
      → (fault : Fault FactKind) → facts_read_within most_facts g i (records_of text) ≡ Err fault → ⊥
  facts_faultless g text same e fault is =
      no_fault (facts_meant most_facts s.graph i (fact_rows seed size)) (made_facts seed size)
      (record { at = fault.at; kind = name_of_kind fault.kind }) facts_stand
      (sym (facts_in g text same e) ∙ facts-named most_facts g i (records_of text) ∙ ap (named name_of_kind) is)

  -- the views that are rolled up
  pub views_made : (g : Graph) (text : List ℕ) (views : List (View ℕ ℕ)) → g ≡ s.graph
      → text ≡ text_of_rows (fact_rows seed size)
      → AreRolledUp g i (records_of text) (state ∷ province ∷ city ∷ []) views → IsLegal s i
      → AreMadeViews seed size s i views
  views_made g text views same e r legal = record {
    facts = r.facts;
    made = record {
      schema_text = read;
      member_text = told;
      legal = legal;
      fact_text = sym (facts_in g text same e) ∙ meant-facts most_facts g i (records_of text) r.facts r.read;
    };
    direct = r.direct;
  }

  module _ (facts : List (Fact ℕ))
      (stand : facts_meant most_facts s.graph i (fact_rows seed size) ≡ Ok facts) where
    facts_are : facts ≡ made_facts seed size
    facts_are =
        only_one (facts_meant most_facts s.graph i (fact_rows seed size)) facts
        (made_facts seed size) stand facts_stand

    pub facts_table : IsFactTable s.graph i facts
    facts_table = subst (IsFactTable s.graph i) (sym facts_are)
        (of_read (λ g j. IsFactTable g j (made_facts seed size)) (facts_made seed size few))

    pub facts_count : length facts ≡ size
    facts_count = ap length facts_are ∙ length-map-range_with_len (fact_of seed size) 1 size

    -- the values have 64 bits
    pub facts_fit : All (λ f. SFits w64 f.value) facts
    facts_fit = subst (All (λ (f : Fact ℕ). SFits w64 f.value)) (sym facts_are)
        (All-map (λ (f : Fact ℕ). SFits w64 f.value) (fact_of seed size) (range_with_len 1 size)
        (λ k d h. small_fits (value seed (get_or (range_with_len 1 size) k d))
        (value-mag seed (get_or (range_with_len 1 size) k d))))
