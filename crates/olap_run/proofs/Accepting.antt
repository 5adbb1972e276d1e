-- What is written of a proof is accepted: the order of `verify` comes to the certificate by the steps of `prove`.
--     proved_is_accepted
use Rattle.std.proofs.Common.{◌≡◌, ◌≤◌, ℕ, suc, List, [], ◌∷◌, ◌++◌, Bool, true, false, cond, Option, None, Some, MatchOption, length, refl, sym, subst, inl, le-ltb}
use Rattle.std.specs.{List.list_any, Option.{option_or, unwrap_or}, Prelude.{Result, Ok, Err, codes, nat_lt, ◌==◌}}
use Rattle.olap_base.specs.{Graph.Graph, Limits.{most_certificate_bytes, most_schema_bytes, most_words}}
use Rattle.olap_base.specs.declared.refusals.Fault.{Fault}
use Rattle.olap_ast.specs.Schema.{Schema}
use Rattle.olap_graph.specs.Lookups.{category_named}
use Rattle.olap_outside.specs.Files.{Files}
use Rattle.olap_order.{proofs.BehindLemmas.{three_or_more_is, two_or_more_is}, specs.Arguments.at_least}
use Rattle.olap_order.specs.{Behind.{another_category, categories_from}, Families.asking, Judged.Gives}
use Rattle.olap_order.specs.{Order.{Done, Order, Read, Told, and_then, ok_or, refused}, Outputs.line}
use Rattle.olap_order.specs.Steps.{category_word, fault_text, meaning_or_fault, schema_file, text_file}
use Rattle.olap_order.specs.{Taken.ComesOut, declared.status.Status.Status}
use Rattle.olap_order.specs.declared.status.Status.TheVariants.{Refused, Yes}
use Rattle.olap_proof.specs.declared.forms.Form.{Form, TheVariants.{Long, Short}}
use Rattle.olap_reasoning.specs.{Commands.sources_order, Questions.ByProof}
use Rattle.olap_run.specs.{Commands.{order_named, usage}, Laws.{ProvedIsAccepted, judging, proving}}
use Rattle.olap_run.specs.Questions.{IsAnswer, Question, OfCubes, OfPlans, OfReasoning, OfTotals, OfVerdicts}
use Rattle.olap_schema_text.specs.Judging.{schema_read}
use Rattle.olap_verdicts.specs.{Commands.verify_order, Questions.ByCertificate}
use Rattle.olap_reasoning.specs.Questions as reasoning
use Rattle.olap_totals.specs.Commands as totals
use Rattle.olap_plans.specs.Commands as plans
use Rattle.olap_cubes.specs.Commands as cubes
use Rattle.olap_verdicts.specs.Commands as verdict_commands
use Rattle.olap_verdicts.specs.Questions as verdicts

-- ---- steps that come out

-- what comes of two steps, comes of each
both_came : {T U : Type 0} (files : Files) (step : Order T) (next : T → Order U) (y : U)
    → ComesOut files (and_then step next) y → (x : T) × ComesOut files step x × ComesOut files (next x) y
both_came files (Done x) next y h = (x, refl, h)
both_came files (Told status bytes) next y h = absurd h
both_came {T} {U} files (Read name rest) next y h = go (files name) (λ text. both_came files (rest text) next y) h
  where
    go : (o : Option (List ℕ)) → ((text : List ℕ) → ComesOut files (and_then (rest text) next) y
        → (x : T) × ComesOut files (rest text) x × ComesOut files (next x) y)
        → MatchOption o ⊥ (λ text. ComesOut files (and_then (rest text) next) y)
        → (x : T) × MatchOption o ⊥ (λ text. ComesOut files (rest text) x) × ComesOut files (next x) y
    go None f h = absurd h
    go (Some text) f h = f text h

-- and what comes of each, of both
each_came : {T U : Type 0} (files : Files) (step : Order T) (next : T → Order U) (x : T) (y : U)
    → ComesOut files step x → ComesOut files (next x) y → ComesOut files (and_then step next) y
each_came files (Done z) next x y e h = subst (λ w. ComesOut files (next w) y) (sym e) h
each_came files (Told status bytes) next x y e h = absurd e
each_came files (Read name rest) next x y e h = go (files name) (λ text d. each_came files (rest text) next x y d h) e
  where
    go : (o : Option (List ℕ)) → ((text : List ℕ) → ComesOut files (rest text) x
        → ComesOut files (and_then (rest text) next) y) → MatchOption o ⊥ (λ text. ComesOut files (rest text) x)
        → MatchOption o ⊥ (λ text. ComesOut files (and_then (rest text) next) y)
    go None f e = absurd e
    go (Some text) f e = f text e

-- what answers the rest, answers the order
answered_after : {T Q : Type 0} (answers : Q → Status → List ℕ → Type 0) (files : Files) (step : Order T)
    (next : T → Order Q) (x : T) (status : Status) (bytes : List ℕ) → ComesOut files step x
    → Gives answers files (next x) status bytes → Gives answers files (and_then step next) status bytes
answered_after answers files (Done z) next x status bytes e g =
    subst (λ w. Gives answers files (next w) status bytes) (sym e) g
answered_after answers files (Told told text) next x status bytes e g = absurd e
answered_after answers files (Read name rest) next x status bytes e g =
    go (files name) (λ text d. answered_after answers files (rest text) next x status bytes d g) e
  where
    go : (o : Option (List ℕ)) → ((text : List ℕ) → ComesOut files (rest text) x
        → Gives answers files (and_then (rest text) next) status bytes)
        → MatchOption o ⊥ (λ text. ComesOut files (rest text) x)
        → MatchOption o ⊥ (λ text. Gives answers files (and_then (rest text) next) status bytes)
    go None f e = absurd e
    go (Some text) f e = f text e

-- ---- steps that tell no yes

-- the step tells no yes: it comes out, or is refused
abbrev TellsNoYes : {T : Type 0} → Order T → Type 0
TellsNoYes (Done x) = Unit {0}
TellsNoYes (Told status bytes) = Yes ≡ status → ⊥
TellsNoYes (Read name next) = (text : List ℕ) → TellsNoYes (next text)

-- a refusal is no yes
refusal_is_none : Yes ≡ Refused → ⊥
refusal_is_none = λ e. absurd (cc)

-- nor is a test that may refuse
tested_is_none : {T : Type 0} (b : Bool) (why : List ℕ) (x : T) → TellsNoYes (cond b (refused why) (Done x))
tested_is_none true why x = refusal_is_none
tested_is_none false why x = tt

-- or both, one after the other
none_of_both : {T Q : Type 0} (step : Order T) (next : T → Order Q) → TellsNoYes step → ((x : T) → TellsNoYes (next x))
    → TellsNoYes (and_then step next)
none_of_both (Done x) next s n = n x
none_of_both (Told status bytes) next s n = s
none_of_both (Read name rest) next s n = λ text. none_of_both (rest text) next (s text) n

-- where such a step and the rest are answered by yes, the step comes out, and the rest is answered so
came : {T Q : Type 0} (answers : Q → Status → List ℕ → Type 0) (files : Files) (step : Order T) (next : T → Order Q)
    (bytes : List ℕ) → TellsNoYes step → Gives answers files (and_then step next) Yes bytes
    → (x : T) × ComesOut files step x × Gives answers files (next x) Yes bytes
came answers files (Done x) next bytes n g = (x, refl, g)
came answers files (Told status text) next bytes n g = absurd (n g.0)
came {T} {Q} answers files (Read name rest) next bytes n g =
    go (files name) (λ text. came answers files (rest text) next bytes (n text)) g
  where
    go : (o : Option (List ℕ)) → ((text : List ℕ) → Gives answers files (and_then (rest text) next) Yes bytes
        → (x : T) × ComesOut files (rest text) x × Gives answers files (next x) Yes bytes)
        → MatchOption o ⊥ (λ text. Gives answers files (and_then (rest text) next) Yes bytes)
        → (x : T) × MatchOption o ⊥ (λ text. ComesOut files (rest text) x) × Gives answers files (next x) Yes bytes
    go None f g = absurd g
    go (Some text) f g = f text g

-- ---- the steps of both commands

-- a category that is named, or not
named_or_refused : (o : Option ℕ) (why : List ℕ) → TellsNoYes (ok_or o why)
named_or_refused None why = refusal_is_none
named_or_refused (Some c) why = tt

-- different categories, or a refusal
different_or_refused : (twice : List ℕ) (g : Graph) (at : ℕ) (earlier : List ℕ) (names : List (List ℕ))
    → TellsNoYes (categories_from twice g at earlier names)
different_or_refused twice g at earlier [] = tt
different_or_refused twice g at earlier (name ∷ names) =
    none_of_both (another_category twice g at earlier name)
    (λ c. categories_from twice g (suc at) (earlier ++ c ∷ []) names)
    (none_of_both (category_word g at name)
    (λ c. cond (list_any (λ d. d == c) earlier) (refused (fault_text (codes "word") at twice)) (Done c))
    (named_or_refused (category_named g name) (fault_text (codes "word") at (codes "UnknownCategory")))
    (λ c. tested_is_none (list_any (λ d. d == c) earlier) (fault_text (codes "word") at twice) c))
    (λ c. different_or_refused twice g (suc at) (earlier ++ c ∷ []) names)

-- what a text means, or a refusal
meant_or_refused : {T : Type 0} (label part : List ℕ) (r : Result T (Fault (List ℕ)))
    → TellsNoYes (meaning_or_fault label part r)
meant_or_refused label part (Ok x) = tt
meant_or_refused label part (Err fault) = refusal_is_none

-- a schema, or a refusal
schema_or_refused : (label file : List ℕ) → TellsNoYes (schema_file label file)
schema_or_refused label file = none_of_both (text_file label most_schema_bytes file)
    (λ text. meaning_or_fault label (codes "line") (schema_read text))
    (λ text. tested_is_none (nat_lt most_schema_bytes (length text)) (label ++ codes " TooLong") text)
    (λ text. meant_or_refused label (codes "line") (schema_read text))

-- a category is named whichever word it is
same_named : (files : Files) (o : Option ℕ) (c : ℕ) (why other : List ℕ) → ComesOut files (ok_or o why) c
    → ComesOut files (ok_or o other) c
same_named files None c why other h = absurd h
same_named files (Some d) c why other h = h

-- and is another, if it is
same_other : (files : Files) (b : Bool) (c d : ℕ) (why other : List ℕ)
    → ComesOut files (cond b (refused why) (Done c)) d → ComesOut files (cond b (refused other) (Done c)) d
same_other files true c d why other h = absurd h
same_other files false c d why other h = h

-- different categories are, from whichever word on
same_different : (files : Files) (twice : List ℕ) (g : Graph) (at by : ℕ) (earlier : List ℕ) (names : List (List ℕ))
    (cs : List ℕ) → ComesOut files (categories_from twice g at earlier names) cs
    → ComesOut files (categories_from twice g by earlier names) cs
same_different files twice g at by earlier [] cs h = h
same_different files twice g at by earlier (name ∷ names) cs h =
    let b = both_came files (another_category twice g at earlier name)
    (λ c. categories_from twice g (suc at) (earlier ++ c ∷ []) names) cs h in
    let w = both_came files (category_word g at name) _ b.0 b.1 in
    each_came files (another_category twice g by earlier name)
    (λ c. categories_from twice g (suc by) (earlier ++ c ∷ []) names) b.0 cs
    (each_came files (category_word g by name) _ w.0 b.0
    (same_named files (category_named g name) w.0 _ _ w.1)
    (same_other files (list_any (λ d. d == w.0) earlier) w.0 b.0 (fault_text (codes "word") at twice)
    (fault_text (codes "word") by twice) w.2))
    (same_different files twice g (suc at) (suc by) (earlier ++ b.0 ∷ []) names cs b.2)

-- a text that isn't too long is what stands in the file
held_text : (files : Files) (label file text : List ℕ) (most : ℕ) → files file ≡ Some text → length text ≤ most
    → ComesOut files (text_file label most file) text
held_text files label file text most held short =
    subst (λ (o : Option (List ℕ)). MatchOption o ⊥
    (λ t. ComesOut files (cond (nat_lt most (length t)) (refused (label ++ codes " TooLong")) (Done t)) text))
    (sym held)
    (subst (λ b. ComesOut files (cond b (refused (label ++ codes " TooLong")) (Done text)) text)
    (sym (le-ltb most (length text) short)) refl)

-- ---- the orders

-- words that are answered by yes are no usage
no_usage : (files : Files) (b : Bool) (order : Order Question) (bytes : List ℕ)
    → Gives IsAnswer files (cond b usage order) Yes bytes → Gives IsAnswer files order Yes bytes
no_usage files true order bytes g = absurd (cc)
no_usage files false order bytes g = g

-- few words are a command's
few_words : (files : Files) (b : Bool) (order : Order Question) (status : Status) (bytes : List ℕ) → b ≡ false
    → Gives IsAnswer files order status bytes → Gives IsAnswer files (cond b usage order) status bytes
few_words files b order status bytes e g =
    subst (λ b. Gives IsAnswer files (cond b usage order) status bytes) (sym e) g

module _ (form : Form) (schema target : List ℕ) (sources : List (List ℕ)) where
  -- after the schema, the order of `prove`: the target, and the sources
  abbrev sources_of : Schema → Order reasoning.Question
  sources_of s =
      and_then (category_word s.graph 3 target) (λ c.
      and_then (categories_from (codes "DuplicateSource") s.graph 4 [] sources) (λ cs.
      Done (ByProof form s c cs)))

  -- it tells no yes
  proof_or_refused : TellsNoYes (sources_order (ByProof form) (schema ∷ target ∷ sources))
  proof_or_refused = none_of_both (schema_file (codes "schema") schema) sources_of
      (schema_or_refused (codes "schema") schema)
      (λ s. none_of_both (category_word s.graph 3 target)
      (λ c. and_then (categories_from (codes "DuplicateSource") s.graph 4 [] sources) (λ cs.
      Done (ByProof form s c cs)))
      (named_or_refused (category_named s.graph target) (fault_text (codes "word") 3 (codes "UnknownCategory")))
      (λ c. none_of_both (categories_from (codes "DuplicateSource") s.graph 4 [] sources)
      (λ cs. Done (ByProof form s c cs))
      (different_or_refused (codes "DuplicateSource") s.graph 4 [] sources) (λ cs. tt)))

  module _ (certificate : List ℕ) (files : Files) (text : List ℕ) (held : files certificate ≡ Some text)
      (short : length text ≤ most_certificate_bytes) where
    -- after it, the order of `verify`: the target, the sources, and the certificate
    abbrev certificate_of : Schema → Order verdicts.Question
    certificate_of s =
        and_then (category_word s.graph 4 target) (λ c.
        and_then (categories_from (codes "DuplicateSource") s.graph 5 [] sources) (λ cs.
        and_then (text_file (codes "certificate") most_certificate_bytes certificate) (λ text.
        Done (ByCertificate form s c cs text))))

    -- where the steps of `prove` come out, those of `verify` do, with the certificate
    certificate_comes : (s : Schema) (q : reasoning.Question) → ComesOut files (sources_of s) q
        → (c : ℕ) × (cs : List ℕ) × (ByProof form s c cs ≡ q)
        × ComesOut files (certificate_of s) (ByCertificate form s c cs text)
    certificate_comes s q h =
        let target_comes = both_came files (category_word s.graph 3 target)
        (λ c. and_then (categories_from (codes "DuplicateSource") s.graph 4 [] sources) (λ cs.
        Done (ByProof form s c cs))) q h in
        let c = target_comes.0 in
        let sources_come = both_came files (categories_from (codes "DuplicateSource") s.graph 4 [] sources)
        (λ cs. Done (ByProof form s c cs)) q target_comes.2 in
        let cs = sources_come.0 in (
          c,
          cs,
          sources_come.2,
          each_came files (category_word s.graph 4 target)
              (λ c. and_then (categories_from (codes "DuplicateSource") s.graph 5 [] sources) (λ cs.
              and_then (text_file (codes "certificate") most_certificate_bytes certificate) (λ text.
              Done (ByCertificate form s c cs text)))) c (ByCertificate form s c cs text)
              (same_named files (category_named s.graph target) c _ _ target_comes.1)
              (each_came files (categories_from (codes "DuplicateSource") s.graph 5 [] sources)
              (λ cs. and_then (text_file (codes "certificate") most_certificate_bytes certificate) (λ text.
              Done (ByCertificate form s c cs text))) cs (ByCertificate form s c cs text)
              (same_different files (codes "DuplicateSource") s.graph 4 5 [] sources cs sources_come.1)
              (each_came files (text_file (codes "certificate") most_certificate_bytes certificate)
              (λ text. Done (ByCertificate form s c cs text)) text (ByCertificate form s c cs text)
              (held_text files (codes "certificate") certificate text most_certificate_bytes held short) refl)),
        )

    -- a proof that is written is accepted
    yes_is_accepted : (q : reasoning.Question) (s : Schema) (c : ℕ) (cs : List ℕ) → ByProof form s c cs ≡ q
        → IsAnswer (OfReasoning q) Yes text
        → IsAnswer (OfVerdicts (ByCertificate form s c cs text)) Yes (line (codes "accepted"))
    yes_is_accepted q s c cs e a = go (subst (λ q. IsAnswer (OfReasoning q) Yes text) (sym e) a)
      where
        go : IsAnswer (OfReasoning (ByProof form s c cs)) Yes text
            → IsAnswer (OfVerdicts (ByCertificate form s c cs text)) Yes (line (codes "accepted"))
        go given = inl (refl, given.1, refl)

    -- what the order of `prove` writes, that of `verify` accepts
    accepted : Gives IsAnswer files
        (and_then (sources_order (ByProof form) (schema ∷ target ∷ sources)) (λ q. Done (OfReasoning q))) Yes
        text
        → Gives IsAnswer files (and_then (verify_order form (schema ∷ certificate ∷ target ∷ sources))
        (λ q. Done (OfVerdicts q))) Yes (line (codes "accepted"))
    accepted g =
        let asked = came IsAnswer files (sources_order (ByProof form) (schema ∷ target ∷ sources))
        (λ q. Done (OfReasoning q)) text
        proof_or_refused g in
        let read = both_came files (schema_file (codes "schema") schema) sources_of asked.0 asked.1 in
        let s = read.0 in
        let judged = certificate_comes s asked.0 read.2 in
        let c = judged.0 in
        let cs = judged.1 in
        let yes = yes_is_accepted asked.0 s c cs judged.2 asked.2 in
        answered_after IsAnswer files (verify_order form (schema ∷ certificate ∷ target ∷ sources))
        (λ q. Done (OfVerdicts q))
        (ByCertificate form s c cs text) Yes (line (codes "accepted"))
        (each_came files (schema_file (codes "schema") schema) certificate_of s (ByCertificate form s c cs text)
        read.1 judged.3) yes

-- ---- from the words to the orders

-- the orders of the families after the first
abbrev behind : List ℕ → List (List ℕ) → Option (Order Question)
behind name words =
    option_or (asking OfTotals (totals.order_named name words))
    (option_or (asking OfPlans (plans.order_named name words))
    (option_or (asking OfVerdicts (verdict_commands.order_named name words))
    (asking OfCubes (cubes.order_named name words))))

-- of words that ask for a proof the order is that of `prove`
to_prove : (files : Files) (form : Form) (words : List (List ℕ)) (o : Option (Order reasoning.Question))
    (rest : Option (Order Question)) (bytes : List ℕ) → Some (sources_order (ByProof form) words) ≡ o
    → Gives IsAnswer files (unwrap_or (option_or (asking OfReasoning o) rest) usage) Yes bytes
    → Gives IsAnswer files (and_then (sources_order (ByProof form) words) (λ q. Done (OfReasoning q))) Yes bytes
to_prove files form words o rest bytes e g =
    subst (λ (o : Option (Order reasoning.Question)). Gives IsAnswer files
    (unwrap_or (option_or (asking OfReasoning o) rest) usage) Yes bytes) (sym e) g

-- of words that give a certificate it is that of `verify`
to_verify : (files : Files) (form : Form) (words : List (List ℕ)) (o : Option (Order verdicts.Question))
    (rest : Option (Order Question)) (bytes : List ℕ) → Some (verify_order form words) ≡ o
    → Gives IsAnswer files (and_then (verify_order form words) (λ q. Done (OfVerdicts q))) Yes bytes
    → Gives IsAnswer files (unwrap_or (option_or (asking OfVerdicts o) rest) usage) Yes bytes
to_verify files form words o rest bytes e g =
    subst (λ (o : Option (Order verdicts.Question)). Gives IsAnswer files
    (unwrap_or (option_or (asking OfVerdicts o) rest) usage) Yes bytes) e g

-- what `prove` writes, `verify` accepts
pub proved_is_accepted : ProvedIsAccepted
proved_is_accepted Long schema certificate target sources files text few g held short =
    let asked = schema ∷ target ∷ sources in
    let given = schema ∷ certificate ∷ target ∷ sources in
    few_words files _ _ Yes (line (codes "accepted")) (le-ltb most_words _ few)
    (to_verify files Long given (at_least 3 (verify_order Long) given)
    (asking OfCubes (cubes.order_named (judging Long) given)) (line (codes "accepted"))
    (three_or_more_is (verify_order Long) given)
    (accepted Long schema target sources certificate files text held short
    (to_prove files Long asked (at_least 2 (sources_order (ByProof Long)) asked) (behind (proving Long) asked) text
    (two_or_more_is (sources_order (ByProof Long)) asked)
    (no_usage files (nat_lt most_words (length (proving Long ∷ asked)))
    (unwrap_or (order_named (proving Long) asked) usage) text g))))
proved_is_accepted Short schema certificate target sources files text few g held short =
    let asked = schema ∷ target ∷ sources in
    let given = schema ∷ certificate ∷ target ∷ sources in
    few_words files _ _ Yes (line (codes "accepted")) (le-ltb most_words _ few)
    (to_verify files Short given (at_least 3 (verify_order Short) given)
    (asking OfCubes (cubes.order_named (judging Short) given)) (line (codes "accepted"))
    (three_or_more_is (verify_order Short) given)
    (accepted Short schema target sources certificate files text held short
    (to_prove files Short asked (at_least 2 (sources_order (ByProof Short)) asked) (behind (proving Short) asked) text
    (two_or_more_is (sources_order (ByProof Short)) asked)
    (no_usage files (nat_lt most_words (length (proving Short ∷ asked)))
    (unwrap_or (order_named (proving Short) asked) usage) text g))))
