-- A reader of facts after a part of a piece, and at the end of its text.
--     no-cut, one-cut    what the splitter says of the rest of a piece
--     stands-on, stands-end, fed-on
--                        more of the piece was taken
--     whatever-comes     what its records have, whatever comes after it
--     last-taken         the last record, which the text's end ends
use Rattle.std.proofs.Common.{◌≡◌, ◌<◌, ◌≤◌, ◌+◌, ◌-◌, ◌∷◌, ◌++◌, ◌∙◌, Bool, true, false, ℕ, List, [], Option, None, Some, length, map, take, drop, refl, sym, ap, subst, append_assoc, take-add}
use Rattle.std.proofs.lemmas.List.{append-nil, take_all, take-append-drop}
use Rattle.std.specs.Prelude.{All, MatchOption, MatchResult, OnOk, Result, Ok, Err, ⊤}
use Rattle.olap_base.{proofs.ListLemmas.rest_is, specs.Graph.Graph, specs.Instance.Instance, specs.Refusing.IsRefusedBy}
use Rattle.olap_base.specs.{Views.{Fact, IsFactTable}, declared.refusals.Fault.Fault, declared.refusals.Refusal.Refusal}
use Rattle.olap_records.proofs.JoinLemmas.{begins, fed-more}
use Rattle.olap_records.specs.Standing.{Standing, at_start, behind, records_fed, records_if, standing}
use Rattle.olap_facts.proofs.{CountingLemmas.all-counted, TableLemmas.{table-members, told-pushed}}
use Rattle.olap_facts.specs.{FactText.facts_read_within, Feeding.{Counted, Fed, Feeding, facts_if, fed_read}}
use Rattle.olap_facts.specs.{Seen.fact_of, declared.kinds.FactKind.FactKind}
use Rattle.olap_facts.specs.declared.tables.Fact as told

-- some records more
pub stands-on : (fed piece : List ℕ) (at n : ℕ) (done rs : List (List (List ℕ))) (s new : Standing)
    → standing at_start (fed ++ take at piece) ≡ behind done s
    → standing s (take n (drop at piece)) ≡ behind rs new
    → standing at_start (fed ++ take (at + n) piece) ≡ behind (done ++ rs) new
stands-on fed piece at n done rs s new a b =
    ap (λ xs. standing at_start (fed ++ xs)) (take-add at n piece)
    ∙ ap (standing at_start) (sym (append_assoc fed (take at piece) (take n (drop at piece))))
    ∙ fed-more (fed ++ take at piece) (take n (drop at piece)) done rs s new a b

-- a text in two parts
pub whole-is : (fed piece more : List ℕ) (m : ℕ)
    → (fed ++ piece) ++ more ≡ (fed ++ take m piece) ++ (drop m piece ++ more)
whole-is fed piece more m =
    ap (λ xs. (fed ++ xs) ++ more) (sym (take-append-drop m piece))
    ∙ ap (λ xs. xs ++ more) (sym (append_assoc fed (take m piece) (drop m piece)))
    ∙ append_assoc (fed ++ take m piece) (drop m piece) more

-- the records that end in more of the piece were taken, whose facts were told before or now
pub fed-on : {r u : Feeding} (fed piece : List ℕ) (at n : ℕ) {facts more : List (Fact ℕ)} (rs : List (List (List ℕ)))
    (g : Fed r (fed ++ take at piece) facts) → standing r.stands (take n (drop at piece)) ≡ behind rs u.stands
    → Counted u.most u.graph u.instance u.handed u.begun (g.done ++ rs) more → Fed u (fed ++ take (at + n) piece) more
fed-on {r} {u} fed piece at n rs g one counted = record {
  done = g.done ++ rs;
  stands = stands-on fed piece at n g.done rs r.stands u.stands g.stands one;
  counted = counted;
}

-- no record ends in the rest of the piece
pub stands-end : (fed piece : List ℕ) (at n : ℕ) (done : List (List (List ℕ))) (s new : Standing)
    → standing at_start (fed ++ take at piece) ≡ behind done s → standing s (take n (drop at piece)) ≡ behind [] new
    → length piece ≤ at + n → standing at_start (fed ++ piece) ≡ behind done new
stands-end fed piece at n done s new a none all =
    ap (λ xs. standing at_start (fed ++ xs)) (sym (take_all (at + n) piece all))
    ∙ stands-on fed piece at n done [] s new a none ∙ ap (λ d. behind d new) (append-nil done)

-- what is so of all records that begin with those of what was taken is so of the text's, whatever comes after
pub whatever-comes : (P : List (List (List ℕ)) → Type 0) (fed piece : List ℕ) (m : ℕ)
    (done : List (List (List ℕ))) (new : Standing) → standing at_start (fed ++ take m piece) ≡ behind done new
    → ((left : List (List (List ℕ))) → P (done ++ left)) → (more : List ℕ) → P (records_fed ((fed ++ piece) ++ more))
whatever-comes P fed piece m done new stands so more =
    let b = begins (fed ++ take m piece) (drop m piece ++ more) done new stands in
    subst P (sym (ap records_fed (whole-is fed piece more m) ∙ b.1)) (so b.0)

-- the facts so far, with one that is pushed
pub counted-pushed : {most : ℕ} {g : Graph} {i : Instance} {handed : ℕ} {begun : Bool} {done : List (List (List ℕ))}
    (fs : List told.Fact) {new : List told.Fact} (facts : List (Fact ℕ)) (f : told.Fact) → new ≡ fs ++ f ∷ []
    → Counted most g i handed begun done ((facts ++ map fact_of fs) ++ fact_of f ∷ [])
    → Counted most g i handed begun done (facts ++ map fact_of new)
counted-pushed {most} {g} {i} {handed} {begun} {done} fs facts f e =
    subst (Counted most g i handed begun done) (told-pushed fs f e facts)

-- what the splitter says of the rest of a piece, without or with a record
module _ (piece : List ℕ) (at n : ℕ) (found : Bool) (row : List (List ℕ)) (s new : Standing)
    (h : standing s (take n (take (length piece - at) (drop at piece))) ≡ behind (records_if found row) new)
  where
    pub no-cut : found ≡ false → standing s (take n (drop at piece)) ≡ behind [] new
    no-cut e =
        ap (λ xs. standing s (take n xs)) (sym (rest_is at piece)) ∙ h
        ∙ ap (λ b. behind (records_if b row) new) e

    pub one-cut : found ≡ true → standing s (take n (drop at piece)) ≡ behind (row ∷ []) new
    one-cut e =
        ap (λ xs. standing s (take n xs)) (sym (rest_is at piece)) ∙ h
        ∙ ap (λ b. behind (records_if b row) new) e

-- the last record, which the text's end ends
module _ (r : Feeding) (fed : List ℕ) (facts : List (Fact ℕ)) (done : List (List (List ℕ))) (row : List (List ℕ)) where
  pub last-taken : records_fed fed ≡ done ++ row ∷ [] → (result : Result (Option told.Fact) (Refusal (Fault FactKind)))
      → MatchResult result
      (λ o. MatchOption o (Counted r.most r.graph r.instance r.handed true (done ++ row ∷ []) facts)
      (λ f. Counted r.most r.graph r.instance (r.handed + 1) true (done ++ row ∷ []) (facts ++ fact_of f ∷ [])))
      (λ e. (left : List (List (List ℕ)))
      → IsRefusedBy e (facts_read_within r.most r.graph r.instance ((done ++ row ∷ []) ++ left)))
      → MatchResult result (λ last. fed_read r fed ≡ Ok (facts ++ facts_if last)) (λ e. IsRefusedBy e (fed_read r fed))
  last-taken all (Ok None) h =
      ap (facts_read_within r.most r.graph r.instance) all
      ∙ all-counted r.most r.graph r.instance r.handed (done ++ row ∷ []) facts (h.going refl)
      ∙ ap Ok (sym (append-nil facts))
  last-taken all (Ok (Some f)) h =
      ap (facts_read_within r.most r.graph r.instance) all
      ∙ all-counted r.most r.graph r.instance (r.handed + 1) (done ++ row ∷ []) (facts ++ fact_of f ∷ []) (h.going refl)
  last-taken all (Err e) h =
      subst (λ (rs : List (List (List ℕ))). IsRefusedBy e (facts_read_within r.most r.graph r.instance rs))
      (append-nil (done ++ row ∷ []) ∙ sym all) (h [])

-- the facts of a table stand at members
pub on-members : {E : Type 0} (g : Graph) (i : Instance) (fs : List told.Fact) (result : Result ⊤ E)
    → OnOk result (IsFactTable g i (map fact_of fs)) → OnOk result (All (λ f. f.member.0 < length i) fs)
on-members g i fs (Ok x) t = table-members g i fs t
on-members g i fs (Err e) t = tt
