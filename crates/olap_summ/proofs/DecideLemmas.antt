-- A decision, as its searches are asked in turn.
use Rattle.std.proofs.{Common.{◌≡◌, ◌<◌, ◌+◌, ℕ, List, length, get_or, refl, sym, ◌∙◌}, lemmas.List.length-set}
use Rattle.std.specs.{Prelude.slice_set, Vec.with_items}
use Rattle.olap_ast.specs.{Questions.NoneFrozen, Schema.Schema, Summarizable.IsSummarizable, Valid.IsValidSchema}
use Rattle.olap_dimsat.specs.Searches.{IsMadeWith, candidates_in, found_in, named_in, root_of}
use Rattle.olap_dimsat.specs.declared.searching.Search.{Search}
use Rattle.olap_frozen.specs.{LeastFound.IsLeastFound, declared.frozen.Frozen.Frozen}
use Rattle.olap_summ.proofs.DecisionLemmas.{AreThose, NoneAmong, answer_is_no, decision_kept, found_here, none_more, one_asked, shows_no, those_back}
use Rattle.olap_summ.specs.{Asking.IsFirstFound, Counterexamples.IsCounterexampleFound}
use Rattle.olap_summ.specs.Decisions.{HasSizesOf, IsDecisionOf, asked_by, candidates_at, found_at, sources_of, target_of}
use Rattle.olap_summ.specs.declared.{deciding.Asked.Asked, deciding.Decision.Decision, questioning.Questions.Questions}
use Rattle.olap_dimsat.specs.declared.finding.Wanted.TheVariants as wanted

-- the decision with these searches
abbrev pub with_searches : Decision → List Asked → Decision
with_searches d xs =
    record { searches = with_items d.searches xs; edges = d.edges; categories = d.categories; alloc = d.alloc }

-- e is a decision for the same questions, with the names and the sizes of d
pub record IsKept (s : Schema) (q : Questions) (d e : Decision) : Type 0 where
  pub made : IsDecisionOf s q e
  pub candidates : (r : ℕ) → candidates_at e r ≡ candidates_at d r
  pub sizes : (f : Frozen) → HasSizesOf d f → HasSizesOf e f

-- so it is with searches that were asked
pub kept : (s : Schema) (q : Questions) (d : Decision) (xs : List Asked) → IsDecisionOf s q d
    → AreThose s (asked_by q) d.searches.items xs → length xs ≡ d.searches.len → IsKept s q d (with_searches d xs)
kept s q d xs is t e = record {
  made = decision_kept s q d (with_searches d xs) is those refl refl;
  candidates = those.names;
  sizes = λ f h. record { edges = h.edges; names = h.names };
}
  where
    those : AreThose s (asked_by q) d.searches.items (with_searches d xs).searches.items
    those = those_back s (asked_by q) d.searches.items xs d.searches.len e t

-- e is such a decision, and shows f as the counterexample
pub record IsShown (s : Schema) (q : Questions) (d e : Decision) (f : Frozen) : Type 0 where
  pub kept : IsKept s q d e
  pub isnt : IsSummarizable s (target_of q) (sources_of q) → ⊥
  pub counterexample : IsCounterexampleFound s (target_of q) (sources_of q) (found_at e f)
  pub sizes : HasSizesOf e f

-- so it is with the first frozen dimension that its searches found
pub shown : (s : Schema) (q : Questions) (d e : Decision) (f : Frozen) → IsValidSchema s → IsDecisionOf s q d
    → IsKept s q d e → IsFirstFound wanted.Least s (asked_by q) (found_at e f) → IsShown s q d e f
shown s q d e f v is k first = record {
  kept = k;
  isnt = answer_is_no s q d (found_at e f) v is first;
  counterexample = shows_no s q d (found_at e f) v is first;
  sizes = record {
    edges = first.found_as.sized.edge_count ∙ sym k.made.edges;
    names = first.found_as.sized.name_count ∙ sym k.made.categories;
  };
}

-- the searches of d stand as ys do once the k-th came back, which was this one as it was asked
pub record IsTurn (s : Schema) (q : Questions) (d : Decision) (k : ℕ) (asked : Search) (ys : List Asked) : Type 0 where
  pub those : AreThose s (asked_by q) d.searches.items ys
  pub none : NoneFrozen s (asked_by q) (root_of asked) (candidates_in asked)
      → NoneAmong s (asked_by q) (k + 1) d.searches.items
  pub some : (f : Frozen) → IsLeastFound s (asked_by q) (root_of asked) (found_in asked f)
      → IsShown s q d (with_searches d ys) f

-- the searches with this one in the k-th place
abbrev pub put_back : List Asked → ℕ → Asked → Search → List Asked
put_back xs k a search = slice_set xs k (record { root = (get_or xs k a).root; search = search })

-- so it is where those before it found nothing, and it keeps its root and its names
pub turn : (s : Schema) (q : Questions) (d : Decision) (xs : List Asked) (k : ℕ) (a : Asked) (search : Search)
    → IsDecisionOf s q d → AreThose s (asked_by q) d.searches.items xs → NoneAmong s (asked_by q) k d.searches.items
    → k < length xs → length xs ≡ d.searches.len → IsMadeWith s (asked_by q) search
    → root_of search ≡ root_of (get_or xs k a).search → named_in search ≡ named_in (get_or xs k a).search
    → IsTurn s q d k (get_or xs k a).search (put_back xs k a search)
turn s q d xs k a search is t before h e made root names = record {
  those = those;
  none = λ none. none_more s (asked_by q) d.searches.items xs k a t h none before;
  some = λ f least. shown s q d (with_searches d ys) f (t.asked k a h).made.valid is back
      (found_here s q d xs (with_searches d ys).searches.items k a f is t h before least
      (those_back s (asked_by q) d.searches.items ys d.searches.len (length-set xs k after ∙ e) those));
}
  where
    after : Asked
    after = record { root = (get_or xs k a).root; search = search }

    ys : List Asked
    ys = put_back xs k a search

    those : AreThose s (asked_by q) d.searches.items ys
    those = one_asked s (asked_by q) d.searches.items xs k a search t h made root names

    back : IsKept s q d (with_searches d ys)
    back = kept s q d ys is those (length-set xs k after ∙ e)
