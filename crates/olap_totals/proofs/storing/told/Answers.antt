use Rattle.std.{proofs.Common.{◌<◌, ◌≤◌, ℕ, List, length, le-ltb, lt-ltb, ap, subst, sym, ◌∙◌}, specs.Prelude.All}
use Rattle.olap_base.specs.{Graph.{Graph, IsCategory}, Instance.Instance, Limits.most_store_bytes}
use Rattle.olap_schema.specs.Schemas.{schema_of}
use Rattle.olap_view.specs.{Seen.views_of, StoreText.store_text}
use Rattle.olap_totals.proofs.StoreLemmas.{long_is_refused, short_is_told}
use Rattle.olap_totals.proofs.storing.told.Goals as goal

pub print_store-requires-clause-categories : goal.print_store-requires-clause-categories
print_store-requires-clause-categories c =
    subst (λ (h : Graph). All (λ v. IsCategory h v.target) (views_of c.args.store.now)) (sym c.graph.ensures)
    c.requires.categories

pub print_store-requires-clause-at_members : goal.print_store-requires-clause-at_members
print_store-requires-clause-at_members c =
    subst (λ (j : Instance). All (λ v. All (λ r. r.at < length j) v.rows) (views_of c.args.store.now))
    (sym c.instance.ensures) c.requires.at_members

pub returns-then-len-gt-MOST_STORE_BYTES : goal.returns-then-len-gt-MOST_STORE_BYTES
returns-then-len-gt-MOST_STORE_BYTES c =
    let i = c.args.legal.now in
    let graph = (schema_of c.args.schema.now).graph in
    let views = views_of c.args.store.now in
    let text = c.into_bytes-bytes.ensures ∙ c.in_ok-text.ensures.text
    ∙ ap (λ (h : Graph). store_text h c.instance.result.now views) c.graph.ensures
    ∙ ap (λ (j : Instance). store_text graph j views) c.instance.ensures in
    let long = subst (λ (xs : List ℕ). most_store_bytes < length xs) text
    (subst (λ n. most_store_bytes < n)
    (c.len.ensures ∙ c.into_bytes-bytes.result.ok.0) c.if-len-gt-MOST_STORE_BYTES.true) in
    record {
      replies = long_is_refused graph i views (lt-ltb most_store_bytes (length (store_text graph i views)) long)
          c.refuse_long.result c.refuse_long.ensures.refused;
    }

pub returns : goal.returns
returns c =
    let i = c.args.legal.now in
    let graph = (schema_of c.args.schema.now).graph in
    let views = views_of c.args.store.now in
    let text = c.into_bytes-bytes.ensures ∙ c.in_ok-text.ensures.text
    ∙ ap (λ (h : Graph). store_text h c.instance.result.now views) c.graph.ensures
    ∙ ap (λ (j : Instance). store_text graph j views) c.instance.ensures in
    let short = subst (λ (xs : List ℕ). length xs ≤ most_store_bytes) text
    (subst (λ n. n ≤ most_store_bytes)
    (c.len.ensures ∙ c.into_bytes-bytes.result.ok.0) c.if-len-gt-MOST_STORE_BYTES.false) in
    record {
      replies = short_is_told graph i views (le-ltb most_store_bytes (length (store_text graph i views)) short)
          c.yes.result c.yes.ensures.status (c.yes.ensures.bytes ∙ text);
    }
