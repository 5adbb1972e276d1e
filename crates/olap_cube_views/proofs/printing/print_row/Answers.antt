-- The ids of the row's members, and its numbers after them.
use Rattle.std.proofs.Common.{◌∷◌, ◌++◌, [], Bor, List, ℕ, length, map, take, ap, ◌∙◌, arith, rules}
use Rattle.std.{proofs.lemmas.List.{length-map, map-append}, specs.Fmt.signed_decimal, specs.Prelude.decimal}
use Rattle.olap_base.specs.Instance.{Instance}
use Rattle.olap_cube_views.{proofs.CubePrintingLemmas.{four_same, ids_end}, specs.CubeViewText.ids_in}
use Rattle.olap_cube_views.specs.Dimensions.{instances_of}
use Rattle.olap_cube_views.proofs.printing.print_row.Goals as goal

pub returns-clause-text : goal.returns-clause-text
returns-clause-text c =
    let is = instances_of c.args.instances.now in
    let ms = take (length is) c.args.row.now.members.places in
    let m = length-map c.args.instances.now (λ (i : Bor Instance). i.now) in
    let ids = ids_end is ms c.ids.k _ (omega arith) c.ids.invariant in
    let fields =
    ap (map (λ (f : Bor (List ℕ)). f.now)) (c.deref.ensures.value ∙ c.in_ok-extend_from_slice.ensures.items)
    ∙ map-append (λ (f : Bor (List ℕ)). f.now) c.ids.fields.items (c.as_bytes.result ∷ b ∷ d ∷ e ∷ [])
    ∙ ap (λ (t : List (List ℕ)). t ++ (c.as_bytes.result.now ∷ b.now ∷ d.now ∷ e.now ∷ [])) ids
    ∙ four_same (ids_in is ms) c.as_bytes.result.now b.now d.now e.now (decimal r.count) (signed_decimal r.sum)
    (signed_decimal r.least) (signed_decimal r.greatest) (search rules) (search rules) (search rules) (search rules) in
    rw fields at c.row.ensures.text
  where
    open c use {as_bytes-2.result as b, as_bytes-3.result as d, as_bytes-4.result as e, args.row.now.summary as r}
