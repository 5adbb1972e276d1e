-- The text of a schema with the constraints that are needed is that of the schema with their lines after it.
use Rattle.std.proofs.{Common.{◌≡◌, ◌∙◌, ℕ, List, ◌∷◌, ◌++◌, append_assoc, map, ap, sym}, lemmas.List.map-append}
use Rattle.std.specs.Prelude.{zip}
use Rattle.olap_ast.specs.Schema.{Schema}
use Rattle.olap_needs.{proofs.RoomLemmas.needs_stay_readable, specs.Laws.NeedsAreRead}
use Rattle.olap_needs.specs.Needs.{need, needs_text, with_needs}
use Rattle.olap_schema_text.{proofs.PrintLemmas.text_of_lines-append, specs.Judging.schema_read}
use Rattle.olap_schema_text.specs.Printing.{category_text, constraint_text, edge_text, schema_text, text_of_lines, version_text}
use Rattle.olap_schema_text.specs.PrintingLaws.{PrintedIsRead}

-- the lines after the text
text_with : (s : Schema) (c : ℕ) (sources bs : List ℕ)
    → schema_text s ++ needs_text s.graph c sources bs ≡ schema_text (with_needs s c sources bs)
text_with s c sources bs =
    let g = s.graph in
    let line = constraint_text g in
    let categories = map category_text (zip g.names g.numbers) in
    let edges = map (edge_text g) g.edges in
    let old = map line s.constraints in
    let new = map line (map (need c sources) bs) in
    sym (text_of_lines-append (version_text ∷ (categories ++ (edges ++ old))) new)
    ∙ ap (λ xs. text_of_lines (version_text ∷ xs))
    (append_assoc categories (edges ++ old) new ∙ ap (λ xs. categories ++ xs) (append_assoc edges old new
    ∙ ap (λ xs. edges ++ xs) (sym (map-append line s.constraints (map (need c sources) bs)))))

-- the law
pub needs_are_read : PrintedIsRead → NeedsAreRead
needs_are_read printed s c sources bs r t cs n room =
    let w = needs_stay_readable s c sources bs r t cs n room in
    let e = text_with s c sources bs in
    (e, ap schema_read e ∙ printed (with_needs s c sources bs) w)
