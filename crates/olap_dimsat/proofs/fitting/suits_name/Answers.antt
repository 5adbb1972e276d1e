use Rattle.std.proofs.{Common.{◌≡◌, ◌+◌, ◌-◌, ◌<◌, suc, ap, sym, ◌∙◌, arith}, lemmas.Grind.get_or_default_zero}
use Rattle.std.specs.Prelude.{◌==◌, slice_index}
use Rattle.olap_frozen.specs.Leaves.{chosen_of}
use Rattle.olap_dimsat.{proofs.ReadLemmas.index_of_choice, proofs.Truths.beq_false, specs.Asking.task_of}
use Rattle.olap_dimsat.specs.{Reads.index_in, Tasks.constant_count}
use Rattle.olap_encoding.specs.Layouts.{name_variable}
use Rattle.olap_dimsat.proofs.fitting.suits_name.Goals as goal

pub returns-clause-no : goal.returns-clause-no
returns-clause-no c = λ n v r h.
    let j = c.args.lit.variable - c.index-start.result.now in
    let f : c.from.result ≡ c.args.c.0 = c.from.ensures in
    let s : c.index-start.result.now ≡ slice_index a.layout.now.starts.items c.args.c.0 =
    c.index-start.ensures ∙ get_or_default_zero a.layout.now.starts.items c.from.result c.index-start.result.now
    (let l = c.requires.task.laid.starts in let h = c.requires.category in omega (arith, f))
    ∙ ap (λ k. slice_index a.layout.now.starts.items k) f in
    let inside : j < constant_count (task_of a) c.args.c.0 =
    let t = c.if-place-from.false in let e = c.names-names.ensures.count in let n = c.from-2.ensures in omega arith in
    let is : c.args.lit.variable ≡ name_variable a.layout.now c.args.c.0 j = let t = c.if-lit-start.false in
    omega (arith, s) in
    let q : c.from-4.result ≡ index_in (chosen_of edges names) c.args.c.0 =
    c.from-4.ensures ∙ ap (λ xs. slice_index xs c.from-3.result) c.items.ensures
    ∙ ap (λ k. slice_index names k) c.from-3.ensures
    ∙ sym (index_of_choice edges names c.args.c.0 c.requires.declared) in
    let next : (j + 1) ≡ suc j = omega arith in
    beq_false (c.from-4.result == (j + 1)) c.args.lit.positive n
    (ap (λ x. x == (j + 1)) q ∙ ap (λ k. index_in (chosen_of edges names) c.args.c.0 == k) next
    ∙ sym (r.named c.args.c.0 j c.requires.category inside) ∙ ap v (sym is) ∙ h)
  where
    open c use {args.a.now as a, args.frozen.now.edges, args.frozen.now.names}
