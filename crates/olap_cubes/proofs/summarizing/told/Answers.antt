-- The answer is `yes`, or `no` and the counterexample.
use Rattle.std.proofs.Common.{inl, inr, map, refl, subst, sym, ◌∙◌}
use Rattle.olap_cube.specs.Told.{tuple_of, tuples_in}
use Rattle.olap_cube_summ.specs.{Dimensions.schemas_of, Found.chosen_of}
use Rattle.olap_order.{proofs.Replying.{done, replies_no_memory}, specs.Judged.IsVerdict}
use Rattle.olap_cubes.specs.Questions.{ByCube}
use Rattle.olap_cubes.proofs.summarizing.told.Goals as goal

pub returns-in_err-from_slice-in-Ok-None : goal.returns-in_err-from_slice-in-Ok-None
returns-in_err-from_slice-in-Ok-None c = record {
  replies = replies_no_memory c.from_residual.result c.from_residual.ensures.1;
}

pub returns-in_ok-from_slice-in-Ok-None : goal.returns-in_ok-from_slice-in-Ok-None
returns-in_ok-from_slice-in-Ok-None c =
    let asked = ByCube (schemas_of c.args.cube.now) (tuple_of c.args.target.now) (tuples_in c.args.sources.now) in
    let status = c.yes.ensures.status in
    let none = rw c.in-Ok-None.field-0-is at c.in-Ok-None.ensures.none in
    record {
      replies = done asked c.yes.result status (inl (
        status,
        none.0 refl,
        c.yes.ensures.bytes ∙ c.in_ok-from_slice-in-Ok-None.ensures.items,
      ));
    }

pub returns-in_err-difference-in-Ok-Some : goal.returns-in_err-difference-in-Ok-Some
returns-in_err-difference-in-Ok-Some c =
    let is = c.from_residual-in_err-difference-in-Ok-Some in
    record { replies = replies_no_memory is.result is.ensures.1 }

pub returns-in_ok-difference-in-Ok-Some : goal.returns-in_ok-difference-in-Ok-Some
returns-in_ok-difference-in-Ok-Some c =
    let status = c.no.ensures.status in
    let found = rw c.in-Ok-Some.field-0-is at c.in-Ok-Some.ensures.found in
    let text = c.no.ensures.bytes ∙ c.in_ok-difference-in-Ok-Some.ensures.text in
    record {
      replies = record {
        right = λ files. inr (status, (map chosen_of c.in-Ok-Some.found.founds, found.is_one, text));
        verdict = subst IsVerdict (sym status) tt;
        unread = λ e. absurd (cc);
      };
    }
