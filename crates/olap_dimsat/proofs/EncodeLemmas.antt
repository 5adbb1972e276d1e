-- The clauses of a task are the encoder's.
use Rattle.std.proofs.Common.{◌≡◌, ℕ, zero, suc, ◌≤◌, ◌<◌, List, length, Bool, refl, sym, ◌∙◌, ◌^◌, arith}
use Rattle.std.{proofs.lemmas.Bool.{eqb-true, eq-eqb}, specs.Prelude.{◌↔◌, IsTrue}}
use Rattle.olap_ast.{proofs.ConstantLemmas.{constant_in_constraint, constant_in_question}, specs.Frozen.Frozen}
use Rattle.olap_ast.specs.Valid.{IsFormulaAt, IsValidSchema}
use Rattle.olap_pool.specs.declared.pools.Pool.{Pool}
use Rattle.olap_encoding.{proofs.SpokenLemmas.spoken, specs.Encoding.{Encoding, IsLaid as IsLaidOut}}
use Rattle.olap_encoding.specs.{Formulas.IsSpokenQuestion, Layouts.{on_variable, present_variable, name_variable}}
use Rattle.olap_encoding.specs.{Meanings.{Fits, Means, index_of, meaning_at}, Meeting.{AreMetBy, valuation_in}}
use Rattle.olap_encoding.specs.declared.meanings.Meaning.{Meaning, TheVariants.{Named, On, Present}}
use Rattle.olap_names.specs.Questions.{IsQuestion, Question}
use Rattle.olap_dimsat.specs.{Pinned.IsEncoded, Reads.{Reads, index_in}, Tasks.{IsLaid, Task, schema_of}}
use Rattle.olap_base.proofs.ListLemmas.{same_truth}

-- a question of a valid schema's graph can be encoded
pub spoken_for : (q : Question) → IsValidSchema q.schema → IsFormulaAt q.schema.graph q.root q.formula
    → IsSpokenQuestion q
spoken_for q v f = record {
  roots = λ c h. (v.roots c h).1;
  constraints = λ c h. spoken q c.root c.formula (v.formulas c h) (constant_in_constraint q.schema q.formula c h);
  question = spoken q q.root q.formula f (constant_in_question q.schema q.formula);
}

-- ---- what its valuations read

-- an index is the same by the words of both crates
pub index_same : (f : Frozen) (c : ℕ) → index_of f c ≡ index_in f c
index_same f zero = refl
index_same f (suc c) = refl

-- a variable has the value of its meaning
at_meaning : (t : Task) (f : Frozen) (ms : List Meaning) (v : ℕ → Bool) (x : ℕ) (m : Meaning) → x < length ms
    → meaning_at ms x ≡ m
    → Fits (schema_of t) t.question.root f ms v → IsTrue (v x) ↔ Means (schema_of t) t.question.root f v m
at_meaning t f ms v x m h e fits = rw (← e) (fits.at x h)

-- a valuation that fits meanings laid out so reads the frozen dimension
reads : (t : Task) (f : Frozen) (ms : List Meaning) (v : ℕ → Bool) → IsLaidOut t.question ms t.layout
    → Fits (schema_of t) t.question.root f ms v → Reads t f v
reads t f ms v laid fits = record {
  on = λ e h.
      let i = at_meaning t f ms v (on_variable e) (On e) (let r = laid.room in omega arith) (laid.on e h) fits in
      same_truth _ _ i.0 i.1;
  present = λ c h.
      let i = at_meaning t f ms v (present_variable t.layout c) (Present c)
      (let r = laid.room in let q = laid.edges in omega arith) (laid.present c h) fits in
      same_truth _ _ i.0 i.1;
  named = λ c j h b.
      let l = laid.named c j h b in
      let i = at_meaning t f ms v (name_variable t.layout c j) (Named c (suc j)) l.0 l.1 fits in
      same_truth _ _ (λ y. eq-eqb _ _ (sym (index_same f c) ∙ i.0 y)) (λ y. i.1 (index_same f c ∙ eqb-true _ _ y));
}

-- meanings laid out so lay the task out
laid_for : (t : Task) (ms : List Meaning) → IsLaidOut t.question ms t.layout → length ms ≤ 2 ^ 30
    → t.layout.variables ≡ length ms → IsLaid t
laid_for t ms laid few variables = record {
  edges = laid.edges;
  starts = laid.starts;
  first = (let r = laid.room in omega arith);
  small = omega arith;
  names = λ c j h b. let l = (laid.named c j h b).0 in omega arith;
}

-- the task is encoded in the encoder's pool
pub encoded : (t : Task) (e : Encoding) (pool : Pool) → IsQuestion t.question
    → IsLaidOut t.question e.meanings t.layout → length e.meanings ≤ 2 ^ 30
    → t.layout.variables ≡ length e.meanings → ((f : Frozen) → AreMetBy t.question e f) → pool ≡ e.pool
    → IsEncoded t pool
encoded t e pool is laid few variables met same = record {
  task = record { question = is; laid = laid_for t e.meanings laid few variables };
  each = λ f one.
      let v = valuation_in t.question e f in
      let m = met f one in
      (v, reads t f e.meanings v laid m.0, rw same m.1);
}
