use Rattle.std.{proofs.Common.{◌≡◌, ◌∙◌, sym, List}, specs.Option.option_map}
use Rattle.olap_grammar.proofs.{Hom.reads_clipped, LeafLemmas.{atoms_are_leaves, not_deep, refused, too_deep}}
use Rattle.olap_grammar.specs.{Clip.{clip, clipped}, Machine.{formula_read, the_formula}, Reader.leaves_of}
use Rattle.olap_grammar.specs.{Words.atoms_of, declared.tokens.Token.Token, declared.tokens.Version.Version}
use Rattle.olap_grammar.proofs.reading.formula.Goals as goal

-- the reader that builds no deeper tree reads along
along : (v : Version) (ts : List Token)
    → formula_read clipped (leaves_of v) ts ≡ option_map clip (the_formula (atoms_of v) ts)
along v ts = reads_clipped (atoms_of v) ts (atoms_are_leaves v)

pub returns-in-Ok : goal.returns-in-Ok
returns-in-Ok c =
    too_deep _ c.read_tokens.new.whole.depth _ (sym (along _ _) ∙ c.in-Ok.ensures) c.if-whole.true

pub returns-in-Ok-2 : goal.returns-in-Ok-2
returns-in-Ok-2 c =
    rw c.into_form.ensures
    (not_deep _ c.read_tokens.new.whole.depth _ (sym (along _ _) ∙ c.in-Ok-2.ensures) c.if-whole.false)

pub returns-in-Err-Kind : goal.returns-in-Err-Kind
returns-in-Err-Kind c = refused _ _ _ (along _ _) (rw c.in-Err-Kind.field-0-is at c.in-Err-Kind.ensures)
