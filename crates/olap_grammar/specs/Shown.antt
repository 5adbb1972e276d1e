-- The definitions' formulas over words that the program's stand for.
--     atom_of            an atom
--     form_of, forms_of  a formula, and the parts of a list
use Rattle.olap_ast.specs.Trees.{op_of}
use Rattle.olap_base.specs.Bytes.{underscore}
use Rattle.olap_grammar.specs.Forms as words
use Rattle.olap_grammar.specs.Words.{pieces_of}
use Rattle.olap_grammar.specs.declared.forms.Atom.{Atom}
use Rattle.olap_grammar.specs.declared.forms.Atom.TheVariants as atom
use Rattle.olap_grammar.specs.declared.forms.Form.{Form}
use Rattle.olap_grammar.specs.declared.forms.Form.TheVariants.{Not', Joined', One}
use Rattle.olap_grammar.specs.declared.forms.Form.TheVariants as form
use Rattle.olap_grammar.specs.declared.forms.Forms.{Forms}
use Rattle.olap_grammar.specs.declared.forms.Forms.TheVariants.{End, More'}

-- what a word says
abbrev pub atom_of : Atom → words.Atom
atom_of atom.True = words.Atom.Truth
atom_of atom.False = words.Atom.Falsity
atom_of (atom.Path root others) = words.Atom.Path root (pieces_of underscore others)
atom_of (atom.Reach root d) = words.Atom.Reach root d
atom_of (atom.Via root d e) = words.Atom.Via root d e
atom_of (atom.Equals root d text) = words.Atom.Equals root d text
atom_of (atom.Compare root d op digits) = words.Atom.Compare root d (op_of op) digits

abbrev mutual
  -- the formula that a tree stands for
  pub form_of : Form → words.Form
  form_of (form.Atom a) = words.Form.Of (atom_of a)
  form_of (Not' p f) = words.Form.Not (form_of f)
  form_of (Joined' j p f q g) = words.Form.Joined j (form_of f) (form_of g)
  form_of (One fs) = words.Form.One (forms_of fs)

  -- the parts that a list of trees stands for
  pub forms_of : Forms → words.Forms
  forms_of End = words.Forms.End
  forms_of (More' p f q fs) = words.Forms.More (form_of f) (forms_of fs)
