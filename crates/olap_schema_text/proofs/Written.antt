-- The formula over words that a printed formula is.
use Rattle.std.proofs.Common.{◌≡◌, ℕ, map, refl}
use Rattle.olap_base.specs.Graph.{Graph}
use Rattle.olap_graph.specs.Lookups.{name_of_category}
use Rattle.olap_ast.specs.{Formula.{Formula, Terms}, Valid.{depth_of, depth_of_terms}}
use Rattle.olap_numerals.specs.Numerals.{canonical}
use Rattle.olap_grammar.specs.Forms.{Form, Forms, depth_of as levels_of, depth_of_all as levels_of_all}
use Rattle.olap_ast.specs.Formula as Meaning
use Rattle.olap_grammar.specs.Forms as words
use Rattle.olap_grammar.specs.declared.tokens.Joint.TheVariants as joint

abbrev mutual
  -- the formula over words
  pub written : Graph → ℕ → Formula → Form
  written g r Meaning.Formula.Truth = words.Form.Of words.Atom.Truth
  written g r Meaning.Formula.Falsity = words.Form.Of words.Atom.Falsity
  written g r (Meaning.Formula.Path cs) =
      words.Form.Of (words.Atom.Path (name_of_category g r) (map (name_of_category g) cs))
  written g r (Meaning.Formula.Reach d) =
      words.Form.Of (words.Atom.Reach (name_of_category g r) (name_of_category g d))
  written g r (Meaning.Formula.Via d e) =
      words.Form.Of (words.Atom.Via (name_of_category g r) (name_of_category g d) (name_of_category g e))
  written g r (Meaning.Formula.Equals d k) =
      words.Form.Of (words.Atom.Equals (name_of_category g r) (name_of_category g d) k)
  written g r (Meaning.Formula.Compare d op n) =
      words.Form.Of (words.Atom.Compare (name_of_category g r) (name_of_category g d) op (canonical n))
  written g r (Meaning.Formula.Not f) = words.Form.Not (written g r f)
  written g r (Meaning.Formula.And f h) = words.Form.Joined joint.And (written g r f) (written g r h)
  written g r (Meaning.Formula.Or f h) = words.Form.Joined joint.Or (written g r f) (written g r h)
  written g r (Meaning.Formula.Implies f h) = words.Form.Joined joint.Implies (written g r f) (written g r h)
  written g r (Meaning.Formula.Iff f h) = words.Form.Joined joint.Iff (written g r f) (written g r h)
  written g r (Meaning.Formula.Xor f h) = words.Form.Joined joint.Xor (written g r f) (written g r h)
  written g r (Meaning.Formula.One fs) = words.Form.One (all_written g r fs)

  -- the parts of `one(..)`
  pub all_written : Graph → ℕ → Terms → Forms
  all_written g r Meaning.Terms.End = words.Forms.End
  all_written g r (Meaning.Terms.More f fs) = words.Forms.More (written g r f) (all_written g r fs)

module _ (g : Graph) (r : ℕ) where
  mutual
    -- it has as many levels
    pub written_depth : (f : Formula) → levels_of (written g r f) ≡ depth_of f
    written_depth (Meaning.Formula.Not f) = rw (written_depth f) refl
    written_depth (Meaning.Formula.And f h) = rw (written_depth f, written_depth h) refl
    written_depth (Meaning.Formula.Or f h) = rw (written_depth f, written_depth h) refl
    written_depth (Meaning.Formula.Implies f h) = rw (written_depth f, written_depth h) refl
    written_depth (Meaning.Formula.Iff f h) = rw (written_depth f, written_depth h) refl
    written_depth (Meaning.Formula.Xor f h) = rw (written_depth f, written_depth h) refl
    written_depth (Meaning.Formula.One fs) = rw (all_depth fs) refl
    written_depth f = refl

    all_depth : (fs : Terms) → levels_of_all (all_written g r fs) ≡ depth_of_terms fs
    all_depth Meaning.Terms.End = refl
    all_depth (Meaning.Terms.More f fs) = rw (written_depth f, all_depth fs) refl
