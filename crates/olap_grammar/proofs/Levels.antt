-- What the table of levels says.
use Rattle.std.proofs.Common.{◌≤◌, ◌<◌, ◌+◌, arith, lit≤, lit<}
use Rattle.olap_grammar.specs.{Grammar.{level, left_level, right_level}, declared.tokens.Joint.Joint}
use Rattle.olap_grammar.specs.declared.tokens.Joint.TheVariants as joint

-- what the levels of a connective and of its sides satisfy
pub record IsRow (j : Joint) : Type 0 where
  pub some : 1 ≤ level j
  pub most : level j ≤ 5
  pub left_above : level j ≤ left_level j
  pub left_most : left_level j ≤ 6
  pub right_above : level j ≤ right_level j
  pub right_below : right_level j ≤ level j + 1
  pub right_most : right_level j ≤ 6
  pub sides : level j + 1 ≤ left_level j + right_level j

-- each row of the table, one by one
pub row : (j : Joint) → IsRow j
row joint.Iff =
    record {
      some = lit≤ tt;
      most = lit≤ tt;
      left_above = lit≤ tt;
      left_most = lit≤ tt;
      right_above = lit≤ tt;
      right_below = lit≤ tt;
      right_most = lit≤ tt;
      sides = lit≤ tt;
    }
row j =
    record {
      some = lit≤ tt;
      most = lit≤ tt;
      left_above = lit≤ tt;
      left_most = lit≤ tt;
      right_above = lit≤ tt;
      right_below = lit≤ tt;
      right_most = lit≤ tt;
      sides = lit≤ tt;
    }

-- a mark that takes what stands to its left closes no mark that would not let it stand
pub apart : (i j : Joint) → right_level i ≤ level j → level i < left_level j
apart joint.Iff joint.Iff h = absurd (omega arith)
apart joint.Implies joint.Iff h = absurd (omega arith)
apart joint.Xor joint.Implies h = absurd (omega arith)
apart joint.Xor j h = let r : IsRow j = row j in omega arith
apart joint.Or j h = omega (arith, (row j).left_above)
apart joint.And j h = omega (arith, (row j).left_above)
apart i j h = lit< tt
