use Rattle.olap_base.proofs.AboveLemmas.{above_instance, above_lawful, one_member_each, self_is, self_reaches}
use Rattle.olap_base.proofs.laws.above_is_lawful.Goals as goal

pub returns : goal.returns
returns c g i x v w h = record {
  is_instance = above_instance i x v g w h;
  lawful = above_lawful i x v g w;
  one_each = one_member_each i x v g w;
  root = (self_is i x v h).0;
  reached = self_reaches i x v h;
}
