-- The inside of an instance.
use Rattle.olap_base.specs.Instance.{Instance}
use Rattle.olap_instance.specs.Members.{AreSound, with_parents}
use Rattle.olap_instance.specs.Passes.{parents_in}
use Rattle.olap_instance.specs.declared.instances.Instance.TheInside.{Inside}

-- the instance that an `Instance` stands for
abbrev pub instance_of : Inside → Instance
instance_of a = with_parents a.roster (parents_in a.parents)

-- the invariant of an `Instance`: its members and their parents are sound
abbrev pub IsSound : Inside → Type 0
IsSound a = AreSound a.roster (parents_in a.parents)
