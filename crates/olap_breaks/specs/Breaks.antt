-- Members of an instance at which a target's totals and those from the sources' views differ.
--     ways      by how many of the sources a member reaches the target
--     Break     a member, the target's member that it reaches, and by how many sources
--     breaks    each member of a bottom category that reaches the target, and not by exactly one source
--     breaks_text    what is printed about them
use Rattle.std.specs.Prelude.{◌==◌, ◌&&◌, ℕ, List, [], ◌∷◌, ◌++◌, Bool, Option, Some, None, codes, decimal, filter, filter_map, find, is_some, length, map, if◌then◌else◌}
use Rattle.std.specs.List.{list_any, range_with_len}
use Rattle.olap_base.specs.Graph.{Graph}
use Rattle.olap_base.specs.Instance.{Instance, category_of, member_at}
use Rattle.olap_base.specs.Reaching.{reaches}
use Rattle.olap_base.specs.Views.{members_of}
use Rattle.olap_facts.specs.FactText.{is_bottom}
use Rattle.olap_records.specs.Texts.{text_of_rows}

-- the member of c that x reaches, if there is one; on a lawful instance there is no second
abbrev pub reached_in : Instance → ℕ → ℕ → Option ℕ
reached_in i c x = find (reaches i x) (members_of i c)

-- x reaches a member of s that reaches one of c
abbrev pub is_via : Instance → ℕ → ℕ → ℕ → Bool
is_via i c x s = list_any (λ z. reaches i x z && is_some (reached_in i c z)) (members_of i s)

-- by how many of the sources x reaches the target c
abbrev pub ways : Instance → ℕ → List ℕ → ℕ → ℕ
ways i c sources x = length (filter (is_via i c x) sources)

-- a member, the target's member that it reaches, and by how many of the sources it does
pub record Break : Type 0 where
  pub member : ℕ
  pub target : ℕ
  pub ways : ℕ

-- the break at x, which reaches y in n ways; none if n is 1
abbrev pub unless_one : ℕ → ℕ → ℕ → Option Break
unless_one x y n = if n == 1 then None else Some (record { member = x; target = y; ways = n })

-- the break at x, given the member of the target that it reaches; none if it reaches none
abbrev pub break_to : Instance → ℕ → List ℕ → ℕ → Option ℕ → Option Break
break_to i c sources x None = None
break_to i c sources x (Some y) = unless_one x y (ways i c sources x)

-- the break at x, if x is of a bottom category, so that a fact can stand there
abbrev pub break_of : Graph → Instance → ℕ → List ℕ → ℕ → Option Break
break_of g i c sources x =
    if is_bottom g (category_of i x) then break_to i c sources x (reached_in i c x) else None

-- the breaks at all members, in file order
abbrev pub breaks : Graph → Instance → ℕ → List ℕ → List Break
breaks g i c sources = filter_map (break_of g i c sources) (range_with_len 0 (length i))

-- ---- the text

-- the ids of the two members, and by how many of the sources
abbrev pub break_fields : Instance → Break → List (List ℕ)
break_fields i b = (member_at i b.member).id ∷ (member_at i b.target).id ∷ decimal b.ways ∷ []

-- the header, and a record for each
abbrev pub break_records : Instance → List Break → List (List (List ℕ))
break_records i bs = (codes "member" ∷ codes "target" ∷ codes "ways" ∷ []) ∷ map (break_fields i) bs

-- the line `no` and these records, or the line `yes` if there are none
abbrev pub breaks_text : Instance → List Break → List ℕ
breaks_text i [] = codes "yes\n"
breaks_text i (b ∷ bs) = codes "no\n" ++ text_of_rows (break_records i (b ∷ bs))
