-- The inside of lists that stand in one list, one after the other.
--     lists_from      the lists that begin at these places
--     AreAscending    the places ascend
--     lists_of        the lists that a `Lists` stands for
--     AreInOrder      its invariant
use Rattle.std.specs.Prelude.{ℕ, ◌≤◌, ◌∷◌, List, [], length, slice_index_or, slice_range}
use Rattle.olap_instance.specs.declared.lists.Lists.TheInside.{Inside}

-- the lists that begin at these places of the items: each ends where the next begins, and the last where the items end
abbrev pub lists_from : {T : Type 0} → List T → List ℕ → List (List T)
lists_from items [] = []
lists_from items (start ∷ starts) =
    slice_range items start (slice_index_or starts 0 (length items)) ∷ lists_from items starts

-- none of these places is after the next, nor the last after the end
abbrev pub AreAscending : ℕ → List ℕ → Type 0
AreAscending end [] = Unit {0}
AreAscending end (start ∷ starts) = (start ≤ slice_index_or starts 0 end) × AreAscending end starts

-- the lists that a `Lists` stands for
abbrev pub lists_of : {T : Type 0} → Inside T → List (List T)
lists_of a = lists_from a.items.items a.starts.items

-- its invariant: the places where lists begin ascend
abbrev pub AreInOrder : {T : Type 0} → Inside T → Type 0
AreInOrder a = AreAscending (length a.items.items) a.starts.items
