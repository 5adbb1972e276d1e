-- The stack of the reader as a list from its top.
use Rattle.std.specs.Prelude.{List, [], ◌∷◌}
use Rattle.std.specs.List.{fold}
use Rattle.olap_grammar.specs.Machine as machine
use Rattle.olap_grammar.specs.Reader.{Built, frame_of}
use Rattle.olap_grammar.specs.declared.stacking.Frame.{Frame}
use Rattle.olap_grammar.specs.declared.stacking.Stack.{Stack}

-- the last item is on top
unfoldable pub frames_of : List Frame → List (machine.Frame Built)
frames_of items = fold (λ s x. frame_of x ∷ s) [] items

-- what is open on the stack, its top first
unfoldable pub frames : Stack → List (machine.Frame Built)
frames s = frames_of s.frames.items
