-- The stack of the reader, from its top.
use Rattle.std.proofs.Common.{◌≡◌, ◌∙◌, Bool, ℕ, zero, suc, ◌+◌, ◌-◌, List, [], ◌∷◌, ◌++◌, ap, cond, refl, length, sym, Option, Some, None, MatchOption, arith}
use Rattle.std.proofs.lemmas.{List.Sums.fold-append, Option.{none-some, same_Some, slice_get-get_or, slice_get_within}}
use Rattle.std.specs.{List.{fold, slice_get}, Option.option_to_list}
use Rattle.olap_grammar.specs.{Frames.frames_of, Machine.parted, Reader.{Built, frame_of}}
use Rattle.olap_grammar.specs.declared.stacking.Frame.{Frame}
use Rattle.olap_grammar.specs.Machine as machine

-- nothing is open
pub frames_none : frames_of [] ≡ []
unfolding frames_of
frames_none = refl

-- one more is on top
pub frames_more : (xs : List Frame) (x : Frame) → frames_of (xs ++ x ∷ []) ≡ frame_of x ∷ frames_of xs
unfolding frames_of
frames_more xs x = fold-append (λ s x. frame_of x ∷ s) [] xs (x ∷ [])

-- a stack of no length has nothing
no_items : (xs : List Frame) → length xs ≡ 0 → frames_of xs ≡ []
no_items [] h = frames_none
no_items (x ∷ xs) h = absurd (omega arith)

-- without its top it has what was below
pub popped : (old new : List Frame) (n m : ℕ) (r : Option Frame) → length old ≡ n → length new ≡ m
    → old ≡ new ++ option_to_list r → MatchOption r ((n ≡ 0) × (m ≡ 0)) (λ _. m + 1 ≡ n)
    → MatchOption r ((frames_of old ≡ []) × (frames_of new ≡ [])) (λ x. frames_of old ≡ frame_of x ∷ frames_of new)
popped old new n m None k l e h = (no_items old (omega arith), no_items new (omega arith))
popped old new n m (Some x) k l e h = rw e (frames_more new x)

-- frames put on a stack make it longer by their number
length_fold : (xs : List Frame) (s : List (machine.Frame Built))
    → length (fold (λ s x. frame_of x ∷ s) s xs) ≡ length xs + length s
length_fold [] s = omega arith
length_fold (x ∷ xs) s = let e = length_fold xs (frame_of x ∷ s) in omega (arith, e)

-- the machine's stack has as many frames as the program's
pub length_frames : (xs : List Frame) → length (frames_of xs) ≡ length xs
unfolding frames_of
length_frames xs = let e = length_fold xs [] in omega (arith, e)

-- the last item is on top
on_top : (xs : List Frame) (s : List (machine.Frame Built)) (n : ℕ) (x : Frame) → length xs ≡ n + 1
    → slice_get xs n ≡ Some x
    → (t : List (machine.Frame Built)) × (fold (λ s x. frame_of x ∷ s) s xs ≡ frame_of x ∷ t)
on_top [] s n x l e = absurd (none-some x e)
on_top (y ∷ []) s zero x l e = (s, ap (λ z. frame_of z ∷ s) (same_Some y x e))
on_top (y ∷ z ∷ zs) s (suc n) x l e = on_top (z ∷ zs) (frame_of y ∷ s) n x (omega arith) e
on_top xs s n x l e = absurd (omega arith)

-- a part may follow where the last item lets it
pub takes_part : (xs ys : List Frame) (x : Frame) (b : Bool) → xs ≡ ys → slice_get xs (length xs - 1) ≡ Some x
    → ((f : Built) (s : List (machine.Frame Built)) → parted f (frame_of x ∷ s)
    ≡ cond b (machine.State.Wants (machine.Frame.Part f ∷ frame_of x ∷ s)) machine.State.Bad)
    → (f : Built) → parted f (frames_of ys)
    ≡ cond b (machine.State.Wants (machine.Frame.Part f ∷ frames_of ys)) machine.State.Bad
unfolding frames_of
takes_part xs ys x b same e h f =
    let t = on_top xs [] (length xs - 1) x (omega (arith, slice_get_within xs (length xs - 1) x e)) e in
    rw (sym same, t.1) (h f t.0)

-- with nothing open, a comma makes the form bad
pub takes_no_part : (xs ys : List Frame) → xs ≡ ys → slice_get xs (length xs - 1) ≡ None → (f : Built)
    → parted f (frames_of ys) ≡ machine.State.Bad
takes_no_part xs [] same e f = rw frames_none refl
takes_no_part xs (y ∷ ys) same e f =
    absurd (none-some _ (sym e ∙ slice_get-get_or xs (length xs - 1) y (omega (arith, ap length same))))
