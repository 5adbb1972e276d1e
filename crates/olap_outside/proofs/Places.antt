-- Files by name, and what is left of one.
use Rattle.std.proofs.Common.{◌≡◌, ℕ, ◌+◌, ◌-◌, ◌<◌, ◌≤◌, min, subst, List, [], ◌++◌, length, get_or, take, drop, Some, sym, ◌∙◌, ap, arith, drop-cons, length-take, length-drop, length-append}
use Rattle.std.proofs.{Math.Seq.take-append_seam, lemmas.List.{get_or_read, take-append-drop, drop-drop, drop_all}}
use Rattle.std.specs.Cmp.Lexicographic.{nat_list_eq_equiv}
use Rattle.olap_outside.specs.Files.{content_of, file_at, IsPlace, Takes}

-- a file with the name at i, where no file before it has it
pub place_here : (files : List (List ℕ × List ℕ)) (name : List ℕ) (i : ℕ) (file : List ℕ × List ℕ)
    → i < length files → file ≡ get_or files i file → file.0 ≡ name
    → content_of (drop i files) name ≡ content_of files name → IsPlace files name i
place_here files name i file h is e c =
    let at : file_at files i ≡ file = sym (get_or_read files i file h is ([], [])) in
    let here : content_of (drop i files) name ≡ Some file.1 =
    rw (drop-cons files i ([], []), at, e, nat_list_eq_equiv.refl name) in
    record {
      within = h;
      name_is = ap (λ (f : List ℕ × List ℕ). f.0) at ∙ e;
      content_is = sym c ∙ here
          ∙ ap (λ (f : List ℕ × List ℕ). Some f.1) (sym at);
    }

-- what is handed out are the next bytes, and there are none only at the end
pub handed : (content buf piece : List ℕ) (start n chunk : ℕ) → piece ≡ take n (drop start content)
    → n ≡ min (min (length content - start) (length buf)) chunk → start ≤ length content → 0 < chunk
    → Takes (Some (drop start content)) (Some (drop (start + n) content)) (take n (piece ++ drop n buf))
    (length (piece ++ drop n buf))
handed content buf piece start n chunk p e w s =
    let len : length piece ≡ n = ap length p ∙ simp (length-take, length-drop) (omega arith) in
    let front : take n (piece ++ drop n buf) ≡ piece =
    subst (λ k. take k (piece ++ drop n buf) ≡ piece) len (take-append_seam piece (drop n buf)) in
    let all : drop start content ≡ piece ++ drop (start + n) content =
    sym (take-append-drop n (drop start content)) ∙ ap (λ x. x ++ drop n (drop start content)) (sym p)
    ∙ ap (λ x. piece ++ x) (drop-drop n start content) in (
      all ∙ ap (λ x. x ++ drop (start + n) content) (sym front),
      λ z h.
          let k : n ≡ 0 = sym len ∙ ap length (sym front) ∙ z in
          let l : length (piece ++ drop n buf) ≡ length buf = simp (length-append, length-drop) (omega arith) in
          drop_all (start + n) content (omega arith),
    )
