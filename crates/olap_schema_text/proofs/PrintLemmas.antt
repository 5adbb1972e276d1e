-- Lines one after the other.
use Rattle.std.proofs.Common.{◌≡◌, ◌<◌, ◌+◌, ◌++◌, ℕ, zero, suc, false, List, [], ◌∷◌, length, arith, ap, sym, subst, ◌∙◌, ◌≤◌, refl, append_assoc, append-nil, drop, map, slice_index_or, codes}
use Rattle.std.specs.Prelude.{Result, Ok, Err, OnOk, is_ok, if◌then◌else◌, zip}
use Rattle.olap_base.specs.Graph.{Graph, category_count, is_number}
use Rattle.olap_graph.specs.Lookups.{name_of_category}
use Rattle.olap_ast.specs.Schema.{Constraint, Schema}
use Rattle.olap_grammar.specs.{Cutting.joint_bytes, declared.tokens.Joint.Joint}
use Rattle.olap_schema_text.specs.Printing.{category_text, constraint_text, edge_text, ended_line, formula_text, joined_text, schema_text, text_of_lines}

-- past the end there is no line
past_end : (xs : List (List ℕ)) (k : ℕ) → (k < length xs → ⊥) → slice_index_or xs k [] ≡ []
past_end [] k n = refl
past_end (x ∷ xs) zero n = absurd (n (omega arith))
past_end (x ∷ xs) (suc k) n = past_end xs k (λ l. n (omega arith))

-- what is no category has no name
pub no_name : (g : Graph) (c : ℕ) → (c < category_count g → ⊥) → [] ≡ name_of_category g c
no_name g zero n = absurd (n (omega arith))
no_name g (suc c) n = sym (past_end g.names c (λ l. n (omega arith)))

-- the text of some lines and others is the text of the first, and that of the others after it
pub text_of_lines-append : (xs ys : List (List ℕ)) → text_of_lines (xs ++ ys) ≡ text_of_lines xs ++ text_of_lines ys
unfolding text_of_lines
text_of_lines-append [] ys = refl
text_of_lines-append (x ∷ xs) ys = rw (text_of_lines-append xs ys) (simp append_assoc)

-- the first of the lines that are left
drop_first : {A : Type 0} (f : A → List ℕ) (xs : List A) (k : ℕ) (d : A) → k < length xs →
    text_of_lines (map f (drop k xs)) ≡ ended_line (f (slice_index_or xs k d)) ++ text_of_lines
    (map f (drop (k + 1) xs))
unfolding text_of_lines
drop_first f [] k d l = absurd (omega arith)
drop_first f (x ∷ xs) zero d l = simp append_assoc
drop_first f (x ∷ xs) (suc k) d l =
    let e : suc k + 1 ≡ suc (k + 1) = omega arith in rw e (drop_first f xs k d (omega arith))

-- one more line is written
pub next_line : {A : Type 0} (f : A → List ℕ) (xs : List A) (k : ℕ) (d : A) (out new all : List ℕ) → k < length xs →
    out ++ text_of_lines (map f (drop k xs)) ≡ all → new ≡ out ++ ended_line (f (slice_index_or xs k d)) →
    new ++ text_of_lines (map f (drop (k + 1) xs)) ≡ all
next_line f xs k d out new all l e n =
    rw (n, append_assoc) (ap (λ t. out ++ t) (sym (drop_first f xs k d l)) ∙ e)

-- the same of the line that comes first
pub next_text : (line : List ℕ) (lines : List (List ℕ)) (out new all : List ℕ) →
    out ++ text_of_lines (line ∷ lines) ≡ all → new ≡ out ++ ended_line line → new ++ text_of_lines lines ≡ all
unfolding text_of_lines
next_text line lines out new all e n =
    let same : (out ++ ended_line line) ++ text_of_lines lines ≡ out ++ (line ++ 10 ∷ text_of_lines lines) =
    simp append_assoc in
    rw n (same ∙ e)

-- the lines of a schema are written one kind after the other
pub all_lines : {E : Type 0} (s : Schema) (old first second third last : List ℕ) (r : Result (Unit {0}) E) →
    first ≡ old ++ codes "schema 2\n" →
    second ≡ first ++ text_of_lines (map category_text (zip s.graph.names s.graph.numbers)) →
    third ≡ second ++ text_of_lines (map (edge_text s.graph) s.graph.edges) →
    OnOk r (last ≡ third ++ text_of_lines (map (constraint_text s.graph) s.constraints)) →
    OnOk r (last ≡ old ++ schema_text s)
unfolding text_of_lines
all_lines s old first second third last (Err e) a b c d = tt
all_lines s old first second third last (Ok u) a b c d =
    rw (
      d,
      c,
      b,
      a,
      text_of_lines-append (map category_text (zip s.graph.names s.graph.numbers)) _,
      text_of_lines-append (map (edge_text s.graph) s.graph.edges) _,
    ) (simp append_assoc)

-- after the last nothing is left
all_dropped : {A : Type 0} (xs : List A) (k : ℕ) → length xs ≤ k → drop k xs ≡ []
all_dropped [] zero l = refl
all_dropped [] (suc k) l = refl
all_dropped (x ∷ xs) zero l = absurd (omega arith)
all_dropped (x ∷ xs) (suc k) l = all_dropped xs k (omega arith)

-- all lines are written
pub no_more : {A : Type 0} (f : A → List ℕ) (xs : List A) (k : ℕ) (out all : List ℕ) → length xs ≤ k →
    out ++ text_of_lines (map f (drop k xs)) ≡ all → out ≡ all
unfolding text_of_lines
no_more f xs k out all l e =
    let d : drop k xs ≡ [] = all_dropped xs k l in
    sym (append-nil out) ∙ (rw d at e)

-- a declared category's name
pub declared_name : (g : Graph) (k : ℕ) → name_of_category g (k + 1) ≡ slice_index_or g.names k []
declared_name g k = let e : k + 1 ≡ suc k = omega arith in rw e refl

-- and its kind
pub declared_kind : (g : Graph) (k : ℕ) → is_number g (k + 1) ≡ slice_index_or g.numbers k false
declared_kind g k = let e : k + 1 ≡ suc k = omega arith in rw e refl

-- as many pairs as names, if there are as many kinds
pub zip_length : {A B : Type 0} (xs : List A) (ys : List B) → length ys ≡ length xs → length (zip xs ys) ≡ length xs
zip_length [] ys l = refl
zip_length (x ∷ xs) [] l = absurd (omega arith)
zip_length (x ∷ xs) (y ∷ ys) l = ap (λ n. suc n) (zip_length xs ys (omega arith))

-- a pair at a place
pub zip_at : {A B : Type 0} (xs : List A) (ys : List B) (k : ℕ) (d : A) (e : B) → length ys ≡ length xs
    → slice_index_or (zip xs ys) k (d, e) ≡ (slice_index_or xs k d, slice_index_or ys k e)
zip_at [] [] k d e l = refl
zip_at (x ∷ xs) (y ∷ ys) zero d e l = refl
zip_at (x ∷ xs) (y ∷ ys) (suc k) d e l = zip_at xs ys k d e (omega arith)
zip_at xs ys k d e l = absurd (omega arith)

-- three texts are written one after the other
pub three_texts : {E : Type 0} (x y z given old first second last : List ℕ) (r : Result (Unit {0}) E) →
    first ≡ old ++ x → given ≡ y → second ≡ first ++ given → last ≡ (if is_ok r then second ++ z else second) →
    OnOk r (last ≡ old ++ (x ++ (y ++ z)))
three_texts x y z given old first second last (Err k) a e b c = tt
three_texts x y z given old first second last (Ok u) a e b c = rw (c, b, a, e) (simp append_assoc)

-- a constraint's line is written
pub constraint_line : {E : Type 0} (g : Graph) (k : Constraint) (old first second last : List ℕ)
    (r : Result (Unit {0}) E) → first ≡ old ++ (codes "constraint " ++ (name_of_category g k.root ++ 58 ∷ 32 ∷ [])) →
    second ≡ first ++ formula_text g k.root k.formula → last ≡ (if is_ok r then second ++ 10 ∷ [] else second) →
    OnOk r (last ≡ old ++ ended_line (constraint_text g k))
constraint_line g k old first second last (Err e) a b c = tt
constraint_line g k old first second last (Ok u) a b c = rw (c, b, a) (simp append_assoc)

-- two texts are written with a connective between them, in brackets
pub joined_line : {E : Type 0} (j : Joint) (x y old first second third fourth last : List ℕ)
    (r : Result (Unit {0}) E) → first ≡ old ++ 40 ∷ [] → second ≡ first ++ x →
    third ≡ second ++ 32 ∷ (joint_bytes j ++ 32 ∷ []) → fourth ≡ third ++ y →
    last ≡ (if is_ok r then fourth ++ 41 ∷ [] else fourth) → OnOk r (last ≡ old ++ joined_text j x y)
joined_line j x y old first second third fourth last (Err e) a b c d f = tt
joined_line j x y old first second third fourth last (Ok u) a b c d f = rw (f, d, c, b, a) (simp append_assoc)

-- a text is written after another one
pub text_behind : {A E : Type 0} (r : Result A E) (x y all old mid new : List ℕ) → x ++ y ≡ all → mid ≡ old ++ x →
    OnOk r (new ≡ mid ++ y) → OnOk r (new ≡ old ++ all)
text_behind (Err e) x y all old mid new p q s = tt
text_behind (Ok u) x y all old mid new p q s =
    s ∙ ap (λ t. t ++ y) q ∙ append_assoc old x y ∙ ap (λ t. old ++ t) p

-- what is written of a text is written of the same text
pub same_text : {A E : Type 0} (r : Result A E) (old new : List ℕ) {x y : List ℕ} → x ≡ y → OnOk r (new ≡ old ++ x) →
    OnOk r (new ≡ old ++ y)
same_text r old new e p = subst (λ t. OnOk r (new ≡ old ++ t)) e p
