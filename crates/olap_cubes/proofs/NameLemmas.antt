-- Names of categories that are looked up, one dimension after the other.
use Rattle.std.proofs.Common.{◌≡◌, ◌+◌, ◌<◌, ◌≤◌, ℕ, zero, suc, List, [], ◌∷◌, ◌++◌, Option, None, Some, T, Bool, true, false, length, get_or, drop, take, ap, subst, sym, refl, arith, ◌∙◌, append-nil, append_assoc}
use Rattle.std.proofs.{Math.Facts.yes_eqb, lemmas.List.{drop_all, drop_more, take_all}}
use Rattle.std.specs.Prelude.{◌==◌, codes, if◌then◌else◌, option_and_then, option_map, zip}
use Rattle.olap_base.specs.Graph.{IsCategory}
use Rattle.olap_ast.specs.Schema.{Schema}
use Rattle.olap_cube_summ.specs.Dimensions.{AreCategoriesOf, no_schema}
use Rattle.olap_graph.specs.Lookups.{category_named}
use Rattle.olap_grammar.specs.Words.{pieces_of}
use Rattle.olap_order.specs.{Order.{Done, Order, and_then, ok_or, refused}, Steps.{category_word, fault_text, in_turn}}
use Rattle.olap_cubes.specs.{Cut.categories_named, Steps.tuple_word}

-- what is so, as a value
so : (b : Bool) → T b → b ≡ true
so true t = refl
so false t = absurd t

-- the names one after the other are all names at once, after what was read
in_turn_is : (schemas : List Schema) (names : List (List ℕ)) (at k : ℕ) (read : List ℕ)
    → in_turn (λ k read p. category_word p.0.graph at p.1) k read (zip schemas names)
    ≡ and_then (ok_or (categories_named schemas names) (fault_text (codes "word") at (codes "UnknownCategory")))
    (λ cs. Done (read ++ cs))
in_turn_is [] names at k read = ap Done (sym (append-nil read))
in_turn_is (s ∷ schemas) [] at k read = ap Done (sym (append-nil read))
in_turn_is (s ∷ schemas) (name ∷ names) at k read =
    go (λ c. in_turn_is schemas names at (suc k) (read ++ c ∷ [])) (category_named s.graph name)
  where
    one : (c : ℕ) (o : Option (List ℕ))
        → and_then (ok_or o (fault_text (codes "word") at (codes "UnknownCategory")))
        (λ cs. Done ((read ++ c ∷ []) ++ cs))
        ≡ and_then (ok_or (option_map (λ cs. c ∷ cs) o) (fault_text (codes "word") at (codes "UnknownCategory")))
        (λ cs. Done (read ++ cs))
    one c None = refl
    one c (Some cs) = ap Done (append_assoc read (c ∷ []) cs)

    go : ((c : ℕ) → in_turn (λ k read p. category_word p.0.graph at p.1) (suc k) (read ++ c ∷ []) (zip schemas names)
        ≡ and_then (ok_or (categories_named schemas names) (fault_text (codes "word") at (codes "UnknownCategory")))
        (λ cs. Done ((read ++ c ∷ []) ++ cs))) → (o : Option ℕ)
        → and_then (ok_or o (fault_text (codes "word") at (codes "UnknownCategory")))
        (λ c. in_turn (λ k read p. category_word p.0.graph at p.1) (suc k) (read ++ c ∷ []) (zip schemas names))
        ≡ and_then (ok_or (option_and_then (λ c. option_map (λ cs. c ∷ cs) (categories_named schemas names)) o)
        (fault_text (codes "word") at (codes "UnknownCategory"))) (λ cs. Done (read ++ cs))
    go again None = refl
    go again (Some c) = again c ∙ one c (categories_named schemas names)

-- what is there is there
done_is : (o : Option (List ℕ)) (why : List ℕ) → and_then (ok_or o why) (λ cs. Done cs) ≡ ok_or o why
done_is None why = refl
done_is (Some cs) why = refl

-- the category of each dimension's name, one after the other
abbrev all_categories : List Schema → ℕ → List (List ℕ) → Order (List ℕ)
all_categories schemas at names = in_turn (λ k read p. category_word p.0.graph at p.1) 1 [] (zip schemas names)

-- as many names as dimensions, joined by commas
pub tuple_is : (schemas : List Schema) (at : ℕ) (word : List ℕ) (names : List (List ℕ)) (o : Option (List ℕ))
    → names ≡ pieces_of 44 word → length names ≡ length schemas → o ≡ categories_named schemas names
    → tuple_word schemas at word ≡ ok_or o (fault_text (codes "word") at (codes "UnknownCategory"))
tuple_is schemas at word names o n l e =
    let unknown = fault_text (codes "word") at (codes "UnknownCategory") in
    let misfit = refused (fault_text (codes "word") at (codes "BadForm")) in
    ap (λ ns. if length ns == length schemas then all_categories schemas at ns else misfit) (sym n)
    ∙ ap (λ b. if b then all_categories schemas at names else misfit) (so (length names == length schemas) (yes_eqb l))
    ∙ in_turn_is schemas names at 1 [] ∙ done_is (categories_named schemas names) unknown
    ∙ ap (λ p. ok_or p unknown) (sym e)

-- nothing is put in front
none_before : (o : Option (List ℕ)) → o ≡ option_map (λ rest. [] ++ rest) o
none_before None = refl
none_before (Some rest) = refl

-- one number is put in front, and then others
one_before : (cs : List ℕ) (c : ℕ) (o : Option (List ℕ))
    → option_map (λ rest. cs ++ rest) (option_map (λ rest. c ∷ rest) o)
    ≡ option_map (λ rest. (cs ++ c ∷ []) ++ rest) o
one_before cs c None = refl
one_before cs c (Some rest) = ap Some (sym (append_assoc cs (c ∷ []) rest))

-- one dimension more with a category of its schema
categories_next : (schemas : List Schema) (k : ℕ) (cs : List ℕ) (c : ℕ) → k < length schemas
    → AreCategoriesOf (take k schemas) cs → IsCategory (get_or schemas k no_schema).graph c
    → AreCategoriesOf (take (suc k) schemas) (cs ++ c ∷ [])
categories_next [] k cs c h a i = absurd (omega arith)
categories_next (s ∷ schemas) zero [] c h a i = (i, tt)
categories_next (s ∷ schemas) zero (d ∷ cs) c h a i = absurd a
categories_next (s ∷ schemas) (suc k) [] c h a i = absurd a
categories_next (s ∷ schemas) (suc k) (d ∷ cs) c h a i = (a.0, categories_next schemas k cs c (omega arith) a.1 i)

module _ (schemas : List Schema) (names : List (List ℕ)) where
  -- what the names that are left say, after these categories, is what all names say
  pub record AreNamedTo (k : ℕ) (cs : List ℕ) : Type 0 where
    pub named : categories_named schemas names
        ≡ option_map (λ rest. cs ++ rest) (categories_named (drop k schemas) (drop k names))
    pub categories : AreCategoriesOf (take k schemas) cs

  -- from one name on: the category of this one, and those of the names after it
  named_from : (k : ℕ) (cs : List ℕ) → k < length schemas → k < length names → AreNamedTo k cs → (o : Option ℕ)
      → category_named (get_or schemas k no_schema).graph (get_or names k []) ≡ o
      → categories_named schemas names ≡ option_map (λ rest. cs ++ rest) (option_and_then
      (λ c. option_map (λ rest. c ∷ rest) (categories_named (drop (k + 1) schemas) (drop (k + 1) names))) o)
  named_from k cs l h r o e =
      r.named
      ∙ ap (λ ss. option_map (λ rest. cs ++ rest) (categories_named ss (drop k names)))
      (drop_more schemas k no_schema l)
      ∙ ap (λ ns. option_map (λ rest. cs ++ rest)
      (categories_named (get_or schemas k no_schema ∷ drop (k + 1) schemas) ns)) (drop_more names k [] h)
      ∙ ap (λ p. option_map (λ rest. cs ++ rest) (option_and_then
      (λ c. option_map (λ rest. c ∷ rest) (categories_named (drop (k + 1) schemas) (drop (k + 1) names))) p)) e

  -- one name more, which is known
  pub named_more : (k : ℕ) (cs all : List ℕ) (c : ℕ) → k < length schemas → k < length names → AreNamedTo k cs
      → category_named (get_or schemas k no_schema).graph (get_or names k []) ≡ Some c
      → IsCategory (get_or schemas k no_schema).graph c → all ≡ cs ++ c ∷ [] → AreNamedTo (k + 1) all
  named_more k cs all c l h r e i is =
      let next : suc k ≡ k + 1 = omega arith in
      subst (AreNamedTo (k + 1)) (sym is) (record {
        named = named_from k cs l h r (Some c) e
            ∙ one_before cs c (categories_named (drop (k + 1) schemas) (drop (k + 1) names));
        categories = subst (λ n. AreCategoriesOf (take n schemas) (cs ++ c ∷ [])) next
            (categories_next schemas k cs c l r.categories i);
      })

  -- a name isn't known
  pub named_not : (k : ℕ) (cs : List ℕ) → k < length schemas → k < length names → AreNamedTo k cs
      → category_named (get_or schemas k no_schema).graph (get_or names k []) ≡ None
      → categories_named schemas names ≡ None
  named_not k cs l h r e = named_from k cs l h r None e

  -- all are known
  pub named_all : (k : ℕ) (cs : List ℕ) → length names ≤ k → AreNamedTo k cs → categories_named schemas names ≡ Some cs
  named_all k cs h r =
      r.named
      ∙ ap (λ ns. option_map (λ rest. cs ++ rest) (categories_named (drop k schemas) ns)) (drop_all k names h)
      ∙ last (drop k schemas)
    where
      last : (ss : List Schema) → option_map (λ rest. cs ++ rest) (categories_named ss []) ≡ Some cs
      last [] = ap Some (append-nil cs)
      last (s ∷ ss) = ap Some (append-nil cs)

  -- all are categories of their schemas
  pub categories_all : (k : ℕ) (cs : List ℕ) → length schemas ≤ k → AreNamedTo k cs → AreCategoriesOf schemas cs
  categories_all k cs h r =
      subst (λ (ss : List Schema). AreCategoriesOf ss cs) (take_all k schemas h) r.categories
