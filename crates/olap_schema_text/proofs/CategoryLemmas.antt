-- Categories of names, gone over from the left.
use Rattle.std.proofs.Common.{◌≡◌, ◌++◌, ◌∷◌, ◌∙◌, ℕ, false, true, List, [], None, Option, Some, append_assoc, append-nil, refl, ap, is_some, sym}
use Rattle.std.{proofs.lemmas.List.map-append, specs.Borrow.Bor, specs.Option.option_map}
use Rattle.olap_base.specs.{Graph.Graph, declared.ids.CatId.CatId}
use Rattle.olap_graph.specs.Lookups.{category_named, edge_between}
use Rattle.olap_grammar.specs.Words.{pieces_behind, pieces_of}
use Rattle.olap_schema_text.{proofs.RepeatLemmas.numbers, specs.Resolving.{categories_of, lacks_edge}}

-- one more is found
category_on : (g : Graph) (done : List ℕ) (n : List ℕ) (ns : List (List ℕ)) (c : ℕ) → category_named g n ≡ Some c
    → option_map (λ cs. done ++ cs) (categories_of g (n ∷ ns))
    ≡ option_map (λ cs. (done ++ c ∷ []) ++ cs) (categories_of g ns)
unfolding categories_of
category_on g done n ns c e = rw e (go (categories_of g ns))
  where
    go : (o : Option (List ℕ)) → option_map (λ cs. done ++ cs) (option_map (λ cs. c ∷ cs) o)
        ≡ option_map (λ cs. (done ++ c ∷ []) ++ cs) o
    go None = refl
    go (Some cs) = ap (λ ds. Some ds) (sym (append_assoc done (c ∷ []) cs))

-- a name that no category has
category_off : (g : Graph) (done : List ℕ) (n : List ℕ) (ns : List (List ℕ)) → category_named g n ≡ None
    → option_map (λ cs. done ++ cs) (categories_of g (n ∷ ns)) ≡ None
unfolding categories_of
category_off g done n ns e = rw e refl

-- one that is after those, whatever follows
category_behind : (g : Graph) (done : List ℕ) (n : List ℕ) (ns : List (List ℕ)) (c : ℕ) → category_named g n ≡ Some c
    → option_map (λ cs. done ++ cs) (categories_of g (n ∷ ns)) ≡ option_map (λ cs. done ++ c ∷ cs) (categories_of g ns)
unfolding categories_of
category_behind g done n ns c e = rw e (go (categories_of g ns))
  where
    go : (o : Option (List ℕ)) → option_map (λ cs. done ++ cs) (option_map (λ cs. c ∷ cs) o)
        ≡ option_map (λ cs. done ++ c ∷ cs) o
    go None = refl
    go (Some cs) = refl

-- of names of which the first is a category's, all are if the others are
known_on : (g : Graph) (n : List ℕ) (ns : List (List ℕ)) (c : ℕ) → category_named g n ≡ Some c
    → is_some (categories_of g (n ∷ ns)) ≡ is_some (categories_of g ns)
unfolding categories_of
known_on g n ns c e = rw e (go (categories_of g ns))
  where
    go : (o : Option (List ℕ)) → is_some (option_map (λ cs. c ∷ cs) o) ≡ is_some o
    go None = refl
    go (Some cs) = refl

-- and else not
known_off : (g : Graph) (n : List ℕ) (ns : List (List ℕ)) → category_named g n ≡ None
    → is_some (categories_of g (n ∷ ns)) ≡ false
unfolding categories_of
known_off g n ns e = rw e refl

-- no names are known
pub none_known : (g : Graph) → is_some (categories_of g []) ≡ true
unfolding categories_of
none_known g = refl

-- the same, by the category that was looked for
pub known_at : (o : Option CatId) (g : Graph) (n : List ℕ) (ns : List (List ℕ))
    → option_map (λ c. c.0) o ≡ category_named g n → is_some o ≡ true
    → is_some (categories_of g (n ∷ ns)) ≡ is_some (categories_of g ns)
known_at None g n ns e h = absurd (cc)
known_at (Some c) g n ns e h = known_on g n ns c.0 (sym e)

-- and where there was none
pub unknown_at : (o : Option CatId) (g : Graph) (n : List ℕ) (ns : List (List ℕ))
    → option_map (λ c. c.0) o ≡ category_named g n → is_some o ≡ false → is_some (categories_of g (n ∷ ns)) ≡ false
unknown_at None g n ns e h = known_off g n ns (sym e)
unknown_at (Some c) g n ns e h = absurd (cc)

-- no name is left
all_found : (g : Graph) (done : List ℕ) → option_map (λ cs. done ++ cs) (categories_of g []) ≡ Some done
unfolding categories_of
all_found g done = ap (λ ds. Some ds) (append-nil done)

-- an edge leads to the next category
pub joined_on : (g : Graph) (c d : ℕ) (ds : List ℕ) → is_some (edge_between g c d) ≡ true
    → lacks_edge g c (d ∷ ds) ≡ lacks_edge g d ds
unfolding lacks_edge
joined_on g c d ds e = rw e refl

-- ---- the same, in the words of the code

-- before the first name
pub none_so_far : (found : List CatId) (o : Option (List ℕ)) → found ≡ [] → o ≡ option_map (λ cs. numbers found ++ cs) o
none_so_far found o e = rw e (go o)
  where
    go : (p : Option (List ℕ)) → p ≡ option_map (λ cs. cs) p
    go None = refl
    go (Some cs) = refl

module _ (g : Graph) (word : List ℕ) (found : List CatId) (left : Option (Bor (List ℕ)))
    (so_far : categories_of g (pieces_of 95 word)
    ≡ option_map (λ cs. numbers found ++ cs) (categories_of g (pieces_behind 95 left)))
  where
    -- a name that no category has
    pub one_unknown : (n : List ℕ) (ns : List (List ℕ)) → pieces_behind 95 left ≡ n ∷ ns → category_named g n ≡ None
        → None ≡ categories_of g (pieces_of 95 word)
    one_unknown n ns is e = sym (so_far ∙ ap (λ ps. option_map (λ cs. numbers found ++ cs) (categories_of g ps)) is
        ∙ category_off g (numbers found) n ns e)

    -- one more is found
    pub one_more : (n : List ℕ) (ns : List (List ℕ)) (c : CatId) (more : List CatId) → pieces_behind 95 left ≡ n ∷ ns
        → category_named g n ≡ Some c.0 → more ≡ found ++ c ∷ []
        → categories_of g (pieces_of 95 word) ≡ option_map (λ cs. numbers more ++ cs) (categories_of g ns)
    one_more n ns c more is e new =
        so_far ∙ ap (λ ps. option_map (λ cs. numbers found ++ cs) (categories_of g ps)) is
        ∙ category_on g (numbers found) n ns c.0 e
        ∙ ap (λ ds. option_map (λ cs. ds ++ cs) (categories_of g ns))
        (sym (map-append (λ d. d.0) found (c ∷ [])) ∙ ap numbers (sym new))

    -- one that is after those, whatever follows
    pub one_behind : (n : List ℕ) (ns : List (List ℕ)) (c : ℕ) → pieces_behind 95 left ≡ n ∷ ns
        → category_named g n ≡ Some c
        → option_map (λ cs. numbers found ++ c ∷ cs) (categories_of g ns) ≡ categories_of g (pieces_of 95 word)
    one_behind n ns c is e =
        sym (so_far ∙ ap (λ ps. option_map (λ cs. numbers found ++ cs) (categories_of g ps)) is
        ∙ category_behind g (numbers found) n ns c e)

    -- no name is left
    pub none_left : pieces_behind 95 left ≡ [] → Some (numbers found) ≡ categories_of g (pieces_of 95 word)
    none_left is = sym (so_far ∙ ap (λ ps. option_map (λ cs. numbers found ++ cs) (categories_of g ps)) is
        ∙ all_found g (numbers found))
