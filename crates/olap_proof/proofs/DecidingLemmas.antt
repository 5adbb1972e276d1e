-- What a line does at a place can be decided.
use Rattle.std.proofs.Common.{◌≡◌, ℕ, suc, zero, ◌<◌, ◌+◌, List, [], ◌∷◌, length, map, true, false, Option, Some, None, refl, sym, subst, inl, inr}
use Rattle.std.{proofs.Math.Bool.Bool-discrete, specs.Prelude.◌⊎◌}
use Rattle.olap_base.{proofs.DecisionLemmas.{dec_some_below, dec_not}, specs.Deciding.{dec_and, dec_iff, dec_or}}
use Rattle.olap_base.specs.Graph.{Graph, IsCategory}
use Rattle.olap_ast.specs.{Formula.Formula, Frozen.Candidates, Schema.{Constraint, Schema}}
use Rattle.olap_eval.specs.Partial.{value_at}
use Rattle.olap_graph.specs.Lookups.{edge_at, edges_from}
use Rattle.olap_proof.proofs.ClosingLemmas.{dec_dead, dec_loose, dec_cycle, dec_shortcut, dec_status, dec_false, dec_all}
use Rattle.olap_proof.proofs.{CycleLemmas.{cyclic_is, shortened_is}, DoingLemmas.{does_step, step_does}}
use Rattle.olap_proof.proofs.StepLemmas.{step_bottom, step_head}
use Rattle.olap_proof.specs.Certificates.{Open, Open.At, Open.Bottom, Open.Head, Steps, Steps.begins, Steps.roots, bottom_text, bottoms_of, head_text, start}
use Rattle.olap_proof.specs.{Closing.{IsAbout, IsUnmetAt, IsClash, IsUnmet, IsUnreached}, Doing.{Does, leaves_open}}
use Rattle.olap_proof.specs.Lines.{IsNoStep, Line, Line.Asked, Line.Clash, Line.Cycle, Line.Dead, Line.EdgeOrNot, Line.Loose, Line.NameOf, Line.Shortcut, Line.Unmet, Line.Unreached, Line.WayOrNot, line_text}
use Rattle.olap_proof.specs.Places.{Place, index_of, is_known, knowledge, leads, truth_of_reach, way_of}
use Rattle.olap_proof.specs.declared.forms.Form.{Form, TheVariants.{Long, Short}}
use Rattle.olap_trail.specs.Decisions.{present_graph, status_of}
use native.Mathlib.Decide.{ℕ_discrete}
use mathlib.Core.List.{List-discrete}

-- ---- numbers below another

-- ---- values of few cases

-- whether two forms are the same
dec_form : (f g : Form) → Dec (f ≡ g)
dec_form Long Long = yes refl
dec_form Long Short = no (λ e. cc)
dec_form Short Long = no (λ e. cc)
dec_form Short Short = yes refl

-- whether nothing is
dec_unsaid : {A : Type 0} (o : Option A) → Dec (o ≡ None)
dec_unsaid None = yes refl
dec_unsaid (Some a) = no (λ e. cc)

-- ---- graphs

-- ---- reasons

-- whether a category is out of the root's reach
dec_unreached : (f : Form) (p : Place) (c : ℕ) → Dec (IsUnreached f p c)
dec_unreached f p c = dec_iff (λ t. (t.0, t.1.0, t.1.1)) (λ t. (t.0, (t.1, t.2)))
    (dec_and (dec_not (ℕ_discrete c p.decided.root)) (dec_and (Bool-discrete (is_known p c) true)
    (dec_false (truth_of_reach f p p.decided.root c))))

-- whether an edge is no step to b
dec_no_step : (f : Form) (g : Graph) (p : Place) (b e : ℕ) → Dec (IsNoStep f g p b e)
dec_no_step f g p b e =
    dec_or (dec_status (status_of p.decided e) false) (dec_false (truth_of_reach f p (edge_at g e).parent b))

-- whether a way clashes with what is known
dec_clash : (f : Form) (g : Graph) (p : Place) (a b : ℕ) → Dec (IsClash f g p a b)
dec_clash f g p a b = dec_or
    (dec_iff (λ t. (t.0, t.1.0, t.1.1)) (λ t. (t.0, (t.1, t.2))) (dec_and (dec_status (way_of p.ways a b) true)
    (dec_and (dec_not (ℕ_discrete a b)) (dec_all (IsNoStep f g p b) (dec_no_step f g p b) (edges_from g a)))))
    (dec_and (dec_status (way_of p.ways a b) false) (Bool-discrete (leads f p a b) true))

-- whether a constraint is unmet
dec_unmet : (f : Form) (k : Candidates) (p : Place) (c : Constraint) → Dec (IsUnmet f k p c)
dec_unmet f k p c =
    dec_and (Bool-discrete (is_known p c.root) true) (dec_false (value_at (knowledge f k p) c.root c.formula))

-- whether the one at this place is
dec_unmet_at : (f : Form) (cs : List Constraint) (n : ℕ) (k : Candidates) (p : Place) → Dec (IsUnmetAt f cs n k p)
dec_unmet_at f [] n k p = no (λ h. h)
dec_unmet_at f (c ∷ cs) zero k p = dec_unmet f k p c
dec_unmet_at f (c ∷ cs) (suc n) k p = dec_unmet_at f cs n k p

-- ---- lines

-- whether a line about the schema does something
pub dec_does : (f : Form) (s : Schema) (q : Formula) (k : Candidates) (p : Place) (l : Line) → Dec (Does f s q k p l)
dec_does f s q k p (EdgeOrNot e) = dec_unsaid (status_of p.decided e)
dec_does f s q k p (NameOf c) = dec_and (dec_not (ℕ_discrete c 0)) (dec_unsaid (index_of p.namings c))
dec_does f s q k p (WayOrNot a b) = dec_and (dec_form f Short) (dec_unsaid (way_of p.ways a b))
dec_does f s q k p (Dead c) = dec_dead s.graph p c
dec_does f s q k p Cycle = let g = present_graph p.decided in dec_iff (cyclic_is g).0 (cyclic_is g).1 (dec_cycle g)
dec_does f s q k p Shortcut =
    let g = present_graph p.decided in dec_iff (shortened_is g).0 (shortened_is g).1 (dec_shortcut g)
dec_does f s q k p (Loose e) = dec_and (dec_form f Long) (dec_loose s.graph p e)
dec_does f s q k p (Unreached c) = dec_and (dec_form f Short) (dec_unreached f p c)
dec_does f s q k p (Clash a b) = dec_and (dec_form f Short) (dec_clash f s.graph p a b)
dec_does f s q k p (Unmet n) = dec_unmet_at f s.constraints n k p
dec_does f s q k p Asked = dec_false (value_at (knowledge f k p) p.decided.root q)

module _ (s : Schema) (P : Line → Type 0) (d : (l : Line) → Dec (P l)) where
  -- some line of this kind, on two categories, has the property
  abbrev OfTwo : (ℕ → ℕ → Line) → Type 0
  OfTwo l = (a : ℕ) × IsCategory s.graph a × ((b : ℕ) × IsCategory s.graph b × P (l a b))

  -- whether one does
  dec_two : (l : ℕ → ℕ → Line) → Dec (OfTwo l)
  dec_two l = dec_some_below (λ a. (b : ℕ) × IsCategory s.graph b × P (l a b))
      (λ a. dec_some_below (λ b. P (l a b)) (λ b. d (l a b)) (length s.graph.names + 1)) (length s.graph.names + 1)

  -- on an edge
  abbrev OfEdge : (ℕ → Line) → Type 0
  OfEdge l = (e : ℕ) × (e < length s.graph.edges) × P (l e)

  -- on a category
  abbrev OfCategory : (ℕ → Line) → Type 0
  OfCategory l = (c : ℕ) × IsCategory s.graph c × P (l c)

  -- on a constraint
  abbrev OfConstraint : (ℕ → Line) → Type 0
  OfConstraint l = (n : ℕ) × (n < length s.constraints) × P (l n)

  -- whether one on an edge does
  dec_of_edge : (l : ℕ → Line) → Dec (OfEdge l)
  dec_of_edge l = dec_some_below (λ e. P (l e)) (λ e. d (l e)) (length s.graph.edges)

  -- whether one on a category does
  dec_of_category : (l : ℕ → Line) → Dec (OfCategory l)
  dec_of_category l = dec_some_below (λ c. P (l c)) (λ c. d (l c)) (length s.graph.names + 1)

  -- whether a line about the schema has the property
  pub dec_line : Dec ((l : Line) × IsAbout s l × P l)
  dec_line = dec_iff to (λ t. from t.0 t.1 t.2)
      (dec_or (dec_of_edge EdgeOrNot) (dec_or (dec_of_category NameOf) (dec_or (dec_two WayOrNot)
      (dec_or (dec_of_category Dead) (dec_or (d Cycle) (dec_or (d Shortcut) (dec_or (dec_of_edge Loose)
      (dec_or (dec_of_category Unreached) (dec_or (dec_two Clash)
      (dec_or (dec_some_below (λ n. P (Unmet n)) (λ n. d (Unmet n)) (length s.constraints)) (d Asked)))))))))))
    where
      to : OfEdge EdgeOrNot ⊎ (OfCategory NameOf ⊎ (OfTwo WayOrNot ⊎ (OfCategory Dead ⊎ (P Cycle ⊎ (P Shortcut
          ⊎ (OfEdge Loose ⊎ (OfCategory Unreached ⊎ (OfTwo Clash ⊎ (OfConstraint Unmet ⊎ P Asked)))))))))
          → (l : Line) × IsAbout s l × P l
      to (inl t) = (EdgeOrNot t.0, t.1, t.2)
      to (inr (inl t)) = (NameOf t.0, t.1, t.2)
      to (inr (inr (inl t))) = (WayOrNot t.0 t.2.0, (t.1, t.2.1), t.2.2)
      to (inr (inr (inr (inl t)))) = (Dead t.0, t.1, t.2)
      to (inr (inr (inr (inr (inl t))))) = (Cycle, tt, t)
      to (inr (inr (inr (inr (inr (inl t)))))) = (Shortcut, tt, t)
      to (inr (inr (inr (inr (inr (inr (inl t))))))) = (Loose t.0, t.1, t.2)
      to (inr (inr (inr (inr (inr (inr (inr (inl t)))))))) = (Unreached t.0, t.1, t.2)
      to (inr (inr (inr (inr (inr (inr (inr (inr (inl t))))))))) = (Clash t.0 t.2.0, (t.1, t.2.1), t.2.2)
      to (inr (inr (inr (inr (inr (inr (inr (inr (inr (inl t)))))))))) = (Unmet t.0, t.1, t.2)
      to (inr (inr (inr (inr (inr (inr (inr (inr (inr (inr t)))))))))) = (Asked, tt, t)

      from : (l : Line) → IsAbout s l → P l
          → OfEdge EdgeOrNot ⊎ (OfCategory NameOf ⊎ (OfTwo WayOrNot ⊎ (OfCategory Dead ⊎ (P Cycle ⊎ (P Shortcut
          ⊎ (OfEdge Loose ⊎ (OfCategory Unreached ⊎ (OfTwo Clash ⊎ (OfConstraint Unmet ⊎ P Asked)))))))))
      from (EdgeOrNot e) a p = inl (e, a, p)
      from (NameOf c) a p = inr (inl (c, a, p))
      from (WayOrNot x y) a p = inr (inr (inl (x, a.0, (y, a.1, p))))
      from (Dead c) a p = inr (inr (inr (inl (c, a, p))))
      from Cycle a p = inr (inr (inr (inr (inl p))))
      from Shortcut a p = inr (inr (inr (inr (inr (inl p)))))
      from (Loose e) a p = inr (inr (inr (inr (inr (inr (inl (e, a, p)))))))
      from (Unreached c) a p = inr (inr (inr (inr (inr (inr (inr (inl (c, a, p))))))))
      from (Clash x y) a p = inr (inr (inr (inr (inr (inr (inr (inr (inl (x, a.0, (y, a.1, p))))))))))
      from (Unmet n) a p = inr (inr (inr (inr (inr (inr (inr (inr (inr (inl (n, a, p))))))))))
      from Asked a p = inr (inr (inr (inr (inr (inr (inr (inr (inr (inr p)))))))))

-- whether the bytes do something with what is open
pub dec_step : (f : Form) (s : Schema) (q : Formula) (k : Candidates) (bytes : List ℕ) (o : Open)
    → Dec ((new : List Open) × Steps f s q k bytes o new)
dec_step f s q k bytes Head = dec_iff
    (λ (e : head_text f ≡ bytes).
    (_, subst (λ x. Steps f s q k x Head (map Bottom (bottoms_of s.graph))) e begins))
    (λ t. sym (step_head f s q k t.1 refl).0) (List-discrete ℕ_discrete (head_text f) bytes)
dec_step f s q k bytes (Bottom b) = dec_iff
    (λ (e : bottom_text s.graph b ≡ bytes).
    (At (start s.graph b) ∷ [], subst (λ x. Steps f s q k x (Bottom b) (At (start s.graph b) ∷ [])) e roots))
    (λ t. sym (step_bottom f s q k t.1 b refl).0) (List-discrete ℕ_discrete (bottom_text s.graph b) bytes)
dec_step f s q k bytes (At p) = dec_iff
    (λ t. (
      leaves_open k p t.0,
      subst (λ x. Steps f s q k x (At p) (leaves_open k p t.0)) t.2.0
          (does_step f s q k p t.0 t.1 t.2.1),
    ))
    (λ t. let m = step_does f s q k p bytes t.0 t.1 in (m.0, m.2, (sym m.1, m.3)))
    (dec_line s (λ l. (line_text s.graph l ≡ bytes) × Does f s q k p l)
    (λ l. dec_and (List-discrete ℕ_discrete (line_text s.graph l) bytes) (dec_does f s q k p l)))
