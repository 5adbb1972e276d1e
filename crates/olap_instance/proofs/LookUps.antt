-- What is looked up in an instance, by what it keeps.
use Rattle.std.proofs.Common.{◌≡◌, ◌<◌, ◌∙◌, ℕ, List, [], Option, Some, None, length, map, get_or, sym, ap, arith}
use Rattle.std.proofs.lemmas.List.{get_or-map, length-map}
use Rattle.olap_base.specs.{Instance.{Member, member_at, parents_of}, Naming.place_of}
use Rattle.olap_instance.proofs.MembersLemmas.{ids-with_parents, length-with_parents, member_at-with_parents}
use Rattle.olap_instance.{proofs.PlaceFacts.place-within, specs.InstanceInside.{IsSound, instance_of}}
use Rattle.olap_instance.specs.{Passes.{numbers_of, parents_in}, declared.instances.Instance.TheInside.Inside}

module _ (a : Inside) (s : IsSound a) where
  abbrev rows : List (List ℕ)
  rows = parents_in a.parents

  pub length-is : length (instance_of a) ≡ length a.roster
  length-is = length-with_parents a.roster rows s.as_many

  pub in-roster : (x : ℕ) → x < length (instance_of a) → x < length a.roster
  in-roster x l = let e = length-is in omega arith

  pub in-parents : (x : ℕ) → x < length (instance_of a) → x < length a.parents
  in-parents x l = let h = in-roster x l in let e = s.as_many ∙ length-map a.parents numbers_of in omega arith

  pub member-is : (x : ℕ) → x < length (instance_of a)
      → member_at (instance_of a) x ≡ record (member_at a.roster x) { parents = get_or rows x [] }
  member-is x l = member_at-with_parents a.roster rows x s.as_many (in-roster x l)

  pub ids-are : map (λ m. m.id) (instance_of a) ≡ map (λ m. m.id) a.roster
  ids-are = ids-with_parents a.roster rows s.as_many

  -- what is found in the roster is found in the instance, and is a member
  pub found : (id : List ℕ) (p : ℕ) → place_of id (map (λ m. m.id) a.roster) ≡ Some p
      → (Some p ≡ place_of id (map (λ m. m.id) (instance_of a))) × (p < length (instance_of a))
  found id p e =
      let l = place-within id (map (λ m. m.id) a.roster) p e in
      let m = length-map a.roster (λ m. m.id) in
      let n = length-is in
      (sym e ∙ ap (place_of id) (sym ids-are), omega arith)

  pub unfound : (id : List ℕ) → place_of id (map (λ m. m.id) a.roster) ≡ None
      → ◌≡◌ {A = Option ℕ} None (place_of id (map (λ m. m.id) (instance_of a)))
  unfound id e = sym e ∙ ap (place_of id) (sym ids-are)

  -- the parents at a place
  pub parents-are : (x : ℕ) → x < length (instance_of a)
      → map (λ p. p.0) (get_or a.parents x []) ≡ parents_of (instance_of a) x
  parents-are x l =
      sym (get_or-map numbers_of a.parents x [] [] (in-parents x l))
      ∙ sym (ap (λ (m : Member). m.parents) (member-is x l))
