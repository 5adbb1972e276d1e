-- What a roster has of its members: as many ids, categories and names, one of each.
--     count-is      how many members there are
--     ids-are       the members' ids
--     member-is     a member has what stands at its place
--     kept-more     an id, a category and a name more keep what a roster keeps
--     members-more  and they are a member more
use Rattle.std.proofs.Common.{◌≡◌, ◌<◌, ◌^◌, ◌∷◌, ◌++◌, ◌∙◌, ℕ, zero, suc, List, [], None, get_or, map, length, refl, ap, sym, arith}
use Rattle.std.proofs.lemmas.{Iterator.Adapters.position_from-zero, List.{length-append, length-map, map-append}}
use Rattle.std.specs.{List.position, Str.bytes_eq}
use Rattle.indexmap.specs.IndexSet.{insert_key}
use Rattle.olap_base.specs.{Instance.{Instance, member_at}, Naming.place_of, declared.ids.CatId.CatId}
use Rattle.olap_instance.{proofs.Index.id-last, specs.Members.childless}
use Rattle.olap_instance.specs.RosterInside.{IsRoster, members_from, members_of_roster}
use Rattle.olap_instance.specs.declared.rosters.Roster.TheInside.{Inside}

-- their ids are these
pub ids-members_from : (ids : List (List ℕ)) (cs : List ℕ) (names : List (List ℕ)) → length cs ≡ length ids
    → length names ≡ length ids
    → map (λ m. m.id) (members_from ids cs names) ≡ ids
ids-members_from [] cs names c n = refl
ids-members_from (id ∷ ids) [] names c n = absurd (omega arith)
ids-members_from (id ∷ ids) (k ∷ cs) [] c n = absurd (omega arith)
ids-members_from (id ∷ ids) (k ∷ cs) (name ∷ names) c n =
    ap (λ (t : List (List ℕ)). id ∷ t) (ids-members_from ids cs names (omega arith) (omega arith))

-- there are as many
pub length-members_from : (ids : List (List ℕ)) (cs : List ℕ) (names : List (List ℕ)) → length cs ≡ length ids
    → length names ≡ length ids
    → length (members_from ids cs names) ≡ length ids
length-members_from [] cs names c n = refl
length-members_from (id ∷ ids) [] names c n = absurd (omega arith)
length-members_from (id ∷ ids) (k ∷ cs) [] c n = absurd (omega arith)
length-members_from (id ∷ ids) (k ∷ cs) (name ∷ names) c n =
    ap suc (length-members_from ids cs names (omega arith) (omega arith))

-- each has what stands at its place
pub member_at-members_from : (ids : List (List ℕ)) (cs : List ℕ) (names : List (List ℕ)) (x : ℕ)
    → length cs ≡ length ids → length names ≡ length ids → x < length ids
    → member_at (members_from ids cs names) x ≡ childless (get_or ids x []) (get_or cs x 0) (get_or names x [])
member_at-members_from [] cs names x c n l = absurd (omega arith)
member_at-members_from (id ∷ ids) [] names x c n l = absurd (omega arith)
member_at-members_from (id ∷ ids) (k ∷ cs) [] x c n l = absurd (omega arith)
member_at-members_from (id ∷ ids) (k ∷ cs) (name ∷ names) zero c n l = refl
member_at-members_from (id ∷ ids) (k ∷ cs) (name ∷ names) (suc x) c n l =
    member_at-members_from ids cs names x (omega arith) (omega arith) (omega arith)

-- one more
pub members_from-push : (ids : List (List ℕ)) (cs : List ℕ) (names : List (List ℕ)) (id : List ℕ) (k : ℕ)
    (name : List ℕ)
    → length cs ≡ length ids → length names ≡ length ids
    → members_from (ids ++ id ∷ []) (cs ++ k ∷ []) (names ++ name ∷ [])
    ≡ members_from ids cs names ++ childless id k name ∷ []
members_from-push [] [] [] id k name c n = refl
members_from-push [] (a ∷ cs) names id k name c n = absurd (omega arith)
members_from-push [] [] (a ∷ names) id k name c n = absurd (omega arith)
members_from-push (i ∷ ids) [] names id k name c n = absurd (omega arith)
members_from-push (i ∷ ids) (a ∷ cs) [] id k name c n = absurd (omega arith)
members_from-push (i ∷ ids) (a ∷ cs) (m ∷ names) id k name c n =
    ap (λ (t : Instance). childless i a m ∷ t) (members_from-push ids cs names id k name (omega arith) (omega arith))

-- ---- a roster

module _ (a : Inside) (r : IsRoster a) where
  abbrev categories : List ℕ
  categories = map (λ c. c.0) a.categories.items

  many : length categories ≡ length a.ids.keys
  many = length-map a.categories.items (λ c. c.0) ∙ r.categories

  pub count-is : length (members_of_roster a) ≡ length a.ids.keys
  count-is = length-members_from a.ids.keys categories a.names many r.names

  pub ids-are : map (λ m. m.id) (members_of_roster a) ≡ a.ids.keys
  ids-are = ids-members_from a.ids.keys categories a.names many r.names

  pub member-is : (x : ℕ) → x < length (members_of_roster a)
      → member_at (members_of_roster a) x
      ≡ childless (get_or a.ids.keys x []) (get_or categories x 0) (get_or a.names x [])
  member-is x l =
      member_at-members_from a.ids.keys categories a.names x many r.names (let n = count-is in omega arith)

  -- the places of ids are those of the members
  pub place-is : (id : List ℕ) → position (bytes_eq id) a.ids.keys ≡ place_of id (map (λ m. m.id) (members_of_roster a))
  place-is id = position_from-zero (bytes_eq id) a.ids.keys ∙ ap (place_of id) (sym ids-are)

  -- an id that has no place goes last
  pub new-last : (key id : List ℕ) → key ≡ id → place_of id (map (λ m. m.id) (members_of_roster a)) ≡ None
      → insert_key bytes_eq a.ids.keys key ≡ a.ids.keys ++ key ∷ []
  new-last key id e none = id-last a.ids.keys key (rw e (rw ids-are at none))

  -- an id, a category and a name more
  module _ (b : Inside) (id : List ℕ) (c : CatId) (name : List ℕ) (ids : b.ids.keys ≡ a.ids.keys ++ id ∷ [])
      (column : b.categories.items ≡ a.categories.items ++ c ∷ []) (names : b.names ≡ a.names ++ name ∷ []) where
    pub kept-more : length (members_of_roster a) < 2 ^ 32 → IsRoster b
    kept-more l =
        let k = length-append a.ids.keys (id ∷ []) in
        let m = length-append a.categories.items (c ∷ []) in
        let n = length-append a.names (name ∷ []) in
        let e = r.categories in
        let f = r.names in
        let few = count-is in
        record {
          categories = rw (ids, column) (omega arith);
          names = rw (ids, names) (omega arith);
          few = rw ids (omega arith);
        }

    pub members-more : members_of_roster b ≡ members_of_roster a ++ childless id c.0 name ∷ []
    members-more =
        rw (ids, column, names, map-append (λ c. c.0) a.categories.items (c ∷ []))
        (members_from-push a.ids.keys categories a.names id c.0 name many r.names)
