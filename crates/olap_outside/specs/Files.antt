-- Libraries: the files that one has, and what its calls do.
--     Files         for each name its content, or that it has none
--     Asks          what a library tells of the name that it was asked for
--     Opens         the file of that name is open, from its first byte
--     Takes         the next bytes were taken
--     Lacks         the name has no content
--     IsContent     these bytes are the name's content
--     IsLonger      the name's content has more bytes than that
--     content_of    the content of the first file of that name in a list
use Rattle.std.specs.Cmp.Lexicographic.{pointwise}
use Rattle.std.specs.Option.{unwrap_or}
use Rattle.std.specs.Prelude.{◌≡◌, ◌⊎◌, ℕ, ◌<◌, List, [], ◌∷◌, ◌++◌, nat_eq, slice_index_or, length, ⊤, Option, None, Some, IsSome, is_some, if◌then◌else◌}

-- for each name its content, or that it has none
abbrev pub Files : Type 0
Files = List ℕ → Option (List ℕ)

-- the name where it has a content, else nothing
abbrev pub held : Files → List ℕ → Option (List ℕ)
held files name = if is_some (files name) then Some name else None

-- what a library tells of the name that it was asked for
abbrev pub Asks : Option Files → List ℕ → Option (Option (List ℕ)) → Type 0
Asks contents name None = ⊤
Asks None name (Some who) = (who ≡ Some name) ⊎ (who ≡ None)
Asks (Some files) name (Some who) = who ≡ held files name

-- the name has a content, which is what is left to be read
abbrev pub Opens : Option Files → List ℕ → Option (List ℕ) → Type 0
Opens None name rest = ⊤
Opens (Some files) name rest = IsSome rest × (files name ≡ rest)

-- the bytes stood at the front of what was left; there are none only at the end
abbrev pub Takes : Option (List ℕ) → Option (List ℕ) → List ℕ → ℕ → Type 0
Takes None new bytes room = ⊤
Takes (Some old) None bytes room = ⊥
Takes (Some old) (Some new) bytes room = (old ≡ bytes ++ new) × (length bytes ≡ 0 → 0 < room → new ≡ [])

-- the library doesn't have the name, where it tells its contents
abbrev pub Lacks : Option Files → List ℕ → Type 0
Lacks None name = ⊤
Lacks (Some files) name = files name ≡ None

-- this is the name's content, where the library tells its contents
abbrev pub IsContent : Option Files → List ℕ → List ℕ → Type 0
IsContent None name bytes = ⊤
IsContent (Some files) name bytes = files name ≡ Some bytes

-- the name has a content of more bytes than that, where the library tells its contents
abbrev pub IsLonger : Option Files → List ℕ → ℕ → Type 0
IsLonger None name limit = ⊤
IsLonger (Some files) name limit = (bytes : List ℕ) × (files name ≡ Some bytes) × (limit < length bytes)

-- the content of the first file of that name
abbrev pub content_of : List (List ℕ × List ℕ) → Files
content_of [] name = None
content_of (file ∷ files) name = if pointwise nat_eq file.0 name then Some file.1 else content_of files name

-- the file at that place
abbrev pub file_at : List (List ℕ × List ℕ) → ℕ → List ℕ × List ℕ
file_at files i = slice_index_or files i ([], [])

-- the file at that place is the one that the name stands for
pub record IsPlace (files : List (List ℕ × List ℕ)) (name : List ℕ) (i : ℕ) : Type 0 where
  pub within : i < length files
  pub name_is : (file_at files i).0 ≡ name
  pub content_is : content_of files name ≡ Some (file_at files i).1

-- the content of the first file of that name; a name that no file has stands for no bytes
abbrev pub content_or_empty : List (List ℕ × List ℕ) → Files
content_or_empty files name = Some (unwrap_or (content_of files name) [])

-- the content of the file at that place, or no bytes if there is none
abbrev pub opened_content : List (List ℕ × List ℕ) → Option ℕ → List ℕ
opened_content files None = []
opened_content files (Some i) = (file_at files i).1
