-- What holds of tokens that say something.
use Rattle.std.proofs.Common.{◌≡◌, ◌≤◌, ◌&&◌, ◌++◌, ◌∷◌, Bool, true, false, cond, ℕ, List, [], codes, length, refl, arith}
use Rattle.std.specs.Str.{bytes_eq}
use Rattle.olap_base.specs.Reaching.{is_category_name}
use Rattle.olap_grammar.specs.declared.tokens.Token.{Token}
use Rattle.olap_schema_text.specs.Statements.{Statement, Version, Category, Edge, Constraint, Other, statement_of}
use Rattle.olap_grammar.specs.declared.tokens.Token.TheVariants as token
use Rattle.olap_grammar.specs.declared.tokens.Mark.TheVariants as mark

-- the tokens of a statement
abbrev pub IsSaid : List Token → Statement → Type 0
IsSaid ts (Version v) = Unit {0}
IsSaid ts (Category name number) = is_category_name name ≡ true
IsSaid ts (Edge child parent) = Unit {0}
IsSaid ts (Constraint root us) = (w : List ℕ) × (ts ≡ token.Word w ∷ token.Word root ∷ token.Mark mark.Colon ∷ us)
IsSaid ts Other = Unit {0}

-- of two tests that are true the last
last_true : (b c : Bool) → (b && c) ≡ true → c ≡ true
last_true true c e = e
last_true false c e = absurd (cc)

-- and the first
first_true : (b c : Bool) → (b && c) ≡ true → b ≡ true
first_true true c e = refl
first_true false c e = absurd (cc)

-- what holds of both choices holds of the one that is made
either : (P : Statement → Type 0) (c : Bool) (s t : Statement) → (c ≡ true → P s) → P t → P (cond c s t)
either P true s t f h = f refl
either P false s t f h = h

-- what is said is so
pub is_said : (ts : List Token) → IsSaid ts (statement_of ts)
unfolding statement_of
is_said (token.Word w ∷ token.Word n ∷ []) =
    let P : Statement → Type 0 = IsSaid (token.Word w ∷ token.Word n ∷ []) in
    either P (bytes_eq w (codes "schema") && bytes_eq n (codes "1")) _ _ (λ e. tt)
    (either P (bytes_eq w (codes "schema") && bytes_eq n (codes "2")) _ _ (λ e. tt)
    (either P (bytes_eq w (codes "category") && is_category_name n) _ _
    (λ e. last_true (bytes_eq w (codes "category")) (is_category_name n) e) tt))
is_said (token.Word w ∷ token.Word c ∷ token.Word d ∷ []) =
    let P : Statement → Type 0 = IsSaid (token.Word w ∷ token.Word c ∷ token.Word d ∷ []) in
    either P (bytes_eq w (codes "edge") && is_category_name c && is_category_name d) _ _ (λ e. tt)
    (either P (bytes_eq w (codes "category") && is_category_name c && bytes_eq d (codes "number")) _ _
    (λ e. last_true (bytes_eq w (codes "category")) (is_category_name c)
    (first_true (bytes_eq w (codes "category") && is_category_name c) (bytes_eq d (codes "number")) e)) tt)
is_said (token.Word w ∷ token.Word r ∷ token.Mark mark.Colon ∷ ts) =
    either (IsSaid (token.Word w ∷ token.Word r ∷ token.Mark mark.Colon ∷ ts))
    (bytes_eq w (codes "constraint") && is_category_name r) _ _ (λ e. (w, refl)) tt
is_said ts = tt

-- a constraint goes on with more tokens, and nothing else does
abbrev pub longer : Statement → List Token → Statement
longer (Constraint root us) rest = Constraint root (us ++ rest)
longer s rest = Other

-- four tokens and more say what their beginning does
pub long_says : (ts rest : List Token) → 4 ≤ length ts → statement_of (ts ++ rest) ≡ longer (statement_of ts) rest
unfolding statement_of
long_says [] rest l = absurd (omega (arith, l))
long_says (t ∷ []) rest l = absurd (omega (arith, l))
long_says (t ∷ u ∷ []) rest l = absurd (omega (arith, l))
long_says (t ∷ u ∷ v ∷ []) rest l = absurd (omega (arith, l))
long_says (token.Word w ∷ token.Word r ∷ token.Mark mark.Colon ∷ x ∷ ts) rest l =
    go (bytes_eq w (codes "constraint") && is_category_name r)
  where
    go : (b : Bool)
        → cond b (Constraint r (x ∷ (ts ++ rest))) Other ≡ longer (cond b (Constraint r (x ∷ ts)) Other) rest
    go true = refl
    go false = refl
long_says ts rest l = refl
