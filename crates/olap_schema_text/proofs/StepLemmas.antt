-- What a line that has no fault does to what the lines above it say.
use Rattle.std.proofs.Common.{◌≡◌, ◌+◌, ℕ, Bool, true, false, cond, List, [], ◌∷◌, ◌++◌, Option, Some, None, length, refl, sym, subst}
use Rattle.std.specs.{List.list_any, Prelude.{◌==◌, ◌||◌, ◌&&◌, Result, Ok, Err, not, nat_lt, nat_le}}
use Rattle.olap_ast.specs.Formula.{Formula}
use Rattle.olap_base.specs.{Following.{given, goes_on}, Limits.{most_constraints, most_text_bytes}}
use Rattle.olap_base.specs.Reaching.{is_category_name}
use Rattle.olap_graph.specs.{Building.{category_refusal, edge_refusal, with_edge, with_kind}, Lookups.category_named}
use Rattle.olap_graph.specs.declared.refusals.{CategoryFault.CategoryFault, EdgeFault.EdgeFault}
use Rattle.olap_grammar.specs.{Cutting.has_numbers, CuttingMachine.tokens_of, Forms.Form, Nodes.nodes_of}
use Rattle.olap_grammar.specs.declared.tokens.{Token.Token, Version.{Version as TextVersion}}
use Rattle.olap_schema_text.proofs.{StatementLemmas.{IsSaid, is_said}, ValidTexts.{AreFine, drop_fine, line_is_fine}}
use Rattle.olap_schema_text.specs.Judging.{Above, category_added, category_read, constraint_read, edge_added, edge_read, form_read, formula_read, line_read, lines_on, statement_read, has_too_many_constants}
use Rattle.olap_schema_text.specs.{Lines.{chomped, is_quiet}, Parts.{tokens_read, version_at}, Resolving.resolved}
use Rattle.olap_schema_text.specs.Statements.{Statement, Statement.Version, Statement.Category, Statement.Edge, Statement.Constraint, statement_of}
use Rattle.olap_schema_text.specs.Tokens.{is_bad_number, is_long, is_long_name}
use Rattle.olap_schema.specs.Readable.{is_bad}
use Rattle.olap_grammar.specs.declared.tokens.Token.TheVariants as token
use Rattle.olap_grammar.specs.declared.tokens.Mark.TheVariants as mark

-- a category of this name, of numbers or not, is added
pub record AddsCategory (a b : Above) (n : ℕ) (name : List ℕ) (number : Bool) : Type 0 where
  pub short : nat_lt most_text_bytes (length name) ≡ false
  pub free : category_refusal a.graph name ≡ None
  pub new : b ≡ record a { graph = with_kind number a.graph name; category_lines = a.category_lines ++ n ∷ [] }

-- an edge between these categories is added
pub record AddsEdge (a b : Above) (child parent : List ℕ) (c d : ℕ) : Type 0 where
  pub child_is : category_named a.graph child ≡ Some c
  pub parent_is : category_named a.graph parent ≡ Some d
  pub free : edge_refusal a.graph c d ≡ None
  pub new : b ≡ record a { graph = with_edge a.graph c d }

-- a constraint of these tokens at this root is added
pub record AddsConstraint (a b : Above) (v : TextVersion) (name : List ℕ) (ts : List Token) (f : Formula) (root : ℕ)
    : Type 0 where
  pub form : Form
  pub formed : form_read v a.nodes ts ≡ Ok form
  pub short : list_any is_long ts ≡ false
  pub root_is : category_named a.graph name ≡ Some root
  pub below_all : root == 0 ≡ false
  pub few : nat_le most_constraints (length a.constraints) ≡ false
  pub at_root : resolved a.graph root form ≡ Ok f
  pub fine : AreFine ts
  pub few_constants : has_too_many_constants a.constraints f ≡ false
  pub new : b ≡ record a {
    constraints = a.constraints ++ record { root = root; formula = f } ∷ [];
    nodes = a.nodes + nodes_of v ts;
  }

-- the ways in which a line goes on
pub data Step (a b : Above) : Type 0 where
  quiet : b ≡ a → Step a b
  version : (v : TextVersion) → b ≡ record a { version = Some v } → Step a b
  category : (n : ℕ) (name : List ℕ) (number : Bool) → is_category_name name ≡ true → AddsCategory a b n name number
      → Step a b
  edge : (child parent : List ℕ) (c d : ℕ) → AddsEdge a b child parent c d → Step a b
  constraint : (v : TextVersion) (name : List ℕ) (ts : List Token) (f : Formula) (root : ℕ)
      → AddsConstraint a b v name ts f root → Step a b

-- a test after which there is a fault was not passed
pub passed_on : {A K : Type 0} (c : Bool) (k : K) (r : Result A K) (b : A) → cond c (Err k) r ≡ Ok b
    → (c ≡ false) × (r ≡ Ok b)
passed_on true k r b h = absurd (cc)
passed_on false k r b h = (refl, h)

-- what came of a line is one
pub ok_is : {A K : Type 0} (a b : A) → (let r : Result A K = Ok a in r) ≡ Ok b → b ≡ a
ok_is a b h = cc

-- what came of what may be there was there
pub given_ok : {A B K : Type 0} (o : Option A) (k : K) (next : A → Result B K) (r : B) → given o k next ≡ Ok r
    → (x : A) × (o ≡ Some x) × (next x ≡ Ok r)
given_ok None k next r h = absurd (cc)
given_ok (Some x) k next r h = (x, refl, h)

-- what came of a result had no fault
pub goes_on_ok : {A B K : Type 0} (o : Result A K) (next : A → Result B K) (r : B) → goes_on o next ≡ Ok r
    → (x : A) × (o ≡ Ok x) × (next x ≡ Ok r)
goes_on_ok (Ok x) next r h = (x, refl, h)
goes_on_ok (Err k) next r h = absurd (cc)

-- where not one of two is so, the second isn't
neither : (b c : Bool) → b || c ≡ false → c ≡ false
neither true c h = absurd (cc)
neither false c h = h

-- a category's line adds the category
category_step : (a b : Above) (n : ℕ) (v : TextVersion) (name : List ℕ) (number : Bool)
    → category_read a n v name number ≡ Ok b → AddsCategory a b n name number
category_step a b n v name number h = go (category_refusal a.graph name) refl t.1
  where
    t : (nat_lt most_text_bytes (length name) ≡ false)
        × (category_added a n name number (category_refusal a.graph name) ≡ Ok b)
    t = passed_on _ _ _ _ (passed_on (number && not (has_numbers v)) _ _ _ h).1

    go : (o : Option CategoryFault) → category_refusal a.graph name ≡ o → category_added a n name number o ≡ Ok b
        → AddsCategory a b n name number
    go None e k = record { short = t.0; free = e; new = ok_is _ _ k }
    go (Some r) e k = absurd (cc)

-- an edge's line adds the edge
edge_step : (a b : Above) (child parent : List ℕ) → edge_read a child parent ≡ Ok b
    → (c : ℕ) × (d : ℕ) × AddsEdge a b child parent c d
edge_step a b child parent h =
    let t = given_ok (category_named a.graph child) _ _ b (passed_on _ _ _ _ h).1 in
    let u = given_ok (category_named a.graph parent) _ _ b t.2 in
    (t.0, u.0, go t.0 u.0 t.1 u.1 (edge_refusal a.graph t.0 u.0) refl u.2)
  where
    go : (c d : ℕ) → category_named a.graph child ≡ Some c → category_named a.graph parent ≡ Some d
        → (o : Option EdgeFault)
        → edge_refusal a.graph c d ≡ o → edge_added a c d o ≡ Ok b → AddsEdge a b child parent c d
    go c d p q None e k = record { child_is = p; parent_is = q; free = e; new = ok_is _ _ k }
    go c d p q (Some r) e k = absurd (cc)

-- tokens that were read, by the checks of their form
pub record IsRead (v : TextVersion) (before : ℕ) (ts : List Token) (form : Form) : Type 0 where
  pub formed : form_read v before ts ≡ Ok form
  pub short : list_any is_long ts ≡ false

-- each is passed
pub form_is_read : (v : TextVersion) (before : ℕ) (name : List ℕ) (ts : List Token) (form : Form)
    → formula_read v before name ts ≡ Ok form → IsRead v before ts form
form_is_read v before name ts form h =
    let t = goes_on_ok (form_read v before ts) _ form h in
    let u = passed_on (is_long_name name || list_any is_long ts) _ _ form t.2 in
    let w = passed_on (list_any is_bad_number ts) _ _ form u.1 in
    record {
      formed = subst (λ x. form_read v before ts ≡ Ok x) (sym (ok_is _ _ w.1)) t.1;
      short = neither (is_long_name name) (list_any is_long ts) u.0;
    }

-- a constraint's line adds the constraint
constraint_step : (a b : Above) (v : TextVersion) (name : List ℕ) (ts : List Token) → AreFine ts
    → constraint_read a v name ts ≡ Ok b → (f : Formula) × (root : ℕ) × AddsConstraint a b v name ts f root
constraint_step a b v name ts fine h =
    let t = goes_on_ok (formula_read v a.nodes name ts) _ b h in
    let read = form_is_read v a.nodes name ts t.0 t.1 in
    let r = given_ok (category_named a.graph name) _ _ b t.2 in
    let z = passed_on (r.0 == 0) _ _ b r.2 in
    let n = passed_on (nat_le most_constraints (length a.constraints)) _ _ b z.1 in
    let u = goes_on_ok (resolved a.graph r.0 t.0) _ b n.1 in
    let p = passed_on _ _ _ b u.2 in (
      u.0,
      r.0,
      record {
        form = t.0;
        formed = read.formed;
        short = read.short;
        root_is = r.1;
        below_all = z.0;
        few = n.0;
        at_root = u.1;
        fine = fine;
        few_constants = p.0;
        new = ok_is _ _ p.1;
      },
    )

-- the tokens of a constraint's formula are tokens of the line
formula_fine : (ts : List Token) (root : List ℕ) (us : List Token) → statement_of ts ≡ Constraint root us → AreFine ts
    → AreFine us
formula_fine ts root us e fine =
    let said : IsSaid ts (Constraint root us) = subst (IsSaid ts) e (is_said ts) in
    drop_fine 3 (token.Word said.0 ∷ token.Word root ∷ token.Mark mark.Colon ∷ us) (subst AreFine said.1 fine)

-- so what tokens say adds what they name
statement_step : (a b : Above) (n : ℕ) (v : Option TextVersion) (s : Statement)
    → ((name : List ℕ) (number : Bool) → s ≡ Category name number → is_category_name name ≡ true)
    → ((root : List ℕ) (ts : List Token) → s ≡ Constraint root ts → AreFine ts)
    → statement_read a n v s ≡ Ok b → Step a b
statement_step a b n None (Version u) m fine h = version u (ok_is _ _ h)
statement_step a b n (Some v) (Category name number) m fine h =
    category n name number (m name number refl) (category_step a b n v name number h)
statement_step a b n (Some v) (Edge child parent) m fine h =
    let t = edge_step a b child parent h in edge child parent t.0 t.1 t.2
statement_step a b n (Some v) (Constraint root ts) m fine h =
    let t = constraint_step a b v root ts (fine root ts refl) h in constraint v root ts t.0 t.1 t.2
statement_step a b n v s m fine h = absurd (cc)

-- and so do the tokens of a line
tokens_step : (a b : Above) (n : ℕ) (o : Option (List Token)) → ((ts : List Token) → o ≡ Some ts → AreFine ts)
    → tokens_read a n o ≡ Ok b → Step a b
tokens_step a b n None fine h = absurd (cc)
tokens_step a b n (Some ts) fine h =
    statement_step a b n a.version (statement_of ts) (λ name number e. subst (IsSaid ts) e (is_said ts))
    (λ root us e. formula_fine ts root us e (fine ts refl)) h

-- a line without a fault goes on in one of the ways
pub stepped : (a b : Above) (n : ℕ) (line : List ℕ) → line_read a n line ≡ Ok b → Step a b
unfolding line_read
stepped a b n line h = go (is_quiet line) t.1
  where
    t : (is_bad line ≡ false)
        × (cond (is_quiet line) (Ok a) (tokens_read a n (tokens_of (version_at a) line)) ≡ Ok b)
    t = passed_on _ _ _ _ h

    go : (c : Bool) → cond c (Ok a) (tokens_read a n (tokens_of (version_at a) line)) ≡ Ok b → Step a b
    go true h = quiet (ok_is _ _ h)
    go false h =
        tokens_step a b n (tokens_of (version_at a) line) (λ ts e. line_is_fine (version_at a) line ts t.0 e) h

-- what each line keeps, all lines keep
pub all_steps : (P : Above → Type 0) → ((a b : Above) → Step a b → P a → P b)
    → (a b : Above) (n : ℕ) (lines : List (List ℕ))
    → lines_on (Ok a) n lines ≡ Ok b → P a → P b
all_steps P keeps a b n [] h p = subst P (sym (ok_is _ _ h)) p
all_steps P keeps a b n (line ∷ lines) h p =
    go (line_read a (n + 1) (chomped line)) refl h
    (λ c e k. all_steps P keeps c b (n + 1) lines k (keeps a c (stepped a c _ _ e) p))
  where
    go : (r : Result Above (List ℕ)) → line_read a (n + 1) (chomped line) ≡ r → lines_on r (n + 1) lines ≡ Ok b
        → ((c : Above) → line_read a (n + 1) (chomped line) ≡ Ok c → lines_on (Ok c) (n + 1) lines ≡ Ok b → P b) → P b
    go (Err k) e q rest = absurd (cc)
    go (Ok c) e q rest = rest c e q
