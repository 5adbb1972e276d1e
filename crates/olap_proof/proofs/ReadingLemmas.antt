-- A line's first word and what stands after it.
use Rattle.std.proofs.Common.{◌≡◌, ℕ, ◌<◌, ◌++◌, List, [], ◌∷◌, arith, get_or, length, true, false, cond, Option, Some, None, refl, ap, sym, ◌∙◌, Bor}
use Rattle.std.specs.{List.list_any, Option.option_map, Prelude.{Contains, IfSome, IsNone, ◌==◌, ◌≢◌}}
use Rattle.olap_base.{proofs.ListLemmas.list_any_is, specs.Graph.Graph}
use Rattle.olap_ast.specs.Schema.{Schema}
use Rattle.olap_proof.{proofs.LineLemmas.{parted, unparted}, specs.Lines.{Line, Line.EdgeOrNot, line_text, words}}
use Rattle.olap_proof.specs.Reading.{IsLineOf, IsReading, first_of, meaning, rest_of, word_at, word_text}
use Rattle.olap_proof.specs.declared.lines.Word.{Word}
use Rattle.olap_proof.specs.declared.lines.Word.TheVariants as word
use Rattle.olap_proof.specs.declared.lines.Line as program

-- a word with what stands after it
abbrev pub joined : List ℕ → Option (List ℕ) → List ℕ
joined w None = w
joined w (Some rest) = words w rest

-- a line is its first word with what stands after it
pub line_joined : (g : Graph) (l : Line) → joined (word_text (first_of l)) (rest_of g l) ≡ line_text g l
line_joined g (EdgeOrNot e) = refl
line_joined g l = refl

-- what is joined is joined of one word and one rest
pub joined_once : (w x : List ℕ) (r t : Option (List ℕ)) → (Contains w 32 → ⊥) → (Contains x 32 → ⊥)
    → joined w r ≡ joined x t → (w ≡ x) × (r ≡ t)
joined_once w x None None n m e = (e, refl)
joined_once w x None (Some t) n m e = absurd (unparted 32 w x t n (sym e))
joined_once w x (Some r) None n m e = absurd (unparted 32 x w r m e)
joined_once w x (Some r) (Some t) n m e = let p = parted 32 w r x t n m e in (p.0, ap (λ (y : List ℕ). Some y) p.1)

-- ---- first words

-- no word has a space
no_space : (w : Word) → list_any (λ b. b == 32) (word_text w) ≡ false
no_space word.Edge = refl
no_space w = refl

-- no space stands in a word
pub word_plain : (w : Word) → Contains (word_text w) 32 → ⊥
word_plain w c =
    let t = (list_any_is (λ b. b == 32) (word_text w)).1 (32, c, refl) in
    let z : true ≡ false = sym t ∙ no_space w in cc

-- the word of a first and a second byte
abbrev word_by : ℕ → ℕ → Word
word_by a b = cond (a == 101) word.Edge (cond (a == 110) word.Name (cond (a == 114) word.Reach
    (cond (a == 100) word.Dead (cond (a == 108) word.Loose (cond (a == 113) word.Question
    (cond (b == 121) word.Cycle (cond (b == 104) word.Shortcut (cond (b == 116) word.Steps word.Constraint))))))))

-- the word of a line's first two bytes
abbrev word_in : List ℕ → Word
word_in bytes = word_by (get_or bytes 0 0) (get_or bytes 1 0)

-- which tell each word
word_again : (w : Word) → word_in (word_text w) ≡ w
word_again word.Edge = refl
word_again w = refl

-- two words have different bytes
pub words_differ : (w x : Word) → word_text w ≡ word_text x → w ≡ x
words_differ w x e = sym (word_again w) ∙ ap word_in e ∙ word_again x

-- the words, as the program lists them
abbrev all : List Word
all = word.Edge ∷ word.Name ∷ word.Reach ∷ word.Dead ∷ word.Cycle ∷ word.Shortcut ∷ word.Loose ∷ word.Steps
    ∷ word.Constraint ∷ word.Question ∷ []

-- what holds of each word of the list holds of each word
pub all_words : (bytes : List ℕ) → ((k : ℕ) → k < length all → word_text (word_at all k) ≢ bytes) → (w : Word)
    → word_text w ≢ bytes
all_words bytes h word.Edge = h 0 (omega arith)
all_words bytes h word.Name = h 1 (omega arith)
all_words bytes h word.Reach = h 2 (omega arith)
all_words bytes h word.Dead = h 3 (omega arith)
all_words bytes h word.Cycle = h 4 (omega arith)
all_words bytes h word.Shortcut = h 5 (omega arith)
all_words bytes h word.Loose = h 6 (omega arith)
all_words bytes h word.Steps = h 7 (omega arith)
all_words bytes h word.Constraint = h 8 (omega arith)
all_words bytes h word.Question = h 9 (omega arith)

-- ---- lines

-- the word and the rest of a line are those that its bytes were cut into
pub line_cut : (g : Graph) (l : Line) (bytes first : List ℕ) (rest : Option (List ℕ)) → (Contains first 32 → ⊥)
    → joined first rest ≡ bytes → line_text g l ≡ bytes → (word_text (first_of l) ≡ first) × (rest_of g l ≡ rest)
line_cut g l bytes first rest n j e =
    joined_once (word_text (first_of l)) first (rest_of g l) rest (word_plain (first_of l)) n
    (line_joined g l ∙ e ∙ sym j)

-- what was cut is joined again
pub cut_joined : (bytes first : List ℕ) (rest : Option (Bor (List ℕ)))
    → IfSome rest (λ r. bytes ≡ first ++ 32 ∷ r.now) → (IsNone rest → first ≡ bytes)
    → joined first (option_map (λ r. r.now) rest) ≡ bytes
cut_joined bytes first None s n = n refl
cut_joined bytes first (Some r) s n = sym s

-- bytes whose first word is none are no line
pub word_unread : (s : Schema) (bytes first : List ℕ) (rest : Option (List ℕ)) → (Contains first 32 → ⊥)
    → joined first rest ≡ bytes → ((w : Word) → word_text w ≡ first → ⊥) → IsLineOf s bytes None
word_unread s bytes first rest n j none = λ l a e. none (first_of l) (line_cut s.graph l bytes first rest n j e).0

-- bytes are the line of their first word and what stands after it
pub line_read : (s : Schema) (bytes first : List ℕ) (rest : Option (List ℕ)) (w : Word) (r : Option program.Line)
    → (Contains first 32 → ⊥) → joined first rest ≡ bytes → word_text w ≡ first → IsReading s w rest r
    → IsLineOf s bytes r
line_read s bytes first rest w None n j e h = λ l a q.
    let p = line_cut s.graph l bytes first rest n j q in
    h l a (words_differ (first_of l) w (p.0 ∙ sym e)) p.1
line_read s bytes first rest w (Some l) n j e h = (
  h.0,
  sym (line_joined s.graph (meaning l)) ∙ ap (λ x. joined (word_text x) (rest_of s.graph (meaning l))) h.1
      ∙ ap (λ t. joined (word_text w) t) h.2 ∙ ap (λ x. joined x rest) e ∙ j,
)
