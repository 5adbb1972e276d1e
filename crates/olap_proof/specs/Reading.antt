-- The lines of trees as the program has them, and what reading one answers.
--     meaning   the definitions' line
--     first_of  the word that a line begins with
--     rest_of   what stands after it
--     IsLineOf  bytes are this line, or no line at all
use Rattle.std.specs.Prelude.{◌≡◌, ◌≢◌, ℕ, suc, List, Option, Some, None, codes, slice_index_or}
use Rattle.std.specs.Fmt.{decimal}
use Rattle.olap_base.specs.Graph.{Graph}
use Rattle.olap_ast.specs.Schema.{Schema}
use Rattle.olap_graph.specs.Lookups.{name_of_category}
use Rattle.olap_proof.specs.declared.lines.Line as program
use Rattle.olap_proof.specs.declared.lines.Line.TheVariants as variant
use Rattle.olap_proof.specs.declared.lines.Word.{Word}
use Rattle.olap_proof.specs.declared.lines.Word.TheVariants as word
use Rattle.olap_proof.specs.Lines.{Line, Line.Asked, Line.Clash, Line.Cycle, Line.Dead, Line.EdgeOrNot, Line.Loose, Line.NameOf, Line.Shortcut, Line.Unmet, Line.Unreached, Line.WayOrNot, edge_words, line_text, way_words}
use Rattle.olap_proof.specs.Closing.{IsAbout}

-- the definitions' line
abbrev pub meaning : program.Line → Line
meaning (variant.Edge e) = EdgeOrNot e.0
meaning (variant.Name c) = NameOf c.0
meaning (variant.Reach a b) = WayOrNot a.0 b.0
meaning (variant.Dead c) = Dead c.0
meaning variant.Cycle = Cycle
meaning variant.Shortcut = Shortcut
meaning (variant.LooseEdge e) = Loose e.0
meaning (variant.LooseCategory c) = Unreached c.0
meaning (variant.Steps a b) = Clash a.0 b.0
meaning (variant.Constraint n) = Unmet n
meaning variant.Question = Asked

-- the bytes of a first word
abbrev pub word_text : Word → List ℕ
word_text word.Edge = codes "edge"
word_text word.Name = codes "name"
word_text word.Reach = codes "reach"
word_text word.Dead = codes "dead"
word_text word.Cycle = codes "cycle"
word_text word.Shortcut = codes "shortcut"
word_text word.Loose = codes "loose"
word_text word.Steps = codes "steps"
word_text word.Constraint = codes "constraint"
word_text word.Question = codes "question"

-- the word at a place of the list
abbrev pub word_at : List Word → ℕ → Word
word_at words k = slice_index_or words k word.Edge

-- the word that a line begins with
abbrev pub first_of : Line → Word
first_of (EdgeOrNot e) = word.Edge
first_of (NameOf c) = word.Name
first_of (WayOrNot a b) = word.Reach
first_of (Dead c) = word.Dead
first_of Cycle = word.Cycle
first_of Shortcut = word.Shortcut
first_of (Loose e) = word.Loose
first_of (Unreached c) = word.Loose
first_of (Clash a b) = word.Steps
first_of (Unmet n) = word.Constraint
first_of Asked = word.Question

-- what stands after it, if anything does
abbrev pub rest_of : Graph → Line → Option (List ℕ)
rest_of g (EdgeOrNot e) = Some (edge_words g e)
rest_of g (NameOf c) = Some (name_of_category g c)
rest_of g (WayOrNot a b) = Some (way_words g a b)
rest_of g (Dead c) = Some (name_of_category g c)
rest_of g Cycle = None
rest_of g Shortcut = None
rest_of g (Loose e) = Some (edge_words g e)
rest_of g (Unreached c) = Some (name_of_category g c)
rest_of g (Clash a b) = Some (way_words g a b)
rest_of g (Unmet n) = Some (decimal (suc n))
rest_of g Asked = None

-- a first word with what stands after it is this line, or no line at all
abbrev pub IsReading : Schema → Word → Option (List ℕ) → Option program.Line → Type 0
IsReading s w rest None = (l : Line) → IsAbout s l → first_of l ≡ w → rest_of s.graph l ≡ rest → ⊥
IsReading s w rest (Some l) = IsAbout s (meaning l) × (first_of (meaning l) ≡ w) × (rest_of s.graph (meaning l) ≡ rest)

-- the bytes are this line, or no line at all
abbrev pub IsLineOf : Schema → List ℕ → Option program.Line → Type 0
IsLineOf s bytes None = (l : Line) → IsAbout s l → line_text s.graph l ≢ bytes
IsLineOf s bytes (Some l) = IsAbout s (meaning l) × (line_text s.graph (meaning l) ≡ bytes)
