-- The limits: what an input may have at most. Each stands here once, and is cited by its name.
use Rattle.std.specs.Prelude.{ℕ, ◌^◌}

-- categories of a schema, `All` counted
abbrev pub most_categories : ℕ
most_categories = 256

-- edges of a schema
abbrev pub most_edges : ℕ
most_edges = 1024

-- constraints of a schema
abbrev pub most_constraints : ℕ
most_constraints = 1024

-- nodes of a formula, of a constraint or of a question
abbrev pub most_nodes : ℕ
most_nodes = 4096

-- nodes of the formulas of all constraints together
abbrev pub most_schema_nodes : ℕ
most_schema_nodes = 65536

-- levels of a formula, where a leaf has one; open brackets of a formula's text
abbrev pub most_depth : ℕ
most_depth = 64

-- distinct pairs of a category and a constant, in a schema and a question together
abbrev pub most_constants : ℕ
most_constants = 256

-- bytes of a category's name, of a constant, and of a member's id or name
abbrev pub most_text_bytes : ℕ
most_text_bytes = 255

-- members of an instance, `all` counted
abbrev pub most_members : ℕ
most_members = 16777215

-- facts of a file
abbrev pub most_facts : ℕ
most_facts = 4294967295

-- facts of a text that is read into a list
abbrev pub most_listed_facts : ℕ
most_listed_facts = 1048576

-- views of a store
abbrev pub most_views : ℕ
most_views = 8

-- the greatest count of a stored row
abbrev pub most_count : ℕ
most_count = 4294967295

-- the greatest magnitude of a stored row's sum
abbrev pub most_sum : ℕ
most_sum = 2 ^ 95

-- bytes of a schema's file
abbrev pub most_schema_bytes : ℕ
most_schema_bytes = 67108864

-- bytes of a certificate's file
abbrev pub most_certificate_bytes : ℕ
most_certificate_bytes = 67108864

-- bytes of an instance's file
abbrev pub most_instance_bytes : ℕ
most_instance_bytes = 4294967296

-- bytes of a file of stored views
abbrev pub most_store_bytes : ℕ
most_store_bytes = 17179869184

-- words of a command line, the command counted
abbrev pub most_words : ℕ
most_words = 64

-- frozen dimensions that are listed
abbrev pub most_frozen : ℕ
most_frozen = 4096

-- stores of an input that is made from a number
abbrev pub most_generated : ℕ
most_generated = 200000
