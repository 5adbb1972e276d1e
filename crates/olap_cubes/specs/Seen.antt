-- The commands of the code, as the orders of the words that they hold.
--     seen         the order of a command
--     HasFiles     a command has a file of each kind for each of its dimensions
use Rattle.std.specs.Prelude.{◌≡◌, ◌<◌, ◌≤◌, ℕ, length}
use Rattle.olap_base.specs.Limits.{most_views}
use Rattle.olap_cube.specs.Limits.{most_dimensions}
use Rattle.olap_order.specs.Order.{Order}
use Rattle.olap_order.specs.Words.{texts}
use Rattle.olap_cubes.specs.Cut.{cube_of, cubeview_of}
use Rattle.olap_cubes.specs.Questions.{Question}
use Rattle.olap_cubes.specs.declared.words.Command.{Command}
use Rattle.olap_cubes.specs.declared.words.Command.TheVariants as code

-- the order of a command
abbrev pub seen : Command → Order Question
seen (code.CubeView schemas instances facts target) =
    cubeview_of (texts schemas.now) (texts instances.now) facts.now target.now
seen (code.Cube schemas target sources) = cube_of (texts schemas.now) target.now (texts sources.now)

-- a cube may have this many dimensions: one to four
abbrev pub AreDimensions : ℕ → Type 0
AreDimensions k = (0 < k) × (k ≤ most_dimensions)

-- the command has a schema for each dimension, and an instance for each if it has instances; it has no more sources
-- than a command may have
abbrev pub HasFiles : Command → Type 0
HasFiles (code.CubeView schemas instances facts target) =
    AreDimensions (length schemas.now) × (length instances.now ≡ length schemas.now)
HasFiles (code.Cube schemas target sources) = AreDimensions (length schemas.now) × (length sources.now ≤ most_views)
