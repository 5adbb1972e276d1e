-- What an encoder comes apart into.
--     pool_of          its clauses
--     variable_count   how many variables it has
use Rattle.std.specs.Prelude.{ℕ, length}
use Rattle.olap_pool.specs.declared.pools.Pool.{Pool}
use Rattle.olap_encoding.specs.declared.encoders.Encoder.{Encoder}

-- the clauses
abbrev pub pool_of : Encoder → Pool
pool_of a = a.pool

-- how many variables there are
abbrev pub variable_count : Encoder → ℕ
variable_count a = length a.meanings.items
