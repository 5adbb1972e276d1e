-- No clause and no meaning changes.
use Rattle.olap_encoding.proofs.Growing.{next_same}
use Rattle.olap_encoding.proofs.encoders.Encoder.keep_rung.Goals as goal

pub returns-in-Err : goal.returns-in-Err
returns-in-Err c = record { next = next_same c.requires.sound }

pub returns-in_default : goal.returns-in_default
returns-in_default c = record { next = next_same c.requires.sound }
