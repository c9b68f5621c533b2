-- Constant leaders, each with its value.
use Rattle.std.specs.Prelude.{List, map}
use Rattle.dk_base.specs.declared.kinds.VarId.{VarId}
use Rattle.dk_base.specs.declared.values.Value.{Value}
use Rattle.dk_constants.specs.Known.{Entries}
use Rattle.dk_snapshot.specs.declared.known.Known.{Known}

abbrev pub known_of : VarId × Value → Known
known_of entry = record { leader = entry.0; value = entry.1 }

abbrev pub all_known_of : Entries → List Known
all_known_of entries = map known_of entries
