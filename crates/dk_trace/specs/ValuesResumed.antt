-- The values of a record of which some lines were read.
use Rattle.std.specs.Prelude.{List, drop}
use Rattle.dk_base.specs.Reading.{Reads}
use Rattle.dk_base.specs.Values.{values_of as shown_by}
use Rattle.dk_base.specs.declared.values.Value.{Value}
use Rattle.dk_decl.specs.declared.decls.VarDecl.{VarDecl}
use Rattle.dk_trace.specs.MarksResumed.{with_mark}
use Rattle.dk_trace.specs.Values.{from_mark, from_value, record_values, then_values}
use Rattle.dk_trace.specs.declared.values.ValueLine.{ValueLine}
use Rattle.dk_trace.specs.declared.values.ValueLine.TheVariants.{AtName, AtValue, AtMark}
use Rattle.dk_trace.specs.declared.values.ValueReader.{ValueReader}

abbrev pub from_value_line : ValueLine → List VarDecl → Reads (List Value)
from_value_line AtName vs ls close = record_values vs ls close
from_value_line (AtValue k) vs ls close = from_value k (record_values vs) ls close
from_value_line (AtMark u) vs ls close = from_mark (with_mark u) (record_values vs) ls close

-- the values that were read so far, together with those of the lines that are left
unfoldable pub values_resumed : List VarDecl → ValueReader → Reads (List Value)
values_resumed vs r ls close = then_values (shown_by r.values.items) (from_value_line r.place (drop r.index vs) ls close)
