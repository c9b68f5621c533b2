-- Faults come at the line that makes them: a record that is still read has none.
use Rattle.std.specs.Prelude.{List, [], None, IsOk}
use Rattle.dk_points.specs.Table.{Point}
use Rattle.dk_trace.specs.RecordsResumed.{record_resumed}
use Rattle.dk_trace.specs.declared.reader.RecordReader.{RecordReader}

abbrev pub NoFaultYet : Type 0
NoFaultYet = (ps : List Point) (r : RecordReader) → IsOk (record_resumed ps r [] None)
