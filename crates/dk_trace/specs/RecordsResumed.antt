-- Records of which some lines were read.
use Rattle.std.specs.Prelude.{◌<◌, List, length}
use Rattle.dk_base.specs.Reading.{Reads}
use Rattle.dk_base.specs.Values.{values_of}
use Rattle.dk_points.specs.Table.{Point}
use Rattle.dk_trace.specs.BodiesResumed.{body_resumed}
use Rattle.dk_trace.specs.Records.{Sample, sample_with, var_decls_at}
use Rattle.dk_trace.specs.declared.reader.RecordReader.{RecordReader}
use Rattle.dk_trace.specs.declared.sample.BaseSample.{BaseSample}

-- the reader reads a record of a point of this table
abbrev pub IsOf : List Point → RecordReader → Type 0
IsOf ps r = r.point.0 < length ps

-- the sample of what was read so far, together with the lines that are left
unfoldable pub record_resumed : List Point → RecordReader → Reads Sample
record_resumed ps r ls close = sample_with r.point.0 r.line (body_resumed (var_decls_at ps r.point.0) r.body ls close)

abbrev pub shown : BaseSample → Sample
shown s = record { point = s.point.0; line = s.line; nonce = s.nonce; values = values_of s.values.now }
