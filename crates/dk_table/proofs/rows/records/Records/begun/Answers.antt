use Rattle.std.proofs.Common.{◌≡◌, ◌∙◌, ◌++◌, Some, ap, inr, List, ℕ}
use Rattle.std.specs.Prelude.{option_map}
use Rattle.csv.specs.Machine.{ends_at_end}
use Rattle.csv.specs.Reading.{reader_config, strip_bom}
use Rattle.csv.specs.Records.{fields_of}
use Rattle.csv.specs.declared.parser.Config.{Config}
use Rattle.dk_table.specs.Tables.Cursors.{bytes_left}
use Rattle.dk_table.specs.Tables.PlacedRows.{Placed}
use Rattle.dk_table.specs.Tables.{config_by}
use Rattle.dk_table.proofs.Moving.{all_left, all_numbered}
use Rattle.dk_table.proofs.rows.records.Records.begun.Goals as goal

pub invariant_of-result : goal.invariant_of-result
invariant_of-result c e =
    let fr = c.from_reader-reader.ensures in
    let d = c.delimiter.ensures in
    let f = c.flexible.ensures in
    let h = c.has_headers.ensures in
    let row : Placed = record { file = c.args.file; number = c.args.number; cells = fields_of c.new-2.result } in
    let bytes : List ℕ = strip_bom (c.args.front.now ++ c.args.bytes.now) in
    let left : bytes_left c.from_reader-reader.result ≡ Some bytes = fr.source ∙ ap (option_map strip_bom) c.chain.ensures.bytes in
    let is : reader_config c.from_reader-reader.result ≡ config_by c.args.separator =
    (rw (d, f, h) at fr.config) ∙ ap (λ (k : Config). record k { delimiter = c.args.separator }) c.new.ensures.config in
    record {
      going = fr.fresh;
      untrimmed = (rw (d, f, h) at fr.trim) ∙ c.new.ensures.trim;
      ready = inr (inr (rw (d, f, h) at fr.has_headers, fr.headers));
      flexible = rw (d, f) at fr.flexible;
      between = ap ends_at_end fr.state;
      numbered = all_numbered row c.from_reader-reader.result (config_by c.args.separator) bytes left fr.state is c.requires;
    }

pub returns : goal.returns
returns c =
    let fr = c.from_reader-reader.ensures in
    let d = c.delimiter.ensures in
    let f = c.flexible.ensures in
    let h = c.has_headers.ensures in
    let row : Placed = record { file = c.args.file; number = c.args.number; cells = fields_of c.new-2.result } in
    let bytes : List ℕ = strip_bom (c.args.front.now ++ c.args.bytes.now) in
    let left : bytes_left c.from_reader-reader.result ≡ Some bytes = fr.source ∙ ap (option_map strip_bom) c.chain.ensures.bytes in
    let is : reader_config c.from_reader-reader.result ≡ config_by c.args.separator =
    (rw (d, f, h) at fr.config) ∙ ap (λ (k : Config). record k { delimiter = c.args.separator }) c.new.ensures.config in
    all_left row c.from_reader-reader.result (config_by c.args.separator) bytes left fr.state is
