use Rattle.std.proofs.Common.{◌≡◌, ◌∙◌, ap, List, ℕ, rules}
use Rattle.std.specs.Prelude.{unwrap_or}
use Rattle.dk_driver.specs.Files.{file_name_at}
use Rattle.dk_table.proofs.Ended.{stops_of_file, stream_completes, stream_says}
use Rattle.dk_table.specs.Statuses.{point_of}
use Rattle.dk_table.proofs.run.run_stream.Goals as goal

pub end_stream-requires : goal.end_stream-requires
end_stream-requires g c = stops_of_file _ _ _ c.as_slice-names.result.now _ _ _ _ _ _ c.tell_stream-told.result c.tell_stream-told.ensures.goes

pub returns : goal.returns
returns g c =
    let a = c.args.arguments.now in
    let point : c.point_of.result.now ≡ point_of a =
    c.point_of.ensures ∙ ap (unwrap_or a.command.point) (c.name_at.ensures ∙ ap (λ (l : List (List ℕ)). file_name_at l 0) c.as_slice-names.ensures) in
    record {
      says = stream_says a c.args.types _ _ _ _ _ _ c.tell_stream-told.result c.end_stream.result c.requires.asked c.requires.some point c.as_slice-names.ensures c.tell_stream-told.ensures.goes c.end_stream.ensures;
      complete = stream_completes a c.args.types _ _ _ _ _ _ c.tell_stream-told.result c.end_stream.result c.requires.asked c.requires.some point c.as_slice-names.ensures c.tell_stream-told.ensures.goes c.end_stream.ensures;
      files = search rules;
    }
