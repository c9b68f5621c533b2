use Rattle.std.proofs.Common.{ap, ◌∙◌, ◌≡◌, List, map, string_bytes, subst}
use Rattle.clap.specs.Words.{Text, fault_of, matches_of}
use Rattle.dk_arguments.specs.Commands.{app_of_command, faults_of, is_simple, named, rows_of}
use Rattle.dk_arguments.specs.Descriptions.{Command, described}
use Rattle.dk_arguments.specs.Requests.{Answers, request_by, request_of}
use Rattle.dk_arguments.proofs.Answering.{asked, refused}
use Rattle.dk_arguments.proofs.reading.read_arguments.Goals as goal

pub read_texts-requires : goal.read_texts-requires
read_texts-requires g c = ap is_simple c.description-description.ensures ∙ g.met.A.Arguments.is_defined

pub returns-clause-asked : goal.returns-clause-asked
unfolding request_of faults_of rows_of
returns-clause-asked g c =
    let is = c.description-description.ensures in
    let named_are : map (λ s. s.now) c.as_slice.result.now ≡ named (described c.description-description.result) (map string_bytes c.args.given.now) =
    ap (map (λ s. s.now)) c.as_slice.ensures.value ∙ c.in_ok-texts.ensures in
    asked _ c.read_texts.result
    (subst (λ (of : Command). Answers (request_of of g.A.Arguments.meant (map string_bytes c.args.given.now)) c.read_texts.result) is
    (subst (λ (ts : List Text). Answers (request_by (described c.description-description.result) g.A.Arguments.meant (fault_of (app_of_command (described c.description-description.result)) ts) (matches_of (app_of_command (described c.description-description.result)) ts)) c.read_texts.result) named_are
    c.read_texts.ensures))

pub returns-clause-refused : goal.returns-clause-refused
unfolding request_of faults_of rows_of
returns-clause-refused g c =
    let is = c.description-description.ensures in
    let named_are : map (λ s. s.now) c.as_slice.result.now ≡ named (described c.description-description.result) (map string_bytes c.args.given.now) =
    ap (map (λ s. s.now)) c.as_slice.ensures.value ∙ c.in_ok-texts.ensures in
    refused _ c.read_texts.result
    (subst (λ (of : Command). Answers (request_of of g.A.Arguments.meant (map string_bytes c.args.given.now)) c.read_texts.result) is
    (subst (λ (ts : List Text). Answers (request_by (described c.description-description.result) g.A.Arguments.meant (fault_of (app_of_command (described c.description-description.result)) ts) (matches_of (app_of_command (described c.description-description.result)) ts)) c.read_texts.result) named_are
    c.read_texts.ensures))
