use Rattle.std.proofs.Common.{ap, ◌∙◌, sym, subst, List, map}
use Rattle.clap.specs.Words.{App, HasKind, Text, fault_of, is_simple as is_simple_app, is_simple_and_free, kind_of, matches_of}
use Rattle.clap.proofs.WalkLemmas.{both}
use Rattle.dk_arguments.specs.Commands.{app_of_command}
use Rattle.dk_arguments.specs.Descriptions.{described}
use Rattle.dk_arguments.proofs.Answering.{answered, answered_run}
use Rattle.dk_arguments.proofs.Faults.{one_at_most}
use Rattle.dk_arguments.proofs.reading.read_texts.Goals as goal

pub returns-in-Ok : goal.returns-in-Ok
returns-in-Ok g c =
    let of = described c.args.description.now in
    let is = c.in_ok-command.ensures in
    let free = ap is_simple_and_free is ∙ c.requires in
    let simple = (both (is_simple_app (app_of_command of)) _ c.requires).0 in
    let ts : List Text = map (λ s. s.now) c.args.texts.now in
    answered_run of g.A.Arguments.meant _ _ _ c.run_from.result
    (ap (λ (a : App). fault_of a ts) (sym is) ∙ c.in-Ok.ensures.kinds free)
    (c.new-matches.ensures ∙ (c.in-Ok.ensures.matches (ap is_simple_app is ∙ simple)).0 ∙ ap (λ (a : App). matches_of a ts) is)
    c.run_from.ensures

pub returns-in-Err : goal.returns-in-Err
returns-in-Err g c =
    let of = described c.args.description.now in
    let is = c.in_ok-command.ensures in
    let ts : List Text = map (λ s. s.now) c.args.texts.now in
    let has : HasKind (fault_of (app_of_command of) ts) c.in-Err.error =
    subst (λ (a : App). HasKind (fault_of a ts) c.in-Err.error) is (c.in-Err.ensures.kinds (ap is_simple_and_free is ∙ c.requires)) in
    answered of g.A.Arguments.meant (kind_of c.in-Err.error) _ _ _ (one_at_most of ts) has c.request_from.ensures
