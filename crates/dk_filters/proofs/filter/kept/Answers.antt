use Rattle.std.proofs.Common.{rules, ap, ◌∙◌}
use Rattle.std.proofs.lemmas.Fn.{filter_same}
use Rattle.dk_filters.specs.Candidates.{candidates_kept}
use Rattle.dk_filters.proofs.filter.kept.Goals as goal

-- Each call is one of `keeps`, which answers as the test does.
pub returns : goal.returns
returns g c = λ test says.
    c.from_vec.ensures ∙ filter_same _ test _ (λ x b f' k. search rules) _ _ c.retain.ensures.filtered ∙ ap (candidates_kept test) c.into_vec-candidates.ensures
