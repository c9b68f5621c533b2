-- Histories that differ in the order of own samples alone have the same report and the same state file.
use Rattle.std.proofs.Common.{◌≡◌, ℕ, Bool, List, [], flat_map, sym, ap, ◌∙◌, if◌then◌else◌}
use Rattle.std.proofs.Math.Path.{fun_ext}
use Rattle.std.specs.List.{enumerate_from}
use Rattle.dk_decl.specs.Headers.{is_implicit}
use Rattle.dk_points.specs.Table.{Point}
use Rattle.dk_template.specs.declared.grammar.Grammar.{Grammar}
use Rattle.dk_report.specs.Reports.{name_in_table, section_of as section_in}
use Rattle.dk_report.specs.declared.options.Options.{Options}
use Rattle.dk_state.proofs.SameTexts.{order_of_samples}
use Rattle.dk_state.specs.StateFile.{state_file_of}
use Rattle.dk_blocks.specs.History.{History}
use Rattle.dk_core.specs.Resuming.{state_file}
use Rattle.dk_core.specs.Sections.{report_of, section_of}
use Rattle.dk_recorders.specs.Laws.{AreAlike, OrderOfOwnSamplesDoesNotMatter}
use Rattle.dk_recorders.proofs.Sections.{section_alike}

-- the sections of a table in order, each by its place
abbrev sections : (List ℕ → Bool) → List Point → (ℕ → List ℕ) → List ℕ
sections selects ps section = flat_map (λ e. if selects (name_in_table ps e.0) then section e.0 else []) (enumerate_from 0 ps)

report_alike : (options : Options) (selects : List ℕ → Bool) (h others : History) → AreAlike h others → report_of options selects others ≡ report_of options selects h
unfolding report_of section_of
report_alike options selects h others alike =
    ap (λ (g : Grammar). sections selects others.table (section_in g options others.table others.samples)) alike.grammar
    ∙ ap (λ (ps : List Point). sections selects ps (section_in h.grammar options ps others.samples)) alike.table
    ∙ sym (ap (sections selects h.table) (fun_ext (λ p. section_alike h.table h.samples others.samples alike.samples h.grammar options p)))

state_alike : (h others : History) → AreAlike h others → state_file others ≡ state_file h
unfolding state_file
state_alike h others alike =
    ap (λ (g : Grammar). state_file_of g others.table (is_implicit others.header) others.samples) alike.grammar
    ∙ ap (λ (ps : List Point). state_file_of h.grammar ps (is_implicit others.header) others.samples) alike.table
    ∙ ap (λ (implicit : Bool). state_file_of h.grammar h.table implicit others.samples) alike.word
    ∙ sym (order_of_samples h.grammar h.table (is_implicit h.header) h.samples others.samples alike.samples)

pub order_of_own_samples : OrderOfOwnSamplesDoesNotMatter
order_of_own_samples h others alike = record {
  report = λ options selects. report_alike options selects h others alike;
  state = state_alike h others alike;
}
