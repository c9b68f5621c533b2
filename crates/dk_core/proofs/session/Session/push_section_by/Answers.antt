use Rattle.std.proofs.Common.{◌≡◌, ◌∙◌, ◌++◌, ap, rules, sym, false, true, ℕ, List}
use Rattle.dk_core.proofs.Asking.{all_written, if_ok_map, name_is, none_written, not_selected, selected}
use Rattle.dk_core.proofs.Taking.{reads_of}
use Rattle.dk_core.specs.Sections.{name_in_history}
use Rattle.dk_core.specs.Standing.{options_of}
use Rattle.dk_core.proofs.session.Session.push_section_by.Goals as goal

pub returns-then-not-select-clause-has : goal.returns-then-not-select-clause-has
returns-then-not-select-clause-has g c h stands selects says =
    let name : name_in_history h c.args.p.0 ≡ c.name.result.now = name_is c.points.result.now h c.args.p.0 c.name.result.now (c.points.ensures.table h (reads_of c.args.self.now.kept h stands)) c.name.ensures in
    let off : c.select.result ≡ false = search rules in
    sym (not_selected selects h c.args.p.0 (ap selects name ∙ sym (says c.name.result c.select.result c.select.ensures) ∙ off))

pub returns-then-not-select-clause-text : goal.returns-then-not-select-clause-text
returns-then-not-select-clause-text g c h stands selects says =
    let name : name_in_history h c.args.p.0 ≡ c.name.result.now = name_is c.points.result.now h c.args.p.0 c.name.result.now (c.points.ensures.table h (reads_of c.args.self.now.kept h stands)) c.name.ensures in
    let off : c.select.result ≡ false = search rules in
    none_written (options_of c.args.self.now) selects h c.args.p.0 c.args.text.now (ap selects name ∙ sym (says c.name.result c.select.result c.select.ensures) ∙ off)

pub returns-clause-has : goal.returns-clause-has
returns-clause-has g c h stands selects says =
    let name : name_in_history h c.args.p.0 ≡ c.name.result.now = name_is c.points.result.now h c.args.p.0 c.name.result.now (c.points.ensures.table h (reads_of c.args.self.now.kept h stands)) c.name.ensures in
    let on : c.select.result ≡ true = search rules in
    if_ok_map c.push_section_by.result _ _ (c.push_section_by.ensures.has h stands)
    (λ has is. is ∙ sym (selected selects h c.args.p.0 (ap selects name ∙ sym (says c.name.result c.select.result c.select.ensures) ∙ on)))

pub returns-clause-text : goal.returns-clause-text
returns-clause-text g c h stands selects says =
    let name : name_in_history h c.args.p.0 ≡ c.name.result.now = name_is c.points.result.now h c.args.p.0 c.name.result.now (c.points.ensures.table h (reads_of c.args.self.now.kept h stands)) c.name.ensures in
    let on : c.select.result ≡ true = search rules in
    if_ok_map c.push_section_by.result _ _ (c.push_section_by.ensures.text h stands)
    (λ has is. is ∙ ap (λ (t : List ℕ). c.args.text.now ++ t)
    (all_written (options_of c.args.self.now) selects h c.args.p.0 (ap selects name ∙ sym (says c.name.result c.select.result c.select.ensures) ∙ on)))
