use Rattle.std.proofs.Common.{◌≡◌, ◌∙◌, ℕ, List, None, Some, ap, sym, true}
use Rattle.std.specs.Prelude.{if◌then◌else◌}
use Rattle.dk_languages.specs.Tellings.{guarded, is_telling, roles_of, row_text}
use Rattle.dk_languages.specs.declared.speaking.Spoken.{Spoken}
use Rattle.dk_languages.proofs.tellings.telling.Goals as goal

pub returns : goal.returns
returns c =
    let language = c.args.language in
    let state = c.args.state.now in
    let roles : List Spoken = roles_of language c.args.infos.now c.args.bases.now c.args.vars.now in
    let text : List ℕ = row_text language c.args.row roles state in
    let text_is : c.in_ok-text.text ≡ text =
    c.in_ok-text.ensures ∙ ap (λ (rs : List Spoken). row_text language c.args.row rs state) (c.as_slice.ensures ∙ c.in_ok-roles.ensures) in
    let all_is : c.in_ok-guarded.field-0 ≡ guarded language roles text =
    c.in_ok-guarded.ensures
    ∙ ap (λ (rs : List Spoken). guarded language rs c.in_ok-text.text) (c.as_slice-2.ensures ∙ c.in_ok-roles.ensures)
    ∙ ap (guarded language roles) text_is in
    let is : is_telling language c.args.infos.now c.args.bases.now c.args.row c.args.vars.now state ≡ true =
    sym c.is_telling.ensures ∙ c.if-not-is_telling.false in
    ap Some all_is ∙ sym (ap (λ b. if b then Some (guarded language roles text) else None) is)
