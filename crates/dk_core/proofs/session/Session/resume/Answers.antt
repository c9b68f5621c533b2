use Rattle.std.proofs.Common.{◌∙◌, sym}
use Rattle.dk_decl.specs.Headers.{is_implicit}
use Rattle.dk_core.proofs.Resuming.{loaded_as}
use Rattle.dk_core.specs.Standing.{SessionStandsFor}
use Rattle.dk_core.proofs.session.Session.resume.Goals as goal

pub returns-clause-reads : goal.returns-clause-reads
returns-clause-reads g c h from =
    let told = c.in_ok-loaded.ensures.content from.content from.meets from.text in
    c.in_ok-of_loaded.ensures.reads h from.between (told.1 ∙ sym from.table) (told.2 ∙ sym from.word)

pub returns-clause-stands : goal.returns-clause-stands
returns-clause-stands g c h start is =
    loaded_as h c.args.state.now (SessionStandsFor c.in_ok-of_loaded.field-0 h) is
    (λ file. let told = c.in_ok-loaded.ensures.stands h.grammar h.table (is_implicit h.header) h.samples start.saved file in
    c.in_ok-of_loaded.ensures.stands h (record { start = start; grammar = told.0; table = told.1; word = told.2; stand = told.3 }))
