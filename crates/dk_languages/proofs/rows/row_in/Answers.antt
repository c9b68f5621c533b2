use Rattle.std.proofs.Common.{◌∙◌, Bor, List, ℕ, [], ap, get_or, sym}
use Rattle.std.proofs.lemmas.Bool.{ltb-false, ltb-true}
use Rattle.dk_languages.proofs.Growing.{shown_past, shown_there}
use Rattle.dk_languages.proofs.rows.row_in.Goals as goal

abbrev shown_row : Bor (List ℕ) → List ℕ
shown_row row = row.now

pub returns-in-Some : goal.returns-in-Some
returns-in-Some c =
    shown_there shown_row c.rows_in.result.now c.args.row.0 [] c.in-Some.template.now (ltb-true _ _ (sym c.in-Some.ensures.lookup.0)) c.in-Some.ensures.lookup.1
    ∙ ap (λ l. get_or l c.args.row.0 []) c.rows_in.ensures

pub returns-in-None : goal.returns-in-None
returns-in-None c =
    shown_past shown_row c.rows_in.result.now c.args.row.0 [] (ltb-false _ _ (sym c.in-None.ensures.lookup.0))
    ∙ ap (λ l. get_or l c.args.row.0 []) c.rows_in.ensures
