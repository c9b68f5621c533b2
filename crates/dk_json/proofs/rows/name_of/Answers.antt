use Rattle.std.proofs.Common.{◌∙◌, Bor, List, ℕ, [], ap, get_or, sym}
use Rattle.std.proofs.lemmas.Bool.{ltb-false, ltb-true}
use Rattle.dk_json.proofs.Reading.{shown_past, shown_there}
use Rattle.dk_json.proofs.rows.name_of.Goals as goal

abbrev shown_name : Bor (List ℕ) → List ℕ
shown_name name = name.now

pub returns-in-Some : goal.returns-in-Some
returns-in-Some c =
    shown_there shown_name c.names.result.now c.args.row.0 [] c.in-Some.name.now (ltb-true _ _ (sym c.in-Some.ensures.lookup.0)) c.in-Some.ensures.lookup.1
    ∙ ap (λ l. get_or l c.args.row.0 []) c.names.ensures

pub returns-in-None : goal.returns-in-None
returns-in-None c =
    shown_past shown_name c.names.result.now c.args.row.0 [] (ltb-false _ _ (sym c.in-None.ensures.lookup.0))
    ∙ ap (λ l. get_or l c.args.row.0 []) c.names.ensures
