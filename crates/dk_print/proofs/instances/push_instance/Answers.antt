use Rattle.std.specs.Prelude.{OnOk}
use Rattle.std.specs.List.{flat_map}
use Rattle.std.proofs.Common.{◌≡◌, ◌++◌, ◌∙◌, ℕ, List, ap, sym, subst}
use Rattle.std.proofs.lemmas.List.Folds.{flat_map-map}
use Rattle.dk_print.specs.Parts.{Part, part_text}
use Rattle.dk_print.specs.Shown.{part_shown}
use Rattle.dk_print.specs.Texts.{row_text, var_names}
use Rattle.dk_print.proofs.instances.push_instance.Goals as goal

pub returns : goal.returns
unfolding row_text
returns c =
    let said : Part → List ℕ = part_text (var_names c.args.vars.now c.args.tuple.now) c.args.state.now in
    subst (λ (t : List ℕ). OnOk c.push_parts.result (c.push_parts.new.text ≡ c.args.text.now ++ t))
    (sym (flat_map-map said part_shown c.parts_of.result.now) ∙ ap (flat_map said) c.parts_of.ensures) c.push_parts.ensures
