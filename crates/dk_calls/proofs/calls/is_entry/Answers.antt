use Rattle.std.proofs.Common.{◌≡◌, ◌∙◌, false, Option, Some, None, ap, rules, sym}
use Rattle.std.specs.Option.{option_map_or}
use Rattle.dk_points.specs.Table.{decl_at}
use Rattle.dk_points.specs.declared.roles.Role.{Role}
use Rattle.dk_calls.specs.Records.{is_entry, is_entry_at}
use Rattle.dk_calls.proofs.Roles.{by_role}
use Rattle.dk_calls.proofs.calls.is_entry.Goals as goal

pub returns-in-None : goal.returns-in-None
unfolding is_entry_at
returns-in-None c =
    let is : c.role.result ≡ None = search rules in
    ap (λ (r : Option Role). option_map_or is_entry r false) (sym is) ∙ by_role (decl_at c.args.points.now c.args.point.0) c.role.result c.role.ensures

pub returns-in-Some : goal.returns-in-Some
unfolding is_entry_at
returns-in-Some c =
    let is : c.role.result ≡ Some c.in-Some.role = search rules in
    c.is_entry_role.ensures ∙ ap (λ (r : Option Role). option_map_or is_entry r false) (sym is) ∙ by_role (decl_at c.args.points.now c.args.point.0) c.role.result c.role.ensures
