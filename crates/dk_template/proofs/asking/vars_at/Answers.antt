use Rattle.std.proofs.Common.{rules, ◌≡◌, length}
use Rattle.dk_template.specs.Premises.{at_role}
use Rattle.dk_template.specs.Templates.{arity_of}
use Rattle.dk_template.proofs.Askings.{first_read}
use Rattle.dk_template.proofs.asking.vars_at.Goals as goal

pub returns : goal.returns
returns c =
    let long : length c.args.roles ≡ 3 = search rules in
    first_read (λ role. at_role role c.args.vars.now) c.args.roles long c.var_at.result c.var_at-2.result c.var_at-3.result c.var_at.ensures c.var_at-2.ensures c.var_at-3.ensures (arity_of c.args.row)
