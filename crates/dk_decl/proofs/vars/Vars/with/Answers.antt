use Rattle.std.proofs.Common.{◌∙◌, sym, ap, bytes_eq}
use Rattle.std.specs.List.{list_any}
use Rattle.dk_decl.specs.VarNames.{has_name}
use Rattle.dk_decl.proofs.NamesOfVars.{found_with}
use Rattle.dk_decl.proofs.vars.Vars.with.Goals as goal

pub invariant_of-result : goal.invariant_of-result
invariant_of-result c = λ name.
    ap (list_any (λ k. bytes_eq name k.items)) c.in_ok-insert.ensures.keys
    ∙ found_with (λ k. k.items) c.self.inside.names.keys c.in_ok-key.key c.self.inside.list c.args.var
    (c.in_ok-key.ensures.items ∙ c.as_slice.ensures) c.self.invariant name
    ∙ ap (has_name name) (sym c.in_ok-push.ensures.ok)
