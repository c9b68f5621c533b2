use Rattle.dk_expr.proofs.values.+push_values.Given as goal

abbrev pub decreases-push_values : goal.decreases-push_values
decreases-push_values l = l.most
