use Rattle.std.proofs.Common.{◌≡◌, take}
use Rattle.dk_languages.specs.Tellings.{roles_of}
use Rattle.dk_languages.proofs.tellings.roles_of.Given as goal

abbrev pub invariant-loop-var : goal.invariant-loop-var
invariant-loop-var l = l.roles ≡ roles_of l.language l.infos l.bases (take l.var-index l.vars)
