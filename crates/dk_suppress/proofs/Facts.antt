-- What the table of the rules comes to, by computing it.
use Rattle.std.specs.Prelude.{refl}
use Rattle.dk_suppress.specs.Laws.{ConclusionsArePlain, PremisesAreBelow, RolesAreThere}
use Rattle.dk_suppress.specs.Rules.{rules}
use Rattle.dk_template.specs.Templates.{rows}

pub premises_below : PremisesAreBelow
unfolding rules rows
premises_below = refl

pub conclusions_plain : ConclusionsArePlain
unfolding rules rows
conclusions_plain = refl

pub roles_there : RolesAreThere
unfolding rules rows
roles_there = refl
