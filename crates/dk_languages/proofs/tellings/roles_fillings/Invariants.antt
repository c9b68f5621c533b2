use Rattle.std.proofs.Common.{◌≡◌, length, take}
use Rattle.std.specs.List.{flat_map, zip}
use Rattle.dk_languages.specs.Tellings.{role_fillings, role_letters}
use Rattle.dk_languages.proofs.tellings.roles_fillings.Given as goal

abbrev pub invariant-loop-letters : goal.invariant-loop-letters
invariant-loop-letters l = l.fillings ≡ flat_map role_fillings (take (length l.yielded) (zip role_letters l.roles))
