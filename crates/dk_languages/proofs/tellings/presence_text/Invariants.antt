use Rattle.std.proofs.Common.{◌≡◌, take}
use Rattle.dk_languages.specs.Tellings.{presence_text}
use Rattle.dk_languages.proofs.tellings.presence_text.Given as goal

abbrev pub invariant-loop-role : goal.invariant-loop-role
invariant-loop-role l = l.text ≡ presence_text l.language (take l.role-index l.roles)
