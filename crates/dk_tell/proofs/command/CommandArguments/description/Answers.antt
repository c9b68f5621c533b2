use Rattle.std.proofs.Common.{refl}
use Rattle.dk_tell.specs.Texts.{help_text, usage_line, version_text}
use Rattle.dk_tell.proofs.command.CommandArguments.description.Goals as goal

pub returns : goal.returns
unfolding usage_line help_text version_text
returns c = refl
