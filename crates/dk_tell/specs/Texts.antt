-- The texts that tell of the words.
use Rattle.std.specs.Prelude.{ℕ, List, codes}
use Rattle.dk_tell.specs.declared.texts.TheConstants.{HELP_TEXT}

-- where the words are refused
unfoldable pub usage_line : List ℕ
usage_line = codes "usage: dk_tell [--format json|python|c|smtlib|html] [--ignore-missing-entry] REPORT [FILE]...\n"

-- where they ask for help: a constant text of the code
unfoldable pub help_text : List ℕ
help_text = HELP_TEXT.now

-- where they ask for the version
unfoldable pub version_text : List ℕ
version_text = codes "dk_tell 0.1.0\n"
