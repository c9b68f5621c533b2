-- The texts that tell of the words.
use Rattle.std.specs.Prelude.{ℕ, List, codes}
use Rattle.dk_merge_command_line.specs.declared.texts.TheConstants.{HELP_TEXT}

-- where the words are refused
unfoldable pub usage_line : List ℕ
usage_line = codes "usage: dk_merge [--min-samples N] [--turns N] FILE...\n"

-- where they ask for help: a constant text of the code
unfoldable pub help_text : List ℕ
help_text = HELP_TEXT.now

-- where they ask for the version
unfoldable pub version_text : List ℕ
version_text = codes "dk_merge 0.1.0\n"
