-- The texts that tell of the words.
use Rattle.std.specs.Prelude.{◌++◌, ℕ, List, codes}
use Rattle.dk_command_line.specs.declared.texts.TheConstants.{HELP_TEXT}

-- where the words are refused
unfoldable pub usage_line : List ℕ
usage_line =
    codes "usage: daikon [--min-samples N] [--every N] [--select PREFIX] [--keep-implied] [--keep-incomparable] [--keep-members] "
    ++ (codes "[--keep-constant] [--keep-parent] [--ignore-missing-entry] [--stats] [--save] [--resume NAME] "
    ++ codes "[--generate N] [FILE]...\n")

-- where they ask for help: a constant text of the code
unfoldable pub help_text : List ℕ
help_text = HELP_TEXT.now

-- where they ask for the version
unfoldable pub version_text : List ℕ
version_text = codes "daikon 0.1.0\n"
