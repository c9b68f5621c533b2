-- The parts that are the same on all pages: constant texts of the code.
use Rattle.std.specs.Prelude.{ℕ, List}
use Rattle.dk_page.specs.declared.parts.TheConstants.{HEAD, MIDDLE, FOOT}

-- up to the list of the points, with the style
unfoldable pub head : List ℕ
head = HEAD.now

-- between the list and the sections
unfoldable pub middle : List ℕ
middle = MIDDLE.now

-- behind the sections, with the script
unfoldable pub foot : List ℕ
foot = FOOT.now
