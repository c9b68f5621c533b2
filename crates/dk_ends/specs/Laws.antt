-- The ends of files and of their courses.
use Rattle.std.specs.Prelude.{◌≡◌, ℕ, Bool, List}
use Rattle.dk_blocks.specs.History.{no_history}
use Rattle.dk_driver.specs.Files.{File}
use Rattle.dk_driver.specs.Walks.{end_of}
use Rattle.dk_run.specs.Courses.{course_of}

-- so it is for every number of bytes that may come
abbrev pub EndsAreOfCourses : Type 0
EndsAreOfCourses =
    (ignores : Bool) (room : ℕ) (files : List File)
    → end_of ignores room files ≡ (course_of (record { history = no_history; room = room }) ignores files).end
