-- The end of files is that of their course.
use Rattle.std.proofs.Common.{refl}
use Rattle.dk_driver.specs.Walks.{walk_of}
use Rattle.dk_run.specs.Courses.{course_of}
use Rattle.dk_ends.specs.Laws.{EndsAreOfCourses}

pub ends_are_of_courses : EndsAreOfCourses
unfolding walk_of course_of
ends_are_of_courses ignores room files = refl
