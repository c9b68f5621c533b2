use Rattle.dk_ends.proofs.Ends.{ends_are_of_courses}
use Rattle.dk_ends.proofs.laws.ends_are_of_courses.Goals as goal

pub returns : goal.returns
returns c = ends_are_of_courses
