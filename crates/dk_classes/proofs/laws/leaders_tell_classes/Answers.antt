use Rattle.std.proofs.Common.{sym}
use Rattle.dk_classes.proofs.Agreement.{class_from_leader, one_leader}
use Rattle.dk_classes.proofs.laws.leaders_tell_classes.Goals as goal

pub returns-clause-leader : goal.returns-clause-leader
returns-clause-leader c = λ kinds samples leaders are v l. (are.each v l).holds

pub returns-clause-classes : goal.returns-clause-classes
returns-clause-classes c = λ kinds samples leaders are v w l m. (λ e. class_from_leader kinds samples leaders are v w l m (sym e), λ class. sym (one_leader kinds samples leaders are v w l m class))
