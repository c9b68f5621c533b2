-- What a run begins with, as far as reading goes.
use Rattle.std.proofs.Common.{◌-◌, length, Some, None, ap, refl, subst, sym}
use Rattle.dk_core.proofs.Resuming.{spelling_has_history, start_has_table}
use Rattle.dk_core.specs.Resuming.{HasTableOfState, state_file}
use Rattle.dk_run.specs.Courses.{Outset, total_limit}
use Rattle.dk_run.specs.Laws.{StartsBeginAlike, EachStateHasAStart}

pub starts_begin_alike : StartsBeginAlike
starts_begin_alike None file start begins = begins
starts_begin_alike (Some name) file start (h, begin, holds, short, same) = (
  state_file h,
  holds,
  short,
  subst (λ (s : Outset). HasTableOfState (state_file h) s.history) (sym same) (start_has_table h begin),
  ap (λ (s : Outset). s.room) same,
)

pub each_state_has_a_start : EachStateHasAStart
each_state_has_a_start name xs file holds state =
    let (h, from) = spelling_has_history xs state.1 in
    (record { history = h; room = total_limit - length xs }, (xs, holds, state.0, from, refl))
