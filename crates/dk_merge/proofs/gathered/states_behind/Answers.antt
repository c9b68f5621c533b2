use Rattle.std.proofs.Common.{Option, subst, sym}
use Rattle.dk_state.specs.declared.loading.Loaded.{Loaded}
use Rattle.dk_merge.proofs.Merging.{first_gives, more_give}
use Rattle.dk_merge.specs.Gathering.{StatesGive}
use Rattle.dk_merge.proofs.gathered.states_behind.Goals as goal

pub returns-in-None : goal.returns-in-None
returns-in-None c =
    subst (λ (before : Option Loaded). StatesGive before c.args.file.now c.of.result) (sym c.in-None.is)
    (first_gives c.args.file.now c.of.result c.of.ensures.text c.of.ensures.spelling c.of.ensures.bad)

pub returns-in-Some : goal.returns-in-Some
returns-in-Some c =
    let told = c.with.ensures in
    subst (λ (before : Option Loaded). StatesGive before c.args.file.now c.with.result) (sym c.in-Some.is)
    (more_give c.in-Some.before c.args.file.now c.with.result told.spelling (record { says = told.answers; both = told.both }))
