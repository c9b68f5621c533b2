use Rattle.std.proofs.Common.{subst}
use Rattle.dk_state.specs.declared.loading.Loaded.{Loaded}
use Rattle.dk_merging.specs.Loading.{IsLoadOf, text_of}
use Rattle.dk_merging.proofs.merging.JoinedStates.into_loaded.Goals as goal

pub returns-clause-held : goal.returns-clause-held
returns-clause-held c = subst (λ (l : Loaded). IsLoadOf (text_of l) c.self.inside.loaded) c.self.view_is c.self.invariant.0
