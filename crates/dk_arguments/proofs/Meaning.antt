-- What a run that is asked for says of the words.
use Rattle.std.proofs.Common.{◌≡◌, ◌∷◌, [], Bool, true, false, List, Option, Some, None, refl}
use Rattle.std.specs.Prelude.{option_map, if◌then◌else◌}
use Rattle.clap.specs.Words.{Kinds, Row}
use Rattle.clap.specs.declared.error.kind.ErrorKind.{ErrorKind}
use Rattle.clap.specs.declared.error.kind.ErrorKind.TheVariants as kind
use Rattle.dk_arguments.specs.Commands.{faults_of, rows_of}
use Rattle.dk_arguments.specs.Descriptions.{Command}
use Rattle.dk_arguments.specs.Laws.{RunsAreMeant}
use Rattle.dk_arguments.specs.Requests.{are_among, request_by, request_for, request_of}
use Rattle.dk_arguments.specs.declared.request.Request.TheVariants.{Run}

-- no fault asks for a run
not_run : {A : Type 0} (k : ErrorKind) (a : A) → request_for k ≡ Some (Run a) → ⊥
not_run kind.DisplayHelp a e = cc
not_run kind.DisplayVersion a e = cc
not_run _ a e = cc

meant_is : {A : Type 0} (o : Option A) (a : A) → option_map (λ x. Run x) o ≡ Some (Run a) → o ≡ Some a
meant_is None a e = absurd (cc (e))
meant_is (Some x) a e = cc (e)

run_is : {A : Type 0} (among : Bool) (o : Option A) (a : A) → (if among then option_map (λ x. Run x) o else None) ≡ Some (Run a)
    → (among ≡ true) × (o ≡ Some a)
run_is true o a e = (refl, meant_is o a e)
run_is false o a e = absurd (cc (e))

by_faults : {A : Type 0} (c : Command) (meant : List Row → Option A) (ks : Kinds) (rows : List Row) (a : A)
    → request_by c meant ks rows ≡ Some (Run a) → (ks ≡ []) × (are_among c rows ≡ true) × (meant rows ≡ Some a)
by_faults c meant [] rows a e = let is = run_is (are_among c rows) (meant rows) a e in (refl, is.0, is.1)
by_faults c meant (k ∷ []) rows a e = absurd (not_run k a e)
by_faults c meant (k ∷ l ∷ ks) rows a e = absurd (cc (e))

pub runs_are_meant : {A : Type 0} (c : Command) (meant : List Row → Option A) → RunsAreMeant c meant
unfolding request_of
runs_are_meant c meant words a e =
    let is = by_faults c meant (faults_of c words) (rows_of c words) a e in
    record { none = is.0; among = is.1; is = is.2 }
