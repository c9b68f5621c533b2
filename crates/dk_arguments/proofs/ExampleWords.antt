-- What words ask of the command of the examples, computed from the definitions.
use Rattle.std.proofs.Common.{◌≡◌, ◌∷◌, [], Some, None, codes, refl}
use Rattle.clap.proofs.OnLiterals.{clap_on_literals}
use Rattle.clap.specs.declared.error.kind.ErrorKind.TheVariants as kind
use Rattle.dk_base.specs.Numbers.{natural_of}
use Rattle.dk_arguments.specs.Commands.{faults_of, rows_of}
use Rattle.dk_arguments.specs.Examples.{example}
use Rattle.dk_arguments.specs.Given.{number_at, texts_at}
use Rattle.dk_arguments.specs.Requests.{request_of}
use Rattle.dk_arguments.specs.declared.request.Request.TheVariants.{Run, Help}

-- options may stand between files, and a number may have a plus and zeros in front
files : texts_at (codes "file") (rows_of example (codes "a" ∷ codes "t" ∷ codes "--every" ∷ codes "+020" ∷ codes "u" ∷ codes "t" ∷ [])) ≡ codes "t" ∷ codes "u" ∷ codes "t" ∷ []
unfolding rows_of clap_on_literals
files = refl

number : number_at (codes "every") (rows_of example (codes "a" ∷ codes "t" ∷ codes "--every" ∷ codes "+020" ∷ [])) ≡ Some 20
unfolding rows_of clap_on_literals natural_of
number = refl

-- an option's word that is none of those that it takes is no fault of `clap`'s
not_among : request_of example (λ rows. Some (texts_at (codes "file") rows)) (codes "a" ∷ codes "t" ∷ codes "--format" ∷ codes "xml" ∷ []) ≡ None
unfolding request_of faults_of rows_of clap_on_literals
not_among = refl

among : request_of example (λ rows. Some (texts_at (codes "file") rows)) (codes "a" ∷ codes "t" ∷ codes "--format=json" ∷ []) ≡ Some (Run (codes "t" ∷ []))
unfolding request_of faults_of rows_of clap_on_literals
among = refl

help : request_of example (λ rows. Some (texts_at (codes "file") rows)) (codes "-h" ∷ []) ≡ Some Help
unfolding request_of faults_of rows_of clap_on_literals
help = refl

out_of_bounds : faults_of example (codes "a" ∷ codes "t" ∷ codes "--every=1001" ∷ []) ≡ kind.ValueValidation ∷ []
unfolding faults_of clap_on_literals
out_of_bounds = refl

twice : faults_of example (codes "a" ∷ codes "t" ∷ codes "--stats" ∷ codes "--stats" ∷ []) ≡ kind.ArgumentConflict ∷ []
unfolding faults_of clap_on_literals
twice = refl

no_file : faults_of example (codes "a" ∷ []) ≡ kind.MissingRequiredArgument ∷ []
unfolding faults_of clap_on_literals
no_file = refl
