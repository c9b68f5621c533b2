-- What the answers of `clap` say of the given words.
use Rattle.std.proofs.Common.{◌≡◌, ◌∙◌, ◌⊎◌, ap, sym, inl, inr, List, [], Option, Some, None, Result, Ok, Err, IfOk, subst}
use Rattle.std.specs.Result.{IsErrOf}
use Rattle.clap.specs.Words.{IsAmong, Kinds, Row}
use Rattle.clap.specs.declared.error.kind.ErrorKind.{ErrorKind}
use Rattle.clap.specs.declared.error.kind.ErrorKind.TheVariants.{OutOfMemory}
use Rattle.dk_arguments.specs.Descriptions.{Command}
use Rattle.dk_arguments.specs.Requests.{Answers, AnswersFault, request_by, request_for, run_by}
use Rattle.dk_arguments.specs.declared.request.Request.{Request}
use Rattle.dk_arguments.specs.declared.fault.ArgumentsFault.{ArgumentsFault}
use Rattle.dk_arguments.specs.declared.fault.ArgumentsFault.TheVariants.{Refused, NoMemory}
use Rattle.dk_arguments.proofs.Faults.{OneAtMost, asked_by}

-- running out of memory asks for nothing
unasked : {A : Type 0} (k : ErrorKind) (request : Request A) → k ≡ OutOfMemory → request_for k ≡ Some request → ⊥
unasked {A = A} k request memory h =
    let none : request_for {A = A} OutOfMemory ≡ Some request = ap request_for (sym memory) ∙ h in cc

-- an error that has one of the kinds is answered as the words ask
pub answered : {A : Type 0} (c : Command) (meant : List Row → Option A) (k : ErrorKind) (ks : Kinds) (rows : List Row)
    (r : Result (Request A) ArgumentsFault) → OneAtMost ks → (k ≡ OutOfMemory) ⊎ IsAmong k ks → AnswersFault k r
    → Answers (request_by c meant ks rows) r
answered c meant k ks rows (Ok request) one (inl memory) h = absurd (unasked k request memory h)
answered c meant k ks rows (Ok request) one (inr among) h = asked_by c meant k ks rows one among ∙ h
answered c meant k ks rows (Err Refused) one (inl memory) h = absurd (h.1 memory)
answered c meant k ks rows (Err Refused) one (inr among) h = asked_by c meant k ks rows one among ∙ h.0
answered c meant k ks rows (Err NoMemory) one has h = tt

-- where there is no fault, what the rows mean is asked for
pub answered_run : {A : Type 0} (c : Command) (meant : List Row → Option A) (ks : Kinds) (rows own : List Row)
    (r : Result (Request A) ArgumentsFault) → ks ≡ [] → own ≡ rows → Answers (run_by c meant own) r → Answers (request_by c meant ks rows) r
answered_run {A = A} c meant ks rows own r clean same h =
    subst (λ (o : Option (Request A)). Answers o r)
    (ap (run_by c meant) same ∙ ap (λ (x : Kinds). request_by c meant x rows) (sym clean)) h

pub asked : {R : Type 0} (o : Option R) (r : Result R ArgumentsFault) → Answers o r → IfOk r (λ request. o ≡ Some request)
asked o (Ok request) h = h
asked o (Err fault) h = tt

pub refused : {R : Type 0} (o : Option R) (r : Result R ArgumentsFault) → Answers o r → IsErrOf r Refused → o ≡ None
refused o (Ok request) h is = cc
refused o (Err Refused) h is = h
refused o (Err NoMemory) h is = cc
