-- Texts that are written last.
use Rattle.std.proofs.Common.{◌≡◌, ℕ, List, [], ◌∷◌, inr, Option, refl, sym, ap}
use Rattle.std.specs.Io.{StartsWith}
use Rattle.std.specs.Io.KnownBytes.{append_known}
use Rattle.dk_events.specs.declared.ended.Ended.{Ended}
use Rattle.dk_events.specs.declared.ended.Ended.TheVariants.{NoMemory}
use Rattle.dk_io.specs.Streams.{Texts, with_bytes}
use Rattle.dk_io.specs.declared.outside.Stream.TheVariants.{State}
use Rattle.dk_program.proofs.Writing.{known_nothing}
use Rattle.dk_program.specs.Outputs.{IsFront, Output, texts_followed_by}
use Rattle.dk_merge.specs.Ending.{EndsAmong}
use Rattle.dk_merge.specs.Outputs.{no_output}

-- nothing was written
pub followed_nothing : (old : Texts) → old ≡ texts_followed_by old no_output
followed_nothing old =
    let r = sym (known_nothing old.report) in
    let m = sym (known_nothing old.messages) in
    let s = sym (known_nothing old.state) in
    λ i. record { report = r i; messages = m i; state = s i }

pub nothing_front : (output : Output) → IsFront no_output output
nothing_front output = record { report = refl; messages = refl; state = refl; in_order = inr refl }

pub front_of_nothing : (xs : List ℕ) → StartsWith [] xs → xs ≡ []
front_of_nothing [] e = refl
front_of_nothing (x ∷ xs) e = absurd (cc e)

-- memory ran out before anything was written
pub ends_early : (status : Ended) (Is IsFr : Output → Type 0) (old : Texts) (faults : ℕ) → IsFr no_output → EndsAmong status Is IsFr old old faults faults NoMemory
ends_early status Is IsFr old faults front = inr (inr (refl, refl), (no_output, front, followed_nothing old))

-- a state behind a report
pub followed_state : (old : Texts) (report text : List ℕ) → with_bytes (texts_followed_by old (record { report = report; messages = []; state = [] })) State text ≡ texts_followed_by old (record { report = report; messages = []; state = text })
followed_state old report text =
    ap (λ (k : Option (List ℕ)). record { report = append_known old.report report; messages = append_known old.messages []; state = append_known k text }) (known_nothing old.state)

pub only_report : (output : Output) → output.messages ≡ [] → output.state ≡ [] → output ≡ record { report = output.report; messages = []; state = [] }
only_report output m s = λ i. record { report = output.report; messages = m i; state = s i }
