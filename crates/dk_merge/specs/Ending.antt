-- How a run ends that writes one of several outputs.
use Rattle.std.specs.Prelude.{◌≡◌, ◌⊎◌, ℕ}
use Rattle.dk_events.specs.declared.ended.Ended.{Ended}
use Rattle.dk_events.specs.declared.ended.Ended.TheVariants.{Write, NoMemory}
use Rattle.dk_io.specs.Outside.{Rose}
use Rattle.dk_io.specs.Streams.{Texts}
use Rattle.dk_program.specs.Outputs.{Output, texts_followed_by}

-- A write failed, or memory ran out, and these texts were written before.
abbrev pub EndsEarly : (Output → Type 0) → Texts → Texts → ℕ → ℕ → Ended → Type 0
EndsEarly Is old new before after result =
    (((result ≡ Write) × Rose before after) ⊎ ((result ≡ NoMemory) × (after ≡ before)))
    × ((front : Output) × Is front × (new ≡ texts_followed_by old front))

-- Such an output was written, no write failed, and the run has this status; or a write failed or memory ran out behind such a front.
abbrev pub EndsAmong : Ended → (Output → Type 0) → (Output → Type 0) → Texts → Texts → ℕ → ℕ → Ended → Type 0
EndsAmong status Is IsFront old new before after result =
    ((result ≡ status) × ((output : Output) × Is output × (new ≡ texts_followed_by old output)) × (after ≡ before))
    ⊎ EndsEarly IsFront old new before after result
