use Rattle.std.specs.Prelude.{◌++◌, ◌∷◌, codes, flat_map, refl}
use Rattle.std.proofs.Common.{◌∙◌, ap, append_assoc}
use Rattle.dk_state.specs.Kept.{behind_samples, class_line, known_line, pattern_line, slot_line}
use Rattle.dk_state.proofs.KeptLines.{no_class, no_known, no_pattern}
use Rattle.dk_state.proofs.reading_kept.parts.Goals as goal

pub returns-clause-read : goal.returns-clause-read
returns-clause-read c saved rest fits is =
    let classes = flat_map class_line saved.classes in
    let patterns = flat_map pattern_line saved.patterns in
    let known = flat_map known_line saved.known in
    let slots = flat_map slot_line saved.slots in
    let ended = 101 ∷ 110 ∷ 100 ∷ 10 ∷ rest in
    let parted =
    append_assoc classes (patterns ++ (known ++ (slots ++ codes "end\n"))) rest
    ∙ ap (λ r. classes ++ r) (append_assoc patterns (known ++ (slots ++ codes "end\n")) rest
    ∙ ap (λ r. patterns ++ r) (append_assoc known (slots ++ codes "end\n") rest
    ∙ ap (λ r. known ++ r) (append_assoc slots (codes "end\n") rest))) in
    let samples = c.natural-samples.ensures.read saved.samples (10 ∷ (behind_samples saved ++ rest)) fits.samples refl is in
    let passed = c.pass.ensures.read (behind_samples saved ++ rest) samples.1 in
    let own_classes = c.in_ok-classes.ensures.read saved.classes (patterns ++ (known ++ (slots ++ ended))) fits.classes (no_class saved.patterns saved.known saved.slots rest) tt (passed ∙ parted) in
    let own_patterns = c.in_ok-patterns.ensures.read saved.patterns (known ++ (slots ++ ended)) fits.patterns (no_pattern saved.known saved.slots rest) tt own_classes.1 in
    let own_known = c.in_ok-known.ensures.read saved.known (slots ++ ended) fits.known (no_known saved.slots rest) tt own_patterns.1 in
    let own_slots = c.in_ok-slots.ensures.read saved.slots ended fits.slots refl tt own_known.1 in (
      (λ i. record { samples = samples.0 i; classes = own_classes.0 i; patterns = own_patterns.0 i; known = own_known.0 i; slots = own_slots.0 i }),
      c.pass-2.ensures.read rest own_slots.1,
    )
