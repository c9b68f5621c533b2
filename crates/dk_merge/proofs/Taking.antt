-- Reading and taking file after file.
use Rattle.std.proofs.Common.{◌≡◌, ◌≢◌, ◌≤◌, ◌<◌, ◌+◌, ◌-◌, ℕ, suc, List, [], take, length, inl, inr, Option, Some, None, Ok, Err, refl, sym, ◌∙◌, ap, subst, arith}
use Rattle.std.proofs.lemmas.Bool.{cases_lt}
use Rattle.std.proofs.lemmas.List.{length-map}
use Rattle.std.proofs.lemmas.List.Sums.{sum_by_push}
use Rattle.dk_base.specs.declared.why.Why.{Why}
use Rattle.dk_io.specs.Outside.{DeliversUpTo, HeldFile, Absent, Holds, Rose}
use Rattle.dk_driver.specs.Files.{AreHeldFiles, file_name_at}
use Rattle.dk_driver.specs.Reads.{AtStart, Break, HasBroken, Within, held_file_at, rest_behind}
use Rattle.dk_driver.specs.declared.fault.FileFault.{FileFault}
use Rattle.dk_driver.specs.declared.fault.FileFault.TheVariants.{Refused, Start, Read, NoMemory}
use Rattle.dk_driver.proofs.Running.{rose_since}
use Rattle.dk_merge.proofs.Held.{held_map, none_held, one_more, there_more}
use Rattle.dk_merge.proofs.Merging.{holds_more, not_start, not_unread, refused_reason, taken_of, turns_kept}
use Rattle.dk_merge.specs.Gathering.{AreReadTo, HasTaken, HoldsAll, IsRefusedAt, NotTaken, TakesFile, FaultAtGives, state_of, turns_by}
use Rattle.dk_merge.specs.Merged.{AreTaken, IsNoStateOf, IsReason, IsRefusedBehind, bytes_in, whole_limit}
use Rattle.dk_merge.specs.Statuses.{helds_of}
use Rattle.dk_merge.specs.declared.gathered.Gathered.{Gathered}
use Rattle.dk_merge.specs.declared.gathered.Gathered.TheVariants.{State, Traces}
use Rattle.dk_merge.specs.declared.gathering.Gathering.{Gathering}
use Rattle.dk_merge_command_line.specs.declared.command.Command.{Command}

pub helds_length : (command : Command) (file : List ℕ → HeldFile) → length (helds_of command file) ≡ length command.files
helds_length command file = length-map command.files file

-- ---- no file
pub read_none : (command : Command) (file : List ℕ → HeldFile) (rest : Option (List ℕ)) (g : Gathering) → turns_by g.gathered ≡ command.turns → HoldsAll [] g.gathered → g.room ≡ whole_limit
    → AreReadTo command file rest rest g 0
read_none command file rest g turns nothing room = record {
  turns = turns;
  there = λ k h. absurd (omega (arith, h));
  clean = λ k contents h held.
      let first : k ≡ 0 = omega (arith, h) in
      let none = none_held contents (subst (λ (n : ℕ). AreHeldFiles (take n (helds_of command file)) contents) first held) in
      subst (AreTaken command.turns) (sym none) (taken_of command.turns [] g.gathered turns nothing (omega arith));
  holds = λ contents held.
      let none = none_held contents held in
      (subst (λ (l : List (List ℕ)). HoldsAll l g.gathered) (sym none) nothing, ap (λ (l : List (List ℕ)). bytes_in l + g.room) none ∙ omega (arith, room), refl);
}

-- ---- one file more
module _ (command : Command) (file : List ℕ → HeldFile) (before mid after : Option (List ℕ)) (g next : Gathering) (place : ℕ) (name : List ℕ) (is : name ≡ file_name_at command.files place)
    (within : place < length command.files) (read : AreReadTo command file before mid g place) where
  here : held_file_at (helds_of command file) place ≡ file name
  here = held_map file command.files place within ∙ ap file (sym is)

  holds_on : HasTaken g next (file name) after → (contents : List (List ℕ)) → AreHeldFiles (take (place + 1) (helds_of command file)) contents
      → HoldsAll contents next.gathered × (bytes_in contents + next.room ≡ whole_limit) × (after ≡ rest_behind (place + 1) before)
  holds_on taken contents held =
      let m = one_more (helds_of command file) contents place (omega (arith, within, helds_length command file)) held in
      let old = read.holds m.front m.held in
      let whole = taken.whole.all m.bytes (sym here ∙ m.there) in
      let bytes : bytes_in contents ≡ bytes_in m.front + length m.bytes = ap bytes_in m.split ∙ sum_by_push length m.front m.bytes in
      let long : length taken.text ≡ length m.bytes = ap length whole.0 in
      let step : place + 1 ≡ suc place = omega arith in (
        subst (λ (l : List (List ℕ)). HoldsAll l next.gathered) (sym m.split)
            (holds_more g.gathered next.gathered m.front m.bytes (subst (λ (t : List ℕ). TakesFile g.gathered t (Ok next.gathered)) whole.0 taken.taken) old.0),
        omega (arith, bytes, long, old.1, taken.room, taken.whole.short),
        whole.1 ∙ ap (λ (n : ℕ). rest_behind n before) (sym step),
      )

  pub read_on : HasTaken g next (file name) after → AreReadTo command file before after next (place + 1)
  read_on taken =
      let turns = turns_kept g.gathered next.gathered taken.text taken.taken ∙ read.turns in
      record {
        turns = turns;
        there = there_more (helds_of command file) place read.there (λ absent. taken.whole.there (sym here ∙ absent));
        clean = λ k contents h held. elim (cases_lt place k) [
          | inl more ↦
              let same : k ≡ place + 1 = omega (arith, more, h) in
              let now = holds_on taken contents (subst (λ (n : ℕ). AreHeldFiles (take n (helds_of command file)) contents) same held) in
              taken_of command.turns contents next.gathered turns now.0 (omega (arith, now.1))
          | inr less ↦ read.clean k contents less held
        ];
        holds = holds_on taken;
      }

  -- ---- a fault of it
  -- it is refused for what it holds, or for its length
  refused_on : (why : Why) → IsReason why → file name ≢ Absent
      → ((contents : List (List ℕ)) (own : List ℕ) → HoldsAll contents g.gathered → bytes_in contents + g.room ≡ whole_limit → file name ≡ Holds own → IsRefusedBehind command.turns contents own why)
      → IsRefusedAt command file place why
  refused_on why reason there gives = record {
    reason = reason;
    there = there_more (helds_of command file) place read.there (λ absent. there (sym here ∙ absent));
    clean = read.clean;
    first = λ contents own held holds. let old = read.holds contents held in gives contents own old.0 old.1 (sym here ∙ holds);
  }

  no_state : (turns : Option ℕ) (contents : List (List ℕ)) (own : List ℕ) (line : ℕ) (why : Why) (k : Gathered) → turns_by k ≡ turns → HoldsAll contents k → TakesFile k own (Err (Refused line why)) → IsNoStateOf turns contents own why
  no_state None contents own line why (State states) turns holds none = (state_of states, holds, none.1)
  no_state (Some n) contents own line why (State states) turns holds none = absurd (cc turns)
  no_state None contents own line why (Traces n files) turns holds none = absurd none
  no_state (Some m) contents own line why (Traces n files) turns holds none = absurd none

  unread_on : (by : Break) (b c : ℕ) → HasBroken by (file name) (Rose b c) → (a : ℕ) → a ≤ b → HasBroken by (held_file_at (helds_of command file) place) (Rose a c)
  unread_on AtStart b c (inl absent) a h = inl (here ∙ absent)
  unread_on AtStart b c (inr rose) a h = inr (rose_since a b c h rose)
  unread_on Within b c (there, rose) a h = (λ absent. there (sym here ∙ absent), rose_since a b c h rose)

  pub fault_on : (rest : Option (List ℕ)) (a b c : ℕ) (fault : FileFault) → a ≤ b → NotTaken g (file name) (Rose b c) mid rest fault → FaultAtGives command file (Rose a c) before rest place fault
  fault_on rest a b c (Refused line why) h (inl (whole, there, is, long)) = (
    whole,
    refused_on why (inl is) there (λ contents own holds room held. inl (is, let more = long own held in omega (arith, more, room, sum_by_push length contents own))),
  )
  fault_on rest a b c (Refused line why) h (inr (text, whole, none)) =
      let (at, reason) = refused_reason g.gathered text line why none in (
        at,
        refused_on why reason whole.there (λ contents own holds room held.
            let same = (whole.all own held).0 in
            let short = whole.short in
            let long : length text ≡ length own = ap length same in
            inr (
              omega (arith, short, long, room, sum_by_push length contents own),
              no_state command.turns contents own line why g.gathered read.turns holds (subst (λ (t : List ℕ). TakesFile g.gathered t (Err (Refused line why))) same none),
            )),
      )
  fault_on rest a b c Start h (inl (broken, same)) = record {
    cause = unread_on AtStart b c broken a h;
    there = read.there;
    clean = read.clean;
    left = λ contents held. same ∙ (read.holds contents held).2;
  }
  fault_on rest a b c Start h (inr (text, whole, none)) = absurd (not_start g.gathered text none)
  fault_on rest a b c Read h (inl (broken, delivers)) = record {
    cause = unread_on Within b c broken a h;
    there = read.there;
    clean = read.clean;
    left = λ contents held xs holds.
        let room = (read.holds contents held).1 in
        let same : g.room ≡ whole_limit - bytes_in contents = omega (arith, room) in
        subst (λ (n : ℕ). DeliversUpTo n (Some xs) rest) same (delivers xs (sym here ∙ holds));
  }
  fault_on rest a b c Read h (inr (text, whole, none)) = absurd (not_unread g.gathered text none)
  fault_on rest a b c NoMemory h none = tt
