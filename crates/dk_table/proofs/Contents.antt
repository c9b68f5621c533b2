-- What was read of the files.
use Rattle.std.proofs.Common.{◌≡◌, ◌≤◌, ◌<◌, ◌+◌, ◌∙◌, ◌∷◌, ◌++◌, [], inl, inr, ℕ, zero, suc, List, length, map, min, take, refl, sym, ap, subst, arith}
use Rattle.dk_driver.specs.Files.{AreHeldFiles, file_name_at}
use Rattle.dk_driver.specs.Reads.{AtStart, Break, HasBroken, IsPlaced, Within, held_file_at}
use Rattle.dk_driver.specs.declared.fault.FilesFault.{FilesFault}
use Rattle.dk_driver.specs.declared.fault.FilesFault.TheVariants.{Refused, Start, Read, NoMemory}
use Rattle.dk_io.specs.Outside.{HeldFile, Absent, Holds}
use Rattle.dk_table.specs.Tables.Contents.{AreReadAs, FaultSays, IsUnreadAt, OwnFaultSays, ReadAs, helds_of}

-- what is told of the file at a place
pub held_named : (names : List (List ℕ)) (file : List ℕ → HeldFile) (place : ℕ) → place < length names
    → held_file_at (helds_of names file) place ≡ file (file_name_at names place)
held_named [] file place h = absurd (omega arith)
held_named (n ∷ ns) file zero h = refl
held_named (n ∷ ns) file (suc place) h = held_named ns file place (omega arith)

pub helds_length : (names : List (List ℕ)) (file : List ℕ → HeldFile) → length (helds_of names file) ≡ length names
helds_length [] file = refl
helds_length (n ∷ ns) file = ap suc (helds_length ns file)

-- one file more was read
pub read_next : (helds : List HeldFile) (contents : List (List ℕ)) (place : ℕ) (bytes : List ℕ) → place < length helds → AreReadAs (take place helds) contents
    → ReadAs (held_file_at helds place) bytes → AreReadAs (take (suc place) helds) (contents ++ bytes ∷ [])
read_next [] contents place bytes within read next = absurd (omega arith)
read_next (h ∷ hs) [] zero bytes within read next = (next, read)
read_next (h ∷ hs) (c ∷ cs) zero bytes within read next = absurd read
read_next (h ∷ hs) [] (suc place) bytes within read next = absurd read
read_next (h ∷ hs) (c ∷ cs) (suc place) bytes within read next = (read.0, read_next hs cs place bytes (omega arith) read.1 next)

pub read_more : (names : List (List ℕ)) (file : List ℕ → HeldFile) (contents next : List (List ℕ)) (place : ℕ) (name bytes : List ℕ) → place < length names
    → name ≡ file_name_at names place → AreReadAs (take place (helds_of names file)) contents → ReadAs (file name) bytes → next ≡ contents ++ bytes ∷ []
    → AreReadAs (take (place + 1) (helds_of names file)) next
read_more names file contents next place name bytes within is read own added =
    let helds : List HeldFile = helds_of names file in
    let here : ReadAs (held_file_at helds place) bytes = subst (λ (h : HeldFile). ReadAs h bytes) (ap file is ∙ sym (held_named names file place within)) own in
    let one : suc place ≡ place + 1 = omega arith in
    subst (λ (n : ℕ). AreReadAs (take n helds) next) one
    (subst (AreReadAs (take (suc place) helds)) (sym added) (read_next helds contents place bytes (omega (arith, helds_length names file)) read here))

-- a count that rose since a later moment rose since an earlier one
pub rose_since : (a b c m : ℕ) → a ≤ b → min (b + 1) m ≤ c → min (a + 1) m ≤ c
rose_since a b c m before rose = omega arith

broken_since : (by : Break) (held : HeldFile) (early late : Type 0) → (late → early) → HasBroken by held late → HasBroken by held early
broken_since AtStart held early late since (inl absent) = inl absent
broken_since AtStart held early late since (inr rose) = inr (since rose)
broken_since Within held early late since cause = (cause.0, since cause.1)

unread_at : (names : List (List ℕ)) (file : List ℕ → HeldFile) (early late : Type 0) (by : Break) (place : ℕ) (name : List ℕ) (front : List (List ℕ))
    → place < length names → name ≡ file_name_at names place → AreReadAs (take place (helds_of names file)) front → (late → early)
    → HasBroken by (file name) late → IsUnreadAt names file early by place
unread_at names file early late by place name front within is read since broken = record {
  named = within;
  cause = subst (λ (h : HeldFile). HasBroken by h early) (ap file is ∙ sym (held_named names file place within)) (broken_since by (file name) early late since broken);
  front = front;
  front_read = read;
}

-- the fault of the file at a place is that of all
pub fault_at : (names : List (List ℕ)) (file : List ℕ → HeldFile) (early late : Type 0) (place : ℕ) (name : List ℕ) (front : List (List ℕ)) (fault : FilesFault)
    → place < length names → name ≡ file_name_at names place → AreReadAs (take place (helds_of names file)) front → (late → early)
    → OwnFaultSays (file name) late place fault → FaultSays names file early fault
fault_at names file early late place name front (Refused other line why) within is read since says = absurd says
fault_at names file early late place name front (Start other) within is read since (same, broken) =
    subst (IsUnreadAt names file early AtStart) (sym same) (unread_at names file early late AtStart place name front within is read since broken)
fault_at names file early late place name front (Read other) within is read since (same, broken) =
    subst (IsUnreadAt names file early Within) (sym same) (unread_at names file early late Within place name front within is read since broken)
fault_at names file early late place name front NoMemory within is read since says = says

pub fault_placed : (names : List (List ℕ)) (file : List ℕ → HeldFile) (rose : Type 0) (fault : FilesFault) → FaultSays names file rose fault → IsPlaced (length names) fault
fault_placed names file rose (Refused place line why) says = absurd says
fault_placed names file rose (Start place) says = says.named
fault_placed names file rose (Read place) says = says.named
fault_placed names file rose NoMemory says = tt

-- ---- files that are held

-- they were read as what they hold
pub same_contents : (helds : List HeldFile) (contents held : List (List ℕ)) → AreReadAs helds contents → AreHeldFiles helds held → contents ≡ held
same_contents [] [] [] read e = refl
same_contents [] [] (c ∷ cs) read e = absurd (cc e)
same_contents [] (b ∷ bs) held read e = absurd read
same_contents (h ∷ hs) [] held read e = absurd read
same_contents (h ∷ hs) (b ∷ bs) [] read e = absurd (cc e)
same_contents (h ∷ hs) (b ∷ bs) (c ∷ cs) read e =
    let first : h ≡ Holds c = cc e in
    let rest : hs ≡ map Holds cs = cc e in
    let own : c ≡ b = subst (λ (x : HeldFile). ReadAs x b) first read.0 in
    let more : bs ≡ cs = same_contents hs bs cs read.1 rest in
    cc (own, more)

pub not_absent : (helds : List HeldFile) (held : List (List ℕ)) (place : ℕ) → place < length helds → AreHeldFiles helds held → held_file_at helds place ≡ Absent → ⊥
not_absent [] held place within e absent = absurd (omega arith)
not_absent (h ∷ hs) [] place within e absent = absurd (cc e)
not_absent (h ∷ hs) (c ∷ cs) zero within e absent = let first : h ≡ Holds c = cc e in let none : h ≡ Absent = absent in cc (first, none)
not_absent (h ∷ hs) (c ∷ cs) (suc place) within e absent = not_absent hs cs place (omega arith) (cc e) absent
