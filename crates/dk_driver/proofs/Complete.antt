-- Files that are held are read to their ends, or refused at their first fault.
use Rattle.std.proofs.Common.{◌≡◌, ◌≤◌, ◌<◌, ◌+◌, ◌-◌, inl, inr, Bool, ℕ, zero, suc, List, [], ◌∷◌, map, take, length, Option, Some, Result, Ok, Err, IfErr, refl, sym, ◌∙◌, ap, subst, arith}
use Rattle.std.proofs.lemmas.Bool.{cases_lt}
use Rattle.std.proofs.lemmas.List.{length-take, take-map, take-take, take_all}
use Rattle.dk_base.specs.declared.why.Why.{Why}
use Rattle.dk_blocks.specs.History.{History, no_history}
use Rattle.dk_io.specs.Outside.{HeldFile, Holds}
use Rattle.dk_driver.proofs.Running.{helds_length}
use Rattle.dk_driver.proofs.Trails.{trail_front}
use Rattle.dk_driver.specs.Consuming.{Told}
use Rattle.dk_driver.specs.Files.{AreHeldFiles, FaultAt, File, ended_file}
use Rattle.dk_driver.specs.Reads.{AreClean, AtStart, Break, HasBroken, HasCause, IsComplete, IsPlaced, IsRefusedAt, ReadingSays, Within, held_file_at, helds_of}
use Rattle.dk_driver.specs.Trails.{Trail}
use Rattle.dk_driver.specs.Walks.{end_of, fault_in, first_fault, walk_of}
use Rattle.dk_driver.specs.declared.fault.FilesFault.{FilesFault}
use Rattle.dk_driver.specs.declared.fault.FilesFault.TheVariants.{Refused, Start, Read, NoMemory}
use Rattle.dk_driver.specs.declared.feed.Feed.{Feed}
use Rattle.dk_driver.specs.declared.traces.Traces.{Traces}

-- ---- later files don't change a fault
-- the first fault of a front of the files is that of all of them
first_front : (ignores : Bool) (whole : ℕ) (k : ℕ) (fs : List File) (f : FaultAt) → end_of ignores whole (take k fs) ≡ Err f → end_of ignores whole fs ≡ Err f
unfolding walk_of
first_front ignores whole k fs f e = ap (λ (t : Trail FaultAt). t.end) (sym (trail_front ignores whole no_history 0 k fs f e)) ∙ e

-- ---- files that are held
pub held_take : (k : ℕ) (helds : List HeldFile) (contents : List (List ℕ)) → AreHeldFiles helds contents → AreHeldFiles (take k helds) (take k contents)
held_take k helds contents held = ap (λ (l : List HeldFile). take k l) held ∙ take-map Holds k contents

pub held_whole : (helds : List HeldFile) (contents : List (List ℕ)) (n : ℕ) → length helds ≤ n → AreHeldFiles helds contents → AreHeldFiles (take n helds) contents
held_whole helds contents n h held = subst (λ (l : List HeldFile). AreHeldFiles l contents) (sym (take_all n helds h)) held

pub held_there : (helds : List HeldFile) (contents : List (List ℕ)) (k : ℕ) → AreHeldFiles helds contents → k < length helds → (xs : List ℕ) × (held_file_at helds k ≡ Holds xs)
held_there [] contents k held h = absurd (omega arith)
held_there (n ∷ ns) [] k held h = absurd (cc (held))
held_there (n ∷ ns) (c ∷ cs) zero held h = (c, cc (held))
held_there (n ∷ ns) (c ∷ cs) (suc k) held h = held_there ns cs k (cc (held)) (omega arith)

pub front_held : (helds : List HeldFile) (n k : ℕ) → k < n → held_file_at (take n helds) k ≡ held_file_at helds k
front_held helds zero k h = absurd (omega arith)
front_held [] (suc n) k h = refl
front_held (x ∷ xs) (suc n) zero h = refl
front_held (x ∷ xs) (suc n) (suc k) h = front_held xs n k (omega arith)

module _ {C : Type 0} (Stands : C → Told → Type 0) (traces : Traces) (whole : ℕ) (file : List ℕ → HeldFile) where
  -- no file that is held is left unread where no fault of the inputs rises
  not_unread : (by : Break) (rose : Type 0) (place n : ℕ) (contents : List (List ℕ)) → (rose → ⊥) → AreHeldFiles (take n (helds_of traces file)) contents → place < n → place < length traces.names
      → HasBroken by (held_file_at (helds_of traces file) place) rose → ⊥
  not_unread Within rose place n contents calm held below named cause = calm cause.1
  not_unread AtStart rose place n contents calm held below named (inr risen) = calm risen
  not_unread AtStart rose place n contents calm held below named (inl absent) =
      let there = held_there (take n (helds_of traces file)) contents place held (omega (arith, below, named, helds_length traces file, length-take n (helds_of traces file))) in
      let same = front_held (helds_of traces file) n place below in
      cc (absent, same, there.1)

  -- of clean files there is no first fault
  not_clean : (k n : ℕ) (contents : List (List ℕ)) (f : FaultAt) → AreClean traces whole file k → AreHeldFiles (take n (helds_of traces file)) contents
      → first_fault traces.ignore_missing_entry whole (map ended_file contents) ≡ Some f → n ≤ k → ⊥
  not_clean k n contents f clean held first h = let none = clean n contents h held in cc (none, first)

  whole_held : (contents : List (List ℕ)) → AreHeldFiles (helds_of traces file) contents → AreHeldFiles (take (length traces.names) (helds_of traces file)) contents
  whole_held contents held = held_whole (helds_of traces file) contents (length traces.names) (omega (arith, helds_length traces file)) held

  -- of more files than there are the same is held
  all_of_more : (n : ℕ) (contents : List (List ℕ)) → length traces.names ≤ n → AreHeldFiles (take n (helds_of traces file)) contents
      → AreHeldFiles (take (length traces.names) (helds_of traces file)) contents
  all_of_more n contents h held =
      whole_held contents (subst (λ (l : List HeldFile). AreHeldFiles l contents) (take_all n (helds_of traces file) (omega (arith, h, helds_length traces file))) held)

  -- what is said of a refused file holds of all files that are held
  refused_in : (place line : ℕ) (why : Why) → IsRefusedAt traces whole file place line why → (n : ℕ) (contents : List (List ℕ)) → place < n → AreHeldFiles (take n (helds_of traces file)) contents
      → end_of traces.ignore_missing_entry whole (map ended_file contents) ≡ Err (record { file = place; line = line; why = why })
  refused_in place line why says n contents h held =
      let front : AreHeldFiles (take (place + 1) (helds_of traces file)) (take (place + 1) contents) =
      subst (λ (l : List HeldFile). AreHeldFiles l (take (place + 1) contents)) (take-take (place + 1) n (helds_of traces file) (omega (arith, h))) (held_take (place + 1) (take n (helds_of traces file)) contents held) in
      first_front traces.ignore_missing_entry whole (place + 1) (map ended_file contents) (record { file = place; line = line; why = why })
      (ap (end_of traces.ignore_missing_entry whole) (take-map ended_file (place + 1) contents) ∙ says.first (take (place + 1) contents) front)

  same_first : (r : Result History FaultAt) (f g : FaultAt) → r ≡ Err f → fault_in r ≡ Some g → g ≡ f
  same_first (Ok h) f g e first = absurd (cc (e))
  same_first (Err x) f g e first = cc (e, first)

  unread : (by : Break) (rose : Type 0) (place : ℕ) (fault : FilesFault) → (rose → ⊥) → place < length traces.names → AreClean traces whole file place
      → HasBroken by (held_file_at (helds_of traces file) place) rose → IsComplete {C = C} traces whole file (Err fault)
  unread by rose place fault calm named clean cause = record {
    read = λ contents held none. absurd (not_unread by rose place (length traces.names) contents calm (whole_held contents held) named named cause);
    refused = λ n contents f held first. elim (cases_lt place n) [
      | inl below ↦ absurd (not_unread by rose place n contents calm held below named cause)
      | inr above ↦ absurd (not_clean place n contents f clean held first above)
    ];
  }

  pub complete : (before rest : Option (List ℕ)) (rose : Type 0) (r : Result (Feed C) FilesFault) → ReadingSays Stands traces whole file before r rest
      → ((fault : FilesFault) → r ≡ Err fault → IsPlaced (length traces.names) fault) → ((fault : FilesFault) → r ≡ Err fault → HasCause traces file rose fault)
      → (rose → ⊥) → IsComplete traces whole file r
  complete before rest rose (Ok feed) says placed cause calm = record {
    read = λ contents held none. tt;
    refused = λ n contents f held first. elim (cases_lt n (length traces.names)) [
      | inl below ↦ not_clean (length traces.names) n contents f says.clean held first (omega (arith, below))
      | inr above ↦ not_clean (length traces.names) (length traces.names) contents f says.clean (all_of_more n contents above held) first (omega arith)
    ];
  }
  complete before rest rose (Err (Refused place line why)) says placed cause calm = record {
    read = λ contents held none.
        let fault = refused_in place line why says (length traces.names) contents (placed (Refused place line why) refl) (whole_held contents held) in
        absurd (cc (none, ap fault_in fault));
    refused = λ n contents f held first. elim (cases_lt place n) [
      | inl below ↦
          let same = same_first _ (record { file = place; line = line; why = why }) f (refused_in place line why says n contents below held) first in
          inl (ap (λ (g : FaultAt). Refused g.file g.line g.why) (sym same))
      | inr above ↦ absurd (not_clean place n contents f says.clean held first above)
    ];
  }
  complete before rest rose (Err (Start place)) says placed cause calm =
      unread AtStart rose place (Start place) calm (placed (Start place) refl) says.clean (cause (Start place) refl)
  complete before rest rose (Err (Read place)) says placed cause calm =
      unread Within rose place (Read place) calm (placed (Read place) refl) says.clean (cause (Read place) refl)
  complete before rest rose (Err NoMemory) says placed cause calm = record {
    read = λ contents held none. refl;
    refused = λ n contents f held first. inr refl;
  }

if_err : {A E : Type 0} (r : Result A E) (P : E → Type 0) → IfErr r P → (e : E) → r ≡ Err e → P e
if_err (Ok a) P h e is = absurd (cc (is))
if_err (Err x) P h e is = let same : x ≡ e = cc (is) in subst P same h

-- from the clauses of the reading
pub complete_by : {C : Type 0} (Stands : C → Told → Type 0) (traces : Traces) (whole : ℕ) (file : List ℕ → HeldFile) (before rest : Option (List ℕ)) (rose : Type 0)
    (r : Result (Feed C) FilesFault) → ReadingSays Stands traces whole file before r rest → IfErr r (IsPlaced (length traces.names)) → IfErr r (HasCause traces file rose)
    → (rose → ⊥) → IsComplete traces whole file r
complete_by Stands traces whole file before rest rose r says placed cause calm =
    complete Stands traces whole file before rest rose r says (if_err r _ placed) (if_err r _ cause) calm
