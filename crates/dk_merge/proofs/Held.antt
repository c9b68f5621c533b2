-- Files that are held.
use Rattle.std.proofs.Common.{◌≡◌, ◌≢◌, ◌≤◌, ◌<◌, ◌+◌, ℕ, zero, suc, List, [], ◌∷◌, ◌++◌, map, take, length, inl, inr, refl, sym, ◌∙◌, ap, subst, arith}
use Rattle.std.proofs.lemmas.Bool.{cases_lt}
use Rattle.std.proofs.lemmas.List.{take-map, take_all}
use Rattle.dk_io.specs.Outside.{HeldFile, Absent, Holds}
use Rattle.dk_driver.specs.Files.{AreHeldFiles, file_name_at}
use Rattle.dk_driver.specs.Reads.{held_file_at}

-- one file more
pub record OneMore (helds : List HeldFile) (contents : List (List ℕ)) (k : ℕ) : Type 0 where
  pub front : List (List ℕ)
  pub bytes : List ℕ
  pub split : contents ≡ front ++ bytes ∷ []
  pub held : AreHeldFiles (take k helds) front
  pub there : held_file_at helds k ≡ Holds bytes

first_and_more : (n : HeldFile) (c : List ℕ) (ns : List HeldFile) (cs : List (List ℕ)) (k : ℕ) → n ≡ Holds c → OneMore ns cs k → OneMore (n ∷ ns) (c ∷ cs) (suc k)
first_and_more n c ns cs k first m = let more = m.held in
    record { front = c ∷ m.front; bytes = m.bytes; split = ap (λ (l : List (List ℕ)). c ∷ l) m.split; held = cc (first, more); there = m.there }

one_more_suc : (helds : List HeldFile) (contents : List (List ℕ)) (k : ℕ) → k < length helds → AreHeldFiles (take (suc k) helds) contents → OneMore helds contents k
one_more_suc [] contents k h held = absurd (omega arith)
one_more_suc (n ∷ ns) [] k h held = absurd (cc (held))
one_more_suc (n ∷ ns) (c ∷ []) zero h held = record { front = []; bytes = c; split = refl; held = refl; there = cc (held) }
one_more_suc (n ∷ ns) (c ∷ d ∷ cs) zero h held = absurd (cc (held))
one_more_suc (n ∷ ns) (c ∷ cs) (suc k) h held = first_and_more n c ns cs k (cc (held)) (one_more_suc ns cs k (omega arith) (cc (held)))

pub one_more : (helds : List HeldFile) (contents : List (List ℕ)) (k : ℕ) → k < length helds → AreHeldFiles (take (k + 1) helds) contents → OneMore helds contents k
one_more helds contents k h held =
    let next : k + 1 ≡ suc k = omega arith in
    one_more_suc helds contents k h (subst (λ (n : ℕ). AreHeldFiles (take n helds) contents) next held)

-- no file
pub none_held : (contents : List (List ℕ)) → [] ≡ map Holds contents → contents ≡ []
none_held [] e = refl
none_held (c ∷ cs) e = absurd (cc e)

pub there_more : (helds : List HeldFile) (place : ℕ) → ((k : ℕ) → k < place → held_file_at helds k ≢ Absent) → held_file_at helds place ≢ Absent → (k : ℕ) → k < place + 1 → held_file_at helds k ≢ Absent
there_more helds place below here k h = elim (cases_lt k place) [
  | inl l ↦ below k l
  | inr g ↦ let same : place ≡ k = omega (arith, g, h) in subst (λ (i : ℕ). held_file_at helds i ≢ Absent) same here
]

-- ---- by name and by place
pub held_map : (file : List ℕ → HeldFile) (files : List (List ℕ)) (index : ℕ) → index < length files → held_file_at (map file files) index ≡ file (file_name_at files index)
held_map file [] index h = absurd (omega arith)
held_map file (f ∷ fs) zero h = refl
held_map file (f ∷ fs) (suc index) h = held_map file fs index (omega arith)

-- ---- of files that are held
pub held_front : (k : ℕ) (helds : List HeldFile) (contents : List (List ℕ)) → AreHeldFiles helds contents → AreHeldFiles (take k helds) (take k contents)
held_front k helds contents held = ap (λ (l : List HeldFile). take k l) held ∙ take-map Holds k contents

pub held_whole : (n : ℕ) (helds : List HeldFile) (contents : List (List ℕ)) → length helds ≤ n → AreHeldFiles helds contents → AreHeldFiles (take n helds) contents
held_whole n helds contents many held = subst (λ (l : List HeldFile). AreHeldFiles l contents) (sym (take_all n helds many)) held

-- a file stands behind some and in front of others
pub record Split (helds : List HeldFile) (contents : List (List ℕ)) (k : ℕ) : Type 0 where
  pub own : List ℕ
  pub behind : List (List ℕ)
  pub all : contents ≡ take k contents ++ own ∷ behind
  pub long : length (take k contents) ≡ k
  pub there : held_file_at helds k ≡ Holds own

pub split_at : (helds : List HeldFile) (contents : List (List ℕ)) (k : ℕ) → AreHeldFiles helds contents → k < length helds → Split helds contents k
split_at [] contents k held h = absurd (omega arith)
split_at (n ∷ ns) [] k held h = absurd (cc (held))
split_at (n ∷ ns) (c ∷ cs) zero held h = record { own = c; behind = cs; all = refl; long = refl; there = cc (held) }
split_at (n ∷ ns) (c ∷ cs) (suc k) held h =
    let more = split_at ns cs k (cc (held)) (omega arith) in
    record { own = more.own; behind = more.behind; all = ap (λ (l : List (List ℕ)). c ∷ l) more.all; long = ap suc more.long; there = more.there }
