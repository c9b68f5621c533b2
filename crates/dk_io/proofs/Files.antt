-- Files by name.
use Rattle.std.proofs.Common.{◌≡◌, ◌≤◌, ◌<◌, ◌+◌, ◌-◌, ℕ, zero, suc, List, [], ◌∷◌, ◌++◌, length, take, drop, get_or, cond, refl, sym, ◌∙◌, ap, arith}
use Rattle.std.proofs.lemmas.List.{take_at, take_all, drop-drop, take-append-drop}
use Rattle.std.specs.Str.{bytes_eq}
use Rattle.dk_io.specs.Outside.{Holds}
use Rattle.dk_io.specs.NamedFiles.{named_file, bytes_at}

pub bytes_at_get : (files : List (List ℕ × List ℕ)) (place : ℕ) (file : List ℕ × List ℕ) → place < length files → file ≡ get_or files place file → bytes_at files place ≡ file.1
bytes_at_get [] place file h e = absurd (omega arith)
bytes_at_get (f ∷ files) zero file h e = ap (λ (x : List ℕ × List ℕ). x.1) (sym e)
bytes_at_get (f ∷ files) (suc place) file h e = bytes_at_get files place file (omega arith) e

pub bytes_at_end : (files : List (List ℕ × List ℕ)) (place : ℕ) → length files ≤ place → bytes_at files place ≡ []
bytes_at_end [] place h = refl
bytes_at_end (f ∷ files) zero h = absurd (omega arith)
bytes_at_end (f ∷ files) (suc place) h = bytes_at_end files place (omega arith)

-- the items behind the first
abbrev pub behind : List (List ℕ × List ℕ) → List (List ℕ × List ℕ)
behind files = take (length files - 1) (drop 1 files)

behind_cons : (f : List ℕ × List ℕ) (fs : List (List ℕ × List ℕ)) → behind (f ∷ fs) ≡ fs
behind_cons f fs = take_all (length (f ∷ fs) - 1) fs (omega arith)

pub held_step : (rest : List (List ℕ × List ℕ)) (file : List ℕ × List ℕ) (name : List ℕ) → 1 ≤ length rest → file ≡ get_or rest 0 file → named_file rest name ≡ cond (bytes_eq file.0 name) (Holds file.1) (named_file (behind rest) name)
held_step [] file name h e = absurd (omega arith)
held_step (f ∷ fs) file name h e =
    ap (λ (g : List ℕ × List ℕ). cond (bytes_eq g.0 name) (Holds g.1) (named_file fs name)) (sym e)
    ∙ ap (λ (l : List (List ℕ × List ℕ)). cond (bytes_eq file.0 name) (Holds file.1) (named_file l name)) (sym (behind_cons f fs))

pub bytes_step : (rest : List (List ℕ × List ℕ)) (k : ℕ) → 1 ≤ length rest → bytes_at rest (suc k) ≡ bytes_at (behind rest) k
bytes_step [] k h = absurd (omega arith)
bytes_step (f ∷ fs) k h = ap (λ (l : List (List ℕ × List ℕ)). bytes_at l k) (sym (behind_cons f fs))

-- the bytes that a read moves stand in front of those that are left
pub moved : (bytes buf part : List ℕ) (from n : ℕ) → part ≡ take n (drop from bytes) → length part ≡ n → take n (part ++ drop n buf) ++ drop (from + n) bytes ≡ drop from bytes
moved bytes buf part from n e h =
    ap (λ (l : List ℕ). l ++ drop (from + n) bytes) (take_at part (drop n buf) n h ∙ e)
    ∙ ap (λ (l : List ℕ). take n (drop from bytes) ++ l) (sym (drop-drop n from bytes))
    ∙ take-append-drop n (drop from bytes)
