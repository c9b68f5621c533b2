-- The rows of the files, one after another.
use Rattle.std.proofs.Common.{◌≡◌, ◌≤◌, ◌<◌, ◌+◌, ◌∙◌, ◌∷◌, ◌++◌, [], ℕ, List, Result, Ok, Err, drop, get_or, length, refl, sym, ap}
use Rattle.std.proofs.lemmas.List.{drop_all, drop_more}
use Rattle.dk_table.specs.Columns.Judging.{Judged, judging, judging_all, judging_rows}
use Rattle.dk_table.specs.Outcomes.{Answers}
use Rattle.dk_table.specs.Tables.{◌>>=◌, bodies_in, body_in, file_rows, rows_of_all}
use Rattle.dk_table.specs.Tables.PlacedRows.{Placed}
use Rattle.dk_table.specs.declared.faults.Refusal.{Refusal}
use Rattle.dk_table.specs.declared.faults.TableFault.{TableFault}
use Rattle.dk_table.specs.declared.faults.TableFault.TheVariants.{NoMemory, Refused}
use Rattle.dk_table.specs.declared.words.command.Command.{Command}

judged_append : (j : Judged) (front rest : List Placed) → judging_all j (front ++ rest) ≡ judging_all (judging_all j front) rest
judged_append j [] rest = refl
judged_append j (row ∷ front) rest = judged_append (judging j row) front rest

-- the rows of one file, and those behind it
joined : Result (List Placed) Refusal → Result (List Placed) Refusal → Result (List Placed) Refusal
joined own more = own >>= λ front. more >>= λ rest. Ok (front ++ rest)

judged_joined : (j next : Judged) (own more : Result (List Placed) Refusal) → judging_rows j own ≡ Ok next → judging_rows j (joined own more) ≡ judging_rows next more
unfolding joined
judged_joined j next (Ok front) (Ok rest) e =
    let same : judging_all j front ≡ next = cc e in
    ap (λ (k : Judged). Ok k) (judged_append j front rest ∙ ap (λ (k : Judged). judging_all k rest) same)
judged_joined j next (Ok front) (Err refusal) e = refl
judged_joined j next (Err refusal) more e = absurd (cc e)

fault_joined : (j : Judged) (refusal : Refusal) (own more : Result (List Placed) Refusal) → judging_rows j own ≡ Err refusal → judging_rows j (joined own more) ≡ Err refusal
unfolding joined
fault_joined j refusal (Ok front) more e = absurd (cc e)
fault_joined j refusal (Err other) more e = e

module _ (c : Command) (names files : List (List ℕ)) (i : ℕ) (bytes : List ℕ) (lt : i < length files) (is : bytes ≡ get_or files i bytes) where
  more : Result (List Placed) Refusal
  more = rows_of_all c names (i + 1) (drop (i + 1) files)

  one_more : rows_of_all c names i (drop i files) ≡ joined (file_rows c names i bytes) more
  unfolding joined more
  one_more = ap (rows_of_all c names i) (drop_more files i bytes lt ∙ ap (λ (b : List ℕ). b ∷ drop (i + 1) files) (sym is))

  pub file_taken : (first j next : Judged) → judging_rows j (file_rows c names i bytes) ≡ Ok next
      → judging_rows first (rows_of_all c names 0 files) ≡ judging_rows j (rows_of_all c names i (drop i files))
      → judging_rows first (rows_of_all c names 0 files) ≡ judging_rows next (rows_of_all c names (i + 1) (drop (i + 1) files))
  unfolding more
  file_taken first j next e so_far = so_far ∙ ap (judging_rows j) one_more ∙ judged_joined j next (file_rows c names i bytes) more e

  file_refused : (first j : Judged) (refusal : Refusal) → judging_rows j (file_rows c names i bytes) ≡ Err refusal
      → judging_rows first (rows_of_all c names 0 files) ≡ judging_rows j (rows_of_all c names i (drop i files))
      → judging_rows first (rows_of_all c names 0 files) ≡ Err refusal
  file_refused first j refusal e so_far = so_far ∙ ap (judging_rows j) one_more ∙ fault_joined j refusal (file_rows c names i bytes) more e

  pub files_fail : {A B : Type 0} (own : A → Judged) (shown : B → Judged) (first j : Judged) (given : List ℕ) (fault : TableFault) → given ≡ bytes
      → Answers own (judging_rows j (file_rows c names i given)) (Err fault)
      → judging_rows first (rows_of_all c names 0 files) ≡ judging_rows j (rows_of_all c names i (drop i files))
      → Answers shown (judging_rows first (rows_of_all c names 0 files)) (Err fault)
  files_fail own shown first j given (Refused refusal) same e so_far =
      file_refused first j refusal (ap (λ (b : List ℕ). judging_rows j (file_rows c names i b)) (sym same) ∙ e) so_far
  files_fail own shown first j given NoMemory same e so_far = tt

  -- the rows of this file and of those behind it
  pub bodies_more : bodies_in c i (drop i files) ≡ body_in c i bytes ++ bodies_in c (i + 1) (drop (i + 1) files)
  bodies_more = ap (bodies_in c i) (drop_more files i bytes lt ∙ ap (λ (b : List ℕ). b ∷ drop (i + 1) files) (sym is))

pub files_taken : (c : Command) (names files : List (List ℕ)) (i : ℕ) (first j : Judged) → length files ≤ i
    → judging_rows first (rows_of_all c names 0 files) ≡ judging_rows j (rows_of_all c names i (drop i files)) → judging_rows first (rows_of_all c names 0 files) ≡ Ok j
files_taken c names files i first j past so_far = so_far ∙ ap (λ (l : List (List ℕ)). judging_rows j (rows_of_all c names i l)) (drop_all i files past)

pub bodies_none : (c : Command) (files : List (List ℕ)) (i : ℕ) → length files ≤ i → bodies_in c i (drop i files) ≡ []
bodies_none c files i past = ap (bodies_in c i) (drop_all i files past)
